use Rattle.std.proofs.Common.{◌≡◌, ◌<◌, ◌^◌, inl, inr, sym, ◌∙◌, subst, arith}
use Rattle.jr_log.specs.declared.clearing.Seen.{Seen}
use Rattle.jr_log.specs.Fresh.{IsSeen}
use Rattle.jr_log.proofs.migrating.prepare.Goals as goal

pub returns-in-Used-clause-stale : goal.returns-in-Used-clause-stale
returns-in-Used-clause-stale g c = λ _ content has. subst (λ (s : Seen). IsSeen s content) c.in-Used.is (c.in-Ok-look.ensures.seen content (c.sync.ensures.content ∙ has))

pub returns-then-bytes-gt-MOST-clause-full : goal.returns-then-bytes-gt-MOST-clause-full
returns-then-bytes-gt-MOST-clause-full g c = λ e b is.
    let first : c.args.entries ≡ e = cc in
    let second : c.args.bytes ≡ b = cc in
    let past : 2 ^ 33 < c.args.bytes = omega (arith, c.if-bytes-gt-MOST.true) in
    (sym first, sym second, past, λ content has. inr (subst (λ (s : Seen). IsSeen s content) c.in-Cleared.is (c.in-Ok-look.ensures.seen content (c.sync.ensures.content ∙ has))))

pub returns-then-bytes-gt-MOST-2-clause-full : goal.returns-then-bytes-gt-MOST-2-clause-full
returns-then-bytes-gt-MOST-2-clause-full g c = λ e b is.
    let first : c.args.entries ≡ e = cc in
    let second : c.args.bytes ≡ b = cc in
    let past : 2 ^ 33 < c.args.bytes = omega (arith, c.if-bytes-gt-MOST-2.true) in
    (sym first, sym second, past, λ content has. inl (subst (λ (s : Seen). IsSeen s content) c.in-Short.is (c.in-Ok-look.ensures.seen content (c.sync.ensures.content ∙ has))))

pub clear-requires-clause-short : goal.clear-requires-clause-short
clear-requires-clause-short g c = λ content has. subst (λ (s : Seen). IsSeen s content) c.in-Short.is (c.in-Ok-look.ensures.seen content (sym c.look.ensures.content ∙ has))

pub returns-else-bytes-gt-MOST-clause-cleared : goal.returns-else-bytes-gt-MOST-clause-cleared
returns-else-bytes-gt-MOST-clause-cleared g c = λ image left.
    subst (λ (s : Seen). IsSeen s image) c.in-Cleared.is (c.in-Ok-look.ensures.seen image (c.sync.ensures.content ∙ c.in-Ok.ensures.settled image ((c.look.ensures.images image).0 left)))

pub returns-else-bytes-gt-MOST-clause-fresh : goal.returns-else-bytes-gt-MOST-clause-fresh
returns-else-bytes-gt-MOST-clause-fresh g c = λ content has. inr (subst (λ (s : Seen). IsSeen s content) c.in-Cleared.is (c.in-Ok-look.ensures.seen content (c.sync.ensures.content ∙ has)))

pub returns-in-Ok-clear-clause-fresh : goal.returns-in-Ok-clear-clause-fresh
returns-in-Ok-clear-clause-fresh g c = λ content has. inl (subst (λ (s : Seen). IsSeen s content) c.in-Short.is (c.in-Ok-look.ensures.seen content (c.sync.ensures.content ∙ has)))

pub returns-in-Ok-clear-clause-used : goal.returns-in-Ok-clear-clause-used
returns-in-Ok-clear-clause-used g c = λ content has used.
    absurd (omega (arith, used.long, subst (λ (s : Seen). IsSeen s content) c.in-Short.is (c.in-Ok-look.ensures.seen content (c.sync.ensures.content ∙ has))))

pub returns-in-Ok-clear-clause-used_images : goal.returns-in-Ok-clear-clause-used_images
returns-in-Ok-clear-clause-used_images g c = λ content has used.
    absurd (omega (arith, used.long, subst (λ (s : Seen). IsSeen s content) c.in-Short.is (c.in-Ok-look.ensures.seen content (c.sync.ensures.content ∙ has))))

pub returns-in-Err-clause-used : goal.returns-in-Err-clause-used
returns-in-Err-clause-used g c = λ content has used.
    absurd (omega (arith, used.long, subst (λ (s : Seen). IsSeen s content) c.in-Short.is (c.in-Ok-look.ensures.seen content (c.sync.ensures.content ∙ has))))

pub returns-in-Err-clause-used_images : goal.returns-in-Err-clause-used_images
returns-in-Err-clause-used_images g c = λ content has used.
    absurd (omega (arith, used.long, subst (λ (s : Seen). IsSeen s content) c.in-Short.is (c.in-Ok-look.ensures.seen content (c.sync.ensures.content ∙ has))))
