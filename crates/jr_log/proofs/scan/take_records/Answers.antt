use Rattle.std.proofs.Common.{◌≡◌, ◌≤◌, ◌+◌, ℕ, List, ◌∷◌, true, length, drop, sym, ◌∙◌, ap, subst, arith}
use Rattle.std.proofs.lemmas.Bool.Decides.{nat_tests}
use Rattle.std.proofs.lemmas.List.{drop_at}
use Rattle.jr_record.specs.Records.{spelled}
use Rattle.jr_log.specs.Opening.{IsFront, Takes}
use Rattle.jr_log.proofs.Scans.{takes_more, damaged_stays}
use Rattle.jr_log.proofs.scan.take_records.Goals as goal
use Rattle.jr_log.proofs.scan.take_records.Goals.{then-not-more, else-not-more+then-rest-ge-LONGEST}

pub returns-in-Damaged-clause-stops : goal.returns-in-Damaged-clause-stops
returns-in-Damaged-clause-stops c =
    let long : c.args.more ≡ true → 16402 ≤ length c.taking.rest.now = λ on. elim c.if-not-more.branch [
      | then-not-more w ↦ grind (arith, nat_tests)
      | else-not-more+then-rest-ge-LONGEST w ↦ w.if-rest-ge-LONGEST.true
    ] in
    damaged_stays c.record_bounds.ensures c.taking.rest.now c.args.more long (subst (IsFront c.taking.rest.now) c.in-Damaged.is c.in_ok-read_front.ensures.exact)

pub taking-preserved : goal.taking-preserved
taking-preserved c =
    let found = subst (IsFront c.taking.rest.now) c.in-Found.is c.in_ok-read_front.ensures.exact in
    let back : c.split_at.result.1.now ≡ found.1 =
    c.split_at.ensures.back ∙ ap (λ (n : ℕ). drop n c.taking.rest.now) c.record_size.ensures.size
    ∙ ap (λ (xs : List ℕ). drop (1 + length (spelled c.in-Found.r)) xs) found.2 ∙ drop_at (1 ∷ spelled c.in-Found.r) found.1 (1 + length (spelled c.in-Found.r)) (omega arith) in
    let taken = takes_more c.args.held.now c.args.records.now.items c.taking.records.items c.push.new.self.items c.taking.rest.now found.1 c.in-Found.r found.0 found.2 c.in_ok-push-in-Found.ensures.items c.taking.invariant in
    subst (Takes c.args.held.now c.args.records.now.items c.push.new.self.items) (sym back) taken
