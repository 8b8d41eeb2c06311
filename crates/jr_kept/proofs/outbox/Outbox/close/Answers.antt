use Rattle.std.proofs.Common.{◌≡◌, [], refl, sym, ◌∙◌, arith}
use Rattle.jr_record.specs.declared.record.Record.TheVariants as kinds
use Rattle.session_model.specs.Journal.{finish}
use Rattle.jr_boxes.specs.Outboxes.{with_mark}
use Rattle.jr_boxes.proofs.Answering.{on_refused}
use Rattle.jr_boxes.specs.declared.faults.CloseFault.TheVariants as closing
use Rattle.jr_kept.proofs.Held.{close_failed, held_mark, held_refused, held_same, some_on}
use Rattle.jr_kept.proofs.outbox.Outbox.close.Goals as goal

pub invariant_of-self : goal.invariant_of-self
invariant_of-self g c =
    let old = c.args.self.now in
    let new = c.append.new.self in
    record {
      limited = c.in-Ok.ensures.limits ∙ old.limited;
      within = record { all = omega (arith, old.within.all, c.in-Ok.ensures.grown.0); each = λ i. omega (arith, old.within.each i, c.in-Ok.ensures.grown.0) };
      held = λ sound. some_on g.J.Journal.stands g.J.Journal.leaves old.journal new old.tally _ with_mark
          (held_mark g.J.Journal.stands g.J.Journal.leaves old.journal new old.tally _ (g.J.Journal.moment old.journal) c.if-self.false refl c.in-Ok.ensures.ok)
          (old.held (sym c.if-broken.ensures.value));
    }

pub returns-in-Ok-clause-ok : goal.returns-in-Ok-clause-ok
returns-in-Ok-clause-ok g c =
    let old = c.args.self.now in
    held_mark g.J.Journal.stands g.J.Journal.leaves old.journal c.append.new.self old.tally _ (g.J.Journal.moment old.journal) c.if-self.false refl c.in-Ok.ensures.ok

pub invariant_of-self-in-Err-1 : goal.invariant_of-self-in-Err-1
invariant_of-self-in-Err-1 g c =
    let old = c.args.self.now in
    let new = c.append.new.self in
    record {
      limited = c.in-Err.ensures.limits ∙ old.limited;
      within = record { all = omega (arith, old.within.all, c.in-Err.ensures.refused.0); each = λ i. omega (arith, old.within.each i, c.in-Err.ensures.refused.0) };
      held = λ sound. some_on g.J.Journal.stands g.J.Journal.leaves old.journal new old.tally old.tally (λ h. h)
          (λ h held. held_same g.J.Journal.stands g.J.Journal.leaves old.journal new (on_refused (Unit {0}) c.in-Err.fault c.in-Err.ensures.unchanged (g.J.Journal.is_broken new) c.in-Err.ensures.breaks sound).0 old.tally h [] held)
          (old.held (sym c.if-broken.ensures.value));
    }

pub returns-in-Err-clause-fault : goal.returns-in-Err-clause-fault
returns-in-Err-clause-fault g c failed h held =
    let old = c.args.self.now in
    let is : c.not_closed.result ≡ closing.Fault = cc in
    held_refused g.J.Journal.stands g.J.Journal.leaves old.journal c.append.new.self old.tally (g.J.Journal.moment old.journal) finish kinds.Finish refl
    (close_failed c.in-Err.fault (sym c.not_closed.ensures.value ∙ is) c.in-Err.ensures.fault) h held
