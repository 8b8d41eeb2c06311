use Rattle.std.proofs.Common.{rules, ◌≡◌, [], ◌∷◌, Err, sym, ap, ◌∙◌}
use Rattle.session_model.specs.Journal.{finish}
use Rattle.jr_boxes.specs.declared.faults.CloseFault.TheVariants as closing
use Rattle.jr_kept.specs.Outbox.{is_broken}
use Rattle.jr_boxes.specs.Outboxes.{with_mark}
use Rattle.gate_senders.proofs.Keeping.{Keeps, keeps_stands, keeps_as, keeps_unchanged, keeps_failed, keeps_on, mark_is, sound_if}
use Rattle.gate_senders.proofs.kept.Kept.finish.Goals as goal

pub invariant_of-self : goal.invariant_of-self
invariant_of-self g c =
    let old = c.args.self.now in
    let box = c.deref_mut.result.now in
    let h = old.told.history in
    let sound = sound_if (is_broken box) (λ b. let e = c.in-Ok.ensures.broken.1 b in cc e) in
    let was : Keeps box h old.told.refused = rw c.deref_mut.ensures.value (record { holds = old.holds; whole = old.whole }) in
    let now = keeps_on box c.close.new.self h (with_mark h) old.told.refused sound (λ held. c.in-Ok.ensures.ok h held) was in
    let says = c.of-finished.ensures.says in
    let there = keeps_as c.close.new.self (with_mark h) c.of-finished.result.history old.told.refused c.of-finished.result.refused says.0 says.1 now in
    record { holds = there.holds; whole = there.whole }

pub invariant_of-self-in-Err-Fault : goal.invariant_of-self-in-Err-Fault
invariant_of-self-in-Err-Fault g c =
    let old = c.args.self.now in
    let box = c.deref_mut.result.now in
    let h = old.told.history in
    let was : Keeps box h old.told.refused = rw c.deref_mut.ensures.value (record { holds = old.holds; whole = old.whole }) in
    let failed : c.close.result ≡ Err closing.Fault = c.in-Err-Fault.is ∙ ap Err c.in-Err-Fault.field-0-is in
    let sound = sound_if (is_broken box) (λ b. let e = c.close.ensures.broken.1 b in cc (e, failed)) in
    let now = keeps_failed box c.close.new.self h old.told.refused (finish ∷ []) sound (c.close.ensures.breaks failed) (λ held. c.close.ensures.fault failed h held) was in
    let says = c.of-unfinished.ensures.says in
    let there = keeps_as c.close.new.self h c.of-unfinished.result.history (finish ∷ []) c.of-unfinished.result.refused says.0 says.1 now in
    record { holds = there.holds; whole = there.whole }

pub invariant_of-self-in-Broken-1 : goal.invariant_of-self-in-Broken-1
invariant_of-self-in-Broken-1 g c =
    let old = c.args.self.now in
    let box = c.deref_mut.result.now in
    let h = old.told.history in
    let was : Keeps box h old.told.refused = rw c.deref_mut.ensures.value (record { holds = old.holds; whole = old.whole }) in
    let other : c.in-Err.fault ≡ closing.Fault → ⊥ = search rules in
    let now = keeps_unchanged box c.close.new.self h old.told.refused (c.in-Err.ensures.unchanged other) was in
    record { holds = now.holds; whole = now.whole }

pub returns-in-Err-Fault-clause-unmarked : goal.returns-in-Err-Fault-clause-unmarked
returns-in-Err-Fault-clause-unmarked g c _ marked =
    let old = c.args.self.now in
    let box = c.deref_mut.result.now in
    let h = old.told.history in
    let was : Keeps box h old.told.refused = rw c.deref_mut.ensures.value (record { holds = old.holds; whole = old.whole }) in
    let failed : c.close.result ≡ Err closing.Fault = c.in-Err-Fault.is ∙ ap Err c.in-Err-Fault.field-0-is in
    let sound = sound_if (is_broken box) (λ b. let e = c.close.ensures.broken.1 b in cc (e, failed)) in
    let e = c.close.ensures.closed.1 (sound, mark_is box h (keeps_stands box h old.told.refused was.holds) ∙ marked) in
    cc (e, failed)

pub returns-in-Ok-clause-open : goal.returns-in-Ok-clause-open
returns-in-Ok-clause-open g c marked =
    let old = c.args.self.now in
    let box = c.deref_mut.result.now in
    let was : Keeps box old.told.history old.told.refused = rw c.deref_mut.ensures.value (record { holds = old.holds; whole = old.whole }) in
    let stands = keeps_stands box old.told.history old.told.refused was.holds in
    let sound = sound_if (is_broken box) (λ b. let e = c.in-Ok.ensures.broken.1 b in cc e) in
    let e = c.in-Ok.ensures.closed.1 (sound, mark_is box old.told.history stands ∙ marked) in
    cc e

pub returns-in-Err-clause-closed : goal.returns-in-Err-clause-closed
returns-in-Err-clause-closed g c e =
    let old = c.args.self.now in
    let box = c.deref_mut.result.now in
    let was : Keeps box old.told.history old.told.refused = rw c.deref_mut.ensures.value (record { holds = old.holds; whole = old.whole }) in
    let stands = keeps_stands box old.told.history old.told.refused was.holds in
    sym (mark_is box old.told.history stands) ∙ (c.in-Err.ensures.closed.0 e).1
