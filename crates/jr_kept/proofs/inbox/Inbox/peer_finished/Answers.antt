use Rattle.std.proofs.Common.{◌≡◌, refl, ◌∙◌, arith}
use Rattle.std.proofs.lemmas.Result.{err_from_is_err_and}
use Rattle.session_model.specs.Inbox.{peer_finished}
use Rattle.jr_record.specs.declared.record.Record.TheVariants as kinds
use Rattle.jr_record.specs.declared.faults.AppendFault.TheVariants as append
use Rattle.jr_boxes.proofs.Kept.{same_self}
use Rattle.jr_kept.proofs.Keeping.{kept_more, kept_refused, on_fault, some_more, some_refused}
use Rattle.jr_kept.proofs.inbox.Inbox.peer_finished.Goals as goal

pub invariant_of-self : goal.invariant_of-self
invariant_of-self g c =
    let old = c.args.self.now in
    let new = c.append.new.self in
    record {
      limited = c.append.ensures.limits ∙ old.limited;
      within = λ k here. omega (arith, old.within k here, c.in_err-append.ensures.refused.0);
      held = some_refused g.J.Journal.stands g.J.Journal.leaves old.journal new old.flow old.notes old.notes (g.J.Journal.is_broken old.journal) (g.J.Journal.is_broken new)
          _ (same_self old.notes) c.in_err-append.field-0.0 c.in_err-append.ensures.unchanged c.in_err-append.ensures.broken.1 c.in_err-append.ensures.breaks old.held;
    }

pub invariant_of-self-3 : goal.invariant_of-self-3
invariant_of-self-3 g c =
    let old = c.args.self.now in
    let new = c.append.new.self in
    record {
      limited = c.append.ensures.limits ∙ old.limited;
      within = λ k here. omega (arith, old.within k here, c.in_ok-append.ensures.grown.0);
      held = λ sound. some_more g.J.Journal.stands g.J.Journal.leaves old.journal new old.flow old.notes _ (g.J.Journal.is_broken old.journal) (g.J.Journal.is_broken new)
          (g.J.Journal.count old.journal) (g.J.Journal.moment old.journal) (peer_finished c.args.last) (kinds.PeerFinished c.args.last) c.in_ok-append.field-0 refl (λ records is. (g.met.J.Journal.counted old.journal records is).0)
          c.requires.fresh (record { next_is = refl; negotiated_is = refl; peer_last_is = refl; places_are = refl }) c.in_ok-append.ensures.ok
          c.in_ok-append.ensures.broken.1 sound old.held;
    }

pub returns-clause-ok : goal.returns-clause-ok
returns-clause-ok g c =
    let old = c.args.self.now in
    let new = c.append.new.self in
    kept_more g.J.Journal.stands g.J.Journal.leaves old.journal new old.flow old.notes _ (g.J.Journal.count old.journal) (g.J.Journal.moment old.journal) (peer_finished c.args.last) (kinds.PeerFinished c.args.last) refl (λ records is. (g.met.J.Journal.counted old.journal records is).0)
    c.requires.fresh (record { next_is = refl; negotiated_is = refl; peer_last_is = refl; places_are = refl }) c.in_ok-append.ensures.ok

pub returns-in_err-append-clause-fault : goal.returns-in_err-append-clause-fault
returns-in_err-append-clause-fault g c failed i held =
    let old = c.args.self.now in
    let p = err_from_is_err_and c.from_residual.result c.from_residual.ensures.1 in
    let is_err = p.1 in
    let same = p.2 in
    let is : c.in_err-append.field-0.0 ≡ append.Fault = cc in
    kept_refused g.J.Journal.stands g.J.Journal.leaves old.journal c.append.new.self old.flow old.notes old.notes (g.J.Journal.moment old.journal) (same_self old.notes)
    (peer_finished c.args.last) (kinds.PeerFinished c.args.last) refl (on_fault c.in_err-append.field-0.0 is c.in_err-append.ensures.fault) i held
