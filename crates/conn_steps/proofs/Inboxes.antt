-- An inbox over calls: it stays of its kind, and comes to be broken only where a call of its disk failed.
use Rattle.std.proofs.Common.{inl, inr, ⊎_elim, ◌≤◌, refl, sym, ◌∙◌, arith}
use Rattle.jr_dated.specs.declared.journal.Journal.{Ghosts}
use Rattle.jr_kept.specs.declared.inbox.Inbox.{Inbox}
use Rattle.jr_kept.specs.Inbox.{SameButMoment, faults_of}
use Rattle.conn_steps.specs.Settling.{SameKind}

module _ {J : Type 0} {G : Ghosts J} where
  -- over no call
  pub kind_self : (box : Inbox J G) → SameKind box box
  kind_self box = record { flow = refl; limits = refl; breaks = λ broken. inl broken }

  -- over a raise of its moment
  pub kind_at : (box since : Inbox J G) → SameButMoment box since → SameKind box since
  kind_at box since same = record { flow = same.same.1; limits = same.same.0; breaks = λ broken. inl (sym same.broken ∙ broken) }

  -- over calls one after another, in none of which the count of its disk fell
  pub kind_on : (box mid since : Inbox J G) → faults_of box ≤ faults_of mid → faults_of mid ≤ faults_of since → SameKind box mid → SameKind mid since → SameKind box since
  kind_on box mid since first later a b = record {
    flow = b.flow ∙ a.flow;
    limits = b.limits ∙ a.limits;
    breaks = λ broken. ⊎_elim (λ was. ⊎_elim (λ was. inl was) (λ risen. inr (omega (arith, later, risen))) (a.breaks was)) (λ risen. inr (omega (arith, first, risen))) (b.breaks broken);
  }
