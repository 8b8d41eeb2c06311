-- Finishes at both ends behind a rehearsal.
use Rattle.std.proofs.Common.{◌≡◌, ℕ, Bool, true, false, List, Option, refl, sym, ap, ◌∙◌}
use Rattle.std.specs.Prelude.{is_some}
use Rattle.session_model.specs.Journal.{History}
use Rattle.session_model.specs.Inbox.{InboxRecord, has_peer_finished}
use Rattle.jr_boxes.specs.Inboxes.{peer_last_in}
use Rattle.fixp_msgs.specs.declared.flow.Flow.{Flow}
use Rattle.fixp_msgs.specs.declared.flow.Flow.TheVariants as flows
use Rattle.fixp_shake.specs.Flows.{is_absent}
use Rattle.jr_kept.specs.Inbox as inboxes
use Rattle.jr_kept.specs.Outbox as outboxes
use Rattle.gate_staff.proofs.Resuming.{is_peer_finished}
use Rattle.gw_rehearse.specs.declared.journals.Journals.{Journals}

pub none_absent : (A : Type 0) → is_absent flows.None ≡ false → A
none_absent A e = absurd (cc e)

pub finish_marked : (j : Journals) (b : Bool) → ((h : History) → outboxes.StandsFor j.outbox h → b ≡ h.finished) → b ≡ true
    → (h : History) → outboxes.StandsFor j.outbox h → h.finished ≡ true
finish_marked j b marked is h s = sym (marked h s) ∙ is

pub heard_marked : (j : Journals) (n : Option ℕ) → ((i : List InboxRecord) → inboxes.StandsFor j.inbox i → n ≡ peer_last_in i) → is_some n ≡ true
    → (i : List InboxRecord) → inboxes.StandsFor j.inbox i → has_peer_finished i ≡ true
heard_marked j n marked is i s = sym (is_peer_finished i) ∙ (ap (λ (o : Option ℕ). is_some o) (sym (marked i s)) ∙ is)
