-- The end behind a frame, by the outcome of the table.
use Rattle.std.proofs.Common.{◌≡◌, ℕ, ◌-◌, true, false, List, Some, None, IsSome, subst, ap, refl}
use Rattle.fixp_replies.specs.Acts.{is_record}
use Rattle.fixp_replies.specs.Outcomes.{Outcome}
use Rattle.session_model.specs.Inbox.{Numbered}
use Rattle.fixp_replies.specs.Incoming.{Incoming, payload_in}
use Rattle.fixp_machine.specs.Machine.{State, held_until, held_with, reply_applied, after_frame}
use Rattle.fixp_end.proofs.Held.{held_alike}

pub after-record : (s : State) (i : Incoming) (o p : Outcome) (now : ℕ) → o ≡ p → is_record o.act ≡ true
    → record s { moment = now; last_received = now; room = s.room - 1; pending = Some o } ≡ after_frame s i p now
after-record s i o p now same is = subst (λ (q : Outcome). record s { moment = now; last_received = now; room = s.room - 1; pending = Some o } ≡ after_frame s i q now) same (rw is refl)

-- a reply takes effect, and then its message is held, if it is to be
pub after-plain : (s : State) (i : Incoming) (o p : Outcome) (now : ℕ) (payload : List ℕ) → o ≡ p → is_record o.act ≡ false
    → (IsSome o.holds → (o.ending ≡ None) × (payload_in i ≡ payload))
    → record (reply_applied (record s { moment = now; last_received = now; room = s.room - 1 }) o now) { held = held_with o.holds payload (held_until o.ending s.held) }
    ≡ after_frame s i p now
after-plain s i o p now payload same is fits =
    let behind : State = record s { moment = now; last_received = now; room = s.room - 1 } in
    subst (λ (q : Outcome). record (reply_applied behind o now) { held = held_with o.holds payload (held_until o.ending s.held) } ≡ after_frame s i q now) same
    (rw is (ap (λ (ms : List Numbered). record (reply_applied behind o now) { held = ms }) (held_alike o.ending o.holds payload (payload_in i) s.held fits)))
