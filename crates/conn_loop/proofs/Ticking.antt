-- A tick: what it writes where something is unsent, and what it leaves held.
use Rattle.std.proofs.Common.{◌≡◌, ◌≤◌, ℕ, Bool, true, false, if◌then◌else◌, List, [], ◌∷◌, ◌++◌, length, Option, Some, None, refl, sym, ap, subst, ◌∙◌, arith, append-nil, true≢false}
use Rattle.std.specs.Prelude.{is_some}
use Rattle.fixp_shake.specs.declared.violation.Violation.{Violation}
use Rattle.fixp_replies.specs.declared.act.Ending.{Ending}
use Rattle.fixp_replies.specs.declared.facts.Facts.{Facts}
use Rattle.fixp_replies.specs.Facts.{Around}
use Rattle.fixp_replies.specs.Events.{heartbeats, lateness}
use Rattle.fixp_machine.specs.Machine.{State, front_of, around, bytes_of, wrote, broken_by, ticked}

-- no heartbeat is written where something is unsent
silent : (x : Around) (f : Facts) (last : ℕ) (unsent : List ℕ) → (unsent ≡ [] → ⊥) → bytes_of (heartbeats x f last unsent) ≡ []
silent x f last [] some = absurd (some refl)
silent x f last (y ∷ ys) some = refl

-- a tick that leaves a connection open writes nothing there
pub tick_len : (s : State) (now : ℕ) → s.ending ≡ None → (ticked s now).ending ≡ None → (s.unsent ≡ [] → ⊥) → length (ticked s now).unsent ≤ length s.unsent
tick_len s now goes after some = subst (λ (t : State). length t.unsent ≤ length s.unsent) (sym unended) (by_case v (ap (λ (t : State). t.ending) (sym unended) ∙ after))
  where
    w : State
    w = wrote (record s { moment = now }) (bytes_of (heartbeats (around s 0 now) s.facts s.last_sent s.unsent)) now

    v : Option Violation
    v = lateness (around s 0 now) s.facts s.start s.last_received

    unended : ticked s now ≡ broken_by w v now
    unended = ap (λ (o : Option Ending). if is_some o then record s { moment = now } else broken_by w v now) goes

    by_case : (o : Option Violation) → (broken_by w o now).ending ≡ None → length (broken_by w o now).unsent ≤ length s.unsent
    by_case None e = omega (arith, ap (λ (bytes : List ℕ). length (s.unsent ++ bytes)) (silent (around s 0 now) s.facts s.last_sent s.unsent some), ap (λ (bytes : List ℕ). length bytes) (append-nil s.unsent))
    by_case (Some x) e = absurd (true≢false (ap is_some e))

-- a tick leaves no held message to be applied first
pub tick_drained : (s : State) (now : ℕ) → front_of s ≡ None → front_of (ticked s now) ≡ None
tick_drained s now none = by_ending (is_some s.ending)
  where
    w : State
    w = wrote (record s { moment = now }) (bytes_of (heartbeats (around s 0 now) s.facts s.last_sent s.unsent)) now

    by_violation : (o : Option Violation) → front_of (broken_by w o now) ≡ None
    by_violation None = none
    by_violation (Some v) = refl

    by_ending : (b : Bool) → front_of (if b then record s { moment = now } else broken_by w (lateness (around s 0 now) s.facts s.start s.last_received) now) ≡ None
    by_ending true = none
    by_ending false = by_violation (lateness (around s 0 now) s.facts s.start s.last_received)
