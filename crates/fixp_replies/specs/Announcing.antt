-- Announcements of the peer's next number (FIXP 1.1, NextSeqNo of Establish, EstablishmentAck and Sequence).
use Rattle.std.specs.Prelude.{◌≡◌, ℕ, ◌≤◌, ◌+◌, ◌-◌, true, not, nat_lt, if◌then◌else◌, List, [], ◌∷◌, Option, Some, None, is_some, is_none, unwrap_or}
use Rattle.fixp_msgs.specs.declared.numbering.Range.{Range}
use Rattle.flow_recover.specs.Receiving as receiver_is
use Rattle.fixp_shake.specs.declared.violation.Violation.{Violation}
use Rattle.fixp_shake.specs.declared.violation.Violation.TheVariants.{WentBack, MissingNext, NumberTooLarge}
use Rattle.fixp_shake.specs.Flows.{is_recoverable, is_idempotent, is_sequenced}
use Rattle.fixp_replies.specs.declared.facts.Facts.{Facts}
use Rattle.fixp_replies.specs.Facts.{Around, receiving, firm, awaiting, expected_number}
use Rattle.fixp_replies.specs.Outcomes.{Outcome, Row, row, breaks, ignores}

-- what an announcement makes of the facts, and the numbers that it jumps over
pub record Announced : Type 0 where
  pub facts : Facts
  pub skipped : Option Range

-- an idempotent flow gives up the numbers from the inbox's next up to the one announced
abbrev pub jumped_over : ℕ → ℕ → Option Range
jumped_over next announced = if nat_lt next announced then Some (record { from = next; count = announced - next }) else None

-- A recoverable flow waits for what is missing, and has started, an idempotent one goes on behind it, and another one has no numbers
abbrev pub announced : Around → Facts → (next : Option ℕ) → Announced
announced x f next =
    if is_recoverable x.config.peer_flow
    then record { facts = firm (receiving f (receiver_is.announced f.connection.receiver (unwrap_or next 0))); skipped = None }
    else if is_idempotent x.config.peer_flow
    then record { facts = awaiting f (unwrap_or next 0); skipped = jumped_over f.recorded.inbox_next (unwrap_or next 0) }
    else record { facts = f; skipped = None }

-- The rule that an announcement breaks, if it breaks one. A flow without numbers has no announcement that counts. Else there is
-- a number, at most one past the greatest, and not below the one expected
abbrev pub announcement_fault : Around → Facts → (template : ℕ) (next : Option ℕ) → Option Violation
announcement_fault x f template next =
    if not (is_sequenced x.config.peer_flow) then None
    else if is_none next then Some (MissingNext template)
    else if nat_lt (x.most + 1) (unwrap_or next 0) then Some (NumberTooLarge (unwrap_or next 0))
    else if nat_lt (unwrap_or next 0) (expected_number x f) then Some (WentBack (unwrap_or next 0) (expected_number x f))
    else None

-- then the number of a flow with numbers is in its bounds
abbrev pub Fits : Around → Facts → (next : Option ℕ) → Type 0
Fits x f next = is_sequenced x.config.peer_flow ≡ true → (expected_number x f ≤ unwrap_or next 0) × (unwrap_or next 0 ≤ x.most + 1)

abbrev pub refuses : Around → Facts → Option Violation → Outcome
refuses x f None = ignores f
refuses x f (Some violation) = breaks x f violation

abbrev pub announcement_rows : Around → Facts → (template : ℕ) (next : Option ℕ) → (Announced → Outcome) → List Row
announcement_rows x f template next follows =
    row (is_some (announcement_fault x f template next)) (refuses x f (announcement_fault x f template next))
    ∷ row true (follows (announced x f next))
    ∷ []

-- the same as one outcome
abbrev pub announcement_answered : Around → Facts → (template : ℕ) (next : Option ℕ) → (Announced → Outcome) → Outcome
announcement_answered x f template next follows =
    if is_some (announcement_fault x f template next) then refuses x f (announcement_fault x f template next)
    else follows (announced x f next)
