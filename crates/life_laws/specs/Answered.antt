-- What an outbox keeps of a business: of plans over the messages that its own end applied (this project's profile).
use Rattle.std.specs.Prelude.{◌≡◌, ℕ, ◌+◌, Bool, true, false, List, [], ◌++◌, map}
use mathlib.Core.List.{IsPrefix}
use Rattle.session_model.specs.Journal.{History, OutboxRecord, InOrder, counts_from, entries_of}
use Rattle.session_model.specs.Inbox.{InboxRecord, has_peer_finished}
use Rattle.session_model.specs.Plans.{GoesOn, Continues, Completes}
use Rattle.session_model.specs.Lives.{Life, KeepsOutbox}
use Rattle.jr_boxes.specs.Outboxes.{outbox_of}
use Rattle.gate_turn.specs.Views.{Account, Part}
use Rattle.gate_turn.specs.Rule.{In}
use Rattle.gate_turn.specs.Calls.{made_part}
use Rattle.gate_turn.specs.Steps.{Closed}
use Rattle.gate_staff.specs.Business.{Grew}
use Rattle.conn_serve.specs.Answering.{messages_of}
use Rattle.life_laws.specs.Plans.{plan_in, KeepsPlans, Senders}

-- the plans of the senders from 1 to `count` over these messages, in their order
abbrev pub plans_over : (plan : ℕ → List (List ℕ) → List (List ℕ)) (count : ℕ) (messages : List (List ℕ)) → List (List (List ℕ))
plans_over plan count messages = map (λ (n : ℕ). plan n messages) (counts_from 1 count)

-- the plan of an end with such a business: that of each of its senders, and nobody else has one
abbrev pub answering_plan : (plan : ℕ → List (List ℕ) → List (List ℕ)) (count : ℕ) → ℕ → List (List ℕ) → List (List ℕ)
answering_plan plan count s messages = plan_in (plans_over plan count messages) s messages

-- the senders of such an end: their mark waits for the peer's finish
abbrev pub answering : (plan : ℕ → List (List ℕ) → List (List ℕ)) (count : ℕ) → Senders
answering plan count = record { count = count; plan = answering_plan plan count; waits = true }

-- What the passes of a gate know, those of a business and one more: the business answered these messages, with which the peer's finish was recorded or
-- was not, as far as each pass got; and the last pass made nothing and no mark, and lost nothing
pub record PassesOver (opening : Account) (plan : ℕ → List (List ℕ) → List (List ℕ)) (count : ℕ) (known : ℕ → Part) (messages : List (List ℕ))
    (finished : Bool) : Type 0 where
  pub made : (known 1).made ≡ count + 1
  pub number : (n : ℕ) → In (count + 1) n → (known n).number ≡ n
  pub grew : Grew (λ n. plan n messages) count (made_part (count + 1) opening) known finished
  pub last : (known (count + 1)).mine ≡ entries_of opening.history.made (count + 1)
  pub unmarked : (known (count + 1)).ended ≡ false
  pub unlost : (known (count + 1)).lost ≡ []

-- it answered what these records apply
abbrev pub PassesAnswered : (opening : Account) (plan : ℕ → List (List ℕ) → List (List ℕ)) (count : ℕ) (known : ℕ → Part) (answered : List InboxRecord) → Type 0
PassesAnswered opening plan count known answered = PassesOver opening plan count known (messages_of answered) (has_peer_finished answered)

-- An outbox keeps the plans of a business over what its inbox applied between these lists: it keeps its plans over some list between them, as far as
-- each sender got; and where the mark was added, that list has the peer's finish
pub record KeepsAnswers (plan : ℕ → List (List ℕ) → List (List ℕ)) (count : ℕ) (opening closing : History) (i j : List InboxRecord) : Type 0 where
  pub answered : List InboxRecord
  pub opened : IsPrefix i answered
  pub reached : IsPrefix answered j
  pub keeps : KeepsPlans (plans_over plan count (messages_of answered)) opening closing
  pub peer_done : opening.finished ≡ false → closing.finished ≡ true → has_peer_finished answered ≡ true

-- the closing history goes on with these records behind it as one history, in order as the closing one is, which keeps the plans too
pub record AnswersOnBy (plan : ℕ → List (List ℕ) → List (List ℕ)) (count : ℕ) (opening closing : History) (i j : List InboxRecord)
    (kept : List OutboxRecord) : Type 0 where
  pub whole : History
  pub goes_on : outbox_of closing ++ kept ≡ outbox_of whole
  pub keeps : KeepsAnswers plan count opening whole i j
  pub in_order : InOrder closing.made → InOrder whole.made

-- ---- laws

-- what continues a plan over some applied messages, and then the plan over more of them, continues the latter
abbrev pub ContinuesGoesOn : Type 0
ContinuesGoesOn = (plan : ℕ → List (List ℕ) → List (List ℕ)) (s : ℕ) (earlier later first second third : List (List ℕ))
    → GoesOn plan → IsPrefix earlier later → Continues (plan s earlier) first second → Continues (plan s later) second third
    → Continues (plan s later) first third

-- and what completes the latter then, completes it from the start
abbrev pub ContinuesCompletes : Type 0
ContinuesCompletes = (plan : ℕ → List (List ℕ) → List (List ℕ)) (s : ℕ) (earlier later first second third : List (List ℕ))
    → GoesOn plan → IsPrefix earlier later → Continues (plan s earlier) first second → Completes (plan s later) second third
    → Completes (plan s later) first third

-- the plan of an end with a business goes on where the plans of the business do
abbrev pub AnsweringGoesOn : Type 0
AnsweringGoesOn = (plan : ℕ → List (List ℕ) → List (List ℕ)) (count : ℕ) → GoesOn plan → GoesOn (answering_plan plan count)

-- Where the passes know that a business answered what was applied, the history that comes out keeps its plans over that, and so it does with each
-- beginning of what was lost behind it
abbrev pub AnswersAreKept : Type 0
AnswersAreKept = (opening now : Account) (plan : ℕ → List (List ℕ) → List (List ℕ)) (count : ℕ) (known : ℕ → Part) (i j answered : List InboxRecord)
    → PassesAnswered opening plan count known answered → Closed known (known 1).made opening now → IsPrefix i answered → IsPrefix answered j
    → (kept : List OutboxRecord) → IsPrefix kept now.refused → AnswersOnBy plan count opening.history now.history i j kept

-- A life over these outboxes keeps its outbox by the plan of its business, where each does that a stop may leave
abbrev pub AnswersKeepOutbox : Type 0
AnswersKeepOutbox = (plan : ℕ → List (List ℕ) → List (List ℕ)) (count : ℕ) (opening closing : History) (life : Life) → GoesOn plan
    → InOrder closing.made → life.opening_outbox ≡ outbox_of opening → life.closing_outbox ≡ outbox_of closing
    → ((kept : List OutboxRecord) → IsPrefix kept life.refused_outbox
    → AnswersOnBy plan count opening closing life.served.opening_inbox life.served.closing_inbox kept)
    → KeepsOutbox (answering_plan plan count) life
