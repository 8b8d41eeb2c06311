-- The session guarantee: what two ends that keep their contracts hold of each other, over any number of lives and connections.
use Rattle.std.specs.Prelude.{◌≡◌, ℕ, List, [], ◌∷◌, ◌++◌, Contains, true}
use Rattle.std.specs.List.{AllByRecursion}
use mathlib.Core.List.{IsPrefix}
use Rattle.session_model.specs.Journal.{OutboxRecord, entries, InOrder, is_finished}
use Rattle.session_model.specs.Inbox.{Range, InboxRecord, applied, skips, payloads_of}
use Rattle.session_model.specs.Events.{Event}
use Rattle.session_model.specs.Growth.{Flow, recoverable, idempotent, unsequenced, no_flow, GrownThrough, AppliesPrefix, SettlesOnce, DeliversRising}
use Rattle.session_model.specs.Plans.{GoesOn, SendersDone, sent_by}
use Rattle.session_model.specs.Lives.{Connection, Life, accepted_of, written_of, KeepsContract, Chained, connections_of, TakenFrom, Linked}

-- One end of a session over all its lives: the flow that it writes, its plan, its lives, and the outbox and the inbox that a stop
-- may leave now. Its flow and its lives are those of this model, or of what is built above it
pub record OneEnd (AnyFlow AnyLife : Type 0) : Type 0 where
  pub flow : AnyFlow
  pub plan : ℕ → List (List ℕ) → List (List ℕ)
  pub lives : List AnyLife
  pub outbox : List OutboxRecord
  pub inbox : List InboxRecord

-- A session between two ends, a and b. Both began on empty journals; a stop now may leave their outboxes and inboxes
pub record Session (a b : OneEnd Flow Life) : Type 0 where
  pub chained_a : Chained [] [] a.lives a.outbox a.inbox
  pub chained_b : Chained [] [] b.lives b.outbox b.inbox
  pub contract_a : AllByRecursion (KeepsContract a.flow b.flow a.plan) a.lives
  pub contract_b : AllByRecursion (KeepsContract b.flow a.flow b.plan) b.lives
  pub linked : Linked (connections_of a.lives) (connections_of b.lives)

-- a session seen from the other end
abbrev pub SessionTurnsRound : Type 0
SessionTurnsRound = (a b : OneEnd Flow Life) → Session a b → Session b a

-- A beginning of a session is one: the first lives of both ends, where their connections are linked among themselves, with
-- some journals that those lives may have left
abbrev pub SessionBegins : Type 0
SessionBegins = (a b : OneEnd Flow Life) (later_a later_b : List Life)
    → Session (record a { lives = a.lives ++ later_a }) (record b { lives = b.lives ++ later_b })
    → Linked (connections_of a.lives) (connections_of b.lives)
    → (o : List OutboxRecord) × (p : List OutboxRecord) × (i : List InboxRecord) × (j : List InboxRecord)
    × Session (record a { outbox = o; inbox = i }) (record b { outbox = p; inbox = j })

-- What the connections of one end carried to the other, in order: of each written list a beginning, or nothing of it
pub data CarriedFrom : List (List Event) → List (List Event) → Type 0 where
  no_more : CarriedFrom [] []
  unread : {w : List Event} {written carried : List (List Event)} → CarriedFrom written carried → CarriedFrom (w ∷ written) carried
  nothing : {written carried : List (List Event)} → CarriedFrom written carried → CarriedFrom written ([] ∷ carried)
  carried : {w c : List Event} {written carried : List (List Event)} → TakenFrom w c → CarriedFrom written carried → CarriedFrom (w ∷ written) (c ∷ carried)

-- the inbox is the empty one grown over what the peer's connections carried, and over nothing else: each message applied
-- and each number missing comes of one of them. Where no record was refused, that is all that was accepted
pub record GrownFromPeer (peer own : OneEnd Flow Life) : Type 0 where
  pub processed : List (List Event)
  pub from_peer : CarriedFrom (written_of (connections_of peer.lives)) processed
  pub all : AllByRecursion (λ (life : Life). life.served.refused_inbox ≡ []) own.lives → processed ≡ accepted_of (connections_of own.lives)
  pub grown : GrownThrough peer.flow processed [] own.inbox

-- A recoverable inbox is a prefix of its peer's journal
abbrev pub RecoverableGuarantee : Type 0
RecoverableGuarantee = (a b : OneEnd Flow Life) → a.flow ≡ recoverable → Session a b
    → AppliesPrefix (entries a.outbox) b.inbox × GrownFromPeer a b

-- An idempotent inbox holds every number below its next exactly once, as applied or as not applied; the missing numbers are
-- the jumps of the connections that it processed
abbrev pub IdempotentGuarantee : Type 0
IdempotentGuarantee = (a b : OneEnd Flow Life) → a.flow ≡ idempotent → Session a b
    → SettlesOnce (entries a.outbox) b.inbox × GrownFromPeer a b

-- An unsequenced flow delivers only what was sent, in order and nothing twice
abbrev pub UnsequencedGuarantee : Type 0
UnsequencedGuarantee = (a b : OneEnd Flow Life) → a.flow ≡ unsequenced → Session a b
    → DeliversRising (entries a.outbox) b.inbox × GrownFromPeer a b

-- Where there is no flow nothing is delivered
abbrev pub NoFlowGuarantee : Type 0
NoFlowGuarantee = (a b : OneEnd Flow Life) → a.flow ≡ no_flow → Session a b → (applied b.inbox ≡ []) × (skips b.inbox ≡ [])

-- what an outbox holds of its own end's senders: each sender's entries count 1, 2, 3; all that any life closed on stands
-- there at its number; each sender has sent a beginning of its plan, and all of it where the outbox has its finish
pub record HoldsSenders (own : OneEnd Flow Life) : Type 0 where
  pub in_order : InOrder (entries own.outbox)
  pub acknowledged : AllByRecursion (λ (life : Life). IsPrefix (entries life.closing_outbox) (entries own.outbox)) own.lives
  pub planned : (s : ℕ) → IsPrefix (sent_by (entries own.outbox) s) (own.plan s (payloads_of (applied own.inbox)))
  pub finished : is_finished own.outbox ≡ true → SendersDone own.plan [] (entries own.outbox) [] own.inbox

-- The journal holds each sender's accepted messages once, in order. This needs one end alone
abbrev pub SendersGuarantee : Type 0
SendersGuarantee = (own : OneEnd Flow Life) (peer : Flow) → GoesOn own.plan → Chained [] [] own.lives own.outbox own.inbox
    → AllByRecursion (KeepsContract own.flow peer own.plan) own.lives → HoldsSenders own

-- Whatever was reported as not applied is a skip record of the inbox. This too needs one end alone
abbrev pub ReportsGuarantee : Type 0
ReportsGuarantee = (own : OneEnd Flow Life) (peer : Flow) → Chained [] [] own.lives own.outbox own.inbox
    → AllByRecursion (KeepsContract own.flow peer own.plan) own.lives
    → AllByRecursion (λ (c : Connection). AllByRecursion (λ (r : Range). Contains (skips own.inbox) r) c.reported) (connections_of own.lives)
