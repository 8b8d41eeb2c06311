-- What an outbox counts of its records.
use Rattle.std.specs.Prelude.{◌≡◌, ℕ, ◌+◌, ◌-◌, ◌≤◌, true, false, List, length, slice_index}
use Rattle.session_model.specs.Journal.{History, entries_of}
use Rattle.fixp_msgs.specs.Payload.{IsApplication}
use Rattle.jr_record.specs.declared.record.Record.{Record}
use Rattle.jr_record.specs.declared.record.Record.TheVariants.{Entry, Apply, Skip, Negotiated, PeerFinished, Finish}
use Rattle.jr_record.specs.Records.{IsSender}
use Rattle.jr_boxes.specs.Outboxes.{IsOutbox}
use Rattle.jr_boxes.specs.declared.tally.Tally.{Tally}

-- how many entries of a sender were counted
abbrev pub count_in : Tally → ℕ → ℕ
count_in t s = slice_index t.counts (s - 1)

-- the counts are those of a history
pub record Tallies (t : Tally) (h : History) : Type 0 where
  pub all : t.entries ≡ length h.made
  pub each : (s : ℕ) → IsSender s → count_in t s ≡ length (entries_of h.made s)
  pub mark : t.closed ≡ h.finished

-- the records are those of an outbox, and were counted
pub record Counted (records : List Record) (t : Tally) : Type 0 where
  pub history : History
  pub outbox : IsOutbox records history
  pub tallied : Tallies t history

-- no count is above n
pub record IsWithin (t : Tally) (n : ℕ) : Type 0 where
  pub all : t.entries ≤ n
  pub each : (i : ℕ) → slice_index t.counts i ≤ n

-- What may stand behind the records counted: the next entry of its sender, with the payload of an application message, or
-- the Finish; nothing behind a Finish
abbrev pub MayFollow : Tally → Record → Type 0
MayFollow t (Entry sender k payload) = (t.closed ≡ false) × IsSender sender × (k ≡ count_in t sender + 1) × IsApplication payload
MayFollow t (Apply _ _) = ⊥
MayFollow t (Skip _ _) = ⊥
MayFollow t Negotiated = ⊥
MayFollow t (PeerFinished _) = ⊥
MayFollow t Finish = t.closed ≡ false

-- one entry of a sender was counted
pub record CountsEntry (old new : Tally) (sender : ℕ) : Type 0 where
  pub all : new.entries ≡ old.entries + 1
  pub its : count_in new sender ≡ count_in old sender + 1
  pub others : (s : ℕ) → IsSender s → (s ≡ sender → ⊥) → count_in new s ≡ count_in old s
  pub mark : new.closed ≡ old.closed

-- a record was counted
abbrev pub HasTaken : Tally → Tally → Record → Type 0
HasTaken old new (Entry sender k payload) = CountsEntry old new sender
HasTaken old new (Apply _ _) = ⊥
HasTaken old new (Skip _ _) = ⊥
HasTaken old new Negotiated = ⊥
HasTaken old new (PeerFinished _) = ⊥
HasTaken old new Finish = new ≡ record old { closed = true }
