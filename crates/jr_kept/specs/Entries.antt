-- Several entries of one sender.
use Rattle.std.specs.Prelude.{◌≡◌, ℕ, ◌+◌, ◌-◌, List, [], ◌∷◌, ◌++◌, map, length, take}
use Rattle.session_model.specs.Journal.{Entry, History, OutboxRecord, entry}
use Rattle.jr_record.specs.declared.record.Record.{Record}
use Rattle.jr_dated.specs.declared.limits.Limits.{Limits}
use Rattle.jr_dated.specs.Journals.{fitting}
use Rattle.jr_record.specs.Records.{IsSender}
use Rattle.jr_boxes.specs.Outboxes.{record_of}
use Rattle.jr_boxes.specs.Tallies.{count_in}
use Rattle.jr_boxes.specs.declared.tally.Tally.{Tally}

-- the next entries of a sender that has so many, with these payloads
abbrev pub entries_behind : (sender own : ℕ) → List (List ℕ) → List Entry
entries_behind sender own [] = []
entries_behind sender own (p ∷ ps) = record { sender = sender; own_number = own + 1; payload = p } ∷ entries_behind sender (own + 1) ps

-- their records
abbrev pub records_of : List Entry → List Record
records_of es = map (λ (e : Entry). record_of (entry e)) es

-- and the records of the model
abbrev pub entries_made : List Entry → List OutboxRecord
entries_made es = map (λ (e : Entry). entry e) es

-- the history with these entries more
abbrev pub with_entries : History → List Entry → History
with_entries h es = record { made = h.made ++ es; finished = h.finished }

-- Of these entries those for which the limits leave room, behind so many entries and bytes: no more than the limit of entries
-- lets in, and of these those before the first that is past the limit of bytes
abbrev pub fitting_entries : Limits → (entries bytes : ℕ) → List Entry → List Entry
fitting_entries limits entries bytes es = take (length (fitting limits bytes (records_of (take (limits.entries - entries) es)))) es

-- so many entries of a sender were counted
pub record CountsEntries (old new : Tally) (sender n : ℕ) : Type 0 where
  pub all : new.entries ≡ old.entries + n
  pub its : count_in new sender ≡ count_in old sender + n
  pub others : (s : ℕ) → IsSender s → (s ≡ sender → ⊥) → count_in new s ≡ count_in old s
  pub mark : new.closed ≡ old.closed
