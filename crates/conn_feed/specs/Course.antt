-- How far a feeding is. These are steps of the proof: nothing that a user relies on needs them.
use Rattle.std.specs.Prelude.{true, ◌≡◌, ◌≢◌, ◌⊎◌, ℕ, zero, suc, ◌+◌, ◌-◌, ◌^◌, ◌<◌, ◌≤◌, min, All, List, [], ◌∷◌, ◌++◌, length, map, take, slice_index_or, Option, Some, None, Result, Ok, Err}
use Rattle.std.specs.Io.KnownBytes.{Appends, Consumes}
use Rattle.gw_outside.specs.Faults.{TakesFront}
use Rattle.session_model.specs.Journal.{Entry}
use Rattle.text_words.specs.Lines.{unreturned}
use Rattle.jr_dated.specs.declared.journal.Journal.{Ghosts}
use Rattle.jr_boxes.specs.declared.faults.SubmitFault.{SubmitFault}
use Rattle.jr_boxes.specs.declared.faults.SubmitFault.TheVariants as submit
use Rattle.gate_turn.specs.Views.{Part, HasFailed}
use Rattle.gate_turn.specs.Rule.{In}
use Rattle.gate_turn.specs.Places.{known}
use Rattle.gate_senders.specs.declared.gate.Gate.{Gate}
use Rattle.gate_senders.specs.declared.submission.Submission.{Submission}
use Rattle.gate_senders.specs.Shown.{TakesTurn, SubmittedAll, IsFullBehind, LosesAll, entries_after}
use Rattle.gate_staff.specs.declared.sender.Sender.{Sender}
use Rattle.gw_lines.specs.Reading.{Reading, HasGiven}
use Rattle.plan_text.specs.Plans.{AreGiven}
use Rattle.plan_feed.specs.Pieces.{Messages}
use Rattle.conn_accepted.specs.declared.why.Why.{Why}
use Rattle.conn_accepted.specs.Lines.{accepted_line, refused_line}
use Rattle.conn_feed.specs.declared.end.FeedEnd.{FeedEnd}
use Rattle.conn_feed.specs.declared.end.FeedEnd.TheVariants as ends
use Rattle.conn_feed.specs.declared.feeder.Feeder.{Feeder}
use Rattle.conn_feed.specs.Words.{Word, accepted, alike, words_text, CameOfEach, IsClear}
use Rattle.conn_feed.specs.Fed.{AtSeats, parts_of, part_at, gifts_to, Fed}
use Rattle.conn_feed.specs.Ends.{Point, Answered, why_of}

-- what the gate answers of these payloads to a pass that knew p and knows q
pub record Submits (p q : Part) (ps : List (List ℕ)) (r : Submission) : Type 0 where
  pub turn : TakesTurn p q
  pub ended : q.ended ≡ p.ended
  pub within : r.count ≤ length ps
  pub added : SubmittedAll p q (take r.count ps)
  pub number : r.number ≡ length q.seen.made
  pub whole : r.refused ≡ None → r.count ≡ length ps
  pub closed : r.refused ≡ Some submit.Closed → q.seen.finished ≡ true
  pub full : (entries bytes : ℕ) → r.refused ≡ Some (submit.Full entries bytes) → IsFullBehind q ps r.count entries bytes
  pub none : r.refused ≡ Some submit.Fault → r.count ≡ 0
  pub fault : r.refused ≡ Some submit.Fault → HasFailed p.faults q.faults
  pub broken : r.refused ≡ Some submit.Broken → HasFailed q.opening.faults q.faults
  pub lost : r.refused ≡ Some submit.Fault → LosesAll q ps
  pub unmarked : r.refused ≡ Some submit.Fault → q.seen.finished ≢ true
  pub unlost : (r.refused ≡ Some submit.Fault → ⊥) → q.lost ≡ p.lost

module _ {J : Type 0} {G : Ghosts J} where
  -- a piece was submitted by the pass of its sender, and no other pass did anything
  pub record Went (before after : List (Sender J G)) (piece : Messages) (r : Submission) : Type 0 where
    pub long : length after ≡ length before
    pub this : (d : Sender J G) → Submits (known (slice_index_or before (piece.sender - 1) d).pass) (known (slice_index_or after (piece.sender - 1) d).pass) piece.payloads r
    pub others : (i : ℕ) (d : Sender J G) → i ≢ piece.sender - 1 → slice_index_or after i d ≡ slice_index_or before i d

module _ {J K : Type 0} {G : Ghosts J} where
  -- the senders sit at their seats, and the piece is of one of them
  pub record IsSound (gate : Gate J G) (f : Feeder J K G) : Type 0 where
    pub seats : AtSeats gate f.senders.items
    pub sender : f.piece.payloads ≢ [] → In (length f.senders.items) f.piece.sender

  -- what it moves
  abbrev pub point_of : (K → Option (List ℕ)) → Feeder J K G → Point
  point_of taken f = record { parts = parts_of f.senders.items; taken = taken f.accepted }

-- the lines of ACCEPTED for so many messages of a sender, behind so many of all and of its own
abbrev pub accepted_text : (number sender own count : ℕ) → List ℕ
accepted_text number sender own zero = []
accepted_text number sender own (suc count) = accepted_text number sender own count ++ accepted_line (number + count + 1) sender (own + count + 1)

-- and for so many lines that were refused alike, from this line on
abbrev pub refused_text : (senders line : ℕ) → Why → (count : ℕ) → List ℕ
refused_text senders line why zero = []
refused_text senders line why (suc count) = refused_text senders line why count ++ refused_line senders (min (line + count) (2 ^ 64 - 1)) why

-- those for the messages that were not accepted
abbrev pub rest_text : (senders line : ℕ) → Option SubmitFault → (count : ℕ) → List ℕ
rest_text senders line None count = []
rest_text senders line (Some fault) count = refused_text senders line (why_of fault) count

-- all lines for a piece whose first message the line of this number gives
abbrev pub piece_text : (senders line own : ℕ) → Messages → Submission → List ℕ
piece_text senders line own piece r =
    accepted_text (r.number - r.count) piece.sender own r.count ++ rest_text senders (min (line + r.count) (2 ^ 64 - 1)) r.refused (length piece.payloads - r.count)

-- what comes of the lines of a piece: entries that were made, from this number on, and the others, which were refused alike
abbrev pub accepted_from : ℕ → List Entry → List Word
accepted_from n [] = []
accepted_from n (e ∷ es) = accepted n e ∷ accepted_from (n + 1) es

abbrev pub rest_words : Option SubmitFault → (count : ℕ) → List Word
rest_words None count = []
rest_words (Some fault) count = alike (why_of fault) count

abbrev pub piece_words : Part → List (List ℕ) → Submission → List Word
piece_words p ps r = accepted_from (r.number - r.count + 1) (entries_after p (take r.count ps)) ++ rest_words r.refused (length ps - r.count)

-- how a piece that was answered so ends what goes on: where a journal failed by that, and else by what ACCEPTED made of it
abbrev pub behind : Result (Unit {0}) FeedEnd → FeedEnd → Result (Unit {0}) FeedEnd
behind (Ok _) end = Err end
behind (Err e) end = Err e

abbrev pub ended_by : Option SubmitFault → Result (Unit {0}) FeedEnd → Result (Unit {0}) FeedEnd
ended_by None told = told
ended_by (Some submit.Broken) told = Err ends.Journal
ended_by (Some submit.Closed) told = behind told ends.Closed
ended_by (Some (submit.Full entries bytes)) told = behind told (ends.Full entries bytes)
ended_by (Some submit.Memory) told = behind told ends.Memory
ended_by (Some submit.Fault) told = Err ends.Journal

-- the first of some lines are answered, and the others give the messages of the piece
pub record Stands (senders : ℕ) (start now : Point) (piece : Messages) (number : ℕ) (lines : List (List ℕ)) : Type 0 where
  pub first : List (List ℕ)
  pub held : List (List ℕ)
  pub split : lines ≡ first ++ held
  pub words : List Word
  pub came : CameOfEach senders first words
  pub clear : All IsClear words
  pub fed : Fed start.parts now.parts words
  pub told : Appends start.taken now.taken (words_text senders 1 words)
  pub unlost : (s : ℕ) → In senders s → (part_at now.parts s).lost ≡ (part_at start.parts s).lost
  pub given : AreGiven senders held (gifts_to piece.sender piece.payloads)
  pub numbered : 0 < length held → number ≡ min (length first + 1) (2 ^ 64 - 1)

-- ACCEPTED took all of a text, or a front of it where it failed or memory ran out
abbrev pub Told : (old new : Option (List ℕ)) → List ℕ → Result (Unit {0}) FeedEnd → Type 0
Told old new text (Ok _) = Appends old new text
Told old new text (Err end) = TakesFront old new text × ((end ≡ ends.Accepted) ⊎ (end ≡ ends.Memory))

-- a line of this number follows some lines
abbrev pub Follows : ℕ → List (List ℕ) → Type 0
Follows number lines = number ≡ min (length lines + 1) (2 ^ 64 - 1)

module _ {J K : Type 0} {G : Ghosts J} where
  -- how many senders there are
  abbrev pub count_of : Feeder J K G → ℕ
  count_of f = length f.senders.items

  -- it stands so with some lines, since a feeding began that moved these passes
  pub record StandsSo (taken : K → Option (List ℕ)) (start : Point) (f : Feeder J K G) (lines : List (List ℕ)) : Type 0 where
    pub many : length start.parts ≡ count_of f
    pub stands : Stands (count_of f) start (point_of taken f) f.piece f.number lines

  -- a feeding ended so with some lines
  abbrev pub EndedSo : (K → Option (List ℕ)) → Point → Feeder J K G → List (List ℕ) → FeedEnd → Type 0
  EndedSo taken start f lines end = Answered (length start.parts) start (point_of taken f) lines end

  -- it goes on with the same lines
  abbrev pub GoesOn : (K → Option (List ℕ)) → (f g : Feeder J K G) → Type 0
  GoesOn taken f g = (start : Point) (lines : List (List ℕ)) → StandsSo taken start f lines → StandsSo taken start g lines

  -- or it ends so
  abbrev pub EndsSo : (K → Option (List ℕ)) → (f g : Feeder J K G) → FeedEnd → Type 0
  EndsSo taken f g end = (start : Point) (lines : List (List ℕ)) → StandsSo taken start f lines → EndedSo taken start g lines end

  -- it goes on with a line of this number more
  abbrev pub GoesOnAt : (K → Option (List ℕ)) → ℕ → (f g : Feeder J K G) → List ℕ → Type 0
  GoesOnAt taken number f g line = (start : Point) (lines : List (List ℕ)) → Follows number lines → StandsSo taken start f lines → StandsSo taken start g (lines ++ line ∷ [])

  -- or it ends so
  abbrev pub EndsAt : (K → Option (List ℕ)) → ℕ → (f g : Feeder J K G) → List ℕ → FeedEnd → Type 0
  EndsAt taken number f g line end = (start : Point) (lines : List (List ℕ)) → Follows number lines → StandsSo taken start f lines → EndedSo taken start g (lines ++ line ∷ []) end

-- all lines that a reader gave, as they read
abbrev pub said : List (List ℕ) → List (List ℕ)
said lines = map unreturned lines

-- a reader gave some lines, and this is so of them
pub record Reads (read : List ℕ) (reader : Reading) (IsSo : List (List ℕ) → Type 0) : Type 0 where
  pub raw : List (List ℕ)
  pub given : HasGiven read raw reader
  pub is : IsSo (said raw)

-- a source gave more meanwhile
pub record ReadsOn (left_before left_behind : Option (List ℕ)) (read : List ℕ) (reader : Reading) (IsSo : List (List ℕ) → Type 0) : Type 0 where
  pub more : List ℕ
  pub consumed : Consumes left_before left_behind more
  pub reads : Reads (read ++ more) reader IsSo
