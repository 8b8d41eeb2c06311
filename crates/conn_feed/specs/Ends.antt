-- How a feeding ends (this project's profile).
use Rattle.std.specs.Prelude.{⊤, ◌≡◌, ◌≢◌, ◌⊎◌, ℕ, ◌<◌, ◌≤◌, true, All, List, [], ◌++◌, length, drop, Option}
use Rattle.std.specs.Io.KnownBytes.{Appends, Consumes, IsAtEnd}
use Rattle.gw_outside.specs.Faults.{TakesFront}
use Rattle.text_words.specs.Lines.{lines_in}
use Rattle.jr_boxes.specs.declared.faults.SubmitFault.{SubmitFault}
use Rattle.jr_boxes.specs.declared.faults.SubmitFault.TheVariants as submit
use Rattle.gate_turn.specs.Views.{HasFailed, Part}
use Rattle.gate_turn.specs.Rule.{In}
use Rattle.conn_door.specs.declared.answer.ServeFault.{ServeFault}
use Rattle.conn_door.specs.Senders.{Finishes}
use Rattle.conn_accepted.specs.declared.why.Why.{Why}
use Rattle.conn_accepted.specs.declared.why.Why.TheVariants as whys
use Rattle.conn_feed.specs.declared.end.FeedEnd.{FeedEnd}
use Rattle.conn_feed.specs.declared.end.FeedEnd.TheVariants as ends
use Rattle.conn_feed.specs.Words.{Word, alike, words_text, CameOfEach, IsClear}
use Rattle.conn_feed.specs.Fed.{part_at, Fed, LosesLines, OneFills}

-- what ends a feeding where the outbox refused a message so
abbrev pub end_of : SubmitFault → FeedEnd
end_of submit.Broken = ends.Journal
end_of submit.Closed = ends.Closed
end_of (submit.Full entries bytes) = ends.Full entries bytes
end_of submit.Memory = ends.Memory
end_of submit.Fault = ends.Journal

-- and what is said of its line
abbrev pub why_of : SubmitFault → Why
why_of submit.Broken = whys.Failed
why_of submit.Closed = whys.Closed
why_of (submit.Full entries bytes) = whys.Full
why_of submit.Memory = whys.Memory
why_of submit.Fault = whys.Failed

-- what may be said of the last lines where a feeding ended so: nothing where the outbox refused none; where ACCEPTED failed, or memory ran out,
-- the outbox may have refused one before
abbrev pub MayBeLast : FeedEnd → Why → Type 0
MayBeLast ends.Ended w = ⊥
MayBeLast ends.Closed w = w ≡ whys.Closed
MayBeLast ends.Stopped w = ⊥
MayBeLast ends.Input w = ⊥
MayBeLast ends.Accepted w = ⊤
MayBeLast ends.Journal w = w ≡ whys.Failed
MayBeLast (ends.Full entries bytes) w = w ≡ whys.Full
MayBeLast ends.Memory w = ⊤

-- each line that gives a payload was accepted, but the last ones, a piece at most, which the outbox refused alike
pub record AreLast (end : FeedEnd) (words : List Word) : Type 0 where
  pub before : List Word
  pub clear : All IsClear before
  pub why : Why
  pub count : ℕ
  pub few : count ≤ 64
  pub split : words ≡ before ++ alike why count
  pub kind : 0 < count → MayBeLast end why

-- ACCEPTED took all of a text, or a front of it where it failed, where a journal failed, or where memory ran out
abbrev pub IsTold : FeedEnd → (old new : Option (List ℕ)) → List ℕ → Type 0
IsTold ends.Ended old new text = Appends old new text
IsTold ends.Closed old new text = Appends old new text
IsTold ends.Stopped old new text = Appends old new text
IsTold ends.Input old new text = Appends old new text
IsTold ends.Accepted old new text = TakesFront old new text
IsTold ends.Journal old new text = TakesFront old new text
IsTold (ends.Full entries bytes) old new text = Appends old new text
IsTold ends.Memory old new text = TakesFront old new text

-- the pass of one of the senders shows it: p before, q behind
pub record OneShows (start now : List Part) (Shows : Part → Part → Type 0) : Type 0 where
  pub sender : ℕ
  pub there : In (length start) sender
  pub shows : Shows (part_at start sender) (part_at now sender)

-- why the outbox ended a feeding is shown by a pass: it has seen the mark, or a call of the disk failed meanwhile or since the opening; what is full is
-- shown beside the lines
abbrev pub IsShown : FeedEnd → (start now : List Part) → Type 0
IsShown ends.Ended start now = ⊤
IsShown ends.Closed start now = OneShows start now (λ p q. q.seen.finished ≡ true)
IsShown ends.Stopped start now = ⊤
IsShown ends.Input start now = ⊤
IsShown ends.Accepted start now = ⊤
IsShown ends.Journal start now = OneShows start now (λ p q. HasFailed p.faults q.faults ⊎ HasFailed q.opening.faults q.faults)
IsShown (ends.Full entries bytes) start now = ⊤
IsShown ends.Memory start now = ⊤

-- what the feeding moves: what the passes of the senders know, and what ACCEPTED has taken
pub record Point : Type 0 where
  pub parts : List Part
  pub taken : Option (List ℕ)

-- Of some lines the first ones were answered, where there are so many senders: this came of each, exactly the entries that were accepted were
-- made, and exactly this was told. A pass lost nothing, or, where a journal failed, the last lines that were answered; and at a limit the first line
-- that was refused gives the payload that is past it
pub record Answered (senders : ℕ) (start now : Point) (lines : List (List ℕ)) (end : FeedEnd) : Type 0 where
  pub first : List (List ℕ)
  pub behind : List (List ℕ)
  pub split : lines ≡ first ++ behind
  pub words : List Word
  pub came : CameOfEach senders first words
  pub fed : Fed start.parts now.parts words
  pub last : AreLast end words
  pub told : IsTold end start.taken now.taken (words_text senders 1 words)
  pub shown : IsShown end start.parts now.parts
  pub full : (entries bytes : ℕ) → end ≡ ends.Full entries bytes → OneFills senders entries bytes now.parts (drop (length last.before) first)
  pub unlost : end ≢ ends.Journal → (s : ℕ) → In senders s → (part_at now.parts s).lost ≡ (part_at start.parts s).lost
  pub lost : (s : ℕ) → In senders s → ((part_at now.parts s).lost ≡ (part_at start.parts s).lost)
      ⊎ LosesLines senders (part_at now.parts s) (drop (length last.before) first)

-- A feeding that ended so: of INPUT this was read, and the first of its lines were answered; where it is at its end, all of them
pub record Feeding (start now : Point) (left_before left_behind : Option (List ℕ)) (end : FeedEnd) : Type 0 where
  pub read : List ℕ
  pub consumed : Consumes left_before left_behind read
  pub answered : Answered (length start.parts) start now (lines_in read) end
  pub whole : end ≡ ends.Ended → (answered.behind ≡ []) × IsAtEnd left_behind

-- the first pass was used for the mark, which was added or refused so, and no other did anything
pub record FinishedBy (start now : List Part) (refused : Option ServeFault) : Type 0 where
  pub long : length now ≡ length start
  pub first : Finishes (part_at start 1) (part_at now 1) refused
  pub others : (s : ℕ) → s ≢ 1 → part_at now s ≡ part_at start s
