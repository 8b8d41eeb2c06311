-- What an inbox refused as a turn took frames, and what stood in it before (this project's profile).
use Rattle.std.specs.Prelude.{◌≡◌, ⊤, ◌⊎◌, ℕ, ◌+◌, ◌≤◌, true, List, [], ◌∷◌, ◌++◌, length, take, Option, Some, None, IfSome}
use mathlib.Core.List.{IsPrefix}
use Rattle.session_model.specs.Inbox.{InboxRecord, Numbered}
use Rattle.fixp_replies.specs.Acts.{is_record}
use Rattle.fixp_machine.specs.Machine.{run, front_of}
use Rattle.fixp_machine.specs.Accepting.{records_of}
use Rattle.conn_turns.specs.declared.news.NewsItem.{NewsItem}
use Rattle.conn_turns.specs.News.{told_by}
use Rattle.conn_turns.specs.Lines.{Line, TakenFrame, IsNext, AreTaken, lines_after, reply_at, ready_behind, frame_calls}
use Rattle.conn_turns.specs.Frames.{applies, delivers, added}
use Rattle.conn_turns.specs.Turns.{Refusal, of_act, of_held}

-- a held message may be refused behind a frame: that is the next one, its act was told to be done where it is a record, and behind the
-- held messages that were applied the inbox awaits this one
pub record IsAwaited (now : ℕ) (l : Line) (t : TakenFrame) (m : Numbered) : Type 0 where
  pub next : IsNext l t
  pub recorded : t.recorded ≡ is_record (reply_at now l t).act
  pub awaits : front_of (run l.machine (frame_calls now t)) ≡ Some m

-- what was refused is of the next frame
abbrev pub IsRefused : ℕ → Line → Refusal → Type 0
IsRefused now l (of_act t) = IsNext l t
IsRefused now l (of_held t m) = IsAwaited now l t m

-- the records that stood before it: of the frame's act, and of the held messages that were applied
abbrev pub stood : ℕ → Line → Refusal → List InboxRecord
stood now l (of_act t) = []
stood now l (of_held t m) = records_of (reply_at now l t).act t.incoming ++ applies (take t.helds (ready_behind now l t))

-- what was told of those
abbrev pub told_before : ℕ → Line → Refusal → List NewsItem
told_before now l (of_act t) = []
told_before now l (of_held t m) = told_by (reply_at now l t).act t.incoming ++ delivers (take t.helds (ready_behind now l t))

-- the records that were refused
abbrev pub refused : ℕ → Line → Refusal → List InboxRecord
refused now l (of_act t) = records_of (reply_at now l t).act t.incoming
refused now l (of_held t m) = applies (m ∷ [])

-- which are those of an act that is a record, or of a held message
abbrev pub IsOfRecord : ℕ → Line → Refusal → Type 0
IsOfRecord now l (of_act t) = is_record (reply_at now l t).act ≡ true
IsOfRecord now l (of_held t m) = ⊤

-- the same, where something was refused; the record that was refused; and what was told of those that stood before it
abbrev pub stood_of : ℕ → Line → Option Refusal → List InboxRecord
stood_of now l None = []
stood_of now l (Some r) = stood now l r

abbrev pub wanted_of : ℕ → Line → Option Refusal → List InboxRecord
wanted_of now l None = []
wanted_of now l (Some r) = refused now l r

abbrev pub told_of : ℕ → Line → Option Refusal → List NewsItem
told_of now l None = []
told_of now l (Some r) = told_before now l r

-- what was refused is of the first of these frames, as that was taken; of a held message it is so but for how many of those were applied
abbrev pub IsOfFirst : Refusal → List TakenFrame → Type 0
IsOfFirst (of_act t) [] = ⊥
IsOfFirst (of_act t) (x ∷ later) = x ≡ t
IsOfFirst (of_held t m) [] = ⊥
IsOfFirst (of_held t m) (x ∷ later) = t ≡ record x { helds = t.helds }

-- What a failed call of the inbox's disk tried to make stable, behind what these frames added and what stood before what was refused, with which it
-- begins. Further frames had been taken, that of the refusal first, in all as many as a turn takes at most: they add what was tried, and then what was not. What was
-- tried at once are messages that the end applies, or it is that one record
pub record IsTried (now : ℕ) (l : Line) (frames : List TakenFrame) (r : Option Refusal) (tried : List InboxRecord) : Type 0 where
  pub later : List TakenFrame
  pub few : length frames + length later ≤ l.per_turn
  pub taken : AreTaken now l (frames ++ later)
  pub next : IfSome r (λ x. IsOfFirst x later)
  pub untried : List InboxRecord
  pub adds : added now l (frames ++ later) ≡ (added now l frames ++ stood_of now (lines_after now l frames) r) ++ (tried ++ untried)
  pub first : IsPrefix (wanted_of now (lines_after now l frames) r) (tried ++ untried)
  pub alike : (tried ≡ wanted_of now (lines_after now l frames) r) ⊎ ((ms : List Numbered) × (tried ≡ applies ms))
