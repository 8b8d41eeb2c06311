-- What comes of lines of INPUT, and what ACCEPTED is told of it (this project's profile).
use Rattle.std.specs.Prelude.{⊤, ℕ, zero, suc, ◌+◌, ◌-◌, ◌^◌, ◌≤◌, min, List, [], ◌∷◌, ◌++◌, length}
use Rattle.session_model.specs.Journal.{Entry}
use Rattle.gw_lines.specs.Lines.{longest}
use Rattle.plan_text.specs.Plans.{Gift, Gives}
use Rattle.plan_feed.specs.Wrongs.{IsWrong}
use Rattle.conn_accepted.specs.declared.why.Why.{Why}
use Rattle.conn_accepted.specs.declared.why.Why.TheVariants.{Wrong, TooLong, Full, Closed, Failed, Memory}
use Rattle.conn_accepted.specs.Lines.{has_line, accepted_line, refused_line}

-- what came of a line: it is the message of this number in the outbox, this entry; or it was not sent
pub data Word : Type 0 where
  accepted : ℕ → Entry → Word
  refused : Why → Word

-- the line of ACCEPTED that says it of the line of this number, of which 2^64 - 1 is the greatest
abbrev pub word_line : (senders line : ℕ) → Word → List ℕ
word_line senders line (accepted n e) = accepted_line n e.sender e.own_number
word_line senders line (refused why) = refused_line senders (min line (2 ^ 64 - 1)) why

-- the lines of ACCEPTED that say it of lines from this number on
abbrev pub words_text : (senders line : ℕ) → List Word → List ℕ
words_text senders line [] = []
words_text senders line (w ∷ ws) = word_line senders line w ++ words_text senders (line + 1) ws

-- the entries of those that were accepted
abbrev pub entries_in : List Word → List Entry
entries_in [] = []
entries_in (accepted n e ∷ ws) = e ∷ entries_in ws
entries_in (refused why ∷ ws) = entries_in ws

-- so many lines were refused alike
abbrev pub alike : Why → ℕ → List Word
alike why zero = []
alike why (suc count) = refused why ∷ alike why count

-- a line gives a payload to one of so many senders
abbrev pub GivesSome : ℕ → List ℕ → Type 0
GivesSome senders line = (g : Gift) × Gives senders line g

-- a line was refused for what is wrong with it; since it is longer than one that gives a payload; or although it gives one
abbrev pub IsWhy : ℕ → List ℕ → Why → Type 0
IsWhy senders line (Wrong wrong) = IsWrong senders line wrong
IsWhy senders line TooLong = longest ≤ length line
IsWhy senders line Full = GivesSome senders line
IsWhy senders line Closed = GivesSome senders line
IsWhy senders line Failed = GivesSome senders line
IsWhy senders line Memory = GivesSome senders line

-- this came of a line: the entry has the sender and the payload that the line gives, or it was refused for what is so of it
abbrev pub CameOf : ℕ → List ℕ → Word → Type 0
CameOf senders line (accepted n e) = Gives senders line (record { sender = e.sender; payload = e.payload })
CameOf senders line (refused why) = IsWhy senders line why

-- so it is of each of some lines, in order
abbrev pub CameOfEach : ℕ → List (List ℕ) → List Word → Type 0
CameOfEach senders [] [] = ⊤
CameOfEach senders [] (w ∷ ws) = ⊥
CameOfEach senders (line ∷ lines) [] = ⊥
CameOfEach senders (line ∷ lines) (w ∷ ws) = CameOf senders line w × CameOfEach senders lines ws

-- a line that gives a payload was accepted
abbrev pub IsClear : Word → Type 0
IsClear (accepted n e) = ⊤
IsClear (refused (Wrong wrong)) = ⊤
IsClear (refused TooLong) = ⊤
IsClear (refused Full) = ⊥
IsClear (refused Closed) = ⊥
IsClear (refused Failed) = ⊥
IsClear (refused Memory) = ⊥

-- the lines of how many messages each sender has, from this sender on
abbrev pub counts_text : (sender : ℕ) → List ℕ → List ℕ
counts_text sender [] = []
counts_text sender (count ∷ counts) = has_line sender count ++ counts_text (sender + 1) counts
