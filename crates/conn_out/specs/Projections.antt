-- OUT as a projection of an inbox: its lines that tell of an applied message tell of those of the inbox, each once and in order (this project's profile).
use Rattle.std.specs.Prelude.{⊤, ◌≡◌, ◌⊎◌, ℕ, ◌≤◌, List, [], ◌∷◌, ◌++◌, take, All, Option, Some, None}
use Rattle.session_model.specs.Inbox.{Numbered}
use Rattle.gw_lines.specs.Lines.{IsFeedless, with_feeds}
use Rattle.conn_lines.specs.Lines.{deliver_line}
use Rattle.conn_tail.specs.Tails.{TellsNothing, HasTail}

-- a line, without its line feed, tells of this message
abbrev pub IsOf : List ℕ → Numbered → Type 0
IsOf line m = line ++ 10 ∷ [] ≡ deliver_line m.number m.payload

-- of some lines, those that tell of an applied message tell of these, each once and in order
abbrev pub TellOf : List (List ℕ) → List Numbered → Type 0
TellOf [] [] = ⊤
TellOf [] (m ∷ ms) = ⊥
TellOf (line ∷ lines) [] = TellsNothing line × TellOf lines []
TellOf (line ∷ lines) (m ∷ ms) = (TellsNothing line × TellOf lines (m ∷ ms)) ⊎ (IsOf line m × TellOf lines ms)

-- a text of whole lines tells of these messages
pub record Tells (text : List ℕ) (ms : List Numbered) : Type 0 where
  pub lines : List (List ℕ)
  pub each : All IsFeedless lines
  pub bytes : text ≡ with_feeds lines []
  pub told : TellOf lines ms

-- a content is a text that tells of these messages, and a front of one more line
pub record Projects (content : List ℕ) (ms : List Numbered) : Type 0 where
  pub text : List ℕ
  pub rest : List ℕ
  pub bytes : content ≡ text ++ rest
  pub feedless : IsFeedless rest
  pub tells : Tells text ms

-- a content projects the first of some messages, so many of them at least, or all
pub record ProjectsOn (content : List ℕ) (least : ℕ) (ms : List Numbered) : Type 0 where
  pub count : ℕ
  pub more : least ≤ count
  pub projects : Projects content (take count ms)

-- a number as it is answered, 0 where there is none
abbrev pub number_of : Option ℕ → ℕ
number_of None = 0
number_of (Some number) = number

-- the last whole line of a content that tells of a message tells of the one of this number; the number is 0 where none does
pub record IsLastTold (content : List ℕ) (number : ℕ) : Type 0 where
  pub whole : ℕ
  pub last : Option ℕ
  pub tail : HasTail content whole last
  pub is : number ≡ number_of last
