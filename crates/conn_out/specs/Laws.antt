-- Laws of projections.
use Rattle.std.specs.Prelude.{⊤, ◌≡◌, ℕ, ◌+◌, ◌≤◌, ◌^◌, ◌<◌, List, [], ◌∷◌, ◌++◌, length, take, All}
use Rattle.hex.specs.Hex.{IsBytes}
use Rattle.session_model.specs.Inbox.{Numbered}
use Rattle.conn_lines.specs.Lines.{not_applied_line, connection_line}
use Rattle.conn_lines.specs.declared.close.Close.{Close}
use Rattle.conn_out.specs.Messages.{deliver_lines}
use Rattle.conn_out.specs.Projections.{Tells, Projects, IsLastTold}

-- a front of the messages of a projection is told by its front
pub record FrontTells (content : List ℕ) (ms : List Numbered) : Type 0 where
  pub count : ℕ
  pub projects : Projects content (take count ms)

-- Wherever a projection is cut off, what is left projects the first of its messages: so a run whose process ended at any moment is gone on with
abbrev pub FrontsProject : Type 0
FrontsProject = (content : List ℕ) (ms : List Numbered) (n : ℕ) → Projects content ms → FrontTells (take n content) ms

-- a message as an inbox has it: its number has 64 bits, its payload 16,386 bytes at most
pub record IsMessage (m : Numbered) : Type 0 where
  pub size : m.number < 2 ^ 64
  pub short : length m.payload ≤ 16386
  pub each : IsBytes m.payload

-- a text that tells of some messages, and the lines of more behind it, tell of all of them
abbrev pub LinesTellOn : Type 0
LinesTellOn = (text : List ℕ) (ms more : List Numbered) → Tells text ms → All IsMessage more → Tells (text ++ deliver_lines more) (ms ++ more)

-- and with a line of what the peer did not apply, or of how a connection ended, it tells of the same messages
pub record OthersTellOn : Type 0 where
  pub not_applied : (text : List ℕ) (ms : List Numbered) (from count : ℕ) → Tells text ms → Tells (text ++ not_applied_line from count) ms
  pub ended : (text : List ℕ) (ms : List Numbered) (number : ℕ) (close : Close) → Tells text ms → Tells (text ++ connection_line number close) ms

-- the numbers of messages rise, the first from this one on
abbrev pub AreRising : ℕ → List Numbered → Type 0
AreRising n [] = ⊤
AreRising n (m ∷ ms) = (n ≤ m.number) × AreRising (m.number + 1) ms

-- messages as an inbox has them
abbrev pub AreMessages : List Numbered → Type 0
AreMessages ms = All IsMessage ms

-- the number of the last of some messages, 0 where there is none
abbrev pub last_number : List Numbered → ℕ
last_number [] = 0
last_number (m ∷ []) = m.number
last_number (m ∷ n ∷ ms) = last_number (n ∷ ms)

-- of a projection the last message that is told is the last of its messages
abbrev pub LastIsTold : Type 0
LastIsTold = (content : List ℕ) (ms : List Numbered) (number : ℕ) → AreMessages ms → Projects content ms → IsLastTold content number → number ≡ last_number ms
