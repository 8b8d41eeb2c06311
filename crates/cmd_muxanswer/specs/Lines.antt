-- The lines of several sessions: each is a line of one session's own answer behind its number, which counts from 1 (this project's profile).
use Rattle.std.specs.Prelude.{ℕ, ◌==◌, if◌then◌else◌, List, [], ◌∷◌, ◌++◌, codes, decimal, Option, Some, None}
use Rattle.std.specs.List.{flat_map}
use Rattle.fixp_replies.specs.declared.act.Ending.{Ending}
use Rattle.fixp_replies.specs.declared.act.Ending.TheVariants as endings
use Rattle.conn_lines.specs.Lines.{ending_words}

-- a line, with its line feed, of the session of this number
pub record Line : Type 0 where
  pub number : ℕ
  pub text : List ℕ

-- `S TEXT`
abbrev pub line_bytes : Line → List ℕ
line_bytes l = decimal l.number ++ codes " " ++ l.text

abbrev pub bytes_of_lines : List Line → List ℕ
bytes_of_lines = flat_map line_bytes

-- a line that may be none
abbrev pub lines_with : ℕ → List ℕ → List Line
lines_with number [] = []
lines_with number (byte ∷ text) = (record { number = number; text = byte ∷ text }) ∷ []

-- `violation V`, where the connection ended by a broken rule, whose number is V
abbrev pub violation_text : Option Ending → List ℕ
violation_text None = []
violation_text (Some endings.Finished) = []
violation_text (Some (endings.PeerTerminated code)) = []
violation_text (Some endings.LinkEnded) = []
violation_text (Some (endings.Rejected template code)) = []
violation_text (Some (endings.Violation violation)) = ending_words (endings.Violation violation) ++ codes "\n"

-- the lines of one session, without its number
abbrev pub texts_of : ℕ → List Line → List ℕ
texts_of number [] = []
texts_of number (l ∷ lines) = if l.number == number then l.text ++ texts_of number lines else texts_of number lines
