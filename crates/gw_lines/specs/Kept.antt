-- What is kept of the front of a line, step by step. These are steps of the proof: nothing that a user relies on needs them.
use Rattle.std.specs.Prelude.{◌≡◌, ℕ, List, ◌++◌, Option, Some, None}
use Rattle.gw_lines.specs.declared.found.Found.{Found}
use Rattle.gw_lines.specs.declared.found.Found.TheVariants.{Whole, TooLong}
use Rattle.text_words.specs.Lines.{unreturned}
use Rattle.gw_lines.specs.Reading.{kept}

-- what is kept where more bytes stand behind it
abbrev pub kept_behind : Option (List ℕ) → List ℕ → Option (List ℕ)
kept_behind None more = None
kept_behind (Some front) more = kept (front ++ more)

-- what is told of a whole line by what was kept of it
abbrev pub ToldOf : Option (List ℕ) → Found → List ℕ → Type 0
ToldOf front Whole line = front ≡ Some line
ToldOf front TooLong line = front ≡ None

-- what is told of a line that a line feed ends
abbrev pub EndsAs : Option (List ℕ) → Found → List ℕ → Type 0
EndsAs front Whole lent = (bytes : List ℕ) × (front ≡ Some bytes) × (lent ≡ unreturned bytes)
EndsAs front TooLong lent = front ≡ None
