-- The lines that are given are those of the text.
use Rattle.std.specs.Prelude.{◌≡◌, ℕ, List, [], ◌∷◌, ◌++◌, All, map}
use Rattle.text_words.specs.Lines.{lines_in, unreturned}
use Rattle.gw_lines.specs.Lines.{IsFeedless, with_feeds}

-- what stands behind the last line feed is a line where it is not empty
abbrev pub last_line : List ℕ → List (List ℕ)
last_line [] = []
last_line (b ∷ bs) = (b ∷ bs) ∷ []

-- lines with their feeds, and a rest, are a text that has these lines
abbrev pub LinesOfAText : Type 0
LinesOfAText = (lines : List (List ℕ)) (rest : List ℕ) → All IsFeedless lines → IsFeedless rest
    → lines_in (with_feeds lines rest) ≡ map unreturned lines ++ last_line rest
