-- The lines of a text (this project's profile).
use Rattle.std.specs.Prelude.{ℕ, ◌==◌, ◌&&◌, Bool, false, if◌then◌else◌, List, [], ◌∷◌}

abbrev pub begins_with : ℕ → List ℕ → Bool
begins_with byte [] = false
begins_with byte (b ∷ bs) = b == byte

abbrev pub in_first : ℕ → List (List ℕ) → List (List ℕ)
in_first byte [] = (byte ∷ []) ∷ []
in_first byte (line ∷ lines) = (byte ∷ line) ∷ lines

-- a line without the carriage return (13) at its end
abbrev pub unreturned : List ℕ → List ℕ
unreturned [] = []
unreturned (b ∷ []) = if b == 13 then [] else b ∷ []
unreturned (b ∷ c ∷ cs) = b ∷ unreturned (c ∷ cs)

-- a line ends before a line feed (10), and before a carriage return (13) that stands right before one; the last line may lack its line feed
abbrev pub lines_in : List ℕ → List (List ℕ)
lines_in [] = []
lines_in (b ∷ bs) =
    if b == 10 then [] ∷ lines_in bs
    else (if b == 13 && begins_with 10 bs then lines_in bs else in_first b (lines_in bs))
