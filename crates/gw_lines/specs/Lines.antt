-- The lines of a text that comes in pieces (this project's profile).
use Rattle.std.specs.Prelude.{◌≡◌, ℕ, ◌<◌, ◌≤◌, List, [], ◌∷◌, ◌++◌, length, slice_index}
use Rattle.gw_lines.specs.declared.found.Found.{Found}
use Rattle.gw_lines.specs.declared.found.Found.TheVariants.{Whole, TooLong}

-- The most bytes that a line has before its line feed. Of INPUT the longest line that gives a payload has 32,778: a sender of five digits, a
-- blank and 16,386 bytes in hexadecimal. Of OUT the longest has 32,801: a word, a number of twenty digits, and that payload. Of a message's
-- text it has a path, and a value of up to 16,384 bytes in hexadecimal. A carriage return may stand behind each.
abbrev pub longest : ℕ
longest = 65536

-- no byte is a line feed (10)
abbrev pub IsFeedless : List ℕ → Type 0
IsFeedless bytes = (k : ℕ) → k < length bytes → slice_index bytes k ≡ 10 → ⊥

-- some lines, each with a line feed behind it, and what stands behind the last one
abbrev pub with_feeds : List (List ℕ) → List ℕ → List ℕ
with_feeds [] rest = rest
with_feeds (line ∷ lines) rest = line ++ 10 ∷ with_feeds lines rest

-- what is told of a line of these bytes: what it says is lent, or it is too long
abbrev pub IsTold : Found → List ℕ → List ℕ → List ℕ → Type 0
IsTold Whole lent says bytes = (length bytes ≤ longest) × (lent ≡ says)
IsTold TooLong lent says bytes = longest < length bytes
