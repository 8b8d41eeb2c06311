-- A line, part by part.
use Rattle.std.proofs.Common.{◌≡◌, ℕ, List, ◌++◌, append_assoc}

-- a word and a part of the line behind it, twice, and the end of the line
pub line-parts : (start one two three word part blank more end : List ℕ) → one ≡ start ++ (word ++ part) → two ≡ one ++ (blank ++ more) → three ≡ two ++ end
    → three ≡ start ++ (word ++ part ++ blank ++ more ++ end)
line-parts start one two three word part blank more end p q r = rw (r, q, p) (simp append_assoc)
