-- Words, part by part.
use Rattle.std.proofs.Common.{◌≡◌, ℕ, List, ◌++◌, append_assoc}

-- a word and a part, and then another
pub two-parts : (start one two word part end : List ℕ) → one ≡ start ++ (word ++ part) → two ≡ one ++ end → two ≡ start ++ (word ++ part ++ end)
two-parts start one two word part end p q = rw (q, p) (simp append_assoc)

-- three parts, each behind the others
pub three-parts : (start one two three word part end : List ℕ) → one ≡ start ++ word → two ≡ one ++ part → three ≡ two ++ end → three ≡ start ++ (word ++ part ++ end)
three-parts start one two three word part end p q r = rw (r, q, p) (simp append_assoc)

-- two parts, each a word and a part
pub four-parts : (start one two word part blank more : List ℕ) → one ≡ start ++ (word ++ part) → two ≡ one ++ (blank ++ more) → two ≡ start ++ (word ++ part ++ blank ++ more)
four-parts start one two word part blank more p q = rw (q, p) (simp append_assoc)
