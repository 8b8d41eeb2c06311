-- A line without the carriage return at its end.
use Rattle.std.proofs.Common.{◌≡◌, ℕ, ◌==◌, true, false, List, [], ◌∷◌, ◌++◌, length, take, refl, ap, sym, ◌∙◌}
use Rattle.std.proofs.Math.Seq.{take-append_seam}
use Rattle.text_words.specs.Lines.{unreturned}
use Rattle.text_words.proofs.Feeds.{unreturned_last}

taken_all : (xs : List ℕ) → take (length xs) xs ≡ xs
taken_all [] = refl
taken_all (x ∷ xs) = ap (λ (ys : List ℕ). x ∷ ys) (taken_all xs)

pub without_return : (line front : List ℕ) (x : ℕ) → line ≡ front ++ x ∷ [] → (x == 13) ≡ true → take (length front) line ≡ unreturned line
without_return line front x split is = rw split (take-append_seam front (x ∷ []) ∙ sym (unreturned_last front x ∙ rw is refl))

pub with_none : (line front : List ℕ) (x : ℕ) → line ≡ front ++ x ∷ [] → (x == 13) ≡ false → take (length line) line ≡ unreturned line
with_none line front x split other = rw split (taken_all (front ++ x ∷ []) ∙ sym (unreturned_last front x ∙ rw other refl))
