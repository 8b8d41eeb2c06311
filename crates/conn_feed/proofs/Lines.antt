-- The lines that a reader gave, and those of the text that was read.
use Rattle.std.proofs.Common.{◌≡◌, ℕ, ◌+◌, ◌≤◌, suc, ◌==◌, true, false, List, [], ◌∷◌, ◌++◌, length, map, refl, ap, ◌∙◌, arith}
use Rattle.std.specs.Prelude.{All}
use Rattle.std.proofs.lemmas.Bool.Decides.{nat_tests}
use Rattle.std.proofs.lemmas.List.Elements.{All-head, All-tail}
use Rattle.text_words.specs.Lines.{lines_in, unreturned}
use Rattle.text_words.proofs.Feeds.{no_feeds, first_of_lines, last_of_lines}
use Rattle.gw_lines.specs.Lines.{IsFeedless, with_feeds}

none_is : (bytes : List ℕ) → IsFeedless bytes → no_feeds bytes ≡ true
none_is [] h = refl
none_is (b ∷ bs) h =
    let other : (b == 10) ≡ false = differs b (h 0 (omega arith)) in
    rw other (none_is bs (λ k l. h (suc k) (omega arith)))
  where
    differs : (b : ℕ) → (b ≡ 10 → ⊥) → (b == 10) ≡ false
    differs b h = grind (arith, nat_tests)

-- lines with their feeds are the first of a text, whatever stands behind them
pub first_lines : (lines : List (List ℕ)) (rest : List ℕ) → All IsFeedless lines → lines_in (with_feeds lines rest) ≡ map unreturned lines ++ lines_in rest
first_lines [] rest each = refl
first_lines (line ∷ lines) rest each =
    first_of_lines line (with_feeds lines rest) (none_is line (All-head IsFeedless line lines each))
    ∙ ap (λ (ls : List (List ℕ)). unreturned line ∷ ls) (first_lines lines rest (All-tail IsFeedless line lines each))

-- what stands behind the last line feed is a line
pub last_is : (b : ℕ) (bs : List ℕ) → IsFeedless (b ∷ bs) → lines_in (b ∷ bs) ≡ (b ∷ bs) ∷ []
last_is b bs h = last_of_lines b bs (none_is (b ∷ bs) h)

-- a line loses one byte at most
pub unreturned_long : (line : List ℕ) → length line ≤ length (unreturned line) + 1
unreturned_long [] = omega arith
unreturned_long (b ∷ []) = omega arith
unreturned_long (b ∷ c ∷ cs) = let rest = unreturned_long (c ∷ cs) in omega (arith, rest)
