-- The command of as many words as a form has.
use Rattle.std.proofs.Common.{◌≡◌, ℕ, ◌<◌, ◌≤◌, List, [], ◌∷◌, length, get_or, refl, ap, sym, ◌∙◌, arith}
use Rattle.std.specs.Prelude.{String, string_bytes}
use Rattle.std.specs.declared.alloc.Global.{Global}
use Rattle.cmd_run.specs.Words.{before_four, before_three, bytes_of, command_of}

pub of_four_words : (words : List (String Global)) (one : String Global) → 4 ≤ length words → length words < 5 → one ≡ get_or words 0 one → command_of (bytes_of words) ≡ before_three (string_bytes one)
of_four_words [] one least below is = absurd (omega (arith, least))
of_four_words (a ∷ []) one least below is = absurd (omega (arith, least))
of_four_words (a ∷ b ∷ []) one least below is = absurd (omega (arith, least))
of_four_words (a ∷ b ∷ c ∷ []) one least below is = absurd (omega (arith, least))
of_four_words (a ∷ b ∷ c ∷ d ∷ []) one least below is = ap (λ s. before_three (string_bytes s)) (sym is)
of_four_words (a ∷ b ∷ c ∷ d ∷ e ∷ more) one least below is = absurd (omega (arith, below))

pub of_five_words : (words : List (String Global)) (one two : String Global) → 5 ≤ length words → length words < 6 → one ≡ get_or words 0 one → two ≡ get_or words 1 two
    → command_of (bytes_of words) ≡ before_four (string_bytes one) (string_bytes two)
of_five_words [] one two least below is also = absurd (omega (arith, least))
of_five_words (a ∷ []) one two least below is also = absurd (omega (arith, least))
of_five_words (a ∷ b ∷ []) one two least below is also = absurd (omega (arith, least))
of_five_words (a ∷ b ∷ c ∷ []) one two least below is also = absurd (omega (arith, least))
of_five_words (a ∷ b ∷ c ∷ d ∷ []) one two least below is also = absurd (omega (arith, least))
of_five_words (a ∷ b ∷ c ∷ d ∷ e ∷ []) one two least below is also = ap (λ s. before_four (string_bytes s) (string_bytes b)) (sym is) ∙ ap (λ s. before_four (string_bytes one) (string_bytes s)) (sym also)
of_five_words (a ∷ b ∷ c ∷ d ∷ e ∷ f ∷ more) one two least below is also = absurd (omega (arith, below))
