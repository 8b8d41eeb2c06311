-- Blanks at the ends of a text.
use Rattle.std.proofs.Common.{◌≡◌, ℕ, true, false, if◌then◌else◌, List, [], ◌∷◌, ◌++◌, ap, sym, ◌∙◌}
use Rattle.text_names.specs.Bare.{is_blank, unended, unless_last}

-- a blank at the end goes
pub blank_last : (front : List ℕ) (last : ℕ) → is_blank last ≡ true → unended (front ++ last ∷ []) ≡ unended front
blank_last [] last h = ap (λ t. if t then [] else last ∷ []) h
blank_last (b ∷ bs) last h = ap (unless_last b) (blank_last bs last h)

-- what ends with no blank stays
pub other_last : (front : List ℕ) (last : ℕ) → is_blank last ≡ false → unended (front ++ last ∷ []) ≡ front ++ last ∷ []
other_last [] last h = ap (λ t. if t then [] else last ∷ []) h
other_last (b ∷ []) last h = ap (unless_last b) (other_last [] last h)
other_last (b ∷ c ∷ cs) last h = ap (unless_last b) (other_last (c ∷ cs) last h)

-- ---- the same of a text that is cut before its last byte

pub blank_goes : (text front : List ℕ) (last : ℕ) → text ≡ front ++ last ∷ [] → is_blank last ≡ true → unended front ≡ unended text
blank_goes text front last e h = sym (ap unended e ∙ blank_last front last h)

pub other_stays : (text front : List ℕ) (last : ℕ) → text ≡ front ++ last ∷ [] → is_blank last ≡ false → unended text ≡ text
other_stays text front last e h = ap unended e ∙ other_last front last h ∙ sym e
