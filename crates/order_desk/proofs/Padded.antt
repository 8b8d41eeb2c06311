-- A text with NUL behind it to eight bytes, byte by byte.
use Rattle.std.proofs.Common.{◌≡◌, ℕ, List, [], ◌∷◌, ◌++◌, take, get_or, refl, ap, ◌∙◌}
use Rattle.sbe_grammar.specs.Canonical.{zeros}
use Rattle.order_desk.specs.declared.order.Symbol.{Symbol}
use Rattle.order_desk.specs.Orders.{symbol_of}

abbrev pub symbol : List ℕ → Symbol
symbol text = record { text = text }

pub padded : (t : List ℕ) → get_or t 0 0 ∷ get_or t 1 0 ∷ get_or t 2 0 ∷ get_or t 3 0 ∷ get_or t 4 0 ∷ get_or t 5 0 ∷ get_or t 6 0 ∷ get_or t 7 0 ∷ [] ≡ take 8 (t ++ zeros 8)
padded [] = refl
padded (a ∷ []) = refl
padded (a ∷ b ∷ []) = refl
padded (a ∷ b ∷ c ∷ []) = refl
padded (a ∷ b ∷ c ∷ d ∷ []) = refl
padded (a ∷ b ∷ c ∷ d ∷ e ∷ []) = refl
padded (a ∷ b ∷ c ∷ d ∷ e ∷ f ∷ []) = refl
padded (a ∷ b ∷ c ∷ d ∷ e ∷ f ∷ g ∷ []) = refl
padded (a ∷ b ∷ c ∷ d ∷ e ∷ f ∷ g ∷ h ∷ t) = refl

pub symbol_is : (t : List ℕ) (a b c d e f g h : ℕ) → a ≡ get_or t 0 0 → b ≡ get_or t 1 0 → c ≡ get_or t 2 0 → d ≡ get_or t 3 0 → e ≡ get_or t 4 0 → f ≡ get_or t 5 0 → g ≡ get_or t 6 0 → h ≡ get_or t 7 0
    → symbol (a ∷ b ∷ c ∷ d ∷ e ∷ f ∷ g ∷ h ∷ []) ≡ symbol_of t
symbol_is t a b c d e f g h p q r s u v w x = ap symbol ((λ i. p i ∷ q i ∷ r i ∷ s i ∷ u i ∷ v i ∷ w i ∷ x i ∷ []) ∙ padded t)
