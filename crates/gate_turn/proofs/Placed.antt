-- Each pass stands in the place of its number.
use Rattle.std.proofs.Common.{◌≡◌, ℕ, zero, suc, ◌<◌, List, [], ◌∷◌, length, get_or, set, replicate, Option, Some, None, IfSome, refl, sym, ap, ◌∙◌, arith, get_or-set_same, get_or-set_other}
use Rattle.std.proofs.lemmas.Option.{none-some}
use mathlib.Core.Logic.{dite}
use native.Mathlib.Decide.{ℕ_discrete}
use Rattle.gate_turn.specs.Places.{at_number, InPlace}
use Rattle.gate_turn.specs.declared.pass.Pass.{Pass}

-- a fact of what is there, if it is
pub if_some : {A : Type 0} (o : Option A) (P : A → Type 0) → ((a : A) → o ≡ Some a → P a) → IfSome o P
if_some None P f = tt
if_some (Some a) P f = f a refl

module _ {T : Type 0} where
  only_none : (many k : ℕ) → Path (Option (Pass T)) (get_or (replicate many None) k None) None
  only_none zero k = refl
  only_none (suc many) zero = refl
  only_none (suc many) (suc k) = only_none many k

  -- no pass stands anywhere
  pub none_in_places : (many : ℕ) → InPlace {T = T} (replicate many None)
  none_in_places many zero p e = absurd (none-some p e)
  none_in_places many (suc k) p e = absurd (none-some p (sym (only_none many k) ∙ e))

  -- what stands within the list stands at its number, whatever stands for it past the end
  pub at_place : (places : List (Option (Pass T))) (n k : ℕ) (d o : Option (Pass T)) → suc k ≡ n → k < length places → get_or places k d ≡ o → at_number places n ≡ o
  at_place places n k d o same inside e = ap (at_number places) (sym same) ∙ (any_default places k d inside ∙ e)
    where
      any_default : (xs : List (Option (Pass T))) (j : ℕ) (d : Option (Pass T)) → j < length xs → get_or xs j None ≡ get_or xs j d
      any_default [] j d h = absurd (omega arith)
      any_default (x ∷ xs) zero d h = refl
      any_default (x ∷ xs) (suc j) d h = any_default xs j d (omega arith)

  pub set_in_place : (places : List (Option (Pass T))) (k : ℕ) (o : Option (Pass T)) → k < length places → InPlace places → ((p : Pass T) → o ≡ Some p → p.number ≡ suc k) → InPlace (set places k o)
  set_in_place places k o inside all here zero p e = absurd (none-some p e)
  set_in_place places k o inside all here (suc j) p e = dite (ℕ_discrete j k)
      (λ same. here p (sym (ap (λ i. get_or (set places k o) i None) same ∙ get_or-set_same places k o None inside) ∙ e) ∙ ap suc (sym same))
      (λ other. all (suc j) p (sym (get_or-set_other places k j o None other) ∙ e))
