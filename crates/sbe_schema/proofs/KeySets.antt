-- A sorted list of keys as a set.
use Rattle.std.proofs.Common.{◌≡◌, ◌∙◌, sym, ap, refl, Bool, true, false, ◌||◌, List, [], ◌∷◌}
use Rattle.std.specs.declared.cmp.Ordering.{Ordering}
use Rattle.std.specs.declared.cmp.Ordering.TheVariants.{Less, Equal, Greater}
use Rattle.std.specs.Ordering.{eq_by_cmp, match_ordering}
use Rattle.std.specs.Cmp.{IsTotalOrder}
use Rattle.std.specs.List.{list_any}
use Rattle.std.specs.BTreeSet.{insert_key}
use Rattle.std.specs.FinSet as set

or_swap : (a b c : Bool) → (a || (b || c)) ≡ (b || (a || c))
or_swap true true c = refl
or_swap true false c = refl
or_swap false b c = refl

or_again : (a b : Bool) → (a || b) ≡ (a || (a || b))
or_again true b = refl
or_again false b = refl

module _ {K : Type 0} {R : K → K → Ordering} (o : IsTotalOrder R) (same : set.IsAntisymmetric R) where
  any_insert_key : (q k : K) (ks : List K) → list_any (eq_by_cmp R q) (insert_key R ks k) ≡ (eq_by_cmp R q k || list_any (eq_by_cmp R q) ks)
  any_insert_key q k [] = refl
  any_insert_key q k (x ∷ xs) =
      elim (R k x) as (λ r. R k x ≡ r → list_any (eq_by_cmp R q) (match_ordering r (k ∷ x ∷ xs) (x ∷ xs) (x ∷ insert_key R xs k)) ≡ (eq_by_cmp R q k || (eq_by_cmp R q x || list_any (eq_by_cmp R q) xs))) [
        | Less ↦ λ _. refl
        | Equal ↦ λ e. or_again (eq_by_cmp R q x) _ ∙ ap (λ y. eq_by_cmp R q y || (eq_by_cmp R q x || list_any (eq_by_cmp R q) xs)) (sym (same k x e))
        | Greater ↦ λ _. ap (λ b. eq_by_cmp R q x || b) (any_insert_key q k xs) ∙ or_swap (eq_by_cmp R q x) (eq_by_cmp R q k) _
      ] refl

  pub from_list-insert_key : (ks : List K) (k : K) → set.from_list {R = R} (insert_key R ks k) ≡ set.insert (set.from_list ks) k
  from_list-insert_key ks k =
      set.same_set o same _ _ (λ q. set.contains-from_list o _ q ∙ any_insert_key q k ks ∙ sym (set.contains-insert o _ k q ∙ ap (λ b. eq_by_cmp R q k || b) (set.contains-from_list o ks q)))
