-- At most one of some things in order is the first of which something does not hold.
use Rattle.std.proofs.Common.{◌≡◌, List, [], ◌∷◌, ◌++◌, sym, subst, ◌∙◌}
use Rattle.std.specs.List.{AllByRecursion}
use Rattle.jr_title.specs.Firsts.{IsFirst}

module _ {K : Type 0} (Holds : K → Type 0) where
  same : (a x b y : List K) (j k : K) → AllByRecursion Holds a → AllByRecursion Holds b → (Holds j → ⊥) → (Holds k → ⊥) → a ++ j ∷ x ≡ b ++ k ∷ y → j ≡ k
  same [] x [] y j k all_a all_b not_j not_k e = cc
  same [] x (c ∷ b) y j k all_a all_b not_j not_k e =
      let head : c ≡ j = cc in absurd (not_j (subst Holds head all_b.0))
  same (c ∷ a) x [] y j k all_a all_b not_j not_k e =
      let head : c ≡ k = cc in absurd (not_k (subst Holds head all_a.0))
  same (c ∷ a) x (d ∷ b) y j k all_a all_b not_j not_k e =
      let tails : a ++ j ∷ x ≡ b ++ k ∷ y = cc in same a x b y j k all_a.1 all_b.1 not_j not_k tails

  pub one_first : (order : List K) (j k : K) → IsFirst order Holds j → IsFirst order Holds k → j ≡ k
  one_first order j k first second =
      same first.before first.behind second.before second.behind j k first.held second.held first.fails second.fails (sym first.whole ∙ second.whole)

  held_there : (before behind : List K) (k : K) → AllByRecursion Holds (before ++ k ∷ behind) → Holds k
  held_there [] behind k all = all.0
  held_there (c ∷ before) behind k all = held_there before behind k all.1

  -- where it holds of all, none is the first
  pub none_first : (order : List K) (k : K) → AllByRecursion Holds order → IsFirst order Holds k → ⊥
  none_first order k all first =
      first.fails (held_there first.before first.behind k (subst (λ (xs : List K). AllByRecursion Holds xs) first.whole all))
