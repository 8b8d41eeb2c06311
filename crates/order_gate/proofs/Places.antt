-- Lists that are gone through place by place.
use Rattle.std.proofs.Common.{◌≡◌, ◌≢◌, ◌⊎◌, ℕ, zero, suc, ◌+◌, ◌<◌, ◌≤◌, List, [], ◌∷◌, length, slice_index_or, slice_set, inl, inr, refl, sym, ap, subst, ◌∙◌, arith}
use Rattle.std.proofs.lemmas.List.{get_or-set_same, get_or-set_other}

pub lt_or_eq : (i p : ℕ) → i < p + 1 → (i < p) ⊎ (i ≡ p)
lt_or_eq zero zero h = inr refl
lt_or_eq zero (suc p) h = inl (omega arith)
lt_or_eq (suc i) zero h = absurd (omega (arith, h))
lt_or_eq (suc i) (suc p) h = lift (lt_or_eq i p (omega (arith, h)))
  where
    lift : (i < p) ⊎ (i ≡ p) → (suc i < suc p) ⊎ (suc i ≡ suc p)
    lift (inl a) = inl (omega (arith, a))
    lift (inr e) = inr (ap suc e)

module _ {A : Type 0} (old new : List A) (place : ℕ) (y : A) (inside : place < length new) where
  -- one more place was changed so
  pub one_more : (P : A → A → ℕ → Type 0) → ((i : ℕ) (d : A) → i < place → P (slice_index_or old i d) (slice_index_or new i d) i) → ((d : A) → P (slice_index_or old place d) y place)
      → (i : ℕ) (d : A) → i < place + 1 → P (slice_index_or old i d) (slice_index_or (slice_set new place y) i d) i
  one_more P done this i d few = at (lt_or_eq i place few)
    where
      at : (i < place) ⊎ (i ≡ place) → P (slice_index_or old i d) (slice_index_or (slice_set new place y) i d) i
      at (inl less) = subst (λ z. P (slice_index_or old i d) z i) (sym (get_or-set_other new place i y d (λ e. omega (arith, less, e)))) (done i d less)
      at (inr e) = subst (λ k. P (slice_index_or old k d) (slice_index_or (slice_set new place y) k d) k) (sym e) (subst (λ z. P (slice_index_or old place d) z place) (sym (get_or-set_same new place y d inside)) (this d))

  -- those behind it are as they were
  pub left_more : ((i : ℕ) (d : A) → place ≤ i → slice_index_or new i d ≡ slice_index_or old i d) → (i : ℕ) (d : A) → place + 1 ≤ i → slice_index_or (slice_set new place y) i d ≡ slice_index_or old i d
  left_more left i d more = get_or-set_other new place i y d (λ e. omega (arith, more, e)) ∙ left i d (omega (arith, more))
