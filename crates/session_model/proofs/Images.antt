-- The images of a journal none or one of whose records was refused.
use Rattle.std.proofs.Common.{◌≡◌, ◌⊎◌, List, [], ◌∷◌, ◌++◌, inl, inr, refl, sym, ap, subst, ◌∙◌, append-nil}
use mathlib.Core.List.{IsPrefix}
use Rattle.session_model.specs.Lives.{IsImage}

kept_of_none : {A : Type 0} (kept : List A) → IsPrefix kept [] → kept ≡ []
kept_of_none [] b = refl
kept_of_none (x ∷ kept) b = absurd (cc (b.1))

kept_of_one : {A : Type 0} (r : A) (kept : List A) → IsPrefix kept (r ∷ []) → (kept ≡ []) ⊎ (kept ≡ r ∷ [])
kept_of_one r [] b = inl refl
kept_of_one r (x ∷ []) b = inr (cc (b.1))
kept_of_one r (x ∷ y ∷ kept) b = absurd (cc (b.1))

-- where nothing was refused, what holds of the closing records holds of each image
pub image_of_none : {A : Type 0} (P : List A → Type 0) (closing image : List A) → P closing → IsImage closing [] image → P image
image_of_none P closing image p g =
    subst P (sym (g.holds ∙ (ap (λ ks. closing ++ ks) (kept_of_none g.kept g.beginning) ∙ append-nil closing))) p

-- where one record was refused, each image has it or has it not
pub image_of_one : {A : Type 0} (P : List A → Type 0) (closing : List A) (r : A) (image : List A) → P closing → P (closing ++ r ∷ []) → IsImage closing (r ∷ []) image → P image
image_of_one P closing r image p q g = by_kept (kept_of_one r g.kept g.beginning)
  where
    by_kept : (g.kept ≡ []) ⊎ (g.kept ≡ r ∷ []) → P image
    by_kept (inl e) = subst P (sym (g.holds ∙ (ap (λ ks. closing ++ ks) e ∙ append-nil closing))) p
    by_kept (inr e) = subst P (sym (g.holds ∙ ap (λ ks. closing ++ ks) e)) q
