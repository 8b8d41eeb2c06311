-- From a test of the places before, to the place that it tells of.
use Rattle.std.proofs.Common.{◌≡◌, ℕ, zero, suc, ◌<◌, ◌⊎◌, inl, inr, ◌↔◌, Bool, true, false, not, ◌&&◌, ◌||◌, List, [], ◌∷◌, length, slice_index_or, refl, sym, ap, ◌∙◌, arith, Contains}
use Rattle.std.proofs.lemmas.Bool.{false≢true, and_parts, and_from, or_cases, or_left, or_right, not-true, not_from_false}
use Rattle.std.proofs.lemmas.List.Elements.{Contains-append_right}
use Rattle.std.specs.List.{list_any}
use Rattle.sbe_schema.specs.declared.fault.PathStep.{PathStep}
use Rattle.sbe_schema.specs.Places.{Place, Table}

any_found : (test : Place → Bool) (ps : List Place) → list_any test ps ≡ true → (q : Place) × Contains ps q × (test q ≡ true)
any_found test [] e = absurd (false≢true e)
any_found test (p ∷ ps) e =
    elim (or_cases (test p) (list_any test ps) e) [
      | inl here ↦ (p, (0, omega arith, refl), here)
      | inr more ↦ let found = any_found test ps more in (found.0, Contains-append_right (p ∷ []) ps found.0 found.1, found.2)
    ]

found_at : (test : Place → Bool) (ps : List Place) (q : Place) (k : ℕ) → k < length ps → slice_index_or ps k q ≡ q → test q ≡ true → list_any test ps ≡ true
found_at test [] q k h e t = absurd (omega arith)
found_at test (p ∷ ps) q zero h e t = or_left (test p) (list_any test ps) (ap test e ∙ t)
found_at test (p ∷ ps) q (suc k) h e t = or_right (test p) (list_any test ps) (found_at test ps q k (omega arith) e t)

found_any : (test : Place → Bool) (ps : List Place) (q : Place) → Contains ps q → test q ≡ true → list_any test ps ≡ true
found_any test ps q c t = found_at test ps q c.0 c.1 c.2 t

-- a test of the places before tells of one of them
module _ (near : List PathStep → List PathStep → Bool) (Near : List PathStep → List PathStep → Type 0) (tells : (xs ys : List PathStep) → near xs ys ≡ true → Near xs ys) (are : (xs ys : List PathStep) → Near xs ys → near xs ys ≡ true) where
  pub known_pair : (before : List Place) (path : List PathStep) (test : Table → Bool) (Has : Table → Type 0) → ((t : Table) → test t ≡ true → Has t) → ((t : Table) → Has t → test t ≡ true)
      → (b : Bool) → b ≡ list_any (λ q. near q.path_steps path && test q.table) before → (b ≡ true) ↔ ((q : Place) × Contains before q × Near q.path_steps path × Has q.table)
  known_pair before path test Has has is b known =
      let there : b ≡ true → (q : Place) × Contains before q × Near q.path_steps path × Has q.table
      = λ yes.
      let found = any_found (λ q. near q.path_steps path && test q.table) before (sym known ∙ yes) in
      let both = and_parts (near found.0.path_steps path) (test found.0.table) found.2 in
      (found.0, found.1, tells found.0.path_steps path both.0, has found.0.table both.1) in
      let back : ((q : Place) × Contains before q × Near q.path_steps path × Has q.table) → b ≡ true
      = λ s. known ∙ found_any (λ q. near q.path_steps path && test q.table) before s.0 s.1 (and_from (near s.0.path_steps path) (test s.0.table) (are s.0.path_steps path s.2) (is s.0.table s.3)) in
      (there, back)

pub or_either : (a w : Bool) (Q : Type 0) → (a ≡ true) ↔ Q → ((a || not w) ≡ true) ↔ (Q ⊎ (w ≡ false))
or_either a w Q h =
    (λ e. elim (or_cases a (not w) e) [ inl x ↦ inl (h.0 x) | inr y ↦ inr (not-true w y) ], λ s. elim s [ inl q ↦ or_left a (not w) (h.1 q) | inr y ↦ or_right a (not w) (not_from_false w y) ])
