-- The first identifier that stands twice, found from the front.
use Rattle.std.proofs.Common.{◌≡◌, ℕ, zero, suc, Bool, true, false, cond, List, [], ◌∷◌, ◌++◌, length, Option, Some, None, refl, sym, ◌∙◌, ap, subst, append_assoc, append-nil}
use Rattle.std.specs.Str.{bytes_eq}
use Rattle.std.proofs.lemmas.Bool.{false≢true}
use Rattle.std.proofs.lemmas.Slice.Eq.{bytes_eq-Decides}
use Rattle.std.proofs.Math.Seq.{take-append_seam}
use Rattle.toml_walk.specs.Keys.{is_among}
use Rattle.routes.specs.Identifiers.{StandsAt, IsFirstRepeated, EachOnce}
use Rattle.routes.proofs.Adding.{stands_more, stands_last, once_more, first_repeated}
use Rattle.routes.proofs.Standing.{first_is_one}
use Rattle.cmd_muxanswer.specs.Sessions.{repeated_behind}

-- an identifier that is among others stands at a place, and else at none
among_stands : (id : List ℕ) (ids : List (List ℕ)) → is_among id ids ≡ true → (q : ℕ) × StandsAt ids id q
among_stands id [] e = absurd (false≢true e)
among_stands id (k ∷ ids) e = by_test (λ behind. among_stands id ids behind) (bytes_eq k id) refl e
  where
    by_test : (is_among id ids ≡ true → (q : ℕ) × StandsAt ids id q) → (b : Bool) → bytes_eq k id ≡ b → cond b true (is_among id ids) ≡ true → (q : ℕ) × StandsAt (k ∷ ids) id q
    by_test later true is e = (zero, ap Some ((bytes_eq-Decides k id).0 is))
    by_test later false is e = let behind = later e in (suc behind.0, behind.1)

none_among : (id : List ℕ) (ids : List (List ℕ)) → is_among id ids ≡ false → (q : ℕ) → StandsAt ids id q → ⊥
none_among id [] e q stands = absurd (cc stands)
none_among id (k ∷ ids) e q stands = by_test (λ behind p at. none_among id ids behind p at) (bytes_eq k id) refl e q stands
  where
    by_test : (is_among id ids ≡ false → (p : ℕ) → StandsAt ids id p → ⊥) → (b : Bool) → bytes_eq k id ≡ b → cond b true (is_among id ids) ≡ false → (q : ℕ) → StandsAt (k ∷ ids) id q → ⊥
    by_test later true is e q stands = false≢true (sym e)
    by_test later false is e zero stands = let same : k ≡ id = cc in false≢true (sym is ∙ (bytes_eq-Decides k id).1 same)
    by_test later false is e (suc q) stands = later e q stands

-- what is found of some identifiers
abbrev Found : List (List ℕ) → Option ℕ → Type 0
Found ids None = EachOnce ids
Found ids (Some place) = IsFirstRepeated ids place

found : (earlier ids : List (List ℕ)) → EachOnce earlier → Found (earlier ++ ids) (repeated_behind earlier ids)
found earlier [] once = subst EachOnce (sym (append-nil earlier)) once
found earlier (id ∷ ids) once = by_test (λ each. found (earlier ++ id ∷ []) ids each) (is_among id earlier) refl
  where
    by_test : (EachOnce (earlier ++ id ∷ []) → Found ((earlier ++ id ∷ []) ++ ids) (repeated_behind (earlier ++ id ∷ []) ids)) → (b : Bool) → is_among id earlier ≡ b → Found (earlier ++ id ∷ ids) (cond b (Some (length earlier)) (repeated_behind (earlier ++ id ∷ []) ids))
    by_test later true is =
        let before = among_stands id earlier is in
        let here : StandsAt (earlier ++ id ∷ ids) id (length earlier) =
        subst (λ (l : List (List ℕ)). StandsAt l id (length earlier)) (append_assoc earlier (id ∷ []) ids) (stands_more (earlier ++ id ∷ []) ids id (length earlier) (stands_last earlier id)) in
        first_repeated (earlier ++ id ∷ ids) earlier id (length earlier) before.0 (sym (take-append_seam earlier (id ∷ ids))) once here before.1
    by_test later false is =
        subst (λ (l : List (List ℕ)). Found l (repeated_behind (earlier ++ id ∷ []) ids)) (append_assoc earlier (id ∷ []) ids)
        (later (once_more earlier id once (none_among id earlier is)))

none_once : EachOnce []
none_once p r = absurd (cc r.here)

found_all : (ids : List (List ℕ)) → Found ids (repeated_behind [] ids)
found_all ids = found [] ids none_once

some_first : (ids : List (List ℕ)) (place : ℕ) (o : Option ℕ) → Found ids o → IsFirstRepeated ids place → o ≡ Some place
some_first ids place None once first = absurd (once place first.repeated)
some_first ids place (Some p) other first = ap Some (first_is_one ids p place other first)

none_first : (ids : List (List ℕ)) (o : Option ℕ) → Found ids o → EachOnce ids → o ≡ None
none_first ids None once each = refl
none_first ids (Some p) first each = absurd (each p first.repeated)

pub repeated_first : (ids : List (List ℕ)) (place : ℕ) → IsFirstRepeated ids place → repeated_behind [] ids ≡ Some place
repeated_first ids place first = some_first ids place (repeated_behind [] ids) (found_all ids) first

pub repeated_none : (ids : List (List ℕ)) → EachOnce ids → repeated_behind [] ids ≡ None
repeated_none ids once = none_first ids (repeated_behind [] ids) (found_all ids) once
