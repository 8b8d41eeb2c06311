-- One more identifier behind the others.
use Rattle.std.proofs.Common.{◌≡◌, ◌⊎◌, ⊎_elim, inl, inr, ℕ, zero, suc, ◌+◌, ◌<◌, List, [], ◌∷◌, ◌++◌, length, get_or, take, drop, take-append-drop, Some, refl, sym, ◌∙◌, ap, subst, arith}
use Rattle.std.proofs.lemmas.Grind.{take_at_read}
use Rattle.std.specs.List.{AllByRecursion}
use Rattle.routes.specs.Identifiers.{StandsAt, IsRepeated, IsFirstRepeated, EachOnce}
use Rattle.routes.specs.Sorted.{Rising, Has, IsRoute, IsSorted, IsBetween, IsIdentifier, key_of}
use Rattle.routes.specs.declared.sorted.Route.{Route}
use Rattle.routes.proofs.Keys.{key_one}
use Rattle.routes.proofs.Searching.{Above, Below, all_append, all_split, all_map, rising_between, has_more, has_between, has_one, route_at}

pub stands_more : (ids more : List (List ℕ)) (id : List ℕ) (p : ℕ) → StandsAt ids id p → StandsAt (ids ++ more) id p
stands_more [] more id p at = absurd (cc at)
stands_more (x ∷ ids) more id zero at = at
stands_more (x ∷ ids) more id (suc p) at = stands_more ids more id p at

pub stands_last : (ids : List (List ℕ)) (id : List ℕ) → StandsAt (ids ++ id ∷ []) id (length ids)
stands_last [] id = refl
stands_last (x ∷ ids) id = stands_last ids id

pub stands_cases : (ids : List (List ℕ)) (last id : List ℕ) (p : ℕ) → StandsAt (ids ++ last ∷ []) id p → StandsAt ids id p ⊎ ((last ≡ id) × (length ids ≡ p))
stands_cases [] last id zero at = let same : last ≡ id = cc at in inr (same, refl)
stands_cases [] last id (suc p) at = absurd (cc at)
stands_cases (x ∷ ids) last id zero at = inl at
stands_cases (x ∷ ids) last id (suc p) at = ⊎_elim (λ (old : StandsAt ids id p). inl old) (λ (h : (last ≡ id) × (length ids ≡ p)). inr (h.0, ap suc h.1)) (stands_cases ids last id p at)

more_route : (ids more : List (List ℕ)) (r : Route) → IsRoute ids r → IsRoute (ids ++ more) r
more_route ids more r is = record { id = is.id; stands = stands_more ids more is.id r.place is.stands; is = is.is; key = is.key }

-- the table with one more identifier
pub sorted_more : (ids : List (List ℕ)) (routes : List Route) (id : List ℕ) (at : ℕ) (r : Route) → IsSorted ids routes → IsIdentifier id → IsBetween routes at (key_of id) → r.key ≡ key_of id → r.place ≡ length ids → IsSorted (ids ++ id ∷ []) (take at routes ++ r ∷ drop at routes)
sorted_more ids routes id at r sorted is between key place =
    let xs = take at routes in
    let ys = drop at routes in
    let same : xs ++ ys ≡ routes = take-append-drop at routes in
    let parts = all_split (IsRoute ids) xs ys (subst (AllByRecursion (IsRoute ids)) (sym same) sorted.each) in
    let step = all_map (IsRoute ids) (IsRoute (ids ++ id ∷ [])) (more_route ids (id ∷ [])) in
    let new : IsRoute (ids ++ id ∷ []) r = record { id = id; stands = subst (StandsAt (ids ++ id ∷ []) id) (sym place) (stands_last ids id); is = is; key = key } in
    let below : Below r.key xs = subst (λ (k : ℕ). Below k xs) (sym key) between.below in
    let above : Above r.key ys = subst (λ (k : ℕ). Above k ys) (sym key) between.above in
    record {
      rising = rising_between xs ys r (subst Rising (sym same) sorted.rising) below above;
      each = all_append (IsRoute (ids ++ id ∷ [])) xs (r ∷ ys) (step xs parts.0) (new, step ys parts.1);
      all = λ x p stands. ⊎_elim
          (λ (old : StandsAt ids x p). has_more xs ys r (key_of x) p (subst (λ (rs : List Route). Has rs (key_of x) p) (sym same) (sorted.all x p old)))
          (λ (last : (id ≡ x) × (length ids ≡ p)). has_last xs ys r (key_of x) p (key ∙ ap key_of last.0) (place ∙ last.1))
          (stands_cases ids id x p stands);
    }
  where
    has_last : (xs ys : List Route) (r : Route) (k p : ℕ) → r.key ≡ k → r.place ≡ p → Has (xs ++ r ∷ ys) k p
    has_last [] ys r k p key place = inl (key, place)
    has_last (x ∷ xs) ys r k p key place = inr (has_last xs ys r k p key place)

-- an identifier whose number stands at no index is none of them
pub none_stands : (ids : List (List ℕ)) (routes : List Route) (id : List ℕ) (at p : ℕ) → IsSorted ids routes → IsBetween routes at (key_of id) → StandsAt ids id p → ⊥
none_stands ids routes id at p sorted between stands =
    has_between (take at routes) (drop at routes) (key_of id) p between.below between.above
    (subst (λ (rs : List Route). Has rs (key_of id) p) (sym (take-append-drop at routes)) (sorted.all id p stands))

-- one whose number stands at an index stands at its place, and at no other
pub there_stands : (ids : List (List ℕ)) (routes : List Route) (id : List ℕ) (i : ℕ) (d : Route) → IsSorted ids routes → IsIdentifier id → i < length routes → (get_or routes i d).key ≡ key_of id → StandsAt ids id (get_or routes i d).place
there_stands ids routes id i d sorted is within key =
    let route = route_at ids routes i d within sorted.each in
    subst (λ (x : List ℕ). StandsAt ids x (get_or routes i d).place) (key_one route.id id route.is is (sym route.key ∙ key)) route.stands

pub only_stands : (ids : List (List ℕ)) (routes : List Route) (id : List ℕ) (i p : ℕ) (d : Route) → IsSorted ids routes → i < length routes → (get_or routes i d).key ≡ key_of id → StandsAt ids id p → (get_or routes i d).place ≡ p
only_stands ids routes id i p d sorted within key stands = has_one routes i (key_of id) p d sorted.rising within key (sorted.all id p stands)

pub none_sorted : IsSorted [] []
none_sorted = record { rising = tt; each = tt; all = λ id p stands. absurd (cc stands) }

-- those before a place stand once, and the one there stands among them no more
pub once_more : (ids : List (List ℕ)) (id : List ℕ) → EachOnce ids → ((p : ℕ) → StandsAt ids id p → ⊥) → EachOnce (ids ++ id ∷ [])
once_more ids id once fresh p repeated =
    ⊎_elim
    (λ (here : StandsAt ids repeated.id p). ⊎_elim
    (λ (there : StandsAt ids repeated.id repeated.earlier). once p (record { id = repeated.id; earlier = repeated.earlier; before = repeated.before; here = here; there = there }))
    (λ (last : (id ≡ repeated.id) × (length ids ≡ repeated.earlier)). omega (arith, repeated.before, last.1, within ids repeated.id p here))
    (stands_cases ids id repeated.id repeated.earlier repeated.there))
    (λ (last : (id ≡ repeated.id) × (length ids ≡ p)). ⊎_elim
    (λ (there : StandsAt ids repeated.id repeated.earlier). fresh repeated.earlier (subst (λ (x : List ℕ). StandsAt ids x repeated.earlier) (sym last.0) there))
    (λ (other : (id ≡ repeated.id) × (length ids ≡ repeated.earlier)). omega (arith, repeated.before, last.1, other.1))
    (stands_cases ids id repeated.id repeated.earlier repeated.there))
    (stands_cases ids id repeated.id p repeated.here)
  where
    within : (ids : List (List ℕ)) (id : List ℕ) (p : ℕ) → StandsAt ids id p → p < length ids
    within [] id p at = absurd (cc at)
    within (x ∷ ids) id zero at = omega arith
    within (x ∷ ids) id (suc p) at = omega (arith, within ids id p at)

-- what `add`, `find` and `new` do, by what they called
pub known_stands : (ids : List (List ℕ)) (routes rs : List Route) (id : List ℕ) (i key : ℕ) → rs ≡ routes → IsSorted ids routes → IsIdentifier id → key ≡ key_of id → i < length rs → ((d : Route) → (get_or rs i d).key ≡ key) → (p : ℕ) × StandsAt ids id p
known_stands ids routes rs id i key same sorted is key_is within found =
    let d : Route = record { key = 0; place = 0 } in
    ((get_or rs i d).place, there_stands ids rs id i d (subst (IsSorted ids) (sym same) sorted) is within (found d ∙ key_is))

pub sorted_added : (ids more : List (List ℕ)) (routes rs longer : List Route) (id : List ℕ) (at key : ℕ) (r : Route) → rs ≡ routes → more ≡ ids ++ id ∷ [] → longer ≡ take at routes ++ r ∷ drop at routes → IsSorted ids routes → IsIdentifier id → key ≡ key_of id → IsBetween rs at key → r.key ≡ key → r.place ≡ length ids → IsSorted more longer
sorted_added ids more routes rs longer id at key r same more_is longer_is sorted is key_is between r_key r_place =
    let there : IsBetween routes at (key_of id) = subst (λ (k : ℕ). IsBetween routes at k) key_is (subst (λ (xs : List Route). IsBetween xs at key) same between) in
    let new = sorted_more ids routes id at r sorted is there (r_key ∙ key_is) r_place in
    subst (λ (xs : List (List ℕ)). IsSorted xs longer) (sym more_is) (subst (IsSorted (ids ++ id ∷ [])) (sym longer_is) new)

pub fresh_stands : (ids self : List (List ℕ)) (routes rs : List Route) (id : List ℕ) (at key p : ℕ) → ids ≡ self → rs ≡ routes → IsSorted ids routes → key ≡ key_of id → IsBetween rs at key → StandsAt self id p → ⊥
fresh_stands ids self routes rs id at key p self_is same sorted key_is between stands =
    let there : IsBetween routes at (key_of id) = subst (λ (k : ℕ). IsBetween routes at k) key_is (subst (λ (xs : List Route). IsBetween xs at key) same between) in
    none_stands ids routes id at p sorted there (subst (λ (xs : List (List ℕ)). StandsAt xs id p) (sym self_is) stands)

pub found_stands : (ids self : List (List ℕ)) (routes rs : List Route) (id : List ℕ) (i key : ℕ) (x : Route) → ids ≡ self → rs ≡ routes → IsSorted ids routes → IsIdentifier id → key ≡ key_of id → i < length rs → ((d : Route) → (get_or rs i d).key ≡ key) → x ≡ get_or routes i x → StandsAt self id x.place
found_stands ids self routes rs id i key x self_is same sorted is key_is within found x_is =
    let at = there_stands ids rs id i x (subst (IsSorted ids) (sym same) sorted) is within (found x ∙ key_is) in
    let here : (get_or rs i x).place ≡ x.place = ap (λ (xs : List Route). (get_or xs i x).place) same ∙ ap (λ (r : Route). r.place) (sym x_is) in
    subst (λ (n : ℕ). StandsAt self id n) here (subst (λ (xs : List (List ℕ)). StandsAt xs id (get_or rs i x).place) self_is at)

pub only_found : (ids self : List (List ℕ)) (routes rs : List Route) (id : List ℕ) (i key p : ℕ) (x : Route) → ids ≡ self → rs ≡ routes → IsSorted ids routes → key ≡ key_of id → i < length rs → ((d : Route) → (get_or rs i d).key ≡ key) → x ≡ get_or routes i x → StandsAt self id p → Some x.place ≡ Some p
only_found ids self routes rs id i key p x self_is same sorted key_is within found x_is stands =
    let here : (get_or rs i x).place ≡ x.place = ap (λ (xs : List Route). (get_or xs i x).place) same ∙ ap (λ (r : Route). r.place) (sym x_is) in
    let at = only_stands ids rs id i p x (subst (IsSorted ids) (sym same) sorted) within (found x ∙ key_is) (subst (λ (xs : List (List ℕ)). StandsAt xs id p) (sym self_is) stands) in
    ap Some (sym here ∙ at)

stands_take : (n : ℕ) (ids : List (List ℕ)) (id : List ℕ) (p : ℕ) → StandsAt (take n ids) id p → (p < n) × StandsAt ids id p
stands_take zero ids id p at = absurd (cc at)
stands_take (suc n) [] id p at = absurd (cc at)
stands_take (suc n) (x ∷ ids) id zero at = (omega arith, at)
stands_take (suc n) (x ∷ ids) id (suc p) at = let behind = stands_take n ids id p at in (omega (arith, behind.0), behind.1)

take_stands : (n : ℕ) (ids : List (List ℕ)) (id : List ℕ) (p : ℕ) → p < n → StandsAt ids id p → StandsAt (take n ids) id p
take_stands zero ids id p before at = absurd (omega (arith, before))
take_stands (suc n) [] id p before at = at
take_stands (suc n) (x ∷ ids) id zero before at = at
take_stands (suc n) (x ∷ ids) id (suc p) before at = take_stands n ids id p (omega (arith, before)) at

-- the first place whose identifier stands before it
pub first_repeated : (ids kept : List (List ℕ)) (id : List ℕ) (place p : ℕ) → kept ≡ take place ids → EachOnce kept → StandsAt ids id place → StandsAt kept id p → IsFirstRepeated ids place
first_repeated ids kept id place p kept_is once here there =
    let earlier = stands_take place ids id p (subst (λ (xs : List (List ℕ)). StandsAt xs id p) kept_is there) in
    record {
      repeated = record { id = id; earlier = p; before = earlier.0; here = here; there = earlier.1 };
      least = λ q before repeated.
          let K : List (List ℕ) → Type 0 = λ xs. IsRepeated xs q in
          once q (subst K (sym kept_is) (record {
            id = repeated.id;
            earlier = repeated.earlier;
            before = repeated.before;
            here = take_stands place ids repeated.id q before repeated.here;
            there = take_stands place ids repeated.id repeated.earlier (omega (arith, before, repeated.before)) repeated.there;
          }));
    }

-- one more identifier is kept
pub kept_more : (ids kept more : List (List ℕ)) (place : ℕ) (d : List ℕ) → kept ≡ take place ids → place < length ids → more ≡ kept ++ get_or ids place d ∷ [] → more ≡ take (place + 1) ids
kept_more ids kept more place d kept_is within more_is =
    more_is
    ∙ ap (λ (xs : List (List ℕ)). xs ++ get_or ids place d ∷ []) kept_is
    ∙ sym (take_at_read ids place d within).1
