-- Numbers in rising order: what stands before an index and behind it, and one more number put in.
use Rattle.std.proofs.Common.{◌≡◌, inl, inr, ℕ, zero, suc, ◌+◌, ◌<◌, List, [], ◌∷◌, ◌++◌, length, get_or, take, drop, refl, subst, arith}
use Rattle.std.specs.List.{AllByRecursion}
use Rattle.routes.specs.Sorted.{Rising, Has, IsRoute}
use Rattle.routes.specs.declared.sorted.Route.{Route}

abbrev pub Below : ℕ → List Route → Type 0
Below key = AllByRecursion (λ (r : Route). r.key < key)

abbrev pub Above : ℕ → List Route → Type 0
Above key = AllByRecursion (λ (r : Route). key < r.key)

above_lower : (rs : List Route) (low high : ℕ) → low < high → Above high rs → Above low rs
above_lower [] low high lt all = tt
above_lower (r ∷ rs) low high lt all = (omega (arith, lt, all.0), above_lower rs low high lt all.1)

-- of numbers that are all above one, that at an index is
above_at : (rs : List Route) (key i : ℕ) (d : Route) → i < length rs → Above key rs → key < (get_or rs i d).key
above_at [] key i d within all = absurd (omega (arith, within))
above_at (r ∷ rs) key zero d within all = all.0
above_at (r ∷ rs) key (suc i) d within all = above_at rs key i d (omega (arith, within)) all.1

-- where the number at an index is lower, so are all up to it
below_up_to : (rs : List Route) (key m : ℕ) (d : Route) → Rising rs → m < length rs → (get_or rs m d).key < key → Below key (take (suc m) rs)
below_up_to [] key m d rising within lt = absurd (omega (arith, within))
below_up_to (r ∷ rs) key zero d rising within lt = (lt, tt)
below_up_to (r ∷ rs) key (suc m) d rising within lt =
    let inside : m < length rs = omega (arith, within) in
    (omega (arith, above_at rs r.key m d inside rising.0, lt), below_up_to rs key m d rising.1 inside lt)

pub below_more : (rs : List Route) (key m : ℕ) (d : Route) → Rising rs → m < length rs → (get_or rs m d).key < key → Below key (take (m + 1) rs)
below_more rs key m d rising within lt =
    let more : suc m ≡ m + 1 = omega arith in
    subst (λ (n : ℕ). Below key (take n rs)) more (below_up_to rs key m d rising within lt)

-- where the number at an index is greater, so are all from it on
pub above_more : (rs : List Route) (key m : ℕ) (d : Route) → Rising rs → m < length rs → key < (get_or rs m d).key → Above key (drop m rs)
above_more [] key m d rising within lt = absurd (omega (arith, within))
above_more (r ∷ rs) key zero d rising within lt = (lt, above_lower rs key r.key lt rising.0)
above_more (r ∷ rs) key (suc m) d rising within lt = above_more rs key m d rising.1 (omega (arith, within)) lt

pub all_append : {X : Type 0} (P : X → Type 0) (xs ys : List X) → AllByRecursion P xs → AllByRecursion P ys → AllByRecursion P (xs ++ ys)
all_append P [] ys all more = more
all_append P (x ∷ xs) ys all more = (all.0, all_append P xs ys all.1 more)

pub all_split : {X : Type 0} (P : X → Type 0) (xs ys : List X) → AllByRecursion P (xs ++ ys) → AllByRecursion P xs × AllByRecursion P ys
all_split P [] ys all = (tt, all)
all_split P (x ∷ xs) ys all = let behind = all_split P xs ys all.1 in ((all.0, behind.0), behind.1)

pub all_map : {X : Type 0} (P Q : X → Type 0) → ((x : X) → P x → Q x) → (xs : List X) → AllByRecursion P xs → AllByRecursion Q xs
all_map P Q step [] all = tt
all_map P Q step (x ∷ xs) all = (step x all.0, all_map P Q step xs all.1)

-- one more number between lower and greater ones
pub rising_between : (xs ys : List Route) (r : Route) → Rising (xs ++ ys) → Below r.key xs → Above r.key ys → Rising (xs ++ r ∷ ys)
rising_between [] ys r rising below above = (above, rising)
rising_between (x ∷ xs) ys r rising below above =
    let parts = all_split (λ (s : Route). x.key < s.key) xs ys rising.0 in
    (all_append (λ (s : Route). x.key < s.key) xs (r ∷ ys) parts.0 (below.0, parts.1), rising_between xs ys r rising.1 below.1 above)

pub has_more : (xs ys : List Route) (r : Route) (key place : ℕ) → Has (xs ++ ys) key place → Has (xs ++ r ∷ ys) key place
has_more [] ys r key place has = inr has
has_more (x ∷ xs) ys r key place (inl here) = inl here
has_more (x ∷ xs) ys r key place (inr has) = inr (has_more xs ys r key place has)

pub has_new : (xs ys : List Route) (r : Route) → Has (xs ++ r ∷ ys) r.key r.place
has_new [] ys r = inl (refl, refl)
has_new (x ∷ xs) ys r = inr (has_new xs ys r)

-- a number that stands somewhere is neither above nor below all
has_above : (rs : List Route) (low key place : ℕ) → Above low rs → Has rs key place → low < key
has_above [] low key place all has = absurd has
has_above (r ∷ rs) low key place all (inl here) = omega (arith, all.0, here.0)
has_above (r ∷ rs) low key place all (inr has) = has_above rs low key place all.1 has

pub has_between : (xs ys : List Route) (key place : ℕ) → Below key xs → Above key ys → Has (xs ++ ys) key place → ⊥
has_between [] ys key place below above has = omega (arith, has_above ys key key place above has)
has_between (x ∷ xs) ys key place below above (inl here) = omega (arith, below.0, here.0)
has_between (x ∷ xs) ys key place below above (inr has) = has_between xs ys key place below.1 above has

-- a number has one place
pub has_one : (rs : List Route) (i key place : ℕ) (d : Route) → Rising rs → i < length rs → (get_or rs i d).key ≡ key → Has rs key place → (get_or rs i d).place ≡ place
has_one [] i key place d rising within is has = absurd has
has_one (r ∷ rs) zero key place d rising within is (inl here) = here.1
has_one (r ∷ rs) zero key place d rising within is (inr has) = absurd (omega (arith, is, has_above rs r.key key place rising.0 has))
has_one (r ∷ rs) (suc i) key place d rising within is (inl here) = absurd (omega (arith, is, here.0, above_at rs r.key i d (omega (arith, within)) rising.0))
has_one (r ∷ rs) (suc i) key place d rising within is (inr has) = has_one rs i key place d rising.1 (omega (arith, within)) is has

pub route_at : (ids : List (List ℕ)) (rs : List Route) (i : ℕ) (d : Route) → i < length rs → AllByRecursion (IsRoute ids) rs → IsRoute ids (get_or rs i d)
route_at ids [] i d within all = absurd (omega (arith, within))
route_at ids (r ∷ rs) zero d within all = all.0
route_at ids (r ∷ rs) (suc i) d within all = route_at ids rs i d (omega (arith, within)) all.1
