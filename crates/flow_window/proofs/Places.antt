-- What the places of a window hold, as one of them takes or loses its payload and as the row moves on.
use Rattle.std.proofs.Common.{◌≡◌, ℕ, zero, suc, ◌+◌, ◌<◌, ◌≤◌, ◌==◌, Bool, true, false, not, if◌then◌else◌, List, [], ◌∷◌, ◌++◌, length, get_or, set, replicate, take, drop, is_some, IsSome, Option, Some, None, unwrap_or, option_map, refl, sym, ap, subst, ◌∙◌, arith, eq-eqb, ne_eqb, lt-ltb, le-ltb}
use Rattle.std.proofs.lemmas.Bool.{false≢true}
use Rattle.std.proofs.lemmas.Option.{none-some}
use Rattle.std.specs.Int.{from_bool}
use Rattle.session_model.specs.Inbox.{Numbered}
use Rattle.flow_window.specs.Window.{holding, front}
use Rattle.flow_window.specs.Places.{held_from, without}

-- holding a message under the first number, below it, and above it
holding_same : (n : ℕ) (p q : List ℕ) (ms : List Numbered) → holding n p (record { number = n; payload = q } ∷ ms) ≡ record { number = n; payload = q } ∷ ms
holding_same n p q ms = rw (eq-eqb n n refl) refl

holding_before : (n m : ℕ) (p q : List ℕ) (ms : List Numbered) → n < m
    → holding n p (record { number = m; payload = q } ∷ ms) ≡ record { number = n; payload = p } ∷ record { number = m; payload = q } ∷ ms
holding_before n m p q ms h = rw (ne_eqb m n (omega arith), lt-ltb n m h) refl

holding_behind : (n m : ℕ) (p q : List ℕ) (ms : List Numbered) → m < n
    → holding n p (record { number = m; payload = q } ∷ ms) ≡ record { number = m; payload = q } ∷ holding n p ms
holding_behind n m p q ms h = rw (ne_eqb m n (omega arith), le-ltb n m (omega arith)) refl

-- a number below all places is held before them
holding_below : (n m : ℕ) (p : List ℕ) (places : List (Option (List ℕ))) → n < m
    → holding n p (held_from m places) ≡ record { number = n; payload = p } ∷ held_from m places
holding_below n m p [] h = refl
holding_below n m p (None ∷ places) h = holding_below n (m + 1) p places (omega arith)
holding_below n m p (Some q ∷ places) h = holding_before n m p q (held_from (m + 1) places) h

-- a place that takes a payload holds it under its number, if it was free
held_first : (n : ℕ) (p : List ℕ) (o : Option (List ℕ)) (places : List (Option (List ℕ))) (x y : Option (List ℕ))
    → x ≡ o → y ≡ Some (unwrap_or x p) → held_from n (y ∷ places) ≡ holding n p (held_from n (o ∷ places))
held_first n p None places x y was is = rw (is, was) (sym (holding_below n (n + 1) p places (omega arith)))
held_first n p (Some q) places x y was is = rw (is, was) (sym (holding_same n p q (held_from (n + 1) places)))

pub held_from-set : (n k i : ℕ) (p : List ℕ) (places : List (Option (List ℕ))) (x y : Option (List ℕ))
    → i < length places → x ≡ get_or places i x → y ≡ Some (unwrap_or x p) → n + i ≡ k
    → held_from n (set places i y) ≡ holding k p (held_from n places)
held_from-set n k i p [] x y h was is e = absurd (omega arith)
held_from-set n k zero p (o ∷ places) x y h was is e =
    let here : n ≡ k = omega (arith, e) in
    subst (λ number. held_from n (y ∷ places) ≡ holding number p (held_from n (o ∷ places))) here (held_first n p o places x y was is)
held_from-set n k (suc i) p (None ∷ places) x y h was is e =
    held_from-set (n + 1) k i p places x y (omega arith) was is (omega (arith, e))
held_from-set n k (suc i) p (Some q ∷ places) x y h was is e =
    let later = held_from-set (n + 1) k i p places x y (omega arith) was is (omega (arith, e)) in
    ap (λ ms. record { number = n; payload = q } ∷ ms) later ∙ sym (holding_behind k n p q (held_from (n + 1) places) (omega (arith, e)))

-- and one more is held exactly then
pub count_set : (n i : ℕ) (p : List ℕ) (places : List (Option (List ℕ))) (x y : Option (List ℕ))
    → i < length places → x ≡ get_or places i x → y ≡ Some (unwrap_or x p)
    → length (held_from n (set places i y)) ≡ length (held_from n places) + from_bool (not (is_some x))
count_set n i p [] x y h was is = absurd (omega arith)
count_set n zero p (None ∷ places) x y h was is = rw (is, was) (omega arith)
count_set n zero p (Some q ∷ places) x y h was is = rw (is, was) (omega arith)
count_set n (suc i) p (None ∷ places) x y h was is = count_set (n + 1) i p places x y (omega arith) was is
count_set n (suc i) p (Some q ∷ places) x y h was is =
    let later = count_set (n + 1) i p places x y (omega arith) was is in omega (arith, later)

-- no more is held than there are places
pub count_most : (n : ℕ) (places : List (Option (List ℕ))) → length (held_from n places) ≤ length places
count_most n [] = omega arith
count_most n (None ∷ places) = let later = count_most (n + 1) places in omega (arith, later)
count_most n (Some q ∷ places) = let later = count_most (n + 1) places in omega (arith, later)

-- a free place at the end holds nothing
held_from-free : (n : ℕ) (places : List (Option (List ℕ))) → held_from n (places ++ None ∷ []) ≡ held_from n places
held_from-free n [] = refl
held_from-free n (None ∷ places) = held_from-free (n + 1) places
held_from-free n (Some q ∷ places) = ap (λ ms. record { number = n; payload = q } ∷ ms) (held_from-free (n + 1) places)

-- below all places nothing is held
without_below : (n m : ℕ) (places : List (Option (List ℕ))) → n < m → without n (held_from m places) ≡ held_from m places
without_below n m [] h = refl
without_below n m (None ∷ places) h = without_below n (m + 1) places (omega arith)
without_below n m (Some q ∷ places) h = rw (ne_eqb m n (omega arith)) refl

front_below : (n m : ℕ) (places : List (Option (List ℕ))) → n < m → front n (held_from m places) ≡ None
front_below n m [] h = refl
front_below n m (None ∷ places) h = front_below n (m + 1) places (omega arith)
front_below n m (Some q ∷ places) h = rw (ne_eqb m n (omega arith)) refl

-- the row moves on by a place: what its first place held is gone, and that place stands free at the end
pub held_from-turn : (n : ℕ) (places : List (Option (List ℕ))) (y : Option (List ℕ)) → 0 < length places → y ≡ None
    → held_from (n + 1) (drop 1 (set places 0 y) ++ take 1 (set places 0 y)) ≡ without n (held_from n places)
held_from-turn n [] y h free = absurd (omega arith)
held_from-turn n (None ∷ places) y h free =
    rw free (held_from-free (n + 1) places ∙ sym (without_below n (n + 1) places (omega arith)))
held_from-turn n (Some q ∷ places) y h free = rw (free, eq-eqb n n refl) (held_from-free (n + 1) places)

pub count_turn : (n : ℕ) (places : List (Option (List ℕ))) (x y : Option (List ℕ)) → 0 < length places → x ≡ get_or places 0 x → y ≡ None
    → length (held_from (n + 1) (drop 1 (set places 0 y) ++ take 1 (set places 0 y))) + from_bool (is_some x) ≡ length (held_from n places)
count_turn n [] x y h was free = absurd (omega arith)
count_turn n (None ∷ places) x y h was free = rw (free, was, held_from-free (n + 1) places) (omega arith)
count_turn n (Some q ∷ places) x y h was free = rw (free, was, held_from-free (n + 1) places) (omega arith)

-- the front is what the first place holds
pub front_is : (n : ℕ) (places : List (Option (List ℕ))) (x : Option (List ℕ)) → 0 < length places → x ≡ get_or places 0 x
    → front n (held_from n places) ≡ option_map (λ p. record { number = n; payload = p }) x
front_is n [] x h was = absurd (omega arith)
front_is n (None ∷ places) x h was = rw was (front_below n (n + 1) places (omega arith))
front_is n (Some q ∷ places) x h was = rw (was, eq-eqb n n refl) refl

pub front_payload : (n : ℕ) (places : List (Option (List ℕ))) (x : Option (List ℕ)) → 0 < length places → x ≡ get_or places 0 x
    → x ≡ option_map (λ (m : Numbered). m.payload) (front n (held_from n places))
front_payload n places x h was = back x ∙ ap (option_map (λ (m : Numbered). m.payload)) (sym (front_is n places x h was))
  where
    back : (x : Option (List ℕ)) → x ≡ option_map (λ (m : Numbered). m.payload) (option_map (λ p. record { number = n; payload = p }) x)
    back None = refl
    back (Some p) = refl

-- a truth value counts one at most
pub from_bool_most : (b : Bool) → from_bool b ≤ 1
from_bool_most true = omega arith
from_bool_most false = omega arith

-- free places hold nothing
pub held_from-replicate : (n k : ℕ) → held_from n (replicate k None) ≡ []
held_from-replicate n zero = refl
held_from-replicate n (suc k) = held_from-replicate (n + 1) k

-- without the front, where it is there and where it is not
pub without_front : (n : ℕ) (ms : List Numbered) → IsSome (front n ms) → without n ms ≡ drop 1 ms
without_front n [] some = refl
without_front n (m ∷ ms) some = by_test (m.number == n) some
  where
    by_test : (b : Bool) → IsSome (if b then Some m else None) → (if b then ms else m ∷ ms) ≡ ms
    by_test true some = refl
    by_test false some = absurd (false≢true some)

pub without_none : (n : ℕ) (ms : List Numbered) → front n ms ≡ None → without n ms ≡ ms
without_none n [] none = refl
without_none n (m ∷ ms) none = by_test (m.number == n) none
  where
    by_test : (b : Bool) → (if b then Some m else None) ≡ None → (if b then ms else m ∷ ms) ≡ m ∷ ms
    by_test true none = absurd (none-some m (sym none))
    by_test false none = refl
