-- The count of a disk's faults, by what the gate tells of its outbox, and what is written back to a list.
use Rattle.std.proofs.Common.{◌≡◌, ℕ, ◌+◌, ◌<◌, ◌≤◌, Bool, true, false, List, [], ◌∷◌, ◌++◌, length, take, if◌then◌else◌, refl, ap, subst, arith}

-- where the count, and one more once it is broken, did not fall, and rose where it is broken, the count did not fall
pub never_fell : (old new : ℕ) (was now : Bool) → old + (if was then 1 else 0) ≤ new + (if now then 1 else 0) → (now ≡ true → old + (if was then 1 else 0) < new + (if now then 1 else 0)) → old ≤ new
never_fell old new was true least more = omega (arith, more refl)
never_fell old new was false least more = omega (arith, least)

-- the front of a list that is as long as the first of its parts
take_front : {A : Type 0} (xs ys : List A) → take (length xs) (xs ++ ys) ≡ xs
take_front [] ys = refl
take_front (x ∷ xs) ys = ap (λ l. x ∷ l) (take_front xs ys)

pub front_of : {A : Type 0} (n : ℕ) (xs ys : List A) → length xs ≡ n → take n (xs ++ ys) ≡ xs
front_of n xs ys long = subst (λ k. take k (xs ++ ys) ≡ xs) long (take_front xs ys)
