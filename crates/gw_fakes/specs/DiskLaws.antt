-- How long what a stop may leave is.
use Rattle.std.specs.Prelude.{◌≡◌, ℕ, Bool, ◌^◌, ◌≤◌, ◌==◌, ◌||◌, List, [], ◌∷◌, length, None, Some, is_some, unwrap_or, IsTrue}
use Rattle.std.proofs.Common.{arith, ap, sym, subst}
use Rattle.std.proofs.lemmas.Bool.{and_parts, leb-true, false≢true}
use Rattle.gw_fakes.specs.Disks.{is_left, IsSound}

-- no longer than a pending write reaches
pub left-within : (synced : List ℕ) (pending : List Bool) (image : List ℕ) → IsTrue (is_left synced pending image) → length image ≤ length pending
left-within [] pending image left = leb-true _ _ left
left-within (s ∷ ss) [] image left = absurd (false≢true left)
left-within (s ∷ ss) (p ∷ ps) [] left = absurd (false≢true left)
left-within (s ∷ ss) (p ∷ ps) (b ∷ bs) left = let rest : length bs ≤ length ps = left-within ss ps bs (and_parts (p || (b == s)) (is_left ss ps bs) left).1
    in omega (arith, rest)

-- what is told is what is told
pub told_left : (synced told content : List ℕ) (pending : List Bool) → IsTrue (is_left synced pending told) → Some told ≡ Some content
    → IsTrue (is_left synced pending content)
told_left synced told content pending left is = subst (λ l. IsTrue (is_left synced pending l)) (ap (λ o. unwrap_or o told) is) left

-- and it is something
pub none_told : (told : List ℕ) → Some told ≡ None → ⊥
none_told told is = absurd (false≢true (ap is_some (sym is)))

-- and at most 2^40 bytes
pub left-limited : (content synced : List ℕ) (pending : List Bool) (low high room : ℕ) (image : List ℕ) → IsSound content synced pending low high room
    → IsTrue (is_left synced pending image) → length image ≤ 2 ^ 40
left-limited content synced pending low high room image sound left = omega (arith, left-within synced pending image left, sound.within, sound.limited)
