-- Bytes that are cut into parts, and the numbers that stand at the front of bytes.
use Rattle.std.proofs.Common.{◌≡◌, ℕ, ◌+◌, ◌≤◌, List, [], ◌∷◌, ◌++◌, length, take, drop, refl, sym, ap, ◌∙◌, arith}
use Rattle.std.proofs.lemmas.List.{take-append-drop, take_at, drop_at, length-take, length-drop, drop-drop}
use Rattle.std.specs.Int.{w8, w16, w32, w64, from_le_bytes}

-- a number is that of as many bytes as its width has
pub number_1 : (xs : List ℕ) → from_le_bytes w8 (take 1 xs) ≡ from_le_bytes w8 xs
number_1 [] = refl
number_1 (a ∷ xs) = refl

pub number_2 : (xs : List ℕ) → from_le_bytes w16 (take 2 xs) ≡ from_le_bytes w16 xs
number_2 [] = refl
number_2 (a ∷ []) = refl
number_2 (a ∷ b ∷ xs) = refl

pub number_4 : (xs : List ℕ) → from_le_bytes w32 (take 4 xs) ≡ from_le_bytes w32 xs
number_4 [] = refl
number_4 (a ∷ []) = refl
number_4 (a ∷ b ∷ []) = refl
number_4 (a ∷ b ∷ c ∷ []) = refl
number_4 (a ∷ b ∷ c ∷ d ∷ xs) = refl

pub number_8 : (xs : List ℕ) → from_le_bytes w64 (take 8 xs) ≡ from_le_bytes w64 xs
number_8 [] = refl
number_8 (a ∷ []) = refl
number_8 (a ∷ b ∷ []) = refl
number_8 (a ∷ b ∷ c ∷ []) = refl
number_8 (a ∷ b ∷ c ∷ d ∷ []) = refl
number_8 (a ∷ b ∷ c ∷ d ∷ e ∷ []) = refl
number_8 (a ∷ b ∷ c ∷ d ∷ e ∷ f ∷ []) = refl
number_8 (a ∷ b ∷ c ∷ d ∷ e ∷ f ∷ g ∷ []) = refl
number_8 (a ∷ b ∷ c ∷ d ∷ e ∷ f ∷ g ∷ h ∷ xs) = refl

-- bytes from a place on that are there are so many
pub all_there : (n place : ℕ) (xs : List ℕ) → place + n ≤ length xs → length (take n (drop place xs)) ≡ n
all_there n place xs long = simp (length-take, length-drop) (omega (arith, long))

-- the bytes from a place on are the first n of them, and those behind
pub cut_at : (n place : ℕ) (xs : List ℕ) → drop place xs ≡ take n (drop place xs) ++ drop (place + n) xs
cut_at n place xs = sym (take-append-drop n (drop place xs)) ∙ ap (λ (ys : List ℕ). take n (drop place xs) ++ ys) (drop-drop n place xs)

-- the number at the front, and what stands behind it
pub number_in_front : (front behind : List ℕ) → length front ≡ 2 → from_le_bytes w16 (front ++ behind) ≡ from_le_bytes w16 front
number_in_front front behind two = sym (number_2 (front ++ behind)) ∙ ap (from_le_bytes w16) (take_at front behind 2 two)

pub behind_front : (front behind : List ℕ) (n place : ℕ) (xs : List ℕ) → drop place xs ≡ front ++ behind → length front ≡ n → drop (place + n) xs ≡ behind
behind_front front behind n place xs joined whole = sym (drop-drop n place xs) ∙ ap (drop n) joined ∙ drop_at front behind n whole
