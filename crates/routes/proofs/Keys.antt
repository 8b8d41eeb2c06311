-- The number of an identifier is its own.
use Rattle.std.proofs.Common.{◌≡◌, ℕ, zero, suc, ◌+◌, ◌<◌, List, [], ◌∷◌, ◌++◌, length, get_or, take, drop, take-append-drop, refl, sym, ◌∙◌, ap, arith}
use Rattle.std.proofs.lemmas.List.{length-take, length-drop, get_or-drop, take_all}
use Rattle.std.proofs.lemmas.Nat.{be_bytes_8}
use Rattle.std.specs.Int.{w64, to_be_bytes}
use Rattle.routes.specs.Sorted.{IsIdentifier, key_of, high_half, low_half}

take_bytes : (n : ℕ) (xs : List ℕ) → ((i : ℕ) → get_or xs i 0 < 256) → (i : ℕ) → get_or (take n xs) i 0 < 256
take_bytes zero xs bytes i = omega arith
take_bytes (suc n) [] bytes i = omega arith
take_bytes (suc n) (x ∷ xs) bytes zero = bytes zero
take_bytes (suc n) (x ∷ xs) bytes (suc i) = take_bytes n xs (λ k. bytes (suc k)) i

drop_bytes : (n : ℕ) (xs : List ℕ) → ((i : ℕ) → get_or xs i 0 < 256) → (i : ℕ) → get_or (drop n xs) i 0 < 256
drop_bytes n xs bytes i = rw (get_or-drop n xs i 0) (bytes (n + i))

high_bytes : (id : List ℕ) → IsIdentifier id → to_be_bytes w64 (high_half id) ≡ take 8 id
high_bytes id is =
    let long : length (take 8 id) ≡ 8 = omega (arith, length-take 8 id, is.size) in
    be_bytes_8 (take 8 id) (high_half id) long (take_bytes 8 id is.bytes) refl

low_bytes : (id : List ℕ) → IsIdentifier id → to_be_bytes w64 (low_half id) ≡ take 8 (drop 8 id)
low_bytes id is =
    let long : length (take 8 (drop 8 id)) ≡ 8 = omega (arith, length-take 8 (drop 8 id), length-drop 8 id, is.size) in
    be_bytes_8 (take 8 (drop 8 id)) (low_half id) long (take_bytes 8 (drop 8 id) (drop_bytes 8 id is.bytes)) refl

halves : (id : List ℕ) → IsIdentifier id → id ≡ to_be_bytes w64 (high_half id) ++ to_be_bytes w64 (low_half id)
halves id is =
    let short : length (drop 8 id) ≡ 8 = omega (arith, length-drop 8 id, is.size) in
    sym (take-append-drop 8 id)
    ∙ ap (λ (xs : List ℕ). take 8 id ++ xs) (sym (take_all 8 (drop 8 id) (omega (arith, short))))
    ∙ ap (λ (xs : List ℕ). xs ++ take 8 (drop 8 id)) (sym (high_bytes id is))
    ∙ ap (λ (xs : List ℕ). to_be_bytes w64 (high_half id) ++ xs) (sym (low_bytes id is))

pub key_one : (a b : List ℕ) → IsIdentifier a → IsIdentifier b → key_of a ≡ key_of b → a ≡ b
unfolding key_of
key_one a b one other same =
    let high : high_half a ≡ high_half b = omega (arith, one.fits, other.fits, same) in
    let low : low_half a ≡ low_half b = omega (arith, one.fits, other.fits, same) in
    halves a one
    ∙ ap (λ (n : ℕ). to_be_bytes w64 n ++ to_be_bytes w64 (low_half a)) high
    ∙ ap (λ (n : ℕ). to_be_bytes w64 (high_half b) ++ to_be_bytes w64 n) low
    ∙ sym (halves b other)
