-- What is read at the front of some bytes.
use Rattle.std.proofs.Common.{◌≡◌, ℕ, zero, suc, ◌≤◌, ◌<◌, ◌^◌, List, [], ◌∷◌, ◌++◌, Option, Some, None, length, take, drop, get_or, refl, sym, ap, ◌∙◌, subst, arith, append_assoc, length-append, take-append-drop, Fits, w8}
use Rattle.std.proofs.lemmas.List.{take_at, length-take-le}
use Rattle.std.proofs.lemmas.Nat.{le_bytes_2, le_bytes_4, le_bytes_8}
use Rattle.std.specs.Int.{w16, w32, w64, from_le_bytes, to_le_bytes}
use Rattle.jr_record.specs.declared.record.Record.{Record}
use Rattle.jr_record.specs.Records.{IsRecord, IsBody, BeginsWith, kind_of, body_of, spelled}
use Rattle.jr_record.proofs.Spelling.{same_4, Front, front, body_within, length-spelled}

-- the bytes at the front of bytes
each_taken : (n : ℕ) (bytes : List ℕ) → ((k : ℕ) → Fits w8 (get_or bytes k 0)) → (i : ℕ) → get_or (take n bytes) i 0 < 256
each_taken zero bytes fits i = omega arith
each_taken (suc n) [] fits i = omega arith
each_taken (suc n) (b ∷ bytes) fits zero = omega (arith, fits 0)
each_taken (suc n) (b ∷ bytes) fits (suc i) = each_taken n bytes (λ k. fits (suc k)) i

joined : (n : ℕ) (bytes front behind number : List ℕ) → front ≡ take n bytes → behind ≡ drop n bytes → number ≡ front → number ++ behind ≡ bytes
joined n bytes front behind number at_front at_back is =
    ap (λ (xs : List ℕ). xs ++ behind) (is ∙ at_front) ∙ ap (λ (xs : List ℕ). take n bytes ++ xs) at_back ∙ take-append-drop n bytes

module _ (bytes front behind : List ℕ) (n : ℕ) (fits : (k : ℕ) → Fits w8 (get_or bytes k 0)) where
  pub two : length front ≡ 2 → front ≡ take 2 bytes → behind ≡ drop 2 bytes → n ≡ from_le_bytes w16 front → to_le_bytes w16 n ++ behind ≡ bytes
  two size at_front at_back is = joined 2 bytes front behind (to_le_bytes w16 n) at_front at_back
      (le_bytes_2 front n size (λ i. subst (λ (xs : List ℕ). get_or xs i 0 < 256) (sym at_front) (each_taken 2 bytes fits i)) is)

  pub four : length front ≡ 4 → front ≡ take 4 bytes → behind ≡ drop 4 bytes → n ≡ from_le_bytes w32 front → to_le_bytes w32 n ++ behind ≡ bytes
  four size at_front at_back is = joined 4 bytes front behind (to_le_bytes w32 n) at_front at_back
      (le_bytes_4 front n size (λ i. subst (λ (xs : List ℕ). get_or xs i 0 < 256) (sym at_front) (each_taken 4 bytes fits i)) is)

  pub eight : length front ≡ 8 → front ≡ take 8 bytes → behind ≡ drop 8 bytes → n ≡ from_le_bytes w64 front → to_le_bytes w64 n ++ behind ≡ bytes
  eight size at_front at_back is = joined 8 bytes front behind (to_le_bytes w64 n) at_front at_back
      (le_bytes_8 front n size (λ i. subst (λ (xs : List ℕ). get_or xs i 0 < 256) (sym at_front) (each_taken 8 bytes fits i)) is)

-- bytes that end within the front of a record
pub no_front : (bytes : List ℕ) → length bytes < 5 → BeginsWith bytes None
no_front bytes short r behind legal e = omega (arith, ap length e, length-append (spelled r) behind, length-spelled r)

-- what stands behind the kind and the length
module _ (kind size : ℕ) (bytes rest behind : List ℕ) (small : size < 2 ^ 32) (split : bytes ≡ kind ∷ rest) (sized : to_le_bytes w32 size ++ behind ≡ rest) where
  at_front : (r : Record) (after : List ℕ) → spelled r ++ after ≡ bytes → Front r kind (to_le_bytes w32 size) behind after
  at_front r after e = front r after kind (to_le_bytes w32 size) behind refl (e ∙ split ∙ ap (λ (xs : List ℕ). kind ∷ xs) (sym sized))

  same_size : (r : Record) (after : List ℕ) → IsRecord r → spelled r ++ after ≡ bytes → length (body_of r) ≡ size
  same_size r after legal e = same_4 (length (body_of r)) size (omega (arith, body_within r legal)) small (at_front r after e).sizes

  -- bytes that end within a record's body
  pub no_body : length behind < size → BeginsWith bytes None
  no_body short r after legal e =
      omega (arith, same_size r after legal e, ap length (at_front r after e).bodies, length-append (body_of r) after)

  -- the record of the body is the record at the front
  pub begins : (part : List ℕ) → part ≡ take size behind → size ≤ length behind → (found : Option Record) → IsBody kind part found → BeginsWith bytes found
  unfolding spelled
  begins part cut long (Some r) is =
      let body : body_of r ≡ take size behind = is.2 ∙ cut in
      let sizes : length (body_of r) ≡ size = ap length body ∙ omega (arith, length-take-le size behind long) in
      let whole : spelled r ++ drop size behind ≡ bytes =
      ap (λ (xs : List ℕ). kind_of r ∷ xs) (append_assoc (to_le_bytes w32 (length (body_of r))) (body_of r) (drop size behind)
      ∙ ap (λ (xs : List ℕ). to_le_bytes w32 (length (body_of r)) ++ xs) (ap (λ (xs : List ℕ). xs ++ drop size behind) body ∙ take-append-drop size behind)
      ∙ ap (λ (n : ℕ). to_le_bytes w32 n ++ behind) sizes ∙ sized)
      ∙ ap (λ (k : ℕ). k ∷ rest) is.1 ∙ sym split in
      (is.0, drop size behind, whole)
  begins part cut long None none =
      λ r after legal e.
      let f = at_front r after e in
      none r legal f.kinds (sym (take_at (body_of r) after size (same_size r after legal e)) ∙ ap (λ (xs : List ℕ). take size xs) f.bodies ∙ sym cut)
