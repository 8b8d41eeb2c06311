-- What is read at the front of some bytes.
use Rattle.std.proofs.Common.{◌≡◌, ℕ, zero, suc, ◌+◌, ◌≤◌, ◌<◌, ◌^◌, List, [], ◌∷◌, ◌++◌, Some, None, length, take, drop, get_or, refl, sym, ap, ◌∙◌, subst, arith, append_assoc, length-append, take-append-drop, Fits, w8}
use Rattle.std.proofs.lemmas.List.{take_at, append-nil}
use Rattle.std.proofs.lemmas.Nat.{le_bytes_4, le_bytes_8}
use Rattle.std.specs.Int.{w32, w64, from_le_bytes, to_le_bytes}
use Rattle.jr_record.specs.declared.record.Record.{Record}
use Rattle.jr_record.specs.Records.{kind_of, body_of, BeginsWith as BeginsPlain, spelled as plain}
use Rattle.jr_moments.specs.Dated.{Dated, IsDated, BeginsWith, stamped, spelled}
use Rattle.jr_moments.proofs.Spelling.{same_4, same_8, Front, front, opened, body_within, length-spelled, plain_is}

-- the bytes at the front of bytes
each_taken : (n : ℕ) (bytes : List ℕ) → ((k : ℕ) → Fits w8 (get_or bytes k 0)) → (i : ℕ) → get_or (take n bytes) i 0 < 256
each_taken zero bytes fits i = omega arith
each_taken (suc n) [] fits i = omega arith
each_taken (suc n) (b ∷ bytes) fits zero = omega (arith, fits 0)
each_taken (suc n) (b ∷ bytes) fits (suc i) = each_taken n bytes (λ k. fits (suc k)) i

joined : (n : ℕ) (bytes front behind number : List ℕ) → front ≡ take n bytes → behind ≡ drop n bytes → number ≡ front → number ++ behind ≡ bytes
joined n bytes front behind number at_front at_back is =
    ap (λ (xs : List ℕ). xs ++ behind) (is ∙ at_front) ∙ ap (λ (xs : List ℕ). take n bytes ++ xs) at_back ∙ take-append-drop n bytes

module _ (bytes front behind : List ℕ) (n : ℕ) (fits : (k : ℕ) → Fits w8 (get_or bytes k 0)) where
  pub four : length front ≡ 4 → front ≡ take 4 bytes → behind ≡ drop 4 bytes → n ≡ from_le_bytes w32 front → to_le_bytes w32 n ++ behind ≡ bytes
  four size at_front at_back is = joined 4 bytes front behind (to_le_bytes w32 n) at_front at_back
      (le_bytes_4 front n size (λ i. subst (λ (xs : List ℕ). get_or xs i 0 < 256) (sym at_front) (each_taken 4 bytes fits i)) is)

  pub eight : length front ≡ 8 → front ≡ take 8 bytes → behind ≡ drop 8 bytes → n ≡ from_le_bytes w64 front → to_le_bytes w64 n ++ behind ≡ bytes
  eight size at_front at_back is = joined 8 bytes front behind (to_le_bytes w64 n) at_front at_back
      (le_bytes_8 front n size (λ i. subst (λ (xs : List ℕ). get_or xs i 0 < 256) (sym at_front) (each_taken 8 bytes fits i)) is)

-- bytes that end within the front of a record
pub no_front : (bytes : List ℕ) → length bytes < 13 → BeginsWith bytes None
no_front bytes short d behind legal e = omega (arith, ap length e, length-append (spelled d) behind, length-spelled d)

-- bytes that end within the length behind the kind and the moment
pub shorter : (kind moment : ℕ) (bytes rest behind : List ℕ) → bytes ≡ kind ∷ rest → to_le_bytes w64 moment ++ behind ≡ rest → length behind < 4 → length bytes < 13
shorter kind moment bytes rest behind split timed short = omega (arith, ap length split, ap length timed, length-append (to_le_bytes w64 moment) behind)

-- what stands behind the kind, the moment and the length
module _ (kind moment size : ℕ) (bytes rest behind body : List ℕ) (small : size < 2 ^ 32) (split : bytes ≡ kind ∷ rest) (timed : to_le_bytes w64 moment ++ behind ≡ rest)
    (sized : to_le_bytes w32 size ++ body ≡ behind) where
  whole : bytes ≡ kind ∷ (to_le_bytes w64 moment ++ (to_le_bytes w32 size ++ body))
  whole = split ∙ ap (λ (xs : List ℕ). kind ∷ xs) (sym timed) ∙ ap (λ (xs : List ℕ). kind ∷ (to_le_bytes w64 moment ++ xs)) (sym sized)

  at_front : (d : Dated) (after : List ℕ) → spelled d ++ after ≡ bytes → Front d kind (to_le_bytes w64 moment) (to_le_bytes w32 size) body after
  at_front d after e = front d after kind (to_le_bytes w64 moment) (to_le_bytes w32 size) body refl refl (e ∙ whole)

  same_size : (d : Dated) (after : List ℕ) → IsDated d → spelled d ++ after ≡ bytes → length (body_of d.what) ≡ size
  same_size d after legal e = same_4 (length (body_of d.what)) size (omega (arith, body_within d.what legal.0)) small (at_front d after e).sizes

  -- a moment that no record carries
  pub no_moment : moment < 2 ^ 64 → 2 ^ 44 ≤ moment → BeginsWith bytes None
  no_moment fits late d after legal e =
      let same : d.moment ≡ moment = same_8 d.moment moment (omega (arith, legal.1)) fits (at_front d after e).times in
      omega (arith, legal.1)

  -- bytes that end within a record's body
  pub no_body : length body < size → BeginsWith bytes None
  no_body short d after legal e =
      omega (arith, same_size d after legal e, ap length (at_front d after e).bodies, length-append (body_of d.what) after)

  -- a record without its moment that begins with the kind, and goes on with these bytes behind it
  plain_front : (sized_part x : List ℕ) (r : Record) → plain r ++ x ≡ kind ∷ sized_part → (kind_of r ≡ kind) × ((to_le_bytes w32 (length (body_of r)) ++ body_of r) ++ x ≡ sized_part)
  plain_front sized_part x r e =
      let open_is : kind_of r ∷ ((to_le_bytes w32 (length (body_of r)) ++ body_of r) ++ x) ≡ kind ∷ sized_part = sym (ap (λ (xs : List ℕ). xs ++ x) (plain_is r)) ∙ e in
      let head : kind_of r ≡ kind = cc in
      let tail : (to_le_bytes w32 (length (body_of r)) ++ body_of r) ++ x ≡ sized_part = cc in
      (head, tail)

  -- the record read without its moment is the one at the front
  pub found : (n : ℕ) (part : List ℕ) → part ≡ take n behind → moment < 2 ^ 44 → (r : Record) → BeginsPlain (kind ∷ part) (Some r) → BeginsWith bytes (Some (stamped moment r))
  found n part cut early r is =
      let both = plain_front part is.1 r is.2 in
      let tail = to_le_bytes w32 (length (body_of r)) ++ body_of r in
      let after = is.1 ++ drop n behind in
      let joins : tail ++ after ≡ behind =
      sym (append_assoc tail is.1 (drop n behind)) ∙ ap (λ (xs : List ℕ). xs ++ drop n behind) (both.1 ∙ cut) ∙ take-append-drop n behind in
      let all : spelled (stamped moment r) ++ after ≡ bytes =
      opened (stamped moment r) after
      ∙ ap (λ (xs : List ℕ). kind_of r ∷ (to_le_bytes w64 moment ++ xs)) (sym (append_assoc (to_le_bytes w32 (length (body_of r))) (body_of r) after) ∙ joins)
      ∙ ap (λ (xs : List ℕ). kind_of r ∷ xs) timed
      ∙ ap (λ (k : ℕ). k ∷ rest) both.0 ∙ sym split in
      ((is.0, early), after, all)

  -- where none is read without its moment, none is at the front
  pub none_found : (part : List ℕ) → part ≡ take (4 + size) behind → BeginsPlain (kind ∷ part) None → BeginsWith bytes None
  none_found part cut none d after legal e =
      let f = at_front d after e in
      let r = d.what in
      let tail = to_le_bytes w32 (length (body_of r)) ++ body_of r in
      let sizes : length tail ≡ 4 + size = omega (arith, length-append (to_le_bytes w32 (length (body_of r))) (body_of r), same_size d after legal e) in
      let behind_is : tail ++ after ≡ behind =
      append_assoc (to_le_bytes w32 (length (body_of r))) (body_of r) after
      ∙ ap (λ (xs : List ℕ). xs ++ (body_of r ++ after)) f.sizes ∙ ap (λ (xs : List ℕ). to_le_bytes w32 size ++ xs) f.bodies ∙ sized in
      let part_is : tail ≡ part = sym (take_at tail after (4 + size) sizes) ∙ ap (λ (xs : List ℕ). take (4 + size) xs) behind_is ∙ sym cut in
      none r [] legal.0 (append-nil (plain r) ∙ plain_is r ∙ ap (λ (k : ℕ). k ∷ tail) f.kinds ∙ ap (λ (xs : List ℕ). kind ∷ xs) part_is)
