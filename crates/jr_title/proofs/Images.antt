-- The bytes of a title, cut where its fields stand.
use Rattle.std.proofs.Common.{◌≡◌, ℕ, suc, ◌+◌, ◌≤◌, ◌<◌, min, List, [], ◌∷◌, ◌++◌, length, take, drop, get_or, replicate, refl, sym, ap, ◌∙◌, arith, length-append, drop-cons}
use Rattle.std.proofs.Math.Seq.{take-add}
use Rattle.std.proofs.lemmas.List.{length-take, length-take-le, get_or-take}
use Rattle.std.specs.Int.{w16, w32, w64, to_le_bytes}
use Rattle.crc32c.specs.Sums.{crc_of}
use Rattle.jr_title.specs.declared.title.Title.{Title}
use Rattle.jr_title.specs.Titles.{magic, codes_of, version_of, reference_of, front_of, image_of}
use Rattle.jr_title.specs.Reading.{HasSum, HasZeros}

-- bytes of one length at the front of the same bytes
same_front : (a b x y : List ℕ) → length a ≡ length b → a ++ x ≡ b ++ y → (a ≡ b) × (x ≡ y)
same_front [] [] x y n e = (refl, e)
same_front [] (c ∷ b) x y n e = absurd (omega arith)
same_front (c ∷ a) [] x y n e = absurd (omega arith)
same_front (c ∷ a) (d ∷ b) x y n e =
    let head : c ≡ d = cc in
    let tail : a ++ x ≡ b ++ y = cc in
    let both = same_front a b x y (omega arith) tail in (cc (head, both.0), both.1)

pub joined : (n m : ℕ) (l x y : List ℕ) → take n l ≡ x → take m (drop n l) ≡ y → take (n + m) l ≡ x ++ y
joined n m l x y e f = take-add n m l ∙ ap (λ (z : List ℕ). z ++ take m (drop n l)) e ∙ ap (λ (z : List ℕ). x ++ z) f

pub parted : (n m : ℕ) (l x y : List ℕ) → n ≤ length l → length x ≡ n → take (n + m) l ≡ x ++ y → (take n l ≡ x) × (take m (drop n l) ≡ y)
parted n m l x y long size e =
    same_front (take n l) x (take m (drop n l)) y (length-take-le n l long ∙ sym size) (sym (take-add n m l) ∙ e)

-- the front of a title up to a place
abbrev at_14 : Title → List ℕ
at_14 t = magic ++ codes_of t

abbrev at_16 : Title → List ℕ
at_16 t = at_14 t ++ to_le_bytes w16 (version_of t.binding.who_sends)

abbrev at_32 : Title → List ℕ
at_32 t = at_16 t ++ t.binding.session

abbrev at_40 : Title → List ℕ
at_40 t = at_32 t ++ to_le_bytes w64 (reference_of t.binding.who_sends)

abbrev at_48 : Title → List ℕ
at_48 t = at_40 t ++ to_le_bytes w64 t.pair

length_32 : (t : Title) → length t.binding.session ≡ 16 → length (at_32 t) ≡ 32
length_32 t size = length-append (at_16 t) t.binding.session ∙ ap (λ (n : ℕ). 16 + n) size

length_40 : (t : Title) → length t.binding.session ≡ 16 → length (at_40 t) ≡ 40
length_40 t size = length-append (at_32 t) (to_le_bytes w64 (reference_of t.binding.who_sends)) ∙ ap (λ (n : ℕ). n + 8) (length_32 t size)

length_48 : (t : Title) → length t.binding.session ≡ 16 → length (at_48 t) ≡ 48
length_48 t size = length-append (at_40 t) (to_le_bytes w64 t.pair) ∙ ap (λ (n : ℕ). n + 8) (length_40 t size)

pub length_60 : (t : Title) → length t.binding.session ≡ 16 → length (front_of t) ≡ 60
unfolding front_of
length_60 t size = length-append (at_48 t) (replicate 12 0) ∙ ap (λ (n : ℕ). n + 12) (length_48 t size)

pub length_64 : (t : Title) → length t.binding.session ≡ 16 → length (image_of t) ≡ 64
length_64 t size = length-append (front_of t) (to_le_bytes w32 (crc_of (front_of t))) ∙ ap (λ (n : ℕ). n + 4) (length_60 t size)

-- what stands where in bytes that begin with a title's front
pub record Parts (b : List ℕ) (t : Title) : Type 0 where
  pub head : take 14 b ≡ magic ++ codes_of t
  pub version : take 2 (drop 14 b) ≡ to_le_bytes w16 (version_of t.binding.who_sends)
  pub session : take 16 (drop 16 b) ≡ t.binding.session
  pub reference : take 8 (drop 32 b) ≡ to_le_bytes w64 (reference_of t.binding.who_sends)
  pub pair : take 8 (drop 40 b) ≡ to_le_bytes w64 t.pair
  pub zeros : HasZeros b

pub whole : (b : List ℕ) (t : Title) → Parts b t → take 60 b ≡ front_of t
unfolding front_of
whole b t p =
    let e16 : take 16 b ≡ at_16 t = joined 14 2 b (at_14 t) (to_le_bytes w16 (version_of t.binding.who_sends)) p.head p.version in
    let e32 : take 32 b ≡ at_32 t = joined 16 16 b (at_16 t) t.binding.session e16 p.session in
    let e40 : take 40 b ≡ at_40 t = joined 32 8 b (at_32 t) (to_le_bytes w64 (reference_of t.binding.who_sends)) e32 p.reference in
    let e48 : take 48 b ≡ at_48 t = joined 40 8 b (at_40 t) (to_le_bytes w64 t.pair) e40 p.pair in
    joined 48 12 b (at_48 t) (replicate 12 0) e48 p.zeros

pub parts : (b : List ℕ) (t : Title) → length t.binding.session ≡ 16 → 60 ≤ length b → take 60 b ≡ front_of t → Parts b t
unfolding front_of
parts b t size long e =
    let cut_48 = parted 48 12 b (at_48 t) (replicate 12 0) (omega arith) (length_48 t size) e in
    let cut_40 = parted 40 8 b (at_40 t) (to_le_bytes w64 t.pair) (omega arith) (length_40 t size) cut_48.0 in
    let cut_32 = parted 32 8 b (at_32 t) (to_le_bytes w64 (reference_of t.binding.who_sends)) (omega arith) (length_32 t size) cut_40.0 in
    let cut_16 = parted 16 16 b (at_16 t) t.binding.session (omega arith) refl cut_32.0 in
    let cut_14 = parted 14 2 b (at_14 t) (to_le_bytes w16 (version_of t.binding.who_sends)) (omega arith) refl cut_16.0 in
    record { head = cut_14.0; version = cut_14.1; session = cut_16.1; reference = cut_32.1; pair = cut_40.1; zeros = cut_48.1 }

-- ---- the bytes of one field each

pub byte : (b : List ℕ) (t : Title) → Parts b t → (i : ℕ) → i < 14 → get_or b i 0 ≡ get_or (magic ++ codes_of t) i 0
byte b t p i within = sym (get_or-take 14 b i 0 within) ∙ ap (λ (xs : List ℕ). get_or xs i 0) p.head

one_more : (n i : ℕ) (b rest : List ℕ) → i < length b → take n (drop (suc i) b) ≡ rest → take (suc n) (drop i b) ≡ get_or b i 0 ∷ rest
one_more n i b rest within e = ap (take (suc n)) (drop-cons b i 0 within) ∙ ap (λ (xs : List ℕ). get_or b i 0 ∷ xs) e

pub six : (b : List ℕ) → 14 ≤ length b
    → take 6 (drop 8 b) ≡ get_or b 8 0 ∷ get_or b 9 0 ∷ get_or b 10 0 ∷ get_or b 11 0 ∷ get_or b 12 0 ∷ get_or b 13 0 ∷ []
six b long =
    one_more 5 8 b (get_or b 9 0 ∷ get_or b 10 0 ∷ get_or b 11 0 ∷ get_or b 12 0 ∷ get_or b 13 0 ∷ []) (omega arith)
    (one_more 4 9 b (get_or b 10 0 ∷ get_or b 11 0 ∷ get_or b 12 0 ∷ get_or b 13 0 ∷ []) (omega arith)
    (one_more 3 10 b (get_or b 11 0 ∷ get_or b 12 0 ∷ get_or b 13 0 ∷ []) (omega arith)
    (one_more 2 11 b (get_or b 12 0 ∷ get_or b 13 0 ∷ []) (omega arith)
    (one_more 1 12 b (get_or b 13 0 ∷ []) (omega arith)
    (one_more 0 13 b [] (omega arith) refl)))))

-- ---- with the sum

pub imaged : (b : List ℕ) (t : Title) → take 60 b ≡ front_of t → HasSum b → take 64 b ≡ image_of t
imaged b t e sum =
    joined 60 4 b (front_of t) (to_le_bytes w32 (crc_of (front_of t))) e (sum ∙ ap (λ (xs : List ℕ). to_le_bytes w32 (crc_of xs)) e)

pub record Fronted (b : List ℕ) (t : Title) : Type 0 where
  pub long : 64 ≤ length b
  pub front : take 60 b ≡ front_of t
  pub sum : HasSum b

pub fronted : (b : List ℕ) (t : Title) → length t.binding.session ≡ 16 → take 64 b ≡ image_of t → Fronted b t
fronted b t size e =
    let least : min 64 (length b) ≡ 64 = sym (length-take 64 b) ∙ ap length e ∙ length_64 t size in
    let enough : 64 ≤ length b = omega arith in
    let cut = parted 60 4 b (front_of t) (to_le_bytes w32 (crc_of (front_of t))) (omega arith) (length_60 t size) e in
    record { long = enough; front = cut.0; sum = cut.1 ∙ ap (λ (xs : List ℕ). to_le_bytes w32 (crc_of xs)) (sym cut.0) }
