-- What stands at the front of some bytes is one thing, and how it is found.
use Rattle.std.proofs.Common.{◌≡◌, ℕ, ◌+◌, ◌<◌, ◌≤◌, List, ◌++◌, length, take, drop, refl, sym, ap, ap₂, ◌∙◌, arith, append_assoc, length-append, Some, None}
use Rattle.std.proofs.lemmas.List.{take-append-drop}
use Rattle.std.proofs.Math.Seq.{take-append_seam, drop-append_seam}
use Rattle.std.specs.Int.{w32, to_le_bytes}
use Rattle.crc32c.specs.Sums.{crc_of}
use Rattle.jr_record.specs.declared.record.Record.{Record}
use Rattle.jr_record.specs.Records.{body_of}
use Rattle.jr_moments.specs.Dated.{Dated, IsDated, stamped, spelled, BeginsWith}
use Rattle.jr_moments.proofs.Spelling.{one, same_front, body_within, length-spelled}
use Rattle.jr_summed.specs.declared.reading.Found.TheVariants.{Whole, Changed, Nothing}
use Rattle.jr_summed.specs.Laws.{AtMostOneFound, AtMostOneSummed, SizesAreBounded}
use Rattle.jr_summed.specs.Summed.{sum_of, summed, Stands, IsChanged, IsFound}

same_stands : (bytes : List ℕ) (d e : Dated) (a b : List ℕ) → Stands bytes d a → Stands bytes e b → (d ≡ e) × (a ≡ b)
same_stands bytes d e a b s t =
    let both = one d e (a ++ s.behind) (b ++ t.behind) s.legal t.legal (s.whole ∙ sym t.whole) in
    (both.0, (same_front a b s.behind t.behind (s.size ∙ sym t.size) both.1).0)

whole_unchanged : (bytes : List ℕ) (d : Dated) → Stands bytes d (sum_of d) → IsChanged bytes → ⊥
whole_unchanged bytes d s changed =
    let both = same_stands bytes d changed.what (sum_of d) changed.sum s changed.stands in
    changed.other (sym both.1 ∙ ap sum_of both.0)

same_whole : (r s : Record) (m n : ℕ) → r ≡ s → m ≡ n → Whole r m ≡ Whole s n
same_whole r s m n e f = cc

pub one_found : AtMostOneFound
one_found bytes (Whole r m) (Whole s n) p q =
    let both = (same_stands bytes (stamped m r) (stamped n s) (sum_of (stamped m r)) (sum_of (stamped n s)) p q).0 in
    same_whole r s m n (ap (λ (d : Dated). d.what) both) (ap (λ (d : Dated). d.moment) both)
one_found bytes (Whole r m) Changed p q = absurd (whole_unchanged bytes (stamped m r) p q)
one_found bytes (Whole r m) Nothing p q = absurd (q (stamped m r) (sum_of (stamped m r)) p)
one_found bytes Changed (Whole s n) p q = absurd (whole_unchanged bytes (stamped n s) q p)
one_found bytes Changed Changed p q = refl
one_found bytes Changed Nothing p q = absurd (q p.what p.sum p.stands)
one_found bytes Nothing (Whole s n) p q = absurd (p (stamped n s) (sum_of (stamped n s)) q)
one_found bytes Nothing Changed p q = absurd (p q.what q.sum q.stands)
one_found bytes Nothing Nothing p q = refl

-- ---- as it is read

pub none_read : (bytes : List ℕ) → BeginsWith bytes None → IsFound bytes Nothing
none_read bytes none d sum s = none d (sum ++ s.behind) s.legal s.whole

-- the bytes of a record and what stands behind them
pub cut : (bytes rest : List ℕ) (d : Dated) (n : ℕ) → spelled d ++ rest ≡ bytes → n ≡ 13 + length (body_of d.what)
    → (take n bytes ≡ spelled d) × (drop n bytes ≡ rest) × (n ≤ length bytes)
cut bytes rest d n e size =
    let long : n ≡ length (spelled d) = size ∙ sym (length-spelled d) in (
      ap (λ (k : ℕ). take k bytes) long ∙ ap (λ (xs : List ℕ). take (length (spelled d)) xs) (sym e) ∙ take-append_seam (spelled d) rest,
      ap (λ (k : ℕ). drop k bytes) long ∙ ap (λ (xs : List ℕ). drop (length (spelled d)) xs) (sym e) ∙ drop-append_seam (spelled d) rest,
      omega (arith, long, length-append (spelled d) rest, ap length e),
    )

-- fewer than four bytes behind a record
pub short : (bytes rest : List ℕ) (d : Dated) → IsDated d → spelled d ++ rest ≡ bytes → length rest < 4 → IsFound bytes Nothing
short bytes rest d legal e few f sum s =
    let both = one d f rest (sum ++ s.behind) legal s.legal (e ∙ sym s.whole) in
    omega (arith, few, ap length both.1, length-append sum s.behind, s.size)

-- four bytes behind it
pub stands : (bytes rest : List ℕ) (d : Dated) (sum after : List ℕ) → IsDated d → spelled d ++ rest ≡ bytes → rest ≡ sum ++ after → length sum ≡ 4 → Stands bytes d sum
stands bytes rest d sum after legal e split four = record {
  legal = legal;
  size = four;
  behind = after;
  whole = ap (λ (xs : List ℕ). spelled d ++ xs) (sym split) ∙ e;
}

-- the four bytes at the front of others
first_four : (b s a : List ℕ) → s ≡ take 4 b → a ≡ drop 4 b → length a + 4 ≡ length b → (b ≡ s ++ a) × (length s ≡ 4)
first_four b s a is_s is_a long =
    let whole : b ≡ s ++ a = sym (take-append-drop 4 b) ∙ ap₂ ◌++◌ (sym is_s) (sym is_a) in
    (whole, omega (arith, ap length whole, length-append s a, long))

-- a record was read, and fewer than four bytes were behind it
pub found_short : (bytes behind : List ℕ) (d : Dated) (n : ℕ) → BeginsWith bytes (Some d) → n ≡ 13 + length (body_of d.what) → behind ≡ drop n bytes → length behind < 4
    → IsFound bytes Nothing
found_short bytes behind d n begins size back few =
    short bytes begins.1 d begins.0 begins.2 (omega (arith, few, ap length (back ∙ (cut bytes begins.1 d n begins.2 size).1)))

-- a record was read, and four bytes behind it; and the sum of what was in front of them
pub found_stands : (bytes front behind s a : List ℕ) (d : Dated) (n : ℕ) → BeginsWith bytes (Some d) → n ≡ 13 + length (body_of d.what)
    → front ≡ take n bytes → behind ≡ drop n bytes → s ≡ take 4 behind → a ≡ drop 4 behind → length a + 4 ≡ length behind
    → Stands bytes d s × (to_le_bytes w32 (crc_of front) ≡ sum_of d)
found_stands bytes front behind s a d n begins size is_front is_behind is_s is_a long =
    let parts = cut bytes begins.1 d n begins.2 size in
    let four = first_four behind s a is_s is_a long in (
      stands bytes begins.1 d s a begins.0 begins.2 (sym (is_behind ∙ parts.1) ∙ four.0) four.1,
      ap (λ (xs : List ℕ). to_le_bytes w32 (crc_of xs)) (is_front ∙ parts.0),
    )

pub summed_is : (d : Dated) → summed d ≡ spelled d ++ sum_of d
unfolding summed
summed_is d = refl

-- a record with its sum in front of others stands there
pub summed_behind : (d : Dated) (behind : List ℕ) → summed d ++ behind ≡ spelled d ++ (sum_of d ++ behind)
summed_behind d behind = ap (λ (xs : List ℕ). xs ++ behind) (summed_is d) ∙ append_assoc (spelled d) (sum_of d) behind

pub stands_summed : (bytes behind : List ℕ) (d : Dated) → IsDated d → summed d ++ behind ≡ bytes → Stands bytes d (sum_of d)
stands_summed bytes behind d legal is = record { legal = legal; size = refl; behind = behind; whole = sym (summed_behind d behind) ∙ is }

pub one_summed : AtMostOneSummed
one_summed d e behind_d behind_e legal_d legal_e is =
    let both = one d e (sum_of d ++ behind_d) (sum_of e ++ behind_e) legal_d legal_e (sym (summed_behind d behind_d) ∙ is ∙ summed_behind e behind_e) in
    (both.0, (same_front (sum_of d) (sum_of e) behind_d behind_e refl both.1).1)

pub length-summed : (d : Dated) → length (summed d) ≡ 17 + length (body_of d.what)
length-summed d = omega (arith, ap length (summed_is d), length-append (spelled d) (sum_of d), length-spelled d)

pub bounds : SizesAreBounded
bounds d legal = (omega (arith, length-summed d), omega (arith, length-summed d), omega (arith, length-summed d, body_within d.what legal.0))

-- ---- as it is found

pub whole_begins : (bytes : List ℕ) (d : Dated) → Stands bytes d (sum_of d) → (behind : List ℕ) × (summed d ++ behind ≡ bytes)
whole_begins bytes d s = (s.behind, summed_behind d s.behind ∙ s.whole)

-- where another sum stands, or none, no record with its sum does
pub changed_begins : (bytes : List ℕ) → IsChanged bytes → (d : Dated) (behind : List ℕ) → IsDated d → summed d ++ behind ≡ bytes → ⊥
changed_begins bytes changed d behind legal is = whole_unchanged bytes d (stands_summed bytes behind d legal is) changed

pub nothing_begins : (bytes : List ℕ) → IsFound bytes Nothing → (d : Dated) (behind : List ℕ) → IsDated d → summed d ++ behind ≡ bytes → ⊥
nothing_begins bytes none d behind legal is = none d (sum_of d) (stands_summed bytes behind d legal is)
