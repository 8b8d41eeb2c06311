-- The numbers of a message that bytes spell fit their fields.
use Rattle.std.proofs.Common.{◌≡◌, ◌≤◌, ◌<◌, ◌+◌, ◌^◌, ◌==◌, ℕ, Bool, true, false, if◌then◌else◌, List, [], ◌∷◌, Option, Some, None, IfSome, length, drop, get_or, nat_lt, refl, sym, ap, subst, ◌∙◌, arith}
use Rattle.std.specs.Prelude.{sum_by}
use Rattle.std.specs.Int.{w8, w32, w64, from_le_bytes}
use Rattle.std.specs.List.{AllByRecursion}
use Rattle.std.proofs.lemmas.Bool.{ltb-true, ltb-false, eqb-false}
use Rattle.std.proofs.lemmas.List.{get_or_past, length-take, length-drop}
use Rattle.std.proofs.lemmas.List.Elements.{All-get_or, All-take, All-drop}
use Rattle.std.proofs.lemmas.List.Sums.{sum_by-cons}
use Rattle.sofh_frame.specs.Framing.{IsBytes}
use Rattle.fixp_msgs.specs.declared.messages.Expected.{Expected}
use Rattle.fixp_msgs.specs.declared.messages.Expected.TheVariants as expects
use Rattle.fixp_msgs.specs.Canonical.{FitsField}
use Rattle.fixp_msgs.specs.Grammar.{Holds, HoldsAll, unless_null, expected_at}
use Rattle.fixp_msgs.specs.Header.{block_length_in, version_in}
use Rattle.fixp_msgs.specs.Table.{Field, row_of, size_of, null}
use Rattle.connection_laws.specs.LegalLaws.{SpelledFits}

-- each byte is one, also behind the last
small_at : (bs : List ℕ) → IsBytes bs → (i : ℕ) → get_or bs i 0 < 256
small_at bs all i = by_place (nat_lt i (length bs)) refl
  where
    by_place : (b : Bool) → nat_lt i (length bs) ≡ b → get_or bs i 0 < 256
    by_place true e = All-get_or (λ (b : ℕ). b < 256) bs i 0 (ltb-true i (length bs) e) all
    by_place false e = omega (arith, get_or_past bs i 0 (ltb-false i (length bs) e))

small_1 : (bs : List ℕ) → IsBytes bs → from_le_bytes w8 bs < 2 ^ 8
small_1 bs all = omega (arith, small_at bs all 0)

small_4 : (bs : List ℕ) → IsBytes bs → from_le_bytes w32 bs < 2 ^ 32
small_4 bs all = omega (arith, small_at bs all 0, small_at bs all 1, small_at bs all 2, small_at bs all 3)

small_8 : (bs : List ℕ) → IsBytes bs → from_le_bytes w64 bs < 2 ^ 64
small_8 bs all =
    omega (arith, small_at bs all 0, small_at bs all 1, small_at bs all 2, small_at bs all 3, small_at bs all 4, small_at bs all 5, small_at bs all 6, small_at bs all 7)

-- a number of 64 bits that is not the null value is below it
below : (v : ℕ) → v < 2 ^ 64 → (v ≡ null → ⊥) → v < null
below v small other = by_order (nat_lt v null) refl
  where
    by_order : (c : Bool) → nat_lt v null ≡ c → v < null
    by_order true l = ltb-true v null l
    by_order false l = absurd (other (omega (arith, ltb-false v null l, small)))

fits_unless : (n : Option ℕ) (v : ℕ) → v < 2 ^ 64 → n ≡ unless_null v → IfSome n (λ k. k < null)
fits_unless n v small e = subst (λ (o : Option ℕ). IfSome o (λ k. k < null)) (sym e) (by_test (v == null) refl)
  where
    by_test : (b : Bool) → (v == null) ≡ b → IfSome (if b then None else Some v) (λ k. k < null)
    by_test true t = tt
    by_test false t = below v small (eqb-false v null t)

-- an expected number that is not the null value is below it
fits_expected : (e : Expected) (version v : ℕ) → v < 2 ^ 64 → e ≡ expected_at version v → FitsField (Field.expected e)
fits_expected e version v small is = subst (λ (x : Expected). FitsField (Field.expected x)) (sym is) (by_version (version == 0))
  where
    by_null : (b : Bool) → (v == null) ≡ b → FitsField (Field.expected (if b then expects.Null else expects.Number v))
    by_null true t = tt
    by_null false t = below v small (eqb-false v null t)

    by_version : (b : Bool) → FitsField (Field.expected (if b then expects.Absent else if v == null then expects.Null else expects.Number v))
    by_version true = tt
    by_version false = by_null (v == null) refl

field_fits : (version : ℕ) (block : List ℕ) (place : ℕ) (f : Field) → IsBytes block → place + size_of f ≤ length block → Holds version block place f → FitsField f
field_fits version block place (Field.identifier id) all there held =
    ap (λ (bs : List ℕ). length bs) held ∙ omega (arith, length-take 16 (drop place block), length-drop place block, there)
field_fits version block place (Field.u8 n) all there held = subst (λ (k : ℕ). k < 2 ^ 8) (sym held) (small_1 (drop place block) (All-drop (λ (b : ℕ). b < 256) place block all))
field_fits version block place (Field.u32 n) all there held = subst (λ (k : ℕ). k < 2 ^ 32) (sym held) (small_4 (drop place block) (All-drop (λ (b : ℕ). b < 256) place block all))
field_fits version block place (Field.u64 n) all there held = subst (λ (k : ℕ). k < 2 ^ 64) (sym held) (small_8 (drop place block) (All-drop (λ (b : ℕ). b < 256) place block all))
field_fits version block place (Field.optional n) all there held =
    fits_unless n (from_le_bytes w64 (drop place block)) (small_8 (drop place block) (All-drop (λ (b : ℕ). b < 256) place block all)) held
field_fits version block place (Field.expected e) all there held =
    fits_expected e version (from_le_bytes w64 (drop place block)) (small_8 (drop place block) (All-drop (λ (b : ℕ). b < 256) place block all)) held

fields_fit : (version : ℕ) (block : List ℕ) (place : ℕ) (fs : List Field) → IsBytes block → place + sum_by size_of fs ≤ length block → HoldsAll version block place fs → AllByRecursion FitsField fs
fields_fit version block place [] all there held = tt
fields_fit version block place (f ∷ fs) all there held = (
  field_fits version block place f all (omega (arith, there, sum_by-cons size_of f fs)) held.0,
  fields_fit version block (place + size_of f) fs all (omega (arith, there, sum_by-cons size_of f fs)) held.1,
)

pub spelled_fits : SpelledFits
spelled_fits bytes m all s =
    let stands = s.body.stands in
    let size : ℕ = block_length_in bytes in
    let body : List ℕ = drop 8 bytes in
    let bytes_too : IsBytes s.body.block =
    subst IsBytes (sym stands.stated) (All-take (λ (b : ℕ). b < 256) size body (All-drop (λ (b : ℕ). b < 256) 8 bytes all)) in
    let whole : length s.body.block ≡ size = ap (λ (bs : List ℕ). length bs) stands.stated ∙ omega (arith, length-take size body, length-drop 8 bytes, stands.whole) in
    fields_fit (version_in bytes) s.body.block 0 (row_of m).fields bytes_too (omega (arith, whole, stands.covers)) s.body.fields
