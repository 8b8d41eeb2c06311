-- The bytes of a legal message: their number, and that they spell the message.
use Rattle.std.proofs.Common.{◌≡◌, ℕ, ◌+◌, ◌<◌, ◌≤◌, List, [], ◌∷◌, ◌++◌, Option, Some, None, IfSome, unwrap_or, length, take, drop, refl, sym, ap, ◌∙◌, subst, arith, append_assoc, length-append}
use Rattle.std.proofs.Math.Seq.{drop-append_seam, take-append_seam}
use Rattle.std.proofs.lemmas.List.{append-nil}
use Rattle.std.proofs.lemmas.List.Sums.{sum_by-cons}
use Rattle.std.proofs.lemmas.Grind.{common_steps}
use Rattle.std.proofs.lemmas.Nat.{from_le_bytes-to_le_bytes_2, from_le_bytes-to_le_bytes_4, from_le_bytes-to_le_bytes_8}
use Rattle.std.specs.Prelude.{sum_by}
use Rattle.std.specs.Int.{w16, w64, from_le_bytes, to_le_bytes}
use Rattle.std.specs.List.{flat_map, AllByRecursion}
use Rattle.fixp_msgs.specs.declared.messages.Expected.{Expected}
use Rattle.fixp_msgs.specs.declared.messages.Expected.TheVariants.{Absent, Null, Number}
use Rattle.fixp_msgs.specs.Header.{block_length_in, version_in}
use Rattle.fixp_msgs.specs.Message.{Message}
use Rattle.fixp_msgs.specs.Table.{Field, row_of, size_of, block_size, version_of, null}
use Rattle.fixp_msgs.specs.Grammar.{Spells, IsBlock, Holds, HoldsAll, HasDatum, unless_null, expected_at}
use Rattle.fixp_msgs.specs.Canonical.{field_bytes, with_datum, header_bytes, message_bytes, FitsField, IsLegal}
use Rattle.fixp_msgs.proofs.Rows.{bounds}

length-field_bytes : (f : Field) → FitsField f → length (field_bytes f) ≡ size_of f
length-field_bytes (Field.identifier id) fits = fits
length-field_bytes (Field.u8 n) fits = refl
length-field_bytes (Field.u32 n) fits = refl
length-field_bytes (Field.u64 n) fits = refl
length-field_bytes (Field.optional n) fits = refl
length-field_bytes (Field.expected Absent) fits = refl
length-field_bytes (Field.expected Null) fits = refl
length-field_bytes (Field.expected (Number n)) fits = refl

-- the fields of a block take its bytes
pub length-fields : (fs : List Field) → AllByRecursion FitsField fs → length (flat_map field_bytes fs) ≡ sum_by size_of fs
length-fields [] _ = refl
length-fields (f ∷ fs) (fits, all) =
    length-append (field_bytes f) (flat_map field_bytes fs)
    ∙ omega (arith, length-field_bytes f fits, length-fields fs all, sum_by-cons size_of f fs)

-- the number that was written is read again
optional-again : (n : Option ℕ) → IfSome n (λ k. k < null) → n ≡ unless_null (from_le_bytes w64 (to_le_bytes w64 (unwrap_or n null)))
optional-again None fits = refl
optional-again (Some k) fits = rw (from_le_bytes-to_le_bytes_8 k (omega arith)) (grind (arith, common_steps))

-- the version is the one that has the field
abbrev Agrees : ℕ → Field → Type 0
Agrees version (Field.identifier id) = Unit {0}
Agrees version (Field.u8 n) = Unit {0}
Agrees version (Field.u32 n) = Unit {0}
Agrees version (Field.u64 n) = Unit {0}
Agrees version (Field.optional n) = Unit {0}
Agrees version (Field.expected Absent) = version ≡ 0
Agrees version (Field.expected Null) = version ≡ 1
Agrees version (Field.expected (Number n)) = version ≡ 1

row-agrees : (m : Message) → AllByRecursion (Agrees (version_of (row_of m))) (row_of m).fields
row-agrees (Message.negotiate _ _ _ _) = (tt, (tt, (tt, tt)))
row-agrees (Message.negotiation_response _ _ _ _) = (tt, (tt, (tt, tt)))
row-agrees (Message.negotiation_reject _ _ _ _) = (tt, (tt, (tt, tt)))
row-agrees (Message.establish _ _ _ _ Absent _) = (tt, (tt, (tt, (tt, (refl, tt)))))
row-agrees (Message.establish _ _ _ _ Null _) = (tt, (tt, (tt, (tt, (refl, tt)))))
row-agrees (Message.establish _ _ _ _ (Number n) _) = (tt, (tt, (tt, (tt, (refl, tt)))))
row-agrees (Message.establishment_ack _ _ _ _ Absent) = (tt, (tt, (tt, (tt, (refl, tt)))))
row-agrees (Message.establishment_ack _ _ _ _ Null) = (tt, (tt, (tt, (tt, (refl, tt)))))
row-agrees (Message.establishment_ack _ _ _ _ (Number n)) = (tt, (tt, (tt, (tt, (refl, tt)))))
row-agrees (Message.establishment_reject _ _ _ _) = (tt, (tt, (tt, tt)))
row-agrees (Message.sequence _) = (tt, tt)
row-agrees Message.unsequenced_heartbeat = tt
row-agrees (Message.retransmit_request _ _ _ _) = (tt, (tt, (tt, (tt, tt))))
row-agrees (Message.retransmission _ _ _ _) = (tt, (tt, (tt, (tt, tt))))
row-agrees (Message.retransmit_reject _ _ _ _) = (tt, (tt, (tt, tt)))
row-agrees (Message.applied _ _) = (tt, (tt, tt))
row-agrees (Message.not_applied _ _) = (tt, (tt, tt))
row-agrees (Message.finished_sending _ _) = (tt, (tt, tt))
row-agrees (Message.finished_receiving _) = (tt, tt)
row-agrees (Message.terminate _ _ _) = (tt, (tt, tt))

-- an expected number is read again by its version, and by version 0 none is
expected-again : (version : ℕ) (e : Expected) (rest : List ℕ) → FitsField (Field.expected e) → Agrees version (Field.expected e)
    → e ≡ expected_at version (from_le_bytes w64 (field_bytes (Field.expected e) ++ rest))
expected-again version Absent rest fits is = subst (λ v. Absent ≡ expected_at v (from_le_bytes w64 rest)) (sym is) refl
expected-again version Null rest fits is = subst (λ v. Null ≡ expected_at v (from_le_bytes w64 (to_le_bytes w64 null))) (sym is) refl
expected-again version (Number k) rest fits is =
    subst (λ v. Number k ≡ expected_at v (from_le_bytes w64 (to_le_bytes w64 k))) (sym is)
    (rw (from_le_bytes-to_le_bytes_8 k (omega arith)) (grind (arith, common_steps)))

-- a field's bytes hold its value, whatever follows them
holds_first : (version : ℕ) (f : Field) (rest : List ℕ) → FitsField f → Agrees version f → Holds version (field_bytes f ++ rest) 0 f
holds_first version (Field.identifier id) rest fits _ = sym (subst (λ n. take n (id ++ rest) ≡ id) fits (take-append_seam id rest))
holds_first version (Field.u8 n) rest fits _ = omega arith
holds_first version (Field.u32 n) rest fits _ = sym (from_le_bytes-to_le_bytes_4 n fits)
holds_first version (Field.u64 n) rest fits _ = sym (from_le_bytes-to_le_bytes_8 n fits)
holds_first version (Field.optional n) rest fits _ = optional-again n fits
holds_first version (Field.expected e) rest fits is = expected-again version e rest fits is

-- a field is where the bytes before it end
holds_behind : (version : ℕ) (f : Field) (front bytes : List ℕ) → Holds version bytes 0 f → Holds version (front ++ bytes) (length front) f
holds_behind version (Field.identifier id) front bytes h = rw (drop-append_seam front bytes) h
holds_behind version (Field.u8 n) front bytes h = rw (drop-append_seam front bytes) h
holds_behind version (Field.u32 n) front bytes h = rw (drop-append_seam front bytes) h
holds_behind version (Field.u64 n) front bytes h = rw (drop-append_seam front bytes) h
holds_behind version (Field.optional n) front bytes h = rw (drop-append_seam front bytes) h
holds_behind version (Field.expected e) front bytes h = rw (drop-append_seam front bytes) h

-- every field of the block is read again
holds_all : (version : ℕ) (fs : List Field) (front : List ℕ) → AllByRecursion FitsField fs → AllByRecursion (Agrees version) fs
    → HoldsAll version (front ++ flat_map field_bytes fs) (length front) fs
holds_all version [] front _ _ = tt
holds_all version (f ∷ fs) front (fits, all) (agrees, more) =
    let P : ℕ → List ℕ → Type 0 = λ n bytes. HoldsAll version bytes n fs in (
      holds_behind version f front (field_bytes f ++ flat_map field_bytes fs) (holds_first version f (flat_map field_bytes fs) fits agrees),
      subst (λ n. P n (front ++ (field_bytes f ++ flat_map field_bytes fs))) (length-append front (field_bytes f) ∙ ap (λ n. length front + n) (length-field_bytes f fits))
          (subst (P (length (front ++ field_bytes f))) (append_assoc front (field_bytes f) (flat_map field_bytes fs)) (holds_all version fs (front ++ field_bytes f) all more)),
    )

-- a datum is read again, whatever follows it
has_datum : (datum : Option (List ℕ)) (after : List ℕ) → IfSome datum (λ t. length t ≤ 2048) → HasDatum (with_datum [] datum ++ after) datum
has_datum None after _ = tt
has_datum (Some datum) after short =
    let size : from_le_bytes w16 (to_le_bytes w16 (length datum)) ≡ length datum = from_le_bytes-to_le_bytes_2 (length datum) (omega arith) in
    record {
      whole = omega (arith, size, length-append datum after);
      value = subst (λ n. datum ≡ take n (datum ++ after)) (sym size) (sym (take-append_seam datum after));
    }

-- the datum stands behind what was before it
with_datum-append : (bytes : List ℕ) (datum : Option (List ℕ)) (after : List ℕ) → with_datum bytes datum ++ after ≡ bytes ++ (with_datum [] datum ++ after)
with_datum-append bytes None after = refl
with_datum-append bytes (Some datum) after =
    append_assoc (bytes ++ to_le_bytes w16 (length datum)) datum after ∙ append_assoc bytes (to_le_bytes w16 (length datum)) (datum ++ after)

-- the block is the bytes behind the header, as many as the header states
is_block : (bytes block behind : List ℕ) (size : ℕ) → drop 8 bytes ≡ block ++ behind → length bytes ≡ 8 + (length block + length behind) → block_length_in bytes ≡ size → length block ≡ size → IsBlock bytes size block behind
is_block bytes block behind size rest all stated here =
    let P : ℕ → List ℕ → Type 0 = λ n xs. (block ≡ take n xs) × (behind ≡ drop n xs) in
    let parts : (block ≡ take (block_length_in bytes) (drop 8 bytes)) × (behind ≡ drop (block_length_in bytes) (drop 8 bytes)) =
    subst (λ n. P n (drop 8 bytes)) (here ∙ sym stated)
    (subst (P (length block)) (sym rest) (sym (take-append_seam block behind), sym (drop-append_seam block behind))) in
    record { covers = omega arith; whole = omega arith; stated = parts.0; rest = parts.1 }

pub written_spells : (m : Message) (after : List ℕ) → IsLegal m → Spells (message_bytes m ++ after) m
written_spells m after legal =
    let r = row_of m in
    let small = bounds m in
    let size : from_le_bytes w16 (to_le_bytes w16 (block_size r)) ≡ block_size r = from_le_bytes-to_le_bytes_2 (block_size r) (omega (arith, small.block)) in
    let version : from_le_bytes w16 (to_le_bytes w16 (version_of r)) ≡ version_of r = from_le_bytes-to_le_bytes_2 (version_of r) (omega (arith, small.version)) in
    let block : List ℕ = flat_map field_bytes r.fields in
    let behind : List ℕ = with_datum [] r.datum ++ after in
    let whole : message_bytes m ++ after ≡ header_bytes r ++ (block ++ behind) = with_datum-append (header_bytes r ++ block) r.datum after in
    let P : List ℕ → Type 0 = λ bytes. Spells bytes m in
    subst P (sym whole) (record {
      template = from_le_bytes-to_le_bytes_2 r.template (omega (arith, small.template));
      schema = refl;
      body = record {
        block = block;
        behind = behind;
        stands = is_block (header_bytes r ++ (block ++ behind)) block behind (block_size r) refl (omega (arith, length-append block behind)) size (length-fields r.fields legal.fields);
        fields = subst (λ v. HoldsAll v block 0 r.fields) (sym version) (holds_all (version_of r) r.fields [] legal.fields (row-agrees m));
        datum = has_datum r.datum after legal.datum;
      };
    })

-- parts that were put one after another, as one list
pub joined : (head id t k o : List ℕ) {x₀ x₁ x₂ : List ℕ} → x₀ ≡ head ++ (id ++ t) → x₁ ≡ x₀ ++ k → x₂ ≡ x₁ ++ o → x₂ ≡ head ++ (id ++ (t ++ (k ++ o)))
joined head id t k o a b c = rw (c, b, a) (simp append_assoc)

-- the same of the parts of EstablishmentAck
pub joined_all : (head id t k o e : List ℕ) {x₀ x₁ x₂ x₃ x₄ x₅ : List ℕ} → x₀ ≡ head → x₁ ≡ x₀ ++ id → x₂ ≡ x₁ ++ t → x₃ ≡ x₂ ++ k → x₄ ≡ x₃ ++ o → x₅ ≡ x₄ ++ e
    → x₅ ≡ head ++ (id ++ (t ++ (k ++ (o ++ (e ++ [])))))
joined_all head id t k o e a b c d f g = rw (g, f, d, c, b, a) (simp (append_assoc, append-nil))

-- the same with nothing behind it
pub message_spells : (m : Message) → IsLegal m → Spells (message_bytes m) m
message_spells m legal =
    let P : List ℕ → Type 0 = λ bytes. Spells bytes m in
    subst P (append-nil (message_bytes m)) (written_spells m [] legal)
