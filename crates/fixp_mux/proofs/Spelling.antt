-- A frame names the session whose Context it spells.
use Rattle.std.proofs.Common.{◌≡◌, ℕ, ◌+◌, ◌≤◌, Bool, true, false, if◌then◌else◌, ◌&&◌, List, [], ◌∷◌, ◌++◌, length, take, drop, refl, sym, ◌∙◌, ap, arith}
use Rattle.std.proofs.lemmas.List.{length-append, take-take}
use Rattle.std.proofs.Math.Seq.{take-append_seam}
use Rattle.std.proofs.lemmas.Bool.Decides.{nat_tests}
use Rattle.std.specs.Int.{w16, w32, w64, to_be_bytes, to_le_bytes}
use Rattle.sbe_prim.specs.declared.Order.{Order}
use Rattle.sbe_prim.specs.declared.Order.TheVariants.{Little, Big}
use Rattle.sofh_frame.specs.Framing.{Frame, header_of, spelled}
use Rattle.fixp_msgs.specs.Header.{block_length_in, template_in, schema_in, session_schema}
use Rattle.fixp_msgs.specs.Table.{null}
use Rattle.fixp_mux.specs.Context.{context_block, context_template, SpellsContext, names, malformed, carries, is_little, has_template, has_block, says, context_message, context_frame, ContextIsSpelled, ContextNames}

template_true : (m : List ℕ) → has_template m ≡ true → template_in m ≡ 17
template_true m e = grind (arith, nat_tests)

schema_true : (m : List ℕ) → has_template m ≡ true → schema_in m ≡ session_schema
schema_true m e = grind (arith, nat_tests)

covers_true : (m : List ℕ) → has_block m ≡ true → 24 ≤ block_length_in m
covers_true m e = grind (arith, nat_tests)

whole_true : (m : List ℕ) → has_block m ≡ true → 8 + block_length_in m ≤ length m
whole_true m e = grind (arith, nat_tests)

has_template_of : (m : List ℕ) → template_in m ≡ 17 → schema_in m ≡ session_schema → has_template m ≡ true
has_template_of m template schema = grind (arith, nat_tests)

has_block_of : (m : List ℕ) → 24 ≤ block_length_in m → 8 + block_length_in m ≤ length m → has_block m ≡ true
has_block_of m covers whole = grind (arith, nat_tests)

names_one : (a b : List ℕ) → names a ≡ names b → a ≡ b
names_one a b e = cc e

by_tests : (m id : List ℕ) (t b : Bool) → has_template m ≡ t → has_block m ≡ b → (if t then (if b then names (take 16 (drop 8 m)) else malformed) else carries) ≡ names id → SpellsContext m id
by_tests m id true true template block e =
    let covers = covers_true m block in
    record {
      template = template_true m template;
      schema = schema_true m template;
      block = take (block_length_in m) (drop 8 m);
      behind = drop (block_length_in m) (drop 8 m);
      stands = record { covers = covers; whole = whole_true m block; stated = refl; rest = refl };
      named = sym (names_one (take 16 (drop 8 m)) id e) ∙ sym (take-take 16 (block_length_in m) (drop 8 m) (omega (arith, covers)));
    }
by_tests m id true false template block e = absurd (cc e)
by_tests m id false b template block e = absurd (cc e)

found : (f : Frame) (o : Order) (id : List ℕ) → f.order ≡ o → (if is_little o && has_template f.message then (if has_block f.message then names (take 16 (drop 8 f.message)) else malformed) else carries) ≡ names id → (f.order ≡ Little) × SpellsContext f.message id
found f Little id is e = (is, by_tests f.message id (has_template f.message) (has_block f.message) refl refl e)
found f Big id is e = absurd (cc e)

spelled_names : (f : Frame) (id : List ℕ) → f.order ≡ Little → SpellsContext f.message id → says f ≡ names id
unfolding says
spelled_names f id little spells =
    let m = f.message in
    let template : has_template m ≡ true = has_template_of m spells.template spells.schema in
    let block : has_block m ≡ true = has_block_of m spells.stands.covers spells.stands.whole in
    let first : id ≡ take 16 (drop 8 m) = spells.named ∙ ap (take 16) spells.stands.stated ∙ take-take 16 (block_length_in m) (drop 8 m) (omega (arith, spells.stands.covers)) in
    ap (λ (o : Order). if is_little o && has_template m then (if has_block m then names (take 16 (drop 8 m)) else malformed) else carries) little
    ∙ ap (λ (b : Bool). if b then (if has_block m then names (take 16 (drop 8 m)) else malformed) else carries) template
    ∙ ap (λ (b : Bool). if b then names (take 16 (drop 8 m)) else malformed) block
    ∙ ap names (sym first)

names_spelled : (f : Frame) (id : List ℕ) → says f ≡ names id → (f.order ≡ Little) × SpellsContext f.message id
unfolding says
names_spelled f id e = found f f.order id refl e

pub context_is_spelled : ContextIsSpelled
context_is_spelled f id = (names_spelled f id, λ h. spelled_names f id h.0 h.1)

two : (n : ℕ) → length (to_le_bytes w16 n) ≡ 2
two n = refl

eight : (n : ℕ) → length (to_le_bytes w64 n) ≡ 8
eight n = refl

length-context_message : (id : List ℕ) → length (context_message id) ≡ 16 + length id
length-context_message id =
    let a = to_le_bytes w16 context_block in
    let b = to_le_bytes w16 context_template in
    let s = to_le_bytes w16 session_schema in
    let v = to_le_bytes w16 0 in
    let n = to_le_bytes w64 null in
    omega (
      arith,
      length-append a (b ++ s ++ v ++ id ++ n),
      length-append b (s ++ v ++ id ++ n),
      length-append s (v ++ id ++ n),
      length-append v (id ++ n),
      length-append id n,
      two context_block,
      two context_template,
      two session_schema,
      two 0,
      eight null,
    )

pub context_names : ContextNames
context_names id long =
    let m = context_message id in
    let behind = to_le_bytes w64 null in
    let first : take 16 (id ++ behind) ≡ id = ap (λ (n : ℕ). take n (id ++ behind)) (sym long) ∙ take-append_seam id behind in
    spelled_names (context_frame id) id refl (record {
      template = refl;
      schema = refl;
      block = take 24 (id ++ behind);
      behind = drop 24 (id ++ behind);
      stands = record { covers = omega arith; whole = omega (arith, long, length-context_message id); stated = refl; rest = refl };
      named = sym first ∙ sym (take-take 16 24 (id ++ behind) (omega arith));
    })

-- the bytes of a Context
pub context_spelled : (id : List ℕ) → length id ≡ 16
    → spelled (context_frame id)
    ≡ 0x00 ∷ 0x00 ∷ 0x00 ∷ 0x26 ∷ 0xEB ∷ 0x50 ∷ 0x18 ∷ 0x00 ∷ 0x11 ∷ 0x00 ∷ 0x11 ∷ 0xF0 ∷ 0x00 ∷ 0x00 ∷ (id ++ 0xFF ∷ 0xFF ∷ 0xFF ∷ 0xFF ∷ 0xFF ∷ 0xFF ∷ 0xFF ∷ 0xFF ∷ [])
unfolding header_of
context_spelled id size =
    let nulls : List ℕ = 0xFF ∷ 0xFF ∷ 0xFF ∷ 0xFF ∷ 0xFF ∷ 0xFF ∷ 0xFF ∷ 0xFF ∷ [] in
    let long : length (context_message id) ≡ 32 = omega (arith, length-append id nulls, size) in
    ap (λ (n : ℕ). (to_be_bytes w32 (6 + n) ++ to_be_bytes w16 0xEB50) ++ context_message id) long
