-- An older version of a checked schema is checked.
use Rattle.std.proofs.Common.{◌≡◌, ℕ, pos, int_lt, nat_lt, true, false, not, ◌&&◌, ◌||◌, map, is_some, refl, IsTrue, List, [], ◌∷◌, length}
use Rattle.std.specs.Prelude.{nat_eq}
use Rattle.std.specs.List.{AllByRecursion, list_any}
use Rattle.std.proofs.lemmas.Bool.{or_parts}
use Rattle.sbe_prim.specs.Names.{primitive_named}
use Rattle.schema_types.specs.declared.schema.Schema.{Schema}
use Rattle.schema_types.specs.declared.types.TypeDef.{TypeDef}
use Rattle.sbe_schema.specs.declared.fault.SchemaKind.TheVariants.{DuplicateName, DuplicateId, UnknownType, BadOffset, ShortLength, BadEnum, BadSet, BadDimension, BadData, IllegalExtension, OverLimit}
use Rattle.sbe_schema.specs.Names.{same_name}
use Rattle.sbe_schema.specs.Meanings.{meaning_of}
use Rattle.sbe_schema.specs.Identity.{is_unknown, is_composite}
use Rattle.sbe_schema.specs.Kinds.{is_dimension, is_uint32}
use Rattle.sbe_schema.specs.Limits.{is_large_kind, is_bad_value}
use Rattle.sbe_schema.specs.Sums.{end_of_fields, stands_below}
use Rattle.sbe_schema.specs.Checked.{is_checked}
use Rattle.sbe_schema.specs.Blocks.{Block, blocks_of, names_in_block, ids_in_message}
use Rattle.sbe_schema.specs.Faults.{any_pair, with_earlier, names_in, members_in, is_low_member, is_misplaced_field, is_bad_dimension_of, is_badly_extended, is_too_large, is_over_limit_in, has_duplicate_name, has_duplicate_id, has_unknown_type, has_bad_offset, has_short_length, has_bad_enum, has_bad_set, has_bad_dimension, has_bad_data, has_illegal_extension, is_past_limits, has_fault}
use Rattle.sbe_skew.specs.Projected.{projected, projected_messages}
use Rattle.sbe_skew.proofs.OlderFacts.{and_parts, is_not}
use Rattle.sbe_skew.proofs.Sublists.{or_none, pairs_sub}
use Rattle.sbe_skew.proofs.KeptRules.{in_version, not_above, Good}
use Rattle.sbe_skew.proofs.KeptSchemas.{any_of, messages_kept, ids_message, any_messages, messages_sub, count_kept, large_kept}

-- each rule is kept by a schema
record Kept (s : Schema) : Type 0 where
  name : has_duplicate_name s ≡ false
  id : has_duplicate_id s ≡ false
  unknown : has_unknown_type s ≡ false
  offset : has_bad_offset s ≡ false
  short : has_short_length s ≡ false
  enum : has_bad_enum s ≡ false
  set : has_bad_set s ≡ false
  dimension : has_bad_dimension s ≡ false
  lengths : has_bad_data s ≡ false
  extension : has_illegal_extension s ≡ false
  limits : is_past_limits s ≡ false

kept : (s : Schema) → IsTrue (is_checked s) → Kept s
unfolding is_checked
kept s c =
    let a = and_parts (not (has_fault s DuplicateName)) _ c in
    let b = and_parts (not (has_fault s DuplicateId)) _ a.1 in
    let d = and_parts (not (has_fault s UnknownType)) _ b.1 in
    let e = and_parts (not (has_fault s BadOffset)) _ d.1 in
    let f = and_parts (not (has_fault s ShortLength)) _ e.1 in
    let g = and_parts (not (has_fault s BadEnum)) _ f.1 in
    let h = and_parts (not (has_fault s BadSet)) _ g.1 in
    let i = and_parts (not (has_fault s BadDimension)) _ h.1 in
    let j = and_parts (not (has_fault s BadData)) _ i.1 in
    let k = and_parts (not (has_fault s IllegalExtension)) _ j.1 in
    let l = and_parts (not (has_fault s OverLimit)) _ k.1 in
    record {
      name = is_not (has_duplicate_name s) a.0;
      id = is_not (has_duplicate_id s) b.0;
      unknown = is_not (has_unknown_type s) d.0;
      offset = is_not (has_bad_offset s) e.0;
      short = is_not (has_short_length s) f.0;
      enum = is_not (has_bad_enum s) g.0;
      set = is_not (has_bad_set s) h.0;
      dimension = is_not (has_bad_dimension s) i.0;
      lengths = is_not (has_bad_data s) j.0;
      extension = is_not (has_illegal_extension s) k.0;
      limits = is_not (is_past_limits s) l.0;
    }

none_checked : (s : Schema) → Kept s → IsTrue (is_checked s)
unfolding is_checked
none_checked s k =
    λ i. not (k.name i) && (not (k.id i) && (not (k.unknown i) && (not (k.offset i) && (not (k.short i) && (not (k.enum i) && (not (k.set i) && (not (k.dimension i) && (not (k.lengths i) && (not (k.extension i) && (not (k.limits i) && true))))))))))

-- no block has a fault of its own
goods : (T : List TypeDef) (version : ℕ) (bs : List Block) → list_any (λ b. any_pair same_name (names_in_block b)) bs ≡ false → list_any (λ b. list_any (λ f. is_unknown (meaning_of T f.type_name)) b.fields) bs ≡ false → list_any (λ b. list_any (is_misplaced_field T) (with_earlier b.fields)) bs ≡ false
    → list_any (λ b. list_any (λ g. stands_below g.block_length (end_of_fields T 0 g.fields)) b.groups) bs ≡ false → list_any (λ b. list_any (is_bad_dimension_of T) b.groups) bs ≡ false → list_any (λ b. list_any (λ d. not (is_dimension d.length || is_uint32 d.length)) b.vars) bs ≡ false → list_any (is_badly_extended version) bs ≡ false → list_any (is_over_limit_in T) bs ≡ false
    → AllByRecursion (Good T version) bs
goods T version [] n u p s d l e m = tt
goods T version (b ∷ bs) n u p s d l e m =
    let n' = or_parts (any_pair same_name (names_in_block b)) (list_any (λ b. any_pair same_name (names_in_block b)) bs) n in
    let u' = or_parts (list_any (λ f. is_unknown (meaning_of T f.type_name)) b.fields) (list_any (λ b. list_any (λ f. is_unknown (meaning_of T f.type_name)) b.fields) bs) u in
    let p' = or_parts (list_any (is_misplaced_field T) (with_earlier b.fields)) (list_any (λ b. list_any (is_misplaced_field T) (with_earlier b.fields)) bs) p in
    let s' = or_parts (list_any (λ g. stands_below g.block_length (end_of_fields T 0 g.fields)) b.groups) (list_any (λ b. list_any (λ g. stands_below g.block_length (end_of_fields T 0 g.fields)) b.groups) bs) s in
    let d' = or_parts (list_any (is_bad_dimension_of T) b.groups) (list_any (λ b. list_any (is_bad_dimension_of T) b.groups) bs) d in
    let l' = or_parts (list_any (λ d. not (is_dimension d.length || is_uint32 d.length)) b.vars) (list_any (λ b. list_any (λ d. not (is_dimension d.length || is_uint32 d.length)) b.vars) bs) l in
    let e' = or_parts (is_badly_extended version b) (list_any (is_badly_extended version) bs) e in
    let m' = or_parts (is_over_limit_in T b) (list_any (is_over_limit_in T) bs) m in
    (record { names = n'.0; known = u'.0; placed = p'.0; short = s'.0; dimensions = d'.0; lengths = l'.0; extended = e'.0; limits = m'.0 }, goods T version bs n'.1 u'.1 p'.1 s'.1 d'.1 l'.1 e'.1 m'.1)

pub projection_checked : (s : Schema) (w : ℕ) → IsTrue (is_checked s) → IsTrue (is_checked (projected w s))
projection_checked s w c =
    let T = s.types in
    let ms = s.messages in
    let older = projected_messages w ms in
    let k = kept s c in
    let name = or_parts (any_pair same_name (map (λ t. t.name) T) || list_any (λ t. is_some (primitive_named t.name)) T) _ k.name in
    let name' = or_parts (list_any (λ t. any_pair same_name (names_in t.kind)) T) _ name.1 in
    let name'' = or_parts (any_pair same_name (map (λ m. m.name) ms)) (list_any (λ b. any_pair same_name (names_in_block b)) (blocks_of ms)) name'.1 in
    let id = or_parts (any_pair nat_eq (map (λ m. m.id) ms)) (list_any (λ m. any_pair nat_eq (ids_in_message m)) ms) k.id in
    let unknown = or_parts (list_any (λ t. list_any (λ m. is_unknown (meaning_of T m.type_name) || is_composite (meaning_of T m.type_name)) (members_in t.kind)) T) (list_any (λ b. list_any (λ f. is_unknown (meaning_of T f.type_name)) b.fields) (blocks_of ms)) k.unknown in
    let offset = or_parts (list_any (λ t. list_any (is_low_member T) (with_earlier (members_in t.kind))) T) (list_any (λ b. list_any (is_misplaced_field T) (with_earlier b.fields)) (blocks_of ms)) k.offset in
    let short = or_parts (list_any (λ m. stands_below m.block_length (end_of_fields T 0 m.fields)) ms) (list_any (λ b. list_any (λ g. stands_below g.block_length (end_of_fields T 0 g.fields)) b.groups) (blocks_of ms)) k.short in
    let extension = or_parts (list_any (λ m. int_lt (pos s.version) m.since) ms) (list_any (is_badly_extended s.version) (blocks_of ms)) k.extension in
    let limits = or_parts (nat_lt 1024 (length T) || nat_lt 256 (length ms)) _ k.limits in
    let counts = or_parts (nat_lt 1024 (length T)) (nat_lt 256 (length ms)) limits.0 in
    let limits' = or_parts (list_any (λ t. is_large_kind t.kind || list_any (λ m. is_bad_value (meaning_of T m.type_name) m.presence m.value) (members_in t.kind)) T) _ limits.1 in
    let limits'' = or_parts (list_any (is_too_large T) ms) (list_any (is_over_limit_in T) (blocks_of ms)) limits'.1 in
    let good = goods T s.version (blocks_of ms) name''.1 unknown.1 offset.1 short.1 k.dimension k.lengths extension.1 limits''.1 in
    let after : AllByRecursion (Good T w) (blocks_of older) = messages_kept T w s.version ms good in
    none_checked (projected w s) (record {
      name = or_none _ _ name.0 (or_none _ _ name'.0 (or_none _ _ (pairs_sub same_name (map (λ m. m.name) older) (map (λ m. m.name) ms) (messages_sub T w s.version (λ m. m.name) (λ m. refl) ms) name''.0) (any_of (Good T w) (λ b. any_pair same_name (names_in_block b)) (λ b g. g.names) (blocks_of older) after)));
      id =
          or_none _ _ (pairs_sub nat_eq (map (λ m. m.id) older) (map (λ m. m.id) ms) (messages_sub T w s.version (λ m. m.id) (λ m. refl) ms) id.0) (any_messages T w s.version (λ m. any_pair nat_eq (ids_in_message m)) (λ m. any_pair nat_eq (ids_in_message m)) (λ m i o. pairs_sub nat_eq _ (ids_in_message m) (ids_message T w s.version m) o) ms id.1);
      unknown = or_none _ _ unknown.0 (any_of (Good T w) (λ b. list_any (λ f. is_unknown (meaning_of T f.type_name)) b.fields) (λ b g. g.known) (blocks_of older) after);
      offset = or_none _ _ offset.0 (any_of (Good T w) (λ b. list_any (is_misplaced_field T) (with_earlier b.fields)) (λ b g. g.placed) (blocks_of older) after);
      short =
          or_none _ _ (any_messages T w s.version (λ m. stands_below m.block_length (end_of_fields T 0 m.fields)) (λ m. stands_below m.block_length (end_of_fields T 0 m.fields)) (λ m i o. refl) ms short.0) (any_of (Good T w) (λ b. list_any (λ g. stands_below g.block_length (end_of_fields T 0 g.fields)) b.groups) (λ b g. g.short) (blocks_of older) after);
      enum = k.enum;
      set = k.set;
      dimension = any_of (Good T w) (λ b. list_any (is_bad_dimension_of T) b.groups) (λ b g. g.dimensions) (blocks_of older) after;
      lengths = any_of (Good T w) (λ b. list_any (λ d. not (is_dimension d.length || is_uint32 d.length)) b.vars) (λ b g. g.lengths) (blocks_of older) after;
      extension =
          or_none _ _ (any_messages T w s.version (λ m. int_lt (pos s.version) m.since) (λ m. int_lt (pos w) m.since) (λ m i o. in_version w m.since i) ms extension.0) (any_of (Good T w) (is_badly_extended w) (λ b g. g.extended) (blocks_of older) after);
      limits =
          or_none _ _ (or_none _ _ counts.0 (not_above 256 (length older) (length ms) (count_kept T w s.version ms) counts.1)) (or_none _ _ limits'.0 (or_none _ _ (large_kept T w s.version ms limits''.0 short.0 good) (any_of (Good T w) (is_over_limit_in T) (λ b g. g.limits) (blocks_of older) after)));
    })
