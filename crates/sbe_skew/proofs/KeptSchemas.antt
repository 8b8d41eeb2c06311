-- An older version of a checked schema is checked: block by block, message by message, and rule by rule.
use Rattle.std.proofs.Common.{◌≡◌, inl, ℕ, suc, ◌+◌, ◌≤◌, ◌∙◌, ℤ, pos, int_lt, nat_lt, Bool, true, false, not, ◌&&◌, ◌||◌, cond, if◌then◌else◌, filter, map, refl, Option, None, List, [], ◌∷◌, ◌++◌, length, arith}
use Rattle.std.specs.List.{AllByRecursion, list_any}
use Rattle.std.proofs.lemmas.Bool.{or_parts}
use Rattle.sbe_prim.specs.Primitives.{greatest_of}
use Rattle.schema_types.specs.declared.types.TypeDef.{TypeDef}
use Rattle.schema_types.specs.declared.messages.FieldDef.{FieldDef}
use Rattle.schema_types.specs.declared.messages.DataDef.{DataDef}
use Rattle.schema_types.specs.declared.messages.MessageDef.{MessageDef}
use Rattle.schema_types.specs.Groups.{GroupHead, GroupTree, group, no_groups}
use Rattle.sbe_schema.specs.Names.{same_name}
use Rattle.sbe_schema.specs.Meanings.{meaning_of}
use Rattle.sbe_schema.specs.Identity.{is_unknown}
use Rattle.sbe_schema.specs.Kinds.{is_dimension, is_uint32}
use Rattle.sbe_schema.specs.Limits.{is_above, is_bad_value}
use Rattle.sbe_schema.specs.Sums.{end_of_fields, bytes_of_block, stands_below}
use Rattle.sbe_schema.specs.Blocks.{Block, heads_of, entry_block, blocks_below, root_block, blocks_of_message, blocks_of, names_in_block, ids_between, ids_in_groups, ids_in_message}
use Rattle.sbe_schema.specs.Faults.{is_misplaced_field, is_bad_dimension_of, bytes_of_blocks, is_too_large}
use Rattle.sbe_grammar.specs.Values.{is_in}
use Rattle.sbe_skew.specs.Projected.{projected_fields, projected_data, projected_head, projected_groups, projected_message, projected_messages}
use Rattle.sbe_skew.proofs.OlderBlocks.{Ends, keep_field}
use Rattle.sbe_skew.proofs.OlderFacts.{sorted_ends, sound}
use Rattle.sbe_skew.proofs.Sublists.{or_none, Sub, sub_skip, sub_behind, sub_append, pairs_sub, length_sub, any_filter, sub_map, any_map}
use Rattle.sbe_skew.proofs.KeptRules.{below_less, not_above, any_heads, heads_sub, placed_kept, bytes_less, Good, extended_kept}

all_append : {X : Type 0} (P : X → Type 0) (xs ys : List X) → AllByRecursion P xs → AllByRecursion P ys → AllByRecursion P (xs ++ ys)
all_append P [] ys a b = b
all_append P (x ∷ xs) ys a b = (a.0, all_append P xs ys a.1 b)

all_split : {X : Type 0} (P : X → Type 0) (xs ys : List X) → AllByRecursion P (xs ++ ys) → AllByRecursion P xs × AllByRecursion P ys
all_split P [] ys a = (tt, a)
all_split P (x ∷ xs) ys a = let r = all_split P xs ys a.1 in ((a.0, r.0), r.1)

pub any_of : {X : Type 0} (P : X → Type 0) (p : X → Bool) → ((x : X) → P x → p x ≡ false) → (xs : List X) → AllByRecursion P xs → list_any p xs ≡ false
any_of P p f [] a = refl
any_of P p f (x ∷ xs) a = or_none (p x) (list_any p xs) (f x a.0) (any_of P p f xs a.1)

-- a block by its parts
abbrev Of : ℕ → ℤ → Option ℤ → List FieldDef → GroupTree → List DataDef → Block
Of level since stated fields t vars = record {
  level = level;
  since = since;
  stated = stated;
  fields = fields;
  groups = heads_of t;
  vars = vars;
}

module _ (T : List TypeDef) (w version : ℕ) where
  ends_of : (b : Block) → Good T version b → Ends (keep_field w) b.fields
  ends_of b g = sorted_ends w (λ (f : FieldDef). f.since) b.fields (sound version b g.extended).fields

  abbrev Short : GroupHead → Bool
  Short g = stands_below g.block_length (end_of_fields T 0 g.fields)

  bad_dimension : (level : ℕ) (g : GroupHead) (inner : GroupTree) → Good T version (entry_block level g inner) → Short g ≡ false → is_bad_dimension_of T g ≡ false → is_bad_dimension_of T (projected_head w g) ≡ false
  bad_dimension level g inner k s h =
      let o = or_parts (not (is_dimension g.block_prim && is_dimension g.count_prim)) (int_lt (greatest_of g.block_prim) (pos (bytes_of_block T g.block_length g.fields))) h in
      or_none (not (is_dimension g.block_prim && is_dimension g.count_prim)) (int_lt (greatest_of g.block_prim) (pos (bytes_of_block T None (projected_fields w g.fields)))) o.0 (below_less (greatest_of g.block_prim) (bytes_of_block T None (projected_fields w g.fields)) (bytes_of_block T g.block_length g.fields) (bytes_less T w g.block_length g.fields (ends_of (entry_block level g inner) k) k.placed s) o.1)

  dimensions_kept : (level : ℕ) (t : GroupTree) → list_any Short (heads_of t) ≡ false → list_any (is_bad_dimension_of T) (heads_of t) ≡ false → AllByRecursion (Good T version) (blocks_below level t) → list_any (is_bad_dimension_of T) (heads_of (projected_groups w t)) ≡ false
  dimensions_kept level no_groups s h a = refl
  dimensions_kept level (group g inner rest) s h a =
      let p = or_parts (Short g) (list_any Short (heads_of rest)) s in
      let o = or_parts (is_bad_dimension_of T g) (list_any (is_bad_dimension_of T) (heads_of rest)) h in
      let r = all_split (Good T version) (blocks_below (suc level) inner) (blocks_below level rest) a.1 in
      let later = dimensions_kept level rest p.1 o.1 r.1 in
      elim (is_in w g.since) as (λ b. list_any (is_bad_dimension_of T) (heads_of (if b then group (projected_head w g) (projected_groups w inner) (projected_groups w rest) else projected_groups w rest)) ≡ false) [
        | true ↦ or_none (is_bad_dimension_of T (projected_head w g)) (list_any (is_bad_dimension_of T) (heads_of (projected_groups w rest))) (bad_dimension level g inner a.0 p.0 o.0) later
        | false ↦ later
      ]

  good_kept : (level : ℕ) (since : ℤ) (stated : Option ℤ) (fields : List FieldDef) (t : GroupTree) (vars : List DataDef) → Good T version (Of level since stated fields t vars) → AllByRecursion (Good T version) (blocks_below level t) → Good T w (Of level since None (projected_fields w fields) (projected_groups w t) (projected_data w vars))
  good_kept level since stated fields t vars g a =
      let limits = or_parts (list_any (λ f. is_bad_value (meaning_of T f.type_name) f.presence f.value) fields) (list_any (λ (g : GroupHead). is_above g.block_length 16384 || nat_lt 3 level) (heads_of t)) g.limits in
      record {
        names = pairs_sub same_name (names_in_block (Of level since None (projected_fields w fields) (projected_groups w t) (projected_data w vars))) (names_in_block (Of level since stated fields t vars)) (sub_append (map (λ f. f.name) (projected_fields w fields)) (map (λ f. f.name) fields) (map (λ (g : GroupHead). g.name) (heads_of (projected_groups w t)) ++ map (λ d. d.name) (projected_data w vars)) (map (λ (g : GroupHead). g.name) (heads_of t) ++ map (λ d. d.name) vars) (sub_map (λ f. f.name) (keep_field w) fields) (sub_append (map (λ (g : GroupHead). g.name) (heads_of (projected_groups w t))) (map (λ (g : GroupHead). g.name) (heads_of t)) (map (λ d. d.name) (projected_data w vars)) (map (λ d. d.name) vars) (heads_sub T w (λ g. g.name) (λ g. refl) t) (sub_map (λ d. d.name) (λ d. is_in w d.since) vars))) g.names;
        known = any_filter (keep_field w) (λ f. is_unknown (meaning_of T f.type_name)) (λ f. is_unknown (meaning_of T f.type_name)) (λ f i o. o) fields g.known;
        placed = placed_kept T w (is_misplaced_field T) fields (ends_of (Of level since stated fields t vars) g) g.placed;
        short = any_heads T w Short Short (λ g i o. refl) t g.short;
        dimensions = dimensions_kept level t g.short g.dimensions a;
        lengths = any_filter (λ d. is_in w d.since) (λ d. not (is_dimension d.length || is_uint32 d.length)) (λ d. not (is_dimension d.length || is_uint32 d.length)) (λ d i o. o) vars g.lengths;
        extended = extended_kept T w version (Of level since stated fields t vars) t refl g.extended;
        limits =
            or_none (list_any (λ f. is_bad_value (meaning_of T f.type_name) f.presence f.value) (projected_fields w fields)) (list_any (λ (g : GroupHead). is_above g.block_length 16384 || nat_lt 3 level) (heads_of (projected_groups w t))) (any_filter (keep_field w) (λ f. is_bad_value (meaning_of T f.type_name) f.presence f.value) (λ f. is_bad_value (meaning_of T f.type_name) f.presence f.value) (λ f i o. o) fields limits.0) (any_heads T w (λ g. is_above g.block_length 16384 || nat_lt 3 level) (λ g. is_above g.block_length 16384 || nat_lt 3 level) (λ g i o. (or_parts (is_above g.block_length 16384) (nat_lt 3 level) o).1) t limits.1);
      }

  below_kept : (level : ℕ) (t : GroupTree) → AllByRecursion (Good T version) (blocks_below level t) → AllByRecursion (Good T w) (blocks_below level (projected_groups w t))
  below_kept level no_groups a = tt
  below_kept level (group g inner rest) a =
      let r = all_split (Good T version) (blocks_below (suc level) inner) (blocks_below level rest) a.1 in
      let later = below_kept level rest r.1 in
      elim (is_in w g.since) as (λ b. AllByRecursion (Good T w) (blocks_below level (if b then group (projected_head w g) (projected_groups w inner) (projected_groups w rest) else projected_groups w rest))) [
        | true ↦ (good_kept (suc level) g.since g.block_length g.fields inner g.vars a.0 r.0, all_append (Good T w) (blocks_below (suc level) (projected_groups w inner)) (blocks_below level (projected_groups w rest)) (below_kept (suc level) inner r.0) later)
        | false ↦ later
      ]

  pub messages_kept : (ms : List MessageDef) → AllByRecursion (Good T version) (blocks_of ms) → AllByRecursion (Good T w) (blocks_of (projected_messages w ms))
  messages_kept [] a = tt
  messages_kept (m ∷ ms) a =
      let r = all_split (Good T version) (blocks_below 0 m.groups) (blocks_of ms) a.1 in
      let later = messages_kept ms r.1 in
      elim (is_in w m.since) as (λ b. AllByRecursion (Good T w) (blocks_of (map (projected_message w) (cond b (m ∷ filter (λ m. is_in w m.since) ms) (filter (λ m. is_in w m.since) ms))))) [
        | true ↦ (good_kept 0 m.since m.block_length m.fields m.groups m.vars a.0 r.0, all_append (Good T w) (blocks_below 0 (projected_groups w m.groups)) (blocks_of (projected_messages w ms)) (below_kept 0 m.groups r.0) later)
        | false ↦ later
      ]

  -- ---- bytes

  bytes_append : (xs ys : List Block) → bytes_of_blocks T (xs ++ ys) ≡ bytes_of_blocks T xs + bytes_of_blocks T ys
  bytes_append [] ys = omega arith
  bytes_append (x ∷ xs) ys = let e = bytes_append xs ys in omega (arith, e)

  bytes_below : (level : ℕ) (t : GroupTree) → list_any Short (heads_of t) ≡ false → AllByRecursion (Good T version) (blocks_below level t) → bytes_of_blocks T (blocks_below level (projected_groups w t)) ≤ bytes_of_blocks T (blocks_below level t)
  bytes_below level no_groups s a = omega arith
  bytes_below level (group g inner rest) s a =
      let p = or_parts (Short g) (list_any Short (heads_of rest)) s in
      let r = all_split (Good T version) (blocks_below (suc level) inner) (blocks_below level rest) a.1 in
      let own : bytes_of_block T None (projected_fields w g.fields) ≤ bytes_of_block T g.block_length g.fields = bytes_less T w g.block_length g.fields (ends_of (entry_block level g inner) a.0) a.0.placed p.0 in
      let deeper = bytes_below (suc level) inner a.0.short r.0 in
      let later = bytes_below level rest p.1 r.1 in
      let all = bytes_append (blocks_below (suc level) inner) (blocks_below level rest) in
      let kept = bytes_append (blocks_below (suc level) (projected_groups w inner)) (blocks_below level (projected_groups w rest)) in
      elim (is_in w g.since) as (λ b. bytes_of_blocks T (blocks_below level (if b then group (projected_head w g) (projected_groups w inner) (projected_groups w rest) else projected_groups w rest)) ≤ bytes_of_blocks T (blocks_below level (group g inner rest))) [
        | true ↦ omega (arith, own, deeper, later, all, kept)
        | false ↦ omega (arith, later, all)
      ]

  -- ---- ids

  ids_groups : (t : GroupTree) → Sub (ids_in_groups (projected_groups w t)) (ids_in_groups t)
  ids_groups no_groups = tt
  ids_groups (group g inner rest) =
      let inside = ids_between_sub g.fields g.vars (ids_in_groups (projected_groups w inner)) (ids_in_groups inner) (ids_groups inner) in
      elim (is_in w g.since) as (λ b. Sub (ids_in_groups (if b then group (projected_head w g) (projected_groups w inner) (projected_groups w rest) else projected_groups w rest)) (g.id ∷ (ids_between g.fields (ids_in_groups inner) g.vars ++ ids_in_groups rest))) [
        | true ↦ inl (refl, sub_append (ids_between (projected_fields w g.fields) (ids_in_groups (projected_groups w inner)) (projected_data w g.vars)) (ids_between g.fields (ids_in_groups inner) g.vars) (ids_in_groups (projected_groups w rest)) (ids_in_groups rest) inside (ids_groups rest))
        | false ↦ sub_skip g.id (ids_in_groups (projected_groups w rest)) (ids_between g.fields (ids_in_groups inner) g.vars ++ ids_in_groups rest) (sub_behind (ids_between g.fields (ids_in_groups inner) g.vars) (ids_in_groups (projected_groups w rest)) (ids_in_groups rest) (ids_groups rest))
      ]
    where
      ids_between_sub : (fields : List FieldDef) (vars : List DataDef) (xs ys : List ℕ) → Sub xs ys → Sub (ids_between (projected_fields w fields) xs (projected_data w vars)) (ids_between fields ys vars)
      ids_between_sub fields vars xs ys s =
          sub_append (map (λ f. f.id) (projected_fields w fields)) (map (λ f. f.id) fields) (xs ++ map (λ d. d.id) (projected_data w vars)) (ys ++ map (λ d. d.id) vars) (sub_map (λ f. f.id) (keep_field w) fields) (sub_append xs ys (map (λ d. d.id) (projected_data w vars)) (map (λ d. d.id) vars) s (sub_map (λ d. d.id) (λ d. is_in w d.since) vars))

  pub ids_message : (m : MessageDef) → Sub (ids_in_message (projected_message w m)) (ids_in_message m)
  ids_message m =
      sub_append (map (λ f. f.id) (projected_fields w m.fields)) (map (λ f. f.id) m.fields) (ids_in_groups (projected_groups w m.groups) ++ map (λ d. d.id) (projected_data w m.vars)) (ids_in_groups m.groups ++ map (λ d. d.id) m.vars) (sub_map (λ f. f.id) (keep_field w) m.fields) (sub_append (ids_in_groups (projected_groups w m.groups)) (ids_in_groups m.groups) (map (λ d. d.id) (projected_data w m.vars)) (map (λ d. d.id) m.vars) (ids_groups m.groups) (sub_map (λ d. d.id) (λ d. is_in w d.since) m.vars))

  -- ---- messages

  pub any_messages : (p q : MessageDef → Bool) → ((m : MessageDef) → is_in w m.since ≡ true → p m ≡ false → q (projected_message w m) ≡ false) → (ms : List MessageDef) → list_any p ms ≡ false → list_any q (projected_messages w ms) ≡ false
  any_messages p q f ms h =
      any_map q (projected_message w) (filter (λ m. is_in w m.since) ms) ∙ any_filter (λ m. is_in w m.since) p (λ m. q (projected_message w m)) f ms h

  pub messages_sub : {A : Type 0} (f : MessageDef → A) → ((m : MessageDef) → f (projected_message w m) ≡ f m) → (ms : List MessageDef) → Sub (map f (projected_messages w ms)) (map f ms)
  messages_sub f e [] = tt
  messages_sub f e (m ∷ ms) =
      elim (is_in w m.since) as (λ b. Sub (map f (map (projected_message w) (cond b (m ∷ filter (λ m. is_in w m.since) ms) (filter (λ m. is_in w m.since) ms)))) (f m ∷ map f ms)) [
        | true ↦ inl (e m, messages_sub f e ms)
        | false ↦ sub_skip (f m) (map f (projected_messages w ms)) (map f ms) (messages_sub f e ms)
      ]

  pub count_kept : (ms : List MessageDef) → length (projected_messages w ms) ≤ length ms
  count_kept [] = omega arith
  count_kept (m ∷ ms) =
      let rest = count_kept ms in
      elim (is_in w m.since) as (λ b. length (map (projected_message w) (cond b (m ∷ filter (λ m. is_in w m.since) ms) (filter (λ m. is_in w m.since) ms))) ≤ suc (length ms)) [ true ↦ omega (arith, rest) | false ↦ omega (arith, rest) ]

  pub large_kept : (ms : List MessageDef) → list_any (is_too_large T) ms ≡ false → list_any (λ m. stands_below m.block_length (end_of_fields T 0 m.fields)) ms ≡ false → AllByRecursion (Good T version) (blocks_of ms) → list_any (is_too_large T) (projected_messages w ms) ≡ false
  large_kept [] h s a = refl
  large_kept (m ∷ ms) h s a =
      let o = or_parts (is_too_large T m) (list_any (is_too_large T) ms) h in
      let p = or_parts (stands_below m.block_length (end_of_fields T 0 m.fields)) (list_any (λ m. stands_below m.block_length (end_of_fields T 0 m.fields)) ms) s in
      let r = all_split (Good T version) (blocks_below 0 m.groups) (blocks_of ms) a.1 in
      let q = or_parts (is_above m.block_length 16384) (nat_lt 1024 (length (ids_in_message m)) || nat_lt 16384 (bytes_of_blocks T (blocks_of_message m))) o.0 in
      let k = or_parts (nat_lt 1024 (length (ids_in_message m))) (nat_lt 16384 (bytes_of_blocks T (blocks_of_message m))) q.1 in
      let own : bytes_of_block T None (projected_fields w m.fields) ≤ bytes_of_block T m.block_length m.fields = bytes_less T w m.block_length m.fields (ends_of (root_block m) a.0) a.0.placed p.0 in
      let deeper = bytes_below 0 m.groups a.0.short r.0 in
      let bytes : bytes_of_blocks T (blocks_of_message (projected_message w m)) ≤ bytes_of_blocks T (blocks_of_message m) = omega (arith, own, deeper) in
      let here : is_too_large T (projected_message w m) ≡ false =
      or_none (nat_lt 1024 (length (ids_in_message (projected_message w m)))) (nat_lt 16384 (bytes_of_blocks T (blocks_of_message (projected_message w m)))) (not_above 1024 (length (ids_in_message (projected_message w m))) (length (ids_in_message m)) (length_sub (ids_in_message (projected_message w m)) (ids_in_message m) (ids_message m)) k.0) (not_above 16384 (bytes_of_blocks T (blocks_of_message (projected_message w m))) (bytes_of_blocks T (blocks_of_message m)) bytes k.1) in
      let later = large_kept ms o.1 p.1 r.1 in
      elim (is_in w m.since) as (λ b. list_any (is_too_large T) (map (projected_message w) (cond b (m ∷ filter (λ m. is_in w m.since) ms) (filter (λ m. is_in w m.since) ms))) ≡ false) [
        | true ↦ or_none (is_too_large T (projected_message w m)) (list_any (is_too_large T) (projected_messages w ms)) here later
        | false ↦ later
      ]
