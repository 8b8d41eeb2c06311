-- What the walk finds of extensions and limits.
use Rattle.std.proofs.Common.{◌≡◌, ℕ, zero, suc, min, ℤ, pos, int_lt, nat_lt, refl, sym, ap, ◌∙◌, Bool, true, false, not, ◌&&◌, ◌||◌, Option, Some, None, List, [], ◌∷◌, length, map, arith}
use Rattle.std.proofs.lemmas.Bool.Decides.{nat_tests}
use Rattle.std.proofs.lemmas.Int.{ints, clamps}
use Rattle.std.specs.List.{list_any}
use Rattle.std.specs.Int.{int_max, int_min}
use Rattle.std.specs.Ordering.{int_eq}
use Rattle.std.specs.FinSet as set
use Rattle.sbe_schema.specs.declared.fault.SchemaKind.TheVariants.{IllegalExtension, OverLimit}
use Rattle.schema_types.specs.declared.schema.Schema.{Schema}
use Rattle.schema_types.specs.declared.types.TypeKind.{TypeKind}
use Rattle.schema_types.specs.declared.types.TypeKind.TheVariants.{Number, Enum, Set, Composite}
use Rattle.schema_types.specs.declared.messages.DataDef.{DataDef}
use Rattle.sbe_schema.specs.Names.{Names, Numbers}
use Rattle.sbe_schema.specs.Places.{Table}
use Rattle.sbe_schema.specs.Walk.{walk, names_of_fields, lower, lowest_since}
use Rattle.sbe_schema.specs.Meanings.{meaning_of}
use Rattle.sbe_schema.specs.Versions.{is_lower, is_not_with_group}
use Rattle.sbe_schema.specs.Limits.{is_above, is_large_kind, is_bad_value}
use Rattle.sbe_schema.specs.Checked.{breaks, occurs}
use Rattle.sbe_schema.specs.Blocks.{Block, blocks_of}
use Rattle.sbe_schema.specs.Faults.{any_pair, members_in, is_outside, is_new_inside, is_behind_older, is_badly_extended, has_illegal_extension, is_too_large, is_over_limit_in, is_past_limits}
use Rattle.sbe_schema.proofs.Along.{or_false, or_assoc, along_none, along_any, along_pairs, any_none, any_same, any_or, pair-map}
use Rattle.sbe_schema.proofs.Parts.{lowest_of, parent_of, in_kind, in_block, in_fields, in_heads, in_vars, names_of_heads, parts_are, value_step, value_test, bit_step, bit_test, member_step, member_test, type_step, type_test, message_step, message_test, field_step, field_test, group_step, group_test, data_step, data_test}
use Rattle.sbe_schema.proofs.Sizes.{large_is}

-- below the greater of two, or above the lower
below_greater : (x y z : ℤ) → int_lt z (int_max x y) ≡ (int_lt z y || int_lt z x)
below_greater x y z = grind (arith, ints, nat_tests, clamps)

lower_below : (x y z : ℤ) → int_lt (int_min x y) z ≡ (int_lt x z || int_lt y z)
lower_below x y z = grind (arith, ints, nat_tests, clamps)

or_front : (v r t : Bool) → (v || (r || t)) ≡ (r || (v || t))
or_front true true t = refl
or_front true false t = refl
or_front false r t = refl

or_fronts : (v r t k : Bool) → ((v || (r || t)) || k) ≡ (r || ((v || t) || k))
or_fronts true true t k = refl
or_fronts true false t k = refl
or_fronts false true t k = refl
or_fronts false false t k = refl

lower_of : (since other : ℤ) (rest : Option ℤ) → int_lt (lower since rest) other ≡ (int_lt since other || is_lower rest other)
lower_of since other None = sym (or_false (int_lt since other))
lower_of since other (Some lowest) = lower_below since lowest other

pub lowest_below : (vars : List DataDef) (since : ℤ) → is_lower (lowest_since vars) since ≡ list_any (λ d. int_lt d.since since) vars
lowest_below [] since = refl
lowest_below (d ∷ ds) since = lower_of d.since since (lowest_since ds) ∙ ap (λ b. int_lt d.since since || b) (lowest_below ds since)

older : (level : ℕ) (vars : List DataDef) (since : ℤ) → is_lower (lowest_of level vars) since ≡ is_behind_older level vars since
older zero vars since = lowest_below vars since
older (suc level) vars since = refl

newer : (level : ℕ) (held since : ℤ) → (nat_lt 0 (min level 4) && not (int_eq since held)) ≡ is_new_inside level held since
newer zero held since = refl
newer (suc level) held since = let t : nat_lt 0 (min (suc level) 4) ≡ true = grind (arith, nat_tests) in ap (λ b. b && not (int_eq since held)) t

deep : (level : ℕ) → nat_lt 3 (min level 4) ≡ nat_lt 3 level
deep level = grind (arith, nat_tests)

-- ---- extensions

module _ (s : Schema) where
  abbrev Since : Names → Numbers → Table → Bool
  Since = breaks s IllegalExtension

  since_in : (kind : TypeKind) → in_kind Since s.types kind ≡ false
  since_in (Number prim length null low high) = refl
  since_in (Enum prim values) = along_none (value_step Since) (value_test Since prim) (λ r v. refl) (set.empty, set.empty) values
  since_in (Set prim bits) = along_none (bit_step Since) (bit_test Since prim) (λ r b. refl) (set.empty, set.empty) bits
  since_in (Composite members) = along_none (member_step Since s.types) (member_test Since) (λ r m. refl) (set.empty, 0) members

  -- a higher least since refuses what is below the one that raised it
  raised : (least_since x y : ℤ) → is_outside s.version (int_max least_since x) y ≡ (int_lt y x || is_outside s.version least_since y)
  raised least_since x y = ap (λ b. int_lt (pos s.version) y || b) (below_greater least_since x y) ∙ or_front (int_lt (pos s.version) y) (int_lt y x) (int_lt y least_since)

  abbrev group_out : Block → ℤ → Bool
  group_out b since = is_behind_older b.level b.vars since || is_new_inside b.level b.since since

  since_fields : (b : Block) → in_fields Since s.types b ≡ (list_any (λ f. is_outside s.version b.since f.since) b.fields || any_pair int_lt (map (λ f. f.since) b.fields))
  since_fields b =
      along_pairs (field_step Since s.types) (field_test Since) (λ y x. int_lt y.since x.since) (λ r x y. raised r.1.0 x.since y.since) (set.empty, (b.since, 0)) b.fields
      ∙ ap (λ x. list_any (λ f. is_outside s.version b.since f.since) b.fields || x) (sym (pair-map int_lt (λ f. f.since) b.fields))

  since_heads : (b : Block) → in_heads Since b ≡ (list_any (λ g. is_outside s.version b.since g.since || group_out b g.since) b.groups || any_pair int_lt (map (λ g. g.since) b.groups))
  since_heads b =
      along_pairs (group_step Since) (group_test Since (parent_of b)) (λ y x. int_lt y.since x.since) (λ r x y. ap (λ c. c || (is_lower (lowest_of b.level b.vars) y.since || is_not_with_group (parent_of b) y.since)) (raised r.1 x.since y.since) ∙ or_assoc (int_lt y.since x.since) (is_outside s.version r.1 y.since) (is_lower (lowest_of b.level b.vars) y.since || is_not_with_group (parent_of b) y.since)) (names_of_fields set.empty b.fields, b.since) b.groups
      ∙ (λ i. any_same (group_test Since (parent_of b) (names_of_fields set.empty b.fields, b.since)) (λ g. is_outside s.version b.since g.since || group_out b g.since) (λ g j. is_outside s.version b.since g.since || (older b.level b.vars g.since j || newer b.level b.since g.since j)) b.groups i || sym (pair-map int_lt (λ g. g.since) b.groups) i)

  since_vars : (b : Block) → in_vars Since b ≡ (list_any (λ d. is_outside s.version b.since d.since || is_new_inside b.level b.since d.since) b.vars || any_pair int_lt (map (λ d. d.since) b.vars))
  since_vars b =
      along_pairs (data_step Since) (data_test Since (parent_of b)) (λ y x. int_lt y.since x.since) (λ r x y. ap (λ c. c || is_not_with_group (parent_of b) y.since) (raised r.1 x.since y.since) ∙ or_assoc (int_lt y.since x.since) (is_outside s.version r.1 y.since) (is_not_with_group (parent_of b) y.since)) (names_of_heads Since (names_of_fields set.empty b.fields) b.groups, b.since) b.vars
      ∙ (λ i. any_same (data_test Since (parent_of b) (names_of_heads Since (names_of_fields set.empty b.fields) b.groups, b.since)) (λ d. is_outside s.version b.since d.since || is_new_inside b.level b.since d.since) (λ d j. is_outside s.version b.since d.since || newer b.level b.since d.since j) b.vars i || sym (pair-map int_lt (λ d. d.since) b.vars) i)

  since_block : (b : Block) → in_block Since s.types b ≡ is_badly_extended s.version b
  since_block b = λ i. since_fields b i || (since_heads b i || since_vars b i)

  pub since_are : list_any (occurs s IllegalExtension) (walk s) ≡ has_illegal_extension s
  since_are =
      parts_are Since (λ names ids least_since end f. refl) (λ names ids parent least_since g. refl) (λ names ids parent least_since d. refl) s false false (list_any (λ m. int_lt (pos s.version) m.since) s.messages) (list_any (is_badly_extended s.version) (blocks_of s.messages)) (along_none (type_step Since) (type_test Since) (λ r t. refl) set.empty s.types) (any_none (λ t. in_kind Since s.types t.kind) (λ t. since_in t.kind) s.types) (along_any (message_step Since) (message_test Since) (λ m. int_lt (pos s.version) m.since) (λ r m. refl) (set.empty, set.empty) s.messages) (any_same (in_block Since s.types) (is_badly_extended s.version) since_block (blocks_of s.messages))

-- ---- limits

module _ (s : Schema) where
  abbrev Limit : Names → Numbers → Table → Bool
  Limit = breaks s OverLimit

  limit_in : (kind : TypeKind) → in_kind Limit s.types kind ≡ list_any (λ m. is_bad_value (meaning_of s.types m.type_name) m.presence m.value) (members_in kind)
  limit_in (Number prim length null low high) = refl
  limit_in (Enum prim values) = along_none (value_step Limit) (value_test Limit prim) (λ r v. refl) (set.empty, set.empty) values
  limit_in (Set prim bits) = along_none (bit_step Limit) (bit_test Limit prim) (λ r b. refl) (set.empty, set.empty) bits
  limit_in (Composite members) = along_any (member_step Limit s.types) (member_test Limit) (λ m. is_bad_value (meaning_of s.types m.type_name) m.presence m.value) (λ r m. refl) (set.empty, 0) members

  limit_block : (b : Block) → in_block Limit s.types b ≡ is_over_limit_in s.types b
  limit_block b =
      λ i. along_any (field_step Limit s.types) (field_test Limit) (λ f. is_bad_value (meaning_of s.types f.type_name) f.presence f.value) (λ r f. refl) (set.empty, (b.since, 0)) b.fields i || ((λ j. along_any (group_step Limit) (group_test Limit (parent_of b)) (λ g. is_above g.block_length 16384 || nat_lt 3 b.level) (λ r g. ap (λ x. is_above g.block_length 16384 || x) (deep b.level)) (names_of_fields set.empty b.fields, b.since) b.groups j || along_none (data_step Limit) (data_test Limit (parent_of b)) (λ r d. refl) (names_of_heads Limit (names_of_fields set.empty b.fields) b.groups, b.since) b.vars j) ∙ or_false (list_any (λ g. is_above g.block_length 16384 || nat_lt 3 b.level) b.groups)) i

  pub limits_are : list_any (occurs s OverLimit) (walk s) ≡ is_past_limits s
  limits_are =
      parts_are Limit (λ names ids least_since end f. refl) (λ names ids parent least_since g. refl) (λ names ids parent least_since d. refl) s (list_any (λ t. is_large_kind t.kind) s.types) (list_any (λ t. list_any (λ m. is_bad_value (meaning_of s.types m.type_name) m.presence m.value) (members_in t.kind)) s.types) (list_any (is_too_large s.types) s.messages) (list_any (is_over_limit_in s.types) (blocks_of s.messages)) (along_any (type_step Limit) (type_test Limit) (λ t. is_large_kind t.kind) (λ r t. refl) set.empty s.types) (any_same (λ t. in_kind Limit s.types t.kind) (λ t. list_any (λ m. is_bad_value (meaning_of s.types m.type_name) m.presence m.value) (members_in t.kind)) (λ t. limit_in t.kind) s.types) (along_any (message_step Limit) (message_test Limit) (is_too_large s.types) (λ r m. ap (λ x. is_above m.block_length 16384 || x) (large_is s.types m)) (set.empty, set.empty) s.messages) (any_same (in_block Limit s.types) (is_over_limit_in s.types) limit_block (blocks_of s.messages))
      ∙ ap (λ x. (nat_lt 1024 (length s.types) || nat_lt 256 (length s.messages)) || (x || (list_any (is_too_large s.types) s.messages || list_any (is_over_limit_in s.types) (blocks_of s.messages)))) (sym (any_or (λ t. is_large_kind t.kind) (λ t. list_any (λ m. is_bad_value (meaning_of s.types m.type_name) m.presence m.value) (members_in t.kind)) s.types))
