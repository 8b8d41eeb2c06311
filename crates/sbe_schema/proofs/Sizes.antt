-- Sums that end at the greatest number of 128 bits are sums of whole numbers, cut there.
use Rattle.std.proofs.Common.{◌≡◌, ℕ, suc, ◌+◌, ◌-◌, ◌^◌, ◌<◌, min, ℤ, pos, negsuc, int_lt, refl, sym, ap, ◌∙◌, Bool, true, false, not, ◌&&◌, ◌||◌, nat_lt, Option, Some, None, List, [], ◌∷◌, ◌++◌, length, map, arith, length-append}
use Rattle.std.proofs.lemmas.Bool.Decides.{nat_tests}
use Rattle.sbe_prim.specs.declared.Primitive.{Primitive}
use Rattle.sbe_prim.specs.declared.Primitive.TheVariants.{Char, Int8, Int16, Int32, Int64, UInt8, UInt16, UInt32, UInt64, Float, Double}
use Rattle.sbe_prim.specs.Primitives.{greatest_of}
use Rattle.schema_types.specs.declared.types.TypeDef.{TypeDef}
use Rattle.schema_types.specs.declared.types.TypeKind.{TypeKind}
use Rattle.schema_types.specs.declared.types.TypeKind.TheVariants.{Number, Enum, Set, Composite}
use Rattle.schema_types.specs.declared.types.MemberDef.{MemberDef}
use Rattle.schema_types.specs.declared.types.Presence.{Presence}
use Rattle.schema_types.specs.declared.types.Presence.TheVariants.{Required, Optional, Constant}
use Rattle.schema_types.specs.declared.messages.FieldDef.{FieldDef}
use Rattle.schema_types.specs.declared.messages.DataDef.{DataDef}
use Rattle.schema_types.specs.declared.messages.MessageDef.{MessageDef}
use Rattle.schema_types.specs.Groups.{GroupHead, GroupTree, no_groups, group}
use Rattle.sbe_prim.specs.Names.{primitive_named}
use Rattle.sbe_schema.specs.Meanings.{type_named, meaning_of}
use Rattle.sbe_schema.specs.Offsets.{plus, simple_size, taken, offset_of, member_end, members_end, size_by, type_size, field_end, fields_end, block_length_of}
use Rattle.sbe_schema.specs.Layout.{is_below}
use Rattle.sbe_schema.specs.Kinds.{is_dimension}
use Rattle.sbe_schema.specs.Limits.{count_of_groups, blocks_of_groups, is_large_message}
use Rattle.sbe_schema.specs.Sums.{end_of_member, end_of_members, bytes_by, bytes_of_type, end_of_field, end_of_fields, bytes_of_block, stands_below}
use Rattle.sbe_schema.specs.Blocks.{Block, blocks_below, blocks_of_message, ids_between, ids_in_groups, ids_in_message}
use Rattle.sbe_schema.specs.Faults.{bytes_of_blocks, is_bad_dimension_of}

abbrev pub most : ℕ
most = 2 ^ 128 - 1

-- two numbers that are one number where they are cut
abbrev pub AsOne : ℕ → ℕ → Type 0
AsOne a b = min a most ≡ min b most

module _ (limit : ℕ) where
  cut_sum : (a b : ℕ) → min (min a limit + b) limit ≡ min (a + b) limit
  cut_sum a b = omega arith

  cut_added : (o a b : ℕ) → min a limit ≡ min b limit → min (o + a) limit ≡ min (o + b) limit
  cut_added o a b e = omega arith

  cut_again : (a : ℕ) → min (min a limit) limit ≡ min a limit
  cut_again a = omega arith

  cut_three : (a b c x y z : ℕ) → min a limit ≡ min x limit → b ≡ min y limit → c ≡ min z limit → min (min (a + b) limit + c) limit ≡ min (x + (y + z)) limit
  cut_three a b c x y z p q r = omega (arith, p, q, r)

  cut_two : (a b x y : ℕ) → min a limit ≡ min x limit → b ≡ min y limit → min (a + b) limit ≡ min (x + y) limit
  cut_two a b x y p q = omega (arith, p, q)

  cut_count : (a b c d x y : ℕ) → c ≡ min x limit → d ≡ min y limit → min (min (min (a + b) limit + min (1 + c) limit) limit + d) limit ≡ min (1 + (a + (x + b)) + y) limit
  cut_count a b c d x y p q = omega (arith, p, q)

  cut_all : (a b c x : ℕ) → c ≡ min x limit → min (min (a + b) limit + c) limit ≡ min (a + (x + b)) limit
  cut_all a b c x p = omega (arith, p)

  pub cut_test : (k a b : ℕ) → k < limit → min a limit ≡ min b limit → nat_lt k a ≡ nat_lt k b
  cut_test k a b h e = grind (arith, nat_tests)

-- ---- members and fields

placed : (o : Option ℤ) (end size : ℕ) → plus (offset_of (min end most) o) size ≡ min (offset_of end o + size) most
placed None end size = cut_sum most end size
placed (Some (pos n)) end size = refl
placed (Some (negsuc n)) end size = refl

pub member_end_is : (types : List TypeDef) (end : ℕ) (m : MemberDef) → member_end types (min end most) m ≡ min (end_of_member types end m) most
member_end_is types end m = placed m.offset end (taken m.presence (simple_size (meaning_of types m.type_name)))

members_end_is : (types : List TypeDef) (end : ℕ) (ms : List MemberDef) → members_end types (min end most) ms ≡ min (end_of_members types end ms) most
members_end_is types end [] = refl
members_end_is types end (m ∷ ms) = ap (λ e. members_end types e ms) (member_end_is types end m) ∙ members_end_is types (end_of_member types end m) ms

kind_is : (types : List TypeDef) (kind : Option TypeKind) (p : Option Primitive) → AsOne (size_by types p kind) (bytes_by types p kind)
kind_is types kind (Some p) = refl
kind_is types None None = refl
kind_is types (Some (Number prim length null low high)) None = refl
kind_is types (Some (Enum prim values)) None = refl
kind_is types (Some (Set prim bits)) None = refl
kind_is types (Some (Composite members)) None = ap (λ n. min n most) (members_end_is types 0 members) ∙ cut_again most (end_of_members types 0 members)

type_is : (types : List TypeDef) (name : List ℕ) → AsOne (type_size types name) (bytes_of_type types name)
type_is types name = kind_is types (type_named name types) (primitive_named name)

taken_is : (presence : Presence) (a b : ℕ) → AsOne a b → AsOne (taken presence a) (taken presence b)
taken_is Required a b e = e
taken_is Optional a b e = e
taken_is Constant a b e = refl

pub field_end_is : (types : List TypeDef) (end : ℕ) (f : FieldDef) → field_end types (min end most) f ≡ min (end_of_field types end f) most
field_end_is types end f =
    let size : ℕ = taken f.presence (type_size types f.type_name) in
    let bytes : ℕ = taken f.presence (bytes_of_type types f.type_name) in
    placed f.offset end size ∙ cut_added most (offset_of end f.offset) size bytes (taken_is f.presence (type_size types f.type_name) (bytes_of_type types f.type_name) (type_is types f.type_name))

fields_end_is : (types : List TypeDef) (end : ℕ) (fs : List FieldDef) → fields_end types (min end most) fs ≡ min (end_of_fields types end fs) most
fields_end_is types end [] = refl
fields_end_is types end (f ∷ fs) = ap (λ e. fields_end types e fs) (field_end_is types end f) ∙ fields_end_is types (end_of_field types end f) fs

pub below_is : (stated : Option ℤ) (end : ℕ) → is_below stated (min end most) ≡ stands_below stated end
below_is None end = refl
below_is (Some z) end = refl

pub short_is : (types : List TypeDef) (stated : Option ℤ) (fs : List FieldDef) → is_below stated (fields_end types 0 fs) ≡ stands_below stated (end_of_fields types 0 fs)
short_is types stated fs = ap (is_below stated) (fields_end_is types 0 fs) ∙ below_is stated (end_of_fields types 0 fs)

pub long_is : (types : List TypeDef) (end : ℕ) (f : FieldDef) → nat_lt 16384 (field_end types (min end most) f) ≡ nat_lt 16384 (end_of_field types end f)
long_is types end f = cut_test most 16384 (field_end types (min end most) f) (end_of_field types end f) (omega arith) (ap (λ n. min n most) (field_end_is types end f) ∙ cut_again most (end_of_field types end f))

-- ---- blocks

block_is : (types : List TypeDef) (stated : Option ℤ) (fs : List FieldDef) → AsOne (block_length_of types stated fs) (bytes_of_block types stated fs)
block_is types None fs = ap (λ n. min n most) (fields_end_is types 0 fs) ∙ cut_again most (end_of_fields types 0 fs)
block_is types (Some (pos n)) fs = refl
block_is types (Some (negsuc n)) fs = refl

fits : (prim : Primitive) (other : Bool) (a b : ℕ) → AsOne a b → (not (is_dimension prim && other) || int_lt (greatest_of prim) (pos a)) ≡ (not (is_dimension prim && other) || int_lt (greatest_of prim) (pos b))
fits UInt8 false a b e = refl
fits UInt8 true a b e = cut_test most 255 a b (omega arith) e
fits UInt16 false a b e = refl
fits UInt16 true a b e = cut_test most 65535 a b (omega arith) e
fits Char other a b e = refl
fits Int8 other a b e = refl
fits Int16 other a b e = refl
fits Int32 other a b e = refl
fits Int64 other a b e = refl
fits UInt32 other a b e = refl
fits UInt64 other a b e = refl
fits Float other a b e = refl
fits Double other a b e = refl

pub dimension_is : (types : List TypeDef) (g : GroupHead) → (not (is_dimension g.block_prim && is_dimension g.count_prim) || int_lt (greatest_of g.block_prim) (pos (block_length_of types g.block_length g.fields))) ≡ is_bad_dimension_of types g
dimension_is types g = fits g.block_prim (is_dimension g.count_prim) (block_length_of types g.block_length g.fields) (bytes_of_block types g.block_length g.fields) (block_is types g.block_length g.fields)

bytes-append : (types : List TypeDef) (xs ys : List Block) → bytes_of_blocks types (xs ++ ys) ≡ bytes_of_blocks types xs + bytes_of_blocks types ys
bytes-append types [] ys = omega arith
bytes-append types (x ∷ xs) ys = let inner = bytes-append types xs ys in omega arith

blocks_are : (types : List TypeDef) (level : ℕ) (tree : GroupTree) → blocks_of_groups types tree ≡ min (bytes_of_blocks types (blocks_below level tree)) most
blocks_are types level no_groups = refl
blocks_are types level (group g inner rest) =
    let own : ℕ = bytes_of_block types g.block_length g.fields in
    let deeper : ℕ = bytes_of_blocks types (blocks_below (suc level) inner) in
    let behind : ℕ = bytes_of_blocks types (blocks_below level rest) in
    cut_three most (block_length_of types g.block_length g.fields) (blocks_of_groups types inner) (blocks_of_groups types rest) own deeper behind (block_is types g.block_length g.fields) (blocks_are types (suc level) inner) (blocks_are types level rest)
    ∙ ap (λ n. min (own + n) most) (sym (bytes-append types (blocks_below (suc level) inner) (blocks_below level rest)))

length-map : {A B : Type 0} (f : A → B) (xs : List A) → length (map f xs) ≡ length xs
length-map f [] = refl
length-map f (x ∷ xs) = ap (λ n. suc n) (length-map f xs)

between_is : (fields : List FieldDef) (ids : List ℕ) (vars : List DataDef) → length (ids_between fields ids vars) ≡ length fields + (length ids + length vars)
between_is fields ids vars =
    length-append (map (λ f. f.id) fields) (ids ++ map (λ d. d.id) vars)
    ∙ (λ i. length-map (λ f. f.id) fields i + (length-append ids (map (λ d. d.id) vars) ∙ ap (λ n. length ids + n) (length-map (λ d. d.id) vars)) i)

count_is : (tree : GroupTree) → count_of_groups tree ≡ min (length (ids_in_groups tree)) most
count_is no_groups = refl
count_is (group g inner rest) =
    cut_count most (length g.fields) (length g.vars) (count_of_groups inner) (count_of_groups rest) (length (ids_in_groups inner)) (length (ids_in_groups rest)) (count_is inner) (count_is rest)
    ∙ ap (λ n. min (1 + n + length (ids_in_groups rest)) most) (sym (between_is g.fields (ids_in_groups inner) g.vars))
    ∙ ap (λ n. min n most) (let e = length-append (ids_between g.fields (ids_in_groups inner) g.vars) (ids_in_groups rest) in omega arith)

pub large_is : (types : List TypeDef) (m : MessageDef) → is_large_message types m ≡ (nat_lt 1024 (length (ids_in_message m)) || nat_lt 16384 (bytes_of_blocks types (blocks_of_message m)))
large_is types m =
    let counted = cut_all most (length m.fields) (length m.vars) (count_of_groups m.groups) (length (ids_in_groups m.groups)) (count_is m.groups) ∙ ap (λ n. min n most) (sym (between_is m.fields (ids_in_groups m.groups) m.vars)) in
    let summed = cut_two most (block_length_of types m.block_length m.fields) (blocks_of_groups types m.groups) (bytes_of_block types m.block_length m.fields) (bytes_of_blocks types (blocks_below 0 m.groups)) (block_is types m.block_length m.fields) (blocks_are types 0 m.groups) in
    let elements : ℕ = length (ids_in_message m) in
    let bytes : ℕ = bytes_of_blocks types (blocks_of_message m) in
    λ i. (ap (nat_lt 1024) counted ∙ cut_test most 1024 (min elements most) elements (omega arith) (cut_again most elements)) i || (ap (nat_lt 16384) summed ∙ cut_test most 16384 (min bytes most) bytes (omega arith) (cut_again most bytes)) i
