-- A checked schema breaks no rule at any place, so no two of its tables are alike.
use Rattle.std.proofs.Common.{◌≡◌, ℤ, pos, ◌⊎◌, inl, inr, IsTrue, Bool, true, false, not, ◌||◌, Some, List, [], ◌∷◌, ◌++◌, refl, sym, ap, ◌∙◌, arith, append_assoc, Contains}
use Rattle.std.proofs.lemmas.Bool.{false≢true, and_parts, not-true, or_left}
use Rattle.std.proofs.lemmas.List.Elements.{Contains-append_right}
use Rattle.std.specs.FinSet as set
use Rattle.schema_types.specs.declared.schema.Schema.{Schema}
use Rattle.sbe_schema.specs.Names.{Numbers}
use Rattle.sbe_schema.specs.Places.{Place, Table, whole, type_table, value_table, bit_table, member_table, message_table, field_table, group_table, data_table}
use Rattle.sbe_schema.specs.Walk.{walk}
use Rattle.sbe_schema.specs.Identity.{is_duplicate_name, is_duplicate_id}
use Rattle.sbe_schema.specs.Kinds.{is_bad_enum, is_bad_set}
use Rattle.std.specs.List.{list_any}
use Rattle.sbe_schema.specs.Faults.{has_fault}
use Rattle.sbe_schema.specs.Checked.{is_checked, occurs, has_none_of}
use Rattle.sbe_schema.proofs.Found.{walk_finds}
use Rattle.sbe_schema.specs.declared.fault.SchemaKind.{SchemaKind}
use Rattle.sbe_schema.specs.declared.fault.SchemaKind.TheVariants.{DuplicateName, DuplicateId, UnknownType, BadOffset, ShortLength, BadEnum, BadSet, BadDimension, BadData, IllegalExtension, OverLimit}
use Rattle.schema_laws.specs.Pairs.{number_of}
use Rattle.schema_laws.specs.Kept.{CheckedNamesDiffer, CheckedTypesAreNoPrimitives, CheckedIdsDiffer, CheckedNumbersDiffer}
use Rattle.schema_laws.proofs.NamePairs.{duplicate_names_are_found}
use Rattle.schema_laws.proofs.IdPairs.{duplicate_ids_are_found}
use Rattle.schema_laws.proofs.NumberPairs.{number_pair}

or_parts : (a b : Bool) → (a || b) ≡ false → (a ≡ false) × (b ≡ false)
or_parts true b e = absurd (false≢true (sym e))
or_parts false b e = (refl, e)

-- where nothing of a list passes a test, no element of it does
none_at : (test : Place → Bool) (before : List Place) (p : Place) (after : List Place) → list_any test (before ++ p ∷ after) ≡ false → test p ≡ false
none_at test [] p after e = (or_parts (test p) (list_any test after) e).0
none_at test (q ∷ before) p after e = none_at test before p after (or_parts (test q) (list_any test (before ++ p ∷ after)) e).1

-- the rules that a kept place does not break
record Kept (p : Place) : Type 0 where
  name : is_duplicate_name p.names p.table ≡ false
  id : is_duplicate_id p.numbers p.table ≡ false
  value : is_bad_enum p.numbers p.table ≡ false
  bit : is_bad_set p.numbers p.table ≡ false

first_none : (schema : Schema) (kind : SchemaKind) (kinds : List SchemaKind) → has_none_of schema (kind ∷ kinds) ≡ true → has_fault schema kind ≡ false
first_none schema kind kinds e = not-true (has_fault schema kind) (and_parts (not (has_fault schema kind)) (has_none_of schema kinds) e).0

rest_none : (schema : Schema) (kind : SchemaKind) (kinds : List SchemaKind) → has_none_of schema (kind ∷ kinds) ≡ true → has_none_of schema kinds ≡ true
rest_none schema kind kinds e = (and_parts (not (has_fault schema kind)) (has_none_of schema kinds) e).1

-- a fault that does not occur is broken at no place
unbroken : (schema : Schema) (kind : SchemaKind) → has_fault schema kind ≡ false → (before : List Place) (p : Place) (after : List Place) → walk schema ≡ before ++ p ∷ after → occurs schema kind p ≡ false
unbroken schema kind none before p after split = none_at (occurs schema kind) before p after (ap (list_any (occurs schema kind)) (sym split) ∙ (walk_finds schema kind ∙ none))

kept_at : (schema : Schema) → IsTrue (is_checked schema) → (before : List Place) (p : Place) (after : List Place) → walk schema ≡ before ++ p ∷ after → Kept p
unfolding is_checked
kept_at schema h0 before p after split =
    let last : List SchemaKind = BadDimension ∷ BadData ∷ IllegalExtension ∷ OverLimit ∷ [] in
    let sets : List SchemaKind = BadSet ∷ last in
    let enums : List SchemaKind = BadEnum ∷ sets in
    let lengths : List SchemaKind = ShortLength ∷ enums in
    let offsets : List SchemaKind = BadOffset ∷ lengths in
    let types : List SchemaKind = UnknownType ∷ offsets in
    let ids : List SchemaKind = DuplicateId ∷ types in
    let h1 : has_none_of schema ids ≡ true = rest_none schema DuplicateName ids h0 in
    let h2 : has_none_of schema types ≡ true = rest_none schema DuplicateId types h1 in
    let h3 : has_none_of schema offsets ≡ true = rest_none schema UnknownType offsets h2 in
    let h4 : has_none_of schema lengths ≡ true = rest_none schema BadOffset lengths h3 in
    let h5 : has_none_of schema enums ≡ true = rest_none schema ShortLength enums h4 in
    let h6 : has_none_of schema sets ≡ true = rest_none schema BadEnum sets h5 in
    record {
      name = unbroken schema DuplicateName (first_none schema DuplicateName ids h0) before p after split;
      id = unbroken schema DuplicateId (first_none schema DuplicateId types h1) before p after split;
      value = unbroken schema BadEnum (first_none schema BadEnum sets h5) before p after split;
      bit = unbroken schema BadSet (first_none schema BadSet last h6) before p after split;
    }

-- the first of two stands before the second
earlier : (before : List Place) (q : Place) (between : List Place) → Contains (before ++ q ∷ between) q
earlier before q between = Contains-append_right before (q ∷ between) q (0, omega arith, refl)

regroup : (places before : List Place) (q : Place) (between : List Place) (p : Place) (after : List Place) → places ≡ before ++ q ∷ (between ++ p ∷ after) → places ≡ (before ++ q ∷ between) ++ p ∷ after
regroup places before q between p after split = split ∙ sym (append_assoc before (q ∷ between) (p ∷ after))

never : (b : Bool) → b ≡ false → b ≡ true → ⊥
never b f t = false≢true (sym f ∙ t)

pub checked_names_differ : CheckedNamesDiffer
checked_names_differ schema checked before q between p after split alike =
    let s = regroup (walk schema) before q between p after split in
    let law = duplicate_names_are_found schema (before ++ q ∷ between) p after s in
    never (is_duplicate_name p.names p.table) (kept_at schema checked (before ++ q ∷ between) p after s).name (law.1 (inr (q, earlier before q between, alike.0, alike.1)))

pub checked_types_are_no_primitives : CheckedTypesAreNoPrimitives
checked_types_are_no_primitives schema checked before p after split primitive =
    let law = duplicate_names_are_found schema before p after split in
    never (is_duplicate_name p.names p.table) (kept_at schema checked before p after split).name (law.1 (inl primitive))

pub checked_ids_differ : CheckedIdsDiffer
checked_ids_differ schema checked before q between p after split alike =
    let s = regroup (walk schema) before q between p after split in
    let law = duplicate_ids_are_found schema (before ++ q ∷ between) p after s in
    never (is_duplicate_id p.numbers p.table) (kept_at schema checked (before ++ q ∷ between) p after s).id (law.1 (q, earlier before q between, alike.0, alike.1))

-- a number that stands before breaks the rule of enums or of sets
number_breaks : (numbers : Numbers) (t : Table) (number : ℤ) → number_of t ≡ Some number → set.contains numbers number ≡ true → (is_bad_enum numbers t ≡ true) ⊎ (is_bad_set numbers t ≡ true)
number_breaks numbers whole number e h = absurd cc
number_breaks numbers (type_table t) number e h = absurd cc
number_breaks numbers (value_table prim v) number e h = let same : v.value ≡ number = cc in inl (or_left (set.contains numbers v.value) _ (ap (λ n. set.contains numbers n) same ∙ h))
number_breaks numbers (bit_table prim b) number e h = let same : pos b.bit ≡ number = cc in inr (or_left (set.contains numbers (pos b.bit)) _ (ap (λ n. set.contains numbers n) same ∙ h))
number_breaks numbers (member_table end m) number e h = absurd cc
number_breaks numbers (message_table m) number e h = absurd cc
number_breaks numbers (field_table least_since end f) number e h = absurd cc
number_breaks numbers (group_table parent least_since g) number e h = absurd cc
number_breaks numbers (data_table parent least_since d) number e h = absurd cc

pub checked_numbers_differ : CheckedNumbersDiffer
checked_numbers_differ schema checked before q between p after split alike =
    let s = regroup (walk schema) before q between p after split in
    let good = kept_at schema checked (before ++ q ∷ between) p after s in
    let law = number_pair schema (before ++ q ∷ between) p after s alike.1.0 alike.1.2 in
    let broken = number_breaks p.numbers p.table alike.1.0 alike.1.2 (law.1 (q, earlier before q between, alike.0, alike.1)) in
    elim broken [ inl v ↦ never (is_bad_enum p.numbers p.table) good.value v | inr b ↦ never (is_bad_set p.numbers p.table) good.bit b ]
