-- The groups of a block, as a list in which each group holds the groups of its entries (SBE 1.0, "Repeating groups").
use Rattle.std.specs.Prelude.{◌≡◌, ℕ, ◌+◌, ℤ, Option, List, refl}
use Rattle.std.proofs.Common.{ap, sym, subst}
use Rattle.std.specs.Coded.{Coded, code_by, coded×, coded_ℕ, coded_ℤ, coded_list, coded_option}
use base.Stored.{Gv, gnil, gnum, gcons}
use Rattle.sbe_prim.specs.declared.Primitive.{Primitive}
use Rattle.sbe_prim.specs.contracts.Primitive as primitive
use Rattle.schema_types.specs.declared.messages.FieldDef.{FieldDef}
use Rattle.schema_types.specs.declared.messages.DataDef.{DataDef}
use Rattle.schema_types.specs.contracts.messages.FieldDef as field
use Rattle.schema_types.specs.contracts.messages.DataDef as data_field

-- a group without the groups of its entries
pub record GroupHead : Type 0 where
  pub name : List ℕ
  pub id : ℕ
  pub block_prim : Primitive
  pub count_prim : Primitive
  pub since : ℤ
  pub block_length : Option ℤ
  pub fields : List FieldDef
  pub vars : List DataDef

-- a group, the groups of its entries, and the groups behind it
pub data GroupTree : Type 0 where
  no_groups : GroupTree
  group : GroupHead → GroupTree → GroupTree → GroupTree

-- how many groups there are at every depth
abbrev pub weight_of : GroupTree → ℕ
weight_of no_groups = 0
weight_of (group head inner rest) = 1 + weight_of inner + weight_of rest

-- ---- how the logic stores them: a tree of numbers that gives them back

-- a head is stored as the pairs of its fields
abbrev pub head_code : Coded GroupHead
head_code =
    code_by (List ℕ × (ℕ × (Primitive × (Primitive × (ℤ × (Option ℤ × (List FieldDef × List DataDef)))))))
    (coded× (coded_list coded_ℕ) (coded× coded_ℕ (coded× primitive.the_row.coded
    (coded× primitive.the_row.coded (coded× coded_ℤ (coded× (coded_option coded_ℤ)
    (coded× (coded_list field.the_row.coded) (coded_list data_field.the_row.coded))))))))
    (λ h. (h.name, (h.id, (h.block_prim, (h.count_prim, (h.since, (h.block_length, (h.fields, h.vars))))))))
    (λ p. record {
      name = p.0;
      id = p.1.0;
      block_prim = p.1.1.0;
      count_prim = p.1.1.1.0;
      since = p.1.1.1.1.0;
      block_length = p.1.1.1.1.1.0;
      fields = p.1.1.1.1.1.1.0;
      vars = p.1.1.1.1.1.1.1;
    }) (λ _. refl)

abbrev pub code_of : GroupTree → Gv
code_of no_groups = gnil
code_of (group head inner rest) = gcons (head_code.code head) (gcons (code_of inner) (code_of rest))

abbrev first : Gv → Gv
first gnil = gnil
first (gnum n) = gnil
first (gcons a b) = a

abbrev second : Gv → Gv
second gnil = gnil
second (gnum n) = gnil
second (gcons a b) = b

abbrev IsPair : Gv → Type 0
IsPair gnil = ⊥
IsPair (gnum n) = ⊥
IsPair (gcons a b) = Unit {0}

pub tree_from_code : (x y : GroupTree) → code_of x ≡ code_of y → x ≡ y
tree_from_code no_groups no_groups p = refl
tree_from_code no_groups (group h i r) p = absurd (subst IsPair (sym p) tt)
tree_from_code (group h i r) no_groups p = absurd (subst IsPair p tt)
tree_from_code (group h i r) (group k j s) p =
    λ t. group (head_code.inj h k (ap first p) t) (tree_from_code i j (ap (λ g. first (second g)) p) t) (tree_from_code r s (ap (λ g. second (second g)) p) t)

abbrev pub coded_tree : Coded GroupTree
coded_tree = record { code = code_of; inj = tree_from_code }
