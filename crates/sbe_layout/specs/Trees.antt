-- The groups of a block's plan, as a list in which each group holds the groups of its entries (SBE 1.0, "Repeating groups").
use Rattle.std.specs.Prelude.{◌≡◌, ℕ, ◌+◌, ℤ, List, refl}
use Rattle.std.proofs.Common.{ap, sym, subst}
use Rattle.std.specs.Coded.{Coded, code_by, coded×, coded_ℕ, coded_ℤ, coded_list}
use base.Stored.{Gv, gnil, gnum, gcons}
use Rattle.sbe_prim.specs.declared.Primitive.{Primitive}
use Rattle.sbe_prim.specs.contracts.Primitive as primitive
use Rattle.sbe_layout.specs.declared.items.ItemPlan.{ItemPlan}
use Rattle.sbe_layout.specs.declared.items.Mark.{Mark}
use Rattle.sbe_layout.specs.declared.items.DataPlan.{DataPlan}
use Rattle.sbe_layout.specs.contracts.items.ItemPlan as item
use Rattle.sbe_layout.specs.contracts.items.Mark as mark
use Rattle.sbe_layout.specs.contracts.items.DataPlan as datum

-- a group without the groups of its entries
pub record PlanHead : Type 0 where
  pub name : List ℕ
  pub since : ℤ
  pub block_prim : Primitive
  pub count_prim : Primitive
  pub block_length : ℕ
  pub items : List ItemPlan
  pub marks : List Mark
  pub vars : List DataPlan

-- a group, the groups of its entries, and the groups behind it
pub data PlanTree : Type 0 where
  no_plans : PlanTree
  plan : PlanHead → PlanTree → PlanTree → PlanTree

-- how many groups there are at every depth
abbrev pub weight_of : PlanTree → ℕ
weight_of no_plans = 0
weight_of (plan head inner rest) = 1 + weight_of inner + weight_of rest

-- ---- how the logic stores them: a tree of numbers that gives them back

-- a head is stored as the pairs of its fields
abbrev pub head_code : Coded PlanHead
head_code =
    code_by (List ℕ × (ℤ × (Primitive × (Primitive × (ℕ × (List ItemPlan × (List Mark × List DataPlan)))))))
    (coded× (coded_list coded_ℕ) (coded× coded_ℤ (coded× primitive.the_row.coded
    (coded× primitive.the_row.coded (coded× coded_ℕ (coded× (coded_list item.the_row.coded)
    (coded× (coded_list mark.the_row.coded) (coded_list datum.the_row.coded))))))))
    (λ h. (h.name, (h.since, (h.block_prim, (h.count_prim, (h.block_length, (h.items, (h.marks, h.vars))))))))
    (λ p. record {
      name = p.0;
      since = p.1.0;
      block_prim = p.1.1.0;
      count_prim = p.1.1.1.0;
      block_length = p.1.1.1.1.0;
      items = p.1.1.1.1.1.0;
      marks = p.1.1.1.1.1.1.0;
      vars = p.1.1.1.1.1.1.1;
    }) (λ _. refl)

abbrev pub code_of : PlanTree → Gv
code_of no_plans = gnil
code_of (plan head inner rest) = gcons (head_code.code head) (gcons (code_of inner) (code_of rest))

abbrev first : Gv → Gv
first gnil = gnil
first (gnum n) = gnil
first (gcons a b) = a

abbrev second : Gv → Gv
second gnil = gnil
second (gnum n) = gnil
second (gcons a b) = b

abbrev IsPair : Gv → Type 0
IsPair gnil = ⊥
IsPair (gnum n) = ⊥
IsPair (gcons a b) = Unit {0}

pub tree_from_code : (x y : PlanTree) → code_of x ≡ code_of y → x ≡ y
tree_from_code no_plans no_plans p = refl
tree_from_code no_plans (plan h i r) p = absurd (subst IsPair (sym p) tt)
tree_from_code (plan h i r) no_plans p = absurd (subst IsPair p tt)
tree_from_code (plan h i r) (plan k j s) p =
    λ t. plan (head_code.inj h k (ap first p) t) (tree_from_code i j (ap (λ g. first (second g)) p) t) (tree_from_code r s (ap (λ g. second (second g)) p) t)

abbrev pub coded_tree : Coded PlanTree
coded_tree = record { code = code_of; inj = tree_from_code }
