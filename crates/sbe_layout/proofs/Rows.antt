-- Lists of group plans, one behind another, and the weight of a schema's groups.
use Rattle.std.proofs.Common.{◌≡◌, ℕ, zero, suc, ◌+◌, ◌<◌, ◌≤◌, ◌∙◌, sym, ap, refl, List, [], ◌∷◌, ◌++◌, length, drop, get_or, arith, add-one, drop-cons}
use Rattle.schema_types.specs.declared.types.TypeDef.{TypeDef}
use Rattle.schema_types.specs.declared.groups.GroupDef.{GroupDef}
use Rattle.schema_types.specs.Groups.{weight_of}
use Rattle.schema_types.specs.Views.{groups_of, head_of as schema_head_of}
use Rattle.sbe_layout.specs.declared.blocks.GroupPlan.{GroupPlan}
use Rattle.sbe_layout.specs.Trees.{PlanTree, no_plans, plan}
use Rattle.sbe_layout.specs.Views.{head_of, plans_of}
use Rattle.sbe_layout.specs.Plans.{groups_plan, group_head}

abbrev pub append_plans : PlanTree → PlanTree → PlanTree
append_plans no_plans after = after
append_plans (plan head inner rest) after = plan head inner (append_plans rest after)

append-push : (gs : List GroupPlan) (g : GroupPlan) (after : PlanTree) → append_plans (plans_of (gs ++ g ∷ [])) after ≡ append_plans (plans_of gs) (plan (head_of g) g.block.groups after)
append-push [] g after = refl
append-push (x ∷ xs) g after = ap (plan (head_of x) x.block.groups) (append-push xs g after)

pub append-none : (t : PlanTree) → append_plans t no_plans ≡ t
append-none no_plans = refl
append-none (plan head inner rest) = ap (plan head inner) (append-none rest)

pub plans_step : (types : List TypeDef) (made : List GroupPlan) (p : GroupPlan) (groups : List GroupDef) (i : ℕ) (g : GroupDef) (target : PlanTree) → i < length groups → g ≡ get_or groups i g → head_of p ≡ group_head types (schema_head_of g) → p.block.groups ≡ groups_plan types g.groups → append_plans (plans_of made) (groups_plan types (groups_of (drop i groups))) ≡ target → append_plans (plans_of (made ++ p ∷ [])) (groups_plan types (groups_of (drop (i + 1) groups))) ≡ target
plans_step types made p groups i g target h e head inner whole =
    let front : drop i groups ≡ g ∷ drop (i + 1) groups =
    rw (add-one, drop-cons groups i g) (ap (λ z. z ∷ drop (suc i) groups) (sym e)) in
    append-push made p _
    ∙ (λ k. append_plans (plans_of made) (plan (head k) (inner k) (groups_plan types (groups_of (drop (i + 1) groups)))))
    ∙ ap (λ gs. append_plans (plans_of made) (groups_plan types (groups_of gs))) (sym front)
    ∙ whole

pub weight_at : (gs : List GroupDef) (i : ℕ) (g : GroupDef) → i < length gs → g ≡ get_or gs i g → weight_of g.groups < weight_of (groups_of gs)
weight_at [] i g h e = absurd (omega arith)
weight_at (x ∷ xs) zero g h e = let w = ap (λ (y : GroupDef). weight_of y.groups) e in omega arith
weight_at (x ∷ xs) (suc i) g h e = let w : weight_of g.groups < weight_of (groups_of xs) = weight_at xs i g (omega arith) e in omega arith

drop_past : {A : Type 0} (xs : List A) (i : ℕ) → length xs ≤ i → drop i xs ≡ []
drop_past [] zero h = refl
drop_past [] (suc i) h = refl
drop_past (x ∷ xs) zero h = absurd (omega arith)
drop_past (x ∷ xs) (suc i) h = drop_past xs i (omega arith)

pub plans_end : (types : List TypeDef) (made : List GroupPlan) (groups : List GroupDef) (i : ℕ) (target : PlanTree) → length groups ≤ i → append_plans (plans_of made) (groups_plan types (groups_of (drop i groups))) ≡ target → plans_of made ≡ target
plans_end types made groups i target h whole =
    sym (append-none (plans_of made))
    ∙ ap (λ gs. append_plans (plans_of made) (groups_plan types (groups_of gs))) (sym (drop_past groups i h))
    ∙ whole
