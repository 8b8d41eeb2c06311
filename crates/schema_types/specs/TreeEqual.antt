-- The tests of equality of groups are true exactly of equal ones.
use Rattle.std.specs.Prelude.{◌≡◌, Bool, true, false, ◌&&◌, refl}
use Rattle.std.proofs.lemmas.Bool.{false≢true}
use Rattle.lists.specs.Exact.{Exact, exact, exact_pair, exact_by}
use Rattle.schema_types.specs.Groups.{GroupTree, no_groups, group}
use Rattle.schema_types.specs.Views.{head_of}
use Rattle.schema_types.specs.Equal.{head_eq, head_exact}
use Rattle.schema_types.specs.declared.groups.GroupDef.{GroupDef}

abbrev pub tree_eq : GroupTree → GroupTree → Bool
tree_eq no_groups no_groups = true
tree_eq no_groups (group k j s) = false
tree_eq (group h i r) no_groups = false
tree_eq (group h i r) (group k j s) = (head_eq h k && tree_eq i j) && tree_eq r s

abbrev pub group_eq : GroupDef → GroupDef → Bool
group_eq g h = head_eq (head_of g) (head_of h) && tree_eq g.groups h.groups

-- two tests are true where their conjunction is
parts : (a b : Bool) → (a && b) ≡ true → (a ≡ true) × (b ≡ true)
parts true b t = (refl, t)
parts false b t = absurd (false≢true t)

tree_itself : (x : GroupTree) → tree_eq x x ≡ true
tree_itself no_groups = refl
tree_itself (group h i r) = λ t. ((head_exact h h).1 refl t && tree_itself i t) && tree_itself r t

tree_only : (x y : GroupTree) → tree_eq x y ≡ true → x ≡ y
tree_only no_groups no_groups t = refl
tree_only no_groups (group k j s) t = absurd (false≢true t)
tree_only (group h i r) no_groups t = absurd (false≢true t)
tree_only (group h i r) (group k j s) t =
    let two = parts (head_eq h k && tree_eq i j) (tree_eq r s) t in
    let one = parts (head_eq h k) (tree_eq i j) two.0 in
    λ p. group ((head_exact h k).0 one.0 p) (tree_only i j one.1 p) (tree_only r s two.1 p)

pub tree_exact : Exact tree_eq
tree_exact = exact tree_eq tree_itself tree_only

pub group_exact : Exact group_eq
group_exact =
    exact_by (λ g. (head_of g, g.groups)) (λ p. record {
      name = p.0.name;
      id = p.0.id;
      block_prim = p.0.block_prim;
      count_prim = p.0.count_prim;
      since = p.0.since;
      block_length = p.0.block_length;
      fields = p.0.fields;
      groups = p.1;
      vars = p.0.vars;
    }) (λ _. refl) (exact_pair head_exact tree_exact)
