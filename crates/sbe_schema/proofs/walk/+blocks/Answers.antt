use Rattle.std.proofs.Common.{◌≡◌, ◌+◌, ◌∙◌, sym, ap, ◌∷◌, drop, refl, rules, arith, FitsSigned, to_z, of_z}
use Rattle.std.proofs.lemmas.Int.{to_z-of_z}
use Rattle.std.specs.Int.{int_max, w128}
use Rattle.sbe_schema.specs.Search.{folded}
use Rattle.schema_types.specs.Views.{groups_of}
use Rattle.sbe_schema.specs.Walk.{walk_groups, names_of_groups, ids_of_groups}
use Rattle.sbe_schema.proofs.Steps.{front_at, groups_step}
use Rattle.sbe_schema.proofs.Trees.{weight_at}
use Rattle.sbe_schema.proofs.walk.+blocks.Goals as goal

pub walk_groups-walk_group-requires : goal.walk_groups-walk_group-requires
walk_groups-walk_group-requires t c =
    (omega (arith, c.decreases, weight_at c.args.groups.now c.loop-at.at c.index-groups-at.result c.loop-at-test.true c.index-groups-at.is), (c.requires, refl))

pub walk_groups-loop-at-preserved : goal.walk_groups-loop-at-preserved
walk_groups-loop-at-preserved t c =
    let schema = c.args.index.now.schema.now in
    let g = c.index-groups-at.result in
    let front : drop c.loop-at.at c.args.groups.now ≡ g ∷ drop (c.loop-at.at + 1) c.args.groups.now =
    front_at c.args.groups.now c.loop-at.at g c.loop-at-test.true c.index-groups-at.is in
    let done = c.in_ok-walk_group.ensures in
    let least_since = to_z w128 c.loop-at.least_since-bits in
    let kept : FitsSigned w128 c.max-least_since.result = search rules in
    let came : FitsSigned w128 g.since = search rules in
    let higher : to_z w128 (of_z w128 c.max-least_since.result) ≡ int_max least_since g.since =
    to_z-of_z w128 c.max-least_since.result kept
    ∙ c.max-least_since.ensures.value
    ∙ ap (int_max least_since) (to_z-of_z w128 g.since came) in
    record {
      fault = groups_step schema schema.types c.loop-at.state.parent_path.items _ c.args.parent.now c.loop-at.names _ c.loop-at.state.ids _ least_since _ c.loop-at.at g _ c.loop-at.state.fault _ _ done.parent_path done.names done.ids higher done.fault (ap (λ gs. folded schema c.loop-at.state.fault (walk_groups schema.types c.loop-at.state.parent_path.items c.args.parent.now c.loop-at.names c.loop-at.state.ids least_since c.loop-at.at (groups_of gs))) (sym front) ∙ c.loop-at.invariant.fault);
      names = ap (λ n. names_of_groups n (groups_of (drop (c.loop-at.at + 1) c.args.groups.now))) done.names ∙ ap (λ gs. names_of_groups c.loop-at.names (groups_of gs)) (sym front) ∙ c.loop-at.invariant.names;
      ids = ap (λ n. ids_of_groups n (groups_of (drop (c.loop-at.at + 1) c.args.groups.now))) done.ids ∙ ap (λ gs. ids_of_groups c.loop-at.state.ids (groups_of gs)) (sym front) ∙ c.loop-at.invariant.ids;
      parent_path = done.parent_path ∙ c.loop-at.invariant.parent_path;
    }
