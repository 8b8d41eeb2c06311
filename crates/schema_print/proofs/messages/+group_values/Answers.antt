use Rattle.std.proofs.Common.{◌≡◌, ◌<◌, ◌∷◌, ◌++◌, [], ap, ◌∙◌, arith, length}
use Rattle.schema_types.specs.Groups.{weight_of}
use Rattle.schema_types.specs.Views.{head_of}
use Rattle.toml.specs.Data.{array}
use Rattle.toml.specs.View.{view, items_of}
use Rattle.schema_print.specs.Written.{group_data, groups_list}
use Rattle.toml.proofs.Views.{view-Array}
use Rattle.toml.specs.declared.value.Value.{Array}
use Rattle.sbe_schema.proofs.Trees.{weight_at}
use Rattle.schema_print.proofs.Grouped.{one_more}
use Rattle.schema_print.proofs.messages.+group_values.Goals as goal

pub group_values-requires : goal.group_values-requires
group_values-requires t c =
    let below : c.loop-group.group-index < length c.args.groups.now = omega arith in
    let lighter = weight_at c.args.groups.now c.loop-group.group-index c.group-item.result below c.group-item.is in
    let same = ap weight_of c.as_slice.ensures in
    (omega (arith, c.decreases, lighter, same), tt)

pub loop-group-preserved : goal.loop-group-preserved
loop-group-preserved t c =
    let below : c.loop-group.group-index < length c.args.groups.now = omega arith in
    let pushed : c.push.new.self.items ≡ c.loop-group.list.items ++ c.in_ok-written.written ∷ [] = grind arith in
    let inner : view (Array c.in_ok-inner.inner) ≡ array (items_of (groups_list c.group-item.result.groups)) =
    view-Array c.in_ok-inner.inner ∙ ap (λ ds. array (items_of ds)) (c.in_ok-inner.ensures ∙ ap groups_list c.as_slice.ensures) in
    let seen : view c.in_ok-written.written ≡ group_data (head_of c.group-item.result) (array (items_of (groups_list c.group-item.result.groups))) = c.in_ok-written.ensures ∙ ap (group_data (head_of c.group-item.result)) inner in
    rw pushed (one_more c.loop-group.list.items c.in_ok-written.written c.args.groups.now c.loop-group.group-index c.group-item.result below c.group-item.is seen c.loop-group.invariant)
