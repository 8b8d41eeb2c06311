use Rattle.std.proofs.Common.{◌≡◌, ◌∙◌, ◌++◌, ◌+◌, drop, ◌∷◌, [], ap, sym, get_or, Ok, Err, arith, rules, length}
use Rattle.std.proofs.lemmas.Grind.{common_steps}
use Rattle.schema_types.specs.Views.{head_of}
use Rattle.schema_toml.specs.Messages.{group_of, groups_from}
use Rattle.std.proofs.lemmas.List.{length-append}
use Rattle.sbe_value.specs.declared.path.Step.TheVariants.{At}
use Rattle.toml.specs.View.{view, items_view}
use Rattle.toml_walk.specs.Reading.{under, ◌>>=◌}
use Rattle.schema_toml.proofs.Nested.{at_ok, at_err, no_memory, none_left, one_more, behind}
use Rattle.schema_toml.proofs.groups.+groups.Goals as goal

pub read_group_at-returns-in-Ok : goal.read_group_at-returns-in-Ok
read_group_at-returns-in-Ok c c' = at_ok c'.args.at c'.args.parent.since (view c'.args.value.now) _ (c'.in-Ok.ensures)

pub read_group_at-returns-in-Err : goal.read_group_at-returns-in-Err
read_group_at-returns-in-Err c c' plain =
    let gives = (c'.in-Err.ensures (no_memory (At c'.args.at) c'.in-Err.fault c'.deepened.result c'.deepened.ensures plain)) in
    at_err c'.args.at c'.args.parent.since (view c'.args.value.now) c'.in-Err.fault gives ∙ ap Err (c'.deepened.ensures plain)

pub read_groups-loop-value-preserved : goal.read_groups-loop-value-preserved
read_groups-loop-value-preserved c c' =
    let (counted, all) = c'.loop-value.invariant in
    let gs = c'.loop-value.groups.items in
    let g = c'.in_ok-group.group in
    let vs = c'.deref-value-items.result.now in
    let i = c'.loop-value.value-index in
    let v = c'.value-item.result in
    let pushed : c'.push.new.self.items ≡ gs ++ g ∷ [] = search rules in
    let same : get_or vs i v ≡ v = grind (arith, common_steps) in
    let place : c'.len-in-loop-value.result ≡ i = grind (arith, common_steps) in
    let made : under (At i) (group_of c'.args.parent.since (view v)) ≡ Ok (head_of g, g.groups) = rw place at c'.in_ok-group.ensures in
    let more = one_more c'.args.parent.since gs g vs i v c'.loop-value-test.true same made in
    let longer : length c'.push.new.self.items ≡ i + 1 = rw (pushed, length-append gs (g ∷ [])) (omega (arith, counted)) in
    (longer, all ∙ more ∙ ap (λ l. groups_from c'.args.parent.since (i + 1) (items_view (drop (i + 1) vs)) >>= (λ rest. Ok (behind l rest))) (sym pushed))

pub read_groups-returns : goal.read_groups-returns
read_groups-returns c c' =
    let left = none_left c'.args.parent.since c'.loop-value.groups.items c'.deref-value-items.result.now c'.loop-value.value-index c'.loop-value-test.false in
    c'.loop-value.invariant.1 ∙ left ∙ ap Ok (sym c'.from.ensures)
