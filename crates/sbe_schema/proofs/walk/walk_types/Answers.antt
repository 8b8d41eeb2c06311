use Rattle.std.proofs.Common.{◌≡◌, ◌+◌, ◌∙◌, sym, ap, ◌∷◌, drop}
use Rattle.sbe_schema.specs.Search.{folded}
use Rattle.sbe_schema.specs.Walk.{walk_types}
use Rattle.sbe_schema.proofs.Steps.{front_at, types_step}
use Rattle.sbe_schema.proofs.walk.walk_types.Goals as goal

pub loop-at-preserved : goal.loop-at-preserved
loop-at-preserved c =
    let schema = c.args.index.now.schema.now in
    let t = c.index-types-at.result in
    let front : drop c.loop-at.at c.args.types.now ≡ t ∷ drop (c.loop-at.at + 1) c.args.types.now =
    front_at c.args.types.now c.loop-at.at t c.loop-at-test.true c.index-types-at.is in
    record {
      fault = types_step schema schema.types c.loop-at.names c.walk_type.new.names c.loop-at.at t _ c.loop-at.state.fault c.walk_type.new.state.fault _ c.in_ok-walk_type.ensures.names c.in_ok-walk_type.ensures.fault (ap (λ ts. folded schema c.loop-at.state.fault (walk_types schema.types c.loop-at.names c.loop-at.at ts)) (sym front) ∙ c.loop-at.invariant.fault);
      parent_path = c.in_ok-walk_type.ensures.parent_path;
    }
