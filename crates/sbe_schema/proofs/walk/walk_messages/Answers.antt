use Rattle.std.proofs.Common.{◌≡◌, ◌+◌, ◌∙◌, sym, ap, ◌∷◌, drop}
use Rattle.sbe_schema.specs.Search.{folded}
use Rattle.sbe_schema.specs.Walk.{walk_messages}
use Rattle.sbe_schema.proofs.Steps.{front_at, messages_step}
use Rattle.sbe_schema.proofs.walk.walk_messages.Goals as goal

pub loop-at-preserved : goal.loop-at-preserved
loop-at-preserved c =
    let schema = c.args.index.now.schema.now in
    let m = c.index-messages-at.result in
    let front : drop c.loop-at.at c.args.messages.now ≡ m ∷ drop (c.loop-at.at + 1) c.args.messages.now =
    front_at c.args.messages.now c.loop-at.at m c.loop-at-test.true c.index-messages-at.is in
    record {
      fault = messages_step schema schema.types c.loop-at.names c.walk_message.new.names c.loop-at.ids c.walk_message.new.ids c.loop-at.at m _ c.loop-at.state.fault c.walk_message.new.state.fault _ c.in_ok-walk_message.ensures.names c.in_ok-walk_message.ensures.ids c.in_ok-walk_message.ensures.fault (ap (λ ms. folded schema c.loop-at.state.fault (walk_messages schema.types c.loop-at.names c.loop-at.ids c.loop-at.at ms)) (sym front) ∙ c.loop-at.invariant.fault);
      parent_path = c.in_ok-walk_message.ensures.parent_path;
    }
