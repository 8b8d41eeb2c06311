use Rattle.std.proofs.Common.{◌≡◌, ◌<◌, length, get_or, arith}
use Rattle.std.proofs.lemmas.Grind.{common_steps}
use Rattle.cmd_codec.proofs.Printing.{lines_of, lines_of_all, printed_none, printed_so_far, printed_front}
use Rattle.cmd_codec.proofs.layout.print_layout.Goals as goal

pub returns-in_default-new-clause-lines : goal.returns-in_default-new-clause-lines
returns-in_default-new-clause-lines g c =
    printed_none (lines_of_all c.args.schema.now.schema.types c.args.schema.now.schema.messages) _ _ c.begin.ensures.nothing

pub returns-in_default-layout_lines-clause-lines : goal.returns-in_default-layout_lines-clause-lines
returns-in_default-layout_lines-clause-lines g c =
    printed_so_far c.args.schema.now.schema.types c.args.schema.now.schema.messages c.loop-message.message-index _ _ c.loop-message.invariant.printed

pub returns-in_default-push_all-clause-lines : goal.returns-in_default-push_all-clause-lines
returns-in_default-push_all-clause-lines g c =
    let types = c.args.schema.now.schema.types in
    let messages = c.args.schema.now.schema.messages in
    let i = c.loop-message.message-index in
    let m = c.message-item.result in
    let below : i < length messages = grind (arith, common_steps) in
    let same : get_or messages i m ≡ m = grind (arith, common_steps) in
    let is_lines : c.as_slice.result.now ≡ lines_of types m = grind (arith, common_steps) in
    printed_front types messages i m _ _ _ below same c.loop-message.invariant.printed (rw is_lines at c.in_default-push_all.ensures.err)
