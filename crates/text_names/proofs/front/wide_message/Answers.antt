use Rattle.std.proofs.Common.{◌<◌, length, rules, arith}
use Rattle.std.proofs.lemmas.Grind.{common_steps}
use Rattle.text_words.specs.Lines.{lines_in}
use Rattle.text_names.proofs.Fronting.{front_shorter}
use Rattle.text_names.proofs.front.wide_message.Goals as goal

pub returns-in-Ok-first_message-clause-shorter : goal.returns-in-Ok-first_message-clause-shorter
returns-in-Ok-first_message-clause-shorter c =
    let out = c.narrow_message.new.out in
    let some : 0 < length out.text.items = first_of (search rules, grind (arith, common_steps)) in
    front_shorter c.args.plan.now (lines_in c.args.text.now) (lines_in c.in-Ok.rest.now) out.text.items out.numbers.items c.in-Ok.ensures.narrowed some
