use Rattle.text_words.specs.Lines.{lines_in}
use Rattle.sbe_text.proofs.Shrinking.{message-shorter}
use Rattle.sbe_from_text.proofs.message.write_text.Goals as goal

pub returns-clause-shorter : goal.returns-clause-shorter
returns-clause-shorter c =
    let w = c.in_ok-rest.ensures.written in
    message-shorter c.args.plan.now.messages (lines_in c.args.text.now) w.message (lines_in c.in_ok-rest.rest.now) w.read
