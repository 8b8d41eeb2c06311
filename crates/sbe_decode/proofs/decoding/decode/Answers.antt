use Rattle.sbe_decode.proofs.Messages.{told_so, spelled_so, unspelled_so}
use Rattle.sbe_decode.proofs.decoding.decode.Goals as goal

pub returns-clause-told : goal.returns-clause-told
returns-clause-told c = told_so c.args.plan.now c.args.message.now c.read_message.result c.read_message.ensures

pub returns-clause-spelled : goal.returns-clause-spelled
returns-clause-spelled c =
    let plan = c.args.plan.now in
    let bytes = c.args.message.now in
    spelled_so plan bytes (c.read_is_spelled.ensures.law plan bytes) c.read_message.result (told_so plan bytes c.read_message.result c.read_message.ensures)

pub returns-clause-unspelled : goal.returns-clause-unspelled
returns-clause-unspelled c =
    let plan = c.args.plan.now in
    let bytes = c.args.message.now in
    unspelled_so plan bytes (c.read_is_spelled.ensures.law plan bytes) c.read_message.result (told_so plan bytes c.read_message.result c.read_message.ensures)
