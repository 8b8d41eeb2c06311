-- What reading answers is what is found.
use Rattle.fixp_msgs.proofs.Found.{answers-found, answers-none}
use Rattle.fixp_msgs.proofs.numbering.message_spelled.Goals as goal

pub returns-in-Ok : goal.returns-in-Ok
returns-in-Ok c = answers-found c.args.message.now c.in-Ok.found c.in-Ok.ensures

pub returns-in-Err : goal.returns-in-Err
returns-in-Err c = answers-none c.args.message.now c.in-Err._fault c.in-Err.ensures
