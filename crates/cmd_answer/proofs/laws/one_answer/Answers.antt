use Rattle.cmd_answer.proofs.Fronts.{one_answer}
use Rattle.cmd_answer.proofs.laws.one_answer.Goals as goal

pub returns : goal.returns
returns c = one_answer
