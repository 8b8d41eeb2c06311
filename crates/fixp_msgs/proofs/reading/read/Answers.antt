-- What is spelled is what was read, since at most one message is, and its template is built.
use Rattle.fixp_msgs.proofs.Rows.{only-answers}
use Rattle.fixp_msgs.proofs.reading.read.Goals as goal

pub returns-clause-only : goal.returns-clause-only
returns-clause-only c m s = only-answers c.args.message.now c.by_template.result c.by_template.ensures m s
