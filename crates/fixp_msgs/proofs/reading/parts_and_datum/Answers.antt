-- Without a block there is no datum behind it.
use Rattle.fixp_msgs.proofs.Rows.{lacks-datum}
use Rattle.fixp_msgs.proofs.reading.parts_and_datum.Goals as goal

pub returns-in-None-clause-none : goal.returns-in-None-clause-none
returns-in-None-clause-none c = lacks-datum c.args.message.now c.args.needed c.in-None.ensures.none
