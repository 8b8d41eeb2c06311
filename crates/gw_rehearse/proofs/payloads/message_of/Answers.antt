use Rattle.gw_rehearse.proofs.Messages.{are_applications}
use Rattle.gw_rehearse.proofs.payloads.message_of.Goals as goal

pub returns-clause-application : goal.returns-clause-application
returns-clause-application c = are_applications c.spelled.result c.args.version c.args.sender c.args.number c.spelled.ensures
