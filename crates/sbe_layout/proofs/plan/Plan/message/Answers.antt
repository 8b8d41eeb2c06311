use Rattle.sbe_layout.proofs.Lacking.{lacks}
use Rattle.sbe_layout.proofs.plan.Plan.message.Goals as goal

pub returns-clause-lacking : goal.returns-clause-lacking
returns-clause-lacking c =
    lacks c.args.template c.args.self.now.messages c.find.result c.find.ensures
