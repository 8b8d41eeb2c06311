use Rattle.sbe_layout.proofs.Legality.{legal_message}
use Rattle.sbe_layout.proofs.lay.lay_out_message.Goals as goal

pub returns-clause-legal : goal.returns-clause-legal
returns-clause-legal c =
    legal_message c.args.types.now.index.schema.now c.args.m.now c.in_ok-plan.plan c.in_ok-plan.ensures
