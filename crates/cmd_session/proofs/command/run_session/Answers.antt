use Rattle.std.proofs.Common.{inr}
use Rattle.cmd_session.proofs.command.run_session.Goals as goal

pub returns-in-Ok-clause-steps : goal.returns-in-Ok-clause-steps
returns-in-Ok-clause-steps g c = inr (record { configuration = c.in-Ok.configuration; spelled = c.in-Ok.ensures.ok; ended = c.run_over_disks.ensures.ended c.args.outside.config })
