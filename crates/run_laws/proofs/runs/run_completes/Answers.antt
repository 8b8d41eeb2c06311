use Rattle.run_laws.proofs.Completing.{run_completes}
use Rattle.cmd_session.specs.Outsides.{sees}
use Rattle.run_laws.proofs.runs.run_completes.Goals as goal

pub returns : goal.returns
returns g c = record { law = run_completes _ (sees g.S.Source g.K.Sink g.D.Disk g.N.Dialer g.N.Link.Link g.C.Clock) c.args.before.now c.args.after.now }
