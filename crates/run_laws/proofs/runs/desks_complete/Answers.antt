use Rattle.run_laws.proofs.Completing.{desks_complete}
use Rattle.cmd_session.specs.Outsides.{sees}
use Rattle.run_laws.proofs.runs.desks_complete.Goals as goal

pub returns : goal.returns
returns g c = record { law = desks_complete _ (sees g.S.Source g.K.Sink g.D.Disk g.N.Dialer g.N.Link.Link g.C.Clock) c.args.before.now c.args.after.now }
