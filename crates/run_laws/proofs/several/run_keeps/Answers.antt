use Rattle.run_laws.proofs.Promised.{run_keeps}
use Rattle.cmd_session.specs.Outsides.{sees}
use Rattle.run_laws.proofs.several.run_keeps.Goals as goal

pub returns : goal.returns
returns g c = record { law = run_keeps _ (sees g.S.Source g.K.Sink g.D.Disk g.N.Dialer g.N.Link.Link g.C.Clock) }
