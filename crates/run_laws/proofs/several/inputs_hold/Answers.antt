use Rattle.run_laws.proofs.Gave.{inputs_hold}
use Rattle.cmd_session.specs.Outsides.{sees}
use Rattle.run_laws.proofs.several.inputs_hold.Goals as goal

pub returns : goal.returns
returns g c = record { law = inputs_hold _ (sees g.S.Source g.K.Sink g.D.Disk g.N.Dialer g.N.Link.Link g.C.Clock) }
