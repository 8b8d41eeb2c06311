use Rattle.run_laws.proofs.Holding.{runs_go_on}
use Rattle.cmd_session.specs.Outsides.{sees}
use Rattle.cmd_feed.specs.Outsides.{feed_sees}
use Rattle.run_laws.proofs.several.runs_go_on.Goals as goal

pub returns : goal.returns
returns g c = record { law = λ keeps. runs_go_on _ (feed_sees (sees g.S.Source g.K.Sink g.D.Disk g.N.Dialer g.N.Link.Link g.C.Clock) keeps g.I.Source g.A.Sink) }
