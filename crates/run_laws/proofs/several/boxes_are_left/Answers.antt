use Rattle.run_laws.proofs.Boxed.{boxes_are_left}
use Rattle.cmd_session.specs.Outsides.{sees}
use Rattle.cmd_feed.specs.Outsides.{feed_sees}
use Rattle.run_laws.proofs.several.boxes_are_left.Goals as goal

pub returns : goal.returns
returns g c = record { law = λ keeps. boxes_are_left _ (feed_sees (sees g.S.Source g.K.Sink g.D.Disk g.N.Dialer g.N.Link.Link g.C.Clock) keeps g.I.Source g.A.Sink) }
