use Rattle.run_laws.proofs.Outs.{out_tells}
use Rattle.cmd_session.specs.Outsides.{sees}
use Rattle.cmd_feed.specs.Outsides.{feed_sees}
use Rattle.run_laws.proofs.several.out_tells.Goals as goal

pub returns : goal.returns
returns g c = record { law = λ keeps. out_tells _ (feed_sees (sees g.S.Source g.K.Sink g.D.Disk g.N.Dialer g.N.Link.Link g.C.Clock) keeps g.I.Source g.A.Sink) }
