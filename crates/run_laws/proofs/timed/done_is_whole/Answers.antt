use Rattle.run_laws.proofs.Done.{done_is_lived, done_is_whole}
use Rattle.cmd_session.specs.Outsides.{sees}
use Rattle.cmd_feed.specs.Outsides.{feed_sees}
use Rattle.run_laws.proofs.timed.done_is_whole.Goals as goal

pub returns : goal.returns
returns g c = record {
  law = λ keeps. done_is_whole _ (feed_sees (sees g.S.Source g.K.Sink g.D.Disk g.N.Dialer g.N.Link.Link g.C.Clock) keeps g.I.Source g.A.Sink);
  lived = λ keeps. done_is_lived _ (feed_sees (sees g.S.Source g.K.Sink g.D.Disk g.N.Dialer g.N.Link.Link g.C.Clock) keeps g.I.Source g.A.Sink);
}
