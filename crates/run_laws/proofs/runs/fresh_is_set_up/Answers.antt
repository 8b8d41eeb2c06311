use Rattle.run_laws.proofs.Fresh.{fresh_is_set_up, fresh_is_set_up_with_desks}
use Rattle.cmd_session.specs.Outsides.{sees}
use Rattle.run_laws.proofs.runs.fresh_is_set_up.Goals as goal

pub returns : goal.returns
returns g c = record {
  law = fresh_is_set_up (sees g.S.Source g.K.Sink g.D.Disk g.N.Dialer g.N.Link.Link g.C.Clock) c.args.before.now;
  desks = fresh_is_set_up_with_desks (sees g.S.Source g.K.Sink g.D.Disk g.N.Dialer g.N.Link.Link g.C.Clock) c.args.before.now;
}
