-- One more frame of the session was moved.
use Rattle.fixp_mux.proofs.Beginning.{begin_count, begin_more}
use Rattle.fixp_mux.proofs.sessions.Sessions.begin_all.Goals as goal

pub loop-began-preserved : goal.loop-began-preserved
loop-began-preserved c =
    let place = c.args.place in
    let x = c.args.self.now in
    let y = c.loop-began.self in
    let z = c.begin.new.self in
    record {
      moved = begin_more place x y z c.args.unsent.now c.loop-began.unsent c.begin.new.unsent c.loop-began.began c.begin.result c.loop-began.invariant.moved c.begin.ensures c.loop-began-test.true;
      count = begin_count place y z c.loop-began.unsent c.begin.new.unsent c.begin.result _ c.loop-began.invariant.count c.begin.ensures;
    }
