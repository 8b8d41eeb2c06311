use Rattle.std.proofs.Common.{◌∙◌, arith}
use Rattle.conn_feed.proofs.Feeds.{next_goes, next_over, rest_goes, rest_over, loop_goes, loop_over}
use Rattle.conn_feed.proofs.feeder.Feeder.take_read.Goals as goal

pub loop-found-preserved : goal.loop-found-preserved
loop-found-preserved g c =
    let at = c.loop-found.invariant in
    record {
      sound = c.in_default-take.ensures.sound;
      long = c.in_default-take.ensures.long ∙ at.long;
      goes = λ start read r.
          next_goes g.K.Sink.taken c.loop-found.self c.take.new.self c.loop-found.reader c.next.new.self c.in-Some.found c.line.result.now c.number.result c.in-Some.ensures.line c.line.ensures
          c.number.ensures c.in_default-take.ensures.goes start read (at.goes start read r);
      counted = omega (arith, at.counted, c.take.ensures.counted);
    }

pub returns-in-Err-clause-over : goal.returns-in-Err-clause-over
returns-in-Err-clause-over g c = λ start read r.
    let at = c.loop-found.invariant in
    next_over g.K.Sink.taken c.loop-found.self c.take.new.self c.loop-found.reader c.next.new.self c.in-Some.found c.line.result.now c.number.result c.in-Err.end c.in-Some.ensures.line c.line.ensures
    c.number.ensures c.in-Err.ensures.over start read (at.goes start read r)

pub returns-clause-goes : goal.returns-clause-goes
returns-clause-goes g c =
    let at = c.loop-found.invariant in
    loop_goes g.K.Sink.taken c.args.self.now c.loop-found.self c.flush.new.self c.args.reader.now c.loop-found.reader c.next.new.self c.flush.result at.goes
    (rest_goes g.K.Sink.taken c.loop-found.self c.flush.new.self c.loop-found.reader c.next.new.self c.flush.result c.in_default.ensures.none c.flush.ensures.goes)

pub returns-clause-over : goal.returns-clause-over
returns-clause-over g c =
    let at = c.loop-found.invariant in
    loop_over g.K.Sink.taken c.args.self.now c.loop-found.self c.flush.new.self c.args.reader.now c.loop-found.reader c.next.new.self c.flush.result at.goes
    (rest_over g.K.Sink.taken c.loop-found.self c.flush.new.self c.loop-found.reader c.next.new.self c.flush.result c.in_default.ensures.none c.flush.ensures.over)
