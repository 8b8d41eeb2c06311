use Rattle.conn_feed.proofs.Feeds.{last_none, last_goes, last_over}
use Rattle.conn_feed.proofs.feeder.Feeder.take_last.Goals as goal

pub returns-in-Some-clause-goes : goal.returns-in-Some-clause-goes
returns-in-Some-clause-goes g c =
    last_goes g.K.Sink.taken c.args.self.now c.take.new.self c.args.reader.now c.last.new.self c.in-Some.found c.line.result.now c.number.result c.take.result c.in-Some.ensures.line c.line.ensures
    c.number.ensures c.take.ensures.goes

pub returns-in-Some-clause-over : goal.returns-in-Some-clause-over
returns-in-Some-clause-over g c =
    last_over g.K.Sink.taken c.args.self.now c.take.new.self c.args.reader.now c.last.new.self c.in-Some.found c.line.result.now c.number.result c.take.result c.in-Some.ensures.line c.line.ensures
    c.number.ensures c.take.ensures.over

pub returns-in-None-clause-goes : goal.returns-in-None-clause-goes
returns-in-None-clause-goes g c = last_none g.K.Sink.taken c.args.self.now c.args.reader.now c.in-None.ensures.none
