use Rattle.conn_feed.proofs.Feeds.{flushed_goes, flushed_over}
use Rattle.conn_feed.proofs.feeder.Feeder.last.Goals as goal

pub returns-in-Ok-clause-goes : goal.returns-in-Ok-clause-goes
returns-in-Ok-clause-goes g c = flushed_goes g.K.Sink.taken c.args.self.now c.take_last.new.self c.flush.new.self c.args.reader.now c.flush.result c.in-Ok.ensures.goes c.flush.ensures.goes

pub returns-in-Ok-clause-over : goal.returns-in-Ok-clause-over
returns-in-Ok-clause-over g c = flushed_over g.K.Sink.taken c.args.self.now c.take_last.new.self c.flush.new.self c.args.reader.now c.flush.result c.in-Ok.ensures.goes c.flush.ensures.over
