use Rattle.conn_feed.proofs.Feeders.{ends_at_line, pass_goes, pass_over}
use Rattle.conn_feed.proofs.feeder.Feeder.pass_over.Goals as goal

pub returns-in-Ok-clause-goes : goal.returns-in-Ok-clause-goes
returns-in-Ok-clause-goes g c =
    pass_goes g.K.Sink.taken c.args.self.now c.flush.new.self c.refuse.new.self c.args.number c.args.why c.refuse.result c.in-Ok.ensures.goes c.in-Ok.ensures.long c.refuse.ensures.goes

pub returns-in-Ok-clause-over : goal.returns-in-Ok-clause-over
returns-in-Ok-clause-over g c =
    pass_over g.K.Sink.taken c.args.self.now c.flush.new.self c.refuse.new.self c.args.number c.args.why c.refuse.result c.in-Ok.ensures.goes c.in-Ok.ensures.long c.refuse.ensures.over

pub returns-in-Err-clause-over : goal.returns-in-Err-clause-over
returns-in-Err-clause-over g c = λ line wrong. ends_at_line g.K.Sink.taken c.args.self.now c.flush.new.self c.in-Err.end c.args.number line c.in-Err.ensures.over
