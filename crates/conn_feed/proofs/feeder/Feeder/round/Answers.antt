use Rattle.std.proofs.Common.{◌≢◌, refl}
use Rattle.std.proofs.lemmas.Result.{IfErr-at_err}
use Rattle.conn_feed.specs.declared.end.FeedEnd.TheVariants as ends
use Rattle.conn_feed.proofs.Feeders.{input_at}
use Rattle.conn_feed.proofs.Feeds.{round_goes, round_over, unread}
use Rattle.conn_feed.proofs.feeder.Feeder.round.Goals as goal

pub returns-in_default-clause-over : goal.returns-in_default-clause-over
returns-in_default-clause-over g c =
    let f = c.args.self.now in
    unread g.K.Sink.taken f c.args.reader.now c.read.new.self (g.S.Source.left c.args.input.now) (g.S.Source.left c.read.new.source) ends.Input c.in_default.ensures.err c.in_default.ensures.kept
    (input_at g.K.Sink.taken f)

pub returns-in-Ok-take_read-clause-goes : goal.returns-in-Ok-take_read-clause-goes
returns-in-Ok-take_read-clause-goes g c =
    round_goes g.K.Sink.taken c.args.self.now c.take_read.new.self c.args.reader.now c.read.new.self c.take_read.new.reader (g.S.Source.left c.args.input.now) (g.S.Source.left c.read.new.source)
    c.in-Ok.ensures.bytes c.in-Ok.ensures.given c.in-Ok-take_read.ensures.goes

pub returns-in-Err-clause-over : goal.returns-in-Err-clause-over
returns-in-Err-clause-over g c =
    round_over g.K.Sink.taken c.args.self.now c.take_read.new.self c.args.reader.now c.read.new.self c.take_read.new.reader (g.S.Source.left c.args.input.now) (g.S.Source.left c.read.new.source)
    c.in-Err.end c.in-Ok.ensures.bytes c.in-Ok.ensures.given c.in-Err.ensures.over

pub returns-in-Err-clause-input_risen : goal.returns-in-Err-clause-input_risen
returns-in-Err-clause-input_risen g c = λ e. absurd (IfErr-at_err (λ end. end ≢ ends.Input) e c.in-Err.ensures.own refl)
