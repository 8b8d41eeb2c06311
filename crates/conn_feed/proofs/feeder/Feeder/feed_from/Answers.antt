use Rattle.std.proofs.Common.{refl, ◌∙◌, arith}
use Rattle.conn_feed.specs.Course.{StandsSo, EndedSo, point_of}
use Rattle.conn_feed.proofs.Feeds.{begun, reads_more, fed_over, stopped, last_ended, last_whole}
use Rattle.conn_feed.proofs.feeder.Feeder.feed_from.Goals as goal

pub loop-init : goal.loop-init
loop-init g c = record {
  sound = c.requires.sound;
  long = refl;
  waiting = c.requires.waiting;
  reads = begun g.K.Sink.taken c.args.self.now c.args.reader (g.S.Source.left c.args.input.now) c.requires.empty c.requires.fresh;
  counted = omega arith;
  input_counted = omega arith;
}

pub loop-preserved : goal.loop-preserved
loop-preserved g c =
    let at = c.loop.invariant in
    let start = point_of g.K.Sink.taken c.args.self.now in
    record {
      sound = c.in-Ok.ensures.sound;
      long = c.in-Ok.ensures.long ∙ at.long;
      waiting = c.in-Ok.ensures.waiting;
      reads = reads_more (StandsSo g.K.Sink.taken start c.loop.self) (StandsSo g.K.Sink.taken start c.round.new.self) c.loop.reader c.round.new.reader (g.S.Source.left c.args.input.now)
          (g.S.Source.left c.loop.input) (g.S.Source.left c.round.new.input) at.reads (c.in-Ok.ensures.goes start);
      counted = omega (arith, at.counted, c.in-Ok.ensures.counted);
      input_counted = omega (arith, at.input_counted, c.in-Ok.ensures.input_counted);
    }

pub returns-in-Err-clause-over : goal.returns-in-Err-clause-over
returns-in-Err-clause-over g c =
    let at = c.loop.invariant in
    let start = point_of g.K.Sink.taken c.args.self.now in
    fed_over g.K.Sink.taken start c.round.new.self c.round.new.reader (g.S.Source.left c.args.input.now) (g.S.Source.left c.round.new.input) c.in-Err.end
    (reads_more (StandsSo g.K.Sink.taken start c.loop.self) (λ lines. EndedSo g.K.Sink.taken start c.round.new.self lines c.in-Err.end) c.loop.reader c.round.new.reader (g.S.Source.left c.args.input.now)
    (g.S.Source.left c.loop.input) (g.S.Source.left c.round.new.input) at.reads (c.in-Err.ensures.over start)) c.in-Err.ensures.unended

pub returns-then-load-clause-over : goal.returns-then-load-clause-over
returns-then-load-clause-over g c =
    let at = c.loop.invariant in
    let start = point_of g.K.Sink.taken c.args.self.now in
    stopped g.K.Sink.taken start c.round.new.self c.round.new.reader (g.S.Source.left c.args.input.now) (g.S.Source.left c.round.new.input)
    (reads_more (StandsSo g.K.Sink.taken start c.loop.self) (StandsSo g.K.Sink.taken start c.round.new.self) c.loop.reader c.round.new.reader (g.S.Source.left c.args.input.now)
    (g.S.Source.left c.loop.input) (g.S.Source.left c.round.new.input) at.reads (c.in-Ok.ensures.goes start))

pub returns-then-not-more-clause-whole : goal.returns-then-not-more-clause-whole
returns-then-not-more-clause-whole g c =
    let at = c.loop.invariant in
    let start = point_of g.K.Sink.taken c.args.self.now in
    last_whole g.K.Sink.taken start c.round.new.self c.last.new.self c.round.new.reader (g.S.Source.left c.args.input.now) (g.S.Source.left c.round.new.input) c.last.result
    (reads_more (StandsSo g.K.Sink.taken start c.loop.self) (StandsSo g.K.Sink.taken start c.round.new.self) c.loop.reader c.round.new.reader (g.S.Source.left c.args.input.now)
    (g.S.Source.left c.loop.input) (g.S.Source.left c.round.new.input) at.reads (c.in-Ok.ensures.goes start)) c.last.ensures.goes c.last.ensures.empty (c.in-Ok.ensures.end c.if-not-more.true)

pub returns-then-not-more-clause-over : goal.returns-then-not-more-clause-over
returns-then-not-more-clause-over g c =
    let at = c.loop.invariant in
    let start = point_of g.K.Sink.taken c.args.self.now in
    last_ended g.K.Sink.taken start c.round.new.self c.last.new.self c.round.new.reader (g.S.Source.left c.args.input.now) (g.S.Source.left c.round.new.input) c.last.result
    (reads_more (StandsSo g.K.Sink.taken start c.loop.self) (StandsSo g.K.Sink.taken start c.round.new.self) c.loop.reader c.round.new.reader (g.S.Source.left c.args.input.now)
    (g.S.Source.left c.loop.input) (g.S.Source.left c.round.new.input) at.reads (c.in-Ok.ensures.goes start)) c.last.ensures.over c.last.ensures.unended
