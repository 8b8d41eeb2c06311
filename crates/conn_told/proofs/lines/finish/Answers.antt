use Rattle.std.proofs.Common.{ℕ, List}
use Rattle.text_words.specs.Lines.{lines_in}
use Rattle.conn_told.specs.Progress.{HasSaid, Reads, Streams}
use Rattle.conn_told.proofs.Rounds.{finish_done, finish_ends, pushed_ok}
use Rattle.conn_told.proofs.lines.finish.Goals as goal

pub returns-in-Ok-clause-promise : goal.returns-in-Ok-clause-promise
returns-in-Ok-clause-promise g c = λ before input s end.
    let plan = c.args.plan.now in
    let goes = (pushed read : List ℕ) → Reads read c.args.reader.now (HasSaid plan pushed c.args.text.now.items) → HasSaid plan pushed c.add_last-added.new.text.items (lines_in read) in
    let p = pushed_ok goes (g.K.Sink.taken c.args.out.now) (g.K.Sink.taken c.push_told.new.out) c.add_last-added.new.text.items c.add_last-added.new.reader.number c.add_last-added.result c.add_last-added.ensures.goes (rw (c.in-Ok.is, c.number.ensures) at c.push_told.ensures.pushes) in
    finish_done plan before (record { input = input; out = g.K.Sink.taken c.args.out.now }) c.args.reader.now (g.K.Sink.taken c.push_told.new.out) c.args.text.now.items c.add_last-added.new.text.items c.requires.empty p.0 p.1 s end

pub returns-in-Err-clause-promise : goal.returns-in-Err-clause-promise
returns-in-Err-clause-promise g c = λ before input s end.
    finish_ends c.args.plan.now before (record { input = input; out = g.K.Sink.taken c.args.out.now }) c.args.reader.now c.add_last-added.new.reader.number (g.K.Sink.taken c.push_told.new.out) c.args.text.now.items
    c.add_last-added.new.text.items c.add_last-added.result c.in-Err.end c.requires.empty c.add_last-added.ensures.goes c.add_last-added.ensures.stops (rw (c.in-Err.is, c.number.ensures) at c.push_told.ensures.pushes) s end
