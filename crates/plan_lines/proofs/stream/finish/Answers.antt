use Rattle.std.proofs.Common.{ℕ, List}
use Rattle.text_words.specs.Lines.{lines_in}
use Rattle.plan_lines.specs.Progress.{IsAll, Reads, Stands, Streams}
use Rattle.plan_lines.proofs.Rounds.{finish_done, finish_ends, pushed_ok}
use Rattle.plan_lines.proofs.stream.finish.Goals as goal

pub returns-in-Ok-clause-promise : goal.returns-in-Ok-clause-promise
returns-in-Ok-clause-promise g c = λ before input s end.
    let plan = c.args.plan.now in
    let q = c.take_last-taken.new.place in
    let goes = (pushed read : List ℕ) → Reads read c.args.reader.now (Stands plan pushed c.args.place.now) → IsAll plan pushed q (lines_in read) in
    let p = pushed_ok goes (g.K.Sink.taken c.args.out.now) (g.K.Sink.taken c.push_taken.new.out) q.lines.items c.take_last-taken.result c.take_last-taken.ensures.goes
    (rw c.in-Ok.is at c.push_taken.ensures.pushes) in
    finish_done plan before (record { input = input; out = g.K.Sink.taken c.args.out.now }) c.args.reader.now c.args.place.now q (g.K.Sink.taken c.push_taken.new.out) c.take_last-taken.ensures.form p.0 p.1 s end

pub returns-in-Err-clause-promise : goal.returns-in-Err-clause-promise
returns-in-Err-clause-promise g c = λ before input s end.
    finish_ends c.args.plan.now before (record { input = input; out = g.K.Sink.taken c.args.out.now }) c.args.reader.now c.args.place.now c.take_last-taken.new.place (g.K.Sink.taken c.push_taken.new.out)
    c.take_last-taken.result c.in-Err.end c.requires.empty c.take_last-taken.ensures.form c.take_last-taken.ensures.goes c.take_last-taken.ensures.stops (rw c.in-Err.is at c.push_taken.ensures.pushes) s end
