use Rattle.std.proofs.Common.{◌≡◌, false, Ok}
use Rattle.cmd_dump.specs.Progress.{Streams}
use Rattle.cmd_dump.proofs.Streaming.{finished-by, kept-input}
use Rattle.cmd_dump.proofs.dumper.Dumper.round.Goals as goal

pub returns-in-Err-clause-after : goal.returns-in-Err-clause-after
returns-in-Err-clause-after g c = λ before stands. c.in-Err.ensures.promise before (g.S.Source.left c.args.input.now) stands

pub returns-in-Ok-false-clause-after : goal.returns-in-Ok-false-clause-after
returns-in-Ok-false-clause-after g c = λ before stands.
    let now : Streams = record { input = g.S.Source.left c.args.input.now; out = g.K.Sink.taken c.print_held.new.out } in
    let e : c.read.result ≡ Ok false = cc (c.in-Ok-false.is, c.in-Ok-false.field-0-test) in
    let stood = c.in-Ok.ensures.stands before (g.S.Source.left c.args.input.now) stands in
    finished-by c.args.plan.now before now (g.S.Source.left c.read.new.input) (g.K.Sink.taken c.finish.new.out) c.print_held.new.self c.read.new.self c.finish.result stood c.in-Ok.ensures.idle
    (c.read.ensures.nothing e) (c.read.ensures.end e) c.read.ensures.place (c.read.ensures.held e) c.finish.ensures.gave

pub returns-in-Err-read-clause-after : goal.returns-in-Err-read-clause-after
returns-in-Err-read-clause-after g c = λ before stands.
    kept-input c.args.plan.now before (g.S.Source.left c.args.input.now) (g.S.Source.left c.read.new.input) (g.K.Sink.taken c.print_held.new.out) c.print_held.new.self
    (c.in-Ok.ensures.stands before (g.S.Source.left c.args.input.now) stands)
