use Rattle.std.proofs.Common.{◌≡◌, false, Ok, refl}
use Rattle.std.proofs.lemmas.Result.{err_from_is_err_and}
use Rattle.cmd_codec.specs.Decodes.{Streams}
use Rattle.cmd_codec.proofs.Streaming.{finished-by, kept-front}
use Rattle.cmd_codec.proofs.decoder.Decoder.round.Goals as goal

pub returns-in_err-print_held-clause-after : goal.returns-in_err-print_held-clause-after
returns-in_err-print_held-clause-after g c = λ before stands.
    let p = err_from_is_err_and c.from_residual.result c.from_residual.ensures.1 in
    rw (p.1, p.2) (c.in_err-print_held.ensures.promise before (g.S.Source.left c.args.input.now) stands)

pub returns-in-Ok-false-clause-after : goal.returns-in-Ok-false-clause-after
returns-in-Ok-false-clause-after g c = λ before stands.
    let now : Streams = record { input = g.S.Source.left c.args.input.now; out = g.K.Sink.taken c.print_held.new.out } in
    let after : Streams = record { input = g.S.Source.left c.read.new.input; out = g.K.Sink.taken c.print_held.new.out } in
    let e : c.read.result ≡ Ok false = cc (c.in-Ok-false.is, c.in-Ok-false.field-0-test) in
    let stood = c.in_ok-print_held.ensures.stands before (g.S.Source.left c.args.input.now) stands in
    finished-by c.args.shown c.args.plan.now before now after c.print_held.new.self c.read.new.self stood c.in_ok-print_held.ensures.idle (c.read.ensures.nothing e) (c.read.ensures.end e) refl
    c.read.ensures.place (c.read.ensures.held e) c.finish.result c.finish.ensures

pub returns-in-Err-clause-after : goal.returns-in-Err-clause-after
returns-in-Err-clause-after g c = λ before stands.
    kept-front c.args.shown c.args.plan.now before (record { input = g.S.Source.left c.args.input.now; out = g.K.Sink.taken c.print_held.new.out }) c.print_held.new.self
    (c.in_ok-print_held.ensures.stands before (g.S.Source.left c.args.input.now) stands)
