use Rattle.std.proofs.Common.{◌<◌, ◌≤◌, length, ap, sym, ◌∙◌, slice_get, Some, arith}
use Rattle.flow_idem.specs.Runs.{Growing, runs_of}
use Rattle.flow_idem.proofs.Told.{run_whole, run_open}
use Rattle.flow_idem.proofs.runs.Runs.run.Goals as goal

pub returns-then-place-len : goal.returns-then-place-len
returns-then-place-len c =
    let rs = c.self.inside.whole.items in
    let within : c.args.place < length rs = omega (arith, c.if-place-len.true, c.len.ensures) in
    ap (λ (g : Growing). slice_get (runs_of g.numbers) c.args.place) (sym c.self.view_is)
    ∙ (run_whole rs c.self.inside.first c.self.inside.end c.args.place c.index.result.now c.self.invariant.1 within ∙ ap Some (sym c.index.ensures))

pub returns-else-place-len : goal.returns-else-place-len
returns-else-place-len c =
    let rs = c.self.inside.whole.items in
    let behind : length rs ≤ c.args.place = omega (arith, c.if-place-len.false, c.len.ensures) in
    let seen = ap (λ (g : Growing). length (runs_of g.numbers)) c.self.view_is in
    ap (λ (g : Growing). slice_get (runs_of g.numbers) c.args.place) (sym c.self.view_is)
    ∙ run_open rs c.self.inside.first c.self.inside.end c.args.place c.self.invariant.1 behind (omega (arith, c.requires, seen))
