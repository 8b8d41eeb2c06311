use Rattle.std.proofs.Common.{length, ap, arith}
use Rattle.flow_idem.specs.Runs.{Growing, runs_of}
use Rattle.flow_idem.proofs.Told.{count_open, count_whole}
use Rattle.flow_idem.proofs.runs.Runs.count.Goals as goal

pub returns-then-self : goal.returns-then-self
returns-then-self c =
    let w = c.self.inside in
    omega (arith, c.len.ensures, count_open w.whole.items w.first w.end c.self.invariant.1 c.if-self.true, ap (λ (g : Growing). length (runs_of g.numbers)) c.self.view_is)

pub returns-else-self : goal.returns-else-self
returns-else-self c =
    let w = c.self.inside in
    omega (arith, c.len-else-self.ensures, count_whole w.whole.items w.first w.end c.self.invariant.1 c.if-self.false, ap (λ (g : Growing). length (runs_of g.numbers)) c.self.view_is)
