use Rattle.std.proofs.Common.{arith}
use Rattle.jr_places.proofs.run.Run.len.Goals as goal

pub overflow_add-result-2 : goal.overflow_add-result-2
overflow_add-result-2 c =
    let r = c.args.self.now in
    omega (arith, c.len.ensures, c.len-2.ensures, c.len-3.ensures, r.few_close, r.few_near, r.far.ok.1, r.far.small)
