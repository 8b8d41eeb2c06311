-- What was written and read makes the answer.
use Rattle.std.proofs.Common.{refl, true}
use Rattle.std.proofs.lemmas.Result.{err_from_is_err_and}
use Rattle.fixp_mux.specs.Stepping.{during, state_of}
use Rattle.fixp_mux.proofs.Answering.{did_answer, did_not_read}
use Rattle.fixp_mux.proofs.router.Router.run.Goals as goal

pub returns-in_err-read-clause-did : goal.returns-in_err-read-clause-did
returns-in_err-read-clause-did g c =
    let p = err_from_is_err_and c.from_residual-in_err-read.result c.from_residual-in_err-read.ensures.1 in
    rw (p.1, p.2) (did_not_read _ _ _ _ _ _ (during c.args.self.now) (during c.write_out.new.self) (during c.read_in.new.self) (state_of c.read_in.new.self true) c.in_ok-wrote.wrote c.in_err-read.field-0.0 c.in_ok-wrote.ensures.wrote c.in_err-read.ensures.read refl)

pub returns-clause-did : goal.returns-clause-did
returns-clause-did g c =
    did_answer _ _ _ _ _ _ c.args.self.now c.write_out.new.self c.read_in.new.self c.in_ok-wrote.wrote c.in_ok-read.read c.choose.result c.in_ok-wrote.ensures.wrote c.in_ok-read.ensures.read c.choose.ensures
