use Rattle.std.proofs.Common.{rules}
use Rattle.std.proofs.lemmas.Result.{err_from_is_err_and}
use Rattle.gw_outside.proofs.Pushing.{more_pushed, front_pushed}
use Rattle.gw_outside.proofs.streams.push_all.Goals as goal

pub returns-in_err-taken-clause-err : goal.returns-in_err-taken-clause-err
returns-in_err-taken-clause-err g c =
    let p = err_from_is_err_and c.from_residual.result c.from_residual.ensures.1 in
    rw p.1 (front_pushed _ _ _ _ _ c.loop-rest.invariant.pushed c.in_err-taken.ensures.bytes)

pub loop-rest-preserved : goal.loop-rest-preserved
loop-rest-preserved g c = record {
  pushed = rw c.split_at.ensures.back (more_pushed _ _ _ _ _ c.in_ok-taken.taken c.loop-rest.invariant.pushed c.in_ok-taken.ensures.bytes);
  counted = search rules;
}
