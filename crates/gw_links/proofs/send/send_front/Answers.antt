use Rattle.std.proofs.Common.{rules}
use Rattle.std.proofs.lemmas.Result.{err_from_is_err_and}
use Rattle.gw_links.proofs.Moving.{sent_front, sent_more}
use Rattle.gw_links.proofs.send.send_front.Goals as goal

pub returns-in_err-taken-clause-front : goal.returns-in_err-taken-clause-front
returns-in_err-taken-clause-front g c =
    let p = err_from_is_err_and c.from_residual.result c.from_residual.ensures.1 in
    rw p.1 (sent_front _ _ _ _ _ _ _ _ c.loop-link.invariant.sent c.in_err-taken.ensures.front)

pub loop-link-preserved : goal.loop-link-preserved
loop-link-preserved g c = record {
  sent = rw c.split_at.ensures.back (sent_more _ _ _ _ _ _ _ _ c.in_ok-taken.taken c.loop-link.invariant.sent c.in_ok-taken.ensures.moves);
  stayed = search rules;
  counted = search rules;
}
