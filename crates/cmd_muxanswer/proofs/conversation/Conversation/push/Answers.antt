use Rattle.std.proofs.lemmas.Result.{err_from_is_err_and}
use Rattle.cmd_muxanswer.proofs.Given.{takes_all}
use Rattle.cmd_muxanswer.proofs.conversation.Conversation.push.Goals as goal

pub returns-in_err-push_all-2-clause-out_front : goal.returns-in_err-push_all-2-clause-out_front
returns-in_err-push_all-2-clause-out_front g c =
    let p = err_from_is_err_and c.from_residual-in_err-push_all-2.result c.from_residual-in_err-push_all-2.ensures.1 in
    rw p.1 (takes_all _ _ _ (rw c.as_slice.ensures.value at c.in_ok-push_all.ensures.ok))
