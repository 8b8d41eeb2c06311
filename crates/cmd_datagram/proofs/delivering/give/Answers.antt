use Rattle.std.proofs.Common.{sym, subst}
use Rattle.cmd_datagram.specs.Delivered.{Wrote}
use Rattle.cmd_datagram.proofs.Writing.{front_of_more, wrote_more, wrote_so_far, wrote_pushed, wrote_failed}
use Rattle.cmd_datagram.proofs.delivering.give.Goals as goal

pub returns-in_default-clause-err : goal.returns-in_default-clause-err
returns-in_default-clause-err g c = λ d is before text wrote. front_of_more before _ text _ (wrote_so_far before text _ _ wrote)

pub returns-in-Ok-push_held-clause-ok : goal.returns-in-Ok-push_held-clause-ok
returns-in-Ok-push_held-clause-ok g c = λ d is before text wrote.
    wrote_pushed before text _ _ _ _ _ _ wrote (c.in-Ok.ensures.lines d is) c.in-Ok-push_held.ensures.ok c.in-Ok-push_held.ensures.emptied

pub returns-in-Err-clause-err : goal.returns-in-Err-clause-err
returns-in-Err-clause-err g c = λ d is before text wrote. wrote_failed before text _ _ _ _ _ wrote (c.in-Ok.ensures.lines d is) c.in-Err.ensures.err

pub returns-then-len-lt-PIECE-clause-ok : goal.returns-then-len-lt-PIECE-clause-ok
returns-then-len-lt-PIECE-clause-ok g c = λ d is before text wrote.
    subst (Wrote before _ (g.K.Sink.taken c.args.out.now)) (sym (c.in-Ok.ensures.lines d is)) (wrote_more before text (g.K.Sink.taken c.args.out.now) c.args.lines.now.items _ wrote)
