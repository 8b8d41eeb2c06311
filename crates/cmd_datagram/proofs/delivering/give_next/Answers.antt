use Rattle.std.proofs.Common.{[], refl}
use Rattle.cmd_datagram.proofs.Writing.{front_of_more, wrote_so_far, wrote_pushed, wrote_failed}
use Rattle.cmd_datagram.proofs.delivering.give_next.Goals as goal

pub returns-in_default-clause-err : goal.returns-in_default-clause-err
returns-in_default-clause-err g c = λ before text wrote. front_of_more before _ text _ (wrote_so_far before text _ _ wrote)

pub returns-in-Ok-push_held-clause-ok : goal.returns-in-Ok-push_held-clause-ok
returns-in-Ok-push_held-clause-ok g c = λ before text wrote. wrote_pushed before text _ _ _ _ _ [] wrote c.in-Ok.ensures c.in-Ok-push_held.ensures.ok refl

pub returns-in-Err-clause-err : goal.returns-in-Err-clause-err
returns-in-Err-clause-err g c = λ before text wrote. wrote_failed before text _ _ _ _ _ wrote c.in-Ok.ensures c.in-Err.ensures.err
