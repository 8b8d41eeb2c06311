use Rattle.std.proofs.Common.{refl}
use Rattle.conn_door.proofs.Marking.{ended_kept, ended_late}
use Rattle.conn_door.proofs.behind.submit_behind.Goals as goal

pub returns-then-not-is_unrefused-clause-behind : goal.returns-then-not-is_unrefused-clause-behind
returns-then-not-is_unrefused-clause-behind g c = λ before connections refused s is.
    ended_kept c.args.gate.now before c.args.senders.now.senders.items c.args.senders.now.senders.items connections refused c.args.answer s is (c.if-not-is_unrefused.ensures.no refl)

pub returns-clause-behind : goal.returns-clause-behind
returns-clause-behind g c = λ before connections refused s is.
    let late = c.submit_turned-late.ensures in
    ended_late c.args.gate.now before c.args.senders.now.senders.items c.submit_turned-late.new.senders.senders.items connections refused c.args.answer s is c.submit_turned-late.result c.late_answer.result (c.if-not-is_unrefused.ensures.yes refl)
    (late.one_run before) late.admitted c.late_answer.ensures
