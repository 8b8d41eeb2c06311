use denote.Param.{param}
use Rattle.std.proofs.Common.{sym, ap, ◌∙◌}
use denote.Param.Send.{IsSend, param_send}
use Rattle.order_gate.specs.contracts.desk.Desk as Desk
use Rattle.order_gate.specs.contracts.hand.Hand as Hand
use Rattle.order_gate.specs.contracts.desks.Desks as Desks
use Rattle.gate_staff.specs.contracts.door.OpenDoor as open_door
use Rattle.order_staff.specs.Staffs.{plan_in}
use Rattle.order_staff.proofs.Crossing.{hand_send, desks_send}
use Rattle.order_staff.proofs.staff.Staff.resume.Goals as goal

pub resume_by-requires-send-B : goal.resume_by-requires-send-B
resume_by-requires-send-B g c κs within =
    let o = param 0 g.row.J in
    let desk : IsSend (Desk.the_row o g.J.Journal) = c.desk_sends.ensures in
    let hand : IsSend (Hand.the_row o open_door.the_row g.J.Journal) = hand_send o open_door.the_row g.J.Journal desk c.form_sends.ensures c.door_sends.ensures in
    let all : IsSend (Desks.the_row o open_door.the_row g.J.Journal) = desks_send o open_door.the_row g.J.Journal hand in
    record { owned = all.owned; leaving = (param_send 2 (Desks.the_row o open_door.the_row g.J.Journal) all).leaving }

pub resume_by-requires-send-B-Hand : goal.resume_by-requires-send-B-Hand
resume_by-requires-send-B-Hand g c κs within =
    let o = param 0 g.row.J in
    let desk : IsSend (Desk.the_row o g.J.Journal) = c.desk_sends.ensures in
    let hand : IsSend (Hand.the_row o open_door.the_row g.J.Journal) = hand_send o open_door.the_row g.J.Journal desk c.form_sends.ensures c.door_sends.ensures in
    record { owned = hand.owned; leaving = (param_send 5 (Hand.the_row o open_door.the_row g.J.Journal) hand).leaving }

pub returns-in-Desks-clause-plan : goal.returns-in-Desks-clause-plan
returns-in-Desks-clause-plan g c = c.resume_by.ensures.plan ∙ sym (ap plan_in c.in-Desks.is)
