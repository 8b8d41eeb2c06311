use Rattle.std.proofs.Common.{sym, ap, ◌∙◌, subst}
use denote.Param.{copied}
use denote.Param.Send.{IsSend, param_send}
use Rattle.gw_fakes.specs.contracts.disk.MemDisk as disk
use Rattle.gw_fakes.specs.contracts.disk.MemDiskDisk.TheImpl as on_disk
use Rattle.jr_segments.specs.contracts.journal.SegJournal as journal
use Rattle.jr_segments.specs.contracts.journal.SegJournalJournal.TheImpl as of_journal
use Rattle.gate_turn.specs.Rule.{In}
use Rattle.gate_staff.specs.Business.{lock_of}
use Rattle.order_gate.specs.contracts.hand.Hand as Hand
use Rattle.order_gate.specs.contracts.desks.Desks as Desks
use Rattle.cases_orders.proofs.Sending.{hand_send, desks_send}
use Rattle.cases_orders.proofs.desks.runs.live_desks.Goals as goal

pub live-requires-clause-own : goal.live-requires-clause-own
live-requires-clause-own g c κs within = c.in-Ok.ensures.own (lock_of c.args.gate.now) c.requires.these

pub returns-in-Ok-clause-made : goal.returns-in-Ok-clause-made
returns-in-Ok-clause-made g c = λ n inside.
    c.live.ensures.made n (subst (λ k. In k n) (sym c.in-Ok.ensures.made.desks) inside) ∙ ap (λ p. p.made) (c.in-Ok.ensures.made.part n inside)

pub live-requires-send-B : goal.live-requires-send-B
live-requires-send-B g c κs within =
    let hand : IsSend (Hand.the_row (journal.the_row disk.the_row on_disk.ghosts) (copied 0 g.row.D) (of_journal.ghosts disk.the_row on_disk.ghosts on_disk.dict)) = hand_send (journal.the_row disk.the_row on_disk.ghosts) (copied 0 g.row.D) (of_journal.ghosts disk.the_row on_disk.ghosts on_disk.dict) c.desk_sends.ensures c.form_sends.ensures c.type_bounds.send-D in
    let all : IsSend (Desks.the_row (journal.the_row disk.the_row on_disk.ghosts) (copied 0 g.row.D) (of_journal.ghosts disk.the_row on_disk.ghosts on_disk.dict)) = desks_send (journal.the_row disk.the_row on_disk.ghosts) (copied 0 g.row.D) (of_journal.ghosts disk.the_row on_disk.ghosts on_disk.dict) hand in
    record { owned = all.owned; leaving = (param_send 0 (Desks.the_row (journal.the_row disk.the_row on_disk.ghosts) (copied 0 g.row.D) (of_journal.ghosts disk.the_row on_disk.ghosts on_disk.dict)) all).leaving }

pub live-requires-send-B-Hand : goal.live-requires-send-B-Hand
live-requires-send-B-Hand g c κs within =
    let hand : IsSend (Hand.the_row (journal.the_row disk.the_row on_disk.ghosts) (copied 0 g.row.D) (of_journal.ghosts disk.the_row on_disk.ghosts on_disk.dict)) = hand_send (journal.the_row disk.the_row on_disk.ghosts) (copied 0 g.row.D) (of_journal.ghosts disk.the_row on_disk.ghosts on_disk.dict) c.desk_sends.ensures c.form_sends.ensures c.type_bounds.send-D in
    record { owned = hand.owned; leaving = (param_send 2 (Hand.the_row (journal.the_row disk.the_row on_disk.ghosts) (copied 0 g.row.D) (of_journal.ghosts disk.the_row on_disk.ghosts on_disk.dict)) hand).leaving }
