use Rattle.std.proofs.Common.{◌≤◌, length, ap, sym, subst, ◌∙◌}
use Rattle.std.proofs.lemmas.List.{get_or_default}
use Rattle.gate_staff.specs.Runs.{IsReady}
use Rattle.conn_feed.specs.Fed.{IsCounted}
use Rattle.conn_feed.proofs.Seats.{set_seat}
use Rattle.conn_feed.proofs.Marks.{finished_by}
use Rattle.conn_feed.proofs.feeder.Feeder.finish.Goals as goal

pub returns-clause-seats : goal.returns-clause-seats
returns-clause-seats g c =
    let e = c.finish_by.ensures in
    let gate = c.args.gate.now in
    let senders = c.args.self.now.senders.items in
    let s = c.index_mut-seat.result.now in
    let is = c.index_mut-seat.ensures.value in
    let counted = subst IsCounted (sym is) (c.requires.seats.counted 0 s c.requires.some) in
    let ready = subst (IsReady gate) (sym is) (c.requires.seats.seated.ready 0 s c.requires.some) in
    set_seat gate senders 0 s (record s { pass = c.finish_by.new.pass }) c.requires.seats c.requires.some (λ d. get_or_default senders 0 d s c.requires.some ∙ sym is)
    (record { own = record { own = e.own; sender = subst (λ n. n ≤ gate.senders) (sym e.finishes.turn.number) ready.own.sender }; free = e.free }) e.finishes.turn.number e.finishes.turn.made
    (counted ∙ ap (λ es. length es) (sym e.finishes.mine))

pub returns-clause-finished : goal.returns-clause-finished
returns-clause-finished g c =
    let senders = c.args.self.now.senders.items in
    let s = c.index_mut-seat.result.now in
    finished_by senders s (record s { pass = c.finish_by.new.pass }) c.finish_by.result c.requires.some
    (λ d. get_or_default senders 0 d s c.requires.some ∙ sym c.index_mut-seat.ensures.value) c.finish_by.ensures.finishes
