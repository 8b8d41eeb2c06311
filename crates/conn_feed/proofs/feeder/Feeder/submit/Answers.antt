use Rattle.std.proofs.Common.{◌+◌, ◌-◌, ◌<◌, length, slice_index_or, ap, sym, subst, ◌∙◌, arith}
use Rattle.std.proofs.lemmas.List.{get_or_default}
use Rattle.gate_turn.specs.Places.{known}
use Rattle.conn_feed.specs.Fed.{IsCounted}
use Rattle.conn_feed.proofs.Seats.{within_number, counts_on, set_seat}
use Rattle.conn_feed.proofs.feeder.Feeder.submit.Goals as goal

pub returns-clause-seats : goal.returns-clause-seats
returns-clause-seats g c =
    let e = c.submit_all-submission.ensures in
    let senders = c.args.self.now.senders.items in
    let s = c.index_mut-seat.result.now in
    let at = c.sender.result - 1 in
    let there : at < length senders = omega (arith, c.sender.ensures, c.requires.sender.from_one, c.requires.sender.up_to) in
    let is = c.index_mut-seat.ensures.value in
    let counted = subst IsCounted (sym is) (c.requires.seats.counted at s there) in
    set_seat c.args.gate.now senders at s (record s { pass = c.submit_all-submission.new.pass; done = c.args.own + c.submit_all-submission.result.count }) c.requires.seats there
    (λ d. get_or_default senders at d s there ∙ sym is) (record { own = e.own; free = e.free }) e.turn.number e.turn.made
    (counts_on (known s.pass) (known c.submit_all-submission.new.pass) c.payloads.result.now c.args.own c.submit_all-submission.result.count e.within e.added
    (c.requires.own s ∙ ap (λ k. (slice_index_or senders (k - 1) s).done) (sym c.sender.ensures) ∙ ap (λ x. x.done) (sym is) ∙ counted))

pub returns-clause-number : goal.returns-clause-number
returns-clause-number g c =
    let e = c.submit_all-submission.ensures in
    within_number (known c.index_mut-seat.result.now.pass) (known c.submit_all-submission.new.pass) c.payloads.result.now c.submit_all-submission.result.count c.submit_all-submission.result.number
    e.within e.added e.number
