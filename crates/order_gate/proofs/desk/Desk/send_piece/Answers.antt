use Rattle.std.proofs.Common.{◌+◌, Ok, Err, Some, None, refl, ap, ◌∙◌}
use Rattle.gate_turn.specs.Places.{known}
use Rattle.order_gate.proofs.Parts.{Said, reported_at}
use Rattle.order_gate.proofs.Sending.{ready_again, reported_by, its_made, made_more}
use Rattle.order_gate.proofs.desk.Desk.send_piece.Goals as goal

pub returns-in-None-clause-ready : goal.returns-in-None-clause-ready
returns-in-None-clause-ready g c =
    let d = c.args.self.now in
    let p = c.in-Some-pass.pass in
    let e = c.submit_all-submission.ensures in
    let q = c.submit_all-submission.new.pass in
    let made = made_more (known p) (known q) c.args.reports.now c.submit_all-submission.result.count e.within e.added in
    ready_again c.args.gate.now d p q c.requires.ready c.in-Some-pass.is _ refl refl e.own e.free e.turn.number
    (made ∙ ap (λ k. k + c.submit_all-submission.result.count) (its_made c.args.gate.now d p q c.requires.ready c.in-Some-pass.is))

pub returns-in-Some-refused-clause-ready : goal.returns-in-Some-refused-clause-ready
returns-in-Some-refused-clause-ready g c =
    let d = c.args.self.now in
    let p = c.in-Some-pass.pass in
    let e = c.submit_all-submission.ensures in
    let q = c.submit_all-submission.new.pass in
    let made = made_more (known p) (known q) c.args.reports.now c.submit_all-submission.result.count e.within e.added in
    ready_again c.args.gate.now d p q c.requires.ready c.in-Some-pass.is _ refl refl e.own e.free e.turn.number
    (made ∙ ap (λ k. k + c.submit_all-submission.result.count) (its_made c.args.gate.now d p q c.requires.ready c.in-Some-pass.is))

pub returns-in-None-clause-reported : goal.returns-in-None-clause-reported
returns-in-None-clause-reported g c =
    let d = c.args.self.now in
    let p = c.in-Some-pass.pass in
    let e = c.submit_all-submission.ensures in
    let q = c.submit_all-submission.new.pass in
    let r = c.submit_all-submission.result in
    let a : Said (known p) (known q) c.args.reports.now r = record {
      turn = e.turn;
      ended = e.ended;
      within = e.within;
      added = e.added;
      whole = e.whole;
      none = e.none;
      closed = e.closed;
      full = e.full;
      fault = e.fault;
      broken = e.broken;
      lost = e.lost;
      unlost = e.unlost;
      unended = e.unended;
    } in
    reported_by c.args.gate.now d p q c.requires.ready c.in-Some-pass.is c.args.reports.now (Ok tt)
    (reported_at (known p) (known q) c.args.reports.now r c.requires.some c.requires.few a None c.in-None.is)

pub returns-in-Some-refused-clause-reported : goal.returns-in-Some-refused-clause-reported
returns-in-Some-refused-clause-reported g c =
    let d = c.args.self.now in
    let p = c.in-Some-pass.pass in
    let e = c.submit_all-submission.ensures in
    let q = c.submit_all-submission.new.pass in
    let r = c.submit_all-submission.result in
    let a : Said (known p) (known q) c.args.reports.now r = record {
      turn = e.turn;
      ended = e.ended;
      within = e.within;
      added = e.added;
      whole = e.whole;
      none = e.none;
      closed = e.closed;
      full = e.full;
      fault = e.fault;
      broken = e.broken;
      lost = e.lost;
      unlost = e.unlost;
      unended = e.unended;
    } in
    reported_by c.args.gate.now d p q c.requires.ready c.in-Some-pass.is c.args.reports.now (Err c.in-Some-refused.fault)
    (reported_at (known p) (known q) c.args.reports.now r c.requires.some c.requires.few a (Some c.in-Some-refused.fault) c.in-Some-refused.is)
