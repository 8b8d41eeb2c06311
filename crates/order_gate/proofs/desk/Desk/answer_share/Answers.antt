use Rattle.std.proofs.Common.{sym, ap, ◌∙◌, subst, drop}
use Rattle.order_gate.specs.Desks.{answer_of, due, known_of}
use Rattle.order_gate.specs.Reported.{Reported}
use Rattle.order_gate.proofs.Sending.{on_ok}
use Rattle.order_gate.proofs.desk.Desk.answer_share.Goals as goal

pub returns : goal.returns
returns g c =
    let s = c.args.self.now in
    let call = c.args.call.now in
    let did = c.answer_places-answer in
    let e = c.kept-self.ensures in
    let m = did.ensures.ready.manned in
    record {
      ran = record {
        ready = record { manned = record { pass = m.pass; there = m.there; own = m.own; free = m.free; number = m.number; made = m.made }; sender = did.ensures.ready.sender; few = did.ensures.ready.few };
        number = did.ensures.number;
        reported = subst (λ r. Reported (known_of s) (known_of did.new.self) (drop s.owed (due call.plan.now call.reference call.desks call.turn call.payloads.now s.number)) r) (sym e) did.ensures.reported;
        owed = λ none. on_ok did.result _ (sym e ∙ ap answer_of none) did.ensures.owed;
      };
    }
