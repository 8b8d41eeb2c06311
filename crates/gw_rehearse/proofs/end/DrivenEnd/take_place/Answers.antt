use Rattle.std.proofs.Common.{◌*◌, refl, sym, ap, subst}
use Rattle.gate_turn.specs.Places.{known}
use Rattle.conn_loop.specs.Conn.{line_of}
use Rattle.gw_rehearse.specs.Standing.{Stands}
use Rattle.gw_rehearse.proofs.Driving.{resumed_closed, resumed_rests, rests_stands, staff_kept}
use Rattle.gw_rehearse.proofs.Stories.{resumed_ended, resumed_stands}
use Rattle.gw_rehearse.proofs.end.DrivenEnd.take_place.Goals as goal

pub returns-clause-driven : goal.returns-clause-driven
returns-clause-driven g c =
    let e = c.args.self.now in
    let h = c.requires.driven in
    let came = c.resume-answer in (
      staff_kept e.gate e.staff came.new.self e.pass e.pass h.0 came.ensures.seated came.ensures.count h.0.own h.0.free refl refl,
      subst (λ s. Stands s (line_of e.conn) (e.turns * 4195840) (known e.pass) came.new.inbox) (sym c.resumed-self.ensures)
          (rests_stands _ (line_of e.conn) (e.turns * 4195840) (known e.pass) came.new.inbox (resumed_closed came.result)
          (resumed_rests (line_of e.conn).machine (known e.pass) e.inbox came.new.inbox came.ensures.content came.ensures.kind (h.1.begins c.requires.rests.over))),
    )

pub returns-clause-stands : goal.returns-clause-stands
returns-clause-stands g c = λ over b legs k. resumed_stands c.args.self.now _ refl refl refl c.resume-answer.ensures.content over b legs k

pub returns-clause-ended : goal.returns-clause-ended
returns-clause-ended g c = λ b legs first k. resumed_ended c.args.self.now _ refl refl refl c.resume-answer.ensures.content b legs first k
