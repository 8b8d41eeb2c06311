use Rattle.std.proofs.Common.{◌*◌, refl}
use Rattle.std.proofs.lemmas.Result.{on_ok_weaker}
use Rattle.gate_turn.specs.Places.{known}
use Rattle.conn_loop.specs.Conn.{line_of}
use Rattle.gw_rehearse.proofs.Driving.{found_stands, staff_kept}
use Rattle.gw_rehearse.proofs.end.DrivenEnd.see_mark.Goals as goal

pub returns-clause-driven : goal.returns-clause-driven
returns-clause-driven g c =
    let e = c.args.self.now in
    let h = c.requires.driven in
    let f = c.finish in (
      staff_kept e.gate e.staff e.staff e.pass f.new.pass h.0 h.0.seated refl f.ensures.own f.ensures.free f.ensures.turn.number f.ensures.turn.made,
      found_stands e.standing (line_of e.conn) (e.turns * 4195840) (known e.pass) (known f.new.pass) e.inbox f.ensures.turn.seen h.1,
    )

pub returns-clause-seen : goal.returns-clause-seen
returns-clause-seen g c = c.finish.ensures.turn.seen

pub returns-clause-marked : goal.returns-clause-marked
returns-clause-marked g c = on_ok_weaker c.finish.result (λ k. k.marked) c.finish.ensures.ok
