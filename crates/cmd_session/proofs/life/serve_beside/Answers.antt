use Rattle.std.proofs.Common.{◌+◌, refl, sym, ◌∙◌, subst, arith}
use Rattle.gate_staff.specs.Seats.{Seated}
use Rattle.cmd_session.proofs.Served.{served_seated, served_long, output_caused, dial_caused}
use Rattle.cmd_session.proofs.life.serve_beside.Goals as goal

pub returns-clause-count : goal.returns-clause-count
returns-clause-count g c =
    let old = c.args.senders.now.senders in
    let new = c.serve_lent.new.senders.senders in
    let s = c.serve_lent.ensures.through in
    new.ok.0 ∙ (served_long c.args.opening.gate.now (old.len + 1) old.items new.items s.refused s.senders ∙ sym old.ok.0)

pub returns-clause-seated : goal.returns-clause-seated
returns-clause-seated g c =
    let gate = c.args.opening.gate.now in
    let old = c.args.senders.now.senders in
    let new = c.serve_lent.new.senders.senders in
    let s = c.serve_lent.ensures.through in
    subst (λ k. Seated gate new.items (k + 1)) (sym (returns-clause-count g c)) (served_seated gate (old.len + 1) old.items new.items s.refused s.senders c.serve_lent.ensures.ready c.requires.seated)

pub returns-clause-output : goal.returns-clause-output
returns-clause-output g c = λ e.
    let s = c.serve_lent.ensures.through in
    (output_caused c.args.opening.gate.now c.args.senders.now.senders.items c.serve_lent.new.senders.senders.items s.connections s.refused c.serve_lent.result.0 _ s.senders s.blamed s.answer e).output refl

pub returns-clause-dial : goal.returns-clause-dial
returns-clause-dial g c = λ e.
    let s = c.serve_lent.ensures.through in
    (dial_caused c.args.opening.gate.now c.args.senders.now.senders.items c.serve_lent.new.senders.senders.items s.connections s.refused c.serve_lent.result.0 _ s.senders s.blamed s.answer e).dial refl

pub returns-clause-marked : goal.returns-clause-marked
returns-clause-marked g c = λ u some. c.serve_lent.ensures.marked u (omega (arith, some, c.args.senders.now.senders.ok.0))
