use Rattle.gate_senders.specs.Told.{told_by}
use Rattle.std.proofs.Common.{ap, ◌∙◌}
use Rattle.session_model.specs.Journal.{History}
use Rattle.gate_turn.specs.Views.{Account}
use Rattle.gate_turn.specs.Places.{known}
use Rattle.gate_senders.proofs.Submitting.{same_mine, same_ended}
use Rattle.gate_senders.proofs.gate.Gate.look.Goals as goal

pub returns-clause-same : goal.returns-clause-same
returns-clause-same g c =
    let a = told_by c.enter_next-value.result.value in
    let b = told_by c.look-answer.new.self in
    let same = c.look-answer.ensures.same.0 ∙ ap (λ (x : Account). x.history) c.at.ensures.same in (
      same_mine (known c.args.pass.now) (known c.enter_next-value.new.pass) (known c.leave.new.pass) a b c.enter_next-value.ensures.entered c.leave.ensures.left (ap (λ (h : History). h.made) same),
      same_ended (known c.args.pass.now) (known c.enter_next-value.new.pass) (known c.leave.new.pass) a b c.enter_next-value.ensures.entered c.leave.ensures.left same,
    )
