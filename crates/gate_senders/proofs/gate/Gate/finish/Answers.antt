use Rattle.std.proofs.Common.{rules}
use Rattle.gate_senders.specs.Told.{told_by}
use Rattle.gate_turn.specs.Places.{known}
use Rattle.gate_senders.proofs.Submitting.{unlost, same_mine, finish_made, refuses_finish}
use Rattle.gate_senders.proofs.gate.Gate.finish.Goals as goal

pub leave-requires-clause-returns : goal.leave-requires-clause-returns
leave-requires-clause-returns g c =
    let did = c.finish-answer.ensures in
    record {
      adds = search rules;
      faults = search rules;
      refuses = refuses_finish c.finish-answer.result (known c.args.pass.now) (known c.enter-value.new.pass) (told_by c.enter-value.result.value) (told_by c.finish-answer.new.self)
          c.enter-value.ensures.entered did.kept did.lost did.refused;
      stays = search rules;
      sound = search rules;
    }

pub returns-clause-mine : goal.returns-clause-mine
returns-clause-mine g c =
    let a = told_by c.enter-value.result.value in
    let b = told_by c.finish-answer.new.self in
    same_mine (known c.args.pass.now) (known c.enter-value.new.pass) (known c.leave.new.pass) a b c.enter-value.ensures.entered c.leave.ensures.left
    (finish_made c.finish-answer.result a.history b.history c.finish-answer.ensures.ok c.finish-answer.ensures.refused)

pub returns-clause-unlost : goal.returns-clause-unlost
returns-clause-unlost g c never = unlost (known c.args.pass.now) (known c.enter-value.new.pass) (known c.leave.new.pass) (told_by c.enter-value.result.value) (told_by c.finish-answer.new.self)
    c.enter-value.ensures.entered c.leave.ensures.left (c.finish-answer.ensures.kept never)
