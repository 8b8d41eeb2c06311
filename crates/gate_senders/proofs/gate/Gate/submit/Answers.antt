use Rattle.std.proofs.Common.{rules}
use Rattle.gate_senders.specs.Told.{told_by}
use Rattle.gate_turn.specs.Places.{known}
use Rattle.gate_senders.specs.Kept.{next_entry}
use Rattle.gate_senders.proofs.Submitting.{submits, begins_added, takes_turn, refuses_submit}
use Rattle.gate_senders.proofs.gate.Gate.submit.Goals as goal

pub leave-requires-clause-returns : goal.leave-requires-clause-returns
leave-requires-clause-returns g c =
    let did = c.add-answer.ensures in
    record {
      adds = search rules;
      faults = search rules;
      refuses = refuses_submit c.add-answer.result (known c.args.pass.now) (known c.enter-value.new.pass) c.number.result c.args.payload.now
          (told_by c.enter-value.result.value) (told_by c.add-answer.new.self) c.enter-value.ensures.entered c.number.ensures.exact did.kept did.lost did.refused;
      stays = search rules;
      sound = search rules;
    }

pub returns-clause-turn : goal.returns-clause-turn
returns-clause-turn g c =
    let a = told_by c.enter-value.result.value in
    let b = told_by c.add-answer.new.self in
    let add = c.add-answer.ensures in
    takes_turn (known c.args.pass.now) (known c.enter-value.new.pass) (known c.leave.new.pass) a b c.enter-value.ensures.entered c.leave.ensures.left
    (begins_added c.add-answer.result a.history b.history (next_entry a.history c.number.result c.args.payload.now) add.open add.ok add.refused) add.sound.faults

pub returns-clause-ok : goal.returns-clause-ok
returns-clause-ok g c = submits c.add-answer.result (known c.args.pass.now) (known c.enter-value.new.pass) (known c.leave.new.pass) c.number.result c.args.payload.now
    (told_by c.enter-value.result.value) (told_by c.add-answer.new.self) c.enter-value.ensures.entered c.number.ensures.exact c.leave.ensures.left
    c.add-answer.ensures.open c.add-answer.ensures.ok c.add-answer.ensures.number
