use Rattle.std.proofs.Common.{◌≡◌, ◌<◌, ◌≤◌, length, refl}
use Rattle.std.proofs.lemmas.Result.{on_ok_weaker, IfErr-weaker}
use Rattle.conn_turns.specs.News.{items_of}
use Rattle.conn_turns.specs.Lines.{ready_in}
use Rattle.conn_turns.specs.declared.answer.TurnFault.{TurnFault}
use Rattle.conn_turns.specs.declared.answer.TurnFault.TheVariants as faults
use Rattle.conn_steps.specs.Gathered.{payloads_in}
use Rattle.conn_steps.specs.Ends.{intake}
use Rattle.conn_steps.specs.Taking.{AppliedHeld}
use Rattle.conn_steps.proofs.Answering.{held_lacks, blames_memory}
use Rattle.conn_steps.proofs.Holding.{waits_behind, agrees_on}
use Rattle.conn_steps.proofs.frames.answer_frame.Goals as goal

pub returns-clause-answered : goal.returns-clause-answered
returns-clause-answered g c =
    on_ok_weaker c.gather_held.result
    (λ (h : AppliedHeld (length (ready_in c.answer_act.new.end)) c.answer_act.new.end c.gather_held.new.end (payloads_in c.answer_act.new.gathered) (payloads_in c.gather_held.new.gathered)).
    record {
      behind = c.answer_act.new.end;
      between = payloads_in c.answer_act.new.gathered;
      act = c.in_ok-answer_act.ensures.answered;
      machine = h.machine;
      waits = waits_behind c.answer_act.new.end c.gather_held.new.end c.answer_act.new.inbox (payloads_in c.answer_act.new.gathered) (payloads_in c.gather_held.new.gathered) c.in_ok-answer_act.ensures.agrees h;
    })
    c.gather_held.ensures.applied

pub returns-clause-refused : goal.returns-clause-refused
returns-clause-refused g c =
    IfErr-weaker c.gather_held.result _ _
    (λ (fault : TurnFault) (l : (fault ≡ faults.Memory) × (0 < length (ready_in c.answer_act.new.end))).
    held_lacks c.args.now c.args.end.now c.answer_act.new.end c.gather_held.new.end _ c.args.at (intake c.args.inbox.now (items_of c.args.news.now) (payloads_in c.args.gathered.now))
    (intake c.answer_act.new.inbox (items_of c.answer_act.new.news) (payloads_in c.answer_act.new.gathered))
    (intake c.answer_act.new.inbox (items_of c.answer_act.new.news) (payloads_in c.gather_held.new.gathered)) fault c.in_ok-answer_act.ensures.answered refl refl l.0 l.1)
    c.gather_held.ensures.lacks

pub returns-clause-in_turn : goal.returns-clause-in_turn
returns-clause-in_turn g c = λ frames bytes h. c.gather_held.ensures.in_turn c.args.now frames bytes (c.in_ok-answer_act.ensures.in_turn frames bytes h)

pub returns-clause-agrees : goal.returns-clause-agrees
returns-clause-agrees g c =
    let h = c.gather_held.ensures in
    agrees_on c.gather_held.result c.answer_act.new.end c.gather_held.new.end c.answer_act.new.inbox (payloads_in c.answer_act.new.gathered) (payloads_in c.gather_held.new.gathered)
    c.in_ok-answer_act.ensures.agrees h.applied h.own h.recorded h.applications h.numbers

pub returns-clause-blames : goal.returns-clause-blames
returns-clause-blames g c =
    IfErr-weaker c.gather_held.result _ _
    (λ (fault : TurnFault) (l : (fault ≡ faults.Memory) × (0 < length (ready_in c.answer_act.new.end))). blames_memory c.args.inbox.now c.answer_act.new.inbox fault l.0)
    c.gather_held.ensures.lacks
