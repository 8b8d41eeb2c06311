use Rattle.std.proofs.Common.{◌≡◌, ◌+◌, ◌-◌, ◌*◌, ◌≤◌}
use Rattle.jr_kept.specs.Inbox.{faults_of}
use Rattle.conn_turns.specs.News.{items_of}
use Rattle.conn_steps.specs.Settling.{SameKind}
use Rattle.conn_steps.specs.Agreeing.{IsInTurn, AgreesBut, KeepsOwn}
use Rattle.conn_steps.specs.Taking.{GatheredFrames}
use Rattle.conn_loop.specs.Conn.{line_of, gathered_by, most_in_turn}
use Rattle.conn_steps.specs.Ends.{intake, gathering_end, taking_end}
use Rattle.conn_loop.proofs.conn.Conn.gather_frames.Given as goal

abbrev pub invariant-loop-taken : goal.invariant-loop-taken
invariant-loop-taken g l = record {
  gathered : GatheredFrames l.now l.taken (taking_end (line_of l.initial.self) l.initial.inbox (items_of l.initial.news)) (gathering_end (line_of l.self) (intake l.inbox (items_of l.news) (gathered_by l.self)));
  in_turn : IsInTurn (line_of l.self).machine l.now ((line_of l.initial.self).per_turn - l.taken) (most_in_turn (line_of l.initial.self));
  number : (line_of l.self).per_turn ≡ (line_of l.initial.self).per_turn;
  waits : (line_of l.self).waits ≡ (line_of l.initial.self).waits;
  place : (line_of l.self).place ≤ (line_of l.initial.self).place + l.taken * 16390;
  agrees : AgreesBut (gathered_by l.self) (line_of l.self).machine l.inbox;
  own : KeepsOwn (line_of l.initial.self).machine (line_of l.self).machine;
  kind : SameKind l.initial.inbox l.inbox;
  never_falls : faults_of l.initial.inbox ≤ faults_of l.inbox;
}
