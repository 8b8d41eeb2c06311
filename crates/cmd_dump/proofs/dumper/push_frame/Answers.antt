use Rattle.std.proofs.Common.{ap}
use Rattle.cmd_dump.specs.Frames.{head_line}
use Rattle.cmd_dump.proofs.Going.{printed-lines}
use Rattle.cmd_dump.proofs.dumper.push_frame.Goals as goal

pub returns : goal.returns
returns c = record {
  lines = λ announced counted.
      printed-lines _ _ _ _ _ _ c.in_ok-push_head.ensures (ap (head_line c.args.head.number c.args.head.place c.args.head.size) (c.see-implied.ensures.number announced counted)) c.in_ok-push_held.ensures;
  counted = λ announced counted. c.see-implied.ensures.after announced counted;
}
