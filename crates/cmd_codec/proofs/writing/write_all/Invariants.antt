use Rattle.std.proofs.Common.{◌≤◌, length}
use Rattle.text_words.specs.Lines.{lines_in}
use Rattle.cmd_codec.specs.Encoding.{HasWritten}
use Rattle.cmd_codec.proofs.writing.write_all.Given as goal

abbrev pub invariant-loop-left : goal.invariant-loop-left
invariant-loop-left g l = record {
  written : HasWritten l.plan l.text l.left l.number (g.K.Sink.taken l.fn.wire) (g.K.Sink.taken l.wire) l.frames.items;
  counted : g.K.Sink.faults l.fn.wire ≤ g.K.Sink.faults l.wire;
}

abbrev pub decreases-loop-left : goal.decreases-loop-left
decreases-loop-left g l = length (lines_in l.left)
