use Rattle.std.proofs.Common.{length}
use Rattle.text_words.specs.Lines.{lines_in}
use Rattle.cmd_codec.specs.Encoding.{HasRead}
use Rattle.cmd_codec.proofs.writing.read_all.Given as goal

abbrev pub invariant-loop-left : goal.invariant-loop-left
invariant-loop-left l = HasRead l.plan l.text l.left

abbrev pub decreases-loop-left : goal.decreases-loop-left
decreases-loop-left l = length (lines_in l.left)
