use Rattle.std.proofs.Common.{length}
use Rattle.text_words.specs.Lines.{lines_in}
use Rattle.cmd_codec.specs.Encoding.{HasMade}
use Rattle.cmd_codec.proofs.writing.make_front.Given as goal

abbrev pub invariant-loop-frames : goal.invariant-loop-frames
invariant-loop-frames l = HasMade l.plan l.text l.left l.number l.frames.items

abbrev pub decreases-loop-frames : goal.decreases-loop-frames
decreases-loop-frames l = length (lines_in l.left)
