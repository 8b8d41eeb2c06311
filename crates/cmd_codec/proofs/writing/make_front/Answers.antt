use Rattle.std.proofs.Common.{◌≢◌, [], None, length, rules, arith}
use Rattle.std.proofs.lemmas.Grind.{common_steps}
use Rattle.text_words.specs.Lines.{lines_in}
use Rattle.text_words.proofs.Feeds.{lines_within}
use Rattle.cmd_codec.proofs.Steps.{made-more, made-none, written-none}
use Rattle.cmd_codec.proofs.writing.make_front.Goals as goal

pub loop-frames-init : goal.loop-frames-init
loop-frames-init c = λ now. rw c.requires.empty (written-none c.args.plan.now c.args.text.now now)

pub overflow_add-number : goal.overflow_add-number
overflow_add-number c = omega (arith, (c.loop-frames.invariant None).counted, lines_within c.args.text.now, c.requires.short)

pub loop-frames-preserved : goal.loop-frames-preserved
loop-frames-preserved c =
    made-more c.args.plan.now c.args.text.now c.loop-frames.left.now c.in-Ok-Some.rest.now c.loop-frames.number c.loop-frames.frames.items c.write_message.new.frames.items c.loop-frames.invariant (rw c.in-Ok-Some.field-0-is at c.in-Ok-Some.ensures)

pub returns-in-Err-Line : goal.returns-in-Err-Line
returns-in-Err-Line c =
    let some : c.loop-frames.left.now ≢ [] = first_of (search rules, grind (arith, common_steps)) in
    rw c.in-Err-Line.field-0-is (
    made-none c.args.plan.now c.args.text.now c.loop-frames.left.now c.loop-frames.number c.loop-frames.frames.items (length (lines_in c.in-Err-Line.at.now)) c.loop-frames.invariant some (rw c.in-Err-Line.field-0-is at c.in-Err-Line.ensures))
