use Rattle.std.proofs.Common.{◌≡◌, [], rules, arith}
use Rattle.std.proofs.lemmas.Grind.{common_steps}
use Rattle.text_words.proofs.Feeds.{lines_within}
use Rattle.cmd_codec.specs.Encoding.{WroteAll}
use Rattle.cmd_codec.proofs.Steps.{written-more, front-kept, front-one, last_pushed, last_written, stopped-at, stopped-part}
use Rattle.cmd_codec.proofs.writing.write_all.Goals as goal

pub loop-left-init : goal.loop-left-init
loop-left-init g c = record { written = c.requires.made.front (g.K.Sink.taken c.args.wire.now); counted = omega arith }

pub returns-in_default-clause-writes : goal.returns-in_default-clause-writes
returns-in_default-clause-writes g c =
    front-one c.args.plan.now c.args.text.now c.loop-left.left.now c.in-Ok-Some.rest.now c.loop-left.number (g.K.Sink.taken c.args.wire.now) (g.K.Sink.taken c.loop-left.wire) (g.K.Sink.taken c.push_full.new.wire)
    c.loop-left.frames.items c.write_message.new.frames.items c.loop-left.invariant.written c.requires.made.spelled (rw c.in-Ok-Some.field-0-is at c.in-Ok-Some.ensures) c.in_default.ensures.err

pub overflow_add-number : goal.overflow_add-number
overflow_add-number g c = omega (arith, c.loop-left.invariant.written.counted, lines_within c.args.text.now, c.requires.short)

pub loop-left-preserved : goal.loop-left-preserved
loop-left-preserved g c = record {
  written =
      written-more c.args.plan.now c.args.text.now c.loop-left.left.now c.in-Ok-Some.rest.now c.loop-left.number (g.K.Sink.taken c.args.wire.now) (g.K.Sink.taken c.loop-left.wire) (g.K.Sink.taken c.push_full.new.wire)
      c.loop-left.frames.items c.write_message.new.frames.items c.push_full.new.frames.items c.loop-left.invariant.written (rw c.in-Ok-Some.field-0-is at c.in-Ok-Some.ensures) c.in-Ok.ensures.ok;
  counted = omega (arith, c.loop-left.invariant.counted, c.push_full.ensures.cause.never_falls);
}

pub returns-in_default-push_all-clause-writes : goal.returns-in_default-push_all-clause-writes
returns-in_default-push_all-clause-writes g c =
    stopped-part c.args.plan.now c.args.text.now c.loop-left.left.now c.loop-left.number (g.K.Sink.taken c.args.wire.now) (g.K.Sink.taken c.loop-left.wire) (g.K.Sink.taken c.push_all.new.sink)
    c.loop-left.frames.items c.write_message.new.frames.items c.in-Err-Fault.fault c.loop-left.invariant.written c.requires.made.spelled
    (rw c.in-Err-Fault.field-0-is at c.in-Err-Fault.ensures) (rw c.as_slice-in-Err-Fault.ensures.value at c.in_default-push_all.ensures.err)

pub returns-in-Err-Fault-clause-writes : goal.returns-in-Err-Fault-clause-writes
returns-in-Err-Fault-clause-writes g c =
    rw c.in-Err-Fault.field-0-is (
    stopped-at c.args.plan.now c.args.text.now c.loop-left.left.now c.loop-left.number (g.K.Sink.taken c.args.wire.now) (g.K.Sink.taken c.loop-left.wire) (g.K.Sink.taken c.push_all.new.sink)
    c.loop-left.frames.items c.write_message.new.frames.items c.in-Err-Fault.fault c.loop-left.invariant.written c.requires.made.spelled
    (rw c.in-Err-Fault.field-0-is at c.in-Err-Fault.ensures) (rw c.as_slice-in-Err-Fault.ensures.value at c.in-Ok-push_all.ensures.ok))

pub returns-in-Err-Line-clause-writes : goal.returns-in-Err-Line-clause-writes
returns-in-Err-Line-clause-writes g c =
    front-kept c.args.plan.now c.args.text.now c.loop-left.left.now c.loop-left.number (g.K.Sink.taken c.args.wire.now) (g.K.Sink.taken c.loop-left.wire)
    c.loop-left.frames.items c.loop-left.invariant.written c.requires.made.spelled

pub returns-in-Ok-None-clause-writes : goal.returns-in-Ok-None-clause-writes
returns-in-Ok-None-clause-writes g c =
    let done : WroteAll c.args.plan.now c.loop-left.left.now c.loop-left.frames.items c.write_message.new.frames.items = rw c.in-Ok-None.field-0-is at c.in-Ok-None.ensures in
    last_written c.args.plan.now c.args.text.now c.loop-left.left.now c.loop-left.number (g.K.Sink.taken c.args.wire.now) (g.K.Sink.taken c.loop-left.wire) (g.K.Sink.taken c.push_last.new.wire)
    c.loop-left.frames.items c.push_last.result c.loop-left.invariant.written done.empty c.requires.made.spelled (rw (c.as_slice.ensures.value, done.kept) at c.push_last.ensures.pushes)

pub returns-clause-writes : goal.returns-clause-writes
returns-clause-writes g c =
    let none : c.loop-left.left.now ≡ [] = first_of (search rules, grind (arith, common_steps)) in
    last_pushed c.args.plan.now c.args.text.now c.loop-left.left.now c.loop-left.number (g.K.Sink.taken c.args.wire.now) (g.K.Sink.taken c.loop-left.wire) (g.K.Sink.taken c.push_last-2.new.wire)
    c.loop-left.frames.items c.push_last-2.result c.loop-left.invariant.written none c.requires.made.spelled (rw c.as_slice-2.ensures.value at c.push_last-2.ensures.pushes)
