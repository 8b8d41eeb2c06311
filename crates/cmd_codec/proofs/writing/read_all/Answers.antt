use Rattle.std.proofs.Common.{◌≡◌, ◌≢◌, [], rules, arith}
use Rattle.std.proofs.lemmas.Grind.{common_steps}
use Rattle.cmd_codec.proofs.Reading.{all_read, empty_read, none-yet, one-more, refused}
use Rattle.cmd_codec.proofs.writing.read_all.Goals as goal

pub loop-left-init : goal.loop-left-init
loop-left-init c = none-yet c.args.plan.now c.args.text.now

pub loop-left-preserved-in-Ok-Some : goal.loop-left-preserved-in-Ok-Some
loop-left-preserved-in-Ok-Some c =
    one-more c.args.plan.now c.args.text.now c.loop-left.left.now c.in-Ok-Some.rest.now c.in-Ok-Some.field-0-0-0 c.loop-left.invariant (rw c.in-Ok-Some.field-0-is at c.in-Ok-Some.ensures.told)

pub returns-in-Ok-None : goal.returns-in-Ok-None
returns-in-Ok-None c = all_read c.args.plan.now c.args.text.now c.loop-left.left.now c.loop-left.invariant (rw c.in-Ok-None.field-0-is at c.in-Ok-None.ensures.told)

pub returns-in-Err : goal.returns-in-Err
returns-in-Err c =
    let some : c.loop-left.left.now ≢ [] = first_of (search rules, grind (arith, common_steps)) in
    refused (Unit {0}) c.args.plan.now c.args.text.now c.loop-left.left.now c.in-Err.refusal c.loop-left.invariant some c.in-Err.ensures.told

pub returns : goal.returns
returns c =
    let none : c.loop-left.left.now ≡ [] = first_of (search rules, grind (arith, common_steps)) in
    empty_read c.args.plan.now c.args.text.now c.loop-left.left.now c.loop-left.invariant none
