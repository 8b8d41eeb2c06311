use Rattle.std.proofs.Common.{◌≡◌, ◌+◌, ◌-◌, ◌≤◌, length, true, false, rules, arith, inl}
use Rattle.std.proofs.lemmas.Grind.{common_steps}
use Rattle.plan_lines.proofs.Ending.{told_end}
use Rattle.plan_lines.proofs.Taking.{text_small, text_takes}
use Rattle.plan_lines.proofs.place.Place.take_text.Goals as goal

pub returns-in-Ok-true-clause-takes : goal.returns-in-Ok-true-clause-takes
returns-in-Ok-true-clause-takes c =
    let fits : length c.args.line.now + 2 ≤ 67108864 - length c.args.self.now.text.items = first_of (omega arith, search rules, grind (arith, common_steps)) in
    let told = told_end c.args.plan.now c.as_slice.result.now c.add.new.self.text.items c.args.line.now c.in-Ok-true.field-0 true c.as_slice.ensures.value c.in-Ok-true.field-0-test c.in-Ok-true.ensures in
    text_takes c.args.plan.now c.args.line.now c.args.number c.args.self.now c.add.new.self c.take_message.new.self c.take_message.result told c.in-Ok.ensures.adds
    (text_small c.args.self.now c.add.new.self c.args.line.now c.in-Ok.ensures.adds fits) c.take_message.ensures.gives

pub returns-in-Ok-false-clause-takes : goal.returns-in-Ok-false-clause-takes
returns-in-Ok-false-clause-takes c =
    let fits : length c.args.line.now + 2 ≤ 67108864 - length c.args.self.now.text.items = first_of (omega arith, search rules, grind (arith, common_steps)) in
    let told = told_end c.args.plan.now c.as_slice.result.now c.add.new.self.text.items c.args.line.now c.in-Ok-false.field-0 false c.as_slice.ensures.value c.in-Ok-false.field-0-test c.in-Ok-false.ensures in
    inl (record { goes = told; adds = c.in-Ok.ensures.adds; small = text_small c.args.self.now c.add.new.self c.args.line.now c.in-Ok.ensures.adds fits })
