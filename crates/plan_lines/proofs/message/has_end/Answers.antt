use Rattle.std.proofs.Common.{◌≡◌, codes, rules, arith}
use Rattle.std.proofs.lemmas.Grind.{common_steps}
use Rattle.plan_lines.proofs.Ending.{ends_strict}
use Rattle.plan_lines.proofs.message.has_end.Goals as goal

pub returns-then-eq : goal.returns-then-eq
returns-then-eq c =
    let word : c.args.line.now ≡ codes "end" = first_of (search rules, grind (arith, common_steps)) in
    ends_strict c.args.plan.now c.args.text.now c.args.line.now word
