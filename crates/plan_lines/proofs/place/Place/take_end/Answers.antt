use Rattle.std.proofs.Common.{◌≡◌, [], rules, arith}
use Rattle.std.proofs.lemmas.Grind.{common_steps}
use Rattle.plan_lines.proofs.Taking.{end_none, end_halts}
use Rattle.plan_lines.proofs.place.Place.take_end.Goals as goal

pub returns-then-is_empty-clause-ends : goal.returns-then-is_empty-clause-ends
returns-then-is_empty-clause-ends c =
    let empty : c.args.self.now.text.items ≡ [] = first_of (search rules, grind (arith, common_steps)) in
    end_none c.args.plan.now c.args.self.now empty

pub returns-clause-halts : goal.returns-clause-halts
returns-clause-halts c =
    let some : c.args.self.now.text.items ≡ [] → ⊥ = first_of (search rules, grind (arith, common_steps)) in
    end_halts c.args.plan.now c.args.self.now c.refuse.result c.line_of.result some c.line_of.ensures c.refuse.ensures
