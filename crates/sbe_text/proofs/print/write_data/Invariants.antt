use Rattle.std.proofs.Common.{◌≡◌, ◌++◌, drop}
use Rattle.sbe_text.specs.Written.{lines_of_data}
use Rattle.sbe_text.proofs.print.write_data.Given as goal

-- what is written, followed by the lines that are left, is all
abbrev pub invariant-loop-plan : goal.invariant-loop-plan
invariant-loop-plan l = l.lines.items ++ lines_of_data l.before l.left (drop l.plan-index l.plans) ≡ l.initial.lines.items ++ lines_of_data l.before l.vars l.plans
