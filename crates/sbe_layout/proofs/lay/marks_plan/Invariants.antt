use Rattle.std.proofs.Common.{◌≡◌, ◌++◌, drop}
use Rattle.sbe_layout.specs.Plans.{marks_of}
use Rattle.sbe_layout.proofs.lay.marks_plan.Given as goal

-- what is made, followed by what is left, is all
abbrev pub invariant-loop-f : goal.invariant-loop-f
invariant-loop-f l = l.marks.items ++ marks_of l.types.index.schema.now.types l.end (drop l.f-index l.fields) ≡ marks_of l.types.index.schema.now.types 0 l.fields
