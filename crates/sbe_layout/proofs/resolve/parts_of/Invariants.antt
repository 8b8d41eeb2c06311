use Rattle.std.proofs.Common.{◌≡◌, ◌++◌, drop}
use Rattle.sbe_layout.specs.Parts.{parts_of}
use Rattle.sbe_layout.proofs.resolve.parts_of.Given as goal

-- what is made, followed by what is left, is all
abbrev pub invariant-loop-m : goal.invariant-loop-m
invariant-loop-m l = l.parts.items ++ parts_of l.index.schema.now.types l.end (drop l.m-index l.members) ≡ parts_of l.index.schema.now.types 0 l.members
