use Rattle.std.proofs.Common.{◌≡◌, ◌++◌, drop}
use Rattle.sbe_layout.specs.Parts.{parts_of_types}
use Rattle.sbe_layout.proofs.resolve.parts_of_types.Given as goal

-- what is made, followed by what is left, is all
abbrev pub invariant-loop-t : goal.invariant-loop-t
invariant-loop-t l = l.lists.items ++ parts_of_types l.index.schema.now.types (drop l.t-index l.t-items) ≡ parts_of_types l.index.schema.now.types l.t-items
