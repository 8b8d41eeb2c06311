use Rattle.std.proofs.Common.{◌≡◌, ◌++◌, drop}
use Rattle.sbe_layout.specs.Parts.{items_of_parts}
use Rattle.sbe_layout.proofs.lay.add_parts.Given as goal

-- what is made, followed by what is left, is all
abbrev pub invariant-loop-part : goal.invariant-loop-part
invariant-loop-part l = l.items.items ++ items_of_parts l.f.name l.f.since l.start (drop l.part-index l.parts) ≡ l.fn.items.items ++ items_of_parts l.f.name l.f.since l.start l.parts
