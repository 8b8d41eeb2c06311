use Rattle.std.proofs.Common.{◌≡◌, drop}
use Rattle.sbe_schema.specs.Meanings.{type_named}
use Rattle.sbe_skew.proofs.same_types.find_type.Given as goal

-- the first of the name is among those that are left
abbrev pub invariant-loop-t : goal.invariant-loop-t
invariant-loop-t l = type_named l.name (drop l.t-index l.types) ≡ type_named l.name l.types
