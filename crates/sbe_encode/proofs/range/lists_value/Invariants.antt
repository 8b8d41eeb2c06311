use Rattle.std.proofs.Common.{◌≡◌, drop}
use Rattle.std.specs.List.{list_any}
use Rattle.std.specs.Ordering.{int_eq}
use Rattle.schema_types.specs.declared.types.ValueDef.{ValueDef}
use Rattle.sbe_encode.proofs.range.lists_value.Given as goal

-- none so far is the value
abbrev pub invariant-loop-v : goal.invariant-loop-v
invariant-loop-v l =
    list_any (λ (v : ValueDef). int_eq v.value l.value) (drop l.v-index l.values) ≡ list_any (λ (v : ValueDef). int_eq v.value l.value) l.values
