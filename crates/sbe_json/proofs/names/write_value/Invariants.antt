use Rattle.std.proofs.Common.{◌≡◌, drop}
use Rattle.sbe_json.specs.Fields.{value_token}
use Rattle.sbe_json.proofs.names.write_value.Given as goal

-- none of the values that were looked at has the number
abbrev pub invariant-loop-v : goal.invariant-loop-v
invariant-loop-v l = record {
  same : l.writer ≡ l.initial.writer;
  token : value_token l.prim l.number (drop l.v-index l.values) ≡ value_token l.prim l.number l.values;
}
