use Rattle.std.proofs.Common.{◌≡◌, drop}
use Rattle.text_names.specs.Called.{is_value}
use Rattle.text_names.proofs.called.is_value.Given as goal

abbrev pub invariant-loop-v : goal.invariant-loop-v
invariant-loop-v l = is_value (drop l.v-index l.values) l.number l.name ≡ is_value l.values l.number l.name
