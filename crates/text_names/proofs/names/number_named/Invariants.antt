use Rattle.std.proofs.Common.{◌≡◌, drop}
use Rattle.text_names.specs.Values.{number_named}
use Rattle.text_names.proofs.names.number_named.Given as goal

abbrev pub invariant-loop-v : goal.invariant-loop-v
invariant-loop-v l = number_named (drop l.v-index l.values) l.name ≡ number_named l.values l.name
