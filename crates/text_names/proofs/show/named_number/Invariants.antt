use Rattle.std.proofs.Common.{◌≡◌, drop}
use Rattle.text_names.specs.Named.{named_number}
use Rattle.text_names.proofs.show.named_number.Given as goal

abbrev pub invariant-loop-v : goal.invariant-loop-v
invariant-loop-v l = named_number (drop l.v-index l.values) l.text ≡ named_number l.values l.text
