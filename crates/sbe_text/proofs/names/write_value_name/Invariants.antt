use Rattle.std.proofs.Common.{◌≡◌, ◌++◌, drop}
use Rattle.sbe_text.specs.Named.{value_name}
use Rattle.sbe_text.proofs.names.write_value_name.Given as goal

-- none so far has the number
abbrev pub invariant-loop-v : goal.invariant-loop-v
invariant-loop-v l = l.lines.items ++ value_name l.number (drop l.v-index l.values) ≡ l.initial.lines.items ++ value_name l.number l.values
