use Rattle.std.proofs.Common.{◌≡◌, ◌++◌, drop}
use Rattle.sbe_text.specs.Named.{bit_names}
use Rattle.text_names.proofs.called.write_bit_names.Given as goal

-- what is written, followed by the names that are left, is all
abbrev pub invariant-loop-b : goal.invariant-loop-b
invariant-loop-b l = l.room.items ++ bit_names l.number (drop l.b-index l.bits) ≡ l.initial.room.items ++ bit_names l.number l.bits
