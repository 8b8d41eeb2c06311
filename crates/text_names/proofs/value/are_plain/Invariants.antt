use Rattle.std.proofs.Common.{◌≡◌, drop}
use Rattle.sbe_text.specs.Written.{are_plain}
use Rattle.text_names.proofs.value.are_plain.Given as goal

abbrev pub invariant-loop-byte : goal.invariant-loop-byte
invariant-loop-byte l = are_plain (drop l.byte-index l.text) ≡ are_plain l.text
