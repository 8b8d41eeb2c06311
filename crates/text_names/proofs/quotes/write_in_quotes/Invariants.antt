use Rattle.std.proofs.Common.{◌≡◌, ◌++◌, drop}
use Rattle.text_names.specs.Quotes.{escaped}
use Rattle.text_names.proofs.quotes.write_in_quotes.Given as goal

abbrev pub invariant-loop-byte : goal.invariant-loop-byte
invariant-loop-byte l = l.lines.items ++ escaped (drop l.byte-index l.bytes) ≡ l.initial.lines.items ++ escaped l.bytes
