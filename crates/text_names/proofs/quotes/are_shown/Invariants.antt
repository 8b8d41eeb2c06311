use Rattle.std.proofs.Common.{◌≡◌, drop}
use Rattle.text_names.specs.Quotes.{are_shown}
use Rattle.text_names.proofs.quotes.are_shown.Given as goal

abbrev pub invariant-loop-byte : goal.invariant-loop-byte
invariant-loop-byte l = are_shown (drop l.byte-index l.text) ≡ are_shown l.text
