use Rattle.std.proofs.Common.{◌≡◌, drop}
use Rattle.sbe_text.specs.Tokens.{are_digits}
use Rattle.sbe_text.proofs.token.are_digits.Given as goal

abbrev pub invariant-loop-byte : goal.invariant-loop-byte
invariant-loop-byte l = are_digits (drop l.byte-index l.text) ≡ are_digits l.text
