use Rattle.std.proofs.Common.{◌≡◌, drop}
use Rattle.sbe_text.specs.Held.{is_word}
use Rattle.sbe_from_text.proofs.numbers.is_word.Given as goal

abbrev pub invariant-loop-byte : goal.invariant-loop-byte
invariant-loop-byte l = is_word (drop l.byte-index l.bytes) ≡ is_word l.bytes
