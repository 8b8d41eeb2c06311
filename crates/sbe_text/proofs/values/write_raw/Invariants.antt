use Rattle.std.proofs.Common.{◌≡◌, ◌++◌, drop}
use Rattle.hex.specs.Hex.{encode_lower}
use Rattle.sbe_text.proofs.values.write_raw.Given as goal

-- what is written, followed by the digits of the bytes that are left, is all
abbrev pub invariant-loop-byte : goal.invariant-loop-byte
invariant-loop-byte l = l.lines.items ++ encode_lower (drop l.byte-index l.bytes) ≡ l.initial.lines.items ++ encode_lower l.bytes
