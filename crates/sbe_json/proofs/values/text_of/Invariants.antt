use Rattle.std.proofs.Common.{◌≡◌, ◌++◌, drop, string_bytes}
use Rattle.sbe_json.specs.Fields.{text_of}
use Rattle.sbe_json.proofs.values.text_of.Given as goal

-- what is written, followed by the characters that are left, is all
abbrev pub invariant-loop-byte : goal.invariant-loop-byte
invariant-loop-byte l = string_bytes l.text ++ text_of (drop l.byte-index l.bytes) ≡ text_of l.bytes
