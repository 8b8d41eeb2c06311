use Rattle.std.proofs.Common.{◌≡◌, ◌++◌, drop}
use Rattle.sbe_json.specs.Fields.{bit_tokens}
use Rattle.sbe_json.proofs.names.write_bits.Given as goal

-- what is written, followed by the names that are left, is all
abbrev pub invariant-loop-b : goal.invariant-loop-b
invariant-loop-b l = record {
  before : l.writer.before ≡ l.initial.writer.before;
  tokens : l.writer.tokens ++ bit_tokens l.number (drop l.b-index l.bits) ≡ l.initial.writer.tokens ++ bit_tokens l.number l.bits;
}
