use Rattle.std.proofs.Common.{◌≡◌, ℕ, pos, drop}
use Rattle.std.specs.List.{list_all}
use Rattle.sbe_prim.specs.Primitives.{lies_within}
use Rattle.sbe_encode.proofs.range.all_within.Given as goal

-- the bytes so far lie within
abbrev pub invariant-loop-byte : goal.invariant-loop-byte
invariant-loop-byte l =
    list_all (λ (byte : ℕ). lies_within l.least l.greatest (pos byte)) (drop l.byte-index l.text) ≡ list_all (λ (byte : ℕ). lies_within l.least l.greatest (pos byte)) l.text
