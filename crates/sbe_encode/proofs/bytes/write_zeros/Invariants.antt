use Rattle.std.proofs.Common.{◌≡◌, ◌++◌}
use Rattle.sbe_grammar.specs.Canonical.{zeros}
use Rattle.sbe_encode.proofs.bytes.write_zeros.Given as goal

-- what is written, and the zeros that are left, is all
abbrev pub invariant-loop-left : goal.invariant-loop-left
invariant-loop-left l = l.out.items ++ zeros l.left ≡ l.fn.out.items ++ zeros l.count

abbrev pub decreases-loop-left : goal.decreases-loop-left
decreases-loop-left l = l.left
