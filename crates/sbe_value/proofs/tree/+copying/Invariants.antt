use Rattle.std.proofs.Common.{◌≡◌, take}
use Rattle.sbe_value.proofs.tree.+copying.Given as goal

abbrev pub invariant-Blocks::copy-loop-block : goal.invariant-Blocks::copy-loop-block
invariant-Blocks::copy-loop-block l = l.inner.items ≡ take l.block-index l.block-items

abbrev pub invariant-Groups::copy-loop-group : goal.invariant-Groups::copy-loop-group
invariant-Groups::copy-loop-group l = l.inner.items ≡ take l.group-index l.group-items
