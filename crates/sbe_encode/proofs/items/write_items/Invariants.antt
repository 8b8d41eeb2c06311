use Rattle.std.proofs.Common.{◌≡◌, ◌≤◌, ◌-◌, ◌++◌, length, drop}
use Rattle.sbe_grammar.specs.Canonical.{block_bytes}
use Rattle.sbe_encode.specs.Faults.{items_fault}
use Rattle.sbe_encode.proofs.items.write_items.Given as goal

-- what is written, followed by the items that are left, is all; so is the first fault
abbrev pub invariant-loop-plan : goal.invariant-loop-plan
invariant-loop-plan l = record {
  within : l.block.start ≤ length l.out.items;
  written : l.out.items ++ block_bytes l.order l.block.size (length l.out.items - l.block.start) (drop l.plan-index l.plans) l.left ≡ l.fn.out.items ++ block_bytes l.order l.block.size (length l.fn.out.items - l.block.start) l.plans l.items;
  told : items_fault l.listings (drop l.plan-index l.plans) l.left ≡ items_fault l.listings l.plans l.items;
}
