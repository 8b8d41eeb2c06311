use Rattle.std.proofs.Common.{◌≡◌, ◌++◌, ◌∷◌, [], ◌+◌, ◌*◌, drop}
use Rattle.json.specs.Token as token
use Rattle.sbe_value.specs.Views.{groups_of, blocks_of}
use Rattle.sbe_layout.specs.Trees.{weight_of}
use Rattle.sbe_layout.specs.Views.{head_of, plans_of}
use Rattle.sbe_json.specs.Fields.{group_tokens, entry_tokens, text_of}
use Rattle.sbe_json.proofs.fields.+blocks.Given as goal

abbrev pub decreases-write_groups : goal.decreases-write_groups
decreases-write_groups l = 3 * weight_of (plans_of l.plans.now)

abbrev pub decreases-write_entries : goal.decreases-write_entries
decreases-write_entries l = 3 * weight_of l.g.now.block.groups + 2

abbrev pub decreases-write_block : goal.decreases-write_block
decreases-write_block l = 3 * weight_of l.plan.now.groups + 1

-- what is written, followed by the members of the groups that are left, is all
abbrev pub invariant-write_groups-loop-g : goal.invariant-write_groups-loop-g
invariant-write_groups-loop-g l = record {
  before : l.writer.before ≡ l.initial.writer.before;
  tokens : l.writer.tokens ++ group_tokens l.listings (groups_of l.left) (plans_of (drop l.g-index l.plans)) ≡ l.initial.writer.tokens ++ group_tokens l.listings (groups_of l.groups) (plans_of l.plans);
}

-- what is written, followed by the objects of the entries that are left, is all
abbrev pub invariant-write_entries-loop-block : goal.invariant-write_entries-loop-block
invariant-write_entries-loop-block l = record {
  before : l.writer.before ≡ l.initial.writer.before;
  tokens : l.writer.tokens ++ entry_tokens l.listings (blocks_of (drop l.block-index l.block-items)) (head_of l.g) l.g.block.groups
      ≡ l.initial.writer.tokens ++ entry_tokens l.listings (blocks_of l.block-items) (head_of l.g) l.g.block.groups;
}
