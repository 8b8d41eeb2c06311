use Rattle.std.proofs.Common.{◌≡◌, ◌∙◌, sym, rules}
use Rattle.sbe_value.specs.Equal.{groups_eq, blocks_eq}
use Rattle.sbe_value.specs.TreeLaws.{groups_exact, blocks_exact}
use Rattle.sbe_value.proofs.Rows.{groups_eq-lengths, blocks_eq-lengths}
use Rattle.sbe_value.proofs.tree.+comparing.Goals as goal

pub are_same_blocks-returns-then-a-b : goal.are_same_blocks-returns-then-a-b
are_same_blocks-returns-then-a-b t c = sym (blocks_eq-lengths _ _ c.if-a-b.true)

pub are_same_groups-returns-then-a-b : goal.are_same_groups-returns-then-a-b
are_same_groups-returns-then-a-b t c = sym (groups_eq-lengths _ _ c.if-a-b.true)

pub BlocksPartialEq::eq-returns-clause-exact : goal.BlocksPartialEq::eq-returns-clause-exact
BlocksPartialEq::eq-returns-clause-exact t c =
    let same = blocks_exact c.args.self.now c.args.other.now in
    let e : c.are_same_blocks.result ≡ blocks_eq c.args.self.now c.args.other.now = search rules in
    (λ t. same.0 (sym e ∙ t), λ p. e ∙ same.1 p)

pub GroupsPartialEq::eq-returns-clause-exact : goal.GroupsPartialEq::eq-returns-clause-exact
GroupsPartialEq::eq-returns-clause-exact t c =
    let same = groups_exact c.args.self.now c.args.other.now in
    let e : c.are_same_groups.result ≡ groups_eq c.args.self.now c.args.other.now = search rules in
    (λ t. same.0 (sym e ∙ t), λ p. e ∙ same.1 p)
