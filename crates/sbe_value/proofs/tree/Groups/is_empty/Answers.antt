use Rattle.std.proofs.Common.{◌≡◌, ◌∙◌, sym, length, true, arith}
use Rattle.std.proofs.lemmas.Bool.Decides.{nat_tests}
use Rattle.sbe_value.proofs.Rows.{no_groups-empty, groups_empty}
use Rattle.sbe_value.proofs.tree.Groups.is_empty.Goals as goal

pub returns : goal.returns
returns c =
    let items = c.self.inside.inner.items in
    let none : c.is_empty.result ≡ true → length items ≡ 0 = λ t. grind (arith, nat_tests) in
    let true_of : length items ≡ 0 → c.is_empty.result ≡ true = λ z. grind (arith, nat_tests) in
    (λ t. sym c.self.view_is ∙ groups_empty items (none t), λ e. true_of (no_groups-empty items (c.self.view_is ∙ e)))
