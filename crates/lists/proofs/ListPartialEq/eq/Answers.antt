use Rattle.std.proofs.Common.{◌≡◌, ◌∙◌, sym, rules}
use Rattle.std.specs.Cmp.Lexicographic.{pointwise, pointwise_decides}
use Rattle.lists.proofs.ListPartialEq.eq.Goals as goal

pub returns-clause-exact : goal.returns-clause-exact
returns-clause-exact g c =
    let same = pointwise_decides g.met.T.Element.exact c.args.self.now c.args.other.now in
    let e : c.eq.result ≡ pointwise g.T.PartialEq.eq c.args.self.now c.args.other.now = search rules in
    (λ t. same.0 (sym e ∙ t), λ p. e ∙ same.1 p)
