use Rattle.std.proofs.Common.{[], ◌∷◌, ◌++◌, ap, ◌∙◌}
use Rattle.flow_idem.specs.Runs.{Growing}
use Rattle.flow_idem.proofs.Told.{numbers_more}
use Rattle.flow_idem.proofs.runs.Runs.go_on.Goals as goal

pub returns-clause-numbers : goal.returns-clause-numbers
returns-clause-numbers c =
    let w = c.self.inside in
    numbers_more w.whole.items w.first w.end c.self.invariant.0
    ∙ ap (λ (g : Growing). g.numbers ++ g.end ∷ []) c.self.view_is
