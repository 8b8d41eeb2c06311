use Rattle.std.proofs.Common.{rules, ◌≤◌, ◌+◌, ◌∷◌, [], ◌^◌, sym, ap, ◌∙◌, arith}
use Rattle.session_model.specs.Inbox.{next_number}
use Rattle.session_model.specs.Views.{record_of}
use Rattle.session_model.proofs.Growing.{next_of_range}
use Rattle.session_model.proofs.grown.next_behind.Goals as goal

pub overflow_add-result-else-range-eq0 : goal.overflow_add-result-else-range-eq0
overflow_add-result-else-range-eq0 c =
    let some : 1 ≤ c.in-Skip.range.count = omega arith in
    let total = ap (λ r. next_number (record_of r ∷ [])) c.in-Skip.is ∙ next_of_range c.in-Skip.range some in
    let bound : c.in-Skip.range.first + c.in-Skip.range.count ≤ 2 ^ 65 = omega (arith, total, c.requires) in
    search rules

pub returns-else-range-eq0 : goal.returns-else-range-eq0
returns-else-range-eq0 c =
    let some : 1 ≤ c.in-Skip.range.count = omega arith in
    record { exact = sym (ap (λ r. next_number (record_of r ∷ [])) c.in-Skip.is ∙ next_of_range c.in-Skip.range some) }
