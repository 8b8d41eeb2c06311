use Rattle.std.proofs.Common.{◌≡◌, ℕ, List, ◌++◌, drop, sym, ◌∙◌, ap, take-append-drop, rules}
use Rattle.jr_record.specs.Images.{header}
use Rattle.jr_log.proofs.scan.behind_header.Goals as goal

pub returns-in_ok-to_vec-in-Some-clause-ok : goal.returns-in_ok-to_vec-in-Some-clause-ok
returns-in_ok-to_vec-in-Some-clause-ok c =
    let cut = c.in-Some.ensures.cases in
    let same : c.in_ok-to_vec-in-Some.field-0.items ≡ c.in-Some.behind.now = search rules in
    let is : c.in-Some.front.now ≡ header = search rules in
    sym c.split_at.ensures.front ∙ sym (take-append-drop 16 c.split_at.result.0.now)
    ∙ ap (λ (xs : List ℕ). xs ++ drop 16 c.split_at.result.0.now) (sym cut.0 ∙ is) ∙ ap (λ (xs : List ℕ). header ++ xs) (sym cut.1 ∙ sym same)
