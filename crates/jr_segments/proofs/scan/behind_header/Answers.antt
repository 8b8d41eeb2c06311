use Rattle.std.proofs.Common.{◌≡◌, ℕ, List, ◌++◌, drop, sym, ◌∙◌, ap, take-append-drop, rules}
use Rattle.jr_dated.specs.Formats.{header_of}
use Rattle.jr_segments.proofs.Scans.{too_short, another}
use Rattle.jr_segments.proofs.scan.behind_header.Goals as goal

pub returns-in_default-clause-err : goal.returns-in_default-clause-err
returns-in_default-clause-err c = rw (sym c.split_at.ensures.front) (too_short c.args.format c.split_at.result.0.now (search rules))

pub returns-else-eq-clause-err : goal.returns-else-eq-clause-err
returns-else-eq-clause-err c =
    let cut = c.in-Some.ensures.cases in
    rw (sym c.split_at.ensures.front) (another c.args.format c.split_at.result.0.now c.in-Some.front.now c.header-header.result cut.0 (search rules) c.header-header.ensures.value)

pub returns-in_ok-to_vec-clause-ok : goal.returns-in_ok-to_vec-clause-ok
returns-in_ok-to_vec-clause-ok c =
    let cut = c.in-Some.ensures.cases in
    let same : c.in_ok-to_vec.field-0.items ≡ c.in-Some.behind.now = search rules in
    let is : c.in-Some.front.now ≡ c.header-header.result = search rules in
    sym c.split_at.ensures.front ∙ sym (take-append-drop 16 c.split_at.result.0.now)
    ∙ ap (λ (xs : List ℕ). xs ++ drop 16 c.split_at.result.0.now) (sym cut.0 ∙ is ∙ c.header-header.ensures.value) ∙ ap (λ (xs : List ℕ). header_of c.args.format ++ xs) (sym cut.1 ∙ sym same)
