use Rattle.std.proofs.Common.{◌≡◌, ℕ, List, ◌∷◌, ◌++◌, sym, ◌∙◌, ap}
use Rattle.text_dates.specs.Dates.{digits}
use Rattle.jr_shown.proofs.words.behind_colon.Goals as goal

pub returns-in_default-clause-none : goal.returns-in_default-clause-none
returns-in_default-clause-none c = λ n rest less e. c.in_default.ensures.none (digits 2 n ++ rest) e

pub returns-in_default-two_digits-clause-none : goal.returns-in_default-two_digits-clause-none
returns-in_default-two_digits-clause-none c = λ n rest less e.
    let both : 58 ∷ c.in-Some.rest.now ≡ 58 ∷ (digits 2 n ++ rest) = sym c.in-Some.ensures.found ∙ e in
    let same : c.in-Some.rest.now ≡ digits 2 n ++ rest = cc (both) in
    c.in_default-two_digits.ensures.none n rest less same

pub returns-clause-found : goal.returns-clause-found
returns-clause-found c =
    (c.in-Some-two_digits.ensures.found.0, c.in-Some.ensures.found ∙ ap (λ (l : List ℕ). 58 ∷ l) c.in-Some-two_digits.ensures.found.1)
