use Rattle.std.proofs.Common.{◌≡◌, inl, ℕ, List, [], ◌∷◌, ◌++◌, sym, ◌∙◌, ap, arith, append-nil}
use Rattle.text_dates.specs.Dates.{digits}
use Rattle.jr_shown.proofs.Times.{nothing, same_digits, something}
use Rattle.jr_shown.proofs.words.seconds_behind.Goals as goal

pub returns-in_default-clause-none : goal.returns-in_default-clause-none
returns-in_default-clause-none c = λ seconds less e. c.in_default.ensures.none seconds [] less (e ∙ ap (λ (l : List ℕ). 58 ∷ l) (sym (append-nil (digits 2 seconds))))

pub returns-then-is_empty-2-clause-found : goal.returns-then-is_empty-2-clause-found
returns-then-is_empty-2-clause-found c =
    let digits_are = digits 2 c.in-Some.seconds in
    inl (c.in-Some.ensures.found.1 ∙ ap (λ (l : List ℕ). 58 ∷ (digits_are ++ l)) (nothing c.in-Some.rest.now c.if-is_empty-2.ensures) ∙ ap (λ (l : List ℕ). 58 ∷ l) (append-nil digits_are))

pub returns-else-is_empty-2-clause-none : goal.returns-else-is_empty-2-clause-none
returns-else-is_empty-2-clause-none c = λ seconds less e.
    let read = c.in-Some.seconds in
    let rest = c.in-Some.rest.now in
    let both : 58 ∷ (digits 2 read ++ rest) ≡ 58 ∷ (digits 2 seconds ++ []) = sym c.in-Some.ensures.found.1 ∙ e ∙ ap (λ (l : List ℕ). 58 ∷ l) (sym (append-nil (digits 2 seconds))) in
    let inner : digits 2 read ++ rest ≡ digits 2 seconds ++ [] = cc (both) in
    let same = same_digits read seconds rest [] (omega (arith, c.in-Some.ensures.found.0)) (omega (arith, less)) inner in
    something rest c.if-is_empty-2.ensures same.1

pub returns-else-is_empty-2-clause-some : goal.returns-else-is_empty-2-clause-some
returns-else-is_empty-2-clause-some c = λ e.
    let both : 58 ∷ (digits 2 c.in-Some.seconds ++ c.in-Some.rest.now) ≡ [] = sym c.in-Some.ensures.found.1 ∙ e in cc (both)
