use Rattle.std.proofs.Common.{◌≡◌, inl, inr, ◌/◌, ◌%◌, ◌∷◌, ◌++◌, refl, sym, ◌∙◌, arith}
use Rattle.text_dates.specs.Dates.{digits}
use Rattle.jr_shown.proofs.Times.{parts, same_digits, says_time}
use Rattle.jr_shown.proofs.words.time_of.Goals as goal

pub returns-in_default-clause-none : goal.returns-in_default-clause-none
returns-in_default-clause-none c = λ seconds says. let p = parts c.args.word.now seconds says in c.in_default.ensures.none (seconds / 3600) p.behind_hours p.early p.hours

pub returns-in_default-behind_colon-clause-none : goal.returns-in_default-behind_colon-clause-none
returns-in_default-behind_colon-clause-none c = λ seconds says.
    let p = parts c.args.word.now seconds says in
    let same = same_digits c.in-Some.hours (seconds / 3600) c.in-Some.rest.now p.behind_hours (omega (arith, c.in-Some.ensures.found.0)) (omega (arith, p.early)) (sym c.in-Some.ensures.found.1 ∙ p.hours) in
    c.in_default-behind_colon.ensures.none (seconds / 60 % 60) p.behind_minutes p.few (same.1 ∙ p.minutes)

pub returns-in_default-seconds_behind-clause-none : goal.returns-in_default-seconds_behind-clause-none
returns-in_default-seconds_behind-clause-none c = λ seconds says.
    let p = parts c.args.word.now seconds says in
    let minutes = c.in-Some-behind_colon.minutes in
    let three = c.in-Some-behind_colon.rest.now in
    let same = same_digits c.in-Some.hours (seconds / 3600) c.in-Some.rest.now p.behind_hours (omega (arith, c.in-Some.ensures.found.0)) (omega (arith, p.early)) (sym c.in-Some.ensures.found.1 ∙ p.hours) in
    let both : 58 ∷ (digits 2 minutes ++ three) ≡ 58 ∷ (digits 2 (seconds / 60 % 60) ++ p.behind_minutes) = sym c.in-Some-behind_colon.ensures.found.1 ∙ same.1 ∙ p.minutes in
    let inner : digits 2 minutes ++ three ≡ digits 2 (seconds / 60 % 60) ++ p.behind_minutes = cc (both) in
    let rest = same_digits minutes (seconds / 60 % 60) three p.behind_minutes (omega (arith, c.in-Some-behind_colon.ensures.found.0)) (omega (arith, p.few)) inner in
    elim p.last as (λ _. ⊥) [
      | inl e ↦ c.in_default-seconds_behind.ensures.some (rest.1 ∙ e)
      | inr e ↦ c.in_default-seconds_behind.ensures.none (seconds % 60) p.less (rest.1 ∙ e)
    ]

pub returns-clause-found : goal.returns-clause-found
returns-clause-found c =
    let minutes = c.in-Some-behind_colon.minutes in
    let three = c.in-Some-behind_colon.rest.now in
    says_time c.args.word.now c.in-Some.rest.now (digits 2 minutes ++ three) three c.in-Some.hours minutes c.in-Some-seconds_behind.seconds c.in-Some.ensures.found.0 c.in-Some-behind_colon.ensures.found.0
    c.in-Some-seconds_behind.ensures.small c.in-Some.ensures.found.1 c.in-Some-behind_colon.ensures.found.1 refl c.in-Some-seconds_behind.ensures.found
