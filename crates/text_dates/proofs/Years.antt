-- The years that pass before a day, one behind another.
use Rattle.std.proofs.Common.{◌≡◌, ℕ, zero, suc, ◌+◌, ◌-◌, ◌<◌, ◌≤◌, Bool, true, false, nat_lt, cond, refl, sym, ◌∙◌, ap, arith}
use Rattle.std.proofs.lemmas.Bool.Decides.{nat_tests}
use Rattle.text_dates.specs.declared.calendar.Part.{Part}
use Rattle.text_dates.specs.Dates.{is_leap, days_of_year, year_within, year_of}

-- the year of a day is that of this day of this year, which is not behind it
pub record Reaches (day : ℕ) (p : Part) : Type 0 where
  pub years : ℕ
  pub enough : p.day ≤ years
  pub small : p.number + p.day ≤ 1970 + day
  pub within : p.day ≤ day
  pub same : year_of day ≡ year_within years p.number p.day

pub begins : (day : ℕ) → Reaches day (record { number = 1970; day = day })
unfolding year_of
begins day = record { years = day; enough = omega arith; small = omega arith; within = omega arith; same = refl }

some_days : (b : Bool) → 365 ≤ cond b 366 365
some_days true = omega arith
some_days false = omega arith

passed : (years year day : ℕ) → day ≤ years → days_of_year year ≤ day → (more : ℕ) × (years ≡ suc more) × (year_within years year day ≡ year_within more (year + 1) (day - days_of_year year))
passed zero year day enough long = absurd (omega (arith, enough, long, some_days (is_leap year)))
passed (suc more) year day enough long =
    let late : nat_lt day (days_of_year year) ≡ false = grind (arith, nat_tests, long) in
    (more, refl, ap (λ (b : Bool). cond b (record { number = year; day = day }) (year_within more (year + 1) (day - days_of_year year))) late)

-- a year passes
pub passes : (day : ℕ) (p : Part) → Reaches day p → days_of_year p.number ≤ p.day → Reaches day (record { number = p.number + 1; day = p.day - days_of_year p.number })
passes day p r long =
    let step = passed r.years p.number p.day r.enough long in
    record {
      years = step.0;
      enough = omega (arith, r.enough, step.1, long, some_days (is_leap p.number));
      small = omega (arith, r.small, long, some_days (is_leap p.number));
      within = omega (arith, r.within);
      same = r.same ∙ step.2;
    }

stays : (years year day : ℕ) → day < days_of_year year → year_within years year day ≡ record { number = year; day = day }
stays zero year day short = refl
stays (suc more) year day short =
    let early : nat_lt day (days_of_year year) ≡ true = grind (arith, nat_tests, short) in
    ap (λ (b : Bool). cond b (record { number = year; day = day }) (year_within more (year + 1) (day - days_of_year year))) early

-- the day lies in this year
pub ends : (day : ℕ) (p : Part) → Reaches day p → p.day < days_of_year p.number → p ≡ year_of day
ends day p r short = sym (r.same ∙ stays r.years p.number p.day short)
