-- The date and the time of day of a number of nanoseconds since the beginning of 1970, in UTC without leap seconds, as text (RFC 3339).
use Rattle.std.specs.Prelude.{ℕ, zero, suc, ◌+◌, ◌-◌, ◌/◌, ◌%◌, nat_eq, nat_lt, Bool, not, ◌&&◌, ◌||◌, if◌then◌else◌, List, [], ◌∷◌, ◌++◌, codes}
use Rattle.text_dates.specs.declared.calendar.Part.{Part}

-- ---- the Gregorian calendar

abbrev pub is_leap : ℕ → Bool
is_leap year = (nat_eq (year % 4) 0 && not (nat_eq (year % 100) 0)) || nat_eq (year % 400) 0

abbrev pub days_of_year : ℕ → ℕ
days_of_year year = if is_leap year then 366 else 365

abbrev pub days_of_february : ℕ → ℕ
days_of_february year = if is_leap year then 29 else 28

-- the days of the months of a year, January first
abbrev pub days_of_months : ℕ → List ℕ
days_of_months year =
    31 ∷ days_of_february year ∷ 31 ∷ 30 ∷ 31 ∷ 30 ∷ 31 ∷ 31 ∷ 30 ∷ 31 ∷ 30 ∷ 31 ∷ []

-- a part is a year or a month, with a day in it, counted from 0; the year in which a day lies, where days are counted from the beginning of this year on; years follow one another, at most so many
abbrev pub year_within : ℕ → ℕ → ℕ → Part
year_within zero year day = record { number = year; day = day }
year_within (suc more) year day =
    if nat_lt day (days_of_year year) then record { number = year; day = day } else year_within more (year + 1) (day - days_of_year year)

-- the year of a day, counted from the beginning of 1970; there are not more years than days
unfoldable pub year_of : ℕ → Part
year_of day = year_within day 1970 day

-- the month in which a day lies, where months of these lengths follow one another, the first of which has this number
abbrev pub month_in : ℕ → List ℕ → ℕ → Part
month_in month [] day = record { number = month; day = day }
month_in month (days ∷ later) day = if nat_lt day days then record { number = month; day = day } else month_in (month + 1) later (day - days)

-- the month, from 1, of a day of a year
unfoldable pub month_of : Part → Part
month_of in_year = month_in 1 (days_of_months in_year.number) in_year.day

-- ---- as text

-- the last so many decimal digits of a number, with zeros in front (48 is the digit 0)
unfoldable pub digits : ℕ → ℕ → List ℕ
digits zero n = []
digits (suc more) n = digits more (n / 10) ++ (48 + n % 10) ∷ []

-- YYYY-MM-DD
unfoldable pub day_text : ℕ → Part → List ℕ
day_text year in_month = digits 4 year ++ codes "-" ++ digits 2 in_month.number ++ codes "-" ++ digits 2 (in_month.day + 1)

unfoldable pub date_text : Part → List ℕ
date_text in_year = day_text in_year.number (month_of in_year)

-- HH:MM:SS, of the seconds since midnight
unfoldable pub time_text : ℕ → List ℕ
time_text seconds = digits 2 (seconds / 3600) ++ codes ":" ++ digits 2 (seconds / 60 % 60) ++ codes ":" ++ digits 2 (seconds % 60)

-- of whole seconds since the beginning of 1970: YYYY-MM-DDTHH:MM:SS
unfoldable pub seconds_text : ℕ → List ℕ
seconds_text seconds = date_text (year_of (seconds / 86400)) ++ codes "T" ++ time_text (seconds % 86400)

-- YYYY-MM-DDTHH:MM:SS.NNNNNNNNNZ
unfoldable pub moment_text : ℕ → List ℕ
moment_text nanoseconds = seconds_text (nanoseconds / 1000000000) ++ codes "." ++ digits 9 (nanoseconds % 1000000000) ++ codes "Z"

-- YYYY-MM-DDTHH:MM:SS.NNNZ
unfoldable pub millis_text : ℕ → List ℕ
millis_text milliseconds = seconds_text (milliseconds / 1000) ++ codes "." ++ digits 3 (milliseconds % 1000) ++ codes "Z"
