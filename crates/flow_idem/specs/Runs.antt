-- Runs of consecutive numbers: each is told at once (FIXP 1.1, Applied; that a run is told at once is this project's profile).
use Rattle.std.specs.Prelude.{◌≡◌, ℕ, ◌+◌, ◌-◌, ◌<◌, ◌≤◌, ◌==◌, nat_lt, if◌then◌else◌, List, [], ◌∷◌, ⊤}
use Rattle.std.specs.List.{flat_map}
use Rattle.session_model.specs.Journal.{counts_from}
use Rattle.fixp_msgs.specs.declared.numbering.Range.{Range}

-- a number in front of runs: it joins the first where that goes on from it, else it is a run of its own
abbrev pub joined : ℕ → List Range → List Range
joined n [] = record { from = n; count = 1 } ∷ []
joined n (r ∷ rs) = if r.from == n + 1 then record { from = n; count = r.count + 1 } ∷ rs else record { from = n; count = 1 } ∷ r ∷ rs

-- numbers as runs of consecutive ones, in order
abbrev pub runs_of : List ℕ → List Range
runs_of [] = []
runs_of (n ∷ ns) = joined n (runs_of ns)

-- the numbers of some runs, in order
abbrev pub numbers_in : List Range → List ℕ
numbers_in rs = flat_map (λ (r : Range). counts_from r.from r.count) rs

-- a run goes on in the next one, if there is one
abbrev pub GoesOn : Range → List Range → Type 0
GoesOn r [] = ⊥
GoesOn r (s ∷ rs) = r.from + r.count ≡ s.from

-- no run is empty, and none goes on in the one behind it
abbrev pub AreRuns : List Range → Type 0
AreRuns [] = ⊤
AreRuns (r ∷ rs) = (1 ≤ r.count) × (GoesOn r rs → ⊥) × AreRuns rs

-- the number with which runs go on, where this one stands behind them
abbrev pub first_of : List Range → ℕ → ℕ
first_of [] behind = behind
first_of (r ∷ rs) behind = r.from

-- runs that rise: none is empty, and a number is missing between each and the next, or the number behind all
abbrev pub AreApart : List Range → ℕ → Type 0
AreApart [] behind = ⊤
AreApart (r ∷ rs) behind = (1 ≤ r.count) × (r.from + r.count < first_of rs behind) × AreApart rs behind

-- the run from one number up to another, if it has any
abbrev pub open_run : (first end : ℕ) → List Range
open_run first end = if nat_lt first end then record { from = first; count = end - first } ∷ [] else []

-- a list of runs that grows: the numbers in them, in order; the number behind the last; and for how many further runs there
-- is room
pub record Growing : Type 0 where
  pub numbers : List ℕ
  pub end : ℕ
  pub spare : ℕ
