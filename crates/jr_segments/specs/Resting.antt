-- What a journal keeps in memory of its records, and what its disk may leave of them.
use Rattle.std.specs.Prelude.{◌≡◌, ℕ, ◌+◌, ◌≤◌, List, [], ◌∷◌, ◌++◌}
use Rattle.std.specs.List.{AllByRecursion}
use Rattle.jr_record.specs.declared.record.Record.{Record}
use Rattle.jr_record.specs.Images.{gated}
use Rattle.jr_segments.specs.Behind.{AllClosed}
use Rattle.jr_dated.specs.Dated.{Dated, IsDated, spelled, undated}
use Rattle.jr_dated.specs.Images.{header, record_size, journal_size}

-- the header and these records, each behind its gate
abbrev pub front_of : List Dated → List ℕ
front_of records = header ++ gated spelled records

-- where the gates of records stand, the first one's gate standing at this place
abbrev pub places_from : ℕ → List Record → List ℕ
places_from at [] = []
places_from at (r ∷ rs) = at ∷ places_from (at + record_size r) rs

-- these are records whose gates stand at these places in a journal of this size, and none is behind this moment
pub record Keeps (places : List ℕ) (size moment : ℕ) (h : List Dated) : Type 0 where
  pub legal : AllByRecursion IsDated h
  pub places_are : places ≡ places_from 16 (undated h)
  pub sized : journal_size (undated h) ≡ size
  pub latest : AllByRecursion (λ (d : Dated). d.moment ≤ moment) h

-- and each content that a stop may leave is closed behind them
pub record Rests (places : List ℕ) (size moment : ℕ) (may_leave : List ℕ → Type 0) (h : List Dated) : Type 0 where
  pub keeps : Keeps places size moment h
  pub closed : AllClosed (front_of h) may_leave

-- they are such records, whatever they are
abbrev pub SomeRest : List ℕ → (size moment : ℕ) → (List ℕ → Type 0) → Type 0
SomeRest places size moment may_leave = ∥ ((h : List Dated) × Rests places size moment may_leave h) ∥₁
