-- Names, and sets of names and of numbers.
use Rattle.std.specs.Prelude.{ℕ, Bool, List, nat_eq}
use Rattle.std.specs.Ordering.{nat_cmp, int_cmp}
use Rattle.std.specs.Cmp.Lexicographic.{pointwise, slice_cmp}
use Rattle.std.specs.FinSet.{FinSet}

-- two names are the same bytes
abbrev pub same_name : List ℕ → List ℕ → Bool
same_name a b = pointwise nat_eq a b

-- a set of names, and a set of numbers
abbrev pub Names : Type 0
Names = FinSet (slice_cmp nat_cmp)

abbrev pub Numbers : Type 0
Numbers = FinSet int_cmp
