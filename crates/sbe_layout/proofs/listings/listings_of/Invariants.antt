use Rattle.std.proofs.Common.{◌≡◌, ◌++◌, drop}
use Rattle.sbe_layout.specs.Plans.{listings_of}
use Rattle.sbe_layout.proofs.listings.listings_of.Given as goal

-- what is made, followed by what is left, is all
abbrev pub invariant-loop-t : goal.invariant-loop-t
invariant-loop-t l = l.listings ++ listings_of (drop l.t-index l.types) ≡ listings_of l.types
