-- Segments as the list of their numbers.
use Rattle.std.specs.Prelude.{ℕ, ◌<◌, ◌^◌, List, length}
use Rattle.jr_places.specs.Listed.{listed, HasRoom}
use Rattle.jr_places.specs.Segmented.{joined}
use Rattle.jr_places.specs.declared.segments.Segments.{Segments}

abbrev pub numbers_of : Segments → List ℕ
numbers_of s = joined s.full.items (listed s.last)

-- one more number takes no memory
pub record HasRoomForOne (s : Segments) : Type 0 where
  pub few : s.count < 2 ^ 40
  pub begun : length (listed s.last) < 4080
  pub room : HasRoom s.last
