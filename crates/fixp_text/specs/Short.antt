-- A session message whose data are no longer than those of a frame may be.
use Rattle.std.specs.Prelude.{ℕ, ◌^◌, ◌≤◌, List, length, Option, Some, None}
use Rattle.fixp_msgs.specs.Message.{Message}
use Rattle.fixp_msgs.specs.Table.{row_of}

abbrev pub IsShortDatum : Option (List ℕ) → Type 0
IsShortDatum None = Unit {0}
IsShortDatum (Some datum) = length datum ≤ 2 ^ 20

abbrev pub IsShort : Message → Type 0
IsShort m = IsShortDatum (row_of m).datum
