-- What two ends have still to do at most where nothing is under way between them: no more than there may be where no connection stands.
use Rattle.std.specs.Prelude.{◌≡◌, ◌+◌, ◌≤◌, List, [], length}
use Rattle.session_model.specs.Journal.{Entry}
use Rattle.honest_ends.specs.Worlds.{World, Step, world_after, AllMayStep}
use Rattle.honest_ends.specs.Knowing.{StartsKnown}
use Rattle.drain_laws.specs.Beginning.{bound}
use Rattle.drain_ends.specs.Standing.{BothGo}
use Rattle.drain_ends.specs.Falling.{measure}

-- nothing is under way, and neither end has numbers to tell at a turn's end
pub record IsQuiet (w : World) : Type 0 where
  pub outward : w.outward ≡ []
  pub homeward : w.homeward ≡ []
  pub told_i : w.initiator.untold ≡ []
  pub told_a : w.acceptor.untold ≡ []

-- whatever steps came, where each may come
abbrev pub QuietWithin : Type 0
QuietWithin = (hi ha : List Entry) (w : World) (steps : List Step) → StartsKnown hi ha w → AllMayStep hi ha w steps → BothGo (world_after w steps) → IsQuiet (world_after w steps)
    → measure hi ha (world_after w steps) ≤ bound (length hi + length ha)
