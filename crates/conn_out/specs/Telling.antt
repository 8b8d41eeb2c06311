-- Lines that are told a piece at a time. These are steps of the proof: nothing that a user relies on needs them.
use Rattle.std.specs.Prelude.{◌≡◌, ℕ, List, ◌++◌, Option}
use Rattle.std.specs.Io.KnownBytes.{Appends}

-- of a text all was told but what is held
pub record Written (old new : Option (List ℕ)) (held text : List ℕ) : Type 0 where
  pub sent : List ℕ
  pub appended : Appends old new sent
  pub split : text ≡ sent ++ held
