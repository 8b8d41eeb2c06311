-- What a source gave.
use Rattle.std.proofs.Common.{◌≡◌, ℕ, ◌<◌, ◌≤◌, List, ◌++◌, length, take, Option, arith, length-append}
use Rattle.std.proofs.lemmas.List.{length-take-le}
use Rattle.std.specs.Io.KnownBytes.{Consumes}
use Rattle.std.proofs.KnownBytes.{Consumes-trans}
use Rattle.cmd_base.specs.Order.{HasGiven}

-- a read that gave some bytes
pub gave : (old new : Option (List ℕ)) (count : ℕ) (into : List ℕ) → 0 < count → count ≤ length into → Consumes old new (take count into) → HasGiven old new
gave old new count into some within given = record { bytes = take count into; some = omega (arith, length-take-le count into within, some); given = given }

-- whatever it gives then
pub gave-on : (old mid new : Option (List ℕ)) (bytes : List ℕ) → HasGiven old mid → Consumes mid new bytes → HasGiven old new
gave-on old mid new bytes first more = record {
  bytes = first.bytes ++ bytes;
  some = omega (arith, length-append first.bytes bytes, first.some);
  given = Consumes-trans old mid new first.bytes bytes first.given more;
}
