-- What was read of a source, part by part.
use Rattle.std.proofs.Common.{ℕ, ◌-◌, ◌≤◌, List, ◌++◌, Option, length, arith, length-append}
use Rattle.std.specs.Io.KnownBytes.{Consumes}
use Rattle.std.proofs.KnownBytes.{Consumes-trans}
use Rattle.cmd_base.specs.Texts.{ReadsWithin}

-- bytes read after others
pub reads-more : (old mid new : Option (List ℕ)) (bytes : List ℕ) (limit : ℕ) → Consumes old mid bytes → length bytes ≤ limit → ReadsWithin mid new (limit - length bytes) → ReadsWithin old new limit
reads-more old mid new bytes limit read most more = record {
  bytes = bytes ++ more.bytes;
  within = omega (arith, length-append bytes more.bytes, more.within);
  consumed = Consumes-trans _ _ _ _ _ read more.consumed;
}
