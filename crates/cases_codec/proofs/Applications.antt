-- What holds of each payload holds of a list of them, one behind another.
use Rattle.std.proofs.Common.{ℕ, List}
use Rattle.std.specs.Prelude.{All}
use Rattle.std.specs.List.{AllByRecursion}
use Rattle.std.proofs.lemmas.List.Elements.{recursion_from_All}
use Rattle.fixp_msgs.specs.Payload.{IsApplication}

pub each : (payloads : List (List ℕ)) → All IsApplication payloads → AllByRecursion IsApplication payloads
each payloads all = recursion_from_All IsApplication payloads all
