-- Which messages have no fault: those that may be written, in at most 16,384 bytes.
use Rattle.std.specs.Prelude.{◌≡◌, ◌↔◌, ◌≤◌, None, length}
use Rattle.sbe_value.specs.declared.message.Message.{Message}
use Rattle.sbe_layout.specs.declared.plan.Plan.{Plan}
use Rattle.sbe_grammar.specs.Canonical.{canonical, MayBeWritten}
use Rattle.sbe_encode.specs.Faults.{encode_fault}

-- it may be written, and is not too long
pub record IsWritable (schema : Plan) (m : Message) : Type 0 where
  pub admitted : MayBeWritten schema m
  pub short : length (canonical schema m) ≤ 16384

abbrev pub FaultlessWhereWritable : Plan → Message → Type 0
FaultlessWhereWritable schema m = (encode_fault schema m ≡ None) ↔ IsWritable schema m
