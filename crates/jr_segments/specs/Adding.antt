-- What adding records answers.
use Rattle.std.specs.Prelude.{Result, Ok, Err, ⊤}
use Rattle.jr_segments.specs.declared.faults.AddFault.{AddFault}
use Rattle.jr_segments.specs.declared.faults.AddFault.TheVariants.{Memory, Fault}

-- P holds where memory was wanted, or where a call of the disk failed
abbrev pub OnMemory : {T : Type 0} → Result T AddFault → Type 0 → Type 0
OnMemory (Ok _) P = ⊤
OnMemory (Err Memory) P = P
OnMemory (Err Fault) P = ⊤

abbrev pub OnFailure : {T : Type 0} → Result T AddFault → Type 0 → Type 0
OnFailure (Ok _) P = ⊤
OnFailure (Err Memory) P = ⊤
OnFailure (Err Fault) P = P
