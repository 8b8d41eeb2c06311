-- What a journal answered to an append.
use Rattle.std.specs.Prelude.{Bool, true, false, Result, Ok, Err, ⊤}
use Rattle.jr_record.specs.declared.faults.AppendFault.{AppendFault}
use Rattle.jr_record.specs.declared.faults.AppendFault.TheVariants as append

-- P holds where an append was refused before it wrote to the disk
abbrev pub OnRefused : {T : Type 0} → Result T AppendFault → Type 0 → Type 0
OnRefused (Ok _) P = ⊤
OnRefused (Err append.Broken) P = P
OnRefused (Err (append.Full _)) P = P
OnRefused (Err append.Memory) P = P
OnRefused (Err append.Fault) P = ⊤

-- P holds where a call of the disk failed in an append
abbrev pub OnFault : {T : Type 0} → Result T AppendFault → Type 0 → Type 0
OnFault (Ok _) P = ⊤
OnFault (Err append.Broken) P = ⊤
OnFault (Err (append.Full _)) P = ⊤
OnFault (Err append.Memory) P = ⊤
OnFault (Err append.Fault) P = P

-- whether a journal that answered this is broken
abbrev pub is_broken_after : {T : Type 0} → Result T AppendFault → Bool
is_broken_after (Ok _) = false
is_broken_after (Err append.Broken) = true
is_broken_after (Err (append.Full _)) = false
is_broken_after (Err append.Memory) = false
is_broken_after (Err append.Fault) = true
