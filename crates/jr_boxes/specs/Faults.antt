-- What a fault of the journal is to the box above it.
use Rattle.std.specs.Prelude.{ℕ}
use Rattle.jr_record.specs.declared.faults.AppendFault.{AppendFault}
use Rattle.jr_record.specs.declared.faults.AppendFault.TheVariants as append
use Rattle.jr_boxes.specs.declared.faults.SubmitFault.{SubmitFault}
use Rattle.jr_boxes.specs.declared.faults.SubmitFault.TheVariants as submit
use Rattle.jr_boxes.specs.declared.faults.CloseFault.{CloseFault}
use Rattle.jr_boxes.specs.declared.faults.CloseFault.TheVariants as closing

-- of appending an entry behind so many
abbrev pub submit_fault : AppendFault → ℕ → SubmitFault
submit_fault append.Broken entries = submit.Broken
submit_fault (append.Full bytes) entries = submit.Full entries bytes
submit_fault append.Memory entries = submit.Memory
submit_fault append.Fault entries = submit.Fault

-- of appending the Finish, which no limit of bytes refuses
abbrev pub close_fault : AppendFault → CloseFault
close_fault append.Broken = closing.Broken
close_fault (append.Full _) = closing.Memory
close_fault append.Memory = closing.Memory
close_fault append.Fault = closing.Fault
