-- What a refusal is to those who send; that the outbox is closed is none (this project's profile).
use Rattle.std.specs.Prelude.{Option, Some, None}
use Rattle.jr_boxes.specs.declared.faults.SubmitFault.{SubmitFault}
use Rattle.jr_boxes.specs.declared.faults.SubmitFault.TheVariants as submit
use Rattle.jr_boxes.specs.declared.faults.CloseFault.{CloseFault}
use Rattle.jr_boxes.specs.declared.faults.CloseFault.TheVariants as closing
use Rattle.gate_staff.specs.declared.fault.StaffFault.{StaffFault}
use Rattle.gate_staff.specs.declared.fault.StaffFault.TheVariants as faults

-- of a message
abbrev pub submit_fault : SubmitFault → Option StaffFault
submit_fault submit.Broken = Some faults.Journal
submit_fault submit.Closed = None
submit_fault (submit.Full entries bytes) = Some (faults.Full entries bytes)
submit_fault submit.Memory = Some faults.Memory
submit_fault submit.Fault = Some faults.Journal

-- of the Finish
abbrev pub finish_fault : CloseFault → Option StaffFault
finish_fault closing.Broken = Some faults.Journal
finish_fault closing.Closed = None
finish_fault closing.Memory = Some faults.Memory
finish_fault closing.Fault = Some faults.Journal
