-- What a batch that was not added is to the box above.
use Rattle.jr_record.specs.declared.faults.AppendFault.{AppendFault}
use Rattle.jr_record.specs.declared.faults.AppendFault.TheVariants as append
use Rattle.jr_boxes.specs.declared.faults.SubmitFault.{SubmitFault}
use Rattle.jr_boxes.specs.declared.faults.SubmitFault.TheVariants as submit
use Rattle.jr_kept.specs.declared.faults.AddFault.{AddFault}
use Rattle.jr_kept.specs.declared.faults.AddFault.TheVariants as add

abbrev pub entering_fault : AddFault → SubmitFault
entering_fault add.Memory = submit.Memory
entering_fault add.Fault = submit.Fault

abbrev pub applying_fault : AddFault → AppendFault
applying_fault add.Memory = append.Memory
applying_fault add.Fault = append.Fault
