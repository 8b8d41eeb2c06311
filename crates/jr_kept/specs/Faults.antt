-- What a fault of a journal with moments is to the box above it.
use Rattle.std.specs.Prelude.{Result, Ok, Err, ⊤}
use Rattle.jr_dated.specs.declared.faults.FetchFault.{FetchFault}
use Rattle.jr_dated.specs.declared.faults.FetchFault.TheVariants as fetch
use Rattle.jr_boxes.specs.declared.faults.BoxFault.{BoxFault}
use Rattle.jr_boxes.specs.declared.faults.BoxFault.TheVariants as box_fault
use Rattle.jr_boxes.specs.declared.faults.SubmitFault.{SubmitFault}
use Rattle.jr_boxes.specs.declared.faults.SubmitFault.TheVariants as submit

-- of reading a record while a box is opened: one that has changed is one that the box excludes
abbrev pub opening_fault : FetchFault → BoxFault
opening_fault fetch.Broken = box_fault.Fault
opening_fault fetch.Memory = box_fault.Memory
opening_fault fetch.Fault = box_fault.Fault
opening_fault (fetch.Changed at) = box_fault.Wrong at

-- P holds where entries were added: at Ok all of them, at Full those for which there was room
abbrev pub OnEntered : {T : Type 0} → Result T SubmitFault → Type 0 → Type 0
OnEntered (Ok _) P = P
OnEntered (Err submit.Broken) P = ⊤
OnEntered (Err submit.Closed) P = ⊤
OnEntered (Err (submit.Full _ _)) P = P
OnEntered (Err submit.Memory) P = ⊤
OnEntered (Err submit.Fault) P = ⊤

-- P holds where a limit was met
abbrev pub OnFull : {T : Type 0} → Result T SubmitFault → Type 0 → Type 0
OnFull (Ok _) P = ⊤
OnFull (Err submit.Broken) P = ⊤
OnFull (Err submit.Closed) P = ⊤
OnFull (Err (submit.Full _ _)) P = P
OnFull (Err submit.Memory) P = ⊤
OnFull (Err submit.Fault) P = ⊤

-- P holds where nothing was begun
abbrev pub OnUnbegun : {T : Type 0} → Result T SubmitFault → Type 0 → Type 0
OnUnbegun (Ok _) P = ⊤
OnUnbegun (Err submit.Broken) P = P
OnUnbegun (Err submit.Closed) P = P
OnUnbegun (Err (submit.Full _ _)) P = ⊤
OnUnbegun (Err submit.Memory) P = P
OnUnbegun (Err submit.Fault) P = ⊤
