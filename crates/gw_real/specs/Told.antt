-- What a device tells of its content: what the reader or writer behind it tells, once it is open.
use Rattle.std.specs.Prelude.{ℕ, List, Option, None, Some}
use Rattle.gw_real.specs.declared.sink.Target.{Target}
use Rattle.gw_real.specs.declared.sink.Target.TheVariants.{Unopened, Unused, File, Printer, Failing}

abbrev pub told_by : {F : Type 0} → (F → Option (List ℕ)) → Option F → Option (List ℕ)
told_by tells None = None
told_by tells (Some file) = tells file

abbrev pub told_into : {F P : Type 0} → (F → Option (List ℕ)) → (P → Option (List ℕ)) → Target F P → Option (List ℕ)
told_into file_tells printer_tells Unopened = None
told_into file_tells printer_tells (Unused printer) = None
told_into file_tells printer_tells (File file) = file_tells file
told_into file_tells printer_tells (Printer printer) = printer_tells printer
told_into file_tells printer_tells (Failing reason) = None
