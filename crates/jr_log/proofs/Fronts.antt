-- Records behind others.
use Rattle.std.proofs.Common.{◌≡◌, List, [], ◌∷◌, ◌++◌}
use Rattle.std.proofs.lemmas.Grind.{flat_map-append}
use Rattle.std.specs.List.{AllByRecursion}
use Rattle.jr_record.specs.declared.record.Record.{Record}
use Rattle.jr_record.specs.Records.{IsRecord, spelled}
use Rattle.jr_record.specs.Images.{gated}

pub gated-append : (h batch : List Record) → gated spelled (h ++ batch) ≡ gated spelled h ++ gated spelled batch
gated-append h batch = flat_map-append (λ r. 1 ∷ spelled r) h batch

pub legal-append : (h batch : List Record) → AllByRecursion IsRecord h → AllByRecursion IsRecord batch → AllByRecursion IsRecord (h ++ batch)
legal-append [] batch all_h all_batch = all_batch
legal-append (r ∷ h) batch all_h all_batch = (all_h.0, legal-append h batch all_h.1 all_batch)
