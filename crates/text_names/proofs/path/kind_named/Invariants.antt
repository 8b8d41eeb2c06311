use Rattle.std.proofs.Common.{◌≡◌, drop}
use Rattle.text_names.specs.Paths.{kind_named}
use Rattle.text_names.proofs.path.kind_named.Given as goal

abbrev pub invariant-loop-item : goal.invariant-loop-item
invariant-loop-item l = kind_named (drop l.item-index l.items) l.name ≡ kind_named l.items l.name
