use Rattle.std.proofs.Common.{◌≡◌, drop}
use Rattle.sbe_schema.specs.Offsets.{fields_end}
use Rattle.sbe_schema.proofs.index.Index.fields_end.Given as goal

abbrev pub invariant-loop-field : goal.invariant-loop-field
invariant-loop-field l = fields_end l.self.schema.now.types l.end (drop l.field-index l.fields) ≡ fields_end l.self.schema.now.types 0 l.fields
