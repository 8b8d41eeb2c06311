-- Records that are all of the format.
use Rattle.std.proofs.Common.{List, [], ◌∷◌, ◌++◌}
use Rattle.std.specs.List.{AllByRecursion}
use Rattle.jr_record.specs.declared.record.Record.{Record}
use Rattle.jr_record.specs.Records.{IsRecord}

-- one more
pub all_push : (rs : List Record) (r : Record) → AllByRecursion IsRecord rs → IsRecord r → AllByRecursion IsRecord (rs ++ r ∷ [])
all_push [] r all legal = (legal, tt)
all_push (x ∷ rs) r all legal = (all.0, all_push rs r all.1 legal)
