use Rattle.std.proofs.Common.{◌∙◌, sym, subst}
use Rattle.sbe_schema.specs.Checked.{IsLeast}
use Rattle.sbe_schema.proofs.Fold.{least_by_fault}
use Rattle.sbe_schema.proofs.checking.check.Goals as goal

pub returns-in-Ok-Some-clause-least : goal.returns-in-Ok-Some-clause-least
returns-in-Ok-Some-clause-least c =
    subst (IsLeast c.args.schema) (sym c.in-Ok-Some.fault-is) (least_by_fault c.args.schema c.in-Ok-Some.fault (sym c.in-Ok-Some.ensures ∙ c.in-Ok-Some.field-0-is))
