use Rattle.std.proofs.Common.{◌∙◌, sym}
use Rattle.sbe_skew.proofs.Differences.{none_extends, some_none, extends_none}
use Rattle.sbe_skew.proofs.extending.extends.Goals as goal

pub returns-in-Ok-None-clause-ok : goal.returns-in-Ok-None-clause-ok
returns-in-Ok-None-clause-ok c =
    none_extends c.args.new.now.schema c.args.old.now.schema (sym c.in-Ok-None.ensures ∙ c.in-Ok-None.field-0-is)

pub returns-in-Ok-Some-clause-cause : goal.returns-in-Ok-Some-clause-cause
returns-in-Ok-Some-clause-cause c =
    let found = sym c.in-Ok-Some.ensures ∙ c.in-Ok-Some.field-0-is in
    (λ e. some_none (sym found ∙ extends_none c.args.new.now.schema c.args.old.now.schema e), found)
