use Rattle.std.proofs.Common.{◌≡◌, IfOk, subst}
use Rattle.toml.specs.Data.{Data}
use Rattle.toml.specs.View.{view}
use Rattle.schema_print.proofs.Utf8.{valid_text, other_text}
use Rattle.schema_print.proofs.words.text_value.Goals as goal

pub returns-in-Ok : goal.returns-in-Ok
returns-in-Ok c =
    subst (λ (d : Data). IfOk c.string.result (λ v. view v ≡ d)) (valid_text c.in-Ok.text.now c.args.text.now c.in-Ok.ensures.cases.0 c.in-Ok.ensures.cases.1) c.string.ensures

pub returns-in-Err : goal.returns-in-Err
returns-in-Err c =
    subst (λ (d : Data). IfOk c.string-in-Err.result (λ v. view v ≡ d)) (other_text c.args.text.now c.in-Err.ensures.cases.0) c.string-in-Err.ensures
