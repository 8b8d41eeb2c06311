use Rattle.std.proofs.Common.{arith, sym, ap, ◌∙◌}
use Rattle.std.proofs.lemmas.Bool.Decides.{nat_tests}
use Rattle.toml_walk.proofs.Digits.{too_great}
use Rattle.toml_walk.specs.Values.{are_digits}
use Rattle.toml_walk.proofs.value.wide_number.Goals as goal

pub returns-in-Err : goal.returns-in-Err
returns-in-Err c = too_great c.args.text.now (grind (arith, nat_tests)) (ap are_digits (sym c.as_bytes.ensures.value) ∙ sym c.if-not-are_digits.ensures) c.in-Err.ensures.value.0
