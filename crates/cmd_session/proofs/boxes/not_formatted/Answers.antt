use Rattle.std.proofs.Common.{refl, sym, ◌∙◌}
use Rattle.std.proofs.lemmas.Bool.{false≢true}
use Rattle.cmd_session.proofs.boxes.not_formatted.Goals as goal

pub returns-in-Ok-true-clause-refused : goal.returns-in-Ok-true-clause-refused
returns-in-Ok-true-clause-refused g c = λ flow refuses. (refl, λ content is. (c.in-Ok-true.ensures.value content is).0 c.in-Ok-true.field-0-test)

pub returns-in-Ok-false-clause-refused : goal.returns-in-Ok-false-clause-refused
returns-in-Ok-false-clause-refused g c = λ flow refuses.
    (refl, λ content is. (refuses content is, λ old. false≢true (sym c.in-Ok-false.field-0-test ∙ (c.in-Ok-false.ensures.value content is).1 old)))
