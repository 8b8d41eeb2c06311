use Rattle.std.proofs.Common.{ℕ, List, Err, ap, sym, subst, ◌∙◌}
use Rattle.routes.specs.Identifiers.{EachOnce, IsFirstRepeated}
use Rattle.cmd_muxanswer.specs.Sessions.{identifiers}
use Rattle.cmd_muxanswer.proofs.Repeated.{repeated_first, repeated_none}
use Rattle.cmd_muxanswer.proofs.sessions.routes_of.Goals as goal

pub returns-in-Ok-new-clause-once : goal.returns-in-Ok-new-clause-once
returns-in-Ok-new-clause-once c = subst EachOnce (c.in-Ok-new.ensures.value ∙ c.as_slice.ensures.value ∙ c.in-Ok.ensures) c.in-Ok-new.ensures.once

pub returns-in-Ok-new-clause-none : goal.returns-in-Ok-new-clause-none
returns-in-Ok-new-clause-none c =
    repeated_none (identifiers c.args.list.now) (subst EachOnce (c.in-Ok-new.ensures.value ∙ c.as_slice.ensures.value ∙ c.in-Ok.ensures) c.in-Ok-new.ensures.once)

pub returns-in-Err-Doubled-clause-repeated : goal.returns-in-Err-Doubled-clause-repeated
returns-in-Err-Doubled-clause-repeated c = λ told.
    let place = c.in-Err-Doubled.place in
    let first = c.new.ensures.doubled place (c.in-Err-Doubled.is ∙ ap Err c.in-Err-Doubled.field-0-is) in
    (place, repeated_first (identifiers c.args.list.now) place (subst (λ (ids : List (List ℕ)). IsFirstRepeated ids place) (c.as_slice.ensures.value ∙ c.in-Ok.ensures) first), sym (c.repeated.ensures told))
