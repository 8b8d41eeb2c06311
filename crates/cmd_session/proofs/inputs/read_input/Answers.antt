use Rattle.std.proofs.Common.{◌≡◌, ℕ, List, map, sym, ◌∙◌, ap, subst, length}
use Rattle.std.proofs.lemmas.List.{length-map}
use Rattle.plan_values.specs.Plans.{payloads_of}
use Rattle.plan_text.specs.Plans.{HasPlans}
use Rattle.cmd_session.proofs.Reading.{many_plans}
use Rattle.cmd_session.proofs.inputs.read_input.Goals as goal

pub returns-in-Ok-read_plans-clause-many : goal.returns-in-Ok-read_plans-clause-many
returns-in-Ok-read_plans-clause-many g c =
    let has = c.in-Ok-read_plans.ensures.ok in
    c.in-Ok-read_plans.plans.ok.0 ∙ sym (length-map c.in-Ok-read_plans.plans.items payloads_of) ∙ ap length has.plans_are ∙ many_plans 1 c.args.senders has.gifts

pub returns-in-Ok-read_plans-clause-has : goal.returns-in-Ok-read_plans-clause-has
returns-in-Ok-read_plans-clause-has g c =
    let has = c.in-Ok-read_plans.ensures.ok in
    let plans = c.in-Ok-read_plans.plans.items in
    let many : c.args.senders ≡ length plans = sym (many_plans 1 c.args.senders has.gifts) ∙ (sym (ap length has.plans_are) ∙ length-map plans payloads_of) in
    subst (λ (n : ℕ). HasPlans n c.in-Ok.text.items (map payloads_of plans)) many
    (subst (λ (text : List ℕ). HasPlans c.args.senders text (map payloads_of plans)) c.as_slice.ensures.value has)
