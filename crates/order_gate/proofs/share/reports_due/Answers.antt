use Rattle.std.proofs.Common.{rules, ◌≡◌, ◌++◌, length, sym, ap, ◌∙◌, List, ℕ, flat_map}
use Rattle.crossbeam_queue.specs.Passes.{view}
use Rattle.order_desk.specs.Plans.{answers}
use Rattle.order_gate.specs.Desks.{due}
use Rattle.order_gate.specs.Places.{at_places}
use Rattle.order_gate.proofs.Lines.{begins, forks, merges}
use Rattle.order_gate.proofs.Shares.{due_of, same_list, sent_at, both_ok}
use Rattle.order_gate.proofs.share.reports_due.Goals as goal

pub ruled-requires-clause-rule : goal.ruled-requires-clause-rule
ruled-requires-clause-rule g c = begins

pub another-reader-requires-clause-rule : goal.another-reader-requires-clause-rule
another-reader-requires-clause-rule g c = forks _ _ (search rules) (search rules)

pub absorb-requires-clause-rule : goal.absorb-requires-clause-rule
absorb-requires-clause-rule g c = merges _ _ _ _ (search rules) (search rules)

pub returns : goal.returns
returns g c =
    let call = c.args.call.now in
    let dealt = c.reports_of_dealt-reports in
    let all : List ℕ = c.in_ok-places.places.items in
    let popped : List ℕ = (view dealt.new.reader).popped in
    let items : List ℕ = c.learn_as.ensures.rule.0 in
    let parts : all ≡ popped ++ items =
    sym c.as_slice.ensures.value ∙ sym (ap (λ v. v.pushed) dealt.ensures.dealt.1) ∙ sym (ap (λ v. v.pushed) c.absorb.ensures.rule) ∙ c.learn_as.ensures.rule.1
    ∙ ap (λ v. v.popped ++ items) c.absorb.ensures.rule in
    let F = answers call.plan.now c.args.number call.reference in
    both_ok dealt.result (λ list. length popped ≡ length c.as_slice.result.now) (λ list. list.items ≡ flat_map F (at_places call.payloads.now popped))
    (λ list. list.items ≡ due call.plan.now call.reference call.desks call.turn call.payloads.now c.args.number)
    (λ list n is. is ∙ ap (sent_at F call.payloads.now) (same_list all popped items parts (n ∙ ap length c.as_slice.ensures.value))
    ∙ due_of call.plan.now call.reference call.desks call.turn call.payloads.now c.args.number all c.in_ok-places.ensures)
    dealt.ensures.count dealt.ensures.reports
