use Rattle.std.proofs.Common.{List, refl, sym, subst}
use Rattle.text_words.specs.Lines.{lines_in}
use Rattle.jr_boxes.specs.Outboxes.{records_of_history}
use Rattle.plan_text.specs.Plans.{AreGiven}
use Rattle.plan_outbox.specs.declared.front.Front.{Front}
use Rattle.plan_outbox.specs.Progress.{AreFronts}
use Rattle.plan_outbox.proofs.Finding.{goes_on, line_is_past, plan_there, if_none, if_some}
use Rattle.plan_outbox.proofs.past.first_past.Goals as goal

pub returns-clause-goes_on : goal.returns-clause-goes_on
returns-clause-goes_on g c =
    let plans = c.args.plans.now in
    let left = c.as_mut_slice.result.now in
    let has = c.requires.planned in
    let many = c.in_ok-fronts.ensures.fronts in
    if_none c.first_line_past.result _ _
    (λ all tells h stands.
    let fronts = subst (λ (fs : List Front). AreFronts plans (records_of_history h) fs) (sym c.as_mut_slice.ensures.value) (many tells h stands) in
    let given = subst (λ n. AreGiven n (lines_in c.args.text.now) has.gifts) (sym fronts.many) has.given in
    goes_on plans c.args.text.now (records_of_history h) left fronts has h refl (plan_there plans) c.closed-finished.result (c.closed-finished.ensures.mark h ((c.in_ok-fronts.ensures.read.content.stands h).0 stands)) (all has.gifts given))
    c.first_line_past.ensures.none

pub returns-clause-past : goal.returns-clause-past
returns-clause-past g c =
    let plans = c.args.plans.now in
    let left = c.as_mut_slice.result.now in
    let has = c.requires.planned in
    let many = c.in_ok-fronts.ensures.fronts in
    if_some c.first_line_past.result _ _
    (λ line l tells h stands.
    let fronts = subst (λ (fs : List Front). AreFronts plans (records_of_history h) fs) (sym c.as_mut_slice.ensures.value) (many tells h stands) in
    let given = subst (λ n. AreGiven n (lines_in c.args.text.now) has.gifts) (sym fronts.many) has.given in
    line_is_past plans c.args.text.now (records_of_history h) left fronts has h refl (plan_there plans) c.closed-finished.result (c.closed-finished.ensures.mark h ((c.in_ok-fronts.ensures.read.content.stands h).0 stands)) line (l has.gifts given))
    c.first_line_past.ensures.past
