use Rattle.std.proofs.Common.{◌≡◌, ◌+◌, List, length, drop, sym, subst, ◌∙◌, rules}
use Rattle.plan_values.specs.declared.plan.Plan.{Plan}
use Rattle.plan_text.specs.Progress.{HaveRead}
use Rattle.plan_text.proofs.Adding.{written_back}
use Rattle.plan_text.proofs.Steps.{none_yet, one_more, all_read, refused, count_within}
use Rattle.plan_text.proofs.plans.read_plans.Goals as goal

pub loop-line-init : goal.loop-line-init
loop-line-init c = none_yet c.args.senders c.args.text.now c.in_ok-plans.plans.items c.in_ok-plans.ensures.many c.in_ok-plans.ensures.empty

pub overflow_add-result : goal.overflow_add-result
overflow_add-result c =
    let within = count_within c.args.senders c.args.text.now c.loop-line.left.now c.in-Some.line.now c.in-Some.rest.now c.loop-line.plans.items c.loop-line.count c.loop-line.invariant c.in-Some.ensures in
    search (rules, within)

pub overflow_add-count : goal.overflow_add-count
overflow_add-count c =
    let within = count_within c.args.senders c.args.text.now c.loop-line.left.now c.in-Some.line.now c.in-Some.rest.now c.loop-line.plans.items c.loop-line.count c.loop-line.invariant c.in-Some.ensures in
    search (rules, within)

pub returns-then-not-branch-clause-err : goal.returns-then-not-branch-clause-err
returns-then-not-branch-clause-err c =
    refused c.args.senders c.args.text.now c.loop-line.left.now c.in-Some.line.now c.in-Some.rest.now c.as_mut_slice.result.now c.loop-line.count
    (subst (λ (ps : List Plan). HaveRead c.args.senders c.args.text.now c.loop-line.left.now ps c.loop-line.count) (sym c.as_mut_slice.ensures.value) c.loop-line.invariant)
    c.in-Some.ensures (c.in_ok-add_line.ensures.none c.if-not-branch.true)

pub loop-line-preserved : goal.loop-line-preserved
loop-line-preserved c =
    let added = c.in_ok-add_line.ensures.added c.if-not-branch.false in
    let many : length c.add_line.new.plans ≡ c.loop-line.plans.len = added.2.many ∙ c.as_mut_slice.ensures.len in
    subst (λ (ps : List Plan). HaveRead c.args.senders c.args.text.now c.in-Some.rest.now ps (c.loop-line.count + 1))
    (sym (written_back c.loop-line.plans.len c.add_line.new.plans (drop (length c.add_line.new.plans) c.loop-line.plans.items) many))
    (one_more c.args.senders c.args.text.now c.loop-line.left.now c.in-Some.line.now c.in-Some.rest.now c.as_mut_slice.result.now c.add_line.new.plans c.loop-line.count added.0
    (subst (λ (ps : List Plan). HaveRead c.args.senders c.args.text.now c.loop-line.left.now ps c.loop-line.count) (sym c.as_mut_slice.ensures.value) c.loop-line.invariant)
    c.in-Some.ensures added.1 added.2)

pub returns-clause-ok : goal.returns-clause-ok
returns-clause-ok c = all_read c.args.senders c.args.text.now c.loop-line.left.now c.loop-line.plans.items c.loop-line.count c.loop-line.invariant c.in_default.ensures
