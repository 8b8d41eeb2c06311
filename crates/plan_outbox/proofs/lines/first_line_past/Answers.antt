use Rattle.std.proofs.Common.{rules, true}
use Rattle.std.proofs.lemmas.Option.{none-some, same_Some}
use Rattle.plan_outbox.proofs.Taking.{none_taken, one_taken, line_past, given_line, count_within}
use Rattle.plan_outbox.proofs.lines.first_line_past.Goals as goal

pub loop-line-init : goal.loop-line-init
loop-line-init c = none_taken c.args.left.now c.args.finished c.args.text.now

pub returns-in_default-sender_of-clause-none : goal.returns-in_default-sender_of-clause-none
returns-in_default-sender_of-clause-none c = λ gifts a.
    let l = c.loop-line in
    let found = given_line c.args.left.now c.args.finished c.args.text.now l.rest.now c.in-Some.line.now c.in-Some.behind.now l.left l.count 0 l.invariant c.in-Some.ensures
    (λ g gives. absurd (none-some g.sender (c.in_default-sender_of.ensures.given g gives))) (record { places = 0; is_open = true }) gifts a in
    absurd (none-some found.0.sender (c.in_default-sender_of.ensures.given found.0 found.1))

pub overflow_add-result : goal.overflow_add-result
overflow_add-result c =
    let within = count_within c.args.left.now c.args.finished c.args.text.now c.loop-line.rest.now c.in-Some.line.now c.in-Some.behind.now c.loop-line.left c.loop-line.count c.loop-line.invariant c.in-Some.ensures in
    search (rules, within)

pub overflow_add-count : goal.overflow_add-count
overflow_add-count c =
    let within = count_within c.args.left.now c.args.finished c.args.text.now c.loop-line.rest.now c.in-Some.line.now c.in-Some.behind.now c.loop-line.left c.loop-line.count c.loop-line.invariant c.in-Some.ensures in
    search (rules, within)

pub returns-then-not-take-clause-past : goal.returns-then-not-take-clause-past
returns-then-not-take-clause-past c =
    let l = c.loop-line in
    line_past c.args.left.now c.args.finished c.args.text.now l.rest.now c.in-Some.line.now c.in-Some.behind.now l.left l.count c.in-Some-sender_of.sender l.invariant c.in-Some.ensures
    (λ g gives. same_Some _ _ (c.in-Some-sender_of.ensures.given g gives)) _ (c.take.ensures.past c.if-not-take.true)

pub loop-line-preserved : goal.loop-line-preserved
loop-line-preserved c =
    let l = c.loop-line in
    one_taken c.args.left.now c.args.finished c.args.text.now l.rest.now c.in-Some.line.now c.in-Some.behind.now l.left l.count c.in-Some-sender_of.sender l.invariant c.in-Some.ensures
    (λ g gives. same_Some _ _ (c.in-Some-sender_of.ensures.given g gives)) _ c.take.new.self (c.take.ensures.taken c.if-not-take.false)
