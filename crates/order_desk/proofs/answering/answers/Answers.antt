use Rattle.std.proofs.Common.{◌≡◌, ℤ, List, map, IfOk, sym, ap, ◌∙◌, subst, arith}
use Rattle.std.specs.Int.{w64}
use Rattle.std.specs.List.{AllByRecursion}
use Rattle.std.proofs.lemmas.Int.{to_z-of_z}
use Rattle.order_desk.specs.declared.report.Report.{Report}
use Rattle.order_desk.specs.Orders.{order_in}
use Rattle.order_desk.specs.Reports.{InRange, reports_of, report_bytes, list_of}
use Rattle.order_desk.proofs.answering.answers.Goals as goal

pub written-requires-clause-range : goal.written-requires-clause-range
written-requires-clause-range c =
    let found = order_in c.args.plan.now c.args.payload.now in
    let listed : list_of c.reports_on-list.result ≡ reports_of c.args.desk c.args.reference found =
    c.reports_on-list.ensures ∙ ap (λ (z : ℤ). reports_of c.args.desk z found) (to_z-of_z w64 c.args.reference c.ranges.reference) in
    subst (λ (rs : List Report). AllByRecursion InRange rs) (sym listed)
    (c.reports_in_range.ensures.law c.args.plan.now c.args.desk c.args.reference c.args.payload.now (omega arith))

pub returns : goal.returns
returns c =
    let found = order_in c.args.plan.now c.args.payload.now in
    let listed : list_of c.reports_on-list.result ≡ reports_of c.args.desk c.args.reference found =
    c.reports_on-list.ensures ∙ ap (λ (z : ℤ). reports_of c.args.desk z found) (to_z-of_z w64 c.args.reference c.ranges.reference) in
    record { answers = subst (λ (rs : List Report). IfOk c.written.result (λ payloads. payloads ≡ map (report_bytes c.args.plan.now) rs)) listed c.written.ensures }
