use Rattle.std.proofs.Common.{◌++◌, [], ◌∷◌, take, map, All, sym, ap, ◌∙◌, subst}
use Rattle.std.proofs.lemmas.List.{map_more}
use Rattle.std.proofs.lemmas.List.Elements.{All-push}
use Rattle.fixp_msgs.specs.Payload.{IsApplication}
use Rattle.order_desk.specs.Reports.{report_bytes}
use Rattle.order_book_gate.proofs.writing.written.Goals as goal

pub loop-report-preserved : goal.loop-report-preserved
loop-report-preserved c =
    let f = report_bytes c.args.plan.now in
    let x = c.in_ok-write_report.field-0 in
    let xs = map f (take c.loop-report.report-index c.args.reports.now) in
    record {
      bytes = c.in_ok-push.ensures.ok ∙ ap (λ l. l ++ x ∷ []) c.loop-report.invariant.bytes ∙ ap (λ y. xs ++ y ∷ []) c.in_ok-write_report.ensures.bytes
          ∙ sym (map_more f c.args.reports.now c.loop-report.report-index _ c.loop-report-test.true);
      applications = subst (λ l. All IsApplication l) (sym c.in_ok-push.ensures.ok)
          (All-push IsApplication c.loop-report.list x c.loop-report.invariant.applications c.in_ok-write_report.ensures.application);
    }
