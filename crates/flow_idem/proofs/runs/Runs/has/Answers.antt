use Rattle.std.proofs.Common.{◌≡◌, ◌<◌, ◌-◌, ◌==◌, true, length, get_or, sym, ap, ◌∙◌, arith}
use Rattle.std.specs.List.{list_any}
use Rattle.session_model.specs.Journal.{counts_from}
use Rattle.fixp_msgs.specs.declared.numbering.Range.{Range}
use Rattle.flow_idem.specs.Runs.{Growing}
use Rattle.flow_idem.proofs.Told.{any_found}
use Rattle.flow_idem.proofs.runs.Runs.has.Goals as goal

pub returns-then-counts_to : goal.returns-then-counts_to
returns-then-counts_to c =
    let rs = c.self.inside.whole.items in
    let i = c.loop-run.run-index in
    let n = c.args.number in
    let none : Range = record { from = 0; count = 0 } in
    let within : i < length rs = omega (arith, c.loop-run-test.true, ap length c.deref-run-items.ensures.value) in
    let here : list_any (λ m. m == n) (counts_from (get_or rs i none).from (get_or rs i none).count) ≡ true =
    sym (ap (λ qs. list_any (λ m. m == n) (counts_from (get_or qs i none).from (get_or qs i none).count)) c.deref-run-items.ensures.value)
    ∙ (sym c.counts_to.ensures ∙ c.if-counts_to.true) in
    sym (any_found n rs i none (counts_from c.self.inside.first (c.self.inside.end - c.self.inside.first)) within here)
    ∙ ap (λ (g : Growing). list_any (λ m. m == n) g.numbers) c.self.view_is
