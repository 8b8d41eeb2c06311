use Rattle.std.proofs.Common.{◌≡◌, ap, sym, ◌∙◌, arith, length}
use Rattle.std.proofs.lemmas.Bool.{eqb-true}
use Rattle.gw_fakes.specs.Disks.{pending_from}
use Rattle.gw_fakes.proofs.Pending.{length-from, nothing_from, opened_from}
use Rattle.gw_fakes.proofs.disk.reach.Goals as goal

pub returns-then-is_empty-clause-same : goal.returns-then-is_empty-clause-same
returns-then-is_empty-clause-same c len within there =
    let part = c.args.pending.now.items in
    let empty : length part ≡ 0 = omega (arith, eqb-true _ _ (sym c.is_empty.ensures ∙ c.if-is_empty.true), c.args.pending.now.ok.0) in
    nothing_from c.args.at len part empty (omega (arith, there, within, length-from c.args.low part len, empty)) ∙ sym (nothing_from c.args.low len part empty within)

pub returns-clause-same : goal.returns-clause-same
returns-clause-same c len within there =
    ap (λ l. pending_from c.args.at l len) c.open_front.ensures.items ∙ opened_from c.args.low c.args.at len c.args.pending.now.items (omega (arith, c.if-low-at.false))
