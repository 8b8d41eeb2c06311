use Rattle.std.proofs.Common.{rules, ◌≡◌, true, length, slice_index_or, sym, ap, ◌∙◌, subst, arith}
use Rattle.order_gate.specs.Desks.{IsAble}
use Rattle.order_gate.proofs.Settling.{all_able}
use Rattle.order_gate.proofs.desks.DesksBusiness.give_hands.Goals as goal

pub returns-clause-ready : goal.returns-clause-ready
returns-clause-ready g c = λ lock senders has few k h inside.
    let d = c.args.self.now in
    let counted : d.counted ≡ true = search (rules, c.if-not-self.false) in
    let e = c.from.ensures ∙ ap (λ v. v.items) c.replace-hands.ensures.value in
    let long = ap length e in
    subst (λ xs. IsAble lock senders (slice_index_or xs k h)) (sym e) (all_able lock d has counted senders few k h (omega (arith, inside, long, has.hands.long)))
