use Rattle.std.proofs.Common.{rules, ◌≡◌, ℕ, ◌<◌, length, slice_index_or, sym, ap, ◌∙◌, subst, arith}
use Rattle.std.proofs.lemmas.List.{with_items_is}
use Rattle.std.specs.Vec.{with_items}
use Rattle.gate_staff.specs.Business.{lock_of}
use Rattle.order_gate.specs.declared.hand.Hand.{Hand}
use Rattle.order_gate.specs.Desks.{Counted}
use Rattle.order_gate.proofs.Settling.{begun_own, begun_stands, begun_silent}
use Rattle.order_gate.proofs.desks.DesksBusiness.begin.Goals as goal

pub returns-clause-own : goal.returns-clause-own
returns-clause-own g c =
    let d = c.args.self.now in
    let xs = c.count_each.new.hands in
    let same = c.as_mut_slice.ensures.value in
    let long = c.count_each.ensures.long ∙ ap length same in
    let is : (with_items d.hands xs).items ≡ xs = with_items_is d.hands xs (long ∙ sym d.hands.ok.0) in
    begun_own (lock_of c.args.gate.now) d c.requires.own (record d { hands = with_items d.hands xs }) (ap length is ∙ long)
    (subst (λ ys. (i : ℕ) (h : Hand _ _ _) → i < length d.hands.items → Counted (lock_of c.args.gate.now) (slice_index_or d.hands.items i h) (slice_index_or ys i h)) (sym is)
    (subst (λ ys. (i : ℕ) (h : Hand _ _ _) → i < length ys → Counted (lock_of c.args.gate.now) (slice_index_or ys i h) (slice_index_or xs i h)) same c.count_each.ensures.each))

pub returns-clause-stands : goal.returns-clause-stands
returns-clause-stands g c =
    let d = c.args.self.now in
    let xs = c.count_each.new.hands in
    let same = c.as_mut_slice.ensures.value in
    let long = c.count_each.ensures.long ∙ ap length same in
    let is : (with_items d.hands xs).items ≡ xs = with_items_is d.hands xs (long ∙ sym d.hands.ok.0) in
    begun_stands (lock_of c.args.gate.now) d c.requires.own (record d { hands = with_items d.hands xs }) (ap length is ∙ long)
    (subst (λ ys. (i : ℕ) (h : Hand _ _ _) → i < length d.hands.items → Counted (lock_of c.args.gate.now) (slice_index_or d.hands.items i h) (slice_index_or ys i h)) (sym is)
    (subst (λ ys. (i : ℕ) (h : Hand _ _ _) → i < length ys → Counted (lock_of c.args.gate.now) (slice_index_or ys i h) (slice_index_or xs i h)) same c.count_each.ensures.each))

pub returns-clause-silent : goal.returns-clause-silent
returns-clause-silent g c =
    let d = c.args.self.now in
    let xs = c.count_each.new.hands in
    let same = c.as_mut_slice.ensures.value in
    let long = c.count_each.ensures.long ∙ ap length same in
    let is : (with_items d.hands xs).items ≡ xs = with_items_is d.hands xs (long ∙ sym d.hands.ok.0) in
    begun_silent (lock_of c.args.gate.now) d c.requires.own (record d { hands = with_items d.hands xs }) (ap length is ∙ long)
    (subst (λ ys. (i : ℕ) (h : Hand _ _ _) → i < length d.hands.items → Counted (lock_of c.args.gate.now) (slice_index_or d.hands.items i h) (slice_index_or ys i h)) (sym is)
    (subst (λ ys. (i : ℕ) (h : Hand _ _ _) → i < length ys → Counted (lock_of c.args.gate.now) (slice_index_or ys i h) (slice_index_or xs i h)) same c.count_each.ensures.each))
