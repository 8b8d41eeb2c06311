use Rattle.std.proofs.Common.{◌≡◌, Some, None, nat_cmp, sym, ap, ◌∙◌}
use Rattle.std.specs.BTreeMap.{get, values}
use Rattle.order_book.specs.Book.{order_with}
use Rattle.order_book.specs.Index.{replaced}
use Rattle.order_book.proofs.Changes.{replaced_none}
use Rattle.order_book.proofs.Maps.{an_order, no_order, changed_values, changed_indexed}
use Rattle.order_book.proofs.shelf.Shelf.leave.Goals as goal

pub returns-in_default : goal.returns-in_default
returns-in_default c =
    let s = c.self.inside in
    let none = no_order s.orders s.arrivals s.queue s.next c.self.invariant c.args.cl_id (sym c.get.ensures.value ∙ (sym c.copied.ensures ∙ c.in_default.is)) in
    sym (replaced_none c.args.self.now c.args.cl_id c.args.quantity (ap (λ rs. order_with c.args.cl_id rs) (sym c.self.view_is) ∙ none))

pub returns-in_default-copied : goal.returns-in_default-copied
returns-in_default-copied c =
    let s = c.self.inside in
    let number : get nat_cmp s.arrivals c.args.cl_id ≡ Some c.in-Some.arrival = sym c.get.ensures.value ∙ (sym c.copied.ensures ∙ c.in-Some.is) in
    let none : order_with c.args.cl_id (values s.orders) ≡ None =
    sym (an_order s.orders s.arrivals s.queue s.next c.self.invariant c.args.cl_id c.in-Some.arrival number)
    ∙ (sym c.get-2.ensures.value ∙ (sym c.copied-2.ensures ∙ c.in_default-copied.is)) in
    sym (replaced_none c.args.self.now c.args.cl_id c.args.quantity (ap (λ rs. order_with c.args.cl_id rs) (sym c.self.view_is) ∙ none))

pub invariant_of-self : goal.invariant_of-self
invariant_of-self c =
    let s = c.self.inside in
    let there : get nat_cmp s.orders c.in-Some.arrival ≡ Some c.in-Some-copied.order = sym c.get-2.ensures.value ∙ (sym c.copied-2.ensures ∙ c.in-Some-copied.is) in
    changed_indexed s.orders s.arrivals s.queue s.next c.self.invariant c.in-Some.arrival c.args.quantity c.in-Some-copied.order c.insert.new.self there
    c.in-Ok.ensures.ordered c.in-Ok.ensures.updates.0

pub returns : goal.returns
returns c =
    let s = c.self.inside in
    let number : get nat_cmp s.arrivals c.args.cl_id ≡ Some c.in-Some.arrival = sym c.get.ensures.value ∙ (sym c.copied.ensures ∙ c.in-Some.is) in
    let there : get nat_cmp s.orders c.in-Some.arrival ≡ Some c.in-Some-copied.order = sym c.get-2.ensures.value ∙ (sym c.copied-2.ensures ∙ c.in-Some-copied.is) in
    changed_values s.orders s.arrivals s.queue s.next c.self.invariant c.args.cl_id c.in-Some.arrival c.args.quantity c.in-Some-copied.order c.insert.new.self.entries number there c.in-Ok.ensures.entries
    ∙ ap (λ rs. replaced c.args.cl_id c.args.quantity rs) c.self.view_is
