use Rattle.std.proofs.Common.{◌≡◌, Some, None, false, cond, is_eq, nat_cmp, sym, ap, ◌∙◌}
use Rattle.std.specs.Map.{values_of}
use Rattle.std.specs.BTreeMap.{get, values}
use Rattle.std.specs.BTreeSet.{contains}
use Rattle.order_book.specs.declared.place.Place.{Place}
use Rattle.order_book.specs.Book.{order_with, without}
use Rattle.order_book.specs.Index.{place_cmp, place_of}
use Rattle.order_book.proofs.Changes.{without_none}
use Rattle.order_book.proofs.Maps.{an_order, no_order, taken_values, taken_indexed}
use Rattle.order_book.proofs.shelf.Shelf.take.Goals as goal

pub returns-in_default : goal.returns-in_default
returns-in_default c =
    let s = c.self.inside in
    let none = no_order s.orders s.arrivals s.queue s.next c.self.invariant c.args.cl_id (sym c.get.ensures.value ∙ (sym c.copied.ensures ∙ c.in_default.is)) in
    sym (without_none c.args.self.now c.args.cl_id (ap (λ rs. order_with c.args.cl_id rs) (sym c.self.view_is) ∙ none))

pub returns-in_default-remove : goal.returns-in_default-remove
returns-in_default-remove c =
    let s = c.self.inside in
    let number : get nat_cmp s.arrivals c.args.cl_id ≡ Some c.in-Some.arrival = sym c.get.ensures.value ∙ (sym c.copied.ensures ∙ c.in-Some.is) in
    let none : order_with c.args.cl_id (values s.orders) ≡ None =
    sym (an_order s.orders s.arrivals s.queue s.next c.self.invariant c.args.cl_id c.in-Some.arrival number) ∙ sym c.in_default-remove.ensures.value in
    ap (λ es. values_of es) c.in_default-remove.ensures.unchanged
    ∙ (sym (without_none (values s.orders) c.args.cl_id none) ∙ ap (λ rs. without c.args.cl_id rs) c.self.view_is)

pub invariant_of-self-2 : goal.invariant_of-self-2
invariant_of-self-2 c =
    let s = c.self.inside in
    let number : get nat_cmp s.arrivals c.args.cl_id ≡ Some c.in-Some.arrival = sym c.get.ensures.value ∙ (sym c.copied.ensures ∙ c.in-Some.is) in
    let there : get nat_cmp s.orders c.in-Some.arrival ≡ Some c.in-Some-remove.order = sym c.in-Some-remove.ensures.value in
    let places : (q : Place) → contains place_cmp c.remove-3.new.self q ≡ cond (is_eq (place_cmp (place_of c.in-Some.arrival c.in-Some-remove.order) q)) false (contains place_cmp s.queue q) =
    λ q. c.remove-3.ensures.updates.0 q ∙ ap (λ p. cond (is_eq (place_cmp p q)) false (contains place_cmp s.queue q)) c.place_of.ensures.place in
    taken_indexed s.orders s.arrivals s.queue s.next c.self.invariant c.args.cl_id c.in-Some.arrival c.in-Some-remove.order
    c.remove.new.self c.remove-2.new.self c.remove-3.new.self number there c.in-Some-remove.ensures.ordered c.in-Some-remove.ensures.updates.0 c.remove-2.ensures.updates.0 places

pub returns : goal.returns
returns c =
    let s = c.self.inside in
    let number : get nat_cmp s.arrivals c.args.cl_id ≡ Some c.in-Some.arrival = sym c.get.ensures.value ∙ (sym c.copied.ensures ∙ c.in-Some.is) in
    let there : get nat_cmp s.orders c.in-Some.arrival ≡ Some c.in-Some-remove.order = sym c.in-Some-remove.ensures.value in
    taken_values s.orders s.arrivals s.queue s.next c.self.invariant c.args.cl_id c.in-Some.arrival c.in-Some-remove.order c.remove.new.self.entries number there c.in-Some-remove.ensures.entries
    ∙ ap (λ rs. without c.args.cl_id rs) c.self.view_is
