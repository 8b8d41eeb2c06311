use Rattle.std.proofs.Common.{◌≡◌, ◌^◌, ◌<◌, subst, Some, None, true, false, cond, is_eq, is_err, nat_cmp, ◌++◌, ◌∷◌, [], sym, ap, ◌∙◌}
use Rattle.std.specs.BTreeMap.{values, IsUnchanged, Updates, insert_entry}
use Rattle.std.specs.BTreeSet.{contains}
use Rattle.std.specs.BTreeSet as sorted
use Rattle.order_book.specs.Book.{order_with}
use Rattle.order_book.specs.Index.{place_cmp}
use Rattle.order_book.proofs.Maps.{ok_by, err_by, put_values, put_indexed, undone_number, undone_place}
use Rattle.order_book.proofs.shelf.Shelf.put.Goals as goal

pub invariant_of-self-then-is_err : goal.invariant_of-self-then-is_err
invariant_of-self-then-is_err c =
    let s = c.self.inside in
    let fresh : order_with c.args.order.now.cl_id (values s.orders) ≡ None = ap (λ rs. order_with c.args.order.now.cl_id rs) c.self.view_is ∙ c.requires in
    let failed : is_err c.insert-2.result ≡ true = sym c.is_err.ensures.value ∙ c.if-is_err.true in
    undone_number s.orders s.arrivals s.queue s.next c.self.invariant c.args.order.now c.insert.new.self c.remove.new.self c.insert-2.new.self fresh
    (err_by c.insert-2.result (sorted.IsUnchanged s.queue c.insert-2.new.self) c.insert-2.ensures.err failed)
    c.in_ok-insert.ensures.updates.0 c.remove.ensures.updates.0

pub invariant_of-self-then-is_err-2 : goal.invariant_of-self-then-is_err-2
invariant_of-self-then-is_err-2 c =
    let s = c.self.inside in
    let fresh : order_with c.args.order.now.cl_id (values s.orders) ≡ None = ap (λ rs. order_with c.args.order.now.cl_id rs) c.self.view_is ∙ c.requires in
    let put : is_err c.insert-2.result ≡ false = sym c.is_err.ensures.value ∙ c.if-is_err.false in
    let failed : is_err c.insert-3.result ≡ true = sym c.is_err-2.ensures.value ∙ c.if-is_err-2.true in
    let on = ok_by c.insert-2.result (sorted.Updates place_cmp s.queue c.insert-2.new.self c.place_of-place.result true) c.insert-2.ensures.updates put in
    let place = c.place_of-place.ensures.place in
    undone_place s.orders s.arrivals s.queue s.next c.self.invariant c.args.order.now c.insert-3.new.self c.insert.new.self c.remove-then-is_err-2-2.new.self c.insert-2.new.self c.remove-then-is_err-2.new.self fresh
    (err_by c.insert-3.result (IsUnchanged s.orders c.insert-3.new.self) c.insert-3.ensures.err failed)
    c.in_ok-insert.ensures.updates.0 c.remove-then-is_err-2-2.ensures.updates.0
    (λ q. on.0 q ∙ ap (λ p. cond (is_eq (place_cmp p q)) true (contains place_cmp s.queue q)) place)
    (λ q. c.remove-then-is_err-2.ensures.updates.0 q ∙ ap (λ p. cond (is_eq (place_cmp p q)) false (contains place_cmp c.insert-2.new.self q)) place)

pub invariant_of-self-2 : goal.invariant_of-self-2
invariant_of-self-2 c =
    let s = c.self.inside in
    let fresh : order_with c.args.order.now.cl_id (values s.orders) ≡ None = ap (λ rs. order_with c.args.order.now.cl_id rs) c.self.view_is ∙ c.requires in
    let put : is_err c.insert-2.result ≡ false = sym c.is_err.ensures.value ∙ c.if-is_err.false in
    let done : is_err c.insert-3.result ≡ false = sym c.is_err-2.ensures.value ∙ c.if-is_err-2.false in
    let on = ok_by c.insert-2.result (sorted.Updates place_cmp s.queue c.insert-2.new.self c.place_of-place.result true) c.insert-2.ensures.updates put in
    let all = ok_by c.insert-3.result (Updates nat_cmp s.orders c.insert-3.new.self s.next (Some c.args.order.now)) c.insert-3.ensures.updates done in
    put_indexed s.orders s.arrivals s.queue s.next c.self.invariant c.args.order.now c.insert-3.new.self c.insert.new.self c.insert-2.new.self c.in-Some.next fresh
    c.in-Some.ensures.1 (subst (λ z. z < 2 ^ 64) (sym c.in-Some.ensures.1) c.in-Some.ensures.0) c.place_of-place.ensures.low c.insert-3.ensures.ordered all.0 c.in_ok-insert.ensures.updates.0
    (λ q. on.0 q ∙ ap (λ p. cond (is_eq (place_cmp p q)) true (contains place_cmp s.queue q)) c.place_of-place.ensures.place)

pub returns-clause-ok : goal.returns-clause-ok
returns-clause-ok c =
    let s = c.self.inside in
    let done : is_err c.insert-3.result ≡ false = sym c.is_err-2.ensures.value ∙ c.if-is_err-2.false in
    let now = ok_by c.insert-3.result (c.insert-3.new.self.entries ≡ insert_entry nat_cmp s.orders.entries s.next c.args.order.now) c.insert-3.ensures.entries done in
    put_values s.orders s.arrivals s.queue s.next c.self.invariant c.args.order.now c.insert-3.new.self.entries now
    ∙ ap (λ rs. rs ++ c.args.order.now ∷ []) c.self.view_is
