use Rattle.std.proofs.Common.{◌≡◌, filter, nat_cmp, ap, ◌∙◌}
use Rattle.std.specs.BTreeMap.{get}
use Rattle.order_book.specs.Book.{fills_of}
use Rattle.order_book.specs.Index.{is_met, met, walked}
use Rattle.order_book.proofs.Maps.{ok_then, met_fills}
use Rattle.order_book.proofs.shelf.Shelf.fills.Goals as goal

pub returns : goal.returns
returns c =
    let s = c.self.inside in
    let o = c.args.incoming.now in
    ok_then c.fills_in.result
    (λ fills. fills.items ≡ walked o.quantity (met (get nat_cmp s.orders) (filter (is_met o) s.queue.keys)))
    (λ fills. fills.items ≡ fills_of o c.args.self.now)
    (λ fills h. h ∙ (met_fills s.orders s.arrivals s.queue s.next c.self.invariant o c.fills_in.ensures.ordered ∙ ap (λ rs. fills_of o rs) c.self.view_is))
    c.fills_in.ensures.fills
