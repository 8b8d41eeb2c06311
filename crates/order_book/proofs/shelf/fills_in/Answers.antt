use Rattle.std.proofs.Common.{◌++◌, is_gt, nat_cmp, sym, ap, ◌∙◌, append-nil}
use Rattle.std.specs.BTreeMap.{get}
use Rattle.order_book.specs.Index.{place_cmp, met, walked}
use Rattle.order_book.proofs.Walk.{walked_none}
use Rattle.order_book.proofs.Queue.{forward}
use Rattle.order_book.proofs.shelf.fills_in.Goals as goal

pub range-place-items-requires : goal.range-place-items-requires
range-place-items-requires c =
    (λ i. is_gt (place_cmp ((c.new.ensures.start ∙ c.front_of.ensures) i) ((c.new.ensures.end ∙ c.end_of.ensures.end) i)))
    ∙ forward c.args.incoming.now c.end_of.ensures.low

pub returns-then-left-eq0-clause-fills : goal.returns-then-left-eq0-clause-fills
returns-then-left-eq0-clause-fills c =
    let ws = met (get nat_cmp c.args.orders.now) c.loop-place.place-iterator in
    sym (append-nil c.loop-place.fills.items)
    ∙ (ap (λ l. c.loop-place.fills.items ++ l) (sym (ap (λ n. walked n ws) c.if-left-eq0.true ∙ walked_none ws)) ∙ c.loop-place.invariant)
