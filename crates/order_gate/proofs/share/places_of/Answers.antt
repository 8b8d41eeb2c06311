use Rattle.std.proofs.Common.{rules, arith, ◌+◌}
use Rattle.order_gate.proofs.Shares.{place_taken, place_passed}
use Rattle.order_gate.proofs.share.places_of.Goals as goal
use Rattle.order_gate.proofs.share.places_of.Goals.{then-is_for+in_ok-push, else-is_for}

pub loop-place-preserved : goal.loop-place-preserved
loop-place-preserved c =
    let d = c.args.call.now.desks in
    let n = c.args.call.now.turn + 1 in
    let k = c.loop-place.place in
    elim c.if-is_for.branch [
      | then-is_for+in_ok-push w ↦ place_taken d c.args.number n 0 k c.loop-place.list.items c.if-is_for.list.items c.loop-place.invariant (search rules) k (omega arith) (search rules)
      | else-is_for w ↦ place_passed d c.args.number n 0 k c.loop-place.list.items c.if-is_for.list.items c.loop-place.invariant (search rules) (search rules)
    ]
