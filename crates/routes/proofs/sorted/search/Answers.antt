-- What stands before the middle is lower too where the middle is, and what stands behind it greater.
use Rattle.std.proofs.Common.{◌+◌, ◌-◌, ◌/◌, ◌<◌, arith}
use Rattle.routes.specs.declared.sorted.Route.{Route}
use Rattle.routes.proofs.Searching.{below_more, above_more}
use Rattle.routes.proofs.sorted.search.Goals as goal

pub loop-low-preserved-then-there-key-2 : goal.loop-low-preserved-then-there-key-2
loop-low-preserved-then-there-key-2 c =
    let d : Route = record { key = 0; place = 0 } in
    let middle = c.loop-low.low + (c.loop-low.high - c.loop-low.low) / 2 in
    let before : middle < c.loop-low.high = omega (arith, c.loop-low-test.true) in (
      omega (arith, before),
      c.loop-low.invariant.1,
      below_more c.args.routes.now c.args.key middle d c.requires.rising (omega (arith, before, c.loop-low.invariant.1)) (omega (arith, c.key_at-there.ensures d, c.if-there-key-2.true)),
      c.loop-low.invariant.3,
    )

pub loop-low-preserved : goal.loop-low-preserved
loop-low-preserved c =
    let d : Route = record { key = 0; place = 0 } in
    let middle = c.loop-low.low + (c.loop-low.high - c.loop-low.low) / 2 in
    let before : middle < c.loop-low.high = omega (arith, c.loop-low-test.true) in (
      omega arith,
      omega (arith, before, c.loop-low.invariant.1),
      c.loop-low.invariant.2,
      above_more c.args.routes.now c.args.key middle d c.requires.rising (omega (arith, before, c.loop-low.invariant.1)) (omega (arith, c.key_at-there.ensures d, c.if-there-key.false, c.if-there-key-2.false)),
    )
