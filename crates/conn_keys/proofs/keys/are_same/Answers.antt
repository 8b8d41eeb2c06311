use Rattle.std.proofs.Common.{arith}
use Rattle.conn_keys.proofs.Bytes.{tests_all}
use Rattle.conn_keys.proofs.keys.are_same.Goals as goal

pub returns : goal.returns
returns c =
    tests_all c.loop-place.same c.args.a.now c.args.b.now c.loop-place.place (record { alike = c.loop-place.invariant.alike; unlike = c.loop-place.invariant.unlike })
    (omega (arith, c.max-place-end.ensures))
