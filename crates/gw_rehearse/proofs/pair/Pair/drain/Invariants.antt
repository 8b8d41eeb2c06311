use Rattle.gw_rehearse.specs.Together.{StaysSound}
use Rattle.gw_rehearse.proofs.pair.Pair.drain.Given as goal

abbrev pub invariant-loop : goal.invariant-loop
invariant-loop g l = StaysSound l.fn.self l.self
