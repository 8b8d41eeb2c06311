use Rattle.gw_rehearse.specs.Together.{StaysSound}
use Rattle.gw_rehearse.proofs.pair.Pair.rounds.Given as goal

abbrev pub invariant-loop-done : goal.invariant-loop-done
invariant-loop-done g l = StaysSound l.fn.self l.self
