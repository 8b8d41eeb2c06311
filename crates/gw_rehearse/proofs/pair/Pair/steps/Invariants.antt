use Rattle.gw_rehearse.specs.Together.{StaysSound}
use Rattle.gw_rehearse.proofs.pair.Pair.steps.Given as goal

abbrev pub invariant-loop-step : goal.invariant-loop-step
invariant-loop-step g l = StaysSound l.fn.self l.pair
