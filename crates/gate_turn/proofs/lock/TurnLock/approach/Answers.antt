use Rattle.std.proofs.Common.{rules, ◌∙◌}
use Rattle.gate_turn.proofs.Moves.{notes}
use Rattle.gate_turn.proofs.lock.TurnLock.approach.Goals as goal

pub store-requires : goal.store-requires
store-requires g c = (c.loop.invariant.own ∙ c.requires.own, search rules, notes g.T.Logged.tells _ _ _ _ _)
