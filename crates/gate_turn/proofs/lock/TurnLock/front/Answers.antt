use Rattle.std.proofs.Common.{rules}
use Rattle.gate_turn.proofs.Moves.{looks}
use Rattle.gate_turn.proofs.lock.TurnLock.front.Goals as goal

pub load-requires : goal.load-requires
load-requires g c = (c.requires.own, search rules, looks g.T.Logged.tells _ _ _ _ c.args.pass.now.knows)
