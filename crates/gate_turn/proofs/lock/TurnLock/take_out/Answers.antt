use Rattle.std.proofs.Common.{◌∷◌, Some, sym, ap, ◌∙◌}
use Rattle.atomic_table.specs.Table.{rest}
use Rattle.gate_turn.proofs.lock.TurnLock.take_out.Goals as goal

pub exchange-requires : goal.exchange-requires
exchange-requires g c = let s = c.requires.slot in (c.requires.own, (Some s.0, s.1 ∙ ap (λ r. (0, Some s.0) ∷ rest r) (sym s.1)))
