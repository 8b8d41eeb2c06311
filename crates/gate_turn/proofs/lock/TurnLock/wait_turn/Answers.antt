use Rattle.std.proofs.Common.{rules, ap, ◌∙◌}
use Rattle.gate_turn.specs.Views.{View, part_of}
use Rattle.gate_turn.proofs.Puts.{one_view}
use Rattle.gate_turn.proofs.Moves.{draws, serves}
use Rattle.gate_turn.proofs.lock.TurnLock.wait_turn.Goals as goal

pub fetch_add-ticket-requires : goal.fetch_add-ticket-requires
fetch_add-ticket-requires g c = (c.requires.own, search rules, draws g.T.Logged.tells _ _ _ _ c.requires.one c.requires.ticket c.requires.held)

pub load-serving-requires : goal.load-serving-requires
load-serving-requires g c = let i = c.loop.invariant in (
  i.2 ∙ c.requires.own,
  search rules,
  serves g.T.Logged.tells _ _ _ _ i.0 (one_view _ _ i.3) i.4 (ap (λ (v : View). (part_of v).ticket) i.3) (ap (λ (v : View). (part_of v).held) i.3 ∙ c.requires.held),
)
