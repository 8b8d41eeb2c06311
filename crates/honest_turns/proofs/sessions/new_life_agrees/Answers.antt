use Rattle.honest_turns.proofs.Renewing.{new_life_agrees}
use Rattle.honest_turns.proofs.sessions.new_life_agrees.Goals as goal

pub returns : goal.returns
returns c = record { law = new_life_agrees }
