use Rattle.honest_turns.proofs.Renewing.{session_holds}
use Rattle.honest_turns.proofs.sessions.session_holds.Goals as goal

pub returns : goal.returns
returns c = record { law = session_holds }
