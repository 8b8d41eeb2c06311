use Rattle.honest_turns.proofs.Unsent.{writes_replies}
use Rattle.honest_turns.proofs.waiting.writes_replies.Goals as goal

pub returns : goal.returns
returns c = record { law = writes_replies }
