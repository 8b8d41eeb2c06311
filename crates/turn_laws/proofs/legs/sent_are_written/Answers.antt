use Rattle.turn_laws.proofs.Sent.{sent_are_written}
use Rattle.turn_laws.proofs.legs.sent_are_written.Goals as goal

pub returns : goal.returns
returns c = record { law = sent_are_written }
