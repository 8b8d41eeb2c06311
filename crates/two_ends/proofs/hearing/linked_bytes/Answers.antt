use Rattle.two_ends.proofs.Heard.{linked_bytes}
use Rattle.two_ends.proofs.hearing.linked_bytes.Goals as goal

pub returns : goal.returns
returns c = record { law = linked_bytes }
