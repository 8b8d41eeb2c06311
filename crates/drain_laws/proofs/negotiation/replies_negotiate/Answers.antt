use Rattle.drain_laws.proofs.Negotiated.{replies_negotiate}
use Rattle.drain_laws.proofs.negotiation.replies_negotiate.Goals as goal

pub returns : goal.returns
returns c = record { law = replies_negotiate }
