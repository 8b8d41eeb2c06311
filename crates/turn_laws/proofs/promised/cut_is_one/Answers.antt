use Rattle.turn_laws.proofs.Repacking.{cut_is_one}
use Rattle.turn_laws.proofs.promised.cut_is_one.Goals as goal

pub returns : goal.returns
returns c args = record { law = cut_is_one args.args.inbox.now }
