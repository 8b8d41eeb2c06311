use Rattle.turn_laws.proofs.Repacking.{turn_is_one}
use Rattle.turn_laws.proofs.promised.turn_is_one.Goals as goal

pub returns : goal.returns
returns c args = record { law = turn_is_one _ args.args.inbox.now }
