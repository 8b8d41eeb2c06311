use Rattle.life_laws.proofs.Opened.{opened_in_range}
use Rattle.life_laws.proofs.lives.opened_in_range.Goals as goal

pub returns : goal.returns
returns c args = record { law = opened_in_range args.args.inbox.now }
