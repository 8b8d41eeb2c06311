use Rattle.life_laws.proofs.Behind.{life_opens}
use Rattle.life_laws.proofs.lives.life_opens.Goals as goal

pub returns : goal.returns
returns c args = record { law = life_opens args.args.inbox.now }
