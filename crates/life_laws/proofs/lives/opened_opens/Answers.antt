use Rattle.life_laws.proofs.Opened.{opened_opens}
use Rattle.life_laws.proofs.lives.opened_opens.Goals as goal

pub returns : goal.returns
returns c args = record { law = opened_opens args.args.inbox.now }
