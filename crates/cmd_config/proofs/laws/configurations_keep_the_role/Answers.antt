-- The law, as it is proved of its definition.
use Rattle.cmd_config.proofs.Kept.{configurations_keep_the_role}
use Rattle.cmd_config.proofs.laws.configurations_keep_the_role.Goals as goal

pub returns : goal.returns
returns c = record { law = configurations_keep_the_role }
