-- The law, as it is proved of its definition.
use Rattle.cmd_config.proofs.Unknown.{unknown_key_is_least}
use Rattle.cmd_config.proofs.laws.unknown_key_is_least.Goals as goal

pub returns : goal.returns
returns c = record { law = unknown_key_is_least }
