-- The law, as it is computed of its definition.
use Rattle.session_grammar.proofs.Computed.{session_is_checked}
use Rattle.session_grammar.proofs.schema.session_is_checked.Goals as goal

pub returns : goal.returns
returns c = record { law = session_is_checked }
