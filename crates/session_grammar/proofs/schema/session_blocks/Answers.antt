-- The law, as it is computed of its definition.
use Rattle.session_grammar.proofs.Computed.{session_blocks}
use Rattle.session_grammar.proofs.schema.session_blocks.Goals as goal

pub returns : goal.returns
returns c = record { law = session_blocks }
