-- The law, as it is computed of its definition.
use Rattle.session_grammar.proofs.Computed.{projects_to_zero}
use Rattle.session_grammar.proofs.schema.projects_to_zero.Goals as goal

pub returns : goal.returns
returns c = record { law = projects_to_zero }
