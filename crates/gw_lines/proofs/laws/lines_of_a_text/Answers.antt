-- The law, as it is proved of its definition.
use Rattle.gw_lines.proofs.TextLines.{lines_of_a_text}
use Rattle.gw_lines.proofs.laws.lines_of_a_text.Goals as goal

pub returns : goal.returns
returns c = record { law = lines_of_a_text }
