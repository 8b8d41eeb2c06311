use Rattle.text_names.proofs.ShownBack.{shown_back}
use Rattle.text_names.proofs.laws.shown_reads_back.Goals as goal

pub returns : goal.returns
returns c = record { law = shown_back }
