use Rattle.jr_title.proofs.Titles.{reads_back}
use Rattle.jr_title.proofs.laws.reads_back.Goals as goal

pub returns : goal.returns
returns c = record { law = reads_back }
