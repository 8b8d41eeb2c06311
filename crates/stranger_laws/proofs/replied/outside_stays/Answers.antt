use Rattle.stranger_laws.proofs.Rows.{outside_stays}
use Rattle.stranger_laws.proofs.replied.outside_stays.Goals as goal

pub returns : goal.returns
returns c = record { law = outside_stays }
