use Rattle.stranger_laws.proofs.Rows.{keyless_records_nothing}
use Rattle.stranger_laws.proofs.replied.keyless_records_nothing.Goals as goal

pub returns : goal.returns
returns c = record { law = keyless_records_nothing }
