use Rattle.sbe_encode.proofs.Clear as clear
use Rattle.sbe_encode.proofs.laws.faultless_where_writable.Goals as goal

pub returns : goal.returns
returns c = record { law = clear.faultless_where_writable }
