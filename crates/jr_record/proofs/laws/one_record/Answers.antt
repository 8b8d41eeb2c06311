use Rattle.jr_record.proofs.Spelling.{one}
use Rattle.jr_record.proofs.laws.one_record.Goals as goal

pub returns : goal.returns
returns c = one
