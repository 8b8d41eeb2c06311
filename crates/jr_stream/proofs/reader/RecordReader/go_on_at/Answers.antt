use Rattle.std.proofs.Common.{refl}
use Rattle.jr_stream.proofs.Taking.{taken_again}
use Rattle.jr_stream.proofs.reader.RecordReader.go_on_at.Goals as goal

pub returns-clause-again : goal.returns-clause-again
returns-clause-again c = taken_again c.args.at _ c.clear.ensures.items refl refl
