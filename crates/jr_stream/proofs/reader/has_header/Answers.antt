use Rattle.jr_stream.proofs.Taking.{too_short}
use Rattle.jr_stream.proofs.reader.has_header.Goals as goal

pub returns-in-None-clause-no : goal.returns-in-None-clause-no
returns-in-None-clause-no c = λ is. too_short c.args.format c.args.bytes.now c.in-None.ensures.cases
