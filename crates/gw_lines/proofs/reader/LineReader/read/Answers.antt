use Rattle.std.proofs.Common.{ap}
use Rattle.gw_lines.specs.Reading.{Reading}
use Rattle.gw_lines.proofs.Steps.{read_more}
use Rattle.gw_lines.proofs.reader.LineReader.read.Goals as goal

pub returns-clause-given : goal.returns-clause-given
returns-clause-given g c = λ read lines h. read_more read lines c.args.self.now _ h c.requires (ap (λ (r : Reading). r.number) c.self.view_is) (ap (λ (r : Reading). r.front) c.self.view_is)
