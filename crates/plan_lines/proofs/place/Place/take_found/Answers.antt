use Rattle.plan_lines.proofs.Taking.{long_err}
use Rattle.plan_lines.proofs.place.Place.take_found.Goals as goal

pub returns-in-TooLong-clause-halts : goal.returns-in-TooLong-clause-halts
returns-in-TooLong-clause-halts c =
    rw c.in-TooLong.is (
    long_err c.args.plan.now c.args.self.now c.args.reader.now.line c.number-in-TooLong.result c.args.reader.now.number c.refuse.result c.number-in-TooLong.ensures c.refuse.ensures)
