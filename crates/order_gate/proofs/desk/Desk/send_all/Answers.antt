use Rattle.std.proofs.Common.{arith}
use Rattle.order_gate.specs.Desks.{known_of}
use Rattle.order_gate.proofs.Parts.{owed_all}
use Rattle.order_gate.proofs.desk.Desk.send_all.Goals as goal

pub returns-then-self-count-clause-reported : goal.returns-then-self-count-clause-reported
returns-then-self-count-clause-reported g c = owed_all (known_of c.args.self.now) c.args.self.now.owed c.args.reports.now (omega (arith, c.if-self-count.true))
