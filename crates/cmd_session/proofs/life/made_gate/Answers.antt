use Rattle.std.proofs.Common.{arith}
use Rattle.gate_senders.specs.Gate.{opening_of}
use Rattle.cmd_session.proofs.Opened.{few_entries}
use Rattle.cmd_session.proofs.life.made_gate.Goals as goal

pub returns-in-Ok-clause-sent : goal.returns-in-Ok-clause-sent
returns-in-Ok-clause-sent g c = omega (arith, c.requires.few_entries, few_entries c.args.outbox (opening_of c.in-Ok.made.0).history c.in-Ok.ensures.opened.holds)
