use Rattle.std.proofs.Common.{ap}
use Rattle.std.proofs.lemmas.Bool.{leb-true}
use Rattle.conn_out.specs.Messages.{messages_of}
use Rattle.conn_out.proofs.behind.is_up_to.Goals as goal

pub returns-in-Apply-clause-tells : goal.returns-in-Apply-clause-tells
returns-in-Apply-clause-tells c = λ yes. record {
  message = record { number = c.in-Apply.number; payload = c.in-Apply.payload };
  tells = ap messages_of c.in-Apply.is;
  up_to = leb-true c.in-Apply.number c.args.last yes;
}
