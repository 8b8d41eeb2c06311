use Rattle.std.proofs.Common.{arith}
use Rattle.conn_loop.specs.Conn.{line_of}
use Rattle.cases_made.proofs.Driving.{passes_made, made_stands}
use Rattle.cases_made.proofs.driven.DrivenEnd.open_within.Goals as goal

pub close-requires : goal.close-requires
close-requires c =
    let s = c.requires.senders in
    (omega arith, (passes_made c.in-Ok.gate c.in-Ok.passes c.args.setup.senders s.0 s.1 c.in-Ok.ensures.made c.in-Ok.ensures.senders).back)

pub invariant_of-result : goal.invariant_of-result
invariant_of-result c =
    let s = c.requires.senders in (
      passes_made c.in-Ok.gate c.in-Ok.passes c.args.setup.senders s.0 s.1 c.in-Ok.ensures.made c.in-Ok.ensures.senders,
      made_stands c.in-Ok.gate c.in-Ok.passes c.args.setup.senders _ (line_of c.in-Some.conn) c.in_ok-inbox.inbox c.in-Ok.ensures.made c.in-Some.ensures.may,
    )
