use Rattle.std.proofs.Common.{le_refl}
use Rattle.conn_loop.specs.Conn.{line_of}
use Rattle.cases_made.proofs.Driving.{stands_at}
use Rattle.cases_made.proofs.driven.DrivenEnd.submit.Goals as goal

pub invariant_of-self : goal.invariant_of-self
invariant_of-self g c = (c.submit.ensures.has, stands_at c.self.inside.standing (line_of c.self.inside.conn) _ _ _ _ c.self.inside.inbox (le_refl _) c.submit.ensures.connection c.self.invariant.1)
