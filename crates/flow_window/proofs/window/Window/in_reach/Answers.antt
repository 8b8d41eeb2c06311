use Rattle.std.proofs.Common.{arith}
use Rattle.flow_window.proofs.Reach.{held_in_reach}
use Rattle.flow_window.proofs.window.Window.in_reach.Goals as goal

pub returns : goal.returns
returns c =
    let w = c.self.inside in
    rw (← c.self.view_is) (held_in_reach w.next w.places.items (omega (arith, c.self.invariant.len_is, w.places.ok.0)))
