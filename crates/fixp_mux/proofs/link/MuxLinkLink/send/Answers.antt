-- A send changes no number of sessions.
use Rattle.std.proofs.Common.{arith}
use Rattle.fixp_mux.proofs.Placing.{length-changes}
use Rattle.fixp_mux.proofs.link.MuxLinkLink.send.Goals as goal

pub invariant_of-self : goal.invariant_of-self
invariant_of-self c =
    record { within = omega (arith, c.args.self.now.within, length-changes c.args.self.now.place _ c.args.self.now.mux.now.sessions c.send.new.self.sessions c.send.ensures.taken.session) }
