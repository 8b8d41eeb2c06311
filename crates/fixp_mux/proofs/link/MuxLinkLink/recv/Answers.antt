-- What a receive of a session's link finds.
use Rattle.std.proofs.Common.{length, arith}
use Rattle.fixp_mux.proofs.Linked.{something_of}
use Rattle.fixp_mux.proofs.Placing.{length-changes}
use Rattle.fixp_mux.proofs.link.MuxLinkLink.recv.Goals as goal

pub returns-then-count-gt0-clause-quiet : goal.returns-then-count-gt0-clause-quiet
returns-then-count-gt0-clause-quiet c =
    let m = c.args.self.now.mux.now in
    ((λ e. absurd (cc e)), (λ none. absurd (something_of c.args.self.now.place m c.receive-count.result (length c.args.into.now) c.args.self.now.within c.receive-count.ensures.count c.if-count-gt0.true none.0)))

pub returns-then-count-gt0-clause-end : goal.returns-then-count-gt0-clause-end
returns-then-count-gt0-clause-end c =
    let m = c.args.self.now.mux.now in
    ((λ e. absurd (cc e)), (λ none. absurd (something_of c.args.self.now.place m c.receive-count.result (length c.args.into.now) c.args.self.now.within c.receive-count.ensures.count c.if-count-gt0.true none.0)))

pub invariant_of-self : goal.invariant_of-self
invariant_of-self c =
    record { within = omega (arith, c.args.self.now.within, length-changes c.args.self.now.place _ c.args.self.now.mux.now.sessions c.receive-count.new.self.sessions c.receive-count.ensures.given.session) }
