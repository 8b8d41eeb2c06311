-- One more frame was given out, or passed.
use Rattle.std.proofs.Common.{Ok, subst}
use Rattle.fixp_mux.specs.Stepping.{IsFirstGiven, during}
use Rattle.fixp_mux.specs.declared.reading.First.{First}
use Rattle.fixp_mux.proofs.Doing.{gives_none, gives_pass, gives_then}
use Rattle.fixp_mux.proofs.router.Router.give_out.Goals as goal

pub loop-gave_one-init : goal.loop-gave_one-init
loop-gave_one-init c = gives_none (during c.args.self.now) c.args.self.now.counted

pub loop-gave_one-preserved-in-Gave : goal.loop-gave_one-preserved-in-Gave
loop-gave_one-preserved-in-Gave c =
    let m = during c.loop-gave_one.self in
    let n = during c.give_first.new.self in
    gives_then (during c.args.self.now) m n c.loop-gave_one.gave_one c.loop-gave_one.invariant (subst (λ (f : First). IsFirstGiven m (Ok f) n) c.in-Gave.is c.in_ok-give_first.ensures.given)

pub loop-gave_one-preserved : goal.loop-gave_one-preserved
loop-gave_one-preserved c =
    let m = during c.loop-gave_one.self in
    let n = during c.give_first.new.self in
    gives_pass (during c.args.self.now) m n c.loop-gave_one.gave_one c.loop-gave_one.invariant (subst (λ (f : First). IsFirstGiven m (Ok f) n) c.in-Passed.is c.in_ok-give_first.ensures.given)
