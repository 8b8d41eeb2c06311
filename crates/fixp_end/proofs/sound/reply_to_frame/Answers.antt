use Rattle.std.proofs.Common.{sym, subst, arith}
use Rattle.fixp_replies.specs.Facts.{around_of}
use Rattle.fixp_replies.specs.Incoming.{incoming_of}
use Rattle.fixp_replies.specs.Outcomes.{Outcome}
use Rattle.fixp_replies.specs.Outgoing.{outcome_of}
use Rattle.fixp_machine.specs.Fitting.{Fits}
use Rattle.fixp_machine.specs.Machine.{WindowStays}
use Rattle.fixp_machine.specs.Sound.{KeepsSound, KeepsHeld}
use Rattle.fixp_end.proofs.Doing.{serves_next}
use Rattle.fixp_end.proofs.Held.{plain_stays, may_hold, hold_near}
use Rattle.fixp_end.proofs.sound.reply_to_frame.Goals as goal

pub returns-clause-takes : goal.returns-clause-takes
returns-clause-takes c =
    let x = around_of c.args.around.now in
    let i = incoming_of c.args.incoming.now in
    (subst (λ (o : Outcome). Fits x.config x.most c.args.facts.now i o) (sym c.reply_to.ensures.reply) (c.acts_fit.ensures.law.frames x c.args.facts.now i (omega (arith, c.requires.most)) c.requires.sound c.requires.fits)).takes

pub returns-clause-recorded : goal.returns-clause-recorded
returns-clause-recorded c =
    let x = around_of c.args.around.now in
    let i = incoming_of c.args.incoming.now in
    (subst (λ (o : Outcome). Fits x.config x.most c.args.facts.now i o) (sym c.reply_to.ensures.reply) (c.acts_fit.ensures.law.frames x c.args.facts.now i (omega (arith, c.requires.most)) c.requires.sound c.requires.fits)).recorded

pub returns-clause-serves : goal.returns-clause-serves
returns-clause-serves c =
    let x = around_of c.args.around.now in
    let i = incoming_of c.args.incoming.now in
    serves_next x.config x.most c.args.facts.now i (outcome_of x.config c.reply_to.result c.reply_to.new.facts) c.requires.serves
    (subst (λ (o : Outcome). Fits x.config x.most c.args.facts.now i o) (sym c.reply_to.ensures.reply) (c.acts_fit.ensures.law.frames x c.args.facts.now i (omega (arith, c.requires.most)) c.requires.sound c.requires.fits))

pub returns-clause-keeps : goal.returns-clause-keeps
returns-clause-keeps c =
    let x = around_of c.args.around.now in
    let i = incoming_of c.args.incoming.now in
    subst (λ (o : Outcome). KeepsSound x.config x.most c.args.facts.now o) (sym c.reply_to.ensures.reply)
    (c.sound_goes_on.ensures.law x c.args.facts.now i (omega (arith, c.requires.most)) c.requires.sound c.requires.fits)

pub returns-clause-still : goal.returns-clause-still
returns-clause-still c is =
    let x = around_of c.args.around.now in
    let i = incoming_of c.args.incoming.now in
    let k = subst (λ (o : Outcome). KeepsSound x.config x.most c.args.facts.now o) (sym c.reply_to.ensures.reply)
    (c.sound_goes_on.ensures.law x c.args.facts.now i (omega (arith, c.requires.most)) c.requires.sound c.requires.fits) in
    plain_stays c.reply_to.result.act c.args.facts.now.recorded.inbox_next c.reply_to.new.facts.recorded.inbox_next is k.advances

pub returns-clause-steps : goal.returns-clause-steps
returns-clause-steps c =
    let x = around_of c.args.around.now in
    let i = incoming_of c.args.incoming.now in
    (subst (λ (o : Outcome). KeepsHeld x.config x.most c.args.facts.now o) (sym c.reply_to.ensures.reply)
    (c.holding_goes_on.ensures.law x c.args.facts.now i c.requires.sound.waits)).steps

pub returns-clause-held_on : goal.returns-clause-held_on
returns-clause-held_on c some =
    let x = around_of c.args.around.now in
    let i = incoming_of c.args.incoming.now in
    (may_hold x.config x.most c.args.facts.now (outcome_of x.config c.reply_to.result c.reply_to.new.facts)
    (subst (λ (o : Outcome). KeepsHeld x.config x.most c.args.facts.now o) (sym c.reply_to.ensures.reply)
    (c.holding_goes_on.ensures.law x c.args.facts.now i c.requires.sound.waits)) some).flow

pub returns-clause-near : goal.returns-clause-near
returns-clause-near c =
    let x = around_of c.args.around.now in
    let i = incoming_of c.args.incoming.now in
    hold_near x.config x.most c.args.facts.now (outcome_of x.config c.reply_to.result c.reply_to.new.facts)
    (subst (λ (o : Outcome). KeepsHeld x.config x.most c.args.facts.now o) (sym c.reply_to.ensures.reply)
    (c.holding_goes_on.ensures.law x c.args.facts.now i c.requires.sound.waits))

pub returns-clause-goes_on : goal.returns-clause-goes_on
returns-clause-goes_on c some =
    let x = around_of c.args.around.now in
    let i = incoming_of c.args.incoming.now in
    (may_hold x.config x.most c.args.facts.now (outcome_of x.config c.reply_to.result c.reply_to.new.facts)
    (subst (λ (o : Outcome). KeepsHeld x.config x.most c.args.facts.now o) (sym c.reply_to.ensures.reply)
    (c.holding_goes_on.ensures.law x c.args.facts.now i c.requires.sound.waits)) some).ends_not

pub returns-clause-window : goal.returns-clause-window
returns-clause-window c ending held is w none =
    let x = around_of c.args.around.now in
    let i = incoming_of c.args.incoming.now in
    subst (λ (o : Outcome). WindowStays x c.args.facts.now i o held) (sym c.reply_to.ensures.reply)
    (c.window_goes_on.ensures.law x c.args.facts.now i ending held (omega (arith, c.requires.most)) c.requires.sound is w none)

pub returns-clause-message : goal.returns-clause-message
returns-clause-message c =
    let x = around_of c.args.around.now in
    let i = incoming_of c.args.incoming.now in
    (subst (λ (o : Outcome). Fits x.config x.most c.args.facts.now i o) (sym c.reply_to.ensures.reply) (c.acts_fit.ensures.law.frames x c.args.facts.now i (omega (arith, c.requires.most)) c.requires.sound c.requires.fits)).holds
