use Rattle.std.proofs.Common.{refl, sym, ap}
use Rattle.gw_rehearse.specs.Standing.{is_failed, is_given}
use Rattle.gw_rehearse.proofs.Stories.{answered_between, answered_ended, answered_over}
use Rattle.gw_rehearse.proofs.end.DrivenEnd.resume.Goals as goal

pub returns-clause-sound : goal.returns-clause-sound
returns-clause-sound g c = λ yes. ap is_given (c.is_resting.ensures yes)

pub returns-clause-sees : goal.returns-clause-sees
returns-clause-sees g c = λ yes. c.see_end.ensures.sees (ap is_given (c.is_resting.ensures yes)) (ap is_failed (c.is_resting.ensures yes))

pub returns-clause-stands : goal.returns-clause-stands
returns-clause-stands g c = λ yes b legs k.
    let answered = c.see_end.ensures.answered in
    answered_between b legs _ _ answered (c.is_resting.ensures yes) (c.take_place.ensures.stands (answered_over _ _ answered (c.is_resting.ensures yes)) b legs k)

pub returns-clause-ended : goal.returns-clause-ended
returns-clause-ended g c = λ b legs first k. answered_ended b legs _ _ c.see_end.ensures.answered (c.take_place.ensures.ended b legs first k)
