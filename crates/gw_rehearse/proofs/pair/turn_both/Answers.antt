use Rattle.gw_rehearse.proofs.Together.{both_turn, left_turns, lost_back, neither}
use Rattle.gw_rehearse.proofs.pair.turn_both.Goals as goal

pub returns-clause-together : goal.returns-clause-together
returns-clause-together g c = λ client server t sound. both_turn client server _ _ _ _ _ _ _ c.turn_left.ensures.turned c.turn_right.ensures.turned sound t

pub returns-clause-sound : goal.returns-clause-sound
returns-clause-sound g c = lost_back _ _ _ _ c.turn_left.ensures.sound c.turn_right.ensures.sound

pub returns-then-has_failed-clause-together : goal.returns-then-has_failed-clause-together
returns-then-has_failed-clause-together g c = λ client server t sound. left_turns client server _ _ _ _ _ c.turn_left.ensures.turned (neither _ _ sound).0 t
