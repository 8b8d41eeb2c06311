-- What a call of the inbox's disk tried that failed, and of which a stop leaves a beginning: the connection is as if its last turn had been cut short
-- behind that.
use Rattle.std.specs.Prelude.{◌≡◌, ℕ, List, Option, Some}
use Rattle.conn_turns.specs.Lines.{TakenFrame}
use Rattle.conn_turns.specs.Turns.{Turn, Refusal, cut_short}
use Rattle.turn_laws.specs.Turns.{IsCutShort}
use Rattle.turn_laws.specs.Legs.{TurnedLeg}
use Rattle.honest_turns.specs.Links.{OverOneLink}
use Rattle.honest_turns.specs.Sides.{Side, MakesTurns}

-- a side with another last turn that was cut short
abbrev pub cut_by : Side → Turn → Side
cut_by s t = record s { leg = record s.leg { cut = Some t } }

-- it is a side too, over the same link
pub record CountsAs (s c : Side) : Type 0 where
  pub makes : MakesTurns c
  pub initiates : (other : TurnedLeg) → OverOneLink s.leg other → OverOneLink c.leg other
  pub accepts : (other : TurnedLeg) → OverOneLink other s.leg → OverOneLink other c.leg

-- so it is wherever its last turn was cut short, with each place where that may be of what it was given: a next life whose inbox has the records up
-- to there opens behind that
abbrev pub RefusedCounts : Type 0
RefusedCounts = (s : Side) (now : ℕ) (received : List ℕ) (frames frames' : List TakenFrame) (refusal refusal' : Option Refusal)
    → (k : MakesTurns s) → s.leg.cut ≡ Some (cut_short now received frames refusal) → IsCutShort now received frames' refusal' k.turns.last
    → CountsAs s (cut_by s (cut_short now received frames' refusal'))
