-- Two ends of a session over pipes, and what lies between them (this project's profile).
use Rattle.std.specs.Prelude.{◌≡◌, ℕ, List, ◌++◌}
use Rattle.turn_laws.specs.Legs.{TurnedLeg, given_on, sent_on}
use Rattle.two_ends.specs.Loops.{ReadsOf}

-- each of two connections was given of what the other sent
abbrev pub ReadEachOther : TurnedLeg → TurnedLeg → Type 0
ReadEachOther a b = ReadsOf a b × ReadsOf b a

-- of two connections over one pipe each was given what the other sent but for what is still under way to it
pub record UnderWay (a b : TurnedLeg) (to_a to_b : List ℕ) : Type 0 where
  pub homeward : sent_on b ≡ given_on a ++ to_a
  pub outward : sent_on a ≡ given_on b ++ to_b

-- a connection went on: its link gave and took so much more
pub record Carries (leg leg' : TurnedLeg) (given sent : List ℕ) : Type 0 where
  pub gave : given_on leg' ≡ given_on leg ++ given
  pub took : sent_on leg' ≡ sent_on leg ++ sent
