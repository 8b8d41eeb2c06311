-- Two connections over one link, as their turns came one behind another (this project's profile).
use Rattle.std.specs.Prelude.{◌≡◌, ⊤, ℕ, List, [], ◌∷◌, ◌++◌}
use Rattle.conn_turns.specs.Turns.{Turn}
use Rattle.turn_laws.specs.Legs.{TurnedLeg, all_turns, sent_in, given_in}

-- a turn of one of the two ends
pub data Move : Type 0 where
  initiator_turns : Turn → Move
  acceptor_turns : Turn → Move

abbrev pub of_initiator : List Move → List Turn
of_initiator [] = []
of_initiator (initiator_turns t ∷ later) = t ∷ of_initiator later
of_initiator (acceptor_turns t ∷ later) = of_initiator later

abbrev pub of_acceptor : List Move → List Turn
of_acceptor [] = []
of_acceptor (initiator_turns t ∷ later) = of_acceptor later
of_acceptor (acceptor_turns t ∷ later) = t ∷ of_acceptor later

-- Turns in the order of time, where these bytes are under way from the initiator outward and from the acceptor homeward: in its turn an
-- end is given the first of the bytes under way to it, and what the link takes of it is under way from then on. Nothing says that all
-- of them ever arrive
abbrev pub Passes : (outward homeward : List ℕ) → List Move → Type 0
Passes outward homeward [] = ⊤
Passes outward homeward (initiator_turns t ∷ later) =
    (left : List ℕ) × (homeward ≡ given_in t ++ left) × Passes (outward ++ sent_in t) left later
Passes outward homeward (acceptor_turns t ∷ later) =
    (left : List ℕ) × (outward ≡ given_in t ++ left) × Passes left (homeward ++ sent_in t) later

-- two connections, one of each end, over one link: the turns of both came in some order of time, and at first nothing was under way
pub record OverOneLink (initiator acceptor : TurnedLeg) : Type 0 where
  pub order : List Move
  pub turns_i : of_initiator order ≡ all_turns initiator
  pub turns_a : of_acceptor order ≡ all_turns acceptor
  pub passes : Passes [] [] order
