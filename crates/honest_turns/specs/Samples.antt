-- The premises of the laws can be met: by two ends without journals, and by two that shake hands over one link, turn by turn.
use Rattle.std.specs.Prelude.{◌≡◌, ℕ, ◌≤◌, false, List, [], ◌∷◌, length, None}
use Rattle.session_model.specs.Journal.{Entry, History}
use Rattle.fixp_msgs.specs.Canonical.{frame_bytes}
use Rattle.fixp_shake.specs.declared.config.EndConfig.{EndConfig}
use Rattle.fixp_replies.specs.declared.facts.EndState.{EndState}
use Rattle.fixp_machine.specs.Machine.{fresh}
use Rattle.conn_turns.specs.Turns.{only_sends, works}
use Rattle.connection_laws.specs.Samples.{sample_config}
use Rattle.two_ends.specs.Samples.{acceptor, opening, answer}
use Rattle.two_ends.specs.Samples as ends
use Rattle.two_ends.specs.LoopSamples.{nothing, hears, leg_a, leg_b, begins}
use Rattle.honest_ends.specs.Worlds.{Match}
use Rattle.honest_turns.specs.Links.{Move, initiator_turns, acceptor_turns, OverOneLink}
use Rattle.honest_turns.specs.Sides.{MakesTurns, Agree, AreAtRest}
use Rattle.honest_turns.specs.Lives.{End, side_of, end_behind, AgreeAt, InTime}
use Rattle.honest_turns.specs.Sessions.{Reopens}

-- what an end has recorded that has no record in its journals
abbrev pub unwritten : EndState
unwritten = record { negotiated = false; inbox_next = 1; peer_last = None; sent = 0; finish = None }

-- two such ends know nothing of each other, where their configurations match, and their outboxes come to have no more entries than the
-- other end takes
abbrev pub UnwrittenAgree : Type 0
UnwrittenAgree = (hi ha : List Entry) (ci ca : EndConfig) (most : ℕ) → Match ci ca → length hi ≤ most → length ha ≤ most
    → Agree hi ha (fresh ci unwritten most) (fresh ca unwritten most)

-- the initiator sends what it wrote as it began, the acceptor hears it and sends its answer, and the initiator hears that
abbrev pub handshake : List Move
handshake = initiator_turns (only_sends 0 (frame_bytes opening) false) ∷ acceptor_turns (works (hears opening (frame_bytes answer)))
    ∷ initiator_turns (works (hears answer [])) ∷ []

-- the two ends of the sample of turns, on an outbox without entries
abbrev pub end_of : EndConfig → End
end_of config = record { outbox = nothing; state = begins config; inbox = [] }

abbrev pub HandshakeSample : Type 0
HandshakeSample = OverOneLink leg_a leg_b × InTime (leg_a ∷ []) (leg_b ∷ []) × AgreeAt (end_of sample_config) (end_of acceptor)

-- either of them, on this outbox
abbrev pub over : History → EndConfig → End
over outbox config = record { outbox = outbox; state = begins config; inbox = [] }

-- The two ends of that handshake, over outboxes without entries: they make these turns, and are at rest behind them, quiet. And a next life of the
-- initiator, over what it has recorded, opens behind it
pub record RestSample : Type 0 where
  pub initiator : History
  pub acceptor : History
  pub empty_i : initiator.made ≡ []
  pub empty_a : acceptor.made ≡ []
  pub makes_i : MakesTurns (side_of (over initiator sample_config) leg_a)
  pub makes_a : MakesTurns (side_of (over acceptor ends.acceptor) leg_b)
  pub link : OverOneLink leg_a leg_b
  pub agree : Agree initiator.made acceptor.made (begins sample_config) (begins ends.acceptor)
  pub rest : AreAtRest (side_of (over initiator sample_config) leg_a) (side_of (over acceptor ends.acceptor) leg_b) makes_i.turns.last makes_a.turns.last
  pub opens : Reopens (end_behind (over initiator sample_config) leg_a) (over initiator sample_config)
