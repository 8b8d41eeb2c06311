-- Two ends that begin a connection over a new link, and the world that they are then (this project's profile).
use Rattle.std.specs.Prelude.{◌≡◌, ℕ, ◌≤◌, true, [], length}
use Rattle.session_model.specs.Journal.{History, BeginsHistory}
use Rattle.fixp_machine.specs.Machine.{State, fresh}
use Rattle.connection_laws.specs.Courses.{beginning}
use Rattle.connection_laws.specs.Ranges.{IsInTime}
use Rattle.turn_laws.specs.Legs.{first_line}
use Rattle.honest_ends.specs.Worlds.{World, meets, after}
use Rattle.honest_turns.specs.Lives.{End, AgreeAt}
use Rattle.drain_turns.specs.Joints.{Half, Joint, Session}
use Rattle.drain_rounds.specs.Rounds.{Begun}

-- both ends as their journals say, with nothing under way
abbrev pub anew : State → State
anew s = fresh s.config s.facts.recorded s.most

abbrev pub start_of : End → End → World
start_of i a = record { initiator = anew i.state; acceptor = anew a.state; outward = []; homeward = [] }

-- the session of two ends that begin a connection at these moments, and these ends then, whose passes have seen so much of their outboxes
abbrev pub session_of : (i a : End) (now_i now_a : ℕ) → Session
session_of i a now_i now_a = record {
  outbox_i = i.outbox;
  outbox_a = a.outbox;
  course_i = beginning i.state i.inbox now_i;
  course_a = beginning a.state a.inbox now_a;
  start = start_of i a;
}

abbrev pub half_of : (per_turn : ℕ) → End → (seen : History) (now : ℕ) → Half
half_of per_turn e seen now = record { line = first_line per_turn e.state now; seen = seen }

abbrev pub joint_of : Half → Half → Joint
joint_of i a = record { initiator = i; acceptor = a; outward = []; homeward = [] }

-- An end as it begins a connection: in time; a turn of it takes from 4 messages to 256; its pass has seen no less of its outbox than it has sent, and its inbox
-- awaits number 1 at least
pub record IsBegun (per_turn : ℕ) (e : End) (seen : History) (now : ℕ) : Type 0 where
  pub time : IsInTime now
  pub least : 4 ≤ per_turn
  pub most : per_turn ≤ 256
  pub begins : BeginsHistory seen e.outbox
  pub enough : e.state.facts.recorded.sent ≤ length seen.made
  pub next : 1 ≤ e.state.facts.recorded.inbox_next

-- two such ends that know no more of each other than was sent, the initiator of the negotiation no more than the acceptor
abbrev pub BeginsShow : Type 0
BeginsShow = (i a : End) (seen_i seen_a : History) (per_i per_a now_i now_a : ℕ) → AgreeAt i a
    → (i.state.facts.recorded.negotiated ≡ true → a.state.facts.recorded.negotiated ≡ true) → IsBegun per_i i seen_i now_i → IsBegun per_a a seen_a now_a
    → Begun (session_of i a now_i now_a) (joint_of (half_of per_i i seen_i now_i) (half_of per_a a seen_a now_a)) (after (start_of i a) (meets now_i now_a))
