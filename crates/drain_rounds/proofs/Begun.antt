-- Two ends that begin a connection are a world of their session.
use Rattle.std.proofs.Common.{◌≡◌, ℕ, ◌≤◌, Bool, true, false, [], None, refl, ap, arith, true≢false}
use Rattle.std.specs.Prelude.{length}
use Rattle.session_model.specs.Journal.{History}
use Rattle.session_model.proofs.Lists.{prefix_length}
use Rattle.fixp_shake.specs.declared.config.Role.{Role}
use Rattle.fixp_replies.specs.declared.facts.EndState.{EndState}
use Rattle.fixp_replies.specs.Facts.{Around, is_initiator}
use Rattle.fixp_machine.specs.Machine.{State, begin, connected, around, bytes_of, step}
use Rattle.connection_laws.specs.Courses.{beginning}
use Rattle.connection_laws.specs.Ranges.{IsInTime}
use Rattle.connection_laws.specs.Writing.{writes}
use Rattle.turn_laws.specs.Legs.{first_line}
use Rattle.turn_laws.proofs.Running.{begin_stands}
use Rattle.connection_laws.proofs.Going.{connection_begins}
use Rattle.honest_ends.proofs.Phased.{begun_as}
use Rattle.honest_turns.specs.Sides.{Side, IsReady}
use Rattle.honest_turns.specs.Lives.{End}
use Rattle.honest_turns.proofs.Connecting.{writes_legal, way_begins, starts_known}
use Rattle.drain_turns.specs.Joints.{IsOn, IsUnread}
use Rattle.drain_rounds.specs.Starting.{anew, half_of, IsBegun, BeginsShow}

-- a connection without turns yet
abbrev side_at : ℕ → End → ℕ → Side
side_at per_turn e now = record { outbox = e.outbox; state = e.state; inbox = e.inbox; leg = record { per_turn = per_turn; moment = now; turns = []; cut = None } }

-- a new machine over what an end has recorded begins as that end does
abbrev begun_of : End → ℕ → State
begun_of e now = step (anew e.state) (begin now)

on_first : (per_turn : ℕ) (e : End) (seen : History) (now : ℕ) → IsReady e.outbox e.state e.inbox → IsBegun per_turn e seen now → IsOn e.outbox (beginning e.state e.inbox now) (half_of per_turn e seen now) (begun_of e now)
on_first per_turn e seen now ready b = record {
  legal = writes_legal (side_at per_turn e now) ready b.time enough;
  goes = record { calls = []; may = tt; fits = tt; at = begin_stands e.outbox.made per_turn e.state e.inbox now ready.awaits enough; alike = refl };
  goes_on = refl;
  fits = omega arith;
  seen = record { begins = b.begins; few = ready.entries.few };
  course = beginning e.state e.inbox now;
  stands = begin_stands seen.made per_turn e.state e.inbox now ready.awaits b.enough;
}
  where
    enough : e.state.facts.recorded.sent ≤ length e.outbox.made
    enough = let a = prefix_length seen.made e.outbox.made b.begins.made in let c = b.enough in omega (arith, a, c)

-- all that it writes is unsent
unread_first : (per_turn : ℕ) (e : End) (now : ℕ) → IsReady e.outbox e.state e.inbox → IsInTime now → e.state.facts.recorded.sent ≤ length e.outbox.made
    → IsUnread (writes (anew e.state) (begin now)) (first_line per_turn e.state now).machine [] []
unread_first per_turn e now ready time enough = record {
  way = way_begins (side_at per_turn e now) ready time enough;
  whole = (connection_begins e.outbox.made e.state e.inbox now ready.awaits enough).bytes;
}

-- an acceptor writes nothing as a connection begins
quiet_first : (s : State) (now : ℕ) → is_initiator s.config.role ≡ false → (connected s now).unsent ≡ []
quiet_first s now other = by_role (is_initiator s.config.role) other
  where
    recorded : EndState
    recorded = s.facts.recorded

    x : Around
    x = around s 0 now

    by_role : (b : Bool) → b ≡ false → bytes_of (begun_as x recorded b recorded.negotiated).written ≡ []
    by_role true e = absurd (true≢false e)
    by_role false e = refl

pub begins_show : BeginsShow
begins_show i a seen_i seen_a per_i per_a now_i now_a agree known bi ba = record {
  shows = record {
    known = starts_known i.outbox.made a.outbox.made i.state a.state agree.agree;
    agreed = known;
    now_i = now_i;
    now_a = now_a;
    later = [];
    may = (tt, tt);
    keeps = tt;
    there = refl;
    initiator = on_first per_i i seen_i now_i agree.initiator bi;
    acceptor = on_first per_a a seen_a now_a agree.acceptor ba;
    outward = unread_first per_i i now_i agree.initiator bi.time agree.agree.outward.sent;
    homeward = unread_first per_a a now_a agree.acceptor ba.time agree.agree.homeward.sent;
  };
  first = refl;
  next_i = bi.next;
  next_a = ba.next;
  goes = refl;
  least = bi.least;
  most = bi.most;
  acceptor = record { least = ba.least; most = ba.most; all = quiet_first a.state now_a (ap (λ (r : Role). is_initiator r) agree.agree.matches.accepts) };
}
