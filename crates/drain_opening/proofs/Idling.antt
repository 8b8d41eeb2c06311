-- What calls other than frames make of an end: before its handshake is done it writes nothing, and goes on where no tick finds it late.
use Rattle.std.proofs.Common.{◌≡◌, ℕ, ◌-◌, ◌==◌, ◌&&◌, ◌||◌, not, Bool, true, false, if◌then◌else◌, List, [], ◌∷◌, ◌++◌, Option, Some, None, refl, sym, ap, ◌∙◌, true≢false}
use Rattle.std.specs.Prelude.{is_some, is_none}
use Rattle.session_model.specs.Journal.{Entry}
use Rattle.session_model.specs.Inbox.{Numbered}
use Rattle.fixp_msgs.specs.declared.numbering.Range.{Range}
use Rattle.fixp_msgs.specs.Message.{Message}
use Rattle.flow_idem.specs.Runs.{runs_of}
use Rattle.fixp_shake.specs.declared.phase.Phase.{Phase}
use Rattle.fixp_shake.specs.declared.violation.Violation.{Violation}
use Rattle.fixp_shake.specs.Flows.{is_absent}
use Rattle.fixp_shake.specs.Phases.{is_established, is_closing, is_shaken}
use Rattle.fixp_replies.specs.declared.act.Ending.{Ending}
use Rattle.fixp_replies.specs.Acts.{is_record}
use Rattle.fixp_replies.specs.Events.{Made, heartbeat, heartbeats, is_due, lateness, applied_runs, closes, turn_ended, outbox_finished, tells_finish, finish_told}
use Rattle.fixp_replies.specs.Facts.{Around, is_initiator, finishes_exchanged, is_open}
use Rattle.fixp_replies.specs.Incoming.{Incoming, payload_in}
use Rattle.fixp_replies.specs.Outcomes.{Outcome}
use Rattle.fixp_replies.specs.Replies.{reply_of}
use Rattle.fixp_machine.specs.Machine.{State, Call, begin, frame, bad_frame, did, tick, turn_done, closed, link_end, live, again, taken, reserve, held_done, around, bytes_of, wrote, made, to_tell, reply_applied, held_with, done_pending, broken_by, served_again, held_applied, front_of, step, run}
use Rattle.fixp_machine.proofs.Windowing.{front_there}
use Rattle.connection_laws.specs.Writing.{Piece, said_all, said_breaking, writes}
use Rattle.connection_laws.specs.Standing.{MayStand}
use Rattle.two_ends.specs.Reading.{incoming_of}
use Rattle.honest_ends.specs.Worlds.{IsOther, reading}
use Rattle.honest_ends.proofs.Moving.{turned, told}
use Rattle.drain_ends.specs.Shutting.{IsCall}
use Rattle.drain_opening.specs.Opening.{InTime}

-- an end that has read a frame with this outcome, whose act is a record or none
abbrev pub framed : Bool → State → Incoming → Outcome → ℕ → State
framed b s i o now =
    if b then record s { moment = now; last_received = now; room = s.room - 1; pending = Some o }
    else reply_applied (record s { moment = now; last_received = now; room = s.room - 1; held = held_with o.holds (payload_in i) s.held }) o now

-- what is to be told at the turn's end behind a message that was read
pub reading_told : (s : State) (p : Piece) (at now : ℕ) → (run s (reading p at now)).untold ≡ s.untold ++ to_tell s.config (reply_of (around s at now) s.facts (incoming_of p)).act
reading_told s p at now = by_case (is_record o.act)
  where
    o : Outcome
    o = reply_of (around s at now) s.facts (incoming_of p)

    by_case : (b : Bool) → (done_pending (framed b s (incoming_of p) o now) (framed b s (incoming_of p) o now).pending now).untold ≡ s.untold ++ to_tell s.config o.act
    by_case true = refl
    by_case false = refl

-- a call leaves what is said of it, where the connection goes on
pub record Idles (s t : State) (out : List Piece) : Type 0 where
  pub ending : t.ending ≡ None
  pub same : t.facts.connection ≡ s.facts.connection
  pub untold : t.untold ≡ []
  pub silent : out ≡ []

-- before the handshake is done an end is not established
unestablished : (p : Phase) → is_shaken p ≡ false → is_established p ≡ false
unestablished p e = first (is_established p) (is_closing p) e
  where
    first : (a b : Bool) → (a || b) ≡ false → a ≡ false
    first false b e = refl
    first true b e = absurd (true≢false e)

-- so no heartbeat is written, no finish told, and nothing closed
no_heartbeat : (x : Around) (s : State) (unsent : List ℕ) → is_established s.facts.connection.phase ≡ false → heartbeats x s.facts s.last_sent unsent ≡ []
no_heartbeat x s (b ∷ unsent) e = refl
no_heartbeat x s [] e = by_first (is_established s.facts.connection.phase) (is_none s.facts.connection.serving) (is_due x s.last_sent) e
  where
    by_first : (a b c : Bool) → a ≡ false → (if a && b && c then heartbeat x s.facts ∷ [] else []) ≡ []
    by_first false b c e = refl
    by_first true b c e = absurd (true≢false e)

ticking : (s : State) (now : ℕ) → InTime s (tick now) → is_established s.facts.connection.phase ≡ false → s.untold ≡ [] → s.ending ≡ None → Idles s (step s (tick now)) (writes s (tick now))
ticking s now timely before untold going = by_end (is_some s.ending) (ap (λ (e : Option Ending). is_some e) going)
  where
    x : Around
    x = around s 0 now

    hb : List Message
    hb = heartbeats x s.facts s.last_sent s.unsent

    beat : State
    beat = wrote (record s { moment = now }) (bytes_of hb) now

    by_fault : (v : Option Violation) → v ≡ None → Idles s (broken_by beat v now) (said_all (hb ++ said_breaking s v now))
    by_fault None e = record { ending = going; same = refl; untold = untold; silent = ap (λ (ms : List Message). said_all (ms ++ [])) (no_heartbeat x s s.unsent before) }
    by_fault (Some v) e = absurd (cc e)

    by_end : (b : Bool) → b ≡ false
        → Idles s (if b then record s { moment = now } else broken_by beat (lateness x s.facts s.start s.last_received) now) (if b then [] else said_all (hb ++ said_breaking s (lateness x s.facts s.start s.last_received) now))
    by_end true e = absurd (true≢false e)
    by_end false e = by_fault (lateness x s.facts s.start s.last_received) timely

turning : (s : State) (now : ℕ) → is_established s.facts.connection.phase ≡ false → s.untold ≡ [] → s.ending ≡ None → Idles s (step s (turn_done now)) (writes s (turn_done now))
turning s now before untold going = by_end (is_some s.ending) (ap (λ (e : Option Ending). is_some e) going)
  where
    x : Around
    x = around s 0 now

    behind : Made → State
    behind m = record (made (record s { moment = now }) m now) { untold = [] }

    second : (a b c d : Bool) → (a && b && c && d) ≡ true → b ≡ true
    second true true c d e = refl
    second true false c d e = absurd (true≢false (sym e))
    second false b c d e = absurd (true≢false (sym e))

    by_close : (b : Bool) → closes x s.facts ≡ b → Idles s (behind (turned b x s.facts (runs_of s.untold))) (said_all (turned b x s.facts (runs_of s.untold)).written)
    by_close true e = absurd (true≢false (sym (second (is_initiator s.config.role) (is_established s.facts.connection.phase) (finishes_exchanged x s.facts) (is_none s.facts.connection.serving) e) ∙ before))
    by_close false e = record { ending = going; same = refl; untold = refl; silent = ap (λ (ns : List ℕ). said_all (applied_runs (runs_of ns))) untold }

    by_end : (b : Bool) → b ≡ false → Idles s (if b then record s { moment = now } else behind (turn_ended x s.facts (runs_of s.untold))) (if b then [] else said_all (turn_ended x s.facts (runs_of s.untold)).written)
    by_end true e = absurd (true≢false e)
    by_end false e = by_close (closes x s.facts) refl

finishing : (s : State) (last now : ℕ) → is_established s.facts.connection.phase ≡ false → s.untold ≡ [] → s.ending ≡ None → Idles s (step s (closed last now)) (writes s (closed last now))
finishing s last now before untold going = by_end (is_some s.ending) (ap (λ (e : Option Ending). is_some e) going)
  where
    x : Around
    x = around s 0 now

    behind : Made → State
    behind m = made (record s { moment = now }) m now

    second : (a b c d e : Bool) → (not a && b && c && d && e) ≡ true → b ≡ true
    second false true c d e t = refl
    second false false c d e t = absurd (true≢false (sym t))
    second true b c d e t = absurd (true≢false (sym t))

    by_test : (b : Bool) → tells_finish x s.facts last ≡ b → Idles s (behind (told b x s.facts last)) (said_all (told b x s.facts last).written)
    by_test true e =
        absurd (true≢false (sym (second (is_absent s.config.own_flow) (is_established s.facts.connection.phase) (is_open s.facts.connection.own_finish) (s.facts.recorded.sent == last) (is_none s.facts.connection.serving) e) ∙ before))
    by_test false e = record { ending = going; same = refl; untold = untold; silent = refl }

    by_end : (b : Bool) → b ≡ false
        → Idles s (if b then record s { moment = now; facts = outbox_finished s.facts last } else behind (finish_told x s.facts last)) (if b then [] else said_all (finish_told x s.facts last).written)
    by_end true e = absurd (true≢false e)
    by_end false e = by_test (tells_finish x s.facts last) refl

-- each call that may come before the handshake is done, where the link stands and nothing is held, served or to be told
pub idle_call : (h : List Entry) (s : State) (call : Call) → IsOther h call → MayStand h s call → IsCall call → InTime s call → is_shaken s.facts.connection.phase ≡ false → s.facts.connection.serving ≡ None → s.held ≡ []
    → s.untold ≡ [] → s.ending ≡ None → Idles s (step s call) (writes s call)
idle_call h s (begin now) other may is timely before free unheld untold going = absurd other
idle_call h s (frame incoming at now) other may is timely before free unheld untold going = absurd other
idle_call h s (bad_frame at now) other may is timely before free unheld untold going = absurd other
idle_call h s (did now) other may is timely before free unheld untold going = absurd other
idle_call h s (tick now) other may is timely before free unheld untold going = ticking s now timely (unestablished s.facts.connection.phase before) untold going
idle_call h s (turn_done now) other may is timely before free unheld untold going = turning s now (unestablished s.facts.connection.phase before) untold going
idle_call h s (closed last now) other may is timely before free unheld untold going = finishing s last now (unestablished s.facts.connection.phase before) untold going
idle_call h s link_end other may is timely before free unheld untold going = absurd is
idle_call h s (live payloads now) other may is timely before free unheld untold going = absurd (true≢false (sym may.comes.established ∙ unestablished s.facts.connection.phase before))
idle_call h s (again payloads now) other may is timely before free unheld untold going = absurd (cc (free, may.comes.serves))
idle_call h s (taken count) other may is timely before free unheld untold going = record { ending = going; same = refl; untold = untold; silent = refl }
idle_call h s reserve other may is timely before free unheld untold going = record { ending = going; same = refl; untold = untold; silent = refl }
idle_call h s held_done other may is timely before free unheld untold going =
    let k = front_there s.facts.recorded.inbox_next s.held may.may_call.1 in
    absurd (cc (k.held_is, unheld))

-- and any call, at an end whose handshake is done: the connection goes on, and the other's interval stays
pub record GoesOn (s t : State) : Type 0 where
  pub ending : s.ending ≡ None → t.ending ≡ None
  pub interval : t.facts.connection.peer_interval ≡ s.facts.connection.peer_interval

ticking_on : (s : State) (now : ℕ) → InTime s (tick now) → GoesOn s (step s (tick now))
ticking_on s now timely = by_end (is_some s.ending)
  where
    x : Around
    x = around s 0 now

    beat : State
    beat = wrote (record s { moment = now }) (bytes_of (heartbeats x s.facts s.last_sent s.unsent)) now

    by_fault : (v : Option Violation) → v ≡ None → GoesOn s (broken_by beat v now)
    by_fault None e = record { ending = λ g. g; interval = refl }
    by_fault (Some v) e = absurd (cc e)

    by_end : (b : Bool) → GoesOn s (if b then record s { moment = now } else broken_by beat (lateness x s.facts s.start s.last_received) now)
    by_end true = record { ending = λ g. g; interval = refl }
    by_end false = by_fault (lateness x s.facts s.start s.last_received) timely

turning_on : (s : State) (now : ℕ) → GoesOn s (step s (turn_done now))
turning_on s now = by_end (is_some s.ending)
  where
    x : Around
    x = around s 0 now

    behind : Made → State
    behind m = record (made (record s { moment = now }) m now) { untold = [] }

    by_close : (b : Bool) → GoesOn s (behind (turned b x s.facts (runs_of s.untold)))
    by_close true = record { ending = λ g. g; interval = refl }
    by_close false = record { ending = λ g. g; interval = refl }

    by_end : (b : Bool) → GoesOn s (if b then record s { moment = now } else behind (turn_ended x s.facts (runs_of s.untold)))
    by_end true = record { ending = λ g. g; interval = refl }
    by_end false = by_close (closes x s.facts)

finishing_on : (s : State) (last now : ℕ) → GoesOn s (step s (closed last now))
finishing_on s last now = by_end (is_some s.ending)
  where
    x : Around
    x = around s 0 now

    behind : Made → State
    behind m = made (record s { moment = now }) m now

    by_test : (b : Bool) → GoesOn s (behind (told b x s.facts last))
    by_test true = record { ending = λ g. g; interval = refl }
    by_test false = record { ending = λ g. g; interval = refl }

    by_end : (b : Bool) → GoesOn s (if b then record s { moment = now; facts = outbox_finished s.facts last } else behind (finish_told x s.facts last))
    by_end true = record { ending = λ g. g; interval = refl }
    by_end false = by_test (tells_finish x s.facts last)

resending_on : (s : State) (r : Option Range) (payloads : List (List ℕ)) (now : ℕ) → GoesOn s (served_again s r payloads now)
resending_on s None payloads now = record { ending = λ g. g; interval = refl }
resending_on s (Some r) payloads now = record { ending = λ g. g; interval = refl }

applying_on : (s : State) (m : Option Numbered) → GoesOn s (held_applied s m)
applying_on s None = record { ending = λ g. g; interval = refl }
applying_on s (Some m) = record { ending = λ g. g; interval = refl }

pub call_goes_on : (s : State) (call : Call) → IsCall call → InTime s call → GoesOn s (step s call)
call_goes_on s (begin now) is timely = absurd is
call_goes_on s (frame incoming at now) is timely = absurd is
call_goes_on s (bad_frame at now) is timely = absurd is
call_goes_on s (did now) is timely = absurd is
call_goes_on s (tick now) is timely = ticking_on s now timely
call_goes_on s (turn_done now) is timely = turning_on s now
call_goes_on s (closed last now) is timely = finishing_on s last now
call_goes_on s link_end is timely = absurd is
call_goes_on s (live payloads now) is timely = record { ending = λ g. g; interval = refl }
call_goes_on s (again payloads now) is timely = resending_on s s.facts.connection.serving payloads now
call_goes_on s (taken count) is timely = record { ending = λ g. g; interval = refl }
call_goes_on s reserve is timely = record { ending = λ g. g; interval = refl }
call_goes_on s held_done is timely = applying_on s (front_of s)
