-- What a connection has come to begins what it comes to later, and its state is that of the machine.
use Rattle.std.proofs.Common.{◌≡◌, ◌-◌, Bool, true, false, if◌then◌else◌, List, [], ◌∷◌, ◌++◌, take, Option, Some, None, refl, ap, ◌∙◌, append-nil}
use Rattle.std.specs.Prelude.{is_some}
use mathlib.Core.List.{IsPrefix}
use Rattle.session_model.specs.Journal.{Entry}
use Rattle.session_model.proofs.Lists.{prefix_trans}
use Rattle.fixp_msgs.specs.declared.numbering.Range.{Range}
use Rattle.flow_idem.specs.Runs.{runs_of}
use Rattle.fixp_shake.specs.declared.violation.Violation.{Violation}
use Rattle.fixp_replies.specs.Acts.{is_record}
use Rattle.fixp_replies.specs.Events.{heartbeats, lateness, turn_ended, outbox_finished, finish_told, link_ending}
use Rattle.session_model.specs.Inbox.{InboxRecord, Numbered}
use Rattle.fixp_replies.specs.Incoming.{Incoming, payload_in}
use Rattle.fixp_replies.specs.Outcomes.{Outcome}
use Rattle.fixp_replies.specs.Replies.{reply_of}
use Rattle.fixp_machine.specs.Machine.{State, Call, begin, frame, bad_frame, did, tick, turn_done, closed, link_end, live, again, taken, reserve, held_done, held_with, held_applied, front_of, around, bytes_of, wrote, made, reply_applied, broken_by, done_pending, served_again, step, run}
use Rattle.fixp_machine.specs.Accepting.{records_of}
use Rattle.connection_laws.specs.Writing.{writes}
use Rattle.connection_laws.specs.Courses.{Waiting, Course, accepted_by, counting, called, next_done, next_held, next_course, course_after, Continues, StateIsRun}
use Rattle.connection_laws.specs.Standing.{MayStand, CallsGoOn}

pub state_is_run : StateIsRun
state_is_run c [] = refl
state_is_run c (call ∷ later) = state_is_run (next_course c call) later ∙ ap (λ s. run s later) (stepped call)
  where
    by_record : (b : Bool) (first second : Course) (s : State) → first.state ≡ s → second.state ≡ s → (if b then first else second).state ≡ s
    by_record true first second s e f = e
    by_record false first second s e f = f

    by_pending : (p : Option Outcome) (w : Option Waiting) (k : Course) → (next_done k p w).state ≡ k.state
    by_pending None w k = refl
    by_pending (Some o) None k = refl
    by_pending (Some o) (Some w) k = refl

    by_front : (m : Option Numbered) (k : Course) → (next_held k m).state ≡ k.state
    by_front None k = refl
    by_front (Some m) k = refl

    stepped : (k : Call) → (next_course c k).state ≡ step c.state k
    stepped (begin now) = refl
    stepped (frame incoming at now) = by_record (is_record (reply_of (around c.state at now) c.state.facts incoming).act) _ _ (step c.state (frame incoming at now)) refl refl
    stepped (bad_frame at now) = refl
    stepped (did now) = by_pending c.state.pending c.waiting _
    stepped (tick now) = refl
    stepped (turn_done now) = refl
    stepped (closed last now) = refl
    stepped link_end = refl
    stepped (live ps now) = refl
    stepped (again ps now) = refl
    stepped (taken count) = refl
    stepped reserve = refl
    stepped held_done = by_front (front_of c.state) _

-- what a call adds is behind what was there
begins_same : {A : Type 0} (xs : List A) → IsPrefix xs xs
begins_same xs = ([], append-nil xs)

begins_with : {A : Type 0} (xs ys : List A) → IsPrefix xs (xs ++ ys)
begins_with xs ys = (ys, refl)

continues_same : (c : Course) → Continues c c
continues_same c = record { config = refl; start = refl; sent_before = refl; accepted = begins_same c.accepted; added = begins_same c.added; output = begins_same c.output; taken = begins_same c.taken }

continues_on : (b c d : Course) → Continues b c → Continues c d → Continues b d
continues_on b c d p q = record {
  config = q.config ∙ p.config;
  start = q.start ∙ p.start;
  sent_before = q.sent_before ∙ p.sent_before;
  accepted = prefix_trans b.accepted c.accepted d.accepted p.accepted q.accepted;
  added = prefix_trans b.added c.added d.added p.added q.added;
  output = prefix_trans b.output c.output d.output p.output q.output;
  taken = prefix_trans b.taken c.taken d.taken p.taken q.taken;
}

-- the configuration stays at each call
same_config : (s : State) (call : Call) → (step s call).config ≡ s.config
same_config s (begin now) = refl
same_config s (frame incoming at now) = by_record (is_record (reply_of (around s at now) s.facts incoming).act)
  where
    by_record : (b : Bool) → (
        if b then record s { moment = now; last_received = now; room = s.room - 1; pending = Some (reply_of (around s at now) s.facts incoming) }
        else reply_applied (record s { moment = now; last_received = now; room = s.room - 1; held = held_with (reply_of (around s at now) s.facts incoming).holds (payload_in incoming) s.held }) (reply_of (around s at now) s.facts incoming) now
        ).config ≡ s.config
    by_record true = refl
    by_record false = refl
same_config s (bad_frame at now) = refl
same_config s (did now) = by_pending s.pending
  where
    by_pending : (p : Option Outcome) → (done_pending s p now).config ≡ s.config
    by_pending None = refl
    by_pending (Some o) = refl
same_config s (tick now) = by_test (is_some s.ending) (lateness (around s 0 now) s.facts s.start s.last_received)
  where
    beat : State
    beat = wrote (record s { moment = now }) (bytes_of (heartbeats (around s 0 now) s.facts s.last_sent s.unsent)) now

    by_test : (b : Bool) (v : Option Violation) → (if b then record s { moment = now } else broken_by beat v now).config ≡ s.config
    by_test true v = refl
    by_test false None = refl
    by_test false (Some v) = refl
same_config s (turn_done now) = by_test (is_some s.ending)
  where
    by_test : (b : Bool) → (if b then record s { moment = now } else record (made (record s { moment = now }) (turn_ended (around s 0 now) s.facts (runs_of s.untold)) now) { untold = [] }).config ≡ s.config
    by_test true = refl
    by_test false = refl
same_config s (closed last now) = by_test (is_some s.ending)
  where
    by_test : (b : Bool) → (if b then record s { moment = now; facts = outbox_finished s.facts last } else made (record s { moment = now }) (finish_told (around s 0 now) s.facts last) now).config ≡ s.config
    by_test true = refl
    by_test false = refl
same_config s link_end = by_test (is_some s.ending)
  where
    by_test : (b : Bool) → (if b then s else record s { ending = Some (link_ending (around s 0 s.moment) s.facts); pending = None; held = [] }).config ≡ s.config
    by_test true = refl
    by_test false = refl
same_config s (live ps now) = refl
same_config s (again ps now) = by_range s.facts.connection.serving
  where
    by_range : (r : Option Range) → (served_again s r ps now).config ≡ s.config
    by_range None = refl
    by_range (Some r) = refl
same_config s (taken count) = refl
same_config s reserve = refl
same_config s held_done = by_front (front_of s)
  where
    by_front : (m : Option Numbered) → (held_applied s m).config ≡ s.config
    by_front None = refl
    by_front (Some m) = refl

continues_called : (c : Course) (call : Call) → Continues c (called c call)
continues_called c call = record {
  config = same_config c.state call;
  start = refl;
  sent_before = refl;
  accepted = begins_same c.accepted;
  added = begins_same c.added;
  output = begins_with c.output (writes c.state call);
  taken = begins_same c.taken;
}

continues_counting : (c d : Course) (o : Outcome) (i : Incoming) → Continues c d → Continues c (counting d o i)
continues_counting c d o i k = record {
  config = k.config;
  start = k.start;
  sent_before = k.sent_before;
  accepted = prefix_trans c.accepted d.accepted (d.accepted ++ accepted_by o i) k.accepted (begins_with d.accepted (accepted_by o i));
  added = prefix_trans c.added d.added (d.added ++ records_of o.act i) k.added (begins_with d.added (records_of o.act i));
  output = k.output;
  taken = k.taken;
}

goes_one : (h : List Entry) (c : Course) (call : Call) → MayStand h c.state call → Continues c (next_course c call)
goes_one h c (begin now) may = absurd may.comes
goes_one h c (frame incoming at now) may = by_record (is_record o.act)
  where
    o : Outcome
    o = reply_of (around c.state at now) c.state.facts incoming

    k : Continues c (called c (frame incoming at now))
    k = continues_called c (frame incoming at now)

    waits : Course
    waits = record (called c (frame incoming at now)) { waiting = Some (record { incoming = incoming; at = at; moment = now }) }

    by_record : (b : Bool) → Continues c (if b then waits else counting (called c (frame incoming at now)) o incoming)
    by_record true = record { config = k.config; start = k.start; sent_before = k.sent_before; accepted = k.accepted; added = k.added; output = k.output; taken = k.taken }
    by_record false = continues_counting c (called c (frame incoming at now)) o incoming k
goes_one h c (did now) may = by_pending c.state.pending c.waiting
  where
    by_pending : (p : Option Outcome) (w : Option Waiting) → Continues c (next_done (called c (did now)) p w)
    by_pending None w = continues_called c (did now)
    by_pending (Some o) None = continues_called c (did now)
    by_pending (Some o) (Some w) = continues_counting c (called c (did now)) o w.incoming (continues_called c (did now))
goes_one h c (taken count) may = record {
  config = refl;
  start = refl;
  sent_before = refl;
  accepted = begins_same c.accepted;
  added = begins_same c.added;
  output = begins_with c.output [];
  taken = begins_with c.taken (take count c.state.unsent);
}
goes_one h c (bad_frame at now) may = continues_called c (bad_frame at now)
goes_one h c (tick now) may = continues_called c (tick now)
goes_one h c (turn_done now) may = continues_called c (turn_done now)
goes_one h c (closed last now) may = continues_called c (closed last now)
goes_one h c link_end may = continues_called c link_end
goes_one h c (live ps now) may = continues_called c (live ps now)
goes_one h c (again ps now) may = continues_called c (again ps now)
goes_one h c reserve may = continues_called c reserve
goes_one h c held_done may = by_front (front_of c.state)
  where
    k : Continues c (called c held_done)
    k = continues_called c held_done

    by_front : (m : Option Numbered) → Continues c (next_held (called c held_done) m)
    by_front None = k
    by_front (Some m) = record {
      config = k.config;
      start = k.start;
      sent_before = k.sent_before;
      accepted = k.accepted;
      added = prefix_trans c.added c.added (c.added ++ InboxRecord.apply m ∷ []) k.added (begins_with c.added (InboxRecord.apply m ∷ []));
      output = k.output;
      taken = k.taken;
    }

pub calls_go_on : CallsGoOn
calls_go_on h c [] all = continues_same c
calls_go_on h c (call ∷ later) all = continues_on c (next_course c call) (course_after (next_course c call) later) (goes_one h c call all.0) (calls_go_on h (next_course c call) later all.1)
