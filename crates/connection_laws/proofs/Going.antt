-- A connection that begins stands, and each call that may come on it keeps it standing.
use Rattle.std.proofs.Common.{◌≡◌, ℕ, ◌+◌, ◌-◌, ◌≤◌, ◌==◌, ◌&&◌, ◌||◌, Bool, true, false, if◌then◌else◌, IsTrue, IfSome, IsSome, List, [], ◌∷◌, ◌++◌, map, length, take, drop, Option, Some, None, option_map, option_to_list, Contains, nat_lt, refl, sym, ap, subst, ◌∙◌, arith, append-nil, append_assoc, length-append, true≢false}
use Rattle.std.specs.Prelude.{is_none, is_some}
use Rattle.std.proofs.lemmas.Grind.{flat_map-append}
use Rattle.std.proofs.lemmas.List.{take-append-drop}
use Rattle.session_model.specs.Journal.{Entry}
use Rattle.session_model.specs.Inbox.{InboxRecord, Numbered, applied, skips, next_number}
use Rattle.session_model.specs.Events.{Event, announce, in_flow, message, numbered, standing, BeginsWithHandshake}
use Rattle.session_model.specs.Growth.{Grown, GrownLater}
use Rattle.session_model.specs.Growth as model
use Rattle.session_model.proofs.Inboxes.{skips-append}
use Rattle.session_model.proofs.Numbering.{numbered-append, standing-append}
use Rattle.session_model.proofs.Through.{growth_goes_on, held_goes_on}
use Rattle.session_model.proofs.Lists.{all_weaker}
use Rattle.std.specs.List.{AllByRecursion}
use Rattle.std.proofs.lemmas.List.Elements.{Contains-append_right, Contains-append_left}
use Rattle.flow_window.specs.Window.{holding}
use Rattle.fixp_shake.specs.declared.config.EndConfig.{EndConfig}
use Rattle.fixp_replies.specs.declared.act.Ending.{Ending}
use Rattle.fixp_msgs.specs.Canonical.{frame_bytes}
use Rattle.fixp_msgs.specs.Message.{Message, sequence, unsequenced_heartbeat, finished_sending, terminate}
use Rattle.fixp_msgs.specs.declared.flow.Flow.{Flow}
use Rattle.fixp_msgs.specs.declared.flow.Flow.TheVariants as flows
use Rattle.fixp_msgs.specs.declared.numbering.Range.{Range}
use Rattle.flow_idem.specs.Runs.{runs_of}
use Rattle.fixp_shake.specs.declared.phase.Phase.{Phase}
use Rattle.fixp_shake.specs.declared.phase.Phase.TheVariants as phases
use Rattle.fixp_shake.specs.declared.violation.Violation.{Violation}
use Rattle.fixp_shake.specs.Flows.{is_recoverable, is_sequenced, is_absent}
use Rattle.fixp_shake.specs.Phases.{is_establishing, is_established, is_shaken}
use Rattle.fixp_replies.specs.declared.facts.EndState.{EndState}
use Rattle.fixp_replies.specs.declared.facts.Facts.{Facts}
use Rattle.fixp_replies.specs.Acts.{is_record}
use Rattle.fixp_replies.specs.Events.{Made, begun, heartbeat, heartbeats, is_due, lateness, applied_runs, turn_ended, outbox_finished, tells_finish, finish_told, link_ending}
use Rattle.fixp_replies.specs.Facts.{Around, is_initiator, connecting, in_phase, serves, finishes_exchanged}
use Rattle.fixp_replies.specs.Incoming.{Incoming, payload_in}
use Rattle.fixp_replies.specs.Serving.{own_finishing}
use Rattle.fixp_replies.specs.declared.facts.OwnFinish.TheVariants as finishes
use Rattle.fixp_replies.specs.Outcomes.{Outcome}
use Rattle.fixp_replies.specs.Replies.{reply_to_bad_frame}
use Rattle.fixp_machine.specs.Machine.{State, frames_reserved, begin, frame, bad_frame, did, tick, turn_done, closed, link_end, live, again, taken, reserve, held_done, held_until, held_with, held_applied, past_held, front_of, around, bytes_of, wrote, made, reply_applied, after_bad_frame, after_act, broken_by, ticked, after_turn, after_closed, link_ended, payload_frames, counted_sent, sent_live, rest_of, range_end, sent_again, done_pending, served_again}
use Rattle.fixp_machine.proofs.Calls.{begun_as}
use Rattle.fixp_machine.specs.Accepting as accepting
use Rattle.fixp_machine.specs.Accepting.{model_flow, event_of, records_of, Agrees, GrowsBy, GrowsHeld, told_in, turn_end, outbox_finish}
use Rattle.fixp_machine.proofs.Growing.{quiet_grows, unmoved}
use Rattle.fixp_machine.proofs.Accepted.{accepted_frame_grows, refused_frame_spares, frame_tells, begins_agreeing, own_keeps_agreeing, alike}
use Rattle.fixp_machine.specs.Sound.{MayHold}
use Rattle.fixp_machine.proofs.Holding.{holding_goes_on}
use Rattle.fixp_machine.proofs.HeldGrowth.{holds_what_came, held_grows}
use Rattle.fixp_machine.proofs.Windowing.{IsFront, front_there}
use Rattle.fixp_machine.proofs.Tests.{is_done}
use Rattle.connection_laws.specs.Writing.{events_in, written_again, said_with, Piece, said, said_all, entries, bytes_written, events_written, ranges_told, said_breaking, range_closed, is_reached, SameOwn, nothing, shakes, returns, resends, WritesOwn, HearsHandshake}
use Rattle.connection_laws.specs.Courses.{Waiting, Course, inbox_of, reply_to, accepted_by, still_waiting, next_done, next_held, next_course}
use Rattle.connection_laws.specs.Standing.{number_at, OwnFlow, Stands, AreEntries, IsOpen, MayGoLive, MayGoAgain, ConnectionBegins, BeginsAgain, CallKeeps, CallsKeep, StandsLonger, WaitingGrows}
use Rattle.connection_laws.proofs.Replied.{still_own, frame_writes, frame_hears}
use Rattle.connection_laws.proofs.Owned.{stays_own, shakes_own, announces_own, returning, replies_own, entries_reach, entries_own, longer_own}
use Rattle.connection_laws.proofs.Pieces.{bytes_said, events_said, told_said, bytes_entries, events_entries, told_entries}

-- the frame that waits stays, where its outcome stays pending
waits_still : (p : Option Outcome) (w : Option Waiting) (f : Waiting → Outcome) → p ≡ option_map f w → p ≡ option_map f (still_waiting p w)
waits_still None w f e = refl
waits_still (Some o) w f e = e

records_still : (p : Option Outcome) (w : Option Waiting) (P : Waiting → Type 0) → IfSome w P → IfSome (still_waiting p w) P
records_still None w P r = tt
records_still (Some o) w P r = r

waits_for_none : (p : Option Outcome) (w : Option Waiting) (f : Waiting → Outcome) → p ≡ None → p ≡ option_map f (still_waiting p w)
waits_for_none None w f e = refl
waits_for_none (Some o) w f e = absurd cc

none_records : (p : Option Outcome) (w : Option Waiting) (P : Waiting → Type 0) → p ≡ None → IfSome (still_waiting p w) P
none_records None w P e = tt
none_records (Some o) w P e = absurd cc

abbrev ActIsRecord : State → Waiting → Type 0
ActIsRecord s w = IsTrue (is_record (reply_to s w).act)

-- what is held came, on a recoverable flow
record Came (flow : Flow) (accepted : List Event) (held : List Numbered) : Type 0 where
  came : AllByRecursion (λ (m : Numbered). Contains (numbered None accepted) m) held
  held_on : is_recoverable flow ≡ false → held ≡ []

same_held : (h : List Entry) (c : Course) (held : List Numbered) → Stands h c → held ≡ c.state.held → Came c.state.config.peer_flow c.accepted held
same_held h c held st e = subst (λ ms. Came c.state.config.peer_flow c.accepted ms) (sym e) (record { came = st.came; held_on = st.held_on })

none_held : (flow : Flow) (accepted : List Event) → Came flow accepted []
none_held flow accepted = record { came = tt; held_on = λ _. refl }

-- more is accepted
came_more : (flow : Flow) (first second : List Event) (held : List Numbered) → Came flow first held → Came flow (first ++ second) held
came_more flow first second held k = record {
  came = subst (λ ms. AllByRecursion (λ (m : Numbered). Contains ms m) held) (sym (numbered-append None first second))
      (all_weaker (λ (m : Numbered). Contains (numbered None first) m) (λ (m : Numbered). Contains (numbered None first ++ numbered (standing None first) second) m)
      (λ m there. Contains-append_left (numbered None first) (numbered (standing None first) second) m there) held k.came);
  held_on = k.held_on;
}

-- where a connection ends, nothing is held any more
came_until : (flow : Flow) (accepted : List Event) (ending : Option Ending) (held : List Numbered) → Came flow accepted held → Came flow accepted (held_until ending held)
came_until flow accepted None held k = k
came_until flow accepted (Some e) held k = none_held flow accepted

-- and one more is
came_holding : (P : Numbered → Type 0) (n : ℕ) (p : List ℕ) (ms : List Numbered) → P (record { number = n; payload = p }) → AllByRecursion P ms → AllByRecursion P (holding n p ms)
came_holding P n p [] new all = (new, tt)
came_holding P n p (m ∷ ms) new all = by_tests (m.number == n) (nat_lt n m.number) (came_holding P n p ms new all.1)
  where
    by_tests : (same below : Bool) → AllByRecursion P (holding n p ms)
        → AllByRecursion P (if same then m ∷ ms else if below then record { number = n; payload = p } ∷ m ∷ ms else m ∷ holding n p ms)
    by_tests true below later = all
    by_tests false true later = (new, all)
    by_tests false false later = (all.0, later)

-- a frame's message is held, if it is to be
came_with : (s : State) (w : Waiting) (accepted : List Event) (inbox : List InboxRecord) → Agrees s.config.peer_flow (standing None accepted) s.facts inbox
    → Came s.config.peer_flow accepted s.held
    → Came s.config.peer_flow (accepted ++ accepted_by (reply_to s w) w.incoming) (held_with (reply_to s w).holds (payload_in w.incoming) s.held)
came_with s w accepted inbox a k = by_number (reply_to s w).holds refl
  where
    x : Around
    x = around s w.at w.moment

    o : Outcome
    o = reply_to s w

    es : List Event
    es = accepted_by o w.incoming

    more : Came s.config.peer_flow (accepted ++ es) s.held
    more = came_more s.config.peer_flow accepted es s.held k

    by_number : (h : Option ℕ) → o.holds ≡ h → Came s.config.peer_flow (accepted ++ es) (held_with h (payload_in w.incoming) s.held)
    by_number None e = more
    by_number (Some n) e =
        let m : Numbered = record { number = n; payload = payload_in w.incoming } in
        let there = holds_what_came x s.facts w.incoming (standing None accepted) inbox n a e in
        let es_is : es ≡ option_to_list (event_of w.incoming) = accepted_one o.accepted there.0 in
        let carried : numbered (standing None accepted) es ≡ m ∷ [] = ap (λ k. numbered (standing None accepted) k) es_is ∙ there.1 in
        let new : Contains (numbered None (accepted ++ es)) m = subst (λ ms. Contains ms m) (sym (numbered-append None accepted es))
        (Contains-append_right (numbered None accepted) (numbered (standing None accepted) es) m (subst (λ ms. Contains ms m) (sym carried) (0, omega arith, refl))) in
        let may : MayHold s.config s.most s.facts o n = subst (λ (v : Option ℕ). IfSome v (λ j. MayHold s.config s.most s.facts o j)) e
        (holding_goes_on x s.facts w.incoming (λ r. a.waits r ∙ sym a.recorded)).holds in
        record {
          came = came_holding (λ (j : Numbered). Contains (numbered None (accepted ++ es)) j) n (payload_in w.incoming) s.held new more.came;
          held_on = λ f. absurd (true≢false (sym may.flow ∙ f));
        }
      where
        accepted_one : (b : Bool) → IsTrue b → (if b then option_to_list (event_of w.incoming) else []) ≡ option_to_list (event_of w.incoming)
        accepted_one true t = refl
        accepted_one false t = absurd cc

-- a call by which nothing is accepted
record Moves (h : List Entry) (c : Course) (s : State) (w : Option Waiting) (ps : List Piece) : Type 0 where
  config : s.config ≡ c.state.config
  begun : s.begun ≡ true
  agrees : Agrees c.state.config.peer_flow (standing None c.accepted) s.facts (inbox_of c)
  same : is_shaken s.facts.connection.phase ≡ is_shaken c.state.facts.connection.phase
  pends : s.pending ≡ option_map (reply_to s) w
  records : IfSome w (ActIsRecord s)
  own : OwnFlow c.state.config.own_flow h c.sent_before s.facts (events_written c.output ++ events_written ps)
  tells : ranges_told ps ≡ []
  bytes : s.unsent ≡ c.state.unsent ++ bytes_written ps
  held : Came c.state.config.peer_flow c.accepted s.held

-- the bytes that were written are those that the link took and those unsent
written_so_far : (output ps : List Piece) (gone unsent now : List ℕ) → bytes_written output ≡ gone ++ unsent → now ≡ unsent ++ bytes_written ps → bytes_written (output ++ ps) ≡ gone ++ now
written_so_far output ps gone unsent now e n =
    flat_map-append _ output ps ∙ (ap (λ bs. bs ++ bytes_written ps) e ∙ (append_assoc gone unsent (bytes_written ps) ∙ ap (λ bs. gone ++ bs) (sym n)))

moved : (h : List Entry) (c : Course) (s : State) (w : Option Waiting) (ps : List Piece) → Stands h c → Moves h c s w ps
    → Stands h (record c { state = s; waiting = w; output = c.output ++ ps })
moved h c s w ps st m = record {
  begun = m.begun;
  grown = subst (λ cfg. Grown (model_flow cfg.peer_flow) None c.accepted c.start (inbox_of c)) (sym m.config) st.grown;
  agrees = subst (λ cfg. Agrees cfg.peer_flow (standing None c.accepted) s.facts (inbox_of c)) (sym m.config) m.agrees;
  begins = st.begins;
  unheard = λ n. st.unheard (sym m.same ∙ n);
  heard = λ t. st.heard (sym m.same ∙ t);
  pends = m.pends;
  records = m.records;
  own = subst (λ cfg. OwnFlow cfg.own_flow h c.sent_before s.facts (events_written (c.output ++ ps))) (sym m.config)
      (subst (λ es. OwnFlow c.state.config.own_flow h c.sent_before s.facts es) (sym (flat_map-append _ c.output ps)) m.own);
  tells = flat_map-append _ c.output ps ∙ (ap (λ rs. ranges_told c.output ++ rs) m.tells ∙ (append-nil (ranges_told c.output) ∙ st.tells));
  bytes = written_so_far c.output ps c.taken c.state.unsent s.unsent st.bytes m.bytes;
  came = m.held.came;
  held_on = λ e. m.held.held_on (ap (λ (cfg : EndConfig). is_recoverable cfg.peer_flow) (sym m.config) ∙ e);
}

-- the facts stay
resting : (h : List Entry) (c : Course) (s : State) (w : Option Waiting) (ps : List Piece) → Stands h c → s.config ≡ c.state.config → s.facts ≡ c.state.facts → s.begun ≡ true
    → s.pending ≡ option_map (reply_to s) w → IfSome w (ActIsRecord s) → OwnFlow c.state.config.own_flow h c.sent_before c.state.facts (events_written c.output ++ events_written ps)
    → ranges_told ps ≡ [] → s.unsent ≡ c.state.unsent ++ bytes_written ps → Came c.state.config.peer_flow c.accepted s.held → Moves h c s w ps
resting h c s w ps st config facts began pends records own tells bytes held = record {
  config = config;
  begun = began;
  agrees = subst (λ f. Agrees c.state.config.peer_flow (standing None c.accepted) f (inbox_of c)) (sym facts) st.agrees;
  same = ap (λ (f : Facts). is_shaken f.connection.phase) facts;
  pends = pends;
  records = records;
  own = subst (λ f. OwnFlow c.state.config.own_flow h c.sent_before f (events_written c.output ++ events_written ps)) (sym facts) own;
  tells = tells;
  bytes = bytes;
  held = held;
}

-- nothing is written of the own flow
unsaid : (h : List Entry) (c : Course) → Stands h c → OwnFlow c.state.config.own_flow h c.sent_before c.state.facts (events_written c.output ++ [])
unsaid h c st = subst (λ es. OwnFlow c.state.config.own_flow h c.sent_before c.state.facts es) (sym (append-nil (events_written c.output))) st.own

-- what a reply makes of the inbox
frame_grows : (s : State) (w : Waiting) (c : Option ℕ) (inbox : List InboxRecord) → Agrees s.config.peer_flow c s.facts inbox
    → GrowsBy s.config.peer_flow c inbox (accepted_by (reply_to s w) w.incoming) (records_of (reply_to s w).act w.incoming) (reply_to s w).next
frame_grows s w c inbox a = by_test (reply_to s w).accepted refl
  where
    o : Outcome
    o = reply_to s w

    by_test : (b : Bool) → o.accepted ≡ b → GrowsBy s.config.peer_flow c inbox (if b then option_to_list (event_of w.incoming) else []) (records_of o.act w.incoming) o.next
    by_test true e = accepted_frame_grows (around s w.at w.moment) s.facts w.incoming c inbox a e
    by_test false e =
        let none = refused_frame_spares (around s w.at w.moment) s.facts w.incoming c inbox a e in
        quiet_grows s.config.peer_flow c inbox (records_of o.act w.incoming) s.facts o.next a none.1 (ap (λ rs. applied rs) none.0) (ap (λ rs. skips rs) none.0)

stays_shaken : (x : Around) (f : Facts) (o : Outcome) → WritesOwn x f o → is_shaken f.connection.phase ≡ true → is_shaken o.next.connection.phase ≡ true
stays_shaken x f o (nothing none same) t = same.stays t
stays_shaken x f o (shakes s) t = absurd (true≢false (sym t ∙ s.before))
stays_shaken x f o (returns r) t = (returning x f o.next r.may).done
stays_shaken x f o (resends r) t = r.stays

begins_more : (es more : List Event) → 1 ≤ length es → BeginsWithHandshake es → BeginsWithHandshake (es ++ more)
begins_more [] more some b = let no : ⊥ = omega arith in absurd no
begins_more (e ∷ es) more some b = b

-- what was accepted still begins with the handshake behind a further frame
pub begins_behind : (h : List Entry) (c : Course) (w : Waiting) → Stands h c → BeginsWithHandshake (c.accepted ++ accepted_by (reply_to c.state w) w.incoming)
begins_behind h c w st = by_phase (is_shaken c.state.facts.connection.phase) refl
  where
    o : Outcome
    o = reply_to c.state w

    opening : (b : Bool) → o.accepted ≡ b → is_shaken c.state.facts.connection.phase ≡ false → BeginsWithHandshake (if b then option_to_list (event_of w.incoming) else [])
    opening true e n = (frame_hears (around c.state w.at w.moment) c.state.facts w.incoming).opens e n
    opening false e n = tt

    by_phase : (b : Bool) → is_shaken c.state.facts.connection.phase ≡ b → BeginsWithHandshake (c.accepted ++ accepted_by o w.incoming)
    by_phase true e = begins_more c.accepted (accepted_by o w.incoming) (st.heard e) st.begins
    by_phase false e = subst (λ before. BeginsWithHandshake (before ++ accepted_by o w.incoming)) (sym (st.unheard e)) (opening o.accepted refl e)

-- an outcome takes effect
took : (h : List Entry) (c : Course) (w : Waiting) (s : State) → Stands h c → s.config ≡ c.state.config → s.begun ≡ true → s.facts ≡ (reply_to c.state w).next → s.pending ≡ None
    → s.unsent ≡ c.state.unsent ++ bytes_of (reply_to c.state w).written → Came c.state.config.peer_flow (c.accepted ++ accepted_by (reply_to c.state w) w.incoming) s.held
    → Stands h (record c {
      state = s;
      accepted = c.accepted ++ accepted_by (reply_to c.state w) w.incoming;
      added = c.added ++ records_of (reply_to c.state w).act w.incoming;
      waiting = None;
      output = c.output ++ said_all (reply_to c.state w).written;
    })
took h c w s st config began facts pending unsent held = record {
  begun = began;
  grown = subst (λ cfg. Grown (model_flow cfg.peer_flow) None (c.accepted ++ es) c.start (c.start ++ (c.added ++ rs))) (sym config)
      (subst (λ inbox. Grown (model_flow flow) None (c.accepted ++ es) c.start inbox) (append_assoc c.start c.added rs)
      (growth_goes_on (model_flow flow) None c.accepted es c.start (inbox_of c) (inbox_of c ++ rs) st.grown g.grown));
  agrees = subst (λ cfg. Agrees cfg.peer_flow (standing None (c.accepted ++ es)) s.facts (c.start ++ (c.added ++ rs))) (sym config)
      (subst (λ f. Agrees flow (standing None (c.accepted ++ es)) f (c.start ++ (c.added ++ rs))) (sym facts)
      (subst (λ k. Agrees flow k o.next (c.start ++ (c.added ++ rs))) (sym (standing-append None c.accepted es))
      (subst (λ inbox. Agrees flow (standing (standing None c.accepted) es) o.next inbox) (append_assoc c.start c.added rs) g.agrees)));
  begins = begins_behind h c w st;
  unheard = λ n. unheard (ap (λ (f : Facts). is_shaken f.connection.phase) (sym facts) ∙ n);
  heard = λ t. heard (is_shaken c.state.facts.connection.phase) refl (ap (λ (f : Facts). is_shaken f.connection.phase) (sym facts) ∙ t);
  pends = pending;
  records = tt;
  own = subst (λ cfg. OwnFlow cfg.own_flow h c.sent_before s.facts (events_written (c.output ++ said_all o.written))) (sym config)
      (subst (λ f. OwnFlow c.state.config.own_flow h c.sent_before f (events_written (c.output ++ said_all o.written))) (sym facts)
      (subst (λ k. OwnFlow c.state.config.own_flow h c.sent_before o.next k) (sym (flat_map-append _ c.output (said_all o.written)))
      (subst (λ k. OwnFlow c.state.config.own_flow h c.sent_before o.next (events_written c.output ++ k)) (sym (events_said o.written))
      (replies_own x h c.sent_before c.state.facts o (events_written c.output) writing st.own))));
  tells = flat_map-append _ c.output (said_all o.written)
      ∙ (ap (λ rs. rs ++ ranges_told (said_all o.written)) st.tells
      ∙ (ap (λ k. skips c.added ++ k) (told_said o.written ∙ frame_tells x c.state.facts w.incoming (standing None c.accepted) (inbox_of c) st.agrees)
      ∙ sym (skips-append c.added rs)));
  bytes = written_so_far c.output (said_all o.written) c.taken c.state.unsent s.unsent st.bytes (unsent ∙ ap (λ bs. c.state.unsent ++ bs) (sym (bytes_said o.written)));
  came = held.came;
  held_on = λ e. held.held_on (ap (λ (cfg : EndConfig). is_recoverable cfg.peer_flow) (sym config) ∙ e);
}
  where
    x : Around
    x = around c.state w.at w.moment

    o : Outcome
    o = reply_to c.state w

    flow : Flow
    flow = c.state.config.peer_flow

    es : List Event
    es = accepted_by o w.incoming

    rs : List InboxRecord
    rs = records_of o.act w.incoming

    g : GrowsBy flow (standing None c.accepted) (inbox_of c) es rs o.next
    g = frame_grows c.state w (standing None c.accepted) (inbox_of c) st.agrees

    writing : WritesOwn x c.state.facts o
    writing = frame_writes x c.state.facts w.incoming

    hears : HearsHandshake c.state.facts w.incoming o
    hears = frame_hears x c.state.facts w.incoming

    none_heard : (b : Bool) → o.accepted ≡ b → is_shaken o.next.connection.phase ≡ false → (if b then option_to_list (event_of w.incoming) else []) ≡ []
    none_heard true e n = ap (λ k. option_to_list k) (hears.unheard e n)
    none_heard false e n = refl

    not_before : (b : Bool) → is_shaken c.state.facts.connection.phase ≡ b → is_shaken o.next.connection.phase ≡ false → is_shaken c.state.facts.connection.phase ≡ false
    not_before true e n = absurd (true≢false (sym (stays_shaken x c.state.facts o writing e) ∙ n))
    not_before false e n = e

    unheard : is_shaken o.next.connection.phase ≡ false → c.accepted ++ es ≡ []
    unheard n = ap (λ before. before ++ es) (st.unheard (not_before (is_shaken c.state.facts.connection.phase) refl n)) ∙ none_heard o.accepted refl n

    one_heard : (b : Bool) (e : Option Event) → IsTrue b × IsSome e → 1 ≤ length (if b then option_to_list e else [])
    one_heard true (Some e) k = omega arith
    one_heard true None k = absurd cc
    one_heard false e k = absurd cc

    heard : (b : Bool) → is_shaken c.state.facts.connection.phase ≡ b → is_shaken o.next.connection.phase ≡ true → 1 ≤ length (c.accepted ++ es)
    heard true e t = let some = st.heard e in omega (arith, length-append c.accepted es)
    heard false e t = let some : 1 ≤ length es = one_heard o.accepted (event_of w.incoming) (hears.done e t) in omega (arith, length-append c.accepted es)

-- a frame comes
framed : (h : List Entry) (c : Course) (incoming : Incoming) (at now : ℕ) → Stands h c → IsOpen c.state → Stands h (next_course c (frame incoming at now))
framed h c incoming at now st open_now = by_test (is_record o.act) refl
  where
    w : Waiting
    w = record { incoming = incoming; at = at; moment = now }

    o : Outcome
    o = reply_to c.state w

    got : State
    got = record c.state { moment = now; last_received = now; room = c.state.room - 1; held = held_with o.holds (payload_in incoming) c.state.held }

    pended : State
    pended = record c.state { moment = now; last_received = now; room = c.state.room - 1; pending = Some o }

    by_test : (b : Bool) → is_record o.act ≡ b → Stands h (
        if b then record c { state = if b then pended else reply_applied got o now; waiting = Some w; output = c.output ++ (if b then [] else said_all o.written) }
        else record c {
          state = if b then pended else reply_applied got o now;
          accepted = c.accepted ++ accepted_by o incoming;
          added = c.added ++ records_of o.act incoming;
          waiting = None;
          output = c.output ++ (if b then [] else said_all o.written);
        }
        )
    by_test true e = moved h c pended (Some w) [] st (resting h c pended (Some w) [] st refl refl open_now.begun refl e (unsaid h c st) refl (sym (append-nil c.state.unsent)) (same_held h c c.state.held st refl))
    by_test false e = took h c w (reply_applied got o now) st refl open_now.begun refl refl refl
        (came_until c.state.config.peer_flow (c.accepted ++ accepted_by o incoming) o.ending got.held
        (came_with c.state w c.accepted (inbox_of c) st.agrees (same_held h c c.state.held st refl)))

-- the act of the frame that waits is done
done : (h : List Entry) (c : Course) (now : ℕ) → Stands h c → IsSome c.state.pending → Stands h (next_course c (did now))
done h c now st some = by_case c.state.pending c.waiting refl refl some
  where
    by_case : (p : Option Outcome) (w : Option Waiting) → c.state.pending ≡ p → c.waiting ≡ w → IsSome p → Stands h (next_done (record c {
      state = done_pending c.state p now;
      waiting = still_waiting (done_pending c.state p now).pending c.waiting;
      output = c.output ++ said_all (said_with p);
    }) p w)
    by_case None w e k t = absurd cc
    by_case (Some o) None e k t = absurd (cc (st.pends, e, ap (λ v. option_map (reply_to c.state) v) k))
    by_case (Some o) (Some w) e k t =
        let same : Some o ≡ Some (reply_to c.state w) = sym e ∙ (st.pends ∙ ap (λ v. option_map (reply_to c.state) v) k) in
        let is : o ≡ reply_to c.state w = cc same in
        subst (λ (a : Outcome). Stands h (record c {
          state = after_act c.state a now;
          accepted = c.accepted ++ accepted_by a w.incoming;
          added = c.added ++ records_of a.act w.incoming;
          waiting = None;
          output = c.output ++ said_all a.written;
        })) (sym is)
        (took h c w (after_act c.state (reply_to c.state w) now) st refl st.begun refl refl refl
        (came_until c.state.config.peer_flow (c.accepted ++ accepted_by (reply_to c.state w) w.incoming) (reply_to c.state w).ending c.state.held
        (came_more c.state.config.peer_flow c.accepted (accepted_by (reply_to c.state w) w.incoming) c.state.held (same_held h c c.state.held st refl))))

-- bytes came that are no frame
unframed : (h : List Entry) (c : Course) (at now : ℕ) → Stands h c → IsOpen c.state → Stands h (next_course c (bad_frame at now))
unframed h c at now st open_now =
    let said_of : List Message = (reply_to_bad_frame (around c.state at now) c.state.facts).written in
    let s : State = after_bad_frame c.state at now in
    moved h c s None (said_all said_of) st (resting h c s None (said_all said_of) st refl refl open_now.begun refl tt (unsaid h c st) refl (ap (λ bs. c.state.unsent ++ bs) (sym (bytes_said said_of))) (none_held c.state.config.peer_flow c.accepted))

-- the heartbeat is an announcement of the next number, on a flow with numbers
beats : (x : Around) (h : List Entry) (before : ℕ) (f : Facts) (written : List Event) (last_sent : ℕ) (unsent : List ℕ) → OwnFlow x.config.own_flow h before f written
    → OwnFlow x.config.own_flow h before f (written ++ events_in (heartbeats x f last_sent unsent))
beats x h before f written last_sent (b ∷ bs) o = subst (λ es. OwnFlow x.config.own_flow h before f es) (sym (append-nil written)) o
beats x h before f written last_sent [] o = by_test (is_established f.connection.phase) (is_none f.connection.serving) (is_due x last_sent) refl refl
  where
    none_served : (v : Option Range) → is_none v ≡ true → v ≡ None
    none_served None t = refl
    none_served (Some r) t = absurd (true≢false (sym t))

    by_flow : (b : Bool) → is_sequenced x.config.own_flow ≡ b → is_shaken f.connection.phase ≡ true → f.connection.serving ≡ None
        → OwnFlow x.config.own_flow h before f (written ++ events_in ((if b then sequence (f.recorded.sent + 1) else unsequenced_heartbeat) ∷ []))
    by_flow true e done none =
        let few = o.enough in
        announces_own x.config.own_flow h before (f.recorded.sent + 1) f f written done done refl (λ _. none) (ap (λ v. number_at (f.recorded.sent + 1) v) none) (omega arith) (omega arith) o
    by_flow false e done none = subst (λ es. OwnFlow x.config.own_flow h before f es) (sym (append-nil written)) o

    by_test : (e n d : Bool) → is_established f.connection.phase ≡ e → is_none f.connection.serving ≡ n
        → OwnFlow x.config.own_flow h before f (written ++ events_in (if e && n && d then heartbeat x f ∷ [] else []))
    by_test true true true e n = by_flow (is_sequenced x.config.own_flow) refl (is_done f.connection.phase e) (none_served f.connection.serving n)
    by_test true true false e n = subst (λ es. OwnFlow x.config.own_flow h before f es) (sym (append-nil written)) o
    by_test true false d e n = subst (λ es. OwnFlow x.config.own_flow h before f es) (sym (append-nil written)) o
    by_test false n d e k = subst (λ es. OwnFlow x.config.own_flow h before f es) (sym (append-nil written)) o

beats_tell_nothing : (x : Around) (f : Facts) (last_sent : ℕ) (unsent : List ℕ) → told_in (heartbeats x f last_sent unsent) ≡ []
beats_tell_nothing x f last_sent (b ∷ bs) = refl
beats_tell_nothing x f last_sent [] = by_test (is_established f.connection.phase && is_none f.connection.serving && is_due x last_sent) (is_sequenced x.config.own_flow)
  where
    by_test : (b numbered : Bool) → told_in (if b then (if numbered then sequence (f.recorded.sent + 1) else unsequenced_heartbeat) ∷ [] else []) ≡ []
    by_test true true = refl
    by_test true false = refl
    by_test false numbered = refl

breaks_quietly : (s : State) (v : Option Violation) (now : ℕ) → (events_in (said_breaking s v now) ≡ []) × (told_in (said_breaking s v now) ≡ [])
breaks_quietly s None now = (refl, refl)
breaks_quietly s (Some v) now = (refl, refl)

-- the clock ticks
ticking : (h : List Entry) (c : Course) (now : ℕ) → Stands h c → Stands h (next_course c (tick now))
ticking h c now st = moved h c (ticked c.state now) (still_waiting (ticked c.state now).pending c.waiting) _ st (by_test (is_some c.state.ending) (lateness x f c.state.start c.state.last_received))
  where
    x : Around
    x = around c.state 0 now

    f : Facts
    f = c.state.facts

    hb : List Message
    hb = heartbeats x f c.state.last_sent c.state.unsent

    beat : State
    beat = wrote (record c.state { moment = now }) (bytes_of hb) now

    says : (v : Option Violation) → List Piece
    says v = said_all (hb ++ said_breaking c.state v now)

    events : (v : Option Violation) → events_written (says v) ≡ events_in hb
    events v = events_said (hb ++ said_breaking c.state v now)
        ∙ (flat_map-append _ hb (said_breaking c.state v now) ∙ (ap (λ es. events_in hb ++ es) (breaks_quietly c.state v now).0 ∙ append-nil (events_in hb)))

    owned : (v : Option Violation) → OwnFlow c.state.config.own_flow h c.sent_before f (events_written c.output ++ events_written (says v))
    owned v = subst (λ es. OwnFlow c.state.config.own_flow h c.sent_before f (events_written c.output ++ es)) (sym (events v))
        (beats x h c.sent_before f (events_written c.output) c.state.last_sent c.state.unsent st.own)

    told : (v : Option Violation) → ranges_told (says v) ≡ []
    told v = told_said (hb ++ said_breaking c.state v now)
        ∙ (flat_map-append _ hb (said_breaking c.state v now) ∙ (ap (λ rs. rs ++ told_in (said_breaking c.state v now)) (beats_tell_nothing x f c.state.last_sent c.state.unsent) ∙ (breaks_quietly c.state v now).1))

    bytes : (v : Option Violation) → (c.state.unsent ++ bytes_of hb) ++ bytes_of (said_breaking c.state v now) ≡ c.state.unsent ++ bytes_written (says v)
    bytes v = append_assoc c.state.unsent (bytes_of hb) (bytes_of (said_breaking c.state v now))
        ∙ ap (λ bs. c.state.unsent ++ bs) (sym (flat_map-append frame_bytes hb (said_breaking c.state v now)) ∙ sym (bytes_said (hb ++ said_breaking c.state v now)))

    by_test : (b : Bool) (v : Option Violation) → Moves h c (if b then record c.state { moment = now } else broken_by beat v now)
        (still_waiting (if b then record c.state { moment = now } else broken_by beat v now).pending c.waiting) (if b then [] else says v)
    by_test true v = resting h c (record c.state { moment = now }) _ [] st refl refl st.begun (waits_still c.state.pending c.waiting (reply_to c.state) st.pends) (records_still c.state.pending c.waiting (ActIsRecord c.state) st.records) (unsaid h c st) refl (sym (append-nil c.state.unsent)) (same_held h c c.state.held st refl)
    by_test false None = resting h c beat _ (says None) st refl refl st.begun (waits_still c.state.pending c.waiting (reply_to c.state) st.pends) (records_still c.state.pending c.waiting (ActIsRecord c.state) st.records) (owned None) (told None) (sym (append-nil (c.state.unsent ++ bytes_of hb)) ∙ bytes None) (same_held h c c.state.held st refl)
    by_test false (Some v) = resting h c (broken_by beat (Some v) now) _ (says (Some v)) st refl refl st.begun refl tt (owned (Some v)) (told (Some v)) (bytes (Some v)) (none_held c.state.config.peer_flow c.accepted)

-- no more bytes come
ending_link : (h : List Entry) (c : Course) → Stands h c → Stands h (next_course c link_end)
ending_link h c st = moved h c (link_ended c.state) (still_waiting (link_ended c.state).pending c.waiting) [] st (by_test (is_some c.state.ending))
  where
    over : State
    over = record c.state { ending = Some (link_ending (around c.state 0 c.state.moment) c.state.facts); pending = None; held = [] }

    by_test : (b : Bool) → Moves h c (if b then c.state else over) (still_waiting (if b then c.state else over).pending c.waiting) []
    by_test true = resting h c c.state _ [] st refl refl st.begun (waits_still c.state.pending c.waiting (reply_to c.state) st.pends) (records_still c.state.pending c.waiting (ActIsRecord c.state) st.records) (unsaid h c st) refl (sym (append-nil c.state.unsent)) (same_held h c c.state.held st refl)
    by_test false = resting h c over _ [] st refl refl st.begun refl tt (unsaid h c st) refl (sym (append-nil c.state.unsent)) (none_held c.state.config.peer_flow c.accepted)

-- room is made
reserving : (h : List Entry) (c : Course) → Stands h c → Stands h (next_course c reserve)
reserving h c st =
    let s : State = record c.state { room = frames_reserved } in
    moved h c s (still_waiting c.state.pending c.waiting) [] st (resting h c s _ [] st refl refl st.begun (waits_still c.state.pending c.waiting (reply_to c.state) st.pends) (records_still c.state.pending c.waiting (ActIsRecord c.state) st.records) (unsaid h c st) refl (sym (append-nil c.state.unsent)) (same_held h c c.state.held st refl))

-- the link takes bytes
taking : (h : List Entry) (c : Course) (count : ℕ) → Stands h c → Stands h (next_course c (taken count))
taking h c count st = record {
  begun = st.begun;
  grown = st.grown;
  agrees = st.agrees;
  begins = st.begins;
  unheard = st.unheard;
  heard = st.heard;
  pends = waits_still c.state.pending c.waiting (reply_to c.state) st.pends;
  records = records_still c.state.pending c.waiting (ActIsRecord c.state) st.records;
  own = subst (λ ps. OwnFlow c.state.config.own_flow h c.sent_before c.state.facts (events_written ps)) (sym (append-nil c.output)) st.own;
  tells = ap (λ ps. ranges_told ps) (append-nil c.output) ∙ st.tells;
  bytes = ap (λ ps. bytes_written ps) (append-nil c.output) ∙ (st.bytes ∙ (ap (λ bs. c.taken ++ bs) (sym (take-append-drop count c.state.unsent))
      ∙ sym (append_assoc c.taken (take count c.state.unsent) (drop count c.state.unsent))));
  came = st.came;
  held_on = st.held_on;
}

-- what an event other than a frame makes, where nothing is said of the own flow
record Quiet (f : Facts) (m : Made) : Type 0 where
  own : SameOwn f m.next
  same : is_shaken m.next.connection.phase ≡ is_shaken f.connection.phase
  events : events_in m.written ≡ []
  told : told_in m.written ≡ []

applied_quietly : (runs : List Range) → (events_in (applied_runs runs) ≡ []) × (told_in (applied_runs runs) ≡ [])
applied_quietly [] = (refl, refl)
applied_quietly (r ∷ runs) = applied_quietly runs

turns_quietly : (x : Around) (f : Facts) (runs : List Range) → Quiet f (turn_ended x f runs)
turns_quietly x f runs = by_test (is_initiator x.config.role) (is_established f.connection.phase) (finishes_exchanged x f) (is_none f.connection.serving) refl
  where
    by_closing : (b : Bool) → (b ≡ true → is_established f.connection.phase ≡ true) → Quiet f (
        if b then record { written = applied_runs runs ++ terminate x.config.session 1 [] ∷ []; next = in_phase f phases.Closing }
        else record { written = applied_runs runs; next = f }
        )
    by_closing true e =
        let q = applied_quietly runs in record {
          own = record { sent = refl; serving = refl; stays = λ _. refl; reached = λ _. or_right (is_establishing f.connection.phase) (is_shaken f.connection.phase) (is_done f.connection.phase (e refl)); idle = λ t. absurd (true≢false (sym t)) };
          same = sym (is_done f.connection.phase (e refl));
          events = flat_map-append _ (applied_runs runs) (terminate x.config.session 1 [] ∷ []) ∙ (append-nil (events_in (applied_runs runs)) ∙ q.0);
          told = flat_map-append _ (applied_runs runs) (terminate x.config.session 1 [] ∷ []) ∙ (append-nil (told_in (applied_runs runs)) ∙ q.1);
        }
      where
        or_right : (a b : Bool) → b ≡ true → (a || b) ≡ true
        or_right true b e = refl
        or_right false b e = e
    by_closing false e = let q = applied_quietly runs in record { own = still_own f; same = refl; events = q.0; told = q.1 }

    by_test : (i e d n : Bool) → is_established f.connection.phase ≡ e → Quiet f (
        if i && e && d && n then record { written = applied_runs runs ++ terminate x.config.session 1 [] ∷ []; next = in_phase f phases.Closing }
        else record { written = applied_runs runs; next = f }
        )
    by_test true true d n t = by_closing _ (λ _. t)
    by_test true false d n t = by_closing false (λ k. absurd (true≢false (sym k)))
    by_test false e d n t = by_closing false (λ k. absurd (true≢false (sym k)))

finishes_quietly : (x : Around) (f : Facts) (last : ℕ) → Quiet f (finish_told x f last)
finishes_quietly x f last = by_test (tells_finish x f last)
  where
    by_test : (b : Bool) → Quiet f (
        if b
        then record { written = finished_sending x.config.session (if is_sequenced x.config.own_flow then Some last else None) ∷ []; next = own_finishing (outbox_finished f last) finishes.Told }
        else record { written = []; next = outbox_finished f last }
        )
    by_test true = record { own = record { sent = refl; serving = refl; stays = λ t. t; reached = λ t. t; idle = λ t. t }; same = refl; events = refl; told = refl }
    by_test false = record { own = record { sent = refl; serving = refl; stays = λ t. t; reached = λ t. t; idle = λ t. t }; same = refl; events = refl; told = refl }

-- what is made takes effect
made_moves : (h : List Entry) (c : Course) (s : State) (m : Made) (now : ℕ) → Stands h c → c.state.pending ≡ None → Quiet c.state.facts m
    → Agrees c.state.config.peer_flow (standing None c.accepted) m.next (inbox_of c)
    → s.config ≡ c.state.config → s.begun ≡ true → s.facts ≡ m.next → s.pending ≡ c.state.pending → s.unsent ≡ c.state.unsent ++ bytes_of m.written → s.held ≡ c.state.held
    → Moves h c s (still_waiting s.pending c.waiting) (said_all m.written)
made_moves h c s m now st none q a config began facts pending unsent held = record {
  config = config;
  begun = began;
  agrees = subst (λ f. Agrees c.state.config.peer_flow (standing None c.accepted) f (inbox_of c)) (sym facts) a;
  same = ap (λ (f : Facts). is_shaken f.connection.phase) facts ∙ q.same;
  pends = waits_for_none s.pending c.waiting (reply_to s) (pending ∙ none);
  records = none_records s.pending c.waiting (ActIsRecord s) (pending ∙ none);
  own = subst (λ f. OwnFlow c.state.config.own_flow h c.sent_before f (events_written c.output ++ events_written (said_all m.written))) (sym facts)
      (subst (λ es. OwnFlow c.state.config.own_flow h c.sent_before m.next (events_written c.output ++ es)) (sym (events_said m.written ∙ q.events))
      (subst (λ es. OwnFlow c.state.config.own_flow h c.sent_before m.next es) (sym (append-nil (events_written c.output)))
      (stays_own c.state.config.own_flow h c.sent_before c.state.facts m.next (events_written c.output) q.own st.own)));
  tells = told_said m.written ∙ q.told;
  bytes = unsent ∙ ap (λ bs. c.state.unsent ++ bs) (sym (bytes_said m.written));
  held = same_held h c s.held st held;
}

-- a turn ends
turning : (h : List Entry) (c : Course) (now : ℕ) → Stands h c → c.state.pending ≡ None → Stands h (next_course c (turn_done now))
turning h c now st none = moved h c (after_turn c.state now) (still_waiting (after_turn c.state now).pending c.waiting) _ st (by_test (is_some c.state.ending))
  where
    x : Around
    x = around c.state 0 now

    m : Made
    m = turn_ended x c.state.facts (runs_of c.state.untold)

    ended : State
    ended = record c.state { moment = now }

    turned : State
    turned = record (made ended m now) { untold = [] }

    by_test : (b : Bool) → Moves h c (if b then ended else turned) (still_waiting (if b then ended else turned).pending c.waiting) (if b then [] else said_all m.written)
    by_test true = made_moves h c ended (record { written = []; next = c.state.facts }) now st none (record { own = still_own c.state.facts; same = refl; events = refl; told = refl }) st.agrees
        refl st.begun refl refl (sym (append-nil c.state.unsent)) refl
    by_test false = made_moves h c turned m now st none (turns_quietly x c.state.facts (runs_of c.state.untold))
        (own_keeps_agreeing c.state.config.peer_flow (standing None c.accepted) c.state.facts (inbox_of c) (turn_end x (runs_of c.state.untold)) st.agrees) refl st.begun refl refl refl refl

-- the outbox has its finish
finishing : (h : List Entry) (c : Course) (last now : ℕ) → Stands h c → c.state.pending ≡ None → Stands h (next_course c (closed last now))
finishing h c last now st none = moved h c (after_closed c.state last now) (still_waiting (after_closed c.state last now).pending c.waiting) _ st (by_test (is_some c.state.ending))
  where
    x : Around
    x = around c.state 0 now

    m : Made
    m = finish_told x c.state.facts last

    ended : State
    ended = record c.state { moment = now; facts = outbox_finished c.state.facts last }

    told : State
    told = made (record c.state { moment = now }) m now

    by_test : (b : Bool) → Moves h c (if b then ended else told) (still_waiting (if b then ended else told).pending c.waiting) (if b then [] else said_all m.written)
    by_test true = made_moves h c ended (record { written = []; next = outbox_finished c.state.facts last }) now st none
        (record { own = record { sent = refl; serving = refl; stays = λ t. t; reached = λ t. t; idle = λ t. t }; same = refl; events = refl; told = refl })
        (alike c.state.config.peer_flow (standing None c.accepted) c.state.facts (outbox_finished c.state.facts last) (inbox_of c) st.agrees refl refl refl refl refl)
        refl st.begun refl refl (sym (append-nil c.state.unsent)) refl
    by_test false = made_moves h c told m now st none (finishes_quietly x c.state.facts last)
        (own_keeps_agreeing c.state.config.peer_flow (standing None c.accepted) c.state.facts (inbox_of c) (outbox_finish x last) st.agrees) refl st.begun refl refl refl refl

-- a flow is served again where it is recoverable, and so there is one
present : (k : Flow) → is_recoverable k ≡ true → is_absent k ≡ false
present flows.Recoverable t = refl
present flows.Idempotent t = refl
present flows.Unsequenced t = refl
present flows.None t = absurd (true≢false (sym t))

-- entries are sent live
going_live : (h : List Entry) (c : Course) (ps : List (List ℕ)) (now : ℕ) → Stands h c → MayGoLive h c.state ps → Stands h (next_course c (live ps now))
going_live h c ps now st m = moved h c (sent_live c.state ps now) (still_waiting c.state.pending c.waiting) (entries ps) st (record {
  config = refl;
  begun = st.begun;
  agrees = own_keeps_agreeing c.state.config.peer_flow (standing None c.accepted) f (inbox_of c) (accepting.live (length ps)) st.agrees;
  same = refl;
  pends = waits_for_none c.state.pending c.waiting (reply_to (sent_live c.state ps now)) m.is_open.done;
  records = none_records c.state.pending c.waiting (ActIsRecord (sent_live c.state ps now)) m.is_open.done;
  own = subst (λ es. OwnFlow c.state.config.own_flow h c.sent_before g (events_written c.output ++ es)) (sym (events_entries ps))
      (entries_own c.state.config.own_flow h c.sent_before (f.recorded.sent + 1) f g (events_written c.output) ps shaken shaken (ap (λ v. number_at (f.recorded.sent + 1) v) m.free)
      (ap (λ v. number_at (f.recorded.sent + length ps + 1) v) m.free ∙ omega arith) m.flow (λ _. m.free) (entries_reach h f.recorded.sent ps st.own.enough m.entries) (λ _. (refl, refl)) m.entries st.own);
  tells = told_entries ps;
  bytes = ap (λ bs. c.state.unsent ++ bs) (sym (bytes_entries ps));
  held = same_held h c c.state.held st refl;
})
  where
    f : Facts
    f = c.state.facts

    g : Facts
    g = counted_sent f (length ps)

    shaken : is_shaken f.connection.phase ≡ true
    shaken = is_done f.connection.phase m.established

-- entries are sent again
again_own : (own : Flow) (h : List Entry) (before : ℕ) (f : Facts) (r : Range) (written : List Event) (ps : List (List ℕ)) → f.connection.serving ≡ Some r → AreEntries h r.from ps → OwnFlow own h before f written
    → OwnFlow own h before (serves f (rest_of r (length ps))) (written ++ events_written (entries ps ++ range_closed f (rest_of r (length ps))))
again_own own h before f r written ps e are o = by_rest (r.count == length ps)
  where
    left : Range
    left = record { from = r.from + length ps; count = r.count - length ps }

    recoverable : (b : Bool) → is_recoverable own ≡ b → is_recoverable own ≡ true
    recoverable true t = t
    recoverable false t = absurd (cc (e, o.served t))

    shaken : (b : Bool) → is_shaken f.connection.phase ≡ b → is_shaken f.connection.phase ≡ true
    shaken true t = t
    shaken false t = absurd (cc (e, o.free t))

    rec : is_recoverable own ≡ true
    rec = recoverable (is_recoverable own) refl

    done : is_shaken f.connection.phase ≡ true
    done = shaken (is_shaken f.connection.phase) refl

    sent_on : OwnFlow own h before (serves f (Some left)) (written ++ map message ps)
    sent_on = entries_own own h before r.from f (serves f (Some left)) written ps done done (ap (λ v. number_at (f.recorded.sent + 1) v) e) refl (present own rec)
        (λ k. absurd (true≢false (sym rec ∙ k))) o.enough (λ u. absurd (true≢false (sym rec ∙ ap (λ k. is_recoverable k) u))) are o

    by_rest : (b : Bool) → OwnFlow own h before (serves f (if b then None else Some left)) (written ++ events_written (entries ps ++ range_closed f (if b then None else Some left)))
    by_rest false = subst (λ es. OwnFlow own h before (serves f (Some left)) (written ++ es)) (sym (flat_map-append _ (entries ps) [] ∙ (append-nil (events_written (entries ps)) ∙ events_entries ps))) sent_on
    by_rest true =
        let few = o.enough in
        subst (λ es. OwnFlow own h before (serves f None) es)
        (append_assoc written (map message ps) (announce in_flow (Some (f.recorded.sent + 1)) ∷ [])
        ∙ ap (λ es. written ++ es) (ap (λ es. es ++ announce in_flow (Some (f.recorded.sent + 1)) ∷ []) (sym (events_entries ps)) ∙ sym (flat_map-append _ (entries ps) (said (sequence (f.recorded.sent + 1)) ∷ []))))
        (announces_own own h before (f.recorded.sent + 1) (serves f (Some left)) (serves f None) (written ++ map message ps) done done refl (λ _. refl) refl (omega arith) (omega arith) sent_on)

going_again : (h : List Entry) (c : Course) (ps : List (List ℕ)) (now : ℕ) → Stands h c → MayGoAgain h c.state ps → Stands h (next_course c (again ps now))
going_again h c ps now st m = moved h c (served_again c.state f.connection.serving ps now) (still_waiting (served_again c.state f.connection.serving ps now).pending c.waiting) _ st (by_case f.connection.serving refl)
  where
    f : Facts
    f = c.state.facts

    told_closing : (v : Option Range) → ranges_told (entries ps ++ range_closed f v) ≡ []
    told_closing None = flat_map-append _ (entries ps) (said (sequence (f.recorded.sent + 1)) ∷ []) ∙ (append-nil (ranges_told (entries ps)) ∙ told_entries ps)
    told_closing (Some r) = flat_map-append _ (entries ps) [] ∙ (append-nil (ranges_told (entries ps)) ∙ told_entries ps)

    closing_bytes : (v : Option Range) → range_end f v ≡ bytes_written (range_closed f v)
    closing_bytes None = sym (append-nil (frame_bytes (sequence (f.recorded.sent + 1))))
    closing_bytes (Some r) = refl

    by_case : (v : Option Range) → f.connection.serving ≡ v → Moves h c (served_again c.state v ps now) (still_waiting (served_again c.state v ps now).pending c.waiting) (written_again f v ps)
    by_case None e = absurd (cc (m.serves, e))
    by_case (Some r) e =
        let is : m.range ≡ r = cc (m.serves, e) in
        let g : Facts = serves f (rest_of r (length ps)) in
        let s : State = sent_again c.state r ps now in
        record {
          config = refl;
          begun = st.begun;
          agrees = own_keeps_agreeing c.state.config.peer_flow (standing None c.accepted) f (inbox_of c) (accepting.again (rest_of r (length ps))) st.agrees;
          same = refl;
          pends = waits_for_none c.state.pending c.waiting (reply_to s) m.is_open.done;
          records = none_records c.state.pending c.waiting (ActIsRecord s) m.is_open.done;
          own = again_own c.state.config.own_flow h c.sent_before f r (events_written c.output) ps e (subst (λ (k : Range). AreEntries h k.from ps) is m.entries) st.own;
          tells = told_closing (rest_of r (length ps));
          bytes = ap (λ bs. c.state.unsent ++ bs) (ap (λ bs. payload_frames ps ++ bs) (closing_bytes (rest_of r (length ps)))
              ∙ (ap (λ bs. bs ++ bytes_written (range_closed f (rest_of r (length ps)))) (sym (bytes_entries ps)) ∙ sym (flat_map-append _ (entries ps) (range_closed f (rest_of r (length ps))))));
          held = same_held h c c.state.held st refl;
        }

-- a held message that the inbox awaits grows it without a further event
pub grown_held : (h : List Entry) (c : Course) (m : Numbered) → Stands h c → front_of c.state ≡ Some m
    → GrowsHeld c.state.config.peer_flow c.accepted (inbox_of c) c.state.facts m
    × Grown (model_flow c.state.config.peer_flow) None c.accepted c.start (inbox_of c ++ InboxRecord.apply m ∷ [])
grown_held h c m st e = by_flow (is_recoverable flow) refl
  where
    flow : Flow
    flow = c.state.config.peer_flow

    k : IsFront c.state.facts.recorded.inbox_next c.state.held
    k = front_there c.state.facts.recorded.inbox_next c.state.held (subst (λ (o : Option Numbered). IsSome o) (sym e) refl)

    is : k.first ≡ m
    is = cc (k.front_is, e)

    there : Contains (numbered None c.accepted) m
    there = subst (λ (j : Numbered). Contains (numbered None c.accepted) j) is
        (subst (λ (ms : List Numbered). AllByRecursion (λ (j : Numbered). Contains (numbered None c.accepted) j) ms) k.held_is st.came).0

    number : m.number ≡ next_number (inbox_of c)
    number = sym (ap (λ (j : Numbered). j.number) is) ∙ (k.number ∙ st.agrees.recorded)

    as_model : (f : Flow) → is_recoverable f ≡ true → model_flow f ≡ model.recoverable
    as_model flows.Recoverable t = refl
    as_model flows.Idempotent t = absurd (true≢false (sym t))
    as_model flows.Unsequenced t = absurd (true≢false (sym t))
    as_model flows.None t = absurd (true≢false (sym t))

    by_flow : (b : Bool) → is_recoverable flow ≡ b → GrowsHeld flow c.accepted (inbox_of c) c.state.facts m
        × Grown (model_flow flow) None c.accepted c.start (inbox_of c ++ InboxRecord.apply m ∷ [])
    by_flow false r = absurd (cc (k.held_is, st.held_on r))
    by_flow true r =
        let g = held_grows flow c.accepted (inbox_of c) c.state.facts m r st.agrees there number in
        let later : GrownLater (model_flow flow) None c.accepted [] (inbox_of c) (inbox_of c ++ InboxRecord.apply m ∷ []) =
        subst (λ f. GrownLater f None c.accepted [] (inbox_of c) (inbox_of c ++ InboxRecord.apply m ∷ [])) (sym (as_model flow r)) g.grown in (
          g,
          subst (λ es. Grown (model_flow flow) None es c.start (inbox_of c ++ InboxRecord.apply m ∷ [])) (append-nil c.accepted)
              (held_goes_on (model_flow flow) None c.accepted [] c.start (inbox_of c) (inbox_of c ++ InboxRecord.apply m ∷ []) st.grown later),
        )

-- a held message was applied
applying : (h : List Entry) (c : Course) → Stands h c → (c.state.pending ≡ None) × IsSome (front_of c.state) → Stands h (next_course c held_done)
applying h c st may =
    let next = c.state.facts.recorded.inbox_next in
    let k = front_there next c.state.held may.1 in
    subst (λ (o : Option Numbered). Stands h (next_held (record c {
      state = held_applied c.state o;
      waiting = still_waiting (held_applied c.state o).pending c.waiting;
      output = c.output ++ [];
    }) o)) (sym k.front_is) (by_front k.first k.later k.held_is k.front_is)
  where
    f : Facts
    f = c.state.facts

    by_front : (m : Numbered) (later : List Numbered) → c.state.held ≡ m ∷ later → front_of c.state ≡ Some m → Stands h (record c {
      state = record c.state { facts = past_held f m; held = drop 1 c.state.held };
      added = c.added ++ InboxRecord.apply m ∷ [];
      waiting = still_waiting c.state.pending c.waiting;
      output = c.output ++ [];
    })
    by_front m later is e =
        let g = grown_held h c m st e in
        let s : State = record c.state { facts = past_held f m; held = drop 1 c.state.held } in
        let r : InboxRecord = InboxRecord.apply m in
        record {
          begun = st.begun;
          grown = subst (λ rs. Grown (model_flow c.state.config.peer_flow) None c.accepted c.start rs) (append_assoc c.start c.added (r ∷ [])) g.1;
          agrees = subst (λ rs. Agrees c.state.config.peer_flow (standing None c.accepted) (past_held f m) rs) (append_assoc c.start c.added (r ∷ [])) g.0.agrees;
          begins = st.begins;
          unheard = st.unheard;
          heard = st.heard;
          pends = waits_for_none c.state.pending c.waiting (reply_to s) may.0;
          records = none_records c.state.pending c.waiting (ActIsRecord s) may.0;
          own = subst (λ ps. OwnFlow c.state.config.own_flow h c.sent_before (past_held f m) (events_written ps)) (sym (append-nil c.output))
              (stays_own c.state.config.own_flow h c.sent_before f (past_held f m) (events_written c.output)
              (record { sent = refl; serving = refl; stays = λ t. t; reached = λ t. t; idle = λ t. t }) st.own);
          tells = ap (λ ps. ranges_told ps) (append-nil c.output) ∙ (st.tells ∙ (sym (append-nil (skips c.added)) ∙ sym (skips-append c.added (r ∷ []))));
          bytes = ap (λ ps. bytes_written ps) (append-nil c.output) ∙ st.bytes;
          came = subst (λ (ms : List Numbered). AllByRecursion (λ (j : Numbered). Contains (numbered None c.accepted) j) ms) (sym (ap (λ (ms : List Numbered). drop 1 ms) is))
              (subst (λ (ms : List Numbered). AllByRecursion (λ (j : Numbered). Contains (numbered None c.accepted) j) ms) is st.came).1;
          held_on = λ n. absurd (cc (is, st.held_on n));
        }

pub call_keeps : CallKeeps
call_keeps h c (begin now) st may = absurd may.comes
call_keeps h c (frame incoming at now) st may = framed h c incoming at now st may.comes
call_keeps h c (bad_frame at now) st may = unframed h c at now st may.comes
call_keeps h c (did now) st may = done h c now st may.comes
call_keeps h c (tick now) st may = ticking h c now st
call_keeps h c (turn_done now) st may = turning h c now st may.may_call.0
call_keeps h c (closed last now) st may = finishing h c last now st may.may_call.0
call_keeps h c link_end st may = ending_link h c st
call_keeps h c (live ps now) st may = going_live h c ps now st may.comes
call_keeps h c (again ps now) st may = going_again h c ps now st may.comes
call_keeps h c (taken count) st may = taking h c count st
call_keeps h c reserve st may = reserving h c st
call_keeps h c held_done st may = applying h c st may.may_call

pub calls_keep : CallsKeep
calls_keep h c [] st all = st
calls_keep h c (call ∷ later) st all = calls_keep h (next_course c call) later (call_keeps h c call st all.0) all.1

-- before anything is written
fresh_own : (own : Flow) (h : List Entry) (recorded : EndState) (phase : Phase) → recorded.sent ≤ length h → is_reached phase ≡ false → OwnFlow own h recorded.sent (connecting recorded phase) []
fresh_own own h recorded phase enough e = record {
  enough = enough;
  handshakes = tt;
  opening = λ _. tt;
  unopened = λ _. refl;
  free = λ _. refl;
  reached = λ t. absurd (true≢false (sym t ∙ e));
  served = λ _. refl;
  true_of = λ _. record { entries = tt; announced = tt };
  stands = λ _. refl;
  grows = λ _. omega arith;
  rises = λ _. tt;
  absent = λ _. refl;
}

-- the first message
record Opens (x : Around) (h : List Entry) (recorded : EndState) (m : Made) : Type 0 where
  own : OwnFlow x.config.own_flow h recorded.sent m.next (events_in m.written)
  told : told_in m.written ≡ []
  shaking : is_shaken m.next.connection.phase ≡ false

opens : (x : Around) (h : List Entry) (recorded : EndState) → recorded.sent ≤ length h → Opens x h recorded (begun x recorded)
opens x h recorded enough = by_role (is_initiator x.config.role) recorded.negotiated
  where
    by_role : (initiates negotiated : Bool) → Opens x h recorded (begun_as x recorded initiates negotiated)
    by_role false negotiated = record { own = fresh_own x.config.own_flow h recorded phases.Idle enough refl; told = refl; shaking = refl }
    by_role true false = record { own = fresh_own x.config.own_flow h recorded phases.Negotiating enough refl; told = refl; shaking = refl }
    by_role true true = record {
      own = shakes_own x.config.own_flow h recorded.sent (connecting recorded phases.Negotiating) (connecting recorded phases.Establishing) [] refl refl refl refl
          (fresh_own x.config.own_flow h recorded phases.Negotiating enough refl);
      told = refl;
      shaking = refl;
    }

pub connection_begins : ConnectionBegins
connection_begins h s inbox now next enough =
    let x : Around = around s 0 now in
    let recorded : EndState = s.facts.recorded in
    let a : Agrees s.config.peer_flow None (begun x recorded).next inbox = begins_agreeing x recorded inbox s.config.peer_flow next in
    let o : Opens x h recorded (begun x recorded) = opens x h recorded enough in
    record {
      begun = refl;
      grown = unmoved s.config.peer_flow None (begun x recorded).next inbox [] a refl refl;
      agrees = subst (λ rs. Agrees s.config.peer_flow None (begun x recorded).next rs) (sym (append-nil inbox)) a;
      begins = tt;
      unheard = λ _. refl;
      heard = λ t. absurd (true≢false (sym t ∙ o.shaking));
      pends = refl;
      records = tt;
      own = subst (λ es. OwnFlow s.config.own_flow h recorded.sent (begun x recorded).next es) (sym (events_said (begun x recorded).written)) o.own;
      tells = told_said (begun x recorded).written ∙ o.told;
      bytes = bytes_said (begun x recorded).written;
      came = tt;
      held_on = λ _. refl;
    }

pub begins_again : BeginsAgain
begins_again h c now st = connection_begins h c.state (inbox_of c) now st.agrees.recorded st.own.enough

pub stands_longer : StandsLonger
stands_longer h longer c begins st = record {
  begun = st.begun;
  grown = st.grown;
  agrees = st.agrees;
  begins = st.begins;
  unheard = st.unheard;
  heard = st.heard;
  pends = st.pends;
  records = st.records;
  own = longer_own c.state.config.own_flow h longer c.sent_before c.state.facts (events_written c.output) begins st.own;
  tells = st.tells;
  bytes = st.bytes;
  came = st.came;
  held_on = st.held_on;
}

pub waiting_grows : WaitingGrows
waiting_grows h c w st e =
    growth_goes_on (model_flow c.state.config.peer_flow) None c.accepted (accepted_by (reply_to c.state w) w.incoming) c.start (inbox_of c) (inbox_of c ++ records_of (reply_to c.state w).act w.incoming) st.grown
    (frame_grows c.state w (standing None c.accepted) (inbox_of c) st.agrees).grown
