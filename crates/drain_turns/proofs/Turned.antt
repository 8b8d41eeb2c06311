-- A turn of an end, seen from that end.
use Rattle.std.proofs.Common.{◌≡◌, ◌⊎◌, inl, inr, ℕ, ◌+◌, ◌-◌, ◌<◌, ◌≤◌, ◌==◌, ◌&&◌, ◌||◌, max, not, nat_lt, nat_le, Bool, true, false, if◌then◌else◌, List, [], ◌∷◌, ◌++◌, length, take, Option, Some, None, refl, sym, ap, subst, ◌∙◌, arith, append-nil, append_assoc, length-append, eq-eqb, eqb-true, true≢false}
use Rattle.std.specs.Prelude.{is_some, is_none, IsSome, IfSome, min}
use Rattle.std.specs.List.{AllByRecursion}
use Rattle.std.proofs.lemmas.Bool.{ltb-true, ltb-false}
use Rattle.std.proofs.lemmas.Grind.{flat_map-append}
use Rattle.std.proofs.lemmas.List.{append_cancel_left}
use mathlib.Core.List.{IsPrefix}
use Rattle.sofh_frame.specs.Framing.{first_of}
use Rattle.session_model.specs.Journal.{Entry, History, BeginsHistory}
use Rattle.session_model.proofs.Lists.{prefix_length}
use Rattle.fixp_msgs.specs.declared.numbering.Range.{Range}
use Rattle.flow_idem.specs.Runs.{runs_of}
use Rattle.flow_retrans.specs.Requests as request_is
use Rattle.fixp_shake.specs.declared.config.EndConfig.{EndConfig}
use Rattle.fixp_shake.specs.Phases.{is_established}
use Rattle.fixp_shake.specs.Flows.{is_absent}
use Rattle.gw_links.specs.declared.link.Got.{Got}
use Rattle.gw_links.specs.declared.link.Got.TheVariants as gots
use Rattle.gw_links.specs.Links.{LinkTold, Carried}
use Rattle.fixp_shake.specs.declared.violation.Violation.{Violation}
use Rattle.fixp_replies.specs.declared.act.Ending.{Ending}
use Rattle.fixp_replies.specs.declared.facts.Facts.{Facts}
use Rattle.fixp_replies.specs.Facts.{is_initiator, is_open, finishes_exchanged}
use Rattle.fixp_replies.specs.Events.{closes, heartbeats, lateness, turn_ended, outbox_finished, finish_told}
use Rattle.fixp_machine.specs.Machine as machine_is
use Rattle.fixp_machine.specs.Machine.{State, Call, tick, turn_done, taken, reserve, around, bytes_of, wrote, broken_by, served_again, step, run}
use Rattle.conn_turns.specs.Lines.{Line, TakenFrame, has_begun, line_after, lines_after}
use Rattle.conn_turns.specs.Frames.{is_bad, is_whole, may_take, IsDone}
use Rattle.conn_turns.specs.Turns.{Turn, Work, IsFaithful, only_sends, works, link_lost, cut_short, not_begun, first_calls, calls_of_frames, bad_calls, end_calls, sending_calls, closing_calls, again_calls, live_calls, finish_calls, outbox_calls, calls_of, is_end, payloads_from, served_of, served_now, live_of, live_beside, finish_of}
use Rattle.conn_turns.specs.Exact.{Received, receives, line_ticked, unless_waits, closed_at, IsAsDue, most_held, most_unsent}
use Rattle.conn_turns.proofs.Taking.{frames_make_calls, frames_join, lines_number}
use Rattle.connection_laws.specs.Writing.{Piece, bytes_of_piece, bytes_written}
use Rattle.connection_laws.specs.Framed.{IsLegalPiece}
use Rattle.connection_laws.specs.Courses.{Course, course_after}
use Rattle.connection_laws.proofs.Going.{stands_longer}
use Rattle.turn_laws.specs.Turns.{line_received, IsTurn, Works}
use Rattle.turn_laws.specs.Standing.{StandsAt, TurnStands}
use Rattle.turn_laws.specs.Legs.{is_lost, given_in, sent_in, IsTimelyTurn}
use Rattle.turn_laws.specs.Made.{SendsAlone, MadeTurn}
use Rattle.gate_turn.proofs.Histories.{begins_on}
use Rattle.turn_laws.proofs.Draining.{first_drained}
use Rattle.turn_laws.proofs.Working.{turn_may_stand}
use Rattle.honest_ends.specs.Worlds.{World, Step, written, world_after, AllMayStep}
use Rattle.honest_ends.proofs.Serving.{by_bool}
use Rattle.honest_turns.specs.Steps.{does_all, frames_steps, initiator_steps}
use Rattle.honest_turns.proofs.Calling.{output_after, may_first}
use Rattle.honest_turns.proofs.Hearing.{not_bad, FramesRead, heard_of_taken}
use Rattle.honest_turns.proofs.Reaching.{may_append}
use Rattle.honest_turns.proofs.Turning.{none_broken, took_steps}
use Rattle.honest_turns.specs.Opened.{Way}
use Rattle.honest_turns.proofs.Opening.{Moved, regroup, same_run, same_written, turn_moves}
use Rattle.honest_turns.proofs.Linking.{seen_on}
use Rattle.drain_laws.specs.Calls.{beats_at}
use Rattle.drain_ends.specs.Acting.{Acts, all_beats, has_sequence}
use Rattle.drain_ends.specs.Acting as acting
use Rattle.drain_ends.specs.Closing.{KeepsLink}
use Rattle.drain_ends.specs.Falling.{measure}
use Rattle.drain_turns.specs.Joints.{Half, IsOn, IsUnread}
use Rattle.drain_turns.specs.Turning.{turn_at, IsFree, Due, DueIn}
use Rattle.drain_turns.specs.Turning as due_is
use Rattle.drain_steps.proofs.Stepping.{IsOwn, FallsFrom, low, high, call_low, call_high, steps_fall_along, low_append, world_append, does_low, does_high, does_end, does_home}
use Rattle.drain_steps.specs.Ranges.{InRange}
use Rattle.drain_steps.proofs.Ranging.{turned_as, done_range}
use Rattle.drain_steps.proofs.Beating.{frames_low, frames_low_four, Stays, beats_stay, Keeps, frames_keep, comes_low, first_may, second_may}
use Rattle.drain_steps.proofs.Taking.{Took, fills_room, took, quiet_took, beats_front, beats_all, sequence_front, sequence_all}
use Rattle.drain_turns.proofs.Resting.{rest_calls, range_some, done_same, Gives, ToDo, Looks, rest_low}
use Rattle.drain_turns.proofs.Resting as resting
use Rattle.drain_turns.proofs.Giving.{works_calls, works_steps, works_keep, works_own, works_high, sends_taken, works_taken}

-- what a turn sent again
abbrev pub again_of : Turn → Option (List (List ℕ))
again_of (works w) = w.again
again_of turn = None

-- what a turn leaves, in the world as its end sees it
pub record Goes (outbox : History) (ha : List Entry) (b : Course) (w : World) (new : Half) (turn : Turn) (theirs : State) (held out left : List ℕ) (beats : ℕ) (IsDue : ℕ → Type 0) : Type 0 where
  pub world : World
  pub may : AllMayStep outbox.made ha w (initiator_steps turn)
  pub there : world_after w (initiator_steps turn) ≡ world
  pub keeps : AllByRecursion KeepsLink (initiator_steps turn)
  pub acceptor : world.acceptor ≡ w.acceptor
  pub says : world.outward ≡ w.outward ++ written w.initiator (calls_of turn)
  pub again : IfSome (again_of turn) (λ p. 1 ≤ length p)
  pub on : IsOn outbox b new world.initiator
  pub outward : IsUnread world.outward new.line.machine held (out ++ sent_in turn)
  pub homeward : IsUnread world.homeward theirs new.line.held left
  pub rises : measure outbox.made ha world ≤ measure outbox.made ha w + beats
  pub falls : (k : ℕ) → IsDue k → (measure outbox.made ha world + k ≤ measure outbox.made ha w + beats) ⊎ IsSome world.initiator.ending

-- Of any turn: how its end stands behind it, the world, and the bytes that the link took, once it is known how many those were
record Common (outbox : History) (ha : List Entry) (b : Course) (w : World) (old new : Half) (turn : Turn) (theirs : State) (held out left : List ℕ) : Type 0 where
  moved : Moved outbox ha b w old.line new.line turn theirs held (out ++ sent_in turn) left
  may : AllMayStep outbox.made ha w (initiator_steps turn)
  there : world_after w (initiator_steps turn) ≡ moved.world
  stands : (course : Course) × StandsAt new.seen.made course new.line
  whole : ((c : Course) → c.state ≡ old.line.machine → (course_after c (calls_of turn)).taken ≡ c.taken ++ sent_in turn) → bytes_written moved.world.outward ≡ (held ++ (out ++ sent_in turn)) ++ new.line.machine.unsent

few_seen : {n : ℕ} (seen outbox : History) → BeginsHistory seen outbox → length outbox.made < n → length seen.made < n
few_seen seen outbox begins few = let less = prefix_length seen.made outbox.made begins.made in omega (arith, less, few)

pub reserved_first : (turn : Turn) → is_lost turn ≡ false → (later : List Call) × (calls_of turn ≡ reserve ∷ later)
reserved_first (only_sends now sent lost) sound = (tick now ∷ sending_calls sent lost, refl)
reserved_first (works w) sound = (tick w.now ∷ (calls_of_frames w.now w.frames ++ (closing_calls w ++ (outbox_calls w ++ sending_calls w.sent w.lost))), refl)
reserved_first (link_lost now) sound = absurd (true≢false sound)
reserved_first (cut_short now received frames refused) sound = absurd (true≢false sound)
reserved_first not_begun sound = absurd (true≢false sound)

common : (outbox : History) (ha : List Entry) (b : Course) (w : World) (old new : Half) (turn : Turn) (theirs : State) (held out way left : List ℕ)
    → IsOn outbox b old w.initiator → IsUnread w.outward old.line.machine held out → IsUnread w.homeward theirs old.line.held way → old.line.machine.ending ≡ None
    → IsTurn old.seen new.seen old.line new.line turn → IsFaithful turn → IsTimelyTurn turn → is_lost turn ≡ false → BeginsHistory new.seen outbox → way ≡ given_in turn ++ left
    → Common outbox ha b w old new turn theirs held out left
common outbox ha b w old new turn theirs held out way left on outward homeward going is faithful timely sound begins way_is = record {
  moved = moved;
  may = subst (λ (ss : List Step). AllMayStep outbox.made ha w ss) moved.by moved.reaches.may;
  there = ap (λ (ss : List Step). world_after w ss) (sym moved.by) ∙ moved.reaches.there;
  stands = (course_after on.course cs, (turn_may_stand new.seen.made old.seen new.seen old.line new.line turn on.course wider (record { begins = ([], append-nil new.seen.made); few = few_seen new.seen outbox begins on.seen.few }) is faithful).after);
  whole = λ all.
      ap (λ (ps : List Piece). bytes_written ps) says
      ∙ (flat_map-append bytes_of_piece w.outward made
      ∙ (ap (λ (bs : List ℕ). bs ++ bytes_written made) outward.whole
      ∙ (append_assoc (held ++ out) old.line.machine.unsent (bytes_written made)
      ∙ (ap (λ (bs : List ℕ). (held ++ out) ++ bs) (sym (joins (all c on.goes.at.machine)))
      ∙ sym (regroup held out (sent_in turn) new.line.machine.unsent)))));
}
  where
    moved : Moved outbox ha b w old.line new.line turn theirs held (out ++ sent_in turn) left
    moved = turn_moves outbox ha b w old.seen new.seen old.line new.line turn theirs held out left on.legal (record { begins = begins; few = on.seen.few }) on.goes going is faithful timely outward.way
        (subst (λ (bs : List ℕ). Way w.homeward theirs old.line.held bs) way_is homeward.way)

    wider : StandsAt new.seen.made on.course old.line
    wider = record {
      stands = stands_longer old.seen.made new.seen.made on.course (seen_on old.seen new.seen old.line new.line turn is).made on.stands.stands;
      machine = on.stands.machine;
      done = on.stands.done;
      drained = on.stands.drained;
    }

    h : List Entry
    h = outbox.made

    cs : List Call
    cs = calls_of turn

    c : Course
    c = course_after b on.goes.calls

    d : Course
    d = course_after c cs

    made : List Piece
    made = written old.line.machine cs

    first : (later : List Call) × (cs ≡ reserve ∷ later)
    first = reserved_first turn sound

    says : moved.world.outward ≡ w.outward ++ made
    says = moved.says ∙ ap (λ (ps : List Piece). w.outward ++ ps) (same_written w.initiator old.line.machine cs first.0 first.1 on.goes.alike)

    stood : TurnStands h c new.line turn
    stood = turn_may_stand h old.seen new.seen old.line new.line turn c on.goes.at (record { begins = begins.made; few = on.seen.few }) is faithful

    output : d.output ≡ c.output ++ made
    output = output_after h c cs stood.may ∙ ap (λ (m : State). c.output ++ written m cs) on.goes.at.machine

    before : bytes_written c.output ≡ c.taken ++ old.line.machine.unsent
    before = on.goes.at.stands.bytes ∙ ap (λ (m : State). c.taken ++ m.unsent) on.goes.at.machine

    joins : d.taken ≡ c.taken ++ sent_in turn → sent_in turn ++ new.line.machine.unsent ≡ old.line.machine.unsent ++ bytes_written made
    joins all = append_cancel_left c.taken (sent_in turn ++ new.line.machine.unsent) (old.line.machine.unsent ++ bytes_written made)
        (sym (append_assoc c.taken (sent_in turn) new.line.machine.unsent)
        ∙ (ap (λ (m : State). (c.taken ++ sent_in turn) ++ m.unsent) (sym stood.after.machine)
        ∙ (ap (λ (bs : List ℕ). bs ++ d.state.unsent) (sym all)
        ∙ (sym stood.after.stands.bytes
        ∙ (ap (λ (ps : List Piece). bytes_written ps) output
        ∙ (flat_map-append bytes_of_piece c.output made
        ∙ (ap (λ (bs : List ℕ). bs ++ bytes_written made) before
        ∙ append_assoc c.taken old.line.machine.unsent (bytes_written made))))))))

-- a tick that is neither late nor behind silence leaves the connection open, and its facts
record Ticked (m t : State) : Type 0 where
  ending : t.ending ≡ None
  facts : t.facts ≡ m.facts
  config : t.config ≡ m.config

tick_open : (m : State) (now : ℕ) → m.ending ≡ None → lateness (around m 0 now) m.facts m.start m.last_received ≡ None → Ticked m (run m (first_calls now))
tick_open m now going late = by_end (is_some m.ending) (ap (λ (e : Option Ending). is_some e) going)
  where
    s : State
    s = step m reserve

    beat : State
    beat = wrote (record s { moment = now }) (bytes_of (heartbeats (around s 0 now) s.facts s.last_sent s.unsent)) now

    by_fault : (v : Option Violation) → v ≡ None → Ticked m (broken_by beat v now)
    by_fault None e = record { ending = going; facts = refl; config = refl }
    by_fault (Some v) e = absurd (cc e)

    by_end : (b : Bool) → b ≡ false → Ticked m (if b then record s { moment = now } else broken_by beat (lateness (around s 0 now) s.facts s.start s.last_received) now)
    by_end true e = absurd (true≢false e)
    by_end false e = by_fault (lateness (around s 0 now) s.facts s.start s.last_received) late

receives_all : (l : Line) → l.machine.unsent ≡ [] → receives l ≡ true
receives_all l none = first_true (length l.machine.unsent == 0) (l.waits && nat_le (length l.machine.unsent) (most_unsent l.per_turn)) (eq-eqb (length l.machine.unsent) 0 (ap length none))
  where
    first_true : (a b : Bool) → a ≡ true → (a || b) ≡ true
    first_true true b e = refl
    first_true false b e = absurd (true≢false (sym e))

some_none : {A : Type 0} (o : Option A) → o ≡ None → IsSome o → ⊥
some_none o none some = true≢false (sym some ∙ ap (λ k. is_some k) none)

pub moment_is : (at now before : ℕ) → at ≡ max now before → before ≤ now → at ≡ now
moment_is at now before e later = omega (arith, e, later)

-- the heartbeat of the tick alone raises the measure
first_high : (w : World) (m : State) (at now : ℕ) → step w.initiator reserve ≡ step m reserve → at ≡ now → call_high w.initiator (first_calls at) ≡ beats_at m now
first_high w m at now alike same = ap (λ (k : ℕ). call_high w.initiator (first_calls k)) same ∙ by_numbers (beats_at (step w.initiator reserve) now) (beats_at m now) (ap (λ (s : State). beats_at s now) alike)
  where
    by_numbers : (a b : ℕ) → a ≡ b → 0 + (a + 0) ≡ b
    by_numbers a b e = omega arith

-- an end that is free does more than send
pub sends_not_free : (now : ℕ) (old : Half) (at : ℕ) → at ≡ now → old.line.machine.ending ≡ None → SendsAlone old.line at → IsFree old now → ⊥
sends_not_free now old at now_is going (inl none) free = true≢false (sym (receives_all old.line free.sent) ∙ none)
sends_not_free now old at now_is going (inr over) free = some_none (line_ticked old.line at).machine.ending (ap (λ (k : ℕ). (run old.line.machine (first_calls k)).ending) now_is ∙ (tick_open old.line.machine now going free.in_time).ending) over

-- a turn that only sends
pub sends_goes : (outbox : History) (ha : List Entry) (b : Course) (w : World) (now : ℕ) (old new : Half) (way left : List ℕ) (theirs : State) (held out : List ℕ) (at : ℕ) (sent : List ℕ) (told told' : LinkTold) (carried carried' : Option Carried) (clock : ℕ)
    → FallsFrom outbox.made ha w → IsOn outbox b old w.initiator → IsUnread w.outward old.line.machine held out → IsUnread w.homeward theirs old.line.held way → old.line.machine.ending ≡ None
    → MadeTurn true (turn_at old told carried clock) (turn_at new told' carried' now) (only_sends at sent false) → way ≡ left → old.line.machine.moment ≤ now → IsTimelyTurn (only_sends at sent false) → BeginsHistory new.seen outbox
    → Goes outbox ha b w new (only_sends at sent false) theirs held out left (beats_at old.line.machine now) (DueIn old w.initiator w.homeward now)
sends_goes outbox ha b w now old new way left theirs held out at sent told told' carried carried' clock falls on outward homeward going made same_way later timely begins = record {
  world = x.moved.world;
  may = x.may;
  there = x.there;
  keeps = (tt, (tt, (tt, tt)));
  acceptor = x.moved.acceptor;
  says = x.moved.says;
  again = tt;
  on = record {
    legal = on.legal;
    goes = x.moved.here;
    goes_on = ap (λ (l : Line). l.over) made.is.0.line ∙ on.goes_on;
    fits = let e : length new.line.held ≡ length old.line.held = ap (λ (l : Line). length l.held) made.is.0.line in let f = on.fits in omega (arith, e, f);
    seen = record { begins = begins; few = on.seen.few };
    course = x.stands.0;
    stands = x.stands.1;
  };
  outward = record { way = x.moved.outward; whole = x.whole (λ c is. sends_taken c at sent (subst (λ (m : State). IsPrefix sent (run m (first_calls at)).unsent) (sym is) made.is.0.front)) };
  homeward = record { way = x.moved.homeward; whole = home_whole };
  rises = by_numbers (measure outbox.made ha w) (measure outbox.made ha x.moved.world) (low w steps) (high w steps) (beats_at old.line.machine now) all raised;
  falls = λ k due. absurd (free_not due.0);
}
  where
    turn : Turn
    turn = only_sends at sent false

    steps : List Step
    steps = initiator_steps turn

    x : Common outbox ha b w old new turn theirs held out left
    x = common outbox ha b w old new turn theirs held out way left on outward homeward going made.is tt timely refl begins same_way

    now_is : at ≡ now
    now_is = moment_is at now old.line.machine.moment made.moment later

    home_whole : bytes_written x.moved.world.homeward ≡ (new.line.held ++ left) ++ theirs.unsent
    home_whole =
        sym (x.moved.goes_on (left ++ theirs.unsent)
        (ap (λ (bs : List ℕ). bs ++ (left ++ theirs.unsent)) (append-nil old.line.held) ∙ (sym (append_assoc old.line.held left theirs.unsent) ∙ (ap (λ (bs : List ℕ). (old.line.held ++ bs) ++ theirs.unsent) (sym same_way) ∙ sym homeward.whole))))
        ∙ sym (append_assoc new.line.held left theirs.unsent)

    raised : high w steps ≡ beats_at old.line.machine now
    raised = does_high w (first_calls at ++ taken (length sent) ∷ []) ∙ first_high w old.line.machine at now on.goes.alike now_is

    all : measure outbox.made ha x.moved.world + low w steps ≤ measure outbox.made ha w + high w steps
    all = subst (λ (v : World). measure outbox.made ha v + low w steps ≤ measure outbox.made ha w + high w steps) x.there (steps_fall_along outbox.made ha w steps falls x.may (tt, (tt, (tt, tt))))

    by_numbers : (a c l h k : ℕ) → c + l ≤ a + h → h ≡ k → c ≤ a + k
    by_numbers a c l h k e f = omega arith

    free_not : IsFree old now → ⊥
    free_not free = sends_not_free now old at now_is going made.does.0 free

-- what was received of a link that has not ended is no end
received_on : (told : LinkTold) (room : ℕ) (received : List ℕ) (got : Option Got) → Received true (Some told) room received got → told.over ≡ false → is_end got ≡ false
received_on told room received None k on = refl
received_on told room received (Some (gots.Bytes n)) k on = refl
received_on told room received (Some gots.Quiet) k on = refl
received_on told room received (Some gots.End) k on = absurd (true≢false (sym k.answers.1 ∙ on))

-- what calls leave of an ending
again_ends : (s : State) (payloads : List (List ℕ)) (now : ℕ) → (step s (machine_is.again payloads now)).ending ≡ s.ending
again_ends s payloads now = by_range s.facts.connection.serving
  where
    by_range : (r : Option Range) → (served_again s r payloads now).ending ≡ s.ending
    by_range None = refl
    by_range (Some r) = refl

closed_ends : (s : State) (last now : ℕ) → (step s (machine_is.closed last now)).ending ≡ s.ending
closed_ends s last now = by_end (is_some s.ending)
  where
    by_end : (e : Bool) → (if e then record s { moment = now; facts = outbox_finished s.facts last } else machine_is.made (record s { moment = now }) (finish_told (around s 0 now) s.facts last) now).ending ≡ s.ending
    by_end true = refl
    by_end false = refl

pub rest_ends : (m : State) (now : ℕ) (agains lives : Option (List (List ℕ))) (finish : Option ℕ) (sent : List ℕ) → (run m (rest_calls now agains lives finish sent)).ending ≡ m.ending
rest_ends m now agains lives finish sent = by_again agains ∙ (done_same m now).0
  where
    m1 : State
    m1 = step m (turn_done now)

    by_finish : (s : State) (f : Option ℕ) → (run s (finish_calls now f ++ taken (length sent) ∷ [])).ending ≡ s.ending
    by_finish s None = refl
    by_finish s (Some n) = closed_ends s n now

    by_live : (s : State) (ls : Option (List (List ℕ))) → (run s ((live_calls now ls ++ finish_calls now finish) ++ taken (length sent) ∷ [])).ending ≡ s.ending
    by_live s None = by_finish s finish
    by_live s (Some l) = by_finish (step s (machine_is.live l now)) finish

    by_again : (sames : Option (List (List ℕ))) → (run m1 ((again_calls now sames ++ (live_calls now lives ++ finish_calls now finish)) ++ taken (length sent) ∷ [])).ending ≡ m1.ending
    by_again None = by_live m1 lives
    by_again (Some a) = by_live (step m1 (machine_is.again a now)) lives ∙ again_ends m1 a now

-- messages that go again are some
again_some : (m : State) (seen : History) (most : ℕ) (due agains : Option (List (List ℕ))) (at : History) → due ≡ served_of most (served_now m) at → IsAsDue due agains → 1 ≤ most → InRange m.facts → m.facts.recorded.sent ≤ length seen.made
    → length seen.made ≤ length at.made → IfSome agains (λ p. 1 ≤ length p)
again_some m seen most due agains at is sames one range enough more = by_ending m.ending refl
  where
    none : (s : Option (List (List ℕ))) → IsAsDue None s → IfSome s (λ p. 1 ≤ length p)
    none None a = tt
    none (Some p) a = absurd a

    some : (d : List (List ℕ)) (s : Option (List (List ℕ))) → IsAsDue (Some d) s → 1 ≤ length d → IfSome s (λ p. 1 ≤ length p)
    some d None a h = absurd a
    some d (Some p) a h = let same = a.0 in omega (arith, same, h)

    by_range : (o : Option Range) → m.facts.connection.serving ≡ o → m.ending ≡ None → IfSome agains (λ p. 1 ≤ length p)
    by_range None e going = none agains (subst (λ (k : Option (List (List ℕ))). IsAsDue k agains) (is ∙ (ap (λ (k : Option Ending). served_of most (if is_some k then None else m.facts.connection.serving) at) going ∙ ap (λ (k : Option Range). served_of most k at) e)) sames)
    by_range (Some r) e going =
        some (payloads_from at r.from (min most r.count)) agains
        (subst (λ (k : Option (List (List ℕ))). IsAsDue k agains) (is ∙ (ap (λ (k : Option Ending). served_of most (if is_some k then None else m.facts.connection.serving) at) going ∙ ap (λ (k : Option Range). served_of most k at) e)) sames)
        (range_some most r at seen m.facts.recorded.sent one (subst (λ (k : Option Range). IfSome k (λ q. (1 ≤ q.count) × (q.from + q.count ≤ m.facts.recorded.sent + 1) × (1 ≤ q.from))) e range) enough more)

    by_ending : (o : Option Ending) → m.ending ≡ o → IfSome agains (λ p. 1 ≤ length p)
    by_ending None e = by_range m.facts.connection.serving refl e
    by_ending (Some x) e = none agains (subst (λ (k : Option (List (List ℕ))). IsAsDue k agains) (is ∙ ap (λ (k : Option Ending). served_of most (if is_some k then None else m.facts.connection.serving) at) e) sames)

waits_none : (before : Bool) (unsent : List ℕ) → unsent ≡ [] → (before && not (length unsent == 0)) ≡ false
waits_none before unsent none = by_test before (length unsent == 0) (eq-eqb (length unsent) 0 (ap length none))
  where
    by_test : (a b : Bool) → b ≡ true → (a && not b) ≡ false
    by_test true true e = refl
    by_test false b e = refl
    by_test true false e = absurd (true≢false (sym e))

-- where a turn waits for what is unsent, nothing of the outbox is due
waits_due : {A : Type 0} (l : Line) (b : Bool) → l.waits ≡ b → (due x : Option A) → x ≡ unless_waits l due → (b ≡ true → x ≡ None) × (b ≡ false → x ≡ due)
waits_due l true e due x is = (λ _. is ∙ ap (λ (w : Bool). if w then None else due) e, λ k. absurd (true≢false k))
waits_due l false e due x is = (λ k. absurd (true≢false (sym k)), λ _. is ∙ ap (λ (w : Bool). if w then None else due) e)

-- A turn that works. What is known of it: its frames, how many messages it read, and where its machine stands behind them
pub record Worked (outbox : History) (ha : List Entry) (w : World) (old new : Half) (way left : List ℕ) (k : Work) : Type 0 where
  pub r : Line
  pub number : r.per_turn ≡ old.line.per_turn
  pub read : List Piece
  pub rest : List Piece
  pub joins : w.homeward ≡ read ++ rest
  pub counts : length read ≡ length k.frames
  pub legal : AllByRecursion IsLegalPiece rest
  pub steps : initiator_steps (works k) ≡ does_all (first_calls k.now) ++ (frames_steps k.now k.frames ++ does_all (rest_calls k.now k.again k.live k.finish k.sent))
  pub at : (world_after (world_after w (does_all (first_calls k.now))) (frames_steps k.now k.frames)).initiator ≡ r.machine
  pub took : Took old.line.per_turn r read rest
  pub fits : length new.line.held ≤ most_held
  pub over : new.line.over ≡ false
  pub calls : calls_of (works k) ≡ first_calls k.now ++ (calls_of_frames k.now k.frames ++ rest_calls k.now k.again k.live k.finish k.sent)
  pub closing : closing_calls k ≡ turn_done k.now ∷ []
  pub waits : Bool
  pub gives : waits ≡ false → Gives old.line.per_turn (step r.machine (turn_done k.now)) k.now k.again k.live k.finish
  pub looks : (free : waits ≡ false) → Looks old.seen old.line.per_turn (step r.machine (turn_done k.now)) k.now k.again k.live k.finish (gives free)
  pub none_again : waits ≡ true → k.again ≡ None
  pub free_waits : old.line.machine.unsent ≡ [] → waits ≡ false
  pub begun : has_begun r ≡ true → is_some r.machine.facts.connection.serving ≡ true
  pub first : k.frames ≡ [] → r.machine ≡ run old.line.machine (first_calls k.now)
  pub ran : r.machine ≡ run (run old.line.machine (first_calls k.now)) (calls_of_frames k.now k.frames)
  pub begins_with : has_begun r ≡ true → is_some old.line.machine.facts.connection.serving ≡ true → ⊥

and_false : (a b : Bool) → a ≡ false → (a && b) ≡ false
and_false false b e = refl
and_false true b e = absurd (true≢false e)

and_first : (a b : Bool) → (a && b) ≡ true → (a ≡ true) × (b ≡ true)
and_first true true e = (refl, refl)
and_first true false e = absurd (true≢false (sym e))
and_first false b e = absurd (true≢false (sym e))

-- frames leave whether a range was served as the turn began
after_serves : (now : ℕ) (l : Line) (frames : List TakenFrame) → (lines_after now l frames).serves ≡ l.serves
unfolding line_after
after_serves now l [] = refl
after_serves now l (t ∷ later) = after_serves now (line_after now l t) later

pub worked : (outbox : History) (ha : List Entry) (b : Course) (w : World) (old new : Half) (way left : List ℕ) (theirs : State) (k : Work) (told told' : LinkTold)
    → IsOn outbox b old w.initiator → IsUnread w.homeward theirs old.line.held way → theirs.unsent ≡ [] → IsFaithful (works k) → IsTimelyTurn (works k) → BeginsHistory new.seen outbox
    → (x : Works old.seen new.seen old.line new.line k) → k.lost ≡ false → told.over ≡ false → told.waits ≡ k.received ++ left → way ≡ k.received ++ left
    → ((room : ℕ) → room + length old.line.held ≡ most_held → Received true (Some told) room k.received k.got) → Worked outbox ha w old new way left k
worked outbox ha b w old new way left theirs k told told' on homeward all_sent faithful timely begins x sound link_on waits way_is once = record {
  r = r;
  number = number;
  read = y.read;
  rest = y.left;
  joins = y.joins;
  counts = y.counts;
  legal = y.legal;
  steps = works_steps k broken link_over sound;
  at = at;
  took = took old.line.per_turn r told old.line.held k.received left k.got y.read y.left y.legal on.fits once waits (whole ∙ ap (λ (ps : List Piece). bytes_written ps) y.joins) (y.goes_on left whole) number
      (subst (λ (n : ℕ). IsDone n r) (sym y.counts) x.served.last);
  fits = held_fits;
  over = ap (λ (n : Line). n.over) x.sends.line ∙ (x.served.over ∙ r_over);
  calls = works_calls k broken link_over sound;
  closing = ap (λ (o : Option ℕ). bad_calls k.now o ++ (end_calls k.link_over ++ turn_done k.now ∷ [])) broken ∙ ap (λ (e : Bool). end_calls e ++ turn_done k.now ∷ []) link_over;
  waits = l.waits;
  gives = λ free. record {
    at_again = k.at_again;
    at_live = k.at_live;
    at_finish = k.at_finish;
    again = subst (λ (m : State). IsAsDue (served_of l.per_turn (served_now m) k.at_again) k.again) closed_is (subst (λ (o : Option (List (List ℕ))). IsAsDue o k.again) ((waits_due l l.waits refl (served_of l.per_turn (served_now (closed_at l k)) k.at_again) k.due_again x.served.due_again).1 free) x.served.again);
    live = subst (λ (m : State). IsAsDue (live_beside k.again (live_of l.per_turn (run m (again_calls k.now k.again)) k.at_live)) k.live) closed_is
        (subst (λ (o : Option (List (List ℕ))). IsAsDue o k.live) ((waits_due l l.waits refl (live_beside k.again (live_of l.per_turn (run (closed_at l k) (again_calls k.now k.again)) k.at_live)) k.due_live x.served.due_live).1 free) x.served.live);
    told = (waits_due l l.waits refl (finish_of (closed_at l k) k.at_finish) k.finish x.served.finish).1 free ∙ ap (λ (m : State). finish_of m k.at_finish) closed_is;
  };
  looks = λ free. record {
    again = prefix_length old.seen.made k.at_again.made x.served.seen_again.made;
    live = prefix_length old.seen.made k.at_live.made (begins_on old.seen k.at_again k.at_live x.served.seen_again x.served.seen_live).made;
    same = λ marked. sym ((begins_on old.seen k.at_again k.at_finish x.served.seen_again (begins_on k.at_again k.at_live k.at_finish x.served.seen_live x.served.seen_finish)).alone marked);
  };
  none_again = λ waiting. by_none k.again (subst (λ (o : Option (List (List ℕ))). IsAsDue o k.again) ((waits_due l l.waits refl (served_of l.per_turn (served_now (closed_at l k)) k.at_again) k.due_again x.served.due_again).0 waiting) x.served.again);
  free_waits = λ none. waits_none old.line.waits old.line.machine.unsent none;
  begun = λ e. (and_first (is_some r.machine.facts.connection.serving) (not r.serves) e).0;
  begins_with = λ e served. true≢false (sym served ∙ not_true (is_some old.line.machine.facts.connection.serving) (sym (ap not (after_serves k.now l k.frames)) ∙ (and_first (is_some r.machine.facts.connection.serving) (not r.serves) e).1));
  first = λ none. ap (λ (fs : List TakenFrame). (lines_after k.now l fs).machine) none;
  ran = frames_make_calls k.now l k.frames;
}
  where
    h : List Entry
    h = outbox.made

    l : Line
    l = line_received old.line k.now k.received k.got

    r : Line
    r = lines_after k.now l k.frames

    c : Course
    c = course_after b on.goes.calls

    number : r.per_turn ≡ old.line.per_turn
    number = lines_number k.now l k.frames

    filled : (n : ℕ) → n ≤ most_held → (most_held - n) + n ≡ most_held
    filled n few = omega (arith, few)

    not_true : (a : Bool) → not a ≡ true → a ≡ false
    not_true false e = refl
    not_true true e = absurd (true≢false (sym e))

    by_none : (s : Option (List (List ℕ))) → IsAsDue None s → s ≡ None
    by_none None a = refl
    by_none (Some p) a = absurd a

    received : Received true (Some told) (most_held - length old.line.held) k.received k.got
    received = let f = on.fits in once (most_held - length old.line.held) (filled (length old.line.held) f)

    l_over : l.over ≡ false
    l_over = ap (λ (a : Bool). a || is_end k.got) on.goes_on ∙ received_on told (most_held - length old.line.held) k.received k.got received link_on

    r_over : r.over ≡ false
    r_over = (frames_join k.now l k.frames x.served.frames).over ∙ l_over

    link_over : k.link_over ≡ false
    link_over = x.served.link_over ∙ and_false r.over (not (is_whole (first_of r.held))) r_over

    whole : (old.line.held ++ k.received) ++ left ≡ bytes_written w.homeward
    whole = append_assoc old.line.held k.received left ∙ (ap (λ (bs : List ℕ). old.line.held ++ bs) (sym way_is)
        ∙ (sym (append-nil (old.line.held ++ way)) ∙ (ap (λ (bs : List ℕ). (old.line.held ++ way) ++ bs) (sym all_sent) ∙ sym homeward.whole)))

    stood : TurnStands h c new.line (works k)
    stood = turn_may_stand h old.seen new.seen old.line new.line (works k) c on.goes.at (record { begins = begins.made; few = on.seen.few }) x faithful

    y : FramesRead h ha w (first_calls k.now ++ calls_of_frames k.now k.frames) (does_all (first_calls k.now) ++ frames_steps k.now k.frames) (length k.frames) l.held r.held
    y = took_steps h ha w c old.line l k.now k.frames left on.goes.at.machine on.goes.alike refl
        (may_first h c (first_calls k.now ++ calls_of_frames k.now k.frames) (closing_calls k ++ (outbox_calls k ++ sending_calls k.sent k.lost)) stood.may)
        (heard_of_taken k.now l k.frames (first_drained old.line.machine k.now on.goes.at.drained) x.served.frames) timely.time homeward.way.legal whole

    broken : k.broken ≡ None
    broken = x.served.broken ∙ none_broken (nat_lt (length k.frames) r.per_turn) (may_take r) (is_bad (first_of r.held)) r.place (not_bad y.left r.held left y.legal (y.goes_on left whole))

    at : (world_after (world_after w (does_all (first_calls k.now))) (frames_steps k.now k.frames)).initiator ≡ r.machine
    at = ap (λ (v : World). v.initiator) (sym (world_append w (does_all (first_calls k.now)) (frames_steps k.now k.frames)) ∙ (ap (λ (ss : List Step). world_after w ss) (sym y.by) ∙ y.reaches.there))
        ∙ (same_run w.initiator old.line.machine (first_calls k.now ++ calls_of_frames k.now k.frames) (tick k.now ∷ calls_of_frames k.now k.frames) refl on.goes.alike ∙ sym (frames_make_calls k.now l k.frames))

    closed_is : closed_at l k ≡ step r.machine (turn_done k.now)
    closed_is = ap (λ (o : Option ℕ). run r.machine (bad_calls k.now o ++ (end_calls k.link_over ++ turn_done k.now ∷ []))) broken ∙ ap (λ (e : Bool). run r.machine (end_calls e ++ turn_done k.now ∷ [])) link_over

    held_fits : length new.line.held ≤ most_held
    held_fits =
        let a = ap length (y.goes_on left whole) in
        let b = length-append r.held left in
        let d = ap length whole ∙ (ap (λ (ps : List Piece). length (bytes_written ps)) y.joins ∙ (ap length (flat_map-append bytes_of_piece y.read y.left) ∙ length-append (bytes_written y.read) (bytes_written y.left))) in
        let e = length-append (old.line.held ++ k.received) left in
        let f = length-append old.line.held k.received in
        let g = (fills_room told (most_held - length old.line.held) k.received left k.got received waits).0 in
        let m = ap (λ (n : Line). length n.held) x.sends.line ∙ ap length x.served.held in
        let n = on.fits in
        by_numbers (length new.line.held) (length r.held) (length left) (length (r.held ++ left)) (length (bytes_written y.left)) (length (bytes_written y.read)) (length ((old.line.held ++ k.received) ++ left)) (length (old.line.held ++ k.received)) (length old.line.held) (length k.received) a b d e f g m n
      where
        by_numbers : (nh rh l rl rest read all hn h n : ℕ) → rl ≡ rest → rl ≡ rh + l → all ≡ read + rest → all ≡ hn + l → hn ≡ h + n → n ≤ 32780 - h → nh ≡ rh → h ≤ 32780 → nh ≤ 32780
        by_numbers nh rh l rl rest read all hn h n a b d e f g m o = omega arith

-- the facts that a tick finds stay
pub tick_facts : (m : State) (now : ℕ) → (run m (first_calls now)).facts ≡ m.facts
tick_facts m now = by_end (is_some m.ending)
  where
    s : State
    s = step m reserve

    beat : State
    beat = wrote (record s { moment = now }) (bytes_of (heartbeats (around s 0 now) s.facts s.last_sent s.unsent)) now

    by_fault : (v : Option Violation) → (broken_by beat v now).facts ≡ m.facts
    by_fault None = refl
    by_fault (Some v) = refl

    by_end : (b : Bool) → (if b then record s { moment = now } else broken_by beat (lateness (around s 0 now) s.facts s.start s.last_received) now).facts ≡ m.facts
    by_end true = refl
    by_end false = by_fault (lateness (around s 0 now) s.facts s.start s.last_received)

-- nor does a turn's end move what is served
pub done_serves : (m : State) (now : ℕ) → (step m (turn_done now)).facts.connection.serving ≡ m.facts.connection.serving
done_serves m now = by_end (is_some m.ending)
  where
    by_close : (c : Bool) → (turned_as m c).next.connection.serving ≡ m.facts.connection.serving
    by_close true = refl
    by_close false = refl

    by_end : (e : Bool) → (if e then record m { moment = now } else record (machine_is.made (record m { moment = now }) (turn_ended (around m 0 now) m.facts (runs_of m.untold)) now) { untold = [] }).facts.connection.serving ≡ m.facts.connection.serving
    by_end true = refl
    by_end false = by_close (closes (around m 0 now) m.facts)

pub tick_config : (m : State) (now : ℕ) → (run m (first_calls now)).config ≡ m.config
tick_config m now = by_end (is_some m.ending)
  where
    s : State
    s = step m reserve

    beat : State
    beat = wrote (record s { moment = now }) (bytes_of (heartbeats (around s 0 now) s.facts s.last_sent s.unsent)) now

    by_fault : (v : Option Violation) → (broken_by beat v now).config ≡ m.config
    by_fault None = refl
    by_fault (Some v) = refl

    by_end : (b : Bool) → (if b then record s { moment = now } else broken_by beat (lateness (around s 0 now) s.facts s.start s.last_received) now).config ≡ m.config
    by_end true = refl
    by_end false = by_fault (lateness (around s 0 now) s.facts s.start s.last_received)

-- the end of a turn leaves what is sent
done_sent : (m : State) (now : ℕ) → (step m (turn_done now)).facts.recorded.sent ≡ m.facts.recorded.sent
done_sent m now = by_end (is_some m.ending)
  where
    by_close : (c : Bool) → (turned_as m c).next.recorded.sent ≡ m.facts.recorded.sent
    by_close true = refl
    by_close false = refl

    by_end : (e : Bool) → (if e then record m { moment = now } else record (machine_is.made (record m { moment = now }) (turn_ended (around m 0 now) m.facts (runs_of m.untold)) now) { untold = [] }).facts.recorded.sent ≡ m.facts.recorded.sent
    by_end true = refl
    by_end false = by_close (closes (around m 0 now) m.facts)

five_parts : (a b c d e : Bool) → (not a && b && c && d && e) ≡ true → (a ≡ false) × (b ≡ true) × (c ≡ true) × (d ≡ true) × (e ≡ true)
five_parts false true true true true t = (refl, refl, refl, refl, refl)
five_parts true b c d e t = absurd (true≢false (sym t))
five_parts false false c d e t = absurd (true≢false (sym t))
five_parts false true false d e t = absurd (true≢false (sym t))
five_parts false true true false e t = absurd (true≢false (sym t))
five_parts false true true true false t = absurd (true≢false (sym t))

four_parts : (a b c d : Bool) → (a && b && c && d) ≡ true → (a ≡ true) × (b ≡ true) × (c ≡ true) × (d ≡ true)
four_parts true true true true t = (refl, refl, refl, refl)
four_parts false b c d t = absurd (true≢false (sym t))
four_parts true false c d t = absurd (true≢false (sym t))
four_parts true true false d t = absurd (true≢false (sym t))
four_parts true true true false t = absurd (true≢false (sym t))

four_true : (a b c d : Bool) → a ≡ true → b ≡ true → c ≡ true → d ≡ true → (a && b && c && d) ≡ true
four_true true true true true p q r s = refl
four_true false b c d p q r s = absurd (true≢false (sym p))
four_true true false c d p q r s = absurd (true≢false (sym q))
four_true true true false d p q r s = absurd (true≢false (sym r))
four_true true true true false p q r s = absurd (true≢false (sym s))

none_is : (o : Option Range) → is_some o ≡ false → is_none o ≡ true
none_is None e = refl
none_is (Some r) e = absurd (true≢false e)

ending_none : (o : Option Ending) → is_some o ≡ false → o ≡ None
ending_none None e = refl
ending_none (Some x) e = absurd (true≢false e)

-- an end that is free to read takes a message that is under way to it
pub reads_some : (outbox : History) (ha : List Entry) (w : World) (now : ℕ) (old new : Half) (way left : List ℕ) (k : Work) → (d : Worked outbox ha w old new way left k) → k.now ≡ now → old.line.machine.ending ≡ None
    → 4 ≤ old.line.per_turn → old.line.per_turn ≤ 256 → IsFree old now → 1 ≤ length w.homeward → 1 ≤ length d.read
reads_some outbox ha w now old new way left k d now_is going least most free some = by_read d.read refl
  where
    by_read : (ps : List Piece) → d.read ≡ ps → 1 ≤ length d.read
    by_read (p ∷ more) e = let size = ap length e in omega (arith, size)
    by_read [] e = absurd (by_quiet (quiet_took old.line.per_turn d.r d.read d.rest d.legal most (ap (λ (ps : List Piece). all_beats ps) e) (let size = ap length e in omega (arith, size, least)) d.took))
      where
        no_frames : k.frames ≡ []
        no_frames = none_frames k.frames (sym d.counts ∙ ap length e)
          where
            none_frames : (ts : List TakenFrame) → length ts ≡ 0 → ts ≡ []
            none_frames [] z = refl
            none_frames (t ∷ ts) z = absurd (omega (arith, z))

        all_left : d.rest ≡ [] → w.homeward ≡ []
        all_left empty = d.joins ∙ (ap (λ (ps : List Piece). d.read ++ ps) empty ∙ (append-nil d.read ∙ e))

        by_quiet : (d.rest ≡ []) ⊎ (IsSome d.r.machine.ending ⊎ (has_begun d.r ≡ true)) → ⊥
        by_quiet (inl empty) = let size = ap length (all_left empty) in absurd (omega (arith, some, size))
        by_quiet (inr (inl over)) = some_none d.r.machine.ending (ap (λ (m : State). m.ending) (d.first no_frames) ∙ (ap (λ (n : ℕ). (run old.line.machine (first_calls n)).ending) now_is ∙ (tick_open old.line.machine now going free.in_time).ending)) over
        by_quiet (inr (inr began)) = d.begins_with began (ap (λ (f : Facts). is_some f.connection.serving) (sym (tick_facts old.line.machine k.now) ∙ ap (λ (m : State). m.facts) (sym (d.first no_frames))) ∙ d.begun began)

-- a turn that works
pub works_goes : (outbox : History) (ha : List Entry) (b : Course) (w : World) (now : ℕ) (old new : Half) (way left : List ℕ) (theirs : State) (held out : List ℕ) (k : Work) (told told' : LinkTold) (carried carried' : Option Carried) (clock : ℕ)
    → FallsFrom outbox.made ha w → IsOn outbox b old w.initiator → IsUnread w.outward old.line.machine held out → IsUnread w.homeward theirs old.line.held way → theirs.unsent ≡ [] → old.line.machine.ending ≡ None
    → 4 ≤ old.line.per_turn → old.line.per_turn ≤ 256 → MadeTurn true (turn_at old told carried clock) (turn_at new told' carried' now) (works k) → told.waits ≡ k.received ++ left → way ≡ k.received ++ left → told.over ≡ false
    → k.lost ≡ false → old.line.machine.moment ≤ now → IsFaithful (works k) → IsTimelyTurn (works k) → BeginsHistory new.seen outbox
    → Goes outbox ha b w new (works k) theirs held out left (beats_at old.line.machine now) (DueIn old w.initiator w.homeward now)
works_goes outbox ha b w now old new way left theirs held out k told told' carried carried' clock falls on outward homeward all_sent going most_least most_most made waits way_is link_on sound later faithful timely begins = record {
  world = x.moved.world;
  may = x.may;
  there = x.there;
  keeps = subst (λ (ss : List Step). AllByRecursion KeepsLink ss) (sym d.steps) (works_keep k.now k.frames k.again k.live k.finish k.sent);
  acceptor = x.moved.acceptor;
  says = x.moved.says;
  again = some_again;
  on = record {
    legal = on.legal;
    goes = x.moved.here;
    goes_on = d.over;
    fits = d.fits;
    seen = record { begins = begins; few = on.seen.few };
    course = x.stands.0;
    stands = x.stands.1;
  };
  outward = record { way = x.moved.outward; whole = x.whole taken_all };
  homeward = record {
    way = x.moved.homeward;
    whole = sym (x.moved.goes_on (left ++ theirs.unsent)
        (append_assoc old.line.held k.received (left ++ theirs.unsent)
        ∙ (ap (λ (bs : List ℕ). old.line.held ++ bs) (sym (append_assoc k.received left theirs.unsent) ∙ ap (λ (bs : List ℕ). bs ++ theirs.unsent) (sym way_is))
        ∙ (sym (append_assoc old.line.held way theirs.unsent) ∙ sym homeward.whole))))
        ∙ sym (append_assoc new.line.held left theirs.unsent);
  };
  rises = by_zero (measure outbox.made ha w) (measure outbox.made ha x.moved.world) (low w steps) (high w steps) (beats_at old.line.machine now) all raised;
  falls = λ n due. by_due n due.0 due.1;
}
  where
    turn : Turn
    turn = works k

    steps : List Step
    steps = initiator_steps turn

    x : Common outbox ha b w old new turn theirs held out left
    x = common outbox ha b w old new turn theirs held out way left on outward homeward going made.is faithful timely sound begins way_is

    d : Worked outbox ha w old new way left k
    d = worked outbox ha b w old new way left theirs k told told' on homeward all_sent faithful timely begins made.is sound link_on waits way_is made.does.1

    now_is : k.now ≡ now
    now_is = moment_is k.now now old.line.machine.moment made.moment later

    first : List Step
    first = does_all (first_calls k.now)

    fs : List Step
    fs = frames_steps k.now k.frames

    rest : List Call
    rest = rest_calls k.now k.again k.live k.finish k.sent

    v0 : World
    v0 = world_after w first

    v1 : World
    v1 = world_after v0 fs

    taken_all : (c : Course) → c.state ≡ old.line.machine → (course_after c (calls_of turn)).taken ≡ c.taken ++ k.sent
    taken_all c is = ap (λ (cs : List Call). (course_after c cs).taken) d.calls ∙ works_taken c k.now k.frames k.again k.live k.finish k.sent
        (subst (λ (m : State). IsPrefix k.sent m.unsent) (made.is.served.machine ∙ behind_is c is) made.is.sends.front)
      where
        -- the machine behind what was to be sent
        behind_is : (c : Course) → c.state ≡ old.line.machine
            → run (run old.line.machine (first_calls k.now)) (calls_of_frames k.now k.frames ++ (closing_calls k ++ outbox_calls k))
            ≡ run c.state (first_calls k.now ++ (calls_of_frames k.now k.frames ++ (turn_done k.now ∷ (again_calls k.now k.again ++ (live_calls k.now k.live ++ finish_calls k.now k.finish)))))
        behind_is c is = ap (λ (cs : List Call). run (run old.line.machine (first_calls k.now)) (calls_of_frames k.now k.frames ++ (cs ++ outbox_calls k))) d.closing
            ∙ ap (λ (m : State). run m (first_calls k.now ++ (calls_of_frames k.now k.frames ++ (turn_done k.now ∷ (again_calls k.now k.again ++ (live_calls k.now k.live ++ finish_calls k.now k.finish)))))) (sym is)

    may0 : AllMayStep outbox.made ha w (first ++ (fs ++ does_all rest))
    may0 = subst (λ (ss : List Step). AllMayStep outbox.made ha w ss) d.steps x.may

    may1 : AllMayStep outbox.made ha v0 (fs ++ does_all rest)
    may1 = second_may outbox.made ha w first (fs ++ does_all rest) may0

    may_frames : AllMayStep outbox.made ha v0 fs
    may_frames = first_may outbox.made ha v0 fs (does_all rest) may1

    -- behind the tick
    v0_is : v0.initiator ≡ run old.line.machine (first_calls k.now)
    v0_is = does_end w (first_calls k.now) ∙ same_run w.initiator old.line.machine (first_calls k.now) (tick k.now ∷ []) refl on.goes.alike

    facts0 : v0.initiator.facts ≡ w.initiator.facts
    facts0 = does_end_facts ∙ tick_facts w.initiator k.now
      where
        does_end_facts : v0.initiator.facts ≡ (run w.initiator (first_calls k.now)).facts
        does_end_facts = ap (λ (s : State). s.facts) (does_end w (first_calls k.now))

    mine : old.line.machine.facts ≡ w.initiator.facts
    mine = ap (λ (s : State). s.facts) (sym on.goes.alike)

    home0 : v0.homeward ≡ d.read ++ d.rest
    home0 = does_home w (first_calls k.now) ∙ d.joins

    keeps : Keeps v0.initiator v1.initiator
    keeps = frames_keep v0 k.now k.frames d.read d.rest home0 d.counts

    enough : old.line.machine.facts.recorded.sent ≤ length old.seen.made
    enough = subst (λ (m : State). m.facts.recorded.sent ≤ length old.seen.made) on.stands.machine on.stands.stands.own.enough

    r_enough : d.r.machine.facts.recorded.sent ≤ length old.seen.made
    r_enough =
        let a = keeps.sent in
        let b = ap (λ (m : State). m.facts.recorded.sent) d.at in
        let c = ap (λ (f : Facts). f.recorded.sent) facts0 in
        let e = ap (λ (f : Facts). f.recorded.sent) mine in
        let f = enough in
        omega (arith, a, b, c, e, f)

    r_range : InRange d.r.machine.facts
    r_range = subst (λ (m : State). InRange m.facts) d.at
        (subst (λ (v : World). InRange v.initiator.facts) (world_append w first fs)
        (falls (first ++ fs) (both_may first fs (first_may outbox.made ha w first (fs ++ does_all rest) may0) may_frames)).range)
      where
        both_may : (a c : List Step) → AllMayStep outbox.made ha w a → AllMayStep outbox.made ha (world_after w a) c → AllMayStep outbox.made ha w (a ++ c)
        both_may a c p q = may_append outbox.made ha w a c p q

    one : 1 ≤ old.line.per_turn
    one = omega (arith, most_least)

    -- messages that go again are some
    some_again : IfSome k.again (λ p. 1 ≤ length p)
    some_again = by_bool _ d.waits
        (λ waiting. subst (λ (o : Option (List (List ℕ))). IfSome o (λ p. 1 ≤ length p)) (sym (d.none_again waiting)) tt)
        (λ free. let m1 = step d.r.machine (turn_done k.now) in
        let same = done_sent d.r.machine k.now in
        let less = r_enough in
        again_some m1 old.seen old.line.per_turn (served_of old.line.per_turn (served_now m1) (d.gives free).at_again) k.again (d.gives free).at_again refl (d.gives free).again one (done_range d.r.machine k.now r_range) (omega (arith, same, less)) (d.looks free).again)

    own : AllByRecursion IsOwn steps
    own = subst (λ (ss : List Step). AllByRecursion IsOwn ss) (sym d.steps) (works_own k.now k.frames k.again k.live k.finish k.sent some_again)

    all : measure outbox.made ha x.moved.world + low w steps ≤ measure outbox.made ha w + high w steps
    all = subst (λ (v : World). measure outbox.made ha v + low w steps ≤ measure outbox.made ha w + high w steps) x.there (steps_fall_along outbox.made ha w steps falls x.may own)

    raised : high w steps ≡ beats_at old.line.machine now
    raised = ap (λ (ss : List Step). high w ss) d.steps ∙ (works_high w k.now k.frames k.again k.live k.finish k.sent ∙ first_high w old.line.machine k.now now on.goes.alike now_is)

    by_zero : (a c l h q : ℕ) → c + l ≤ a + h → h ≡ q → c ≤ a + q
    by_zero a c l h q e f = omega arith

    -- what the frames lower it by, and what comes behind them
    lowers : low w steps ≡ low w first + (low v0 fs + call_low d.r.machine rest)
    lowers = ap (λ (ss : List Step). low w ss) d.steps ∙ (low_append w first (fs ++ does_all rest) ∙ ap (λ (n : ℕ). low w first + n) (low_append v0 fs (does_all rest) ∙ ap (λ (n : ℕ). low v0 fs + n)
        (does_low v1 rest ∙ ap (λ (m : State). call_low m rest) d.at)))

    Answer : ℕ → Type 0
    Answer n = (measure outbox.made ha x.moved.world + n ≤ measure outbox.made ha w + beats_at old.line.machine now) ⊎ IsSome x.moved.world.initiator.ending

    by_frames : (n : ℕ) → n ≤ low v0 fs → Answer n
    by_frames n e = inl (numbers (measure outbox.made ha w) (measure outbox.made ha x.moved.world) (low w steps) (high w steps) (beats_at old.line.machine now) n (low w first) (low v0 fs) (call_low d.r.machine rest) all raised lowers e)
      where
        numbers : (a c l h q n f g i : ℕ) → c + l ≤ a + h → h ≡ q → l ≡ f + (g + i) → n ≤ g → c + n ≤ a + q
        numbers a c l h q n f g i p r s t = omega arith

    by_rest : (n : ℕ) → n ≤ call_low d.r.machine rest → Answer n
    by_rest n e = inl (numbers (measure outbox.made ha w) (measure outbox.made ha x.moved.world) (low w steps) (high w steps) (beats_at old.line.machine now) n (low w first) (low v0 fs) (call_low d.r.machine rest) all raised lowers e)
      where
        numbers : (a c l h q n f g i : ℕ) → c + l ≤ a + h → h ≡ q → l ≡ f + (g + i) → n ≤ i → c + n ≤ a + q
        numbers a c l h q n f g i p r s t = omega arith

    -- a connection that has ended behind its frames has ended behind the turn
    ended : (n : ℕ) → IsSome d.r.machine.ending → Answer n
    ended n over = inr (ap (λ (e : Option Ending). is_some e) ending_is ∙ over)
      where
        ending_is : x.moved.world.initiator.ending ≡ d.r.machine.ending
        ending_is = ap (λ (v : World). v.initiator.ending) (sym x.there ∙ (ap (λ (ss : List Step). world_after w ss) d.steps ∙ (world_append w first (fs ++ does_all rest) ∙ world_append v0 fs (does_all rest))))
            ∙ (ap (λ (s : State). s.ending) (does_end v1 rest) ∙ (rest_ends v1.initiator k.now k.again k.live k.finish k.sent ∙ ap (λ (m : State). m.ending) d.at))

    due_rest : old.line.machine.unsent ≡ [] → ToDo d.r.machine old.seen k.now → Answer 4
    due_rest none due = by_bool _ (is_some d.r.machine.ending) (λ over. ended 4 over)
        (λ on_still. let free = d.free_waits none in
        by_rest 4 (rest_low d.r.machine old.seen old.line.per_turn k.now k.again k.live k.finish k.sent one (ending_none d.r.machine.ending on_still) r_range r_enough due (d.gives free) (d.looks free)))

    -- heartbeats alone, fewer than a turn takes
    quiet : (n : ℕ) → n ≤ 4 → old.line.machine.unsent ≡ [] → all_beats d.read ≡ true → length d.read < old.line.per_turn → (d.rest ≡ [] → Answer n) → Answer n
    quiet n few none beats short empty = by_quiet (quiet_took old.line.per_turn d.r d.read d.rest d.legal most_most beats short d.took)
      where
        less : Answer 4 → Answer n
        less (inl h) = inl (numbers (measure outbox.made ha x.moved.world) (measure outbox.made ha w + beats_at old.line.machine now) n few h)
          where
            numbers : (c q n : ℕ) → n ≤ 4 → c + 4 ≤ q → c + n ≤ q
            numbers c q n f g = omega arith
        less (inr over) = inr over

        by_quiet : (d.rest ≡ []) ⊎ (IsSome d.r.machine.ending ⊎ (has_begun d.r ≡ true)) → Answer n
        by_quiet (inl e) = empty e
        by_quiet (inr (inl over)) = ended n over
        by_quiet (inr (inr began)) = less (due_rest none (resting.serves (d.begun began)))

    -- where nothing is left to read
    all_read : d.rest ≡ [] → w.homeward ≡ d.read
    all_read e = d.joins ∙ (ap (λ (ps : List Piece). d.read ++ ps) e ∙ append-nil d.read)

    -- a message was read that is no heartbeat, or heartbeats alone
    by_read : old.line.machine.unsent ≡ [] → (all_beats d.read ≡ true → Answer 4) → Answer 4
    by_read none beats = by_bool _ (all_beats d.read) beats (λ other. by_frames 4 (frames_low_four v0 k.now k.frames d.read d.rest home0 d.counts other))

    short_or : (P : Type 0) → (length d.read < old.line.per_turn → P) → (old.line.per_turn ≤ length d.read → P) → P
    short_or P few many = by_bool P (nat_lt (length d.read) old.line.per_turn) (λ t. few (ltb-true (length d.read) old.line.per_turn t)) (λ t. many (ltb-false (length d.read) old.line.per_turn t))

    -- what the end had to do stays so behind heartbeats
    stays : is_established w.initiator.facts.connection.phase ≡ true → all_beats d.read ≡ true → d.r.machine.ending ≡ None → Stays v0.initiator d.r.machine
    stays est beats open_still = subst (λ (m : State). Stays v0.initiator m) d.at
        (beats_stay outbox.made ha v0 k.now k.frames d.read d.rest may_frames home0 d.counts beats (ap (λ (f : Facts). is_established f.connection.phase) facts0 ∙ est) (ap (λ (m : State). m.ending) d.at ∙ open_still))

    config0 : v0.initiator.config ≡ w.initiator.config
    config0 = ap (λ (s : State). s.config) (does_end w (first_calls k.now)) ∙ tick_config w.initiator k.now

    -- an end that is established, behind heartbeats
    behind_beats : IsFree old now → is_established w.initiator.facts.connection.phase ≡ true → (Stays v0.initiator d.r.machine → ToDo d.r.machine old.seen k.now) → Answer 4
    behind_beats free est due = by_read free.sent (λ beats. by_bool _ (is_some d.r.machine.ending) (λ over. ended 4 over)
        (λ on_still. due_rest free.sent (due (stays est beats (ending_none d.r.machine.ending on_still)))))

    by_acts : IsFree old now → Acts old.line.per_turn old.seen w.initiator w.homeward → Answer 4
    by_acts free (acting.serves s) = due_rest free.sent (resting.serves (ap (λ (m : State). is_some m.facts.connection.serving) (sym d.at) ∙ keeps.serves (ap (λ (f : Facts). is_some f.connection.serving) facts0 ∙ s)))
    by_acts free (acting.reads other) = by_read free.sent (λ beats. short_or _
        (λ few. quiet 4 (omega arith) free.sent beats few (λ e. absurd (true≢false (sym (beats_all old.line.per_turn d.read beats) ∙ (ap (λ (ps : List Piece). all_beats (take old.line.per_turn ps)) (sym (all_read e)) ∙ other)))))
        (λ many. absurd (true≢false (sym (beats_front old.line.per_turn d.read d.rest beats many) ∙ (ap (λ (ps : List Piece). all_beats (take old.line.per_turn ps)) (sym d.joins) ∙ other)))))
    by_acts free (acting.ends_range est coming has) = by_bool _ (has_sequence d.read)
        (λ there. by_frames 4 (comes_low v0 k.now k.frames d.read d.rest home0 d.counts there (ap (λ (f : Facts). is_established f.connection.phase) facts0 ∙ est) (ap (λ (f : Facts). request_is.is_coming f.connection.requester) facts0 ∙ coming)))
        (λ none. by_read free.sent (λ beats. short_or _
        (λ few. quiet 4 (omega arith) free.sent beats few (λ e. absurd (true≢false (sym (sequence_all old.line.per_turn d.read (ap (λ (ps : List Piece). has_sequence (take old.line.per_turn ps)) (sym (all_read e)) ∙ has)) ∙ none))))
        (λ many. absurd (true≢false (sym (sequence_front old.line.per_turn d.read d.rest (ap (λ (ps : List Piece). has_sequence (take old.line.per_turn ps)) (sym d.joins) ∙ has) many) ∙ none)))))
    by_acts free (acting.sends est present less) = behind_beats free est (λ s.
        let a = s.sent in
        let c = ap (λ (f : Facts). f.recorded.sent) facts0 in
        resting.sends s.established (ap (λ (c : EndConfig). is_absent c.own_flow) (s.config ∙ config0) ∙ present) (omega (arith, a, c, less)))
    by_acts free (acting.tells marked told_now) =
        let p = five_parts (is_absent w.initiator.config.own_flow) (is_established w.initiator.facts.connection.phase) (is_open w.initiator.facts.connection.own_finish) (w.initiator.facts.recorded.sent == length old.seen.made) (is_none w.initiator.facts.connection.serving) told_now in
        let sent = eqb-true w.initiator.facts.recorded.sent (length old.seen.made) p.3 in
        behind_beats free p.1 (λ s.
        let a = s.sent in
        let c = ap (λ (f : Facts). f.recorded.sent) facts0 in
        resting.tells s.established (ap (λ (c : EndConfig). is_absent c.own_flow) (s.config ∙ config0) ∙ p.0) (s.open_yet (ap (λ (f : Facts). is_open f.connection.own_finish) facts0 ∙ p.2)) (omega (arith, a, c, sent)) marked)
    by_acts free (acting.shuts closes_now) =
        let p = four_parts (is_initiator w.initiator.config.role) (is_established w.initiator.facts.connection.phase) (finishes_exchanged (around w.initiator 0 0) w.initiator.facts) (is_none w.initiator.facts.connection.serving) closes_now in
        behind_beats free p.1 (λ s. by_bool _ (is_some d.r.machine.facts.connection.serving) (λ t. resting.serves t)
        (λ none. resting.shuts (four_true (is_initiator d.r.machine.config.role) (is_established d.r.machine.facts.connection.phase) (finishes_exchanged (around d.r.machine 0 0) d.r.machine.facts) (is_none d.r.machine.facts.connection.serving)
        (ap (λ (c : EndConfig). is_initiator c.role) (s.config ∙ config0) ∙ p.0) s.established
        (s.exchanged (ap (λ (c : EndConfig). finishes_exchanged (record (around v0.initiator 0 0) { config = c }) v0.initiator.facts) config0 ∙ (ap (λ (f : Facts). finishes_exchanged (around w.initiator 0 0) f) facts0 ∙ p.2)))
        (none_is d.r.machine.facts.connection.serving none))))

    by_due : (n : ℕ) → IsFree old now → Due old.line.per_turn old.seen w.initiator w.homeward n → Answer n
    by_due n free (due_is.reads is some) = subst Answer (sym is) (by_frames 1 (let least = frames_low v0 k.now k.frames d.read d.rest home0 d.counts in let size = reads_some outbox ha w now old new way left k d now_is going most_least most_most free some in omega (arith, least, size)))
    by_due n free (due_is.acts is act) = subst Answer (sym is) (by_acts free act)
    by_due n free (due_is.beats is b) = subst Answer (sym is) (by_read free.sent (λ beats. by_bool _ (nat_lt (length d.read) 4)
        (λ t. let few = ltb-true (length d.read) 4 t in
        quiet 4 (omega arith) free.sent beats (omega (arith, few, most_least)) (λ e. let size = ap length (all_read e) in let many = b.many in absurd (omega (arith, size, many, few, most_least))))
        (λ t. let many = ltb-false (length d.read) 4 t in let least = frames_low v0 k.now k.frames d.read d.rest home0 d.counts in by_frames 4 (omega (arith, many, least)))))
