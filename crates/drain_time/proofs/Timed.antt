-- That both ends stay in time, round by round.
use Rattle.std.proofs.Common.{◌≡◌, ◌⊎◌, inl, inr, ℕ, ◌+◌, ◌*◌, ◌-◌, ◌<◌, ◌≤◌, ◌||◌, min, max, nat_le, Bool, true, false, if◌then◌else◌, List, [], ◌∷◌, ◌++◌, length, map, Option, Some, None, refl, sym, ap, subst, ◌∙◌, arith, suc, append-nil, length-append, true≢false}
use Rattle.std.specs.Prelude.{⊤, is_some, IsSome}
use Rattle.std.specs.List.{AllByRecursion}
use Rattle.std.proofs.lemmas.Bool.{leb-true}
use Rattle.session_model.specs.Journal.{Entry, History, BeginsHistory}
use Rattle.session_model.proofs.Lists.{all_append}
use Rattle.fixp_msgs.specs.Message.{Message}
use Rattle.fixp_shake.specs.declared.config.EndConfig.{EndConfig}
use Rattle.fixp_shake.specs.declared.config.Role.{Role}
use Rattle.fixp_shake.specs.declared.phase.Phase.{Phase}
use Rattle.fixp_shake.specs.declared.violation.Violation.TheVariants.{Silent, HandshakeLate}
use Rattle.fixp_shake.specs.Flows.{is_absent}
use Rattle.fixp_shake.specs.Phases.{is_established, is_closing, is_shaken}
use Rattle.fixp_replies.specs.declared.act.Ending.{Ending}
use Rattle.fixp_replies.specs.declared.act.Ending.TheVariants as endings
use Rattle.fixp_replies.specs.declared.facts.Facts.{Facts}
use Rattle.fixp_replies.specs.Facts.{is_initiator}
use Rattle.fixp_replies.specs.Events.{begun, lateness, handshake_limit}
use Rattle.fixp_machine.specs.Machine.{State, reserve, around, bytes_of, sent_at, step}
use Rattle.conn_turns.specs.Lines.{Line}
use Rattle.conn_turns.specs.Turns.{calls_of}
use Rattle.connection_laws.specs.Writing.{Piece, said_all}
use Rattle.turn_laws.specs.Legs.{sent_in}
use Rattle.honest_ends.specs.Worlds.{World, Step, Match, meets, written, after, world_after, AllMayStep}
use Rattle.honest_ends.proofs.Serving.{by_bool}
use Rattle.honest_turns.specs.Steps.{initiator_steps, turned_step}
use Rattle.honest_turns.proofs.Opening.{same_written}
use Rattle.honest_turns.proofs.Reaching.{Reaches, may_append, after_append, turned, reaches_turned}
use Rattle.drain_laws.specs.Calls.{beats_at}
use Rattle.drain_laws.specs.Counts.{shutting, under_way}
use Rattle.drain_ends.specs.Closing.{KeepsLink, BothTold}
use Rattle.drain_ends.proofs.Closed.{ends_are_told}
use Rattle.drain_steps.proofs.Stepping.{from_initiator, from_acceptor}
use Rattle.drain_turns.specs.Joints.{Half, Joint, Session, IsOn, IsUnread, Shows}
use Rattle.drain_turns.specs.Turning.{TakesTurn, IsFree, DueIn}
use Rattle.drain_turns.proofs.Turned.{Goes, reserved_first}
use Rattle.drain_turns.proofs.Fallen.{turn_goes, turned_keeps, reached}
use Rattle.drain_rounds.specs.Rounds.{Finds, InRound, IsInTime, Round, AreDrain, last_of, IsOver, IsSent, entries_of, rounds_for}
use Rattle.drain_rounds.proofs.Rounding.{all_sent, same_number, ending_is, facts_are, none_is, found, looks, sent_as, drain_suffices}
use Rattle.drain_beats.specs.Beats.{AreTimely, IsWithin}
use Rattle.drain_beats.proofs.Calling.{Passes}
use Rattle.drain_beats.proofs.Holding.{beats_hold, drain_follows}
use Rattle.drain_opening.specs.Opening.{AllInTime, reads_in, Awaited, by_acceptor, by_initiator, Opening, Opened}
use Rattle.drain_opening.proofs.Opened.{acceptor_first, opening_holds, opened_stays}
use Rattle.drain_finish.specs.Finishing.{GoesOrFinished}
use Rattle.drain_finish.proofs.Sealed.{ends_finished}
use Rattle.drain_time.specs.Times.{AreRounds, BeginsAt, StaysInTime, AreSeen, DrainFinishes, AreFinished, RoundsFinish}
use Rattle.drain_time.proofs.Speaking.{late_at, Times, turn_times, turn_passes, timely_append, reads_append, timely_turned, reads_turned}

-- the steps behind the beginning of the connection are in time, and so many messages were read in them
abbrev Timely : (s : Session) (j : Joint) (w : World) → Shows s j w → Type 0
Timely s j w sh = AllInTime (after s.start (meets sh.now_i sh.now_a)) sh.later

abbrev reads_of : (s : Session) (j : Joint) (w : World) → Shows s j w → ℕ
reads_of s j w sh = reads_in (after s.start (meets sh.now_i sh.now_a)) sh.later

-- more steps in time behind those that led to a world
record Moved (s : Session) (j : Joint) (w : World) (sh : Shows s j w) (k : Joint) (v : World) (n : ℕ) : Type 0 where
  shows : Shows s k v
  timely : Timely s j w sh → Timely s k v shows
  reads : reads_of s k v shows ≡ reads_of s j w sh + n
  opened : Opened w → Opened v

moved : (s : Session) (j k : Joint) (w v : World) (steps : List Step) → (sh : Shows s j w) → AllMayStep s.outbox_i.made s.outbox_a.made w steps → AllByRecursion KeepsLink steps → world_after w steps ≡ v
    → IsOn s.outbox_i s.course_i k.initiator v.initiator → IsOn s.outbox_a s.course_a k.acceptor v.acceptor → IsUnread v.outward k.initiator.line.machine k.acceptor.line.held k.outward
    → IsUnread v.homeward k.acceptor.line.machine k.initiator.line.held k.homeward → AllInTime w steps → Moved s j w sh k v (reads_in w steps)
moved s j k w v steps sh may keeps there on_i on_a outward homeward timed = record {
  shows = record {
    known = sh.known;
    agreed = sh.agreed;
    now_i = sh.now_i;
    now_a = sh.now_a;
    later = sh.later ++ steps;
    may = all_may;
    keeps = all_append KeepsLink sh.later steps sh.keeps keeps;
    there = there_then;
    initiator = on_i;
    acceptor = on_a;
    outward = outward;
    homeward = homeward;
  };
  timely = λ t. timely_append first sh.later steps t timed_then;
  reads = reads_append first sh.later steps ∙ ap (λ (u : World). reads_in first sh.later + reads_in u steps) sh.there;
  opened = λ o. subst (λ (u : World). Opened u) there_then
      (opened_stays s.outbox_i.made s.outbox_a.made s.start sh.now_i sh.now_a sh.later steps sh.known sh.agreed all_may keeps timed_then (subst (λ (u : World). Opened u) (sym sh.there) o));
}
  where
    first : World
    first = after s.start (meets sh.now_i sh.now_a)

    timed_then : AllInTime (world_after first sh.later) steps
    timed_then = subst (λ (u : World). AllInTime u steps) (sym sh.there) timed

    all_may : AllMayStep s.outbox_i.made s.outbox_a.made s.start (meets sh.now_i sh.now_a ∷ (sh.later ++ steps))
    all_may = may_append s.outbox_i.made s.outbox_a.made s.start (meets sh.now_i sh.now_a ∷ sh.later) steps sh.may (subst (λ (u : World). AllMayStep s.outbox_i.made s.outbox_a.made u steps) (sym sh.there) may)

    there_then : world_after s.start (meets sh.now_i sh.now_a ∷ (sh.later ++ steps)) ≡ v
    there_then = after_append s.start (meets sh.now_i sh.now_a ∷ sh.later) steps ∙ (ap (λ (u : World). world_after u steps) sh.there ∙ there)

-- One half of a round of an end, which takes a turn where it goes on: what it makes of its moments
record Halved (now : ℕ) (old new : Half) (way made : List Piece) (n : ℕ) : Type 0 where
  passes : Passes now old.line.machine new.line.machine made
  sent : IsSent new
  over : IsSome old.line.machine.ending → IsSome new.line.machine.ending
  hears : IsFree old now → old.line.machine.ending ≡ None → 1 ≤ length way → new.line.machine.last_received ≡ now
  counts : IsFree old now → old.line.machine.ending ≡ None → 1 ≤ length way → 1 ≤ n
  speaks : IsFree old now → old.line.machine.ending ≡ None → is_established old.line.machine.facts.connection.phase ≡ true
      → (now + 1 ≤ new.line.machine.last_sent + old.line.machine.config.keepalive) ⊎ IsSome new.line.machine.ending

record InitiatorHalved (s : Session) (now : ℕ) (j k : Joint) (w : World) (sh : Shows s j w) : Type 0 where
  world : World
  n : ℕ
  made : List Piece
  moves : Moved s j w sh k world n
  same : world.acceptor ≡ w.acceptor
  says : world.outward ≡ w.outward ++ made
  half : Halved now j.initiator k.initiator w.homeward made n

record AcceptorHalved (s : Session) (now : ℕ) (j k : Joint) (w : World) (sh : Shows s j w) : Type 0 where
  world : World
  n : ℕ
  made : List Piece
  moves : Moved s j w sh k world n
  same : world.initiator ≡ w.initiator
  says : world.homeward ≡ w.homeward ++ made
  half : Halved now j.acceptor k.acceptor w.outward made n

-- an end that goes on, whose turn takes from 4 messages to 256, is in time, and has an interval
record Ready (now : ℕ) (half : Half) : Type 0 where
  least : 4 ≤ half.line.per_turn
  most : half.line.per_turn ≤ 256
  done : IsSome half.line.machine.ending → half.line.machine.unsent ≡ []
  in_time : half.line.machine.ending ≡ None → late_at now half.line.machine ≡ None
  some : 1 ≤ half.line.machine.config.keepalive

sent_then : (now : ℕ) (old new : Half) (way left : List ℕ) → TakesTurn now old new way left → Ready now old → IsSent new
sent_then now old new way left t r = record {
  least = let e = same_number now old new way left t in let n = r.least in omega (arith, e, n);
  most = let e = same_number now old new way left t in let n = r.most in omega (arith, e, n);
  all = all_sent now old new way left t;
}

never_over : (o : Option Ending) → o ≡ None → IsSome o → ⊥
never_over o none some = true≢false (sym some ∙ ap (λ (k : Option Ending). is_some k) none)

rested_half : (now : ℕ) (old new : Half) (way : List Piece) → new ≡ old → IsSome old.line.machine.ending → Ready now old → Halved now old new way [] 0
rested_half now old new way e over r = record {
  passes = subst (λ (h : Half). Passes now old.line.machine h.line.machine []) (sym e) (record { last = inl refl; heard = inl refl; start = refl; config = refl });
  sent = subst (λ (h : Half). IsSent h) (sym e) (record { least = r.least; most = r.most; all = r.done over });
  over = λ some. subst (λ (h : Half). IsSome h.line.machine.ending) (sym e) some;
  hears = λ free going some. absurd (never_over old.line.machine.ending going over);
  counts = λ free going some. absurd (never_over old.line.machine.ending going over);
  speaks = λ free going est. absurd (never_over old.line.machine.ending going over);
}

initiator_half : (s : Session) (j : Joint) (w : World) (now : ℕ) (new : Half) (left sent : List ℕ) → (sh : Shows s j w) → Ready now j.initiator → j.acceptor.line.machine.unsent ≡ [] → InRound now s.outbox_i j.initiator new j.homeward left sent
    → InitiatorHalved s now j (record { initiator = new; acceptor = j.acceptor; outward = j.outward ++ sent; homeward = left }) w sh
initiator_half s j w now new left sent sh ready theirs turn = by_bool _ (is_some j.initiator.line.machine.ending) rested goes
  where
    k : Joint
    k = record { initiator = new; acceptor = j.acceptor; outward = j.outward ++ sent; homeward = left }

    hi : List Entry
    hi = s.outbox_i.made

    ha : List Entry
    ha = s.outbox_a.made

    rested : is_some j.initiator.line.machine.ending ≡ true → InitiatorHalved s now j k w sh
    rested over = record {
      world = w;
      n = 0;
      made = [];
      moves = moved s j k w w [] sh tt tt refl (subst (λ (h : Half). IsOn s.outbox_i s.course_i h w.initiator) (sym x.0) sh.initiator) sh.acceptor
          (subst (λ (h : Half). IsUnread w.outward h.line.machine j.acceptor.line.held (j.outward ++ sent)) (sym x.0)
          (subst (λ (bs : List ℕ). IsUnread w.outward j.initiator.line.machine j.acceptor.line.held bs) (sym (append-nil j.outward) ∙ ap (λ (bs : List ℕ). j.outward ++ bs) (sym x.2)) sh.outward))
          (subst (λ (h : Half). IsUnread w.homeward j.acceptor.line.machine h.line.held left) (sym x.0) (subst (λ (bs : List ℕ). IsUnread w.homeward j.acceptor.line.machine j.initiator.line.held bs) (sym x.1) sh.homeward)) tt;
      same = refl;
      says = sym (append-nil w.outward);
      half = rested_half now j.initiator new w.homeward x.0 over ready;
    }
      where
        x : (new ≡ j.initiator) × (left ≡ j.homeward) × (sent ≡ [])
        x = turn.rests over

    goes : is_some j.initiator.line.machine.ending ≡ false → InitiatorHalved s now j k w sh
    goes on_still = record {
      world = g.world;
      n = reads_in w (initiator_steps t.turn);
      made = written w.initiator (calls_of t.turn);
      moves = moved s j k w g.world (initiator_steps t.turn) sh g.may g.keeps g.there g.on (subst (λ (m : State). IsOn s.outbox_a s.course_a j.acceptor m) (sym g.acceptor) sh.acceptor)
          (subst (λ (bs : List ℕ). IsUnread g.world.outward new.line.machine j.acceptor.line.held (j.outward ++ bs)) x.1 g.outward) g.homeward times.timely;
      same = g.acceptor;
      says = g.says;
      half = record {
        passes = subst (λ (ps : List Piece). Passes now j.initiator.line.machine new.line.machine ps) (sym made_is) (turn_passes now j.initiator new j.homeward left t);
        sent = sent_then now j.initiator new j.homeward left t ready;
        over = λ some. absurd (never_over j.initiator.line.machine.ending going some);
        hears = λ free open_still some. times.hears free some;
        counts = λ free open_still some. times.reads free some;
        speaks = λ free open_still est. times.speaks free est;
      };
    }
      where
        going : j.initiator.line.machine.ending ≡ None
        going = none_is j.initiator.line.machine.ending on_still

        x : (t : TakesTurn now j.initiator new j.homeward left) × (sent_in t.turn ≡ sent) × BeginsHistory new.seen s.outbox_i
        x = turn.turns going

        t : TakesTurn now j.initiator new j.homeward left
        t = x.0

        g : Goes s.outbox_i ha s.course_i w new t.turn j.acceptor.line.machine j.acceptor.line.held j.outward left (beats_at j.initiator.line.machine now) (DueIn j.initiator w.initiator w.homeward now)
        g = turn_goes s.outbox_i ha s.course_i w now j.initiator new j.homeward left j.acceptor.line.machine j.acceptor.line.held j.outward
            (from_initiator hi ha s.start w sh.known sh.agreed (reached s j w sh)) sh.initiator sh.outward sh.homeward theirs going ready.least ready.most t x.2

        times : Times w now j.initiator new (initiator_steps t.turn)
        times = turn_times s.outbox_i ha s.course_i w now j.initiator new j.homeward left j.acceptor.line.machine sh.initiator sh.homeward theirs going ready.least ready.most t x.2 g.again (ready.in_time going) ready.some

        made_is : written w.initiator (calls_of t.turn) ≡ written j.initiator.line.machine (calls_of t.turn)
        made_is = let f = reserved_first t.turn t.sound in same_written w.initiator j.initiator.line.machine (calls_of t.turn) f.0 f.1 sh.initiator.goes.alike

acceptor_half : (s : Session) (j : Joint) (w : World) (now : ℕ) (new : Half) (left sent : List ℕ) → (sh : Shows s j w) → Ready now j.acceptor → j.initiator.line.machine.unsent ≡ [] → InRound now s.outbox_a j.acceptor new j.outward left sent
    → AcceptorHalved s now j (record { initiator = j.initiator; acceptor = new; outward = left; homeward = j.homeward ++ sent }) w sh
acceptor_half s j w now new left sent sh ready theirs turn = by_bool _ (is_some j.acceptor.line.machine.ending) rested goes
  where
    k : Joint
    k = record { initiator = j.initiator; acceptor = new; outward = left; homeward = j.homeward ++ sent }

    hi : List Entry
    hi = s.outbox_i.made

    ha : List Entry
    ha = s.outbox_a.made

    rested : is_some j.acceptor.line.machine.ending ≡ true → AcceptorHalved s now j k w sh
    rested over = record {
      world = w;
      n = 0;
      made = [];
      moves = moved s j k w w [] sh tt tt refl sh.initiator (subst (λ (h : Half). IsOn s.outbox_a s.course_a h w.acceptor) (sym x.0) sh.acceptor)
          (subst (λ (h : Half). IsUnread w.outward j.initiator.line.machine h.line.held left) (sym x.0) (subst (λ (bs : List ℕ). IsUnread w.outward j.initiator.line.machine j.acceptor.line.held bs) (sym x.1) sh.outward))
          (subst (λ (h : Half). IsUnread w.homeward h.line.machine j.initiator.line.held (j.homeward ++ sent)) (sym x.0)
          (subst (λ (bs : List ℕ). IsUnread w.homeward j.acceptor.line.machine j.initiator.line.held bs) (sym (append-nil j.homeward) ∙ ap (λ (bs : List ℕ). j.homeward ++ bs) (sym x.2)) sh.homeward)) tt;
      same = refl;
      says = sym (append-nil w.homeward);
      half = rested_half now j.acceptor new w.outward x.0 over ready;
    }
      where
        x : (new ≡ j.acceptor) × (left ≡ j.outward) × (sent ≡ [])
        x = turn.rests over

    goes : is_some j.acceptor.line.machine.ending ≡ false → AcceptorHalved s now j k w sh
    goes on_still = record {
      world = turned g.world;
      n = reads_in w (map turned_step (initiator_steps t.turn));
      made = written w.acceptor (calls_of t.turn);
      moves = moved s j k w (turned g.world) (map turned_step (initiator_steps t.turn)) sh back.may (turned_keeps (initiator_steps t.turn) g.keeps) back.there
          (subst (λ (m : State). IsOn s.outbox_i s.course_i j.initiator m) (sym g.acceptor) sh.initiator) g.on g.homeward
          (subst (λ (bs : List ℕ). IsUnread g.world.outward new.line.machine j.initiator.line.held (j.homeward ++ bs)) x.1 g.outward) (timely_turned (turned w) (initiator_steps t.turn) times.timely);
      same = g.acceptor;
      says = g.says;
      half = record {
        passes = subst (λ (ps : List Piece). Passes now j.acceptor.line.machine new.line.machine ps) (sym made_is) (turn_passes now j.acceptor new j.outward left t);
        sent = sent_then now j.acceptor new j.outward left t ready;
        over = λ some. absurd (never_over j.acceptor.line.machine.ending going some);
        hears = λ free open_still some. times.hears free some;
        counts = λ free open_still some. let a = times.reads free some in let e = reads_turned (turned w) (initiator_steps t.turn) in omega (arith, a, e);
        speaks = λ free open_still est. times.speaks free est;
      };
    }
      where
        going : j.acceptor.line.machine.ending ≡ None
        going = none_is j.acceptor.line.machine.ending on_still

        x : (t : TakesTurn now j.acceptor new j.outward left) × (sent_in t.turn ≡ sent) × BeginsHistory new.seen s.outbox_a
        x = turn.turns going

        t : TakesTurn now j.acceptor new j.outward left
        t = x.0

        g : Goes s.outbox_a hi s.course_a (turned w) new t.turn j.initiator.line.machine j.initiator.line.held j.homeward left (beats_at j.acceptor.line.machine now) (DueIn j.acceptor w.acceptor w.outward now)
        g = turn_goes s.outbox_a hi s.course_a (turned w) now j.acceptor new j.outward left j.initiator.line.machine j.initiator.line.held j.homeward
            (from_acceptor hi ha s.start w sh.known sh.agreed (reached s j w sh)) sh.acceptor sh.homeward sh.outward theirs going ready.least ready.most t x.2

        back : Reaches hi ha w (turned g.world)
        back = reaches_turned ha hi (turned w) g.world (record { steps = initiator_steps t.turn; may = g.may; there = g.there })

        times : Times (turned w) now j.acceptor new (initiator_steps t.turn)
        times = turn_times s.outbox_a hi s.course_a (turned w) now j.acceptor new j.outward left j.initiator.line.machine sh.acceptor sh.outward theirs going ready.least ready.most t x.2 g.again (ready.in_time going) ready.some

        made_is : written w.acceptor (calls_of t.turn) ≡ written j.acceptor.line.machine (calls_of t.turn)
        made_is = let f = reserved_first t.turn t.sound in same_written w.acceptor j.acceptor.line.machine (calls_of t.turn) f.0 f.1 sh.acceptor.goes.alike

-- What stands of one direction, where the connection began at the first of these moments: the reader has heard all that its writer wrote where nothing is under way, and so no
-- longer ago than the writer's interval; where something is, a millisecond longer ago at most
record Heard (first now : ℕ) (writer reader : State) (way : List Piece) : Type 0 where
  wrote_from : first ≤ writer.last_sent
  wrote_to : writer.last_sent ≤ now
  heard_from : first ≤ reader.last_received
  heard_to : reader.last_received ≤ now
  all_heard : reader.ending ≡ None → way ≡ [] → writer.last_sent ≤ reader.last_received
  recent : reader.ending ≡ None → now ≤ reader.last_received + writer.config.keepalive + 1
  recent_heard : reader.ending ≡ None → way ≡ [] → now ≤ reader.last_received + writer.config.keepalive

abbrev InRange : ℕ → Type 0
InRange k = (100 ≤ k) × (k ≤ 60000)

-- between two rounds of a connection that began at the first of these moments
record Timed (s : Session) (first now : ℕ) (j : Joint) (w : World) : Type 0 where
  shows : Shows s j w
  timely : Timely s j w shows
  least : 4 ≤ j.initiator.line.per_turn
  most : j.initiator.line.per_turn ≤ 256
  done : IsSome j.initiator.line.machine.ending → j.initiator.line.machine.unsent ≡ []
  ready : ((now ≡ first) × (w.homeward ≡ [])) ⊎ (j.initiator.line.machine.unsent ≡ [])
  acceptor : IsSent j.acceptor
  started_i : j.initiator.line.machine.start ≡ first
  started_a : j.acceptor.line.machine.start ≡ first
  range_i : InRange j.initiator.line.machine.config.keepalive
  range_a : InRange j.acceptor.line.machine.config.keepalive
  clock : Opened w ⊎ (now ≤ first + reads_of s j w shows)
  outward : Heard first now j.initiator.line.machine j.acceptor.line.machine w.outward
  homeward : Heard first now j.acceptor.line.machine j.initiator.line.machine w.homeward

-- where the handshake stands
data Stands (s : Session) (first now : ℕ) (w : World) : Type 0 where
  opening : (left : ℕ) → Opening w left → now ≤ first + 3 → Stands s first now w
  opened : Opened w → Stands s first now w

shaken_twice : (w : World) (left : ℕ) → Opening w left → Opened w → ⊥
shaken_twice w left a b = true≢false (sym b.initiator ∙ a.unshaken)

stands : (s : Session) (first now : ℕ) (j : Joint) (w : World) → Timed s first now j w → Stands s first now w
stands s first now j w t = by_law (opening_holds s.outbox_i.made s.outbox_a.made s.start sh.now_i sh.now_a sh.later sh.known sh.agreed sh.may sh.keeps t.timely)
  where
    sh : Shows s j w
    sh = t.shows

    by_clock : (left : ℕ) → Opening w left → left + reads_of s j w sh ≤ 4 → Opened w ⊎ (now ≤ first + reads_of s j w sh) → Stands s first now w
    by_clock left a few (inl b) = opened b
    by_clock left a few (inr c) = let some = a.some in opening left a (omega (arith, few, c, some))

    by_law : ((left : ℕ) × Opening (world_after s.start (meets sh.now_i sh.now_a ∷ sh.later)) left × (left + reads_of s j w sh ≤ 4)) ⊎ Opened (world_after s.start (meets sh.now_i sh.now_a ∷ sh.later)) → Stands s first now w
    by_law (inl k) = by_clock k.0 (subst (λ (v : World). Opening v k.0) sh.there k.1) k.2 t.clock
    by_law (inr o) = opened (subst (λ (v : World). Opened v) sh.there o)

-- an end that is neither late nor behind silence
not_late : (m : State) (now : ℕ) → (is_shaken m.facts.connection.phase ≡ true → now - m.last_received < 3 * m.facts.connection.peer_interval) → (is_shaken m.facts.connection.phase ≡ false → now - m.start < 10000) → late_at now m ≡ None
not_late m now heard early = by_phase (is_shaken m.facts.connection.phase) refl
  where
    by_silence : (b : Bool) → nat_le (3 * m.facts.connection.peer_interval) (now - m.last_received) ≡ b → now - m.last_received < 3 * m.facts.connection.peer_interval → (if b then Some (Silent m.last_received now) else None) ≡ None
    by_silence true e few = let long = leb-true (3 * m.facts.connection.peer_interval) (now - m.last_received) e in absurd (omega (arith, long, few))
    by_silence false e few = refl

    by_start : (b : Bool) → nat_le handshake_limit (now - m.start) ≡ b → now - m.start < 10000 → (if b then Some (HandshakeLate m.start now) else None) ≡ None
    by_start true e few = let long = leb-true handshake_limit (now - m.start) e in absurd (omega (arith, long, few))
    by_start false e few = refl

    by_phase : (b : Bool) → is_shaken m.facts.connection.phase ≡ b
        → (if b then (if nat_le (3 * m.facts.connection.peer_interval) (now - m.last_received) then Some (Silent m.last_received now) else None)
        else (if nat_le handshake_limit (now - m.start) then Some (HandshakeLate m.start now) else None)) ≡ None
    by_phase true e = by_silence (nat_le (3 * m.facts.connection.peer_interval) (now - m.last_received)) refl (heard e)
    by_phase false e = by_start (nat_le handshake_limit (now - m.start)) refl (early e)

clamped : (k : ℕ) → InRange k → min 60000 (max 100 k) ≡ k
clamped k r = let a = r.0 in let b = r.1 in omega (arith, a, b)

-- an end that heard of the other within its interval and a millisecond
recent_enough : (now last interval keepalive : ℕ) → now ≤ last + keepalive + 1 → interval ≡ keepalive → 100 ≤ keepalive → now - last < 3 * interval
recent_enough now last interval keepalive a b c = omega (arith, a, b, c)

early_enough : (now start first : ℕ) → now ≤ first + 3 → start ≡ first → now - start < 10000
early_enough now start first a b = omega (arith, a, b)

initiator_in_time : (s : Session) (first now : ℕ) (j : Joint) (w : World) → Timed s first now j w → j.initiator.line.machine.ending ≡ None → late_at now j.initiator.line.machine ≡ None
initiator_in_time s first now j w t going = by_stage (stands s first now j w t)
  where
    m : State
    m = j.initiator.line.machine

    facts_is : w.initiator.facts ≡ m.facts
    facts_is = facts_are j.initiator w.initiator t.shows.initiator

    same_a : w.acceptor.config ≡ j.acceptor.line.machine.config
    same_a = ap (λ (x : State). x.config) t.shows.acceptor.goes.alike

    by_stage : Stands s first now w → late_at now m ≡ None
    by_stage (opening left a early) = not_late m now
        (λ done. absurd (true≢false (sym done ∙ (ap (λ (f : Facts). is_shaken f.connection.phase) (sym facts_is) ∙ a.unshaken))))
        (λ _. early_enough now m.start first early t.started_i)
    by_stage (opened o) = not_late m now
        (λ _. recent_enough now m.last_received m.facts.connection.peer_interval j.acceptor.line.machine.config.keepalive (t.homeward.recent going)
        (ap (λ (f : Facts). f.connection.peer_interval) (sym facts_is) ∙ (o.of_acceptor ∙ (ap (λ (c : EndConfig). min 60000 (max 100 c.keepalive)) same_a ∙ clamped j.acceptor.line.machine.config.keepalive t.range_a))) t.range_a.0)
        (λ before. absurd (true≢false (sym (ap (λ (f : Facts). is_shaken f.connection.phase) (sym facts_is) ∙ o.initiator) ∙ before)))

acceptor_in_time : (s : Session) (first now : ℕ) (j : Joint) (w : World) → Timed s first now j w → j.acceptor.line.machine.ending ≡ None → late_at now j.acceptor.line.machine ≡ None
acceptor_in_time s first now j w t going = by_stage (stands s first now j w t)
  where
    m : State
    m = j.acceptor.line.machine

    facts_is : w.acceptor.facts ≡ m.facts
    facts_is = facts_are j.acceptor w.acceptor t.shows.acceptor

    same_i : w.initiator.config ≡ j.initiator.line.machine.config
    same_i = ap (λ (x : State). x.config) t.shows.initiator.goes.alike

    heard : w.acceptor.facts.connection.peer_interval ≡ w.initiator.config.keepalive → now - m.last_received < 3 * m.facts.connection.peer_interval
    heard e = recent_enough now m.last_received m.facts.connection.peer_interval j.initiator.line.machine.config.keepalive (t.outward.recent going)
        (ap (λ (f : Facts). f.connection.peer_interval) (sym facts_is) ∙ (e ∙ ap (λ (c : EndConfig). c.keepalive) same_i)) t.range_i.0

    by_stage : Stands s first now w → late_at now m ≡ None
    by_stage (opening left a early) = not_late m now (λ done. heard (a.interval (ap (λ (f : Facts). is_shaken f.connection.phase) facts_is ∙ done))) (λ _. early_enough now m.start first early t.started_a)
    by_stage (opened o) = not_late m now (λ _. heard o.of_initiator)
        (λ before. absurd (true≢false (sym (ap (λ (q : Phase). is_shaken q) (ap (λ (f : Facts). f.connection.phase) (sym facts_is) ∙ o.acceptor)) ∙ before)))

-- the moment of an end behind its half of a round
from_then : (first now : ℕ) (a b : ℕ) (n : ℕ) → (b ≡ a) ⊎ ((b ≡ now) × (1 ≤ n)) → first ≤ a → a ≤ now → (first ≤ b) × (b ≤ now)
from_then first now a b n (inl e) low high = (omega (arith, e, low), omega (arith, e, high))
from_then first now a b n (inr e) low high = let f = e.0 in (omega (arith, f, low, high), omega (arith, f))

heard_then : (first now : ℕ) (a b : ℕ) → (b ≡ a) ⊎ (b ≡ now) → first ≤ a → a ≤ now → first ≤ b
heard_then first now a b (inl e) low high = omega (arith, e, low)
heard_then first now a b (inr e) low high = omega (arith, e, low, high)

heard_till : (now : ℕ) (a b : ℕ) → (b ≡ a) ⊎ (b ≡ now) → a ≤ now → b ≤ now
heard_till now a b (inl e) high = omega (arith, e, high)
heard_till now a b (inr e) high = omega (arith, e)

no_less : (now : ℕ) (a b : ℕ) → (b ≡ a) ⊎ (b ≡ now) → a ≤ now → a ≤ b
no_less now a b (inl e) high = omega (arith, e)
no_less now a b (inr e) high = omega (arith, e, high)

-- where nothing was written, the moment of the last message stays
same_sent : (now : ℕ) (a b : ℕ) (made : List Piece) → (b ≡ a) ⊎ ((b ≡ now) × (1 ≤ length made)) → made ≡ [] → b ≡ a
same_sent now a b made (inl e) none = e
same_sent now a b made (inr e) none = let some = e.1 in let size = ap length none in absurd (omega (arith, some, size))

-- a way to which pieces were added is empty only where it was and none were
empty_parts : (a b c : List Piece) → c ≡ a ++ b → c ≡ [] → (a ≡ []) × (b ≡ [])
empty_parts [] b c e none = (refl, sym e ∙ none)
empty_parts (p ∷ a) b c e none = absurd (cc (sym e ∙ none))

some_of : (way : List Piece) (P : Type 0) → (way ≡ [] → P) → (1 ≤ length way → P) → P
some_of [] P none some = none refl
some_of (p ∷ way) P none some = some (omega arith)

told_at : (s : Session) (j : Joint) (w : World) → Shows s j w → BothTold w
told_at s j w sh = subst (λ (v : World). BothTold v) sh.there (ends_are_told s.outbox_i.made s.outbox_a.made s.start [] sh.later sh.now_i sh.now_a sh.known sh.may sh.keeps)

none_told : (way : List Piece) → way ≡ [] → 1 ≤ under_way shutting way → ⊥
none_told way none some = let e = ap (λ (ps : List Piece). under_way shutting ps) none in omega (arith, e, some)

not_established : (p : Phase) → is_shaken p ≡ true → is_established p ≡ false → is_closing p ≡ true
not_established p done not = by_two (is_established p) (is_closing p) done not
  where
    by_two : (a b : Bool) → (a || b) ≡ true → a ≡ false → b ≡ true
    by_two true b e k = absurd (true≢false k)
    by_two false b e k = e

still_going : (o p : Option Ending) → (IsSome o → IsSome p) → p ≡ None → o ≡ None
still_going None p over none = refl
still_going (Some x) p over none = absurd (never_over p none (over refl))

-- a way with a piece is not empty
some_not : (way later : List Piece) (p : Piece) → way ≡ p ∷ later → way ≡ [] → ⊥
some_not way later p e none = cc (sym e ∙ none)

-- A round of ends that have looked at their outboxes
record Rounded (s : Session) (first now : ℕ) (k : Joint) : Type 0 where
  world : World
  timed : Timed s first (now + 1) k world

timed_round : (s : Session) (first now : ℕ) (j : Joint) (w : World) (i a : Half) (left outward sent_i sent_a : List ℕ) → first ≤ now → Timed s first now j w
    → InRound now s.outbox_i j.initiator i j.homeward left sent_i → InRound now s.outbox_a j.acceptor a (j.outward ++ sent_i) outward sent_a
    → Rounded s first now (record { initiator = i; acceptor = a; outward = outward; homeward = left ++ sent_a })
timed_round s first now j w i a left outward sent_i sent_a since t turns_i turns_a = record {
  world = v;
  timed = record {
    shows = y.moves.shows;
    timely = y.moves.timely (x.moves.timely t.timely);
    least = x.half.sent.least;
    most = x.half.sent.most;
    done = λ _. x.half.sent.all;
    ready = inr x.half.sent.all;
    acceptor = y.half.sent;
    started_i = x.half.passes.start ∙ t.started_i;
    started_a = y.half.passes.start ∙ t.started_a;
    range_i = subst (λ (c : EndConfig). InRange c.keepalive) (sym x.half.passes.config) t.range_i;
    range_a = subst (λ (c : EndConfig). InRange c.keepalive) (sym y.half.passes.config) t.range_a;
    clock = clock;
    outward = heard_outward;
    homeward = heard_homeward;
  };
}
  where
    mi : State
    mi = j.initiator.line.machine

    ma : State
    ma = j.acceptor.line.machine

    ki : State
    ki = i.line.machine

    ka : State
    ka = a.line.machine

    late_i : mi.ending ≡ None → late_at now mi ≡ None
    late_i going = initiator_in_time s first now j w t going

    late_a : ma.ending ≡ None → late_at now ma ≡ None
    late_a going = acceptor_in_time s first now j w t going

    ready_i : Ready now j.initiator
    ready_i = record { least = t.least; most = t.most; done = t.done; in_time = late_i; some = let r = t.range_i.0 in omega (arith, r) }

    ready_a : Ready now j.acceptor
    ready_a = record { least = t.acceptor.least; most = t.acceptor.most; done = λ _. t.acceptor.all; in_time = late_a; some = let r = t.range_a.0 in omega (arith, r) }

    midway : Joint
    midway = record { initiator = i; acceptor = j.acceptor; outward = j.outward ++ sent_i; homeward = left }

    x : InitiatorHalved s now j midway w t.shows
    x = initiator_half s j w now i left sent_i t.shows ready_i t.acceptor.all turns_i

    u : World
    u = x.world

    y : AcceptorHalved s now midway (record { initiator = i; acceptor = a; outward = outward; homeward = left ++ sent_a }) u x.moves.shows
    y = acceptor_half s midway u now a outward sent_a x.moves.shows ready_a x.half.sent.all turns_a

    v : World
    v = y.world

    ending_i : w.initiator.ending ≡ mi.ending
    ending_i = ending_is j.initiator w.initiator t.shows.initiator

    ending_a : w.acceptor.ending ≡ ma.ending
    ending_a = ending_is j.acceptor w.acceptor t.shows.acceptor

    ending_u : u.initiator.ending ≡ ki.ending
    ending_u = ending_is i u.initiator x.moves.shows.initiator

    ending_v : v.acceptor.ending ≡ ka.ending
    ending_v = ending_is a v.acceptor y.moves.shows.acceptor

    free_a : ma.ending ≡ None → IsFree j.acceptor now
    free_a going = record { sent = t.acceptor.all; in_time = late_a going }

    free_i : mi.ending ≡ None → mi.unsent ≡ [] → IsFree j.initiator now
    free_i going sent = record { sent = sent; in_time = late_i going }

    over_is : (o p : Option Ending) → o ≡ p → IsSome p → IsSome o
    over_is o p e some = ap (λ (q : Option Ending). is_some q) e ∙ some

    -- the initiator has spoken, or its handshake is not done
    Spoken : State → Type 0
    Spoken m = (now + 1 ≤ m.last_sent + m.config.keepalive) ⊎ (now ≤ first + 3)

    at_start : now ≡ first → now ≤ first + 3
    at_start e = omega (arith, e)

    spoken_i : u.outward ≡ [] → ma.ending ≡ None → Spoken ki
    spoken_i none going_a = by_stage (stands s first now j w t)
      where
        parts : (w.outward ≡ []) × (x.made ≡ [])
        parts = empty_parts w.outward x.made u.outward x.says none

        ended : IsSome ki.ending → ⊥
        ended some = by_told ((told_at s midway u x.moves.shows).outward (inl (over_is u.initiator.ending ki.ending ending_u some)))
          where
            by_told : (1 ≤ under_way shutting u.outward) ⊎ IsSome u.acceptor.ending → ⊥
            by_told (inl one) = none_told u.outward none one
            by_told (inr over) = never_over u.acceptor.ending (ap (λ (m : State). m.ending) x.same ∙ (ending_a ∙ going_a)) over

        closing : is_closing w.initiator.facts.connection.phase ≡ true → ⊥
        closing shut = by_told ((told_at s j w t.shows).outward (inr shut))
          where
            by_told : (1 ≤ under_way shutting w.outward) ⊎ IsSome w.acceptor.ending → ⊥
            by_told (inl one) = none_told w.outward parts.0 one
            by_told (inr over) = never_over w.acceptor.ending (ending_a ∙ going_a) over

        by_speech : (now + 1 ≤ ki.last_sent + mi.config.keepalive) ⊎ IsSome ki.ending → Spoken ki
        by_speech (inl e) = let k = ap (λ (c : EndConfig). c.keepalive) x.half.passes.config in inl (omega (arith, e, k))
        by_speech (inr over) = absurd (ended over)

        by_phase : Opened w → mi.ending ≡ None → mi.unsent ≡ [] → (b : Bool) → is_established mi.facts.connection.phase ≡ b → Spoken ki
        by_phase o going sent true est = by_speech (x.half.speaks (free_i going sent) going est)
        by_phase o going sent false not = absurd (closing (not_established w.initiator.facts.connection.phase o.initiator (ap (λ (f : Facts). is_established f.connection.phase) (facts_are j.initiator w.initiator t.shows.initiator) ∙ not)))

        by_ready : Opened w → mi.ending ≡ None → ((now ≡ first) × (w.homeward ≡ [])) ⊎ (mi.unsent ≡ []) → Spoken ki
        by_ready o going (inl early) = inr (at_start early.0)
        by_ready o going (inr sent) = by_phase o going sent (is_established mi.facts.connection.phase) refl

        by_end : Opened w → (b : Bool) → is_some mi.ending ≡ b → Spoken ki
        by_end o true over = absurd (ended (x.half.over over))
        by_end o false on_still = by_ready o (none_is mi.ending on_still) t.ready

        by_stage : Stands s first now w → Spoken ki
        by_stage (opening l op early) = inr early
        by_stage (opened o) = by_end o (is_some mi.ending) refl

    spoken_a : v.homeward ≡ [] → ki.ending ≡ None → Spoken ka
    spoken_a none going_i = by_stage (stands s first now j w t)
      where
        parts : (u.homeward ≡ []) × (y.made ≡ [])
        parts = empty_parts u.homeward y.made v.homeward y.says none

        ended : IsSome ka.ending → ⊥
        ended some = by_told ((told_at s (record { initiator = i; acceptor = a; outward = outward; homeward = left ++ sent_a }) v y.moves.shows).homeward (inl (over_is v.acceptor.ending ka.ending ending_v some)))
          where
            by_told : (1 ≤ under_way shutting v.homeward) ⊎ IsSome v.initiator.ending → ⊥
            by_told (inl one) = none_told v.homeward none one
            by_told (inr over) = never_over v.initiator.ending (ap (λ (m : State). m.ending) y.same ∙ (ending_u ∙ going_i)) over

        by_speech : (now + 1 ≤ ka.last_sent + ma.config.keepalive) ⊎ IsSome ka.ending → Spoken ka
        by_speech (inl e) = let k = ap (λ (c : EndConfig). c.keepalive) y.half.passes.config in inl (omega (arith, e, k))
        by_speech (inr over) = absurd (ended over)

        by_end : Opened w → (b : Bool) → is_some ma.ending ≡ b → Spoken ka
        by_end o true over = absurd (ended (y.half.over over))
        by_end o false on_still = by_speech (y.half.speaks (free_a (none_is ma.ending on_still)) (none_is ma.ending on_still)
            (ap (λ (q : Phase). is_established q) (ap (λ (f : Facts). f.connection.phase) (sym (facts_are j.acceptor w.acceptor t.shows.acceptor)) ∙ o.acceptor)))

        by_stage : Stands s first now w → Spoken ka
        by_stage (opening l op early) = inr early
        by_stage (opened o) = by_end o (is_some ma.ending) refl

    -- one that heard of the other just now, or where nothing was under way and the other has spoken
    now_heard : (n lr k : ℕ) → lr ≡ n → n + 1 ≤ lr + k + 1
    now_heard n lr k e = omega (arith, e)

    now_near : (n lr k : ℕ) → lr ≡ n → 100 ≤ k → n + 1 ≤ lr + k
    now_near n lr k e f = omega (arith, e, f)

    near : (m : State) (lr : ℕ) → Spoken m → m.last_sent ≤ lr → first ≤ lr → 100 ≤ m.config.keepalive → now + 1 ≤ lr + m.config.keepalive
    near m lr (inl e) few low least = omega (arith, e, few)
    near m lr (inr e) few low least = omega (arith, e, low, least)

    more : (n k : ℕ) → n ≤ k → n ≤ k + 1
    more n k e = omega (arith, e)

    on_next : (a n : ℕ) → a ≤ n → a ≤ n + 1
    on_next a n e = omega (arith, e)

    wrote_by_i : (first ≤ ki.last_sent) × (ki.last_sent ≤ now)
    wrote_by_i = from_then first now mi.last_sent ki.last_sent (length x.made) x.half.passes.last t.outward.wrote_from t.outward.wrote_to

    wrote_by_a : (first ≤ ka.last_sent) × (ka.last_sent ≤ now)
    wrote_by_a = from_then first now ma.last_sent ka.last_sent (length y.made) y.half.passes.last t.homeward.wrote_from t.homeward.wrote_to

    least_i : 100 ≤ ki.config.keepalive
    least_i = subst (λ (c : EndConfig). 100 ≤ c.keepalive) (sym x.half.passes.config) t.range_i.0

    least_a : 100 ≤ ka.config.keepalive
    least_a = subst (λ (c : EndConfig). 100 ≤ c.keepalive) (sym y.half.passes.config) t.range_a.0

    heard_a : first ≤ ka.last_received
    heard_a = heard_then first now ma.last_received ka.last_received y.half.passes.heard t.outward.heard_from t.outward.heard_to

    heard_i : first ≤ ki.last_received
    heard_i = heard_then first now mi.last_received ki.last_received x.half.passes.heard t.homeward.heard_from t.homeward.heard_to

    heard_outward : Heard first (now + 1) ki ka v.outward
    heard_outward = record {
      wrote_from = wrote_by_i.0;
      wrote_to = on_next ki.last_sent now wrote_by_i.1;
      heard_from = heard_a;
      heard_to = on_next ka.last_received now (heard_till now ma.last_received ka.last_received y.half.passes.heard t.outward.heard_to);
      all_heard = λ going _. all_heard (was going);
      recent = λ going. some_of u.outward _ (λ none. more (now + 1) (ka.last_received + ki.config.keepalive) (near ki ka.last_received (spoken_i none (was going)) (all_heard (was going)) heard_a least_i))
          (λ some. now_heard now ka.last_received ki.config.keepalive (y.half.hears (free_a (was going)) (was going) some));
      recent_heard = λ going _. some_of u.outward _ (λ none. near ki ka.last_received (spoken_i none (was going)) (all_heard (was going)) heard_a least_i)
          (λ some. now_near now ka.last_received ki.config.keepalive (y.half.hears (free_a (was going)) (was going) some) least_i);
    }
      where
        was : ka.ending ≡ None → ma.ending ≡ None
        was going = still_going ma.ending ka.ending y.half.over going

        all_heard : ma.ending ≡ None → ki.last_sent ≤ ka.last_received
        all_heard going = some_of u.outward _
            (λ none. let p = empty_parts w.outward x.made u.outward x.says none in
            let e = same_sent now mi.last_sent ki.last_sent x.made x.half.passes.last p.1 in
            let f = t.outward.all_heard going p.0 in
            let g = no_less now ma.last_received ka.last_received y.half.passes.heard t.outward.heard_to in
            omega (arith, e, f, g))
            (λ some. let e = y.half.hears (free_a going) going some in let f = wrote_by_i.1 in omega (arith, e, f))

    heard_homeward : Heard first (now + 1) ka ki v.homeward
    heard_homeward = record {
      wrote_from = wrote_by_a.0;
      wrote_to = on_next ka.last_sent now wrote_by_a.1;
      heard_from = heard_i;
      heard_to = on_next ki.last_received now (heard_till now mi.last_received ki.last_received x.half.passes.heard t.homeward.heard_to);
      all_heard = λ going none. all_heard (was going) none;
      recent = λ going. some_of w.homeward _
          (λ none. let e = t.homeward.recent_heard (was going) none in
          let f = no_less now mi.last_received ki.last_received x.half.passes.heard t.homeward.heard_to in
          let g = ap (λ (c : EndConfig). c.keepalive) y.half.passes.config in
          omega (arith, e, f, g))
          (λ some. now_heard now ki.last_received ka.config.keepalive (hears (was going) some));
      recent_heard = λ going none. some_of w.homeward _ (λ _. near ka ki.last_received (spoken_a none going) (all_heard (was going) none) heard_i least_a)
          (λ some. now_near now ki.last_received ka.config.keepalive (hears (was going) some) least_a);
    }
      where
        was : ki.ending ≡ None → mi.ending ≡ None
        was going = still_going mi.ending ki.ending x.half.over going

        hears : mi.ending ≡ None → 1 ≤ length w.homeward → ki.last_received ≡ now
        hears going some = by_ready t.ready
          where
            by_ready : ((now ≡ first) × (w.homeward ≡ [])) ⊎ (mi.unsent ≡ []) → ki.last_received ≡ now
            by_ready (inl early) = let e = ap length early.1 in absurd (omega (arith, e, some))
            by_ready (inr sent) = x.half.hears (free_i going sent) going some

        all_heard : mi.ending ≡ None → v.homeward ≡ [] → ka.last_sent ≤ ki.last_received
        all_heard going none = some_of w.homeward _
            (λ empty. let p = empty_parts u.homeward y.made v.homeward y.says none in
            let e = same_sent now ma.last_sent ka.last_sent y.made y.half.passes.last p.1 in
            let f = t.homeward.all_heard going empty in
            let g = no_less now mi.last_received ki.last_received x.half.passes.heard t.homeward.heard_to in
            omega (arith, e, f, g))
            (λ some. let e = hears going some in let f = wrote_by_a.1 in omega (arith, e, f))

    clock : Opened v ⊎ (now + 1 ≤ first + reads_of s (record { initiator = i; acceptor = a; outward = outward; homeward = left ++ sent_a }) v y.moves.shows)
    clock = by_stage (stands s first now j w t)
      where
        by_reads : (1 ≤ x.n) ⊎ (1 ≤ y.n) → Opened w ⊎ (now ≤ first + reads_of s j w t.shows) → Opened v ⊎ (now + 1 ≤ first + reads_of s (record { initiator = i; acceptor = a; outward = outward; homeward = left ++ sent_a }) v y.moves.shows)
        by_reads one (inl o) = inl (y.moves.opened (x.moves.opened o))
        by_reads (inl one) (inr c) = let e = x.moves.reads in let f = y.moves.reads in inr (omega (arith, one, c, e, f))
        by_reads (inr one) (inr c) = let e = x.moves.reads in let f = y.moves.reads in inr (omega (arith, one, c, e, f))

        by_awaited : (l : ℕ) → Opening w l → (1 ≤ x.n) ⊎ (1 ≤ y.n)
        by_awaited l op = by_way op.awaited
          where
            by_way : Awaited w l → (1 ≤ x.n) ⊎ (1 ≤ y.n)
            by_way (by_acceptor m out home count unshaken) =
                let going = sym ending_a ∙ op.acceptor in
                inr (y.half.counts (free_a going) going (let e = ap length x.says in let f = length-append w.outward x.made in let g = ap length out in omega (arith, e, f, g)))
            by_way (by_initiator m later out home count alone) = by_ready t.ready
              where
                going : mi.ending ≡ None
                going = sym ending_i ∙ op.initiator

                by_ready : ((now ≡ first) × (w.homeward ≡ [])) ⊎ (mi.unsent ≡ []) → (1 ≤ x.n) ⊎ (1 ≤ y.n)
                by_ready (inl early) = absurd (cc (sym home ∙ early.1))
                by_ready (inr sent) = inl (x.half.counts (free_i going sent) going (let e = ap length home in omega (arith, e)))

        by_stage : Stands s first now w → Opened v ⊎ (now + 1 ≤ first + reads_of s (record { initiator = i; acceptor = a; outward = outward; homeward = left ++ sent_a }) v y.moves.shows)
        by_stage (opened o) = inl (y.moves.opened (x.moves.opened o))
        by_stage (opening l op early) = by_reads (by_awaited l op) t.clock

-- ends that have found more of their outboxes
found_timed : (s : Session) (first now : ℕ) (j k : Joint) (w : World) (r : Round s now j k) → Timed s first now j w → Timed s first now (found s now j k r) w
found_timed s first now j k w r t = record {
  shows = looks s now j k w t.shows r;
  timely = t.timely;
  least = subst (λ (l : Line). 4 ≤ l.per_turn) (sym r.finds_i.line) t.least;
  most = subst (λ (l : Line). l.per_turn ≤ 256) (sym r.finds_i.line) t.most;
  done = subst (λ (l : Line). IsSome l.machine.ending → l.machine.unsent ≡ []) (sym r.finds_i.line) t.done;
  ready = subst (λ (l : Line). ((now ≡ first) × (w.homeward ≡ [])) ⊎ (l.machine.unsent ≡ [])) (sym r.finds_i.line) t.ready;
  acceptor = sent_as j.acceptor r.acceptor r.finds_a.line t.acceptor;
  started_i = subst (λ (l : Line). l.machine.start ≡ first) (sym r.finds_i.line) t.started_i;
  started_a = subst (λ (l : Line). l.machine.start ≡ first) (sym r.finds_a.line) t.started_a;
  range_i = subst (λ (l : Line). InRange l.machine.config.keepalive) (sym r.finds_i.line) t.range_i;
  range_a = subst (λ (l : Line). InRange l.machine.config.keepalive) (sym r.finds_a.line) t.range_a;
  clock = t.clock;
  outward = subst (λ (l : Line). Heard first now l.machine r.acceptor.line.machine w.outward) (sym r.finds_i.line) (subst (λ (l : Line). Heard first now j.initiator.line.machine l.machine w.outward) (sym r.finds_a.line) t.outward);
  homeward = subst (λ (l : Line). Heard first now l.machine r.initiator.line.machine w.homeward) (sym r.finds_a.line) (subst (λ (l : Line). Heard first now j.acceptor.line.machine l.machine w.homeward) (sym r.finds_i.line) t.homeward);
}

round_timed : (s : Session) (first now : ℕ) (j k : Joint) (w : World) (r : Round s now j k) → first ≤ now → Timed s first now j w → Rounded s first now k
round_timed s first now j k w r since t = record {
  world = x.world;
  timed = subst (λ (bs : List ℕ). Timed s first (now + 1) (record { initiator = k.initiator; acceptor = k.acceptor; outward = k.outward; homeward = bs }) x.world) (sym r.home) x.timed;
}
  where
    x : Rounded s first now (record { initiator = k.initiator; acceptor = k.acceptor; outward = k.outward; homeward = r.left ++ r.sent_a })
    x = timed_round s first now (found s now j k r) w k.initiator k.acceptor r.left k.outward r.sent_i r.sent_a since (found_timed s first now j k w r t) r.turns_i r.turns_a

-- both are in time at each of some rounds
abbrev AreInTime : (now : ℕ) → Joint → List Joint → Type 0
AreInTime now j [] = ⊤
AreInTime now j (k ∷ later) = (IsInTime now j.initiator × IsInTime now j.acceptor) × AreInTime (now + 1) k later

all_timed : (s : Session) (first now : ℕ) (j : Joint) (w : World) (rounds : List Joint) → first ≤ now → Timed s first now j w → AreRounds s now j rounds → AreInTime now j rounds
all_timed s first now j w [] since t r = tt
all_timed s first now j w (k ∷ later) since t r =
    let x = round_timed s first now j k w r.0 since t in
    ((initiator_in_time s first now j w t, acceptor_in_time s first now j w t), all_timed s first (now + 1) k x.world later (next since) x.timed r.1)
  where
    next : first ≤ now → first ≤ now + 1
    next e = omega (arith, e)

-- where both begin
sent_at_once : (now : ℕ) (bytes : List ℕ) → sent_at now bytes now ≡ now
sent_at_once now [] = refl
sent_at_once now (b ∷ bytes) = refl

begins_timed : (s : Session) (now : ℕ) (j : Joint) (w : World) → BeginsAt s now j w → Timed s now now j w
begins_timed s now j w b = record {
  shows = sh;
  timely = subst (λ (l : List Step). AllInTime (after s.start (meets sh.now_i sh.now_a)) l) (sym b.begun.first) tt;
  least = b.begun.least;
  most = b.begun.most;
  done = λ over. absurd (never_over j.initiator.line.machine.ending b.begun.goes over);
  ready = inl (refl, home);
  acceptor = b.begun.acceptor;
  started_i = as_i (λ (m : State). m.start) ∙ b.moment_i;
  started_a = as_a (λ (m : State). m.start) ∙ b.moment_a;
  range_i = subst (λ (k : ℕ). InRange k) (sym (as_i (λ (m : State). m.config.keepalive))) matches.keepalive;
  range_a = (b.least, b.most);
  clock = inr (plus now (reads_of s j w sh));
  outward = record {
    wrote_from = let e = wrote_i in omega (arith, e);
    wrote_to = let e = wrote_i in omega (arith, e);
    heard_from = let e = heard_a in omega (arith, e);
    heard_to = let e = heard_a in omega (arith, e);
    all_heard = λ _ _. let e = wrote_i in let f = heard_a in omega (arith, e, f);
    recent = λ _. let f = heard_a in omega (arith, f);
    recent_heard = λ _ _. let f = heard_a in omega (arith, f);
  };
  homeward = record {
    wrote_from = let e = wrote_a in omega (arith, e);
    wrote_to = let e = wrote_a in omega (arith, e);
    heard_from = let e = heard_i in omega (arith, e);
    heard_to = let e = heard_i in omega (arith, e);
    all_heard = λ _ _. let e = wrote_a in let f = heard_i in omega (arith, e, f);
    recent = λ _. let f = heard_i in omega (arith, f);
    recent_heard = λ _ _. let f = heard_i in omega (arith, f);
  };
}
  where
    sh : Shows s j w
    sh = b.begun.shows

    there : after s.start (meets sh.now_i sh.now_a) ≡ w
    there = ap (λ (l : List Step). world_after s.start (meets sh.now_i sh.now_a ∷ l)) (sym b.begun.first) ∙ sh.there

    matches : Match s.start.initiator.config s.start.acceptor.config
    matches = sh.known.0.matches

    as_i : {A : Type 0} (f : State → A) → f (step j.initiator.line.machine reserve) ≡ f (step (after s.start (meets sh.now_i sh.now_a)).initiator reserve)
    as_i f = ap (λ (m : State). f m) (sym sh.initiator.goes.alike) ∙ ap (λ (v : World). f (step v.initiator reserve)) (sym there)

    as_a : {A : Type 0} (f : State → A) → f (step j.acceptor.line.machine reserve) ≡ f (step (after s.start (meets sh.now_i sh.now_a)).acceptor reserve)
    as_a f = ap (λ (m : State). f m) (sym sh.acceptor.goes.alike) ∙ ap (λ (v : World). f (step v.acceptor reserve)) (sym there)

    wrote_i : j.initiator.line.machine.last_sent ≡ now
    wrote_i = as_i (λ (m : State). m.last_sent) ∙ (sent_at_once sh.now_i (bytes_of (begun (around s.start.initiator 0 sh.now_i) s.start.initiator.facts.recorded).written) ∙ b.moment_i)

    wrote_a : j.acceptor.line.machine.last_sent ≡ now
    wrote_a = as_a (λ (m : State). m.last_sent) ∙ (sent_at_once sh.now_a (bytes_of (begun (around s.start.acceptor 0 sh.now_a) s.start.acceptor.facts.recorded).written) ∙ b.moment_a)

    heard_i : j.initiator.line.machine.last_received ≡ now
    heard_i = as_i (λ (m : State). m.last_received) ∙ b.moment_i

    heard_a : j.acceptor.line.machine.last_received ≡ now
    heard_a = as_a (λ (m : State). m.last_received) ∙ b.moment_a

    home : w.homeward ≡ []
    home = ap (λ (v : World). v.homeward) (sym there)
        ∙ ap (λ (ms : List Message). said_all ms) (acceptor_first (around s.start.acceptor 0 sh.now_a) s.start.acceptor.facts.recorded (ap (λ (r : Role). is_initiator r) matches.accepts)).silent

    plus : (n k : ℕ) → n ≤ n + k
    plus n k = omega arith

in_rounds : (s : Session) (now : ℕ) (j : Joint) (w : World) (rounds : List Joint) → BeginsAt s now j w → AreRounds s now j rounds → AreInTime now j rounds
in_rounds s now j w rounds b r = all_timed s now now j w rounds (same now) (begins_timed s now j w b) r
  where
    same : (n : ℕ) → n ≤ n
    same n = omega arith

-- an end that finds more of its outbox is as late as it was
found_in_time : (now : ℕ) (outbox : History) (old new : Half) → Finds outbox old new → IsInTime now old → IsInTime now new
found_in_time now outbox old new f time = subst (λ (l : Line). l.machine.ending ≡ None → lateness (around l.machine 0 now) l.machine.facts l.machine.start l.machine.last_received ≡ None) (sym f.line) time

as_timely : (s : Session) (now : ℕ) (j : Joint) (rounds : List Joint) → AreRounds s now j rounds → AreInTime now j rounds → AreTimely s now j rounds
as_timely s now j [] r t = tt
as_timely s now j (k ∷ later) r t =
    ((r.0, (found_in_time now s.outbox_i j.initiator r.0.initiator r.0.finds_i t.0.0, found_in_time now s.outbox_a j.acceptor r.0.acceptor r.0.finds_a t.0.1)), as_timely s (now + 1) k later r.1 t.1)

as_drain : (s : Session) (now : ℕ) (j : Joint) (rounds : List Joint) → AreSeen s now j rounds → AreInTime now j rounds → AreDrain s now j rounds
as_drain s now j [] r t = tt
as_drain s now j (k ∷ later) r t = (
  (r.0.0, record { time_i = found_in_time now s.outbox_i j.initiator r.0.0.initiator r.0.0.finds_i t.0.0; time_a = found_in_time now s.outbox_a j.acceptor r.0.0.acceptor r.0.0.finds_a t.0.1; sees = r.0.1 }),
  as_drain s (now + 1) k later r.1 t.1,
)

pub seen_rounds : (s : Session) (now : ℕ) (j : Joint) (rounds : List Joint) → AreSeen s now j rounds → AreRounds s now j rounds
seen_rounds s now j [] r = tt
seen_rounds s now j (k ∷ later) r = (r.0.0, seen_rounds s (now + 1) k later r.1)

-- rounds behind rounds
abbrev at_last : (now : ℕ) (rounds : List Joint) → ℕ
at_last now [] = now
at_last now (k ∷ later) = at_last (now + 1) later

at_last_is : (now : ℕ) (rounds : List Joint) → at_last now rounds ≡ now + length rounds
at_last_is now [] = zero_more now
  where
    zero_more : (n : ℕ) → n ≡ n + 0
    zero_more n = omega arith
at_last_is now (k ∷ later) = let e = at_last_is (now + 1) later in one_more (at_last (now + 1) later) now (length later) e
  where
    one_more : (a n l : ℕ) → a ≡ (n + 1) + l → a ≡ n + suc l
    one_more a n l e = omega (arith, e)

both_rounds : (s : Session) (now : ℕ) (j : Joint) (first later : List Joint) → AreRounds s now j first → AreRounds s (at_last now first) (last_of j first) later → AreRounds s now j (first ++ later)
both_rounds s now j [] later a b = b
both_rounds s now j (k ∷ first) later a b = (a.0, both_rounds s (now + 1) k first later a.1 b)

later_times : (now : ℕ) (j : Joint) (first later : List Joint) → AreInTime now j (first ++ later) → AreInTime (at_last now first) (last_of j first) later
later_times now j [] later t = t
later_times now j (k ∷ first) later t = later_times (now + 1) k first later t.1

pub stays_in_time : StaysInTime
stays_in_time s now j w rounds b r = as_timely s now j rounds r (in_rounds s now j w rounds b r)

pub drain_finishes : DrainFinishes
drain_finishes = record { within = within; ends = ends; begins = begins }
  where
    within : (s : Session) (now : ℕ) (j k : Joint) (w : World) (later : List Joint) → BeginsAt s now j w → AreRounds s now j (k ∷ later) → IsWithin s (last_of k later)
    within s now j k w later b r = beats_hold s now j k w later b.begun b.least (stays_in_time s now j w (k ∷ later) b r)

    begins : (s : Session) (now : ℕ) (j : Joint) (w : World) (drain : List Joint) → BeginsAt s now j w → AreSeen s now j drain → rounds_for (entries_of s) ≤ length drain → IsOver (last_of j drain)
    begins s now j w drain b seen enough = drain_suffices.begins s now j w drain b.begun (as_drain s now j drain seen (in_rounds s now j w drain b (seen_rounds s now j drain seen))) enough

    ends : (s : Session) (now : ℕ) (j k : Joint) (w : World) (later drain : List Joint) → BeginsAt s now j w → AreRounds s now j (k ∷ later)
        → AreSeen s (now + 1 + length later) (last_of k later) drain → rounds_for (entries_of s) ≤ length drain → IsOver (last_of (last_of k later) drain)
    ends s now j k w later drain b r seen enough =
        drain_follows s now j k w later drain b.begun b.least (stays_in_time s now j w (k ∷ later) b r)
        (as_drain s (now + 1 + length later) (last_of k later) drain seen (subst (λ (n : ℕ). AreInTime n (last_of k later) drain) (at_last_is (now + 1) later)
        (later_times now j (k ∷ later) drain (in_rounds s now j w ((k ∷ later) ++ drain) b
        (both_rounds s now j (k ∷ later) drain r (subst (λ (n : ℕ). AreRounds s n (last_of k later) drain) (sym (at_last_is (now + 1) later)) (seen_rounds s (now + 1 + length later) (last_of k later) drain seen)))))))
        enough

-- ---- how they end

-- where some rounds lead the ends are still timed
timed_last : (s : Session) (first now : ℕ) (j : Joint) (w : World) (rounds : List Joint) → first ≤ now → Timed s first now j w → AreRounds s now j rounds → (v : World) × Timed s first (at_last now rounds) (last_of j rounds) v
timed_last s first now j w [] since t r = (w, t)
timed_last s first now j w (k ∷ later) since t r =
    let x = round_timed s first now j k w r.0 since t in
    timed_last s first (now + 1) k x.world later (next since) x.timed r.1
  where
    next : first ≤ now → first ≤ now + 1
    next e = omega (arith, e)

-- a machine that is one of the world's but for the room ends as that does
ends_alike : (m n : State) → step m reserve ≡ step n reserve → GoesOrFinished m → GoesOrFinished n
ends_alike m n alike (inl none) = inl (sym (ap (λ (k : State). k.ending) alike) ∙ none)
ends_alike m n alike (inr finished) = inr (sym (ap (λ (k : State). k.ending) alike) ∙ finished)

each_finishes : (s : Session) (first now : ℕ) (j : Joint) (w : World) → is_absent s.start.initiator.config.own_flow ≡ false → Timed s first now j w → GoesOrFinished j.initiator.line.machine × GoesOrFinished j.acceptor.line.machine
each_finishes s first now j w sends t =
    let sh = t.shows in
    let k = ends_finished s.outbox_i.made s.outbox_a.made s.start sh.now_i sh.now_a sh.later sh.known sh.agreed sends sh.may sh.keeps t.timely in (
      ends_alike w.initiator j.initiator.line.machine sh.initiator.goes.alike (subst (λ (v : World). GoesOrFinished v.initiator) sh.there k.0),
      ends_alike w.acceptor j.acceptor.line.machine sh.acceptor.goes.alike (subst (λ (v : World). GoesOrFinished v.acceptor) sh.there k.1),
    )

finished_over : (m : State) → GoesOrFinished m → IsSome m.ending → m.ending ≡ Some endings.Finished
finished_over m (inl none) some = absurd (true≢false (sym some ∙ ap (λ (e : Option Ending). is_some e) none))
finished_over m (inr finished) some = finished

pub rounds_finish : RoundsFinish
rounds_finish = record { each = each; both = both }
  where
    since : (n : ℕ) → n ≤ n
    since n = omega arith

    each : (s : Session) (now : ℕ) (j : Joint) (w : World) (rounds : List Joint) → BeginsAt s now j w → is_absent s.start.initiator.config.own_flow ≡ false → AreRounds s now j rounds
        → GoesOrFinished (last_of j rounds).initiator.line.machine × GoesOrFinished (last_of j rounds).acceptor.line.machine
    each s now j w rounds b sends r =
        let x = timed_last s now now j w rounds (since now) (begins_timed s now j w b) r in
        each_finishes s now (at_last now rounds) (last_of j rounds) x.0 sends x.1

    both : (s : Session) (now : ℕ) (j : Joint) (w : World) (rounds : List Joint) → BeginsAt s now j w → is_absent s.start.initiator.config.own_flow ≡ false → AreRounds s now j rounds
        → IsOver (last_of j rounds) → AreFinished (last_of j rounds)
    both s now j w rounds b sends r over =
        let k = each s now j w rounds b sends r in
        record { initiator = finished_over (last_of j rounds).initiator.line.machine k.0 over.initiator; acceptor = finished_over (last_of j rounds).acceptor.line.machine k.1 over.acceptor }
