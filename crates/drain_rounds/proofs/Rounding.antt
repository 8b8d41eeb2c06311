-- That each round of a drain lowers what is left, and that a drain ends.
use Rattle.std.proofs.Common.{◌≡◌, ◌⊎◌, inl, inr, ℕ, ◌+◌, ◌*◌, ◌<◌, ◌≤◌, ◌&&◌, ◌||◌, Bool, true, false, if◌then◌else◌, List, [], ◌∷◌, ◌++◌, length, take, Option, Some, None, refl, sym, ap, subst, ◌∙◌, arith, zero, suc, append-nil, length-append, true≢false}
use Rattle.std.specs.Prelude.{is_some, is_none, IsSome}
use mathlib.Core.List.{IsPrefix}
use Rattle.session_model.specs.Journal.{Entry, History, BeginsHistory}
use Rattle.fixp_shake.specs.declared.config.EndConfig.{EndConfig}
use Rattle.fixp_shake.specs.declared.config.Role.{Role}
use Rattle.fixp_shake.specs.declared.config.Role.TheVariants as roles
use Rattle.fixp_shake.specs.Flows.{is_absent}
use Rattle.fixp_shake.specs.Phases.{is_closing, is_established}
use Rattle.fixp_replies.specs.declared.act.Ending.{Ending}
use Rattle.fixp_replies.specs.declared.facts.Facts.{Facts}
use Rattle.fixp_replies.specs.Events.{heartbeat, heartbeats, is_due}
use Rattle.fixp_replies.specs.Facts.{is_initiator}
use Rattle.fixp_machine.specs.Machine.{State, around}
use Rattle.conn_turns.specs.Lines.{Line}
use Rattle.conn_turns.specs.Turns.{Turn, only_sends, works, link_lost, cut_short, not_begun}
use Rattle.conn_turns.proofs.Taking.{lines_number}
use Rattle.connection_laws.specs.Writing.{Piece}
use Rattle.connection_laws.specs.Courses.{Course}
use Rattle.connection_laws.proofs.Going.{stands_longer}
use Rattle.turn_laws.specs.Turns.{line_received, IsTurn}
use Rattle.turn_laws.specs.Standing.{StandsAt}
use Rattle.turn_laws.specs.Legs.{is_lost, sent_in}
use Rattle.turn_laws.specs.Made.{MadeTurn}
use Rattle.honest_ends.specs.Worlds.{World, Step, Match, meets, after, world_after}
use Rattle.honest_ends.proofs.Serving.{by_bool}
use Rattle.honest_turns.specs.Opened.{Open}
use Rattle.drain_laws.specs.Counts.{answered}
use Rattle.drain_laws.specs.Calls.{beats_at}
use Rattle.drain_laws.specs.Beginning.{bound, idle_measure}
use Rattle.drain_laws.proofs.Begun.{idle_within}
use Rattle.drain_ends.specs.Standing.{BothGo}
use Rattle.drain_ends.specs.Shutting as shutting
use Rattle.drain_ends.specs.Acting.{is_beat, all_beats, is_sequence, has_sequence, Acts, BeatsFirst, HasToDo, IsWhole}
use Rattle.drain_ends.specs.Acting as acting
use Rattle.drain_ends.specs.Closing.{BothTold}
use Rattle.drain_ends.proofs.Doing.{something_to_do}
use Rattle.drain_ends.proofs.Fallen.{meets_fall}
use Rattle.drain_ends.proofs.Closed.{ends_are_told, closing_to_do}
use Rattle.drain_turns.specs.Joints.{Half, Joint, Session, measure, IsOn, IsUnread, Shows}
use Rattle.drain_turns.specs.Turning.{turn_at, TakesTurn, Due, DueIn, other_of, written_by, Turned}
use Rattle.drain_turns.specs.Turning as due_is
use Rattle.drain_rounds.specs.Rounds.{Finds, InRound, IsInTime, Round, AreDrain, last_of, IsOver, IsSent, AreSent, open_of, left_of, RoundsFall, DrainEnds, rounds_for, entries_of, Begun, DrainSuffices}
use Rattle.drain_steps.proofs.Ranging.{opened_holds}
use Rattle.drain_turns.proofs.Fallen.{initiator_turns, acceptor_turns}

-- a link that has room took all
none_left : (bs : List ℕ) → (0 < length bs → ⊥) → bs ≡ []
none_left [] never = refl
none_left (b ∷ bs) never = absurd (never (omega arith))

pub all_sent : (now : ℕ) (old new : Half) (way left : List ℕ) → TakesTurn now old new way left → new.line.machine.unsent ≡ []
all_sent now old new way left t = by_turn t.turn t.made t.sound
  where
    by_turn : (turn : Turn) → MadeTurn true (turn_at old t.told t.carried t.clock) (turn_at new t.told_then t.carried_then now) turn → is_lost turn ≡ false → new.line.machine.unsent ≡ []
    by_turn (only_sends at sent lost) k sound = none_left new.line.machine.unsent (λ some. let empty = k.does.1.full sound some in let room = t.room some in omega (arith, empty, room))
    by_turn (works w) k sound = none_left new.line.machine.unsent (λ some. let empty = k.does.2.full sound some in let room = t.room some in omega (arith, empty, room))
    by_turn (link_lost at) k sound = absurd (true≢false sound)
    by_turn (cut_short at received frames refused) k sound = absurd (true≢false sound)
    by_turn not_begun k sound = absurd (true≢false sound)

-- a turn takes as many messages at most as the one before
pub same_number : (now : ℕ) (old new : Half) (way left : List ℕ) → TakesTurn now old new way left → new.line.per_turn ≡ old.line.per_turn
same_number now old new way left t = by_turn t.turn t.made.is t.sound
  where
    by_turn : (turn : Turn) → IsTurn old.seen new.seen old.line new.line turn → is_lost turn ≡ false → new.line.per_turn ≡ old.line.per_turn
    by_turn (only_sends at sent lost) k sound = ap (λ (l : Line). l.per_turn) k.0.line
    by_turn (works w) k sound = ap (λ (l : Line). l.per_turn) k.sends.line ∙ (k.served.per_turn ∙ lines_number w.now (line_received old.line w.now w.received w.got) w.frames)
    by_turn (link_lost at) k sound = absurd (true≢false sound)
    by_turn (cut_short at received frames refused) k sound = absurd (true≢false sound)
    by_turn not_begun k sound = absurd (true≢false sound)

-- one heartbeat at most
beats_few : (m : State) (now : ℕ) → beats_at m now ≤ 1
beats_few m now = by_end (is_some m.ending)
  where
    by_due : (b : Bool) → length (if b then heartbeat (around m 0 now) m.facts ∷ [] else []) ≤ 1
    by_due true = omega arith
    by_due false = omega arith

    by_unsent : (bs : List ℕ) → length (heartbeats (around m 0 now) m.facts m.last_sent bs) ≤ 1
    by_unsent [] = by_due (is_established m.facts.connection.phase && is_none m.facts.connection.serving && is_due (around m 0 now) m.last_sent)
    by_unsent (b ∷ bs) = omega arith

    by_end : (b : Bool) → (if b then 0 else length (heartbeats (around m 0 now) m.facts m.last_sent m.unsent)) ≤ 1
    by_end true = omega arith
    by_end false = by_unsent m.unsent

-- an end that finds more of its outbox is where it was
pub finds_on : (outbox : History) (b : Course) (old new : Half) (m : State) → Finds outbox old new → IsOn outbox b old m → IsOn outbox b new m
finds_on outbox b old new m f on = record {
  legal = on.legal;
  goes = subst (λ (l : Line). Open outbox b m l) (sym f.line) on.goes;
  goes_on = ap (λ (l : Line). l.over) f.line ∙ on.goes_on;
  fits = let e = ap (λ (l : Line). length l.held) f.line in let g = on.fits in omega (arith, e, g);
  seen = record { begins = f.seen; few = on.seen.few };
  course = on.course;
  stands = subst (λ (l : Line). StandsAt new.seen.made on.course l) (sym f.line) (record {
    stands = stands_longer old.seen.made new.seen.made on.course f.more.made on.stands.stands;
    machine = on.stands.machine;
    done = on.stands.done;
    drained = on.stands.drained;
  });
}

pub finds_unread : (pieces : List Piece) (old new reader reader' : Line) (under : List ℕ) → new ≡ old → reader' ≡ reader → IsUnread pieces old.machine reader.held under → IsUnread pieces new.machine reader'.held under
finds_unread pieces old new reader reader' under e f u = subst (λ (l : Line). IsUnread pieces l.machine reader'.held under) (sym e) (subst (λ (l : Line). IsUnread pieces old.machine l.held under) (sym f) u)

-- the machine of an end in the world is that of its line, but for the room
pub ending_is : {outbox : History} {b : Course} (half : Half) (m : State) → IsOn outbox b half m → m.ending ≡ half.line.machine.ending
ending_is half m on = ap (λ (s : State). s.ending) on.goes.alike

pub facts_are : {outbox : History} {b : Course} (half : Half) (m : State) → IsOn outbox b half m → m.facts ≡ half.line.machine.facts
facts_are half m on = ap (λ (s : State). s.facts) on.goes.alike

-- longer ways keep what an end has to do
longer_beats : (n : ℕ) (way more : List Piece) → all_beats (take n way) ≡ false → all_beats (take n (way ++ more)) ≡ false
longer_beats zero way more e = absurd (true≢false e)
longer_beats (suc n) [] more e = absurd (true≢false e)
longer_beats (suc n) (p ∷ way) more e = by_first (λ h. longer_beats n way more h) (is_beat p) refl
  where
    by_first : (all_beats (take n way) ≡ false → all_beats (take n (way ++ more)) ≡ false) → (b : Bool) → is_beat p ≡ b → (is_beat p && all_beats (take n (way ++ more))) ≡ false
    by_first later false f = ap (λ b. b && all_beats (take n (way ++ more))) f
    by_first later true f = ap (λ b. b && all_beats (take n (way ++ more))) f ∙ later (ap (λ b. b && all_beats (take n way)) (sym f) ∙ e)

longer_sequence : (n : ℕ) (way more : List Piece) → has_sequence (take n way) ≡ true → has_sequence (take n (way ++ more)) ≡ true
longer_sequence zero way more e = absurd (true≢false (sym e))
longer_sequence (suc n) [] more e = absurd (true≢false (sym e))
longer_sequence (suc n) (p ∷ way) more e = by_first (λ h. longer_sequence n way more h) (is_sequence p) refl
  where
    by_first : (has_sequence (take n way) ≡ true → has_sequence (take n (way ++ more)) ≡ true) → (b : Bool) → is_sequence p ≡ b → (is_sequence p || has_sequence (take n (way ++ more))) ≡ true
    by_first later true f = ap (λ b. b || has_sequence (take n (way ++ more))) f
    by_first later false f = ap (λ b. b || has_sequence (take n (way ++ more))) f ∙ later (ap (λ b. b || has_sequence (take n way)) (sym f) ∙ e)

longer_first : (n : ℕ) (way more : List Piece) → n ≤ length way → all_beats (take n way) ≡ true → all_beats (take n (way ++ more)) ≡ true
longer_first zero way more few e = refl
longer_first (suc n) [] more few e = absurd (omega (arith, few))
longer_first (suc n) (p ∷ way) more few e = by_first (λ h. longer_first n way more (omega (arith, few)) h) (is_beat p) refl
  where
    by_first : (all_beats (take n way) ≡ true → all_beats (take n (way ++ more)) ≡ true) → (b : Bool) → is_beat p ≡ b → (is_beat p && all_beats (take n (way ++ more))) ≡ true
    by_first later true f = ap (λ b. b && all_beats (take n (way ++ more))) f ∙ later (ap (λ b. b && all_beats (take n way)) (sym f) ∙ e)
    by_first later false f = absurd (true≢false (sym e ∙ ap (λ b. b && all_beats (take n way)) f))

abbrev FourDue : ℕ → History → State → List Piece → Type 0
FourDue n seen m way = Acts n seen m way ⊎ BeatsFirst n way

longer_due : (n : ℕ) (seen : History) (m : State) (way more : List Piece) → FourDue n seen m way → FourDue n seen m (way ++ more)
longer_due n seen m way more (inl (acting.serves s)) = inl (acting.serves s)
longer_due n seen m way more (inl (acting.reads e)) = inl (acting.reads (longer_beats n way more e))
longer_due n seen m way more (inl (acting.ends_range est coming has)) = inl (acting.ends_range est coming (longer_sequence n way more has))
longer_due n seen m way more (inl (acting.sends est present less)) = inl (acting.sends est present less)
longer_due n seen m way more (inl (acting.tells marked told)) = inl (acting.tells marked told)
longer_due n seen m way more (inl (acting.shuts closes)) = inl (acting.shuts closes)
longer_due n seen m way more (inr b) = inr (record { many = let many = b.many in let size = length-append way more in omega (arith, many, size); beats = longer_first n way more b.many b.beats })

as_due : (n : ℕ) (seen : History) (m : State) (way : List Piece) → FourDue n seen m way → Due n seen m way 4
as_due n seen m way (inl a) = due_is.acts refl a
as_due n seen m way (inr b) = due_is.beats refl b

pub open_most : (e : Option Ending) → open_of e ≤ 4
open_most None = omega arith
open_most (Some x) = omega arith

pub open_going : (e : Option Ending) → e ≡ None → open_of e ≡ 4
open_going None e = refl
open_going (Some x) e = absurd (cc e)

pub open_over : (e : Option Ending) → IsSome e → open_of e ≡ 0
open_over None e = absurd (true≢false (sym e))
open_over (Some x) e = refl

-- the bytes of both ways by other names
pub same_ways : (s : Session) (i a : Half) (out out' home home' : List ℕ) (w : World) → out ≡ out' → home ≡ home' → Shows s (record { initiator = i; acceptor = a; outward = out; homeward = home }) w
    → Shows s (record { initiator = i; acceptor = a; outward = out'; homeward = home' }) w
same_ways s i a out out' home home' w e f sh =
    subst (λ (bs : List ℕ). Shows s (record { initiator = i; acceptor = a; outward = out'; homeward = bs }) w) f (subst (λ (bs : List ℕ). Shows s (record { initiator = i; acceptor = a; outward = bs; homeward = home }) w) e sh)

-- an end that goes on, all of whose output is sent, is in time for what is due by 4
record FourIn (now : ℕ) (half : Half) (m : State) (way : List Piece) : Type 0 where
  sent : half.line.machine.unsent ≡ []
  in_time : IsInTime now half
  goes : m.ending ≡ None
  four : FourDue half.line.per_turn half.seen m way

pub none_is : (o : Option Ending) → is_some o ≡ false → o ≡ None
none_is None e = refl
none_is (Some x) e = absurd (true≢false e)

-- One half of a round. What is left has risen by 1 at most, and where something was due it has fallen by 3
record Stepped (s : Session) (j : Joint) (half : Half) (w : World) (IsDue : Type 0) (end : Role) : Type 0 where
  world : World
  shows : Shows s j world
  sent : IsSent half
  same : other_of end world ≡ other_of end w
  adds : IsPrefix (written_by end w) (written_by end world)
  rises : left_of s world ≤ left_of s w + 1
  falls : IsDue → left_of s world + 3 ≤ left_of s w

-- a turn of the initiator
initiator_turned : (s : Session) (j : Joint) (w : World) (now : ℕ) (new : Half) (left sent : List ℕ) → Shows s j w → 4 ≤ j.initiator.line.per_turn → j.initiator.line.per_turn ≤ 256 → j.acceptor.line.machine.unsent ≡ []
    → InRound now s.outbox_i j.initiator new j.homeward left sent → j.initiator.line.machine.ending ≡ None → Stepped s (record { initiator = new; acceptor = j.acceptor; outward = j.outward ++ sent; homeward = left }) new w (FourIn now j.initiator w.initiator w.homeward) roles.Initiator
initiator_turned s j w now new left sent sh least most theirs turn going = record {
  world = g.world;
  shows = same_ways s new j.acceptor (j.outward ++ sent_in t.turn) (j.outward ++ sent) left left g.world (ap (λ (bs : List ℕ). j.outward ++ bs) k.1) refl g.shows;
  sent = record {
    least = let e = same_number now j.initiator new j.homeward left t in let n = least in omega (arith, e, n);
    most = let e = same_number now j.initiator new j.homeward left t in let n = most in omega (arith, e, n);
    all = all_sent now j.initiator new j.homeward left t;
  };
  same = g.same;
  adds = g.adds;
  rises = up (measure s w) (measure s g.world) (beats_at j.initiator.line.machine now) (open_of w.initiator.ending) (open_of g.world.initiator.ending) (open_of w.acceptor.ending) (open_of g.world.acceptor.ending)
      g.rises (beats_few j.initiator.line.machine now) (open_going w.initiator.ending (mine ∙ going)) (open_most g.world.initiator.ending) (ap (λ (m : State). open_of m.ending) g.same);
  falls = λ due. by_fall (g.falls 4 (record { sent = due.sent; in_time = due.in_time going }, as_due j.initiator.line.per_turn j.initiator.seen w.initiator w.homeward due.four));
}
  where
    mine : w.initiator.ending ≡ j.initiator.line.machine.ending
    mine = ending_is j.initiator w.initiator sh.initiator

    k : (t : TakesTurn now j.initiator new j.homeward left) × (sent_in t.turn ≡ sent) × BeginsHistory new.seen s.outbox_i
    k = turn.turns going

    t : TakesTurn now j.initiator new j.homeward left
    t = k.0

    g : Turned s (record { initiator = new; acceptor = j.acceptor; outward = j.outward ++ sent_in t.turn; homeward = left }) w (beats_at j.initiator.line.machine now) (DueIn j.initiator w.initiator w.homeward now) roles.Initiator
    g = initiator_turns s j w now new left sh least most going t k.2 theirs

    up : (a c q o p u v : ℕ) → c ≤ a + q → q ≤ 1 → o ≡ 4 → p ≤ 4 → v ≡ u → c + (p + v) ≤ (a + (o + u)) + 1
    up a c q o p u v d e f h i = omega arith

    by_fall : (measure s g.world + 4 ≤ measure s w + beats_at j.initiator.line.machine now) ⊎ IsSome g.world.initiator.ending → left_of s g.world + 3 ≤ left_of s w
    by_fall (inl h) = down (measure s w) (measure s g.world) (beats_at j.initiator.line.machine now) (open_of w.initiator.ending) (open_of g.world.initiator.ending) (open_of w.acceptor.ending) (open_of g.world.acceptor.ending)
        h (beats_few j.initiator.line.machine now) (open_going w.initiator.ending (mine ∙ going)) (open_most g.world.initiator.ending) (ap (λ (m : State). open_of m.ending) g.same)
      where
        down : (a c q o p u v : ℕ) → c + 4 ≤ a + q → q ≤ 1 → o ≡ 4 → p ≤ 4 → v ≡ u → (c + (p + v)) + 3 ≤ a + (o + u)
        down a c q o p u v d e f h i = omega arith
    by_fall (inr over) = down (measure s w) (measure s g.world) (beats_at j.initiator.line.machine now) (open_of w.initiator.ending) (open_of g.world.initiator.ending) (open_of w.acceptor.ending) (open_of g.world.acceptor.ending)
        g.rises (beats_few j.initiator.line.machine now) (open_going w.initiator.ending (mine ∙ going)) (open_over g.world.initiator.ending over) (ap (λ (m : State). open_of m.ending) g.same)
      where
        down : (a c q o p u v : ℕ) → c ≤ a + q → q ≤ 1 → o ≡ 4 → p ≡ 0 → v ≡ u → (c + (p + v)) + 3 ≤ a + (o + u)
        down a c q o p u v d e f h i = omega arith

-- and its half of a round, which is none where its connection has ended
initiator_half : (s : Session) (j : Joint) (w : World) (now : ℕ) (new : Half) (left sent : List ℕ) → Shows s j w → IsSent j.initiator → j.acceptor.line.machine.unsent ≡ [] → InRound now s.outbox_i j.initiator new j.homeward left sent
    → Stepped s (record { initiator = new; acceptor = j.acceptor; outward = j.outward ++ sent; homeward = left }) new w (FourIn now j.initiator w.initiator w.homeward) roles.Initiator
initiator_half s j w now new left sent sh is theirs turn =
    by_bool _ (is_some j.initiator.line.machine.ending) rested (λ on. initiator_turned s j w now new left sent sh is.least is.most theirs turn (none_is j.initiator.line.machine.ending on))
  where
    rested : is_some j.initiator.line.machine.ending ≡ true → Stepped s (record { initiator = new; acceptor = j.acceptor; outward = j.outward ++ sent; homeward = left }) new w (FourIn now j.initiator w.initiator w.homeward) roles.Initiator
    rested over = record {
      world = w;
      shows = same_ways s new j.acceptor j.outward (j.outward ++ sent) j.homeward left w (sym (append-nil j.outward) ∙ ap (λ (bs : List ℕ). j.outward ++ bs) (sym k.2)) (sym k.1)
          (subst (λ (h : Half). Shows s (record { initiator = h; acceptor = j.acceptor; outward = j.outward; homeward = j.homeward }) w) (sym k.0) sh);
      sent = subst (λ (h : Half). IsSent h) (sym k.0) is;
      same = refl;
      adds = ([], append-nil w.outward);
      rises = plus_one (left_of s w);
      falls = λ due. absurd (true≢false (sym over ∙ ap (λ (e : Option Ending). is_some e) (sym (ending_is j.initiator w.initiator sh.initiator) ∙ due.goes)));
    }
      where
        k : (new ≡ j.initiator) × (left ≡ j.homeward) × (sent ≡ [])
        k = turn.rests over

        plus_one : (a : ℕ) → a ≤ a + 1
        plus_one a = omega arith

-- a turn of the acceptor
acceptor_turned : (s : Session) (j : Joint) (w : World) (now : ℕ) (new : Half) (left sent : List ℕ) → Shows s j w → 4 ≤ j.acceptor.line.per_turn → j.acceptor.line.per_turn ≤ 256 → j.initiator.line.machine.unsent ≡ []
    → InRound now s.outbox_a j.acceptor new j.outward left sent → j.acceptor.line.machine.ending ≡ None → Stepped s (record { initiator = j.initiator; acceptor = new; outward = left; homeward = j.homeward ++ sent }) new w (FourIn now j.acceptor w.acceptor w.outward) roles.Acceptor
acceptor_turned s j w now new left sent sh least most theirs turn going = record {
  world = g.world;
  shows = same_ways s j.initiator new left left (j.homeward ++ sent_in t.turn) (j.homeward ++ sent) g.world refl (ap (λ (bs : List ℕ). j.homeward ++ bs) k.1) g.shows;
  sent = record {
    least = let e = same_number now j.acceptor new j.outward left t in let n = least in omega (arith, e, n);
    most = let e = same_number now j.acceptor new j.outward left t in let n = most in omega (arith, e, n);
    all = all_sent now j.acceptor new j.outward left t;
  };
  same = g.same;
  adds = g.adds;
  rises = up (measure s w) (measure s g.world) (beats_at j.acceptor.line.machine now) (open_of w.initiator.ending) (open_of g.world.initiator.ending) (open_of w.acceptor.ending) (open_of g.world.acceptor.ending)
      g.rises (beats_few j.acceptor.line.machine now) (open_going w.acceptor.ending (mine ∙ going)) (open_most g.world.acceptor.ending) (ap (λ (m : State). open_of m.ending) g.same);
  falls = λ due. by_fall (g.falls 4 (record { sent = due.sent; in_time = due.in_time going }, as_due j.acceptor.line.per_turn j.acceptor.seen w.acceptor w.outward due.four));
}
  where
    mine : w.acceptor.ending ≡ j.acceptor.line.machine.ending
    mine = ending_is j.acceptor w.acceptor sh.acceptor

    k : (t : TakesTurn now j.acceptor new j.outward left) × (sent_in t.turn ≡ sent) × BeginsHistory new.seen s.outbox_a
    k = turn.turns going

    t : TakesTurn now j.acceptor new j.outward left
    t = k.0

    g : Turned s (record { initiator = j.initiator; acceptor = new; outward = left; homeward = j.homeward ++ sent_in t.turn }) w (beats_at j.acceptor.line.machine now) (DueIn j.acceptor w.acceptor w.outward now) roles.Acceptor
    g = acceptor_turns s j w now new left sh least most going t k.2 theirs

    up : (a c q o p u v : ℕ) → c ≤ a + q → q ≤ 1 → u ≡ 4 → v ≤ 4 → p ≡ o → c + (p + v) ≤ (a + (o + u)) + 1
    up a c q o p u v d e f h i = omega arith

    by_fall : (measure s g.world + 4 ≤ measure s w + beats_at j.acceptor.line.machine now) ⊎ IsSome g.world.acceptor.ending → left_of s g.world + 3 ≤ left_of s w
    by_fall (inl h) = down (measure s w) (measure s g.world) (beats_at j.acceptor.line.machine now) (open_of w.initiator.ending) (open_of g.world.initiator.ending) (open_of w.acceptor.ending) (open_of g.world.acceptor.ending)
        h (beats_few j.acceptor.line.machine now) (open_going w.acceptor.ending (mine ∙ going)) (open_most g.world.acceptor.ending) (ap (λ (m : State). open_of m.ending) g.same)
      where
        down : (a c q o p u v : ℕ) → c + 4 ≤ a + q → q ≤ 1 → u ≡ 4 → v ≤ 4 → p ≡ o → (c + (p + v)) + 3 ≤ a + (o + u)
        down a c q o p u v d e f h i = omega arith
    by_fall (inr over) = down (measure s w) (measure s g.world) (beats_at j.acceptor.line.machine now) (open_of w.initiator.ending) (open_of g.world.initiator.ending) (open_of w.acceptor.ending) (open_of g.world.acceptor.ending)
        g.rises (beats_few j.acceptor.line.machine now) (open_going w.acceptor.ending (mine ∙ going)) (open_over g.world.acceptor.ending over) (ap (λ (m : State). open_of m.ending) g.same)
      where
        down : (a c q o p u v : ℕ) → c ≤ a + q → q ≤ 1 → u ≡ 4 → v ≡ 0 → p ≡ o → (c + (p + v)) + 3 ≤ a + (o + u)
        down a c q o p u v d e f h i = omega arith

-- and its half of a round, which is none where its connection has ended
acceptor_half : (s : Session) (j : Joint) (w : World) (now : ℕ) (new : Half) (left sent : List ℕ) → Shows s j w → IsSent j.acceptor → j.initiator.line.machine.unsent ≡ [] → InRound now s.outbox_a j.acceptor new j.outward left sent
    → Stepped s (record { initiator = j.initiator; acceptor = new; outward = left; homeward = j.homeward ++ sent }) new w (FourIn now j.acceptor w.acceptor w.outward) roles.Acceptor
acceptor_half s j w now new left sent sh is theirs turn =
    by_bool _ (is_some j.acceptor.line.machine.ending) rested (λ on. acceptor_turned s j w now new left sent sh is.least is.most theirs turn (none_is j.acceptor.line.machine.ending on))
  where
    rested : is_some j.acceptor.line.machine.ending ≡ true → Stepped s (record { initiator = j.initiator; acceptor = new; outward = left; homeward = j.homeward ++ sent }) new w (FourIn now j.acceptor w.acceptor w.outward) roles.Acceptor
    rested over = record {
      world = w;
      shows = same_ways s j.initiator new j.outward left j.homeward (j.homeward ++ sent) w (sym k.1) (sym (append-nil j.homeward) ∙ ap (λ (bs : List ℕ). j.homeward ++ bs) (sym k.2))
          (subst (λ (h : Half). Shows s (record { initiator = j.initiator; acceptor = h; outward = j.outward; homeward = j.homeward }) w) (sym k.0) sh);
      sent = subst (λ (h : Half). IsSent h) (sym k.0) is;
      same = refl;
      adds = ([], append-nil w.homeward);
      rises = plus_one (left_of s w);
      falls = λ due. absurd (true≢false (sym over ∙ ap (λ (e : Option Ending). is_some e) (sym (ending_is j.acceptor w.acceptor sh.acceptor) ∙ due.goes)));
    }
      where
        k : (new ≡ j.acceptor) × (left ≡ j.outward) × (sent ≡ [])
        k = turn.rests over

        plus_one : (a : ℕ) → a ≤ a + 1
        plus_one a = omega arith

-- one of two ends has something to do, as long as one connection goes on
to_do : (s : Session) (j : Joint) (w : World) (most_i most_a : ℕ) (seen_i seen_a : History) → Shows s j w → IsWhole s.outbox_i.made seen_i → w.acceptor.facts.recorded.sent ≤ length seen_a.made
    → ((answered w.acceptor.facts ≡ 1) ⊎ (is_absent w.acceptor.config.peer_flow ≡ true) → IsWhole s.outbox_a.made seen_a) → (w.initiator.ending ≡ None) ⊎ (w.acceptor.ending ≡ None) → HasToDo most_i most_a seen_i seen_a w
to_do s j w most_i most_a seen_i seen_a sh whole sent marked goes =
    by_bool _ (is_some w.initiator.ending) (λ over. closing (inl (inl over)))
    (λ on_i. by_bool _ (is_some w.acceptor.ending) (λ over. closing (inr (inl over)))
    (λ on_a. by_bool _ (is_closing w.initiator.facts.connection.phase) (λ shut. closing (inl (inr shut)))
    (λ yet. subst (λ (v : World). HasToDo most_i most_a seen_i seen_a v) sh.there
    (something_to_do most_i most_a hi ha s.start steps seen_i seen_a sh.known sh.may
    (subst (λ (v : World). BothGo v) (sym sh.there) (record { initiator = none_is w.initiator.ending on_i; acceptor = none_is w.acceptor.ending on_a; yet = yet }))
    (opened_holds hi ha s.start sh.now_i sh.now_a sh.later sh.known sh.may sh.keeps) whole
    (subst (λ (v : World). v.acceptor.facts.recorded.sent ≤ length seen_a.made) (sym sh.there) sent)
    (subst (λ (v : World). (answered v.acceptor.facts ≡ 1) ⊎ (is_absent v.acceptor.config.peer_flow ≡ true) → IsWhole ha seen_a) (sym sh.there) marked)))))
  where
    hi : List Entry
    hi = s.outbox_i.made

    ha : List Entry
    ha = s.outbox_a.made

    steps : List Step
    steps = meets sh.now_i sh.now_a ∷ sh.later

    closing : shutting.IsOver w.initiator ⊎ shutting.IsOver w.acceptor → HasToDo most_i most_a seen_i seen_a w
    closing over = closing_to_do most_i most_a seen_i seen_a w (subst (λ (v : World). BothTold v) sh.there (ends_are_told hi ha s.start [] sh.later sh.now_i sh.now_a sh.known sh.may sh.keeps)) over goes

-- ends that have found more of their outboxes are where they were
abbrev pub found : (s : Session) (now : ℕ) (j k : Joint) → Round s now j k → Joint
found s now j k r = record { initiator = r.initiator; acceptor = r.acceptor; outward = j.outward; homeward = j.homeward }

abbrev pub looks : (s : Session) (now : ℕ) (j k : Joint) (w : World) → Shows s j w → (r : Round s now j k) → Shows s (found s now j k r) w
looks s now j k w sh r = record {
  known = sh.known;
  agreed = sh.agreed;
  now_i = sh.now_i;
  now_a = sh.now_a;
  later = sh.later;
  may = sh.may;
  keeps = sh.keeps;
  there = sh.there;
  initiator = finds_on s.outbox_i s.course_i j.initiator r.initiator w.initiator r.finds_i sh.initiator;
  acceptor = finds_on s.outbox_a s.course_a j.acceptor r.acceptor w.acceptor r.finds_a sh.acceptor;
  outward = finds_unread w.outward j.initiator.line r.initiator.line j.acceptor.line r.acceptor.line j.outward r.finds_i.line r.finds_a.line sh.outward;
  homeward = finds_unread w.homeward j.acceptor.line r.acceptor.line j.initiator.line r.initiator.line j.homeward r.finds_a.line r.finds_i.line sh.homeward;
}

pub sent_as : (old new : Half) → new.line ≡ old.line → IsSent old → IsSent new
sent_as old new e k = record {
  least = subst (λ (l : Line). 4 ≤ l.per_turn) (sym e) k.least;
  most = subst (λ (l : Line). l.per_turn ≤ 256) (sym e) k.most;
  all = ap (λ (l : Line). l.machine.unsent) e ∙ k.all;
}

-- behind the initiator's half
abbrev pub midway : (s : Session) (now : ℕ) (j k : Joint) → Round s now j k → Joint
midway s now j k r = record { initiator = k.initiator; acceptor = r.acceptor; outward = j.outward ++ r.sent_i; homeward = r.left }

pub rounds_fall : RoundsFall
rounds_fall s now j k w sh are r drain not_over = record {
  world = b.world;
  shows = same_ways s k.initiator k.acceptor k.outward k.outward (r.left ++ r.sent_a) k.homeward b.world refl (sym r.home) b.shows;
  sent = record { initiator = a.sent; acceptor = b.sent };
  falls = by_what what;
}
  where
    sh0 : Shows s (found s now j k r) w
    sh0 = looks s now j k w sh r

    sent_i : IsSent r.initiator
    sent_i = sent_as j.initiator r.initiator r.finds_i.line are.initiator

    sent_a : IsSent r.acceptor
    sent_a = sent_as j.acceptor r.acceptor r.finds_a.line are.acceptor

    a : Stepped s (midway s now j k r) k.initiator w (FourIn now r.initiator w.initiator w.homeward) roles.Initiator
    a = initiator_half s (found s now j k r) w now k.initiator r.left r.sent_i sh0 sent_i sent_a.all r.turns_i

    b : Stepped s (record { initiator = k.initiator; acceptor = k.acceptor; outward = k.outward; homeward = r.left ++ r.sent_a }) k.acceptor a.world
        (FourIn now r.acceptor a.world.acceptor a.world.outward) roles.Acceptor
    b = acceptor_half s (midway s now j k r) a.world now k.acceptor k.outward r.sent_a a.shows sent_a a.sent.all r.turns_a

    goes : (w.initiator.ending ≡ None) ⊎ (w.acceptor.ending ≡ None)
    goes = by_ends w.initiator.ending w.acceptor.ending refl refl
      where
        by_ends : (x y : Option Ending) → w.initiator.ending ≡ x → w.acceptor.ending ≡ y → (w.initiator.ending ≡ None) ⊎ (w.acceptor.ending ≡ None)
        by_ends None y e f = inl e
        by_ends (Some x) None e f = inr f
        by_ends (Some x) (Some y) e f = absurd (not_over (record {
          initiator = ap (λ (o : Option Ending). is_some o) (sym (ending_is j.initiator w.initiator sh.initiator) ∙ e);
          acceptor = ap (λ (o : Option Ending). is_some o) (sym (ending_is j.acceptor w.acceptor sh.acceptor) ∙ f);
        }))

    enough : w.acceptor.facts.recorded.sent ≤ length r.acceptor.seen.made
    enough =
        let on = sh0.acceptor in
        let low = on.stands.stands.own.enough in
        let e = ap (λ (m : State). m.facts.recorded.sent) on.stands.machine in
        let f = ap (λ (x : Facts). x.recorded.sent) (facts_are r.acceptor w.acceptor on) in
        omega (arith, low, e, f)

    what : HasToDo r.initiator.line.per_turn r.acceptor.line.per_turn r.initiator.seen r.acceptor.seen w
    what = to_do s (found s now j k r) w r.initiator.line.per_turn r.acceptor.line.per_turn r.initiator.seen r.acceptor.seen sh0 drain.sees.initiator enough
        (λ m. drain.sees.acceptor (by_mark m)) goes
      where
        same_config : w.acceptor.config ≡ j.acceptor.line.machine.config
        same_config = ap (λ (m : State). m.config) sh.acceptor.goes.alike

        by_mark : (answered w.acceptor.facts ≡ 1) ⊎ (is_absent w.acceptor.config.peer_flow ≡ true) → (answered j.acceptor.line.machine.facts ≡ 1) ⊎ (is_absent j.acceptor.line.machine.config.peer_flow ≡ true)
        by_mark (inl e) = inl (ap (λ (f : Facts). answered f) (sym (facts_are j.acceptor w.acceptor sh.acceptor)) ∙ e)
        by_mark (inr e) = inr (ap (λ (c : EndConfig). is_absent c.peer_flow) (sym same_config) ∙ e)

    first : w.initiator.ending ≡ None → FourDue r.initiator.line.per_turn r.initiator.seen w.initiator w.homeward → left_of s b.world + 2 ≤ left_of s w
    first going due = numbers (left_of s w) (left_of s a.world) (left_of s b.world) (a.falls (record { sent = sent_i.all; in_time = drain.time_i; goes = going; four = due })) b.rises
      where
        numbers : (x y z : ℕ) → y + 3 ≤ x → z ≤ y + 1 → z + 2 ≤ x
        numbers x y z e f = omega arith

    second : w.acceptor.ending ≡ None → FourDue r.acceptor.line.per_turn r.acceptor.seen w.acceptor w.outward → left_of s b.world + 2 ≤ left_of s w
    second going due = numbers (left_of s w) (left_of s a.world) (left_of s b.world) a.rises
        (b.falls (record { sent = sent_a.all; in_time = drain.time_a; goes = ap (λ (m : State). m.ending) a.same ∙ going; four = due_then }))
      where
        due_then : FourDue r.acceptor.line.per_turn r.acceptor.seen a.world.acceptor a.world.outward
        due_then = subst (λ (m : State). FourDue r.acceptor.line.per_turn r.acceptor.seen m a.world.outward) (sym a.same)
            (subst (λ (ps : List Piece). FourDue r.acceptor.line.per_turn r.acceptor.seen w.acceptor ps) a.adds.1 (longer_due r.acceptor.line.per_turn r.acceptor.seen w.acceptor w.outward a.adds.0 due))

        numbers : (x y z : ℕ) → y ≤ x + 1 → z + 3 ≤ y → z + 2 ≤ x
        numbers x y z e f = omega arith

    by_what : HasToDo r.initiator.line.per_turn r.acceptor.line.per_turn r.initiator.seen r.acceptor.seen w → left_of s b.world + 2 ≤ left_of s w
    by_what (acting.at_initiator going act) = first going (inl act)
    by_what (acting.at_acceptor going act) = second going (inl act)
    by_what (acting.homeward_beats going beats) = first going (inr beats)
    by_what (acting.outward_beats going beats) = second going (inr beats)

-- connections that have ended stay so
stays_over : (s : Session) (now : ℕ) (j k : Joint) → Round s now j k → IsOver j → IsOver k
stays_over s now j k r over = record {
  initiator = subst (λ (h : Half). IsSome h.line.machine.ending) (sym (r.turns_i.rests first).0) first;
  acceptor = subst (λ (h : Half). IsSome h.line.machine.ending) (sym (r.turns_a.rests second).0) second;
}
  where
    first : IsSome r.initiator.line.machine.ending
    first = subst (λ (l : Line). IsSome l.machine.ending) (sym r.finds_i.line) over.initiator

    second : IsSome r.acceptor.line.machine.ending
    second = subst (λ (l : Line). IsSome l.machine.ending) (sym r.finds_a.line) over.acceptor

over_to_last : (s : Session) (now : ℕ) (j : Joint) (rounds : List Joint) → AreDrain s now j rounds → IsOver j → IsOver (last_of j rounds)
over_to_last s now j [] d over = over
over_to_last s now j (k ∷ later) d over = over_to_last s (now + 1) k later d.1 (stays_over s now j k d.0.0 over)

-- both connections have ended, or one goes on
over_or : (P : Type 0) (s : Session) (j : Joint) (w : World) → Shows s j w → (IsOver j → P) → ((IsOver j → ⊥) → 4 ≤ open_of w.initiator.ending + open_of w.acceptor.ending → P) → P
over_or P s j w sh over goes = by_ends (is_some j.initiator.line.machine.ending) (is_some j.acceptor.line.machine.ending) refl refl
  where
    first : (o u : ℕ) → o ≡ 4 → 4 ≤ o + u
    first o u e = omega arith

    second : (o u : ℕ) → u ≡ 4 → 4 ≤ o + u
    second o u e = omega arith

    by_ends : (x y : Bool) → is_some j.initiator.line.machine.ending ≡ x → is_some j.acceptor.line.machine.ending ≡ y → P
    by_ends true true e f = over (record { initiator = e; acceptor = f })
    by_ends false y e f = goes (λ o. true≢false (sym o.initiator ∙ e)) (first (open_of w.initiator.ending) (open_of w.acceptor.ending)
        (open_going w.initiator.ending (ending_is j.initiator w.initiator sh.initiator ∙ none_is j.initiator.line.machine.ending e)))
    by_ends true false e f = goes (λ o. true≢false (sym o.acceptor ∙ f)) (second (open_of w.initiator.ending) (open_of w.acceptor.ending)
        (open_going w.acceptor.ending (ending_is j.acceptor w.acceptor sh.acceptor ∙ none_is j.acceptor.line.machine.ending f)))

pub drain_ends : DrainEnds
drain_ends s now j w [] sh are d few = over_or _ s j w sh (λ over. over) (λ not_over one. absurd (numbers (measure s w) (open_of w.initiator.ending + open_of w.acceptor.ending) one few))
  where
    numbers : (a b : ℕ) → 4 ≤ b → a + b ≤ 0 → ⊥
    numbers a b e f = omega arith
drain_ends s now j w (k ∷ later) sh are d few =
    over_or _ s j w sh (λ over. over_to_last s now j (k ∷ later) d over)
    (λ not_over one. let x = rounds_fall s now j k w sh are d.0.0 d.0.1 not_over in
    drain_ends s (now + 1) k x.world later x.shows x.sent d.1 (numbers (left_of s w) (left_of s x.world) (length later) x.falls few))
  where
    numbers : (a b n : ℕ) → b + 2 ≤ a → a ≤ 2 * suc n → b ≤ 2 * n
    numbers a b n e f = omega arith

-- the first round of a connection, in which the initiator only sends, leaves 2 more at most
record FirstRound (s : Session) (k : Joint) (w : World) : Type 0 where
  world : World
  shows : Shows s k world
  sent : AreSent k
  rises : left_of s world ≤ left_of s w + 2

first_round : (s : Session) (now : ℕ) (j k : Joint) (w : World) → Begun s j w → Round s now j k → FirstRound s k w
first_round s now j k w begun r = record {
  world = b.world;
  shows = same_ways s k.initiator k.acceptor k.outward k.outward (r.left ++ r.sent_a) k.homeward b.world refl (sym r.home) b.shows;
  sent = record { initiator = a.sent; acceptor = b.sent };
  rises = numbers (left_of s w) (left_of s a.world) (left_of s b.world) a.rises b.rises;
}
  where
    sent_a : IsSent r.acceptor
    sent_a = sent_as j.acceptor r.acceptor r.finds_a.line begun.acceptor

    a : Stepped s (midway s now j k r) k.initiator w (FourIn now r.initiator w.initiator w.homeward) roles.Initiator
    a = initiator_turned s (found s now j k r) w now k.initiator r.left r.sent_i (looks s now j k w begun.shows r)
        (subst (λ (l : Line). 4 ≤ l.per_turn) (sym r.finds_i.line) begun.least) (subst (λ (l : Line). l.per_turn ≤ 256) (sym r.finds_i.line) begun.most) sent_a.all r.turns_i
        (ap (λ (l : Line). l.machine.ending) r.finds_i.line ∙ begun.goes)

    b : Stepped s (record { initiator = k.initiator; acceptor = k.acceptor; outward = k.outward; homeward = r.left ++ r.sent_a }) k.acceptor a.world
        (FourIn now r.acceptor a.world.acceptor a.world.outward) roles.Acceptor
    b = acceptor_half s (midway s now j k r) a.world now k.acceptor k.outward r.sent_a a.shows sent_a a.sent.all r.turns_a

    numbers : (x y z : ℕ) → y ≤ x + 1 → z ≤ y + 1 → z ≤ x + 2
    numbers x y z e f = omega arith

-- what is left where a connection begins
pub left_at_first : (s : Session) (j : Joint) (w : World) → Begun s j w → left_of s w ≤ bound (entries_of s) + 4
left_at_first s j w begun =
    numbers (measure s w) (idle_measure s.start.initiator.config s.start.acceptor.config (length s.outbox_i.made) (length s.outbox_a.made) s.start.initiator.facts.recorded s.start.acceptor.facts.recorded)
    (bound (entries_of s)) (open_of w.initiator.ending) (open_of w.acceptor.ending) fell within (open_most w.initiator.ending) (open_most w.acceptor.ending)
  where
    matches : Match s.start.initiator.config s.start.acceptor.config
    matches = begun.shows.known.0.matches

    there : after s.start (meets begun.shows.now_i begun.shows.now_a) ≡ w
    there = ap (λ (l : List Step). world_after s.start (meets begun.shows.now_i begun.shows.now_a ∷ l)) (sym begun.first) ∙ begun.shows.there

    fell : measure s w + 4 ≤ idle_measure s.start.initiator.config s.start.acceptor.config (length s.outbox_i.made) (length s.outbox_a.made) s.start.initiator.facts.recorded s.start.acceptor.facts.recorded
    fell = subst (λ (v : World). measure s v + 4
        ≤ idle_measure s.start.initiator.config s.start.acceptor.config (length s.outbox_i.made) (length s.outbox_a.made) s.start.initiator.facts.recorded s.start.acceptor.facts.recorded) there
        (meets_fall s.outbox_i.made s.outbox_a.made s.start begun.shows.now_i begun.shows.now_a matches)

    within : idle_measure s.start.initiator.config s.start.acceptor.config (length s.outbox_i.made) (length s.outbox_a.made) s.start.initiator.facts.recorded s.start.acceptor.facts.recorded ≤ bound (entries_of s)
    within = idle_within s.start.initiator.config s.start.acceptor.config (length s.outbox_i.made) (length s.outbox_a.made) s.start.initiator.facts.recorded s.start.acceptor.facts.recorded
        (ap (λ (r : Role). is_initiator r) matches.initiates) (ap (λ (r : Role). is_initiator r) matches.accepts) matches.outward matches.homeward begun.next_i begun.next_a

    numbers : (m i b o u : ℕ) → m + 4 ≤ i → i ≤ b → o ≤ 4 → u ≤ 4 → m + (o + u) ≤ b + 4
    numbers m i b o u e f g h = omega arith

pub drain_suffices : DrainSuffices
drain_suffices = record { begins = begins; stands = stands }
  where
    begins : (s : Session) (now : ℕ) (j : Joint) (w : World) (rounds : List Joint) → Begun s j w → AreDrain s now j rounds → rounds_for (entries_of s) ≤ length rounds → IsOver (last_of j rounds)
    begins s now j w [] begun d few = absurd (numbers (entries_of s) few)
      where
        numbers : (m : ℕ) → 64 + 16 * m ≤ 0 → ⊥
        numbers m e = omega arith
    begins s now j w (k ∷ later) begun d few =
        let x = first_round s now j k w begun d.0.0 in
        drain_ends s (now + 1) k x.world later x.shows x.sent d.1 (numbers (left_of s w) (left_of s x.world) (entries_of s) (length later) x.rises (left_at_first s j w begun) few)
      where
        numbers : (a b m n : ℕ) → b ≤ a + 2 → a ≤ (29 * m + 77) + 4 → 64 + 16 * m ≤ suc n → b ≤ 2 * n
        numbers a b m n e f g = omega arith

    stands : (s : Session) (now : ℕ) (j : Joint) (w : World) (rounds : List Joint) → Shows s j w → AreSent j → left_of s w ≤ bound (entries_of s) + 10 → AreDrain s now j rounds
        → rounds_for (entries_of s) ≤ length rounds → IsOver (last_of j rounds)
    stands s now j w rounds sh are within d few = drain_ends s now j w rounds sh are d (numbers (left_of s w) (entries_of s) (length rounds) within few)
      where
        numbers : (a m n : ℕ) → a ≤ (29 * m + 77) + 10 → 64 + 16 * m ≤ n → a ≤ 2 * n
        numbers a m n e f = omega arith
