-- One end in the course of its connection, what it wrote and the other has not read, and a whole turn of it.
use Rattle.std.proofs.Common.{◌≡◌, ℕ, List, [], ◌∷◌, ◌++◌, None, refl, sym, ap, subst, ◌∙◌, append_assoc}
use Rattle.std.specs.Prelude.{◌<◌, ◌^◌, length}
use Rattle.std.specs.List.{AllByRecursion}
use Rattle.std.proofs.lemmas.Grind.{flat_map-append}
use Rattle.std.proofs.lemmas.List.{append_cancel_left}
use mathlib.Core.List.{IsPrefix}
use Rattle.session_model.specs.Journal.{Entry, History, BeginsHistory}
use Rattle.session_model.proofs.Lists.{all_append, all_second}
use Rattle.fixp_machine.specs.Machine.{State, Call, tick, reserve, link_end, step, run}
use Rattle.conn_turns.specs.Lines.{Line}
use Rattle.conn_turns.specs.Turns.{Turn, IsFaithful, only_sends, works, link_lost, cut_short, not_begun, calls_of_frames, closing_calls, outbox_calls, sending_calls, calls_of}
use Rattle.connection_laws.specs.Writing.{Piece, bytes_of_piece, bytes_written}
use Rattle.connection_laws.specs.Framed.{IsLegalPiece}
use Rattle.connection_laws.specs.Courses.{Course, course_after}
use Rattle.connection_laws.specs.Standing.{AllMayStand}
use Rattle.connection_laws.specs.Ranges.{FitsCall}
use Rattle.turn_laws.specs.Turns.{IsTurn}
use Rattle.turn_laws.specs.Standing.{StandsAt, TurnStands}
use Rattle.turn_laws.specs.Legs.{given_in, sent_in, IsTimelyTurn}
use Rattle.turn_laws.proofs.Going.{may_append, after_append}
use Rattle.turn_laws.proofs.Working.{turn_may_stand, turn_makes_calls}
use Rattle.turn_laws.proofs.Sent.{Took, turn_took}
use Rattle.honest_ends.specs.Worlds.{World, written, initiator_calls}
use Rattle.honest_turns.specs.Opened.{WritesLegal, Open, Way, Passed}
use Rattle.honest_turns.specs.Steps.{initiator_steps, taken_in}
use Rattle.honest_turns.proofs.Reaching.{Reaches}
use Rattle.honest_turns.proofs.Calling.{output_after}
use Rattle.honest_turns.proofs.Turning.{TurnSteps, turn_steps}

-- the calls of a whole turn begin with a reserve
record Reserved (t : Turn) : Type 0 where
  later : List Call
  is : calls_of t ≡ reserve ∷ later

reserved : (before after : History) (old new : Line) (t : Turn) → IsTurn before after old new t → Reserved t
reserved before after old new (only_sends now sent lost) k = record { later = tick now ∷ sending_calls sent lost; is = refl }
reserved before after old new (works w) k =
    record { later = tick w.now ∷ (calls_of_frames w.now w.frames ++ (closing_calls w ++ (outbox_calls w ++ sending_calls w.sent w.lost))); is = refl }
reserved before after old new (link_lost now) k = record { later = tick now ∷ link_end ∷ []; is = refl }
reserved before after old new (cut_short now received frames refused) k = absurd k
reserved before after old new not_begun k = absurd k

-- so the room before it makes no difference
pub same_run : (s m : State) (cs later : List Call) → cs ≡ reserve ∷ later → step s reserve ≡ step m reserve → run s cs ≡ run m cs
same_run s m cs later made alike = ap (λ (ds : List Call). run s ds) made ∙ (ap (λ (x : State). run x later) alike ∙ ap (λ (ds : List Call). run m ds) (sym made))

pub same_written : (s m : State) (cs later : List Call) → cs ≡ reserve ∷ later → step s reserve ≡ step m reserve → written s cs ≡ written m cs
same_written s m cs later made alike = ap (λ (ds : List Call). written s ds) made ∙ (ap (λ (x : State). written x later) alike ∙ ap (λ (ds : List Call). written m ds) (sym made))

-- a whole turn of the initiator: its connection goes on, and so does what is under way both ways
pub record Moved (outbox : History) (ha : List Entry) (b : Course) (w : World) (old new : Line) (t : Turn) (theirs : State) (held out home : List ℕ) : Type 0 where
  pub world : World
  pub reaches : Reaches outbox.made ha w world
  pub by : reaches.steps ≡ initiator_steps t
  pub says : world.outward ≡ w.outward ++ written w.initiator (calls_of t)
  pub read : List Piece
  pub joins : w.homeward ≡ read ++ world.homeward
  pub counts : length read ≡ length (taken_in t)
  pub goes_on : (tail : List ℕ) → (old.held ++ given_in t) ++ tail ≡ bytes_written w.homeward → new.held ++ tail ≡ bytes_written world.homeward
  pub acceptor : world.acceptor ≡ w.acceptor
  pub here : Open outbox b world.initiator new
  pub outward : Way world.outward new.machine held out
  pub homeward : Way world.homeward theirs new.held home

pub regroup : (a b c d : List ℕ) → (a ++ (b ++ c)) ++ d ≡ (a ++ b) ++ (c ++ d)
regroup a b c d = ap (λ (xs : List ℕ). xs ++ d) (sym (append_assoc a b c)) ∙ append_assoc (a ++ b) c d

-- what a turn sends and leaves unsent is what was unsent and what it wrote
record Sends (c d : Course) (made : List Piece) (sent : List ℕ) : Type 0 where
  rest : List ℕ
  joins : sent ++ rest ≡ c.state.unsent ++ bytes_written made
  exact : d.state.ending ≡ None → rest ≡ d.state.unsent

sends : (c d : Course) (made : List Piece) (sent : List ℕ) → d.output ≡ c.output ++ made → bytes_written c.output ≡ c.taken ++ c.state.unsent → bytes_written d.output ≡ d.taken ++ d.state.unsent
    → Took d (c.taken ++ sent) → Sends c d made sent
sends c d made sent output before after took = record {
  rest = took.front.0;
  joins = append_cancel_left c.taken (sent ++ took.front.0) (c.state.unsent ++ bytes_written made)
      (sym (append_assoc c.taken sent took.front.0) ∙ (took.front.1 ∙ (ap (λ (ps : List Piece). bytes_written ps) output ∙ (flat_map-append bytes_of_piece c.output made
      ∙ (ap (λ (bs : List ℕ). bs ++ bytes_written made) before ∙ append_assoc c.taken c.state.unsent (bytes_written made))))));
  exact = λ going.
      append_cancel_left (c.taken ++ sent) took.front.0 d.state.unsent (took.front.1 ∙ (after ∙ ap (λ (bs : List ℕ). bs ++ d.state.unsent) (took.exact going)));
}

-- and so the way goes on
pub way_on : (pieces made : List Piece) (old new : State) (held out sent rest : List ℕ) → Way pieces old held out → old.ending ≡ None → AllByRecursion IsLegalPiece made
    → sent ++ rest ≡ old.unsent ++ bytes_written made → (new.ending ≡ None → rest ≡ new.unsent) → Way (pieces ++ made) new held (out ++ sent)
way_on pieces made old new held out sent rest way going legal joins exact = record {
  legal = all_append IsLegalPiece pieces made way.legal legal;
  within = (rest, sym whole);
  exact = λ on. whole ∙ ap (λ (bs : List ℕ). (held ++ (out ++ sent)) ++ bs) (exact on);
}
  where
    whole : bytes_written (pieces ++ made) ≡ (held ++ (out ++ sent)) ++ rest
    whole = flat_map-append bytes_of_piece pieces made
        ∙ (ap (λ (bs : List ℕ). bs ++ bytes_written made) (way.exact going)
        ∙ (append_assoc (held ++ out) old.unsent (bytes_written made)
        ∙ (ap (λ (bs : List ℕ). (held ++ out) ++ bs) (sym joins)
        ∙ sym (regroup held out sent rest))))

-- and what is left to read
pub way_read : (pieces left : List Piece) (theirs : State) (held given home left_held : List ℕ) → Way pieces theirs held (given ++ home) → AllByRecursion IsLegalPiece left
    → ((tail : List ℕ) → (held ++ given) ++ tail ≡ bytes_written pieces → left_held ++ tail ≡ bytes_written left) → Way left theirs left_held home
way_read pieces left theirs held given home left_held way legal goes_on = record {
  legal = legal;
  within = (way.within.0, append_assoc left_held home way.within.0 ∙ goes_on (home ++ way.within.0) (sym (regroup held given home way.within.0) ∙ way.within.1));
  exact = λ going.
      sym (append_assoc left_held home theirs.unsent ∙ goes_on (home ++ theirs.unsent) (sym (regroup held given home theirs.unsent) ∙ sym (way.exact going)));
}

pub turn_moves : (outbox : History) (ha : List Entry) (b : Course) (w : World) (before after : History) (old new : Line) (t : Turn) (theirs : State) (held out home : List ℕ)
    → WritesLegal outbox b → Passed outbox after → Open outbox b w.initiator old → old.machine.ending ≡ None → IsTurn before after old new t → IsFaithful t → IsTimelyTurn t
    → Way w.outward old.machine held out → Way w.homeward theirs old.held (given_in t ++ home) → Moved outbox ha b w old new t theirs held (out ++ sent_in t) home
turn_moves outbox ha b w before after old new t theirs held out home legal passed o going k faithful timely outward homeward = record {
  world = initiator_calls w x.left cs;
  reaches = x.reaches;
  by = x.by;
  says = refl;
  read = x.read;
  joins = x.joins;
  counts = x.counts;
  goes_on = x.goes_on;
  acceptor = refl;
  here = record {
    calls = o.calls ++ cs;
    may = may_all;
    fits = fits_all;
    at = subst (λ (e : Course). StandsAt h e new) (sym (after_append b o.calls cs)) stood.after;
    alike = ap (λ (m : State). step m reserve) (same_run w.initiator old.machine cs first.later first.is o.alike ∙ sym (turn_makes_calls before after old new t k));
  };
  outward = subst (λ (ps : List Piece). Way (w.outward ++ ps) new.machine held (out ++ sent_in t)) (sym (same_written w.initiator old.machine cs first.later first.is o.alike))
      (way_on w.outward made old.machine new.machine held out (sent_in t) s.rest outward going made_legal
      (s.joins ∙ ap (λ (m : State). m.unsent ++ bytes_written made) o.at.machine)
      (λ on. s.exact (ap (λ (m : State). m.ending) stood.after.machine ∙ on) ∙ ap (λ (m : State). m.unsent) stood.after.machine));
  homeward = way_read w.homeward x.left theirs old.held (given_in t) home new.held homeward x.legal x.goes_on;
}
  where
    h : List Entry
    h = outbox.made

    cs : List Call
    cs = calls_of t

    c : Course
    c = course_after b o.calls

    d : Course
    d = course_after c cs

    first : Reserved t
    first = reserved before after old new t k

    stood : TurnStands h c new t
    stood = turn_may_stand h before after old new t c o.at (record { begins = passed.begins.made; few = passed.few }) k faithful

    x : TurnSteps h ha w old new t
    x = turn_steps outbox ha w c before after old new t (home ++ homeward.within.0) o.at.machine o.alike o.at.drained stood.may passed.begins k timely.time homeward.legal
        (sym (regroup old.held (given_in t) home homeward.within.0) ∙ homeward.within.1)

    may_all : AllMayStand h b (o.calls ++ cs)
    may_all = may_append h b o.calls cs o.may stood.may

    fits_all : AllByRecursion FitsCall (o.calls ++ cs)
    fits_all = all_append FitsCall o.calls cs o.fits x.fits

    made : List Piece
    made = written old.machine cs

    output : d.output ≡ c.output ++ made
    output = output_after h c cs stood.may ∙ ap (λ (m : State). c.output ++ written m cs) o.at.machine

    made_legal : AllByRecursion IsLegalPiece made
    made_legal = all_second IsLegalPiece c.output made
        (subst (λ (ps : List Piece). AllByRecursion IsLegalPiece ps) (ap (λ (e : Course). e.output) (after_append b o.calls cs) ∙ output) (legal (o.calls ++ cs) may_all fits_all))

    s : Sends c d made (sent_in t)
    s = sends c d made (sent_in t) output o.at.stands.bytes stood.after.stands.bytes (turn_took h before after old new t c o.at.machine k stood.after.stands)
