-- Two ends that run the loop are two ends of the machine.
use Rattle.std.proofs.Common.{◌≡◌, ℕ, ◌≤◌, List, [], ◌∷◌, ◌++◌, map, length, Option, Some, None, IfSome, refl, sym, subst, ◌∙◌, append-nil}
use Rattle.std.specs.Prelude.{flat_map, option_map}
use Rattle.std.specs.List.{AllByRecursion, AllZip}
use mathlib.Core.List.{IsPrefix}
use Rattle.sofh_frame.specs.Splits.{frames_of}
use Rattle.sofh_frame.proofs.SplitLemmas.{frames_of-none}
use Rattle.session_model.specs.Journal.{Entry, entries}
use Rattle.session_model.specs.Inbox.{InboxRecord, next_number}
use Rattle.session_model.specs.Guarantee.{OneEnd}
use Rattle.session_model.proofs.Lists.{all_first, all_second}
use Rattle.fixp_msgs.specs.Payload.{IsApplication}
use Rattle.fixp_msgs.specs.declared.flow.Flow.{Flow}
use Rattle.fixp_shake.specs.declared.config.EndConfig.{EndConfig}
use Rattle.fixp_machine.specs.Machine.{State, Call}
use Rattle.connection_laws.specs.Framed.{IsLegalPiece}
use Rattle.connection_laws.specs.Writing.{bytes_written}
use Rattle.connection_laws.specs.Courses.{Course, inbox_of, beginning}
use Rattle.connection_laws.specs.Standing.{Stands, AllMayStand}
use Rattle.connection_laws.specs.Living.{Leg, course_of, AllMayRun, Opens}
use Rattle.connection_laws.proofs.Continuing.{calls_go_on}
use Rattle.connection_laws.proofs.Going.{calls_keep, connection_begins}
use Rattle.connection_laws.proofs.Living.{behind}
use Rattle.connection_laws.specs.Ranges.{IsInRange}
use Rattle.connection_laws.specs.LegalLaws.{StaysLegal}
use Rattle.connection_laws.proofs.Written.{written_is_legal}
use Rattle.turn_laws.specs.Came.{came, AreFirstOf}
use Rattle.stranger_laws.specs.Opening.{opens, NoneIs, IsStrange}
use Rattle.stranger_laws.proofs.Given.{none_came, no_frame_is_strange}
use Rattle.two_ends.specs.GoingOn.{Boxes, new_boxes}
use Rattle.two_ends.specs.Meeting.{Run, heard_in, TookWhole, ReadsFrom, LinkedByBytes, runs_on, last_run, runs_of, MayRefuse, MayLive, TwoEndsFrom}
use Rattle.two_ends.specs.Meeting
use Rattle.two_ends.proofs.Sessions.{session_of_ends, ends_hold, ends_go_on}
use Rattle.turn_laws.specs.Legs.{TurnedLeg, IsTimely, calls_on, AreTurnsOf, given_on, sent_on, course_on, leg_of}
use Rattle.turn_laws.specs.Lives.{AllAreTurns, legs_of, state_after, inbox_after}
use Rattle.turn_laws.proofs.Running.{leg_stands, turns_run, all_run}
use Rattle.turn_laws.proofs.Sent.{sent_are_written}
use Rattle.turn_laws.specs.LoopLives.{RefusedLeg, LoopLife, refused_leg, machine_life, IsRefusedOn, MayTurn, last_leg, legs_in}
use Rattle.two_ends.specs.Loops.{ReadsOf, IsStrangeTo, LinkedLinks, configs_of, TwoLoopsFrom, machine_end, no_more, left_alone, right_alone, paired}
use Rattle.two_ends.specs.LoopLaws.{LoopsAreEnds, LoopsAreASession, LoopsHold, LoopsGoOn}
use Rattle.turn_laws.proofs.Given.{given_are_bytes, given_came, calls_fit}
use Rattle.two_ends.proofs.Whole.{sent_are_whole}

-- A run of the machine is these turns, begins where it may, and is in range; and bytes that are strange to all lives of its end are so to it
record IsRunOf (Strange : List ℕ → Type 0) (r : Run) (t : TurnedLeg) : Type 0 where
  turns : AreTurnsOf r.outbox r.state t
  leg : r.leg ≡ leg_of r.state r.inbox t
  awaits : r.state.facts.recorded.inbox_next ≡ next_number r.inbox
  enough : r.state.facts.recorded.sent ≤ length r.outbox
  range : IsInRange r.state
  payloads : AllByRecursion (λ (e : Entry). IsApplication e.payload) r.outbox
  timely : IsTimely t
  heard : AreFirstOf (came (heard_in r)) (frames_of (given_on t))
  strange : (given : List ℕ) → Strange given → IsStrange r.state.config given

-- so it writes legal frames, and stays in range
legal_run : (h : List Entry) (s : State) (inbox : List InboxRecord) (t : TurnedLeg) → s.facts.recorded.inbox_next ≡ next_number inbox → s.facts.recorded.sent ≤ length h → IsInRange s
    → AllByRecursion (λ (e : Entry). IsApplication e.payload) h → AreTurnsOf h s t → IsTimely t → StaysLegal (course_on s inbox t)
legal_run h s inbox t awaits enough range payloads turns timely =
    written_is_legal h s inbox t.moment (calls_on t) range enough (record { payloads = payloads; few = turns.has.few }) timely.begins (leg_stands h s inbox t awaits enough turns) (calls_fit h s t turns timely)

-- where what was given is strange, no frame came that opens the session
alone : (Strange : List ℕ → Type 0) (r : Run) (t : TurnedLeg) → IsRunOf Strange r t → Strange (given_on t) → NoneIs (opens r.state.config) (came (heard_in r))
alone Strange r t k given = none_came (opens r.state.config) (given_on t) (came (heard_in r)) (k.strange (given_on t) given) k.heard

-- who says nothing is a stranger to all
pub silent_is_strange : (configs : List EndConfig) → IsStrangeTo configs []
silent_is_strange [] = tt
silent_is_strange (cfg ∷ later) = (no_frame_is_strange (opens cfg) [] (frames_of-none [] tt), silent_is_strange later)

-- what came on one of which nothing was refused
heard_whole : (h : List Entry) (s : State) (t : TurnedLeg) → AreTurnsOf h s t → AreFirstOf (came (calls_on t ++ [])) (frames_of (given_on t))
heard_whole h s t k = subst (λ (cs : List Call). AreFirstOf (came cs) (frames_of (given_on t))) (sym (append-nil (calls_on t))) (given_came h s t k)

reads : (StrangeToR StrangeToW : List ℕ → Type 0) (r w : Run) (t u : TurnedLeg) → IsRunOf StrangeToR r t → IsRunOf StrangeToW w u → ReadsOf t u → ReadsFrom r w
reads StrangeToR StrangeToW r w t u x y from = record {
  sent = sent_on u;
  written = subst (λ (leg : Leg). IsPrefix (sent_on u) (bytes_written (course_of w.state w.inbox leg).output)) (sym y.leg) (sent_are_written w.outbox w.state w.inbox u y.awaits y.enough y.turns).written;
  came = record {
    bytes = given_on t;
    are_bytes = given_are_bytes t x.timely;
    begins = from;
    frames = x.heard;
  };
  legal = subst (λ (leg : Leg). AllByRecursion IsLegalPiece (course_of w.state w.inbox leg).output) (sym y.leg) (legal_run w.outbox w.state w.inbox u y.awaits y.enough y.range y.payloads y.turns y.timely).legal;
  whole = subst (λ (leg : Leg). TookWhole (course_of w.state w.inbox leg) (sent_on u) leg.whole) (sym y.leg) (sent_are_whole w.outbox w.state w.inbox u y.awaits y.enough y.turns);
}

links : (A B : List EndConfig) (as' bs : List Run) (ts us : List TurnedLeg) → AllZip (IsRunOf (IsStrangeTo A)) as' ts → AllZip (IsRunOf (IsStrangeTo B)) bs us
    → LinkedLinks A B ts us → LinkedByBytes as' bs
links A B [] [] [] [] x y no_more = Meeting.LinkedByBytes.no_more
links A B (a ∷ as') bs [] [] x y no_more = absurd x
links A B [] (b ∷ bs) [] [] x y no_more = absurd y
links A B [] bs (t ∷ ts) us x y (left_alone given rest) = absurd x
links A B (a ∷ as') bs (t ∷ ts) us x y (left_alone given rest) = Meeting.LinkedByBytes.left_alone (alone (IsStrangeTo A) a t x.0 given) (links A B as' bs ts us x.1 y rest)
links A B as' [] ts (u ∷ us) x y (right_alone given rest) = absurd y
links A B as' (b ∷ bs) ts (u ∷ us) x y (right_alone given rest) = Meeting.LinkedByBytes.right_alone (alone (IsStrangeTo B) b u y.0 given) (links A B as' bs ts us x y.1 rest)
links A B [] bs (t ∷ ts) (u ∷ us) x y (paired f g rest) = absurd x
links A B (a ∷ as') [] (t ∷ ts) (u ∷ us) x y (paired f g rest) = absurd y
links A B (a ∷ as') (b ∷ bs) (t ∷ ts) (u ∷ us) x y (paired f g rest) =
    Meeting.LinkedByBytes.paired (reads (IsStrangeTo A) (IsStrangeTo B) a b t u x.0 y.0 f) (reads (IsStrangeTo B) (IsStrangeTo A) b a u t y.0 x.0 g) (links A B as' bs ts us x.1 y.1 rest)

zip_append : (Strange : List ℕ → Type 0) (rs more : List Run) (ts later : List TurnedLeg) → AllZip (IsRunOf Strange) rs ts → AllZip (IsRunOf Strange) more later → AllZip (IsRunOf Strange) (rs ++ more) (ts ++ later)
zip_append Strange [] more [] later x y = y
zip_append Strange [] more (t ∷ ts) later x y = absurd x
zip_append Strange (r ∷ rs) more [] later x y = absurd x
zip_append Strange (r ∷ rs) more (t ∷ ts) later x y = (x.0, zip_append Strange rs more ts later x.1 y)

-- the runs of a life are the turns of its connections, it stays in range, and its configuration stays
record AreRunsOf (Strange : List ℕ → Type 0) (h : List Entry) (s : State) (inbox : List InboxRecord) (legs : List TurnedLeg) : Type 0 where
  runs : AllZip (IsRunOf Strange) (runs_on h s inbox (legs_of s inbox legs)) legs
  range : IsInRange (state_after s inbox legs)
  config : (state_after s inbox legs).config ≡ s.config

runs_zip : (Strange : List ℕ → Type 0) (h : List Entry) (s : State) (inbox : List InboxRecord) (legs : List TurnedLeg) → s.facts.recorded.inbox_next ≡ next_number inbox → s.facts.recorded.sent ≤ length h → IsInRange s
    → AllByRecursion (λ (e : Entry). IsApplication e.payload) h → AllAreTurns h s inbox legs → AllByRecursion IsTimely legs → ((given : List ℕ) → Strange given → IsStrange s.config given) → AreRunsOf Strange h s inbox legs
runs_zip Strange h s inbox [] awaits enough range payloads all timely strange = record { runs = tt; range = range; config = refl }
runs_zip Strange h s inbox (t ∷ later) awaits enough range payloads all timely strange =
    let d : Course = course_on s inbox t in
    let may : AllMayStand h (beginning s inbox t.moment) (calls_on t) = leg_stands h s inbox t awaits enough all.0 in
    let st : Stands h d = calls_keep h (beginning s inbox t.moment) (calls_on t) (connection_begins h s inbox t.moment awaits enough) may in
    let same : d.state.config ≡ s.config = (calls_go_on h (beginning s inbox t.moment) (calls_on t) may).config in
    let rest = runs_zip Strange h d.state (inbox_of d) later st.agrees.recorded st.own.enough (legal_run h s inbox t awaits enough range payloads all.0 timely.0).range payloads all.1 timely.1
    (λ given k. subst (λ (cfg : EndConfig). IsStrange cfg given) (sym same) (strange given k)) in
    record {
      runs = (
        record { turns = all.0; leg = refl; awaits = awaits; enough = enough; range = range; payloads = payloads; timely = timely.0; heard = heard_whole h s t all.0; strange = strange },
        rest.runs,
      );
      range = rest.range;
      config = rest.config ∙ same;
    }

last_zip : (Strange : List ℕ → Type 0) (h : List Entry) (s : State) (inbox : List InboxRecord) (q : Option RefusedLeg) → s.facts.recorded.inbox_next ≡ next_number inbox → s.facts.recorded.sent ≤ length h → IsInRange s
    → AllByRecursion (λ (e : Entry). IsApplication e.payload) h → IfSome q (IsRefusedOn h s inbox) → AllByRecursion IsTimely (last_leg q) → ((given : List ℕ) → Strange given → IsStrange s.config given)
    → AllZip (IsRunOf Strange) (last_run h s inbox (option_map (refused_leg s inbox) q)) (last_leg q)
last_zip Strange h s inbox None awaits enough range payloads k timely strange = tt
last_zip Strange h s inbox (Some r) awaits enough range payloads k timely strange =
    (record { turns = k.turns; leg = refl; awaits = awaits; enough = enough; range = range; payloads = payloads; timely = timely.0; heard = k.heard; strange = strange }, tt)

last_refuses : (h : List Entry) (s : State) (inbox : List InboxRecord) (q : Option RefusedLeg) → s.facts.recorded.inbox_next ≡ next_number inbox → s.facts.recorded.sent ≤ length h
    → IfSome q (IsRefusedOn h s inbox) → IfSome (option_map (refused_leg s inbox) q) (MayRefuse h s inbox)
last_refuses h s inbox None awaits enough k = tt
last_refuses h s inbox (Some r) awaits enough k = record { runs = turns_run h s inbox r.leg awaits enough k.turns; refuses = k.refuses }

-- a life of the loop is one of the machine
record IsLife (Strange : List ℕ → Type 0) (own peer : Flow) (l : LoopLife) : Type 0 where
  runs : AllZip (IsRunOf Strange) (runs_of (machine_life l)) (legs_in l)
  lives : MayLive own peer (machine_life l)

is_life : (Strange : List ℕ → Type 0) (own peer : Flow) (l : LoopLife) → MayTurn own peer l → ((given : List ℕ) → Strange given → IsStrange l.state.config given) → IsLife Strange own peer l
is_life Strange own peer l may strange =
    let h : List Entry = entries l.closing_outbox in
    let s : State = state_after l.state l.inbox l.legs in
    let inbox : List InboxRecord = inbox_after l.state l.inbox l.legs in
    let all : AllMayRun h l.state l.inbox (legs_of l.state l.inbox l.legs) = all_run h l.state l.inbox l.legs may.opens.awaits may.opens.enough may.turns in
    let o : Opens (entries l.opening_outbox) h s inbox = (behind (entries l.opening_outbox) h l.state l.inbox (legs_of l.state l.inbox l.legs) may.opens all).opens in
    let first : AreRunsOf Strange h l.state l.inbox l.legs =
    runs_zip Strange h l.state l.inbox l.legs may.opens.awaits may.opens.enough may.range may.payloads may.turns (all_first IsTimely l.legs (last_leg l.last) may.timely) strange in
    record {
      runs = zip_append Strange (runs_on h l.state l.inbox (legs_of l.state l.inbox l.legs)) (last_run h s inbox (option_map (refused_leg s inbox) l.last)) l.legs (last_leg l.last)
          first.runs (last_zip Strange h s inbox l.last o.awaits o.enough first.range may.payloads may.last (all_second IsTimely l.legs (last_leg l.last) may.timely)
          (λ given k. subst (λ (cfg : EndConfig). IsStrange cfg given) (sym first.config) (strange given k)));
      lives = record { own_flow = may.own_flow; peer_flow = may.peer_flow; opens = may.opens; legs = all; last = last_refuses h s inbox l.last o.awaits o.enough may.last };
    }

all_live : (own peer : Flow) (lives : List LoopLife) → AllByRecursion (MayTurn own peer) lives → AllByRecursion (MayLive own peer) (map machine_life lives)
all_live own peer [] all = tt
all_live own peer (l ∷ later) all = ((is_life (λ given. IsStrange l.state.config given) own peer l all.0 (λ given k. k)).lives, all_live own peer later all.1)

all_runs : (Strange : List ℕ → Type 0) (own peer : Flow) (lives : List LoopLife) → AllByRecursion (MayTurn own peer) lives → ((given : List ℕ) → Strange given → IsStrangeTo (configs_of lives) given)
    → AllZip (IsRunOf Strange) (flat_map runs_of (map machine_life lives)) (flat_map legs_in lives)
all_runs Strange own peer [] all strange = tt
all_runs Strange own peer (l ∷ later) all strange =
    zip_append Strange (runs_of (machine_life l)) (flat_map runs_of (map machine_life later)) (legs_in l) (flat_map legs_in later)
    (is_life Strange own peer l all.0 (λ given k. (strange given k).0)).runs (all_runs Strange own peer later all.1 (λ given k. (strange given k).1))

loops_from : (from_a from_b : Boxes) (a b : OneEnd Flow LoopLife) → TwoLoopsFrom from_a from_b a b → TwoEndsFrom from_a from_b (machine_end a) (machine_end b)
loops_from from_a from_b a b l = record {
  lives_a = all_live a.flow b.flow a.lives l.lives_a;
  lives_b = all_live b.flow a.flow b.lives l.lives_b;
  chained_a = l.chained_a;
  chained_b = l.chained_b;
  outboxes_a = l.outboxes_a;
  outboxes_b = l.outboxes_b;
  linked = links (configs_of a.lives) (configs_of b.lives) (flat_map runs_of (map machine_life a.lives)) (flat_map runs_of (map machine_life b.lives)) (flat_map legs_in a.lives) (flat_map legs_in b.lives)
      (all_runs (IsStrangeTo (configs_of a.lives)) a.flow b.flow a.lives l.lives_a (λ given k. k)) (all_runs (IsStrangeTo (configs_of b.lives)) b.flow a.flow b.lives l.lives_b (λ given k. k)) l.linked;
}

pub loops_are_ends : LoopsAreEnds
loops_are_ends a b l = loops_from new_boxes new_boxes a b l

pub loops_are_a_session : LoopsAreASession
loops_are_a_session a b l = session_of_ends (machine_end a) (machine_end b) (loops_are_ends a b l)

pub loops_hold : LoopsHold
loops_hold a b l = ends_hold (machine_end a) (machine_end b) (loops_are_ends a b l)

pub loops_go_on : LoopsGoOn
loops_go_on from_a from_b a b l = ends_go_on from_a from_b (machine_end a) (machine_end b) (loops_from from_a from_b a b l)
