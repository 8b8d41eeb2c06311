-- Connections that are linked by their bytes are linked, and so two ends are a session; and each inbox goes on from what it held.
use Rattle.std.proofs.Common.{◌≡◌, ℕ, Bool, List, [], ◌∷◌, ◌++◌, map, length, Option, Some, None, IfSome, refl, sym, ap, subst, ◌∙◌, append-nil}
use Rattle.std.specs.Prelude.{flat_map}
use Rattle.std.specs.List.{AllByRecursion}
use Rattle.std.proofs.lemmas.List.{map-append}
use Rattle.sofh_frame.specs.Splits.{frames_of}
use Rattle.session_model.specs.Journal.{Entry, entries}
use Rattle.session_model.specs.Inbox.{InboxRecord}
use Rattle.session_model.specs.Events.{Event}
use Rattle.session_model.specs.Events.{TrueOfJournal}
use Rattle.session_model.specs.Lives.{Served, served_on, Life, KeepsConnections, KeepsOutbox, KeepsContract, Chained, accepted_of, written_of, connections_of, TakenFrom, Linked}
use Rattle.session_model.specs.Lives
use Rattle.session_model.proofs.Lists.{prefix_trans, all_append}
use Rattle.session_model.proofs.Carried.{linked_carries, linked_turned, carried_fronts, carried_true, carried_rising, fronts_begin}
use Rattle.session_model.proofs.Chains.{Processed, read_processed, wrote_true, wrote_rising, handshakes_of, begins_of}
use Rattle.session_model.specs.Growth as model
use Rattle.session_model.specs.Growth.{GrownThrough}
use Rattle.session_model.specs.Guarantee.{OneEnd, CarriedFrom, Session}
use Rattle.session_model.proofs.Guarantees.{session_turns_round, recoverable_guarantee, idempotent_guarantee, unsequenced_guarantee, no_flow_guarantee}
use Rattle.fixp_msgs.specs.declared.flow.Flow.{Flow}
use Rattle.fixp_msgs.specs.declared.flow.Flow.TheVariants as flows
use Rattle.fixp_machine.specs.Machine.{State, Call}
use Rattle.fixp_machine.specs.Accepting.{model_flow}
use Rattle.connection_laws.specs.Writing.{Piece, bytes_written, events_written}
use Rattle.connection_laws.specs.Courses.{Course, inbox_of, beginning, course_after}
use Rattle.connection_laws.specs.Standing.{AllMayStand}
use Rattle.connection_laws.specs.Living.{Leg, course_of, MayRun, AllMayRun, state_behind, inbox_behind, life_on, Opens}
use Rattle.connection_laws.specs.Connections.{connection_of}
use Rattle.connection_laws.proofs.Living.{ran, behind, life_serves, life_refused_tail}
use Rattle.two_ends.specs.Reading.{AreRead}
use Rattle.turn_laws.specs.Came.{came}
use Rattle.stranger_laws.specs.Opening.{opens, NoneIs}
use Rattle.stranger_laws.proofs.Deaf.{stranger_is_deaf}
use Rattle.two_ends.specs.Hearing.{TakesFrom}
use Rattle.turn_laws.specs.MachineLives.{Refusal, IsRefusedAt, refused_of, Refused, MachineLife, served_with, life_in}
use Rattle.two_ends.specs.GoingOn.{Boxes, new_boxes, HoldsOn}
use Rattle.two_ends.specs.Meeting.{Run, course_in, calls_behind, heard_in, accepted_in, connection_in, MayBegin, ReadsFrom, no_more, left_alone, right_alone, paired, LinksHold, runs_on, last_run, runs_of, MayRefuse, MayLive, TwoEndsFrom, end_in, SessionOfEnds, Holds, EndsHold, EndsGoOn}
use Rattle.two_ends.proofs.GoingOn.{applies_on, settles_on, delivers_on, takes_none}
use Rattle.turn_laws.proofs.Going.{after_append, may_append}
use Rattle.two_ends.proofs.Cutting.{written_is_read}
use Rattle.two_ends.proofs.Heard.{events_begin, heard_from}

-- all calls of a connection may come, with those that add what a failed call tried; and they accept what the connection accepted with these
all_come : (h : List Entry) (c : Course) (calls : List Call) (q : Option Refusal) → AllMayStand h c calls → IfSome q (IsRefusedAt h (course_after c calls)) → AllMayStand h c (calls ++ calls_behind q)
all_come h c calls None all at = subst (λ (cs : List Call). AllMayStand h c cs) (sym (append-nil calls)) all
all_come h c calls (Some q) all at = may_append h c calls q.calls all at.may

accepted_is : (c : Course) (calls : List Call) (q : Option Refusal) → (course_after c (calls ++ calls_behind q)).accepted ≡ accepted_in (course_after c calls) q
accepted_is c calls None = ap (λ (cs : List Call). (course_after c cs).accepted) (append-nil calls)
accepted_is c calls (Some q) = ap (λ (e : Course). e.accepted) (after_append c calls q.calls)

-- what is taken of the frames that came
takes_in : (written : List Event) (r : Run) → TakesFrom written (course_after (beginning r.state r.inbox r.leg.moment) (heard_in r)) → TakenFrom written (connection_in r).accepted
takes_in written r t = subst (λ (es : List Event). TakenFrom written es) (accepted_is (beginning r.state r.inbox r.leg.moment) r.leg.calls r.refused) t.accepted

-- a connection to which no frame came that opens the session accepted nothing
alone : (r : Run) → MayBegin r → NoneIs (opens r.state.config) (came (heard_in r)) → (connection_in r).accepted ≡ []
alone r may none =
    let c : Course = beginning r.state r.inbox r.leg.moment in
    sym (accepted_is c r.leg.calls r.refused)
    ∙ (stranger_is_deaf r.outbox r.state r.inbox r.leg.moment (heard_in r)
    (record { awaits = may.awaits; enough = may.enough; each = all_come r.outbox c r.leg.calls r.refused may.calls may.refused }) none).accepted

-- an end takes of what it read from another
reads : (reader writer : Run) → MayBegin reader → MayBegin writer → ReadsFrom reader writer → TakenFrom (connection_in writer).written (connection_in reader).accepted
reads reader writer mine theirs from =
    takes_in (events_written writer.leg.whole) reader
    (heard_from reader.outbox reader.state reader.inbox reader.leg.moment (heard_in reader) read (events_written writer.leg.whole) (frames_of from.came.bytes) mine.awaits mine.enough
    (all_come reader.outbox (beginning reader.state reader.inbox reader.leg.moment) reader.leg.calls reader.refused mine.calls mine.refused)
    from.came.frames r.frames (events_begin read writer.leg.whole (from.whole.all read r.first (prefix_trans (bytes_written read) from.came.bytes from.sent r.whole from.came.begins))))
  where
    d : Course
    d = course_in writer

    both : (read : List Piece) × AreRead d.output from.came.bytes read
    both = written_is_read d.output from.came.bytes from.legal from.came.are_bytes (prefix_trans from.came.bytes from.sent (bytes_written d.output) from.came.begins from.written)

    read : List Piece
    read = both.0

    r : AreRead d.output from.came.bytes read
    r = both.1

pub links_hold : LinksHold
links_hold [] [] all_a all_b no_more = Lives.Linked.no_more
links_hold (a ∷ as') bs all_a all_b (left_alone none linked) = Lives.Linked.left_alone (alone a all_a.0 none) (links_hold as' bs all_a.1 all_b linked)
links_hold as' (b ∷ bs) all_a all_b (right_alone none linked) = Lives.Linked.right_alone (alone b all_b.0 none) (links_hold as' bs all_a all_b.1 linked)
links_hold (a ∷ as') (b ∷ bs) all_a all_b (paired p q linked) =
    Lives.Linked.paired (reads a b all_a.0 all_b.0 p) (reads b a all_b.0 all_a.0 q) (links_hold as' bs all_a.1 all_b.1 linked)

-- the one connection on which a call of the disk failed
refused_connection : (c : Course) (q : Refusal) (whole : List Piece) (drained : Bool)
    → record (connection_of c whole drained) { accepted = accepted_in c (Some q) } ∷ [] ≡ (refused_of c q whole drained).connections
refused_connection c q whole drained = refl

-- the connections of a life are those of its runs
connections_on : (h : List Entry) (s : State) (inbox : List InboxRecord) (legs : List Leg) → map connection_in (runs_on h s inbox legs) ≡ (life_on s inbox legs).connections
connections_on h s inbox [] = refl
connections_on h s inbox (leg ∷ later) =
    let here : Run = record { outbox = h; state = s; inbox = inbox; leg = leg; refused = None } in
    ap (λ cs. connection_in here ∷ cs) (connections_on h (course_of s inbox leg).state (inbox_of (course_of s inbox leg)) later)

connections_in : (l : MachineLife) → map connection_in (runs_of l) ≡ (life_in l).served.connections
connections_in l =
    map-append connection_in (runs_on h l.state l.inbox l.legs) (last_run h s inbox l.last)
    ∙ (ap (λ cs. cs ++ map connection_in (last_run h s inbox l.last)) (connections_on h l.state l.inbox l.legs) ∙ by_last l.last)
  where
    h : List Entry
    h = entries l.closing_outbox

    s : State
    s = state_behind l.state l.inbox l.legs

    inbox : List InboxRecord
    inbox = inbox_behind l.state l.inbox l.legs

    first : Served
    first = life_on l.state l.inbox l.legs

    by_last : (q : Option Refused) → first.connections ++ map connection_in (last_run h s inbox q) ≡ (served_with first s inbox q).connections
    by_last None = append-nil first.connections
    by_last (Some r) = ap (λ cs. first.connections ++ cs) (refused_connection (course_of s inbox r.leg) r.refusal r.leg.whole r.leg.drained)

connections_of_all : (lives : List MachineLife) → map connection_in (flat_map runs_of lives) ≡ flat_map (λ (life : Life). life.served.connections) (map life_in lives)
connections_of_all [] = refl
connections_of_all (l ∷ later) =
    map-append connection_in (runs_of l) (flat_map runs_of later)
    ∙ (ap (λ cs. cs ++ map connection_in (flat_map runs_of later)) (connections_in l) ∙ ap (λ cs. (life_in l).served.connections ++ cs) (connections_of_all later))

-- each of them begins where it may
may_begin_on : (opened h : List Entry) (s : State) (inbox : List InboxRecord) (legs : List Leg) → Opens opened h s inbox → AllMayRun h s inbox legs → AllByRecursion MayBegin (runs_on h s inbox legs)
may_begin_on opened h s inbox [] o all = tt
may_begin_on opened h s inbox (leg ∷ later) o all = (
  record { awaits = o.awaits; enough = o.enough; calls = all.0.calls; refused = tt },
  may_begin_on opened h (course_of s inbox leg).state (inbox_of (course_of s inbox leg)) later (ran opened h s inbox leg o all.0).next all.1,
)

may_begin_last : (opened h : List Entry) (s : State) (inbox : List InboxRecord) (q : Option Refused) → Opens opened h s inbox → IfSome q (MayRefuse h s inbox) → AllByRecursion MayBegin (last_run h s inbox q)
may_begin_last opened h s inbox None o may = tt
may_begin_last opened h s inbox (Some r) o may = (record { awaits = o.awaits; enough = o.enough; calls = may.runs.calls; refused = may.refuses }, tt)

may_begin : (own peer : Flow) (lives : List MachineLife) → AllByRecursion (MayLive own peer) lives → AllByRecursion MayBegin (flat_map runs_of lives)
may_begin own peer [] all = tt
may_begin own peer (l ∷ later) all =
    let opened : List Entry = entries l.opening_outbox in
    let h : List Entry = entries l.closing_outbox in
    let s : State = state_behind l.state l.inbox l.legs in
    let inbox : List InboxRecord = inbox_behind l.state l.inbox l.legs in
    let may = all.0 in
    all_append MayBegin (runs_of l) (flat_map runs_of later)
    (all_append MayBegin (runs_on h l.state l.inbox l.legs) (last_run h s inbox l.last) (may_begin_on opened h l.state l.inbox l.legs may.opens may.legs)
    (may_begin_last opened h s inbox l.last (behind opened h l.state l.inbox l.legs may.opens may.legs).opens may.last))
    (may_begin own peer later all.1)

-- each life keeps its contract
keeps : (own peer : Flow) (l : MachineLife) → MayLive own peer l
    → KeepsConnections (model_flow own) (model_flow peer) (entries l.opening_outbox) (entries l.closing_outbox) (life_in l).served
keeps own peer l may =
    subst (λ k. KeepsConnections (model_flow k) (model_flow peer) opened h (life_in l).served) may.own_flow
    (subst (λ k. KeepsConnections (model_flow l.state.config.own_flow) (model_flow k) opened h (life_in l).served) may.peer_flow (by_last l.last may.last))
  where
    opened : List Entry
    opened = entries l.opening_outbox

    h : List Entry
    h = entries l.closing_outbox

    s : State
    s = state_behind l.state l.inbox l.legs

    inbox : List InboxRecord
    inbox = inbox_behind l.state l.inbox l.legs

    by_refusal : (leg : Leg) (q : Refusal) → MayRun h s inbox leg → IsRefusedAt h (course_of s inbox leg) q
        → KeepsConnections (model_flow l.state.config.own_flow) (model_flow l.state.config.peer_flow) opened h
        (served_on (life_on l.state l.inbox l.legs) (refused_of (course_of s inbox leg) q leg.whole leg.drained))
    by_refusal leg q runs adds = life_refused_tail opened h l.state l.inbox l.legs leg q.calls q.tried may.opens may.legs runs adds

    by_last : (q : Option Refused) → IfSome q (MayRefuse h s inbox)
        → KeepsConnections (model_flow l.state.config.own_flow) (model_flow l.state.config.peer_flow) opened h (served_with (life_on l.state l.inbox l.legs) s inbox q)
    by_last None none = life_serves opened h l.state l.inbox l.legs may.opens may.legs
    by_last (Some r) last = by_refusal r.leg r.refusal last.runs last.refuses

contracts : (own peer : Flow) (plan : ℕ → List (List ℕ) → List (List ℕ)) (lives : List MachineLife) → AllByRecursion (MayLive own peer) lives
    → AllByRecursion (KeepsOutbox plan) (map life_in lives) → AllByRecursion (KeepsContract (model_flow own) (model_flow peer) plan) (map life_in lives)
contracts own peer plan [] all outboxes = tt
contracts own peer plan (l ∷ later) all outboxes = (record { connections = keeps own peer l all.0; outbox = outboxes.0 }, contracts own peer plan later all.1 outboxes.1)

-- two ends, whose journals held this at first, in the session model's words
record SessionFrom (from_a from_b : Boxes) (a b : OneEnd model.Flow Life) : Type 0 where
  chained_a : Chained from_a.outbox from_a.inbox a.lives a.outbox a.inbox
  chained_b : Chained from_b.outbox from_b.inbox b.lives b.outbox b.inbox
  contract_a : AllByRecursion (KeepsContract a.flow b.flow a.plan) a.lives
  contract_b : AllByRecursion (KeepsContract b.flow a.flow b.plan) b.lives
  linked : Linked (connections_of a.lives) (connections_of b.lives)

session_from : (from_a from_b : Boxes) (a b : OneEnd Flow MachineLife) → TwoEndsFrom from_a from_b a b → SessionFrom from_a from_b (end_in a) (end_in b)
session_from from_a from_b a b e = record {
  chained_a = e.chained_a;
  chained_b = e.chained_b;
  contract_a = contracts a.flow b.flow a.plan a.lives e.lives_a e.outboxes_a;
  contract_b = contracts b.flow a.flow b.plan b.lives e.lives_b e.outboxes_b;
  linked =
      subst (λ cs. Linked cs (flat_map (λ (life : Life). life.served.connections) (map life_in b.lives))) (connections_of_all a.lives)
      (subst (λ cs. Linked (map connection_in (flat_map runs_of a.lives)) cs) (connections_of_all b.lives)
      (links_hold (flat_map runs_of a.lives) (flat_map runs_of b.lives) (may_begin a.flow b.flow a.lives e.lives_a) (may_begin b.flow a.flow b.lives e.lives_b) e.linked));
}

turned_round : (from_a from_b : Boxes) (a b : OneEnd model.Flow Life) → SessionFrom from_a from_b a b → SessionFrom from_b from_a b a
turned_round from_a from_b a b s = record {
  chained_a = s.chained_b;
  chained_b = s.chained_a;
  contract_a = s.contract_b;
  contract_b = s.contract_a;
  linked = linked_turned (connections_of a.lives) (connections_of b.lives) s.linked;
}

pub session_of_ends : SessionOfEnds
session_of_ends a b e =
    let s = session_from new_boxes new_boxes a b e in
    record { chained_a = s.chained_a; chained_b = s.chained_b; contract_a = s.contract_a; contract_b = s.contract_b; linked = s.linked }

-- by the guarantee of the sender's flow
holds : (flow : Flow) (a b : OneEnd model.Flow Life) → a.flow ≡ model_flow flow → Session a b → Holds flow (entries a.outbox) b.inbox
holds flows.Recoverable a b is s = (recoverable_guarantee a b is s).0
holds flows.Idempotent a b is s = (idempotent_guarantee a b is s).0
holds flows.Unsequenced a b is s = (unsequenced_guarantee a b is s).0
holds flows.None a b is s = no_flow_guarantee a b is s

pub ends_hold : EndsHold
ends_hold a b e =
    let s = session_of_ends a b e in (
      holds a.flow (end_in a) (end_in b) refl s,
      holds b.flow (end_in b) (end_in a) refl (session_turns_round (end_in a) (end_in b) s),
    )

-- What b processed of what a wrote leads its inbox on from what it held
module _ (from_a from_b : Boxes) (a b : OneEnd model.Flow Life) (s : SessionFrom from_a from_b a b) where
  abbrev read : Processed a.flow b.lives from_b.inbox b.inbox
  read = read_processed b.flow a.flow b.plan b.lives from_b.outbox b.outbox from_b.inbox b.inbox s.contract_b s.chained_b

  abbrev wrote : List (List Event)
  wrote = written_of (connections_of a.lives)

  abbrev accepted : List (List Event)
  accepted = accepted_of (connections_of b.lives)

  carried : CarriedFrom wrote read.events
  carried = carried_fronts wrote accepted read.events (linked_carries (connections_of a.lives) (connections_of b.lives) s.linked) read.fronts

  -- where a's flow has numbers all of it is true of a's outbox
  read_true : AllByRecursion (TrueOfJournal (entries a.outbox) None) wrote → AllByRecursion (TrueOfJournal (entries a.outbox) None) read.events
  read_true all =
      carried_true (entries a.outbox) wrote read.events carried (handshakes_of a.flow b.flow a.plan a.lives s.contract_a)
      (fronts_begin read.events accepted read.fronts (begins_of b.flow a.flow b.plan b.lives s.contract_b)) all

  module _ (kind : model.Flow) (is : a.flow ≡ kind) where
    contract_of : AllByRecursion (KeepsContract kind b.flow a.plan) a.lives
    contract_of = subst (λ f. AllByRecursion (KeepsContract f b.flow a.plan) a.lives) is s.contract_a

    grown_of : GrownThrough kind read.events from_b.inbox b.inbox
    grown_of = subst (λ f. GrownThrough f read.events from_b.inbox b.inbox) is read.grown

  goes_on : (flow : Flow) → a.flow ≡ model_flow flow → HoldsOn flow (entries from_a.outbox) (entries a.outbox) from_b.inbox b.inbox
  goes_on flows.Recoverable is =
      applies_on (entries a.outbox) read.events from_b.inbox b.inbox
      (read_true (wrote_true model.recoverable b.flow a.plan a.lives from_a.outbox a.outbox from_a.inbox a.inbox (λ _ _ _ w. w) (contract_of model.recoverable is) s.chained_a))
      (grown_of model.recoverable is)
  goes_on flows.Idempotent is =
      settles_on (entries a.outbox) read.events from_b.inbox b.inbox
      (read_true (wrote_true model.idempotent b.flow a.plan a.lives from_a.outbox a.outbox from_a.inbox a.inbox (λ _ _ _ w. w) (contract_of model.idempotent is) s.chained_a))
      (grown_of model.idempotent is)
  goes_on flows.Unsequenced is =
      delivers_on (entries from_a.outbox) (entries a.outbox) read.events from_b.inbox b.inbox
      (carried_rising (entries a.outbox) wrote read.events carried (length (entries from_a.outbox))
      (wrote_rising b.flow a.plan a.lives from_a.outbox a.outbox from_a.inbox a.inbox (contract_of model.unsequenced is) s.chained_a))
      (grown_of model.unsequenced is)
  goes_on flows.None is = takes_none read.events from_b.inbox b.inbox (grown_of model.no_flow is)

pub ends_go_on : EndsGoOn
ends_go_on from_a from_b a b e =
    let s = session_from from_a from_b a b e in (
      goes_on from_a from_b (end_in a) (end_in b) s a.flow refl,
      goes_on from_b from_a (end_in b) (end_in a) (turned_round from_a from_b (end_in a) (end_in b) s) b.flow refl,
    )
