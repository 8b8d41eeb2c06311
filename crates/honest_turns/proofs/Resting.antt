-- Two ends at rest behind a connection over one link.
use Rattle.std.proofs.Common.{◌≡◌, ◌≤◌, inl, inr, ℕ, true, List, [], ◌∷◌, ◌++◌, length, None, refl, sym, ap, subst, ◌∙◌, append-nil}
use Rattle.std.specs.List.{AllByRecursion, AllZip, flat_map}
use Rattle.std.proofs.lemmas.List.{append_cancel_left}
use Rattle.sofh_frame.specs.Framing.{Frame}
use Rattle.sofh_frame.specs.Splits.{frames_of}
use Rattle.sofh_frame.proofs.SplitLemmas.{frames_of-none}
use Rattle.session_model.specs.Journal.{Entry}
use Rattle.session_model.specs.Inbox.{next_number}
use Rattle.fixp_shake.specs.declared.config.EndConfig.{EndConfig}
use Rattle.fixp_shake.specs.Flows.{is_sequenced}
use Rattle.fixp_shake.specs.Phases.{is_established}
use Rattle.fixp_replies.specs.Facts.{finishes_exchanged}
use Rattle.fixp_machine.specs.Machine.{State, around, reserve, step}
use Rattle.conn_turns.specs.Turns.{Turn}
use Rattle.connection_laws.specs.Writing.{Piece, bytes_written}
use Rattle.connection_laws.specs.Framed.{IsLegalPiece}
use Rattle.connection_laws.specs.Courses.{Course, beginning}
use Rattle.connection_laws.specs.Standing.{Stands}
use Rattle.connection_laws.proofs.Continuing.{calls_go_on}
use Rattle.connection_laws.proofs.Going.{calls_keep, connection_begins}
use Rattle.turn_laws.specs.Legs.{calls_on, given_in, sent_in, given_on, sent_on, course_on}
use Rattle.turn_laws.proofs.Running.{leg_stands}
use Rattle.two_ends.specs.Reading.{ReadsAs}
use Rattle.two_ends.proofs.Cutting.{all_is_read}
use Rattle.honest_ends.specs.Worlds.{World, meets, after}
use Rattle.honest_ends.specs.Resting.{IsIdle, IsAtRest, HasAll}
use Rattle.honest_ends.proofs.RestLaws.{rest_has_all, all_is_equal}
use Rattle.honest_turns.specs.Links.{of_initiator, of_acceptor}
use Rattle.honest_turns.specs.Sides.{Side, behind, inbox_behind, MakesTurns, AreAtRest, HasWhole}
use Rattle.honest_turns.specs.Laws.{RestHolds, WholeIsEqual}
use Rattle.honest_turns.specs.Opened.{Way}
use Rattle.honest_turns.proofs.Linking.{Linked}
use Rattle.honest_turns.proofs.Connecting.{two_anew, starts_known, stood_last, behind_last, Met, meet}

-- pieces without bytes are none
none_written : (ps : List Piece) → AllByRecursion IsLegalPiece ps → bytes_written ps ≡ [] → ps ≡ []
none_written [] legal e = refl
none_written (p ∷ later) legal e =
    absurd (subst (λ (fs : List Frame). AllZip ReadsAs (p ∷ later) fs) (ap frames_of e ∙ frames_of-none [] tt) (all_is_read (p ∷ later) legal))

-- where all was sent, given and taken, nothing is under way
nothing_on : (way : List Piece) (writer : State) (held under sent given : List ℕ) → Way way writer held under → writer.ending ≡ None → writer.unsent ≡ [] → held ≡ []
    → [] ++ sent ≡ given ++ under → given ≡ sent → way ≡ []
nothing_on way writer held under sent given w going unsent none sum same =
    none_written way w.legal (w.exact going ∙ (ap (λ (bs : List ℕ). (held ++ under) ++ bs) unsent ∙ (append-nil (held ++ under) ∙ (ap (λ (bs : List ℕ). bs ++ under) none ∙ empty))))
  where
    empty : under ≡ []
    empty = append_cancel_left given under [] (sym sum ∙ (sym same ∙ sym (append-nil given)))

-- an idle machine is idle whatever its room
idle_alike : (h : List Entry) (x y : State) → step x reserve ≡ step y reserve → IsIdle h y → IsIdle h x
idle_alike h x y e k = record {
  going = ap (λ (s : State). s.ending) e ∙ k.going;
  established = ap (λ (s : State). is_established s.facts.connection.phase) e ∙ k.established;
  unasked = ap (λ (s : State). s.facts.connection.requester) e ∙ k.unasked;
  sent = ap (λ (s : State). s.facts.recorded.sent) e ∙ k.sent;
}

over_alike : (x y : State) → step x reserve ≡ step y reserve → finishes_exchanged (around y 0 0) y.facts ≡ true → finishes_exchanged (around x 0 0) x.facts ≡ true
over_alike x y e k = ap (λ (s : State). finishes_exchanged (around s 0 0) s.facts) e ∙ k

-- of a side: its flows stay, and the machine awaits the inbox's next number
pub record Kept (s : Side) : Type 0 where
  pub flow : (behind s).config ≡ s.state.config
  pub awaits : (behind s).facts.recorded.inbox_next ≡ next_number (inbox_behind s)

pub kept : (s : Side) → MakesTurns s → s.state.facts.recorded.sent ≤ length s.outbox.made → Kept s
kept s k enough =
    let h : List Entry = s.outbox.made in
    let b : Course = beginning s.state s.inbox s.leg.moment in
    let may = leg_stands h s.state s.inbox s.leg k.ready.awaits enough k.turns in
    let st : Stands h (course_on s.state s.inbox s.leg) = calls_keep h b (calls_on s.leg) (connection_begins h s.state s.inbox s.leg.moment k.ready.awaits enough) may in
    record { flow = (calls_go_on h b (calls_on s.leg) may).config; awaits = st.agrees.recorded }

-- and it has sent no more than its outbox has
pub enough_behind : (s : Side) → MakesTurns s → s.state.facts.recorded.sent ≤ length s.outbox.made → (behind s).facts.recorded.sent ≤ length s.outbox.made
enough_behind s k enough =
    let h : List Entry = s.outbox.made in
    (calls_keep h (beginning s.state s.inbox s.leg.moment) (calls_on s.leg) (connection_begins h s.state s.inbox s.leg.moment k.ready.awaits enough)
    (leg_stands h s.state s.inbox s.leg k.ready.awaits enough k.turns)).own.enough

whole_of : (h : List Entry) (s : Side) (x last : State) → Kept s → step x reserve ≡ step last reserve → behind s ≡ last → HasAll h x → HasWhole h s
whole_of h s x last k alike is all numbered =
    sym k.awaits ∙ (ap (λ (m : State). m.facts.recorded.inbox_next) (is) ∙ (ap (λ (m : State). m.facts.recorded.inbox_next) (sym alike)
    ∙ all (ap (λ (m : State). is_sequenced m.config.peer_flow) (alike ∙ ap (λ (m : State). step m reserve) (sym is)) ∙ (ap (λ (c : EndConfig). is_sequenced c.peer_flow) k.flow ∙ numbered))))

pub rest_holds : RestHolds
rest_holds i a ki ka link agree whole_i whole_a rest = (
  whole_of ha i world.initiator ki.turns.last.machine (kept i ki agree.outward.sent) alike_i (behind_last i ki agree.outward.sent whole_i) has.0,
  whole_of hi a world.acceptor ka.turns.last.machine (kept a ka agree.homeward.sent) alike_a (behind_last a ka agree.homeward.sent whole_a) has.1,
)
  where
    hi : List Entry
    hi = i.outbox.made

    ha : List Entry
    ha = a.outbox.made

    m : Met i a ki ka link
    m = meet i a ki ka link agree

    l : Linked hi ha (after (two_anew i.state a.state) (meets i.leg.moment a.leg.moment)) m.of_i.m m.of_a.m m.of_i.held m.of_a.held [] [] link.order
    l = m.linked

    world : World
    world = l.world

    last_i : (ki.turns.last.machine ≡ m.of_i.m) × (ki.turns.last.held ≡ m.of_i.held)
    last_i = stood_last i ki m.of_i whole_i

    last_a : (ka.turns.last.machine ≡ m.of_a.m) × (ka.turns.last.held ≡ m.of_a.held)
    last_a = stood_last a ka m.of_a whole_a

    alike_i : step world.initiator reserve ≡ step ki.turns.last.machine reserve
    alike_i = l.initiator ∙ ap (λ (s : State). step s reserve) (sym last_i.0)

    alike_a : step world.acceptor reserve ≡ step ka.turns.last.machine reserve
    alike_a = l.acceptor ∙ ap (λ (s : State). step s reserve) (sym last_a.0)

    sent_i : flat_map sent_in (of_initiator link.order) ≡ sent_on i.leg
    sent_i = ap (λ (ts : List Turn). flat_map sent_in ts) link.turns_i

    sent_a : flat_map sent_in (of_acceptor link.order) ≡ sent_on a.leg
    sent_a = ap (λ (ts : List Turn). flat_map sent_in ts) link.turns_a

    given_i : flat_map given_in (of_initiator link.order) ≡ given_on i.leg
    given_i = ap (λ (ts : List Turn). flat_map given_in ts) link.turns_i

    given_a : flat_map given_in (of_acceptor link.order) ≡ given_on a.leg
    given_a = ap (λ (ts : List Turn). flat_map given_in ts) link.turns_a

    going : (x y : State) → x ≡ y → x.ending ≡ None → y.ending ≡ None
    going x y e k = ap (λ (s : State). s.ending) (sym e) ∙ k

    unsent : (x y : State) → x ≡ y → x.unsent ≡ [] → y.unsent ≡ []
    unsent x y e k = ap (λ (s : State). s.unsent) (sym e) ∙ k

    at_rest : AreAtRest i a ki.turns.last ka.turns.last → IsAtRest hi ha world
    at_rest (inl q) = inl (record {
      initiator = idle_alike hi world.initiator ki.turns.last.machine alike_i q.initiator;
      acceptor = idle_alike ha world.acceptor ka.turns.last.machine alike_a q.acceptor;
      outward = nothing_on world.outward m.of_i.m m.of_a.held l.under_out (flat_map sent_in (of_initiator link.order)) (flat_map given_in (of_acceptor link.order)) l.outward
          (going ki.turns.last.machine m.of_i.m last_i.0 q.initiator.going) (unsent ki.turns.last.machine m.of_i.m last_i.0 q.outward.sent) (sym last_a.1 ∙ q.outward.taken)
          l.sum_out (given_a ∙ (q.outward.given ∙ sym sent_i));
      homeward = nothing_on world.homeward m.of_a.m m.of_i.held l.under_home (flat_map sent_in (of_acceptor link.order)) (flat_map given_in (of_initiator link.order)) l.homeward
          (going ka.turns.last.machine m.of_a.m last_a.0 q.acceptor.going) (unsent ka.turns.last.machine m.of_a.m last_a.0 q.homeward.sent) (sym last_i.1 ∙ q.homeward.taken)
          l.sum_home (given_i ∙ (q.homeward.given ∙ sym sent_a));
    })
    at_rest (inr o) = inr (record {
      initiator = over_alike world.initiator ki.turns.last.machine alike_i o.initiator;
      acceptor = over_alike world.acceptor ka.turns.last.machine alike_a o.acceptor;
    })

    has : HasAll ha world.initiator × HasAll hi world.acceptor
    has =
        subst (λ (v : World). HasAll ha v.initiator × HasAll hi v.acceptor) m.reaches.there
        (rest_has_all hi ha (two_anew i.state a.state) m.reaches.steps (starts_known hi ha i.state a.state agree) agree.last_i agree.last_a m.reaches.may
        (subst (λ (v : World). IsAtRest hi ha v) (sym m.reaches.there) (at_rest rest)))

pub whole_is_equal : WholeIsEqual
whole_is_equal s other numbered applies whole = all_is_equal other.outbox.made (inbox_behind s) applies (whole numbered)
