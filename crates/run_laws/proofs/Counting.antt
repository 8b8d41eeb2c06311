-- A connection in whose last turn a call of the inbox's disk failed, with a beginning of what that tried counted as done: its inbox has those records
-- too.
use Rattle.std.proofs.Common.{◌≡◌, ◌≤◌, List, [], ◌∷◌, ◌++◌, length, Option, Some, None, refl, sym, ap, ◌∙◌, append-nil, append_assoc}
use Rattle.std.specs.Prelude.{option_to_list}
use Rattle.std.specs.List.{AllZip, flat_map}
use Rattle.std.proofs.lemmas.Grind.{flat_map-append}
use Rattle.session_model.specs.Journal.{Entry}
use Rattle.session_model.specs.Inbox.{InboxRecord}
use Rattle.fixp_machine.specs.Machine.{Call}
use Rattle.conn_turns.specs.Lines.{Line, TakenFrame}
use Rattle.conn_turns.specs.Turns.{Turn, Refusal, cut_short, calls_of}
use Rattle.connection_laws.specs.Courses.{Course, inbox_of, beginning, course_after}
use Rattle.connection_laws.proofs.Continuing.{calls_go_on}
use Rattle.turn_laws.specs.Turns.{line_received, IsCutShort, adds_cut}
use Rattle.turn_laws.specs.Standing.{StandsAt}
use Rattle.turn_laws.specs.Legs.{TurnedLeg, given_in, given_on, first_line}
use Rattle.turn_laws.proofs.Adding.{cut_adds}
use Rattle.turn_laws.proofs.Going.{after_append}
use Rattle.turn_laws.proofs.Running.{begin_stands, turns_stand}
use Rattle.turn_laws.proofs.Within.{CutBehind, cut_behind}
use Rattle.turn_laws.proofs.Working.{cut_may_stand}
use Rattle.honest_turns.specs.Links.{OverOneLink}
use Rattle.honest_turns.specs.Sides.{Side, inbox_behind, MakesTurns}
use Rattle.honest_turns.specs.Lives.{InTime, no_more, initiator_alone, acceptor_alone, paired}
use Rattle.honest_turns.specs.Counting.{cut_by, CountsAs}
use Rattle.life_laws.proofs.Waits.{FailedTurn}
use Rattle.honest_turns.proofs.Counted.{refused_counts}

-- a connection that lies over whatever link another lies over, was given nothing where that was, and is that one where no turn of it was cut short
pub record SameLink (t u : TurnedLeg) : Type 0 where
  pub whole : t.cut ≡ None → u ≡ t
  pub initiates : (other : TurnedLeg) → OverOneLink t other → OverOneLink u other
  pub accepts : (other : TurnedLeg) → OverOneLink other t → OverOneLink other u
  pub given : given_on t ≡ [] → given_on u ≡ []

pub same_link : (t : TurnedLeg) → SameLink t t
same_link t = record { whole = λ _. refl; initiates = λ other l. l; accepts = λ other l. l; given = λ e. e }

pub same_links : (ts : List TurnedLeg) → AllZip SameLink ts ts
same_links [] = tt
same_links (t ∷ later) = (same_link t, same_links later)

pub links_append : (ts us vs ws : List TurnedLeg) → AllZip SameLink ts us → AllZip SameLink vs ws → AllZip SameLink (ts ++ vs) (us ++ ws)
links_append [] [] vs ws x y = y
links_append [] (u ∷ us) vs ws x y = absurd x
links_append (t ∷ ts) [] vs ws x y = absurd x
links_append (t ∷ ts) (u ∷ us) vs ws x y = (x.0, links_append ts us vs ws x.1 y)

pub in_time_so : (ts us vs ws : List TurnedLeg) → InTime ts us → AllZip SameLink ts vs → AllZip SameLink us ws → InTime vs ws
in_time_so [] [] [] [] no_more x y = no_more
in_time_so [] [] (v ∷ vs) ws no_more x y = absurd x
in_time_so [] [] vs (w ∷ ws) no_more x y = absurd y
in_time_so (t ∷ ts) us [] ws (initiator_alone none rest) x y = absurd x
in_time_so (t ∷ ts) us (v ∷ vs) ws (initiator_alone none rest) x y = initiator_alone (x.0.given none) (in_time_so ts us vs ws rest x.1 y)
in_time_so ts (u ∷ us) vs [] (acceptor_alone none rest) x y = absurd y
in_time_so ts (u ∷ us) vs (w ∷ ws) (acceptor_alone none rest) x y = acceptor_alone (y.0.given none) (in_time_so ts us vs ws rest x y.1)
in_time_so (t ∷ ts) (u ∷ us) [] ws (paired link rest) x y = absurd x
in_time_so (t ∷ ts) (u ∷ us) (v ∷ vs) [] (paired link rest) x y = absurd y
in_time_so (t ∷ ts) (u ∷ us) (v ∷ vs) (w ∷ ws) (paired link rest) x y =
    paired (y.0.accepts v (x.0.initiates u link)) (in_time_so ts us vs ws rest x.1 y.1)

some_cut : {o : Option Turn} {t : Turn} → o ≡ Some t → o ≡ None → ⊥
some_cut some none = cc (some, none)

-- the connection with these records counted as done
pub record CountedOn (s : Side) (refused : List InboxRecord) : Type 0 where
  pub leg : TurnedLeg
  pub link : SameLink s.leg leg
  pub makes : MakesTurns (record s { leg = leg })
  pub number : leg.per_turn ≡ s.leg.per_turn
  pub moment : leg.moment ≡ s.leg.moment
  pub turns : leg.turns ≡ s.leg.turns
  pub inbox : inbox_behind (record s { leg = leg }) ≡ inbox_behind s ++ refused

pub counted_on : (s : Side) (tried kept rest : List InboxRecord) → (k : MakesTurns s) → s.state.facts.recorded.sent ≤ length s.outbox.made → FailedTurn k.turns.last s.leg.cut tried → kept ++ rest ≡ tried → CountedOn s kept
counted_on s tried kept rest k enough w all = record {
  leg = leg;
  link = record { whole = λ none. absurd (some_cut w.is none); initiates = counts.initiates; accepts = counts.accepts; given = λ none. given ∙ none };
  makes = counts.makes;
  number = refl;
  moment = refl;
  turns = refl;
  inbox = inbox;
}
  where
    h : List Entry
    h = s.outbox.made

    last : Line
    last = k.turns.last

    front : List InboxRecord
    front = adds_cut w.now (line_received last w.now w.received w.short.got) w.frames w.refusal

    x : CutBehind last w.now w.received (front ++ kept)
    x = cut_behind last w.now w.received w.frames w.refusal tried kept rest w.short w.is_tried all

    old : Turn
    old = cut_short w.now w.received w.frames w.refusal

    new : Turn
    new = cut_short w.now w.received x.frames x.refusal

    counts : CountsAs s (cut_by s new)
    counts = refused_counts s w.now w.received w.frames x.frames w.refusal x.refusal k w.is x.cut

    leg : TurnedLeg
    leg = (cut_by s new).leg

    given : given_on leg ≡ given_on s.leg
    given =
        flat_map-append given_in s.leg.turns (new ∷ [])
        ∙ (sym (flat_map-append given_in s.leg.turns (old ∷ [])) ∙ ap (λ (o : Option Turn). flat_map given_in (s.leg.turns ++ option_to_list o)) (sym w.is))

    b : Course
    b = beginning s.state s.inbox s.leg.moment

    whole : List Call
    whole = flat_map calls_of s.leg.turns

    c : Course
    c = course_after b whole

    stands : StandsAt h c last
    stands = (turns_stand h k.turns.before k.turns.after (first_line s.leg.per_turn s.state s.leg.moment) last s.leg.turns b (begin_stands h s.leg.per_turn s.state s.inbox s.leg.moment k.ready.awaits enough) k.turns.has k.turns.turns k.turns.faithful).after

    -- the inbox behind its whole turns and this one
    inbox_with : Option Turn → List InboxRecord
    inbox_with cut = inbox_of (course_after b (flat_map calls_of (s.leg.turns ++ option_to_list cut)))

    with_cut : (frames : List TakenFrame) (refusal : Option Refusal) (cut : IsCutShort w.now w.received frames refusal last)
        → inbox_with (Some (cut_short w.now w.received frames refusal)) ≡ inbox_of c ++ adds_cut w.now (line_received last w.now w.received cut.got) frames refusal
    with_cut frames refusal cut =
        let t : Turn = cut_short w.now w.received frames refusal in
        let begun : (course_after c (calls_of t)).start ≡ c.start = (calls_go_on h c (calls_of t) (cut_may_stand h last t c stands cut)).start in
        ap (λ (cs : List Call). inbox_of (course_after b cs)) (flat_map-append calls_of s.leg.turns (t ∷ []) ∙ ap (λ (cs : List Call). whole ++ cs) (append-nil (calls_of t)))
        ∙ (ap (λ (e : Course). inbox_of e) (after_append b whole (calls_of t))
        ∙ (ap (λ (rs : List InboxRecord). rs ++ (course_after c (calls_of t)).added) begun
        ∙ (ap (λ (rs : List InboxRecord). c.start ++ rs) (cut_adds h last w.now w.received frames refusal c stands cut)
        ∙ sym (append_assoc c.start c.added (adds_cut w.now (line_received last w.now w.received cut.got) frames refusal)))))

    inbox : inbox_behind (cut_by s new) ≡ inbox_behind s ++ kept
    inbox =
        with_cut x.frames x.refusal x.cut
        ∙ (ap (λ (rs : List InboxRecord). inbox_of c ++ rs) x.adds
        ∙ (sym (append_assoc (inbox_of c) front kept)
        ∙ ap (λ (rs : List InboxRecord). rs ++ kept) (sym (with_cut w.frames w.refusal w.short) ∙ ap (λ (o : Option Turn). inbox_with o) (sym w.is))))
