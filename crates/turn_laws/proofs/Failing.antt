-- A last connection of a life, whose last turn was cut short as a call of the inbox's disk failed: the calls that add what that tried, and their frames, which were
-- given too.
use Rattle.std.proofs.Common.{◌≡◌, ℕ, List, [], ◌∷◌, ◌++◌, Option, None, Some, refl, sym, ap, subst, ◌∙◌, append-nil, append_assoc}
use Rattle.std.specs.Prelude.{option_to_list}
use Rattle.std.specs.List.{flat_map, AllByRecursion}
use Rattle.std.proofs.lemmas.Grind.{flat_map-append}
use mathlib.Core.List.{IsPrefix}
use Rattle.sofh_frame.specs.Framing.{Frame}
use Rattle.sofh_frame.specs.Splits.{frames_of}
use Rattle.session_model.specs.Journal.{Entry, History}
use Rattle.session_model.specs.Inbox.{InboxRecord}
use Rattle.session_model.proofs.Lists.{all_append, all_first, all_second}
use Rattle.fixp_replies.specs.Incoming.{Incoming}
use Rattle.fixp_machine.specs.Machine.{State, Call}
use Rattle.conn_turns.specs.Lines.{Line, TakenFrame}
use Rattle.conn_turns.specs.Turns.{Turn, Refusal, IsFaithful, cut_short, calls_of}
use Rattle.conn_turns.specs.Refusals.{IsTried}
use Rattle.connection_laws.specs.Courses.{Course, beginning, course_after}
use Rattle.connection_laws.specs.Connections.{AddsBehind}
use Rattle.connection_laws.specs.Ranges.{FitsCall}
use Rattle.turn_laws.specs.Turns.{line_received, IsCutShort}
use Rattle.turn_laws.specs.Standing.{StandsAt, Has}
use Rattle.turn_laws.specs.Legs.{AreTurns, TurnedLeg, calls_on, given_in, given_on, first_line, AreTurnsOf, FurtherCalls, IsTimelyTurn, IsTimely, course_on}
use Rattle.turn_laws.proofs.Going.{after_append}
use Rattle.turn_laws.proofs.Tailing.{tried_adds}
use Rattle.turn_laws.specs.Came.{came, AreFirstOf}
use Rattle.turn_laws.specs.LoopLives.{RefusedLeg, IsRefusedOn}
use Rattle.turn_laws.specs.Legs.{cut_leg}
use Rattle.turn_laws.proofs.Given.{given_came, came_append, calls_fit}

-- messages that are the first of frames with others behind them are so without
first_of_more : (is more : List Incoming) (fs : List Frame) → AreFirstOf (is ++ more) fs → AreFirstOf is fs
first_of_more [] more fs all = tt
first_of_more (i ∷ is) more [] all = absurd all
first_of_more (i ∷ is) more (f ∷ fs) all = (all.0, first_of_more is more fs all.1)

-- the connection with this turn behind its whole ones, and what was tried
abbrev pub failed_leg : TurnedLeg → Turn → List Call → List InboxRecord → RefusedLeg
failed_leg leg t calls tried = record { leg = cut_leg leg t; refusal = record { calls = calls; tried = tried } }

pub record FailsOn (h : List Entry) (s : State) (inbox : List InboxRecord) (leg : TurnedLeg) (t : Turn) (tried : List InboxRecord) : Type 0 where
  pub calls : List Call
  pub is : IsRefusedOn h s inbox (failed_leg leg t calls tried)

pub fails_on : (h : List Entry) (s : State) (inbox : List InboxRecord) (leg : TurnedLeg) (before after : History) (l : Line) (now : ℕ) (received : List ℕ) (frames : List TakenFrame) (refusal : Option Refusal)
    (tried : List InboxRecord) → AreTurns before after (first_line leg.per_turn s leg.moment) l leg.turns → Has h after → AllByRecursion IsFaithful leg.turns
    → StandsAt h (course_after (beginning s inbox leg.moment) (flat_map calls_of leg.turns)) l → (k : IsCutShort now received frames refusal l) → IsTried now (line_received l now received k.got) frames refusal tried
    → FailsOn h s inbox leg (cut_short now received frames refusal) tried
fails_on h s inbox leg before after l now received frames refusal tried made has faithful stands k i = record {
  calls = f.calls;
  is = record {
    turns = record { before = before; after = after; last = l; turns = made; cut = k; has = has; faithful = faithful };
    refuses = subst (λ (y : Course). AddsBehind h y f.calls tried) (sym joined) f.adds;
    heard = heard;
    fits = fits;
  };
}
  where
    t : Turn
    t = cut_short now received frames refusal

    more : Turn
    more = cut_short now received (frames ++ i.later) None

    broken : TurnedLeg
    broken = cut_leg leg t

    whole : TurnedLeg
    whole = cut_leg leg more

    c : Course
    c = course_after (beginning s inbox leg.moment) (flat_map calls_of leg.turns)

    f : FurtherCalls h c t more tried
    f = tried_adds h l c now received frames refusal tried stands k i

    calls_are : (u : Turn) → calls_on (cut_leg leg u) ≡ flat_map calls_of leg.turns ++ calls_of u
    calls_are u = flat_map-append calls_of leg.turns (u ∷ []) ∙ ap (λ (cs : List Call). flat_map calls_of leg.turns ++ cs) (append-nil (calls_of u))

    joined : course_on s inbox broken ≡ course_after c (calls_of t)
    joined = ap (λ (cs : List Call). course_after (beginning s inbox leg.moment) cs) (calls_are t) ∙ after_append (beginning s inbox leg.moment) (flat_map calls_of leg.turns) (calls_of t)

    whole_are : AreTurnsOf h s whole
    whole_are = record { before = before; after = after; last = l; turns = made; cut = record { got = k.got; taken = i.taken; is = tt }; has = has; faithful = faithful }

    given_same : given_on whole ≡ given_on broken
    given_same = flat_map-append given_in leg.turns (more ∷ []) ∙ sym (flat_map-append given_in leg.turns (t ∷ []))

    within : IsPrefix (calls_on broken ++ f.calls) (calls_on whole)
    within = (
      f.within.0,
      append_assoc (calls_on broken) f.calls f.within.0
          ∙ (ap (λ (cs : List Call). cs ++ (f.calls ++ f.within.0)) (calls_are t)
          ∙ (append_assoc (flat_map calls_of leg.turns) (calls_of t) (f.calls ++ f.within.0)
          ∙ (ap (λ (cs : List Call). flat_map calls_of leg.turns ++ cs) (sym (append_assoc (calls_of t) f.calls f.within.0) ∙ f.within.1) ∙ sym (calls_are more)))),
    )

    came_all : came (calls_on broken ++ f.calls) ++ came within.0 ≡ came (calls_on whole)
    came_all = sym (came_append (calls_on broken ++ f.calls) within.0) ∙ ap (λ (cs : List Call). came cs) within.1

    heard : AreFirstOf (came (calls_on broken ++ f.calls)) (frames_of (given_on broken))
    heard = first_of_more (came (calls_on broken ++ f.calls)) (came within.0) (frames_of (given_on broken))
        (subst (λ (is : List Incoming). AreFirstOf is (frames_of (given_on broken))) (sym came_all)
        (subst (λ (bs : List ℕ). AreFirstOf (came (calls_on whole)) (frames_of bs)) given_same (given_came h s whole whole_are)))

    timely_whole : IsTimely broken → IsTimely whole
    timely_whole x =
        let one : IsTimelyTurn t = (all_second IsTimelyTurn leg.turns (t ∷ []) x.turns).0 in
        record { begins = x.begins; turns = all_append IsTimelyTurn leg.turns (more ∷ []) (all_first IsTimelyTurn leg.turns (t ∷ []) x.turns) (record { bytes = one.bytes; time = one.time }, tt) }

    fits : IsTimely broken → AllByRecursion FitsCall f.calls
    fits x = all_second FitsCall (calls_on broken) f.calls
        (all_first FitsCall (calls_on broken ++ f.calls) within.0
        (subst (λ (cs : List Call). AllByRecursion FitsCall cs) (sym within.1) (calls_fit h s whole whole_are (timely_whole x))))
