-- What a stop leaves of the inbox of a life awaits a number that a next life may take.
use Rattle.std.proofs.Common.{◌≡◌, ℕ, ◌+◌, ◌≤◌, max, List, [], ◌∷◌, ◌++◌, length, Option, Some, None, IfSome, refl, sym, ap, subst, ◌∙◌, arith, append_assoc}
use Rattle.std.specs.Prelude.{option_map}
use Rattle.std.specs.List.{AllByRecursion}
use Rattle.session_model.specs.Journal.{Entry, entries}
use Rattle.session_model.specs.Inbox.{InboxRecord, next_number}
use Rattle.session_model.specs.Lives.{IsImage}
use Rattle.session_model.proofs.Lists.{all_append, all_first, all_second}
use Rattle.session_model.proofs.Inboxes.{next_number-append}
use Rattle.session_model.proofs.Images.{image_of_none}
use Rattle.fixp_msgs.specs.Payload.{IsApplication}
use Rattle.fixp_machine.specs.Machine.{State, Call, connected}
use Rattle.connection_laws.specs.Courses.{Course, inbox_of, beginning, course_after}
use Rattle.connection_laws.specs.Standing.{Stands, AllMayStand}
use Rattle.connection_laws.specs.Living.{life_on}
use Rattle.connection_laws.specs.Ranges.{IsInRange, FitsCall}
use Rattle.connection_laws.specs.LegalLaws.{StaysLegal}
use Rattle.connection_laws.proofs.Going.{calls_keep, connection_begins}
use Rattle.connection_laws.proofs.Continuing.{state_is_run, calls_go_on}
use Rattle.connection_laws.proofs.Living.{closing_on, none_refused}
use Rattle.connection_laws.proofs.Written.{written_is_legal}
use Rattle.turn_laws.specs.Legs.{TurnedLeg, calls_on, AreTurnsOf, course_on, IsTimely}
use Rattle.turn_laws.specs.Lives.{AllAreTurns, legs_of, state_after, inbox_after}
use Rattle.turn_laws.proofs.Going.{may_append, after_append}
use Rattle.turn_laws.proofs.Running.{leg_stands}
use Rattle.turn_laws.specs.MachineLives.{served_with, Refusal}
use Rattle.turn_laws.specs.LoopLives.{RefusedLeg, refused_leg, IsRefusedOn, last_leg}
use Rattle.turn_laws.proofs.Given.{calls_fit}
use Rattle.run_laws.specs.Pieces.{ImagesWithin}
use Rattle.run_laws.proofs.Steady.{calls_keep_most}

-- where a life has come to
record Reached (h : List Entry) (most : ℕ) (s : State) (inbox : List InboxRecord) : Type 0 where
  awaits : s.facts.recorded.inbox_next ≡ next_number inbox
  enough : s.facts.recorded.sent ≤ length h
  range : IsInRange s
  same : s.most ≡ most

within : (h : List Entry) (most : ℕ) (s : State) (inbox : List InboxRecord) → Reached h most s inbox → next_number inbox ≤ most + 1
within h most s inbox r = omega (arith, r.awaits, r.range.next, r.same)

-- calls of a connection from its beginning on, as many as may come
course_reaches : (h : List Entry) (most : ℕ) (s : State) (inbox : List InboxRecord) (t : TurnedLeg) (calls : List Call) → Reached h most s inbox → AllByRecursion (λ (e : Entry). IsApplication e.payload) h
    → AreTurnsOf h s t → IsTimely t → AllMayStand h (beginning s inbox t.moment) calls → AllByRecursion FitsCall calls
    → Reached h most (course_after (beginning s inbox t.moment) calls).state (inbox_of (course_after (beginning s inbox t.moment) calls))
course_reaches h most s inbox t calls r payloads turns timely may fits =
    let st : Stands h (course_after (beginning s inbox t.moment) calls) = calls_keep h (beginning s inbox t.moment) calls (connection_begins h s inbox t.moment r.awaits r.enough) may in
    let l : StaysLegal (course_after (beginning s inbox t.moment) calls) =
    written_is_legal h s inbox t.moment calls r.range r.enough (record { payloads = payloads; few = turns.has.few }) timely.begins may fits in
    record {
      awaits = st.agrees.recorded;
      enough = st.own.enough;
      range = l.range;
      same = ap (λ (x : State). x.most) (state_is_run (beginning s inbox t.moment) calls) ∙ (calls_keep_most (connected s t.moment) calls ∙ r.same);
    }

leg_reaches : (h : List Entry) (most : ℕ) (s : State) (inbox : List InboxRecord) (t : TurnedLeg) → Reached h most s inbox → AllByRecursion (λ (e : Entry). IsApplication e.payload) h → AreTurnsOf h s t → IsTimely t
    → Reached h most (course_on s inbox t).state (inbox_of (course_on s inbox t))
leg_reaches h most s inbox t r payloads turns timely =
    course_reaches h most s inbox t (calls_on t) r payloads turns timely (leg_stands h s inbox t r.awaits r.enough turns) (calls_fit h s t turns timely)

legs_reach : (h : List Entry) (most : ℕ) (s : State) (inbox : List InboxRecord) (legs : List TurnedLeg) → Reached h most s inbox → AllByRecursion (λ (e : Entry). IsApplication e.payload) h
    → AllAreTurns h s inbox legs → AllByRecursion IsTimely legs → Reached h most (state_after s inbox legs) (inbox_after s inbox legs)
legs_reach h most s inbox [] r payloads all timely = r
legs_reach h most s inbox (t ∷ later) r payloads all timely =
    legs_reach h most (course_on s inbox t).state (inbox_of (course_on s inbox t)) later (leg_reaches h most s inbox t r payloads all.0 timely.0) payloads all.1 timely.1

-- with what a call of the inbox's disk tried, as if it were there
tried_reaches : (h : List Entry) (most : ℕ) (s : State) (inbox : List InboxRecord) (x : RefusedLeg) → Reached h most s inbox → AllByRecursion (λ (e : Entry). IsApplication e.payload) h → IsTimely x.leg
    → IsRefusedOn h s inbox x → next_number (inbox_of (course_on s inbox x.leg) ++ x.refusal.tried) ≤ most + 1
tried_reaches h most s inbox x r payloads timely k =
    let t : TurnedLeg = x.leg in
    let q : Refusal = x.refusal in
    let b : Course = beginning s inbox t.moment in
    let c : Course = course_on s inbox t in
    let may : AllMayStand h b (calls_on t) = leg_stands h s inbox t r.awaits r.enough k.turns in
    let more : AllMayStand h b (calls_on t ++ q.calls) = may_append h b (calls_on t) q.calls may k.refuses.may in
    let fits : AllByRecursion FitsCall (calls_on t ++ q.calls) = all_append FitsCall (calls_on t) q.calls (calls_fit h s t k.turns timely) (k.fits timely) in
    let d : Reached h most _ _ = course_reaches h most s inbox t (calls_on t ++ q.calls) r payloads k.turns timely more fits in
    let begun : (course_after c q.calls).start ≡ c.start = (calls_go_on h c q.calls k.refuses.may).start in
    let behind : inbox_of (course_after b (calls_on t ++ q.calls)) ≡ inbox_of c ++ q.tried =
    ap (λ (e : Course). inbox_of e) (after_append b (calls_on t) q.calls)
    ∙ (ap (λ (rs : List InboxRecord). rs ++ (course_after c q.calls).added) begun
    ∙ (ap (λ (rs : List InboxRecord). c.start ++ rs) k.refuses.added ∙ sym (append_assoc c.start c.added q.tried))) in
    subst (λ (i : List InboxRecord). next_number i ≤ most + 1) behind (within h most _ (inbox_of (course_after b (calls_on t ++ q.calls))) d)

-- an image is no longer than the closing list with all that was refused
image_within : (closing refused image : List InboxRecord) (n : ℕ) → IsImage closing refused image → next_number (closing ++ refused) ≤ n → next_number image ≤ n
image_within closing refused image n g all =
    let rest : List InboxRecord = g.beginning.0 in
    let whole : closing ++ refused ≡ image ++ rest =
    ap (λ (rs : List InboxRecord). closing ++ rs) (sym g.beginning.1) ∙ (sym (append_assoc closing g.kept rest) ∙ ap (λ (rs : List InboxRecord). rs ++ rest) (sym g.holds)) in
    let most : next_number (closing ++ refused) ≡ max (next_number image) (next_number rest) = ap (λ (rs : List InboxRecord). next_number rs) whole ∙ next_number-append image rest in
    omega (arith, most, all)

pub images_within : ImagesWithin
images_within own peer l may image =
    by_last l.last may.last (all_second IsTimely l.legs (last_leg l.last) may.timely)
  where
    h : List Entry
    h = entries l.closing_outbox

    s : State
    s = state_after l.state l.inbox l.legs

    i : List InboxRecord
    i = inbox_after l.state l.inbox l.legs

    r : Reached h l.state.most s i
    r = legs_reach h l.state.most l.state l.inbox l.legs (record { awaits = may.opens.awaits; enough = may.opens.enough; range = may.range; same = refl }) may.payloads may.turns
        (all_first IsTimely l.legs (last_leg l.last) may.timely)

    by_last : (q : Option RefusedLeg) → IfSome q (IsRefusedOn h s i) → AllByRecursion IsTimely (last_leg q)
        → IsImage (served_with (life_on l.state l.inbox (legs_of l.state l.inbox l.legs)) s i (option_map (refused_leg s i) q)).closing_inbox
        (served_with (life_on l.state l.inbox (legs_of l.state l.inbox l.legs)) s i (option_map (refused_leg s i) q)).refused_inbox image
        → next_number image ≤ l.state.most + 1
    by_last None k timely g =
        image_of_none (λ (rs : List InboxRecord). next_number rs ≤ l.state.most + 1) (life_on l.state l.inbox (legs_of l.state l.inbox l.legs)).closing_inbox image
        (subst (λ (rs : List InboxRecord). next_number rs ≤ l.state.most + 1) (sym (closing_on l.state l.inbox (legs_of l.state l.inbox l.legs))) (within h l.state.most s i r))
        (subst (λ (rs : List InboxRecord). IsImage (life_on l.state l.inbox (legs_of l.state l.inbox l.legs)).closing_inbox rs image) (none_refused l.state l.inbox (legs_of l.state l.inbox l.legs)) g)
    by_last (Some q) k timely g =
        image_within (inbox_of (course_on s i q.leg)) q.refusal.tried image (l.state.most + 1) g (tried_reaches h l.state.most s i q r may.payloads timely.0 k)
