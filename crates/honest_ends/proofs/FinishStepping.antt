-- The finishes of both flows, kept by each step of two ends.
use Rattle.std.proofs.Common.{◌≡◌, ◌⊎◌, inl, inr, ℕ, ◌+◌, ◌≤◌, ◌&&◌, Bool, true, false, List, [], ◌∷◌, ◌++◌, Option, Some, None, refl, sym, ap, subst, ◌∙◌, arith, true≢false}
use Rattle.std.specs.Prelude.{is_some, IfSome}
use Rattle.session_model.specs.Journal.{Entry}
use Rattle.fixp_machine.proofs.Tests.{is_done}
use Rattle.fixp_shake.specs.declared.config.EndConfig.{EndConfig}
use Rattle.fixp_shake.specs.declared.violation.Violation.{Violation}
use Rattle.fixp_shake.specs.declared.violation.Violation.TheVariants.{BadFrame, UnknownTemplate, NotInPhase, OtherSession, WentBack, MissingNext, NumberTooLarge, BadRetransmission, AfterFinish, FlowNone, Silent, HandshakeLate}
use Rattle.fixp_shake.specs.Flows.{is_recoverable, is_sequenced}
use Rattle.fixp_shake.specs.Phases.{is_established, is_shaken}
use Rattle.fixp_replies.specs.declared.act.Ending.{Ending}
use Rattle.fixp_replies.specs.declared.act.Ending.TheVariants as endings
use Rattle.fixp_replies.specs.Replies.{reply_of}
use Rattle.fixp_machine.specs.Machine.{State, around, run, fresh}
use Rattle.connection_laws.specs.Writing.{Piece, said, WritesOwn, nothing, shakes, returns, resends}
use Rattle.connection_laws.specs.Standing.{IsOpen}
use Rattle.two_ends.specs.Reading.{incoming_of}
use Rattle.honest_ends.specs.PhaseLaws.{IsOfTime, EndsBy}
use Rattle.honest_ends.specs.Numbers.{Awaited, exactly, Runs, ServesLater, served, to_come, goes_softly}
use Rattle.honest_ends.specs.Worlds.{World, Step, meets, initiator_reads, acceptor_reads, initiator_does, acceptor_does, written, initiator_read, acceptor_read, after, world_after, MayStep, AllMayStep}
use Rattle.fixp_replies.specs.Expecting.{is_newer}
use Rattle.fixp_msgs.specs.Message.{unsequenced_heartbeat, applied, not_applied, terminate}
use Rattle.fixp_shake.specs.declared.phase.Phase.{Phase}
use Rattle.fixp_shake.specs.declared.phase.Phase.TheVariants as phases
use Rattle.fixp_replies.specs.declared.facts.Facts.{Facts}
use Rattle.fixp_replies.specs.declared.facts.PeerFinish.{PeerFinish}
use Rattle.fixp_replies.specs.declared.facts.PeerFinish.TheVariants as peer
use Rattle.fixp_replies.specs.Facts.{Around, last_among, peer_is_exchanged}
use Rattle.fixp_replies.specs.Outcomes.{Outcome}
use Rattle.fixp_machine.specs.Sound.{may_return}
use Rattle.connection_laws.proofs.Owned.{MayReturn, returning}
use Rattle.connection_laws.proofs.Replied.{frame_writes}
use Rattle.honest_ends.proofs.Returning.{returns_newer}
use Rattle.honest_ends.proofs.Expecting.{IsTold, marks}
use Rattle.honest_ends.proofs.Lining.{sequenced_of}
use Rattle.honest_ends.proofs.PhaseOpening.{Quiet}
use Rattle.honest_ends.proofs.Shapes.{IsFree}
use Rattle.honest_ends.proofs.Awaiting.{awaited_then}
use Rattle.honest_ends.proofs.Keeping.{told_inbox, told_newer, awaited_softly}
use Rattle.honest_ends.proofs.Numbering.{counted_at_first}
use Rattle.honest_ends.proofs.Settling.{Ends as Ended}
use Rattle.honest_ends.proofs.RestStepping.{Keeps, first_ends, past_last, keep_after}
use Rattle.honest_ends.proofs.Finishing.{finishes, Learned, sendings, total, waiting, awaited as awaited_of, tells as tells_of, ComesLate, IsLate, moves}
use Rattle.honest_ends.proofs.Telling.{Awaits, tells_as}
use Rattle.honest_ends.proofs.Serving.{serves_as, was_none}
use Rattle.honest_ends.proofs.Moving.{reads_as, does_as, ends_still}
use Rattle.honest_ends.proofs.Phased.{Shaking, opens, answering, acknowledging, standing, refusing, Holds, carried, holds_step, holds_at_first, initiator_quiet, acceptor_quiet, unshaken_not}
use Rattle.honest_ends.specs.Knowing.{Knows, StartsKnown, goes_back}
use Rattle.honest_ends.specs.Numbered.{Numbered, Follows, Expects, TellsNext, awaits, next_live}
use Rattle.honest_ends.proofs.NumberLaws.{numbered_holds}
use Rattle.honest_ends.specs.FinishLaws.{NoFinish}
use Rattle.honest_ends.proofs.Behind.{Behind, Brings, Begins, Exact, last_entry, heard_by_reader, heard_by_writer, told_behind, kept_behind, none_late}
use Rattle.honest_ends.proofs.Held.{open_not_closing}
use Rattle.honest_ends.proofs.Meeting.{begins_behind, first_behind}

-- a world that some steps have reached from the beginning
record Reached (hi ha : List Entry) (w : World) : Type 0 where
  first : World
  steps : List Step
  known : StartsKnown hi ha first
  may : AllMayStep hi ha first steps
  is : world_after first steps ≡ w

one_more : (hi ha : List Entry) (w : World) (steps : List Step) (s : Step) → AllMayStep hi ha w steps → MayStep hi ha (world_after w steps) s
    → AllMayStep hi ha w (steps ++ s ∷ []) × (world_after w (steps ++ s ∷ []) ≡ after (world_after w steps) s)
one_more hi ha w [] s all may = ((may, tt), refl)
one_more hi ha w (t ∷ steps) s all may = let more = one_more hi ha (after w t) steps s all.1 may in ((all.0, more.0), more.1)

reached_step : (hi ha : List Entry) (w : World) (s : Step) → Reached hi ha w → MayStep hi ha w s → Reached hi ha (after w s)
reached_step hi ha w s r may =
    let more = one_more hi ha r.first r.steps s r.may (subst (λ (k : World). MayStep hi ha k s) (sym r.is) may) in
    record { first = r.first; steps = r.steps ++ s ∷ []; known = r.known; may = more.0; is = more.1 ∙ ap (λ (k : World). after k s) r.is }

numbered : (hi ha : List Entry) (w : World) → Reached hi ha w → Numbered hi ha w
numbered hi ha w r = subst (λ (k : World). Numbered hi ha k) r.is (numbered_holds hi ha r.first r.steps r.known r.may)

-- where a writer goes back to what its reader expects, what the reader has recorded of a finish comes behind all of its flow
pub record Past (w : World) : Type 0 where
  pub outward : goes_back w.initiator.config w.acceptor.config ≡ true → Ended w.acceptor.config.peer_flow w.acceptor.facts
  pub homeward : goes_back w.acceptor.config w.initiator.config ≡ true → Ended w.initiator.config.peer_flow w.initiator.facts

past_one : (h : List Entry) (writer reader later now : State) → Knows h writer reader → reader ≡ fresh reader.config reader.facts.recorded reader.most → later.config ≡ writer.config → Keeps reader now
    → goes_back later.config now.config ≡ true → Ended now.config.peer_flow now.facts
past_one h writer reader later now k new same keeps back =
    keeps.ends (first_ends reader new (λ _. past_last reader.facts.recorded.inbox_next reader.facts.recorded.peer_last
    (k.ends (subst (λ (c : EndConfig). goes_back writer.config c ≡ true) keeps.config (subst (λ (c : EndConfig). goes_back c now.config ≡ true) same back)))))

past : (hi ha : List Entry) (w : World) → Reached hi ha w → Past w
past hi ha w r =
    let b = keep_after hi ha r.first r.steps (counted_at_first hi ha r.first r.known) r.may in
    subst (λ (k : World). Past k) r.is (record {
      outward = past_one hi r.first.initiator r.first.acceptor (world_after r.first r.steps).initiator (world_after r.first r.steps).acceptor r.known.1 r.known.0.acceptor b.initiator.config b.acceptor;
      homeward = past_one ha r.first.acceptor r.first.initiator (world_after r.first r.steps).acceptor (world_after r.first r.steps).initiator r.known.2 r.known.0.initiator b.acceptor.config b.initiator;
    })

pub past_after : (hi ha : List Entry) (w : World) (steps : List Step) → StartsKnown hi ha w → AllMayStep hi ha w steps → Past (world_after w steps)
past_after hi ha w steps known may = past hi ha (world_after w steps) (record { first = w; steps = steps; known = known; may = may; is = refl })

-- a reply that may not start anew counts as many as sent
keeps_sent : (x : Around) (f : Facts) (p : Piece) → may_return x.config f (reply_of x f (incoming_of p)).next ≡ false → (reply_of x f (incoming_of p)).next.recorded.sent ≡ f.recorded.sent
keeps_sent x f p never = by_case (frame_writes x f (incoming_of p))
  where
    by_case : WritesOwn x f (reply_of x f (incoming_of p)) → (reply_of x f (incoming_of p)).next.recorded.sent ≡ f.recorded.sent
    by_case (nothing n s) = s.sent
    by_case (shakes s) = s.sent.same never
    by_case (returns r) = absurd (true≢false (sym r.may ∙ never))
    by_case (resends r) = r.sent

-- so does any reply where the reader knows a finish, or one is under way: what the reader has told is one past all of the flow then
abbrev StaysSent : Around → Facts → Facts → Piece → List Piece → Type 0
StaysSent x writer reader p way =
    ((last : ℕ) → Learned (finishes reader) last → (reply_of x writer (incoming_of p)).next.recorded.sent ≡ writer.recorded.sent)
    × (1 ≤ total sendings way → (reply_of x writer (incoming_of p)).next.recorded.sent ≡ writer.recorded.sent)

sent_stays : (h : List Entry) (x : Around) (writer reader : Facts) (c : EndConfig) (over : Option Ending) (p : Piece) (way left : List Piece) → c.peer_flow ≡ x.config.own_flow → TellsNext c reader p
    → reader.recorded.inbox_next ≤ writer.recorded.sent + 1 → (is_shaken writer.connection.phase ≡ false → Quiet writer) → Awaits writer reader way (p ∷ left) → (goes_back x.config c ≡ true → Ended c.peer_flow reader)
    → Behind x.config.own_flow h writer reader over way → StaysSent x writer reader p way
sent_stays h x writer reader c over p way left flow told next quiet awaits past b = by_back (marks x writer p).back (may_return x.config writer o.next) refl
  where
    o : Outcome
    o = reply_of x writer (incoming_of p)

    by_back : (o.next.recorded.sent ≡ writer.recorded.sent) ⊎ IsTold p (o.next.recorded.sent + 1) → (t : Bool) → may_return x.config writer o.next ≡ t → StaysSent x writer reader p way
    by_back (inl same) t is = (λ _ _. same, λ _. same)
    by_back (inr tells) false never = (λ _ _. keeps_sent x writer p never, λ _. keeps_sent x writer p never)
    by_back (inr tells) true may = (λ last l. recorded last l, λ some. absurd (let once = awaits.once in omega (arith, once, none_told, some)))
      where
        r : MayReturn x writer o.next
        r = returning x writer o.next may

        none_told : tells_of writer ≡ 0
        none_told = ap (λ q. awaited_of q) (quiet r.before).untold

        rec : is_recoverable c.peer_flow ≡ true
        rec = ap (λ f. is_recoverable f) flow ∙ r.own

        numbered : is_sequenced c.peer_flow ≡ true
        numbered = sequenced_of c.peer_flow rec

        all_three : (i j k : Bool) → i ≡ true → j ≡ true → k ≡ true → (i && j && k) ≡ true
        all_three true true true e f g = refl
        all_three false j k e f g = absurd (true≢false (sym e))
        all_three true false k e f g = absurd (true≢false (sym f))
        all_three true true false e f g = absurd (true≢false (sym g))

        ended : Ended c.peer_flow reader
        ended = past (all_three (is_newer x.config) (is_newer c) (is_recoverable c.peer_flow) (returns_newer x.config writer o.next may) (told_newer c reader p (o.next.recorded.sent + 1) told tells) rec)

        if_so : (k : Option ℕ) (P : ℕ → Type 0) (n : ℕ) → IfSome k P → k ≡ Some n → P n
        if_so None P n h e = absurd cc
        if_so (Some k) P n h e = let same : k ≡ n = cc e in subst P same h

        at_last : (n : ℕ) → reader.recorded.peer_last ≡ Some n → o.next.recorded.sent ≡ writer.recorded.sent
        at_last n e =
            let k = b.learned n (inl e) in
            let sent = k.0.sent in
            let is = last_entry x.config.own_flow h n (sym (ap is_sequenced flow) ∙ numbered) k.1 in
            let high : n + 1 ≤ reader.recorded.inbox_next = if_so reader.recorded.peer_last (λ k. k + 1 ≤ reader.recorded.inbox_next) n (ended.reached numbered) e in
            let now = told_inbox c reader p (o.next.recorded.sent + 1) told tells in
            omega (arith, sent, is, high, now, next)

        there : (k : Option ℕ) → is_some k ≡ true → reader.recorded.peer_last ≡ k → o.next.recorded.sent ≡ writer.recorded.sent
        there None some e = absurd (true≢false (sym some))
        there (Some n) some e = at_last n e

        by_finish : (q : PeerFinish) (last : ℕ) → reader.connection.peer_finish ≡ q → last_among None q ≡ Some last → o.next.recorded.sent ≡ writer.recorded.sent
        by_finish peer.Open last e is = absurd cc
        by_finish (peer.Read n) last e is = let once = awaits.once in let one = ap (λ q. waiting q) e in absurd (omega (arith, once, one, none_told))
        by_finish (peer.Exchanged n) last e is = there reader.recorded.peer_last (ended.recorded (ap (λ q. peer_is_exchanged q) e)) refl

        recorded : (last : ℕ) → Learned (finishes reader) last → o.next.recorded.sent ≡ writer.recorded.sent
        recorded last (inl e) = at_last last e
        recorded last (inr e) = by_finish reader.connection.peer_finish last refl e

-- what holds of both ends and of what is under way between them
pub record Ends (hi ha : List Entry) (w : World) : Type 0 where
  pub outward : Behind w.initiator.config.own_flow hi w.initiator.facts w.acceptor.facts w.acceptor.ending w.outward
  pub homeward : Behind w.acceptor.config.own_flow ha w.acceptor.facts w.initiator.facts w.initiator.ending w.homeward
  pub initiator : EndsBy NoFinish w.initiator
  pub acceptor : EndsBy NoFinish w.acceptor

awaits_exactly : (b : Bool) (n : ℕ) → b ≡ true → awaits b n ≡ exactly n
awaits_exactly true n e = refl
awaits_exactly false n e = absurd (true≢false (sym e))

-- a reader in Established awaits its live number exactly, or goes softly
exact_of : (h : List Entry) (writer reader : State) (way back : List Piece) (at now : ℕ) → reader.config.peer_flow ≡ writer.config.own_flow → reader.ending ≡ None → Follows h writer reader way back
    → is_shaken writer.facts.connection.phase ≡ true → Exact writer.config.own_flow writer.facts (around reader at now) reader.facts way
exact_of h writer reader way back at now flow none follows shaken numbered est = by_soft (goes_softly f) refl
  where
    f : Facts
    f = reader.facts

    expects : Expects writer reader way back
    expects = follows.expects none (open_not_closing f.connection.phase est)

    by_soft : (t : Bool) → goes_softly f ≡ t → Brings writer.config.own_flow writer.facts (around reader at now) f way ⊎ Begins writer.config.own_flow writer.facts f way
    by_soft true soft = inr (record {
      low = f.connection.receiver.next;
      live = f.connection.receiver.live;
      runs = subst (λ (a : Awaited). Runs writer.config.own_flow a (to_come f.connection.requester) way (writer.facts.recorded.sent + 1) (served writer.facts.connection.serving)) (awaited_softly reader.config f soft) expects.runs;
      first = expects.restarts soft shaken;
    })
    by_soft false firm = inl (subst (λ (a : Awaited). Runs writer.config.own_flow a (to_come f.connection.requester) way (writer.facts.recorded.sent + 1) (served writer.facts.connection.serving))
        (awaited_then reader.config f firm (is_done f.connection.phase est) ∙ awaits_exactly (is_sequenced reader.config.peer_flow) (next_live reader.config f) (ap is_sequenced flow ∙ numbered)) expects.runs)

-- where it is not behind a finish it may be any violation
no_finish : (e : Option Ending) → ((last found : ℕ) → e ≡ Some (endings.Violation (AfterFinish last found)) → ⊥) → (v : Violation) → e ≡ Some (endings.Violation v) → NoFinish v
no_finish e never (BadFrame at) is = tt
no_finish e never (UnknownTemplate id) is = tt
no_finish e never (NotInPhase template phase) is = tt
no_finish e never (OtherSession template) is = tt
no_finish e never (WentBack announced expected) is = tt
no_finish e never (MissingNext template) is = tt
no_finish e never (NumberTooLarge announced) is = tt
no_finish e never (BadRetransmission expected found) is = tt
no_finish e never (AfterFinish last found) is = never last found is
no_finish e never (FlowNone template) is = tt
no_finish e never (Silent last now) is = tt
no_finish e never (HandshakeLate start now) is = tt

time_fine : (v : Violation) → IsOfTime v → NoFinish v
time_fine (AfterFinish last found) h = absurd h
time_fine (BadFrame at) h = tt
time_fine (UnknownTemplate id) h = tt
time_fine (NotInPhase template phase) h = tt
time_fine (OtherSession template) h = tt
time_fine (WentBack announced expected) h = tt
time_fine (MissingNext template) h = tt
time_fine (NumberTooLarge announced) h = tt
time_fine (BadRetransmission expected found) h = tt
time_fine (FlowNone template) h = tt
time_fine (Silent last now) h = tt
time_fine (HandshakeLate start now) h = tt

-- a free message comes behind no finish
free_early : (x : Around) (f : Facts) (theirs : EndConfig) (p : Piece) → IsFree theirs p → ComesLate x f p → ⊥
free_early x f theirs (said unsequenced_heartbeat) free late = late
free_early x f theirs (said (applied first count)) free late = late
free_early x f theirs (said (not_applied first count)) free late = late
free_early x f theirs (said (terminate id code reason)) free late = late
free_early x f theirs _ free late = absurd free

-- an end reads a message
reads_fine : (h : List Entry) (writer s : State) (p : Piece) (left back : List Piece) (at now : ℕ) → s.config.peer_flow ≡ writer.config.own_flow → s.ending ≡ None
    → (is_established s.facts.connection.phase ≡ true → (is_shaken writer.facts.connection.phase ≡ true) ⊎ IsFree writer.config p)
    → Behind writer.config.own_flow h writer.facts s.facts s.ending (p ∷ left) → Follows h writer s (p ∷ left) back
    → (v : Violation) → (reply_of (around s at now) s.facts (incoming_of p)).ending ≡ Some (endings.Violation v) → NoFinish v
reads_fine h writer s p left back at now flow none side behind follows =
    no_finish (reply_of x s.facts (incoming_of p)).ending (λ last found e. let late = (moves x s.facts p).late last found e in by_side late (side late.0))
  where
    x : Around
    x = around s at now

    by_side : IsLate x s.facts p → (is_shaken writer.facts.connection.phase ≡ true) ⊎ IsFree writer.config p → ⊥
    by_side late (inl shaken) = none_late writer.config.own_flow h writer.facts x s.facts s.ending p left flow none behind (exact_of h writer s (p ∷ left) back at now flow none follows shaken) late
    by_side late (inr free) = free_early x s.facts writer.config p free late.1

-- what stands at the other end where one is established
idle_not : (p : Phase) → p ≡ phases.Idle → is_established p ≡ true → ⊥
idle_not p e now = true≢false (sym now ∙ ap (λ k. is_established k) e)

initiator_side : (ci ca : EndConfig) (fi : Facts) (ei : Option Ending) (fa : Facts) (p : Piece) (outward left : List Piece) → Shaking ci ca fi ei fa outward (p ∷ left) → is_established fi.connection.phase ≡ true
    → (is_shaken fa.connection.phase ≡ true) ⊎ IsFree ca p
initiator_side ci ca fi ei fa p outward left (opens bi qi idle qa one free) est = inr free.0
initiator_side ci ca fi ei fa p outward left (answering bi qi idle qa free one) est = absurd (unshaken_not (is_shaken fi.connection.phase) bi (is_done fi.connection.phase est))
initiator_side ci ca fi ei fa p outward left (acknowledging e qi now free first) est = inl (ap (λ k. is_shaken k) now)
initiator_side ci ca fi ei fa p outward left (standing shaken now out home) est = inl (ap (λ k. is_shaken k) now)
initiator_side ci ca fi ei fa p outward left (refusing over bi qi now free) est = inl (ap (λ k. is_shaken k) now)

acceptor_side : (ci ca : EndConfig) (fi : Facts) (ei : Option Ending) (fa : Facts) (p : Piece) (left homeward : List Piece) → Shaking ci ca fi ei fa (p ∷ left) homeward → is_established fa.connection.phase ≡ true
    → (is_shaken fi.connection.phase ≡ true) ⊎ IsFree ci p
acceptor_side ci ca fi ei fa p left homeward (opens bi qi idle qa one free) est = absurd (idle_not fa.connection.phase idle est)
acceptor_side ci ca fi ei fa p left homeward (answering bi qi idle qa free one) est = inr free.0
acceptor_side ci ca fi ei fa p left homeward (acknowledging e qi now free first) est = inr free.0
acceptor_side ci ca fi ei fa p left homeward (standing shaken now out home) est = inl shaken
acceptor_side ci ca fi ei fa p left homeward (refusing over bi qi now free) est = inr free.0

initiator_reading : (hi ha : List Entry) (w : World) (way : List Piece) (at now : ℕ) → w.homeward ≡ way → Holds w → Numbered hi ha w → Past w → Ends hi ha w → IsOpen w.initiator → Ends hi ha (initiator_read w way at now)
initiator_reading hi ha w [] at now e holds numbers past h going = h
initiator_reading hi ha w (p ∷ left) at now e holds numbers past h going =
    let s = w.initiator in
    let x = around s at now in
    let rd = reads_as s p at now in
    let flow = holds.matches.homeward in
    let quiet = initiator_quiet s.config w.acceptor.config s.facts s.ending w.acceptor.facts w.outward w.homeward holds.shaking in
    let later : ServesLater s.config s.facts = λ _ before. (quiet before).free in
    let behind = subst (λ (way : List Piece). Behind w.acceptor.config.own_flow ha w.acceptor.facts s.facts s.ending way) e h.homeward in
    let number = subst (λ (way : List Piece). Follows ha w.acceptor s way w.outward) e numbers.homeward in
    let own = subst (λ (way : List Piece). Follows hi s w.acceptor w.outward way) e numbers.outward in
    let awaits = subst (λ (way : List Piece). Awaits s.facts w.acceptor.facts w.outward way) e holds.outward_finish in
    let sh = subst (λ (way : List Piece). Shaking s.config w.acceptor.config s.facts s.ending w.acceptor.facts w.outward way) e holds.shaking in
    let stays = sent_stays hi x s.facts w.acceptor.facts w.acceptor.config w.acceptor.ending p w.outward left holds.matches.outward own.told.0 own.next quiet awaits past.outward h.outward in
    record {
      outward = carried (λ c f g out. Behind c.own_flow hi f w.acceptor.facts w.acceptor.ending (w.outward ++ out)) rd.config rd.facts rd.ending rd.writes
          (heard_by_writer s.config.own_flow hi x s.facts w.acceptor.facts w.acceptor.ending p w.outward stays.0 stays.1 h.outward);
      homeward = carried (λ c f g out. Behind w.acceptor.config.own_flow ha w.acceptor.facts f g left) rd.config rd.facts rd.ending rd.writes
          (heard_by_reader w.acceptor.config.own_flow ha w.acceptor.facts x s.facts s.ending p left later flow going.going behind);
      initiator = λ v is. reads_fine ha w.acceptor s p left w.outward at now flow going.going
          (initiator_side s.config w.acceptor.config s.facts s.ending w.acceptor.facts p w.outward left sh) behind number v (sym rd.ending ∙ is);
      acceptor = h.acceptor;
    }

acceptor_reading : (hi ha : List Entry) (w : World) (way : List Piece) (at now : ℕ) → w.outward ≡ way → Holds w → Numbered hi ha w → Past w → Ends hi ha w → IsOpen w.acceptor → Ends hi ha (acceptor_read w way at now)
acceptor_reading hi ha w [] at now e holds numbers past h going = h
acceptor_reading hi ha w (p ∷ left) at now e holds numbers past h going =
    let s = w.acceptor in
    let x = around s at now in
    let rd = reads_as s p at now in
    let flow = holds.matches.outward in
    let quiet = acceptor_quiet w.initiator.config s.config w.initiator.facts w.initiator.ending s.facts w.outward w.homeward holds.shaking in
    let later : ServesLater s.config s.facts = λ _ before. (quiet before).free in
    let behind = subst (λ (way : List Piece). Behind w.initiator.config.own_flow hi w.initiator.facts s.facts s.ending way) e h.outward in
    let number = subst (λ (way : List Piece). Follows hi w.initiator s way w.homeward) e numbers.outward in
    let own = subst (λ (way : List Piece). Follows ha s w.initiator w.homeward way) e numbers.homeward in
    let awaits = subst (λ (way : List Piece). Awaits s.facts w.initiator.facts w.homeward way) e holds.homeward_finish in
    let sh = subst (λ (way : List Piece). Shaking w.initiator.config s.config w.initiator.facts w.initiator.ending s.facts way w.homeward) e holds.shaking in
    let stays = sent_stays ha x s.facts w.initiator.facts w.initiator.config w.initiator.ending p w.homeward left holds.matches.homeward own.told.0 own.next quiet awaits past.homeward h.homeward in
    record {
      outward = carried (λ c f g out. Behind w.initiator.config.own_flow hi w.initiator.facts f g left) rd.config rd.facts rd.ending rd.writes
          (heard_by_reader w.initiator.config.own_flow hi w.initiator.facts x s.facts s.ending p left later flow going.going behind);
      homeward = carried (λ c f g out. Behind c.own_flow ha f w.initiator.facts w.initiator.ending (w.homeward ++ out)) rd.config rd.facts rd.ending rd.writes
          (heard_by_writer s.config.own_flow ha x s.facts w.initiator.facts w.initiator.ending p w.homeward stays.0 stays.1 h.homeward);
      initiator = h.initiator;
      acceptor = λ v is. reads_fine hi w.initiator s p left w.homeward at now flow going.going
          (acceptor_side w.initiator.config s.config w.initiator.facts w.initiator.ending s.facts p left w.homeward sh) behind number v (sym rd.ending ∙ is);
    }

ends_step : (hi ha : List Entry) (w : World) (step : Step) → Holds w → Numbered hi ha w → Past w → Ends hi ha w → MayStep hi ha w step → Ends hi ha (after w step)
ends_step hi ha w (meets now_i now_a) holds numbers past h may = record {
  outward = begins_behind w.initiator.config.own_flow hi (around w.initiator 0 now_i) (around w.acceptor 0 now_a) w.initiator.facts w.acceptor.facts w.acceptor.ending None w.outward h.outward;
  homeward = begins_behind w.acceptor.config.own_flow ha (around w.acceptor 0 now_a) (around w.initiator 0 now_i) w.acceptor.facts w.initiator.facts w.initiator.ending None w.homeward h.homeward;
  initiator = λ v is. absurd cc;
  acceptor = λ v is. absurd cc;
}
ends_step hi ha w (initiator_reads at now) holds numbers past h may = initiator_reading hi ha w w.homeward at now refl holds numbers past h may.0
ends_step hi ha w (acceptor_reads at now) holds numbers past h may = acceptor_reading hi ha w w.outward at now refl holds numbers past h may.0
ends_step hi ha w (initiator_does call) holds numbers past h may =
    let s = w.initiator in
    let t = run s (call ∷ []) in
    let d = does_as hi s call may.0 may.1 holds.initiator.serves holds.initiator_window.opening in
    let tells = tells_as hi s call may.0 may.1 in
    let serves = serves_as hi s call may.0 may.1 in
    record {
      outward = subst (λ (c : EndConfig). Behind c.own_flow hi t.facts w.acceptor.facts w.acceptor.ending (w.outward ++ written s (call ∷ []))) (sym d.config)
          (told_behind s.config.own_flow hi s.facts t.facts w.acceptor.facts w.acceptor.ending w.outward (written s (call ∷ [])) h.outward holds.outward_requests.even tells serves.runs);
      homeward = kept_behind w.acceptor.config.own_flow ha w.acceptor.facts s.facts t.facts s.ending t.ending w.homeward (was_none s.ending t.ending d.over) serves.closing serves.requester h.homeward tells;
      initiator = ends_still NoFinish s t d.ends time_fine h.initiator;
      acceptor = h.acceptor;
    }
ends_step hi ha w (acceptor_does call) holds numbers past h may =
    let s = w.acceptor in
    let t = run s (call ∷ []) in
    let d = does_as ha s call may.0 may.1 holds.acceptor.serves holds.acceptor_window.opening in
    let tells = tells_as ha s call may.0 may.1 in
    let serves = serves_as ha s call may.0 may.1 in
    record {
      outward = kept_behind w.initiator.config.own_flow hi w.initiator.facts s.facts t.facts s.ending t.ending w.outward (was_none s.ending t.ending d.over) serves.closing serves.requester h.outward tells;
      homeward = subst (λ (c : EndConfig). Behind c.own_flow ha t.facts w.initiator.facts w.initiator.ending (w.homeward ++ written s (call ∷ []))) (sym d.config)
          (told_behind s.config.own_flow ha s.facts t.facts w.initiator.facts w.initiator.ending w.homeward (written s (call ∷ [])) h.homeward holds.homeward_requests.even tells serves.runs);
      initiator = h.initiator;
      acceptor = ends_still NoFinish s t d.ends time_fine h.acceptor;
    }

ends_after : (hi ha : List Entry) (w : World) (steps : List Step) → Reached hi ha w → Holds w → Ends hi ha w → AllMayStep hi ha w steps → Ends hi ha (world_after w steps)
ends_after hi ha w [] r holds h may = h
ends_after hi ha w (step ∷ later) r holds h may =
    ends_after hi ha (after w step) later (reached_step hi ha w step r may.0) (holds_step hi ha w step holds may.0) (ends_step hi ha w step holds (numbered hi ha w r) (past hi ha w r) h may.0) may.1

ends_at_first : (hi ha : List Entry) (w : World) → StartsKnown hi ha w → Ends hi ha w
ends_at_first hi ha w known = record {
  outward = first_behind hi w.initiator w.acceptor w.outward known.1 known.0.acceptor known.0.outward;
  homeward = first_behind ha w.acceptor w.initiator w.homeward known.2 known.0.initiator known.0.homeward;
  initiator = λ v is. absurd (cc (sym (ap (λ (s : State). s.ending) known.0.initiator) ∙ is));
  acceptor = λ v is. absurd (cc (sym (ap (λ (s : State). s.ending) known.0.acceptor) ∙ is));
}

-- so it is after any steps from the beginning
pub ends_hold : (hi ha : List Entry) (w : World) (steps : List Step) → StartsKnown hi ha w → AllMayStep hi ha w steps → Ends hi ha (world_after w steps)
ends_hold hi ha w steps known may = ends_after hi ha w steps (record { first = w; steps = []; known = known; may = tt; is = refl }) (holds_at_first w known.0) (ends_at_first hi ha w known) may
