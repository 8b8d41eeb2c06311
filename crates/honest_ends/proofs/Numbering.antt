-- The numbers of both flows, step by step.
use Rattle.honest_ends.proofs.Lying.{LiesSo, lies_behind}
use Rattle.honest_ends.proofs.Past.{lies_empty, held_below, lies_passes}
use Rattle.honest_ends.proofs.Windowing.{Window}
use Rattle.fixp_replies.specs.Incoming.{Incoming}
use Rattle.std.proofs.Common.{◌≡◌, ◌⊎◌, inl, inr, ℕ, ◌+◌, true, false, List, [], ◌∷◌, ◌++◌, Option, Some, None, refl, sym, ap, subst, ◌∙◌, true≢false, arith}
use Rattle.std.specs.List.{AllByRecursion}
use Rattle.session_model.specs.Journal.{Entry}
use Rattle.fixp_msgs.specs.declared.flow.Flow.{Flow}
use Rattle.flow_recover.specs.Receiving as receiver_is
use Rattle.flow_retrans.specs.declared.request.Request.TheVariants as requests
use Rattle.fixp_shake.specs.declared.config.EndConfig.{EndConfig}
use Rattle.fixp_shake.specs.declared.violation.Violation.{Violation}
use Rattle.fixp_shake.specs.Phases.{is_shaken}
use Rattle.fixp_replies.specs.declared.act.Ending.{Ending}
use Rattle.fixp_replies.specs.declared.act.Ending.TheVariants as endings
use Rattle.fixp_replies.specs.declared.facts.Facts.{Facts}
use Rattle.fixp_replies.specs.Outcomes.{Outcome}
use Rattle.fixp_replies.specs.Replies.{reply_of}
use Rattle.fixp_machine.specs.Machine.{State, around, run, Call, begin, step, IsDrained}
use Rattle.connection_laws.specs.Writing.{Piece, said_all}
use Rattle.connection_laws.specs.Standing.{MayStand}
use Rattle.two_ends.specs.Reading.{incoming_of}
use Rattle.fixp_shake.specs.Flows.{is_recoverable}
use Rattle.fixp_replies.specs.Facts.{is_initiator}
use Rattle.honest_ends.proofs.Shapes.{all_free_flow}
use Rattle.honest_ends.proofs.PhaseOpening.{Quiet}
use Rattle.honest_ends.specs.PhaseLaws.{IsOfTime, EndsBy}
use Rattle.honest_ends.specs.Numbers.{exactly, Runs, ServesLater, served, Answers, IsFlowing, to_come, Peer, goes_softly}
use Rattle.honest_ends.specs.Worlds.{World, Step, meets, initiator_reads, acceptor_reads, initiator_does, acceptor_does, written, after, initiator_read, acceptor_read, MayStep, world_after, AllMayStep, reading, IsOther, MayRead}
use Rattle.honest_ends.proofs.Moving.{Reads, reads_as, Does, does_as, ends_still, each_of_time}
use Rattle.honest_ends.proofs.Serving.{Requests, by_bool, serves_as, was_none}
use Rattle.honest_ends.proofs.Phased.{Shaking, Holds, holds_step, holds_at_first, to_acceptor, to_initiator, initiator_quiet, acceptor_quiet, unheld_in}
use Rattle.honest_ends.specs.Knowing.{Knows, StartsKnown}
use Rattle.honest_ends.specs.Numbered.{awaited, Names, TellsNext, ReturnsFirst, Expects, Follows, Numbered}
use Rattle.honest_ends.specs.NumberLaws.{NoNumber}
use Rattle.honest_ends.proofs.Awaiting.{not_softly, Ready}
use Rattle.honest_ends.proofs.Requesting.{Agrees}
use Rattle.honest_ends.proofs.Standing.{initiator_flows, acceptor_flows, Untold, flows_untold, Quietly, initiator_quietly, acceptor_quietly, acceptor_waits, Opening, initiator_opening, acceptor_opening}
use Rattle.honest_ends.proofs.Beginning.{meeting}
use Rattle.honest_ends.proofs.Keeping.{Between, reader_replies, writer_replies, same_shaken, reader_calls, writer_calls, ready_first}

-- the numbers of one flow of a world
abbrev pub Flowing : List Entry → State → State → (way back : List Piece) → Type 0
Flowing h writer reader way back = Between h writer.facts reader.config reader.most reader.facts reader.ending way back

pub record Counted (hi ha : List Entry) (w : World) : Type 0 where
  pub holds : Holds w
  pub outward : Flowing hi w.initiator w.acceptor w.outward w.homeward
  pub homeward : Flowing ha w.acceptor w.initiator w.homeward w.outward
  pub initiator : EndsBy NoNumber w.initiator
  pub acceptor : EndsBy NoNumber w.acceptor
  pub initiator_lies : LiesSo w.initiator
  pub acceptor_lies : LiesSo w.acceptor

-- a message is read: what holds of its outcome holds of the end behind it
read_by : (h : List Entry) (writer : Facts) (s t : State) (i : Incoming) (o : Outcome) (left back out : List Piece) → Reads s i o t out → Between h writer s.config s.most o.next o.ending left (back ++ said_all o.written)
    → Between h writer t.config t.most t.facts t.ending left (back ++ out)
read_by h writer s t i o left back out r b =
    subst (λ (c : EndConfig). Between h writer c t.most t.facts t.ending left (back ++ out)) (sym r.config)
    (subst (λ (n : ℕ). Between h writer s.config n t.facts t.ending left (back ++ out)) (sym r.most)
    (subst (λ (f : Facts). Between h writer s.config s.most f t.ending left (back ++ out)) (sym r.facts)
    (subst (λ (e : Option Ending). Between h writer s.config s.most o.next e left (back ++ out)) (sym r.ending)
    (subst (λ (ps : List Piece). Between h writer s.config s.most o.next o.ending left (back ++ ps)) (sym r.writes) b))))

written_by : (h : List Entry) (s t : State) (i : Incoming) (o : Outcome) (c : EndConfig) (limit : ℕ) (reader : Facts) (over : Option Ending) (way left out : List Piece) → Reads s i o t out
    → Between h o.next c limit reader over (way ++ said_all o.written) left → Between h t.facts c limit reader over (way ++ out) left
written_by h s t i o c limit reader over way left out r b =
    subst (λ (f : Facts). Between h f c limit reader over (way ++ out) left) (sym r.facts)
    (subst (λ (ps : List Piece). Between h o.next c limit reader over (way ++ ps) left) (sym r.writes) b)

-- no connection has ended
going_on : (h : List Entry) (writer : Facts) (c : EndConfig) (limit : ℕ) (reader : Facts) (e : Option Ending) (way back : List Piece) → e ≡ None → Between h writer c limit reader e way back → Between h writer c limit reader None way back
going_on h writer c limit reader e way back none b = subst (λ (k : Option Ending). Between h writer c limit reader k way back) none b

no_violation : (v : Violation) → None ≡ Some (endings.Violation v) → NoNumber v
no_violation v e = absurd cc

-- those of time are none of numbers
time_fine : (v : Violation) → IsOfTime v → NoNumber v
time_fine = each_of_time NoNumber (λ last now. tt) (λ start now. tt)

-- an end reads the first message under way to it: both flows are as they have to be, and it breaks no rule of numbers
end_reads : (own theirs : List Entry) (s other : State) (p : Piece) (left outgoing : List Piece) (at now : ℕ) → ServesLater s.config s.facts → Peer s.config other.config → other.config.peer_flow ≡ s.config.own_flow
    → (is_shaken s.facts.connection.phase ≡ true → IsFlowing other.config p) → Quietly other.config p outgoing
    → (is_shaken s.facts.connection.phase ≡ false → (is_shaken other.facts.connection.phase ≡ false) ⊎ (is_initiator s.config.role ≡ true))
    → (is_shaken s.facts.connection.phase ≡ false → is_shaken (reply_of (around s at now) s.facts (incoming_of p)).next.connection.phase ≡ true → Opening s.config other.config other.facts p outgoing) → s.ending ≡ None → IsDrained s → Window s → LiesSo s
    → Requests other.facts s.facts s.ending (p ∷ left) outgoing → Flowing own s other outgoing (p ∷ left) → Flowing theirs other s (p ∷ left) outgoing
    → Flowing own (run s (reading p at now)) other (outgoing ++ written s (reading p at now)) left × Flowing theirs other (run s (reading p at now)) left (outgoing ++ written s (reading p at now)) × EndsBy NoNumber (run s (reading p at now))
    × LiesSo (run s (reading p at now))
end_reads own theirs s other p left outgoing at now later peer flow flows quietly first opening going drained window lies asked out home =
    let x = around s at now in
    let o : Outcome = reply_of x s.facts (incoming_of p) in
    let rd = reads_as s p at now in
    let r = reader_replies theirs other.facts x s.facts other.config p left outgoing later peer flows quietly first asked.once (λ yet. held_below s.facts s.held (lies going yet)) (unheld_in s at now window) (going_on theirs other.facts s.config s.most s.facts s.ending (p ∷ left) outgoing going home) in (
      written_by own s (run s (reading p at now)) (incoming_of p) o other.config other.most other.facts other.ending outgoing left (written s (reading p at now)) rd
          (writer_replies own x s.facts other.config other.config other.most other.facts other.ending p outgoing left later peer flows opening flow out),
      read_by theirs other.facts s (run s (reading p at now)) (incoming_of p) o left outgoing (written s (reading p at now)) rd r.0,
      λ v is. r.1 v (sym rd.ending ∙ is),
      lies_behind s other.config p left (other.facts.recorded.sent + 1) (served other.facts.connection.serving) at now peer flows window drained going (λ yet. (home.goes going yet).0) (let sent = home.sent in let most = home.most in omega (arith, sent, most)) lies,
    )

initiator_reading : (hi ha : List Entry) (w : World) (way : List Piece) (at now : ℕ) → w.homeward ≡ way → Counted hi ha w → MayRead w.initiator → Holds (initiator_read w way at now) → Counted hi ha (initiator_read w way at now)
initiator_reading hi ha w [] at now e n going h = n
initiator_reading hi ha w (p ∷ left) at now e n going h =
    let s = w.initiator in
    let m = n.holds.matches in
    let flows : is_shaken s.facts.connection.phase ≡ true → IsFlowing w.acceptor.config p = λ shaken.
    (subst (λ (ps : List Piece). AllByRecursion (IsFlowing w.acceptor.config) ps) e (initiator_flows s.config w.acceptor.config s.facts s.ending w.acceptor.facts w.outward w.homeward n.holds.shaking shaken)).0 in
    let sh = subst (λ (ps : List Piece). Shaking s.config w.acceptor.config s.facts s.ending w.acceptor.facts w.outward ps) e n.holds.shaking in
    let later : ServesLater s.config s.facts = λ _ before. (initiator_quiet s.config w.acceptor.config s.facts s.ending w.acceptor.facts w.outward w.homeward n.holds.shaking before).free in
    let r = end_reads hi ha s w.acceptor p left w.outward at now later (to_initiator s.config w.acceptor.config m) m.outward flows
    (initiator_quietly s.config w.acceptor.config s.facts s.ending w.acceptor.facts p w.outward left going.0.going sh) (λ _. inr (ap (λ k. is_initiator k) m.initiates))
    (initiator_opening (around s at now) w.acceptor.config s.facts s.ending w.acceptor.facts p w.outward left m going.0.going n.holds.newer (unheld_in s at now n.holds.initiator_window) sh) going.0.going going.1 n.holds.initiator_window n.initiator_lies
    (subst (λ (ps : List Piece). Requests w.acceptor.facts s.facts s.ending ps w.outward) e n.holds.homeward_requests)
    (subst (λ (ps : List Piece). Flowing hi s w.acceptor w.outward ps) e n.outward) (subst (λ (ps : List Piece). Flowing ha w.acceptor s ps w.outward) e n.homeward) in
    record { holds = h; outward = r.0; homeward = r.1; initiator = r.2; acceptor = n.acceptor; initiator_lies = r.3; acceptor_lies = n.acceptor_lies }

acceptor_reading : (hi ha : List Entry) (w : World) (way : List Piece) (at now : ℕ) → w.outward ≡ way → Counted hi ha w → MayRead w.acceptor → Holds (acceptor_read w way at now) → Counted hi ha (acceptor_read w way at now)
acceptor_reading hi ha w [] at now e n going h = n
acceptor_reading hi ha w (p ∷ left) at now e n going h =
    let s = w.acceptor in
    let m = n.holds.matches in
    let flows : is_shaken s.facts.connection.phase ≡ true → IsFlowing w.initiator.config p = λ shaken.
    (subst (λ (ps : List Piece). AllByRecursion (IsFlowing w.initiator.config) ps) e (acceptor_flows w.initiator.config s.config w.initiator.facts w.initiator.ending s.facts w.outward w.homeward n.holds.shaking shaken)).0 in
    let sh = subst (λ (ps : List Piece). Shaking w.initiator.config s.config w.initiator.facts w.initiator.ending s.facts ps w.homeward) e n.holds.shaking in
    let later : ServesLater s.config s.facts = λ _ before. (acceptor_quiet w.initiator.config s.config w.initiator.facts w.initiator.ending s.facts w.outward w.homeward n.holds.shaking before).free in
    let r = end_reads ha hi s w.initiator p left w.homeward at now later (to_acceptor w.initiator.config s.config m) m.homeward flows
    (acceptor_quietly w.initiator.config s.config w.initiator.facts w.initiator.ending s.facts p left w.homeward sh)
    (λ before. inl (acceptor_waits w.initiator.config s.config w.initiator.facts w.initiator.ending s.facts (p ∷ left) w.homeward sh before))
    (acceptor_opening w.initiator.config (around s at now) w.initiator.facts w.initiator.ending s.facts p left w.homeward m (unheld_in s at now n.holds.acceptor_window) sh) going.0.going going.1 n.holds.acceptor_window n.acceptor_lies
    (subst (λ (ps : List Piece). Requests w.initiator.facts s.facts s.ending ps w.homeward) e n.holds.outward_requests)
    (subst (λ (ps : List Piece). Flowing ha s w.initiator w.homeward ps) e n.homeward) (subst (λ (ps : List Piece). Flowing hi w.initiator s ps w.homeward) e n.outward) in
    record { holds = h; outward = r.1; homeward = r.0; initiator = n.initiator; acceptor = r.2; initiator_lies = n.initiator_lies; acceptor_lies = r.3 }

-- no call but the beginning of a connection tells of a number
calls_untold : (s t : State) (out : List Piece) → Does s t out → (is_shaken s.facts.connection.phase ≡ false → Quiet s.facts) → AllByRecursion Untold out
calls_untold s t out d quiet = by_bool (AllByRecursion Untold out) (is_shaken s.facts.connection.phase) (λ done. flows_untold s.config out (d.done done).1)
    (λ before. flows_untold s.config out (all_free_flow s.config out (d.before before (quiet before)).1))

-- so at every call other than the beginning of a connection: both flows are as they have to be
end_calls : (own theirs : List Entry) (s other : State) (call : Call) (outgoing incoming : List Piece) → other.config.peer_flow ≡ s.config.own_flow → IsOther own call → MayStand own s call → (is_recoverable s.config.own_flow ≡ false → s.facts.connection.serving ≡ None)
    → (is_shaken s.facts.connection.phase ≡ false → Quiet s.facts) → Window s → LiesSo s → Flowing own s other outgoing incoming → Flowing theirs other s incoming outgoing → EndsBy NoNumber s
    → Flowing own (run s (call ∷ [])) other (outgoing ++ written s (call ∷ [])) incoming × Flowing theirs other (run s (call ∷ [])) incoming (outgoing ++ written s (call ∷ [])) × EndsBy NoNumber (run s (call ∷ [])) × LiesSo (run s (call ∷ []))
end_calls own theirs s other call outgoing incoming flow is_other may serves quiet window lies out home fine =
    let t = run s (call ∷ []) in
    let more = written s (call ∷ []) in
    let d = does_as own s call is_other may serves window.opening in
    let k = serves_as own s call is_other may in (
      writer_calls own s t other.config other.most other.facts other.ending outgoing incoming more flow (same_shaken s t more d quiet) k out,
      reader_calls theirs own other.facts s t incoming outgoing more (same_shaken s t more d quiet) d.over d.config (calls_untold s t more d quiet) window lies k home,
      ends_still NoNumber s t d.ends time_fine fine,
      λ none yet. lies_passes s t k.reader k.soft k.requester (lies (was_none s.ending t.ending d.over none) (k.closing yet)),
    )

pub counted_step : (hi ha : List Entry) (w : World) (step : Step) → Counted hi ha w → MayStep hi ha w step → Counted hi ha (after w step)
counted_step hi ha w (meets now_i now_a) n may =
    let xi = around w.initiator 0 now_i in
    let xa = around w.acceptor 0 now_a in
    let m = n.holds.matches in
    record {
      holds = holds_step hi ha w (meets now_i now_a) n.holds may;
      outward = meeting hi xi xa w.initiator.facts.recorded w.acceptor.facts.recorded w.acceptor.most w.initiator.facts w.acceptor.facts w.acceptor.ending w.outward w.homeward refl refl m.outward n.outward;
      homeward = meeting ha xa xi w.acceptor.facts.recorded w.initiator.facts.recorded w.initiator.most w.acceptor.facts w.initiator.facts w.initiator.ending w.homeward w.outward refl refl m.homeward n.homeward;
      initiator = no_violation;
      acceptor = no_violation;
      initiator_lies = λ _ _. lies_empty (step w.initiator (begin now_i)).facts (step w.initiator (begin now_i)).held refl;
      acceptor_lies = λ _ _. lies_empty (step w.acceptor (begin now_a)).facts (step w.acceptor (begin now_a)).held refl;
    }
counted_step hi ha w (initiator_reads at now) n may = initiator_reading hi ha w w.homeward at now refl n may (holds_step hi ha w (initiator_reads at now) n.holds may)
counted_step hi ha w (acceptor_reads at now) n may = acceptor_reading hi ha w w.outward at now refl n may (holds_step hi ha w (acceptor_reads at now) n.holds may)
counted_step hi ha w (initiator_does call) n may =
    let s = w.initiator in
    let r = end_calls hi ha s w.acceptor call w.outward w.homeward n.holds.matches.outward may.0 may.1 n.holds.initiator.serves
    (initiator_quiet s.config w.acceptor.config s.facts s.ending w.acceptor.facts w.outward w.homeward n.holds.shaking) n.holds.initiator_window n.initiator_lies n.outward n.homeward n.initiator in
    record { holds = holds_step hi ha w (initiator_does call) n.holds may; outward = r.0; homeward = r.1; initiator = r.2; acceptor = n.acceptor; initiator_lies = r.3; acceptor_lies = n.acceptor_lies }
counted_step hi ha w (acceptor_does call) n may =
    let s = w.acceptor in
    let r = end_calls ha hi s w.initiator call w.homeward w.outward n.holds.matches.homeward may.0 may.1 n.holds.acceptor.serves
    (acceptor_quiet w.initiator.config s.config w.initiator.facts w.initiator.ending s.facts w.outward w.homeward n.holds.shaking) n.holds.acceptor_window n.acceptor_lies n.homeward n.outward n.acceptor in
    record { holds = holds_step hi ha w (acceptor_does call) n.holds may; outward = r.1; homeward = r.0; initiator = n.initiator; acceptor = r.2; initiator_lies = n.initiator_lies; acceptor_lies = r.3 }

pub counted_after : (hi ha : List Entry) (w : World) (steps : List Step) → Counted hi ha w → AllMayStep hi ha w steps → Counted hi ha (world_after w steps)
counted_after hi ha w [] n may = n
counted_after hi ha w (step ∷ later) n may = counted_after hi ha (after w step) later (counted_step hi ha w step n may.0) may.1

-- at the beginning nothing is under way
beginning : (h : List Entry) (c : EndConfig) (writer : State) (limit : ℕ) (reader : State) (way back : List Piece) → Knows h writer reader → writer.facts.connection.serving ≡ None
    → reader.facts.connection.receiver ≡ receiver_is.fresh reader.facts.recorded.inbox_next → reader.facts.connection.requester ≡ requests.Nothing → reader.facts.connection.soft ≡ false → is_shaken reader.facts.connection.phase ≡ false → way ≡ [] → back ≡ []
    → Flowing h writer reader way back
beginning h c writer limit reader way back k free receiver requester firm before no_way no_back = record {
  sent = k.sent;
  most = k.most;
  one = k.one;
  next = k.next;
  told = subst (λ (ps : List Piece). AllByRecursion (TellsNext reader.config reader.facts) ps) (sym no_back) tt;
  restarts = λ _ _ soft. absurd (true≢false (sym soft ∙ not_softly reader.facts firm));
  goes = λ _ _. (
    ready_first reader.config reader.facts way (writer.facts.recorded.sent + 1) (served writer.facts.connection.serving) receiver requester firm before k.next
        (subst (λ (ps : List Piece). Runs reader.config.peer_flow (exactly (writer.facts.recorded.sent + 1)) None ps (writer.facts.recorded.sent + 1) (served writer.facts.connection.serving)) (sym no_way) (refl, sym (ap served free))),
    record {
      asks = subst (λ (ps : List Piece). AllByRecursion (Names reader.facts.connection.requester) ps) (sym no_back) tt;
      answers = subst (λ (ps : List Piece). AllByRecursion (Answers reader.facts.connection.requester) ps) (sym no_way) tt;
    },
  );
}

pub counted_at_first : (hi ha : List Entry) (w : World) → StartsKnown hi ha w → Counted hi ha w
counted_at_first hi ha w st =
    let start = st.0 in
    let fi = ap (λ (s : State). s.facts.connection) start.initiator in
    let fa = ap (λ (s : State). s.facts.connection) start.acceptor in
    record {
      holds = holds_at_first w start;
      outward = beginning hi w.acceptor.config w.initiator w.acceptor.most w.acceptor w.outward w.homeward st.1 (ap (λ c. c.serving) fi) (ap (λ c. c.receiver) fa) (ap (λ c. c.requester) fa) (ap (λ c. c.soft) fa) (ap (λ c. is_shaken c.phase) fa) start.outward start.homeward;
      homeward = beginning ha w.initiator.config w.acceptor w.initiator.most w.initiator w.homeward w.outward st.2 (ap (λ c. c.serving) fa) (ap (λ c. c.receiver) fi) (ap (λ c. c.requester) fi) (ap (λ c. c.soft) fi) (ap (λ c. is_shaken c.phase) fi) start.homeward start.outward;
      initiator = λ v e. no_violation v (sym (ap (λ (s : State). s.ending) start.initiator) ∙ e);
      acceptor = λ v e. no_violation v (sym (ap (λ (s : State). s.ending) start.acceptor) ∙ e);
      initiator_lies = λ _ _. lies_empty w.initiator.facts w.initiator.held (ap (λ (s : State). s.held) start.initiator);
      acceptor_lies = λ _ _. lies_empty w.acceptor.facts w.acceptor.held (ap (λ (s : State). s.held) start.acceptor);
    }

-- as the definitions have it
follows : (h : List Entry) (writer reader : State) (way back : List Piece) → reader.config.peer_flow ≡ writer.config.own_flow → Flowing h writer reader way back → Follows h writer reader way back
follows h writer reader way back flow b = record {
  sent = b.sent;
  most = b.most;
  one = b.one;
  next = b.next;
  told = b.told;
  expects = λ none yet. expects (b.goes none yet) (b.restarts none yet);
}
  where
    expects : Ready reader.config reader.facts way (writer.facts.recorded.sent + 1) (served writer.facts.connection.serving) × Agrees reader.facts.connection.requester way back
        → (goes_softly reader.facts ≡ true → is_shaken writer.facts.connection.phase ≡ true → ReturnsFirst reader.facts.connection.receiver.next way) → Expects writer reader way back
    expects g restarts = record {
      runs = subst (λ (f : Flow). Runs f (awaited reader.config reader.facts) (to_come reader.facts.connection.requester) way (writer.facts.recorded.sent + 1) (served writer.facts.connection.serving)) flow g.0.runs;
      line = g.0.line;
      idle = g.0.idle;
      opening = g.0.opening;
      asks = g.1.asks;
      answers = g.1.answers;
      restarts = restarts;
    }

pub numbered_of : (hi ha : List Entry) (w : World) → Counted hi ha w → Numbered hi ha w
numbered_of hi ha w n = record {
  outward = follows hi w.initiator w.acceptor w.outward w.homeward n.holds.matches.outward n.outward;
  homeward = follows ha w.acceptor w.initiator w.homeward w.outward n.holds.matches.homeward n.homeward;
}
