-- A handshake of two ends, step by step.
use Rattle.std.proofs.Common.{◌≡◌, ◌⊎◌, inl, inr, ℕ, ◌+◌, ◌≤◌, ◌&&◌, min, max, not, Bool, true, false, List, [], ◌∷◌, ◌++◌, Option, None, refl, sym, ap, subst, ◌∙◌, arith, true≢false, append-nil}
use Rattle.std.specs.List.{AllByRecursion}
use Rattle.session_model.specs.Journal.{Entry}
use Rattle.fixp_msgs.specs.Message.{Message, establish}
use Rattle.fixp_shake.specs.declared.config.EndConfig.{EndConfig}
use Rattle.fixp_shake.specs.declared.config.Role.{Role}
use Rattle.fixp_shake.specs.declared.phase.Phase.{Phase}
use Rattle.fixp_shake.specs.declared.phase.Phase.TheVariants as phases
use Rattle.fixp_shake.specs.Flows.{is_sequenced}
use Rattle.fixp_shake.specs.Phases.{is_idle, is_shaken}
use Rattle.fixp_replies.specs.declared.act.Ending.{Ending}
use Rattle.fixp_replies.specs.declared.facts.EndState.{EndState}
use Rattle.fixp_replies.specs.declared.facts.Facts.{Facts}
use Rattle.fixp_replies.specs.Facts.{Around, is_initiator, connecting}
use Rattle.fixp_replies.specs.Outcomes.{Outcome, opening_negotiate, opening_establish}
use Rattle.fixp_replies.specs.Events.{Made, begun}
use Rattle.fixp_replies.specs.Replies.{reply_of}
use Rattle.fixp_machine.specs.Machine.{State, Call, around, to_tell, step, run}
use Rattle.connection_laws.specs.Writing.{Piece, said, said_all, writes}
use Rattle.connection_laws.specs.Standing.{MayStand}
use Rattle.two_ends.specs.Reading.{incoming_of}
use Rattle.honest_ends.specs.PhaseLaws.{IsOfTime, EndsBy}
use Rattle.honest_ends.specs.Worlds.{World, Step, meets, initiator_reads, acceptor_reads, initiator_does, acceptor_does, reading, written, initiator_read, acceptor_read, after, world_after, IsOther, MayStep, AllMayStep, Match}
use Rattle.honest_ends.specs.Knowing.{StartsKnown}
use Rattle.honest_ends.proofs.FinishLaws.{only_time_ends}
use Rattle.honest_ends.proofs.Windowing.{stays_shaken}
use Rattle.honest_ends.proofs.Moving.{Reads, reads_as, Does, does_as}
use Rattle.honest_ends.proofs.Shapes.{IsAsk, IsAnswer}
use Rattle.honest_ends.proofs.PhaseOpening.{Quiet, number_given, newer_tells}
use Rattle.honest_ends.proofs.Phased as phased
use Rattle.honest_ends.proofs.Phased.{Shaking, Holds, holds_after, holds_at_first, initiator_quiet, acceptor_quiet, to_acceptor, to_initiator, unheld_in, begun_as}
use Rattle.drain_laws.specs.Negotiating.{RestsOn}
use Rattle.drain_ends.specs.Agreeing.{IsNoReject, SaysSo, IsKnown, Agreed}
use Rattle.drain_ends.specs.Closing.{KeepsLink}
use Rattle.drain_ends.specs.Shutting.{IsCall}
use Rattle.drain_ends.proofs.Agreed.{agreed_holds}
use Rattle.drain_opening.specs.Opening.{InTime, StepInTime, AllInTime, one_of, read_in, reads_in, to_come, Awaited, by_acceptor, by_initiator, Opening, Opened, OpeningHolds, OpenedStays}
use Rattle.drain_opening.proofs.Interval.{interval_stays}
use Rattle.drain_opening.proofs.Answered.{IsAckOf, Answers, answers, acknowledges_it, refuses_it, ask_answered, AsksOn, answer_asked, Acked, is_done, refuses_ack, ack_taken}
use Rattle.drain_opening.proofs.Idling.{reading_told, Idles, idle_call, GoesOn, call_goes_on}

-- what is known of each world to which steps lead
record Good (w : World) : Type 0 where
  holds : Holds w
  agreed : Agreed w
  times : EndsBy IsOfTime w.initiator × EndsBy IsOfTime w.acceptor

good_after : (hi ha : List Entry) (w : World) (steps : List Step) → StartsKnown hi ha w → IsKnown w → AllMayStep hi ha w steps → Good (world_after w steps)
good_after hi ha w steps known agreed may = record {
  holds = holds_after hi ha w steps (holds_at_first w known.0) may;
  agreed = agreed_holds hi ha w steps known.0 agreed may;
  times = only_time_ends hi ha w steps known may;
}

-- before the initiator's handshake is done: what it asks for is under way, or the answer, or the acknowledgement
data Shape (w : World) (left : ℕ) : Type 0 where
  asked_for : (m : Message) → w.outward ≡ said m ∷ [] → w.homeward ≡ [] → IsAsk w.initiator.config w.initiator.facts.connection.phase (said m) → to_come m ≡ left → w.acceptor.facts.connection.phase ≡ phases.Idle → Shape w left
  answered_by : (m : Message) → w.outward ≡ [] → w.homeward ≡ said m ∷ [] → IsAnswer w.acceptor.config w.initiator.facts.connection.phase (said m) → to_come m ≡ left → w.acceptor.facts.connection.phase ≡ phases.Idle → Shape w left
  acked : (m : Message) (later : List Piece) → w.outward ≡ [] → w.homeward ≡ said m ∷ later → IsAckOf w.acceptor.config m → to_come m ≡ left → w.initiator.facts.connection.phase ≡ phases.Establishing
      → w.acceptor.facts.connection.phase ≡ phases.Established → w.acceptor.facts.connection.peer_interval ≡ w.initiator.config.keepalive → Shape w left

record Before (w : World) (left : ℕ) : Type 0 where
  unshaken : is_shaken w.initiator.facts.connection.phase ≡ false
  going_i : w.initiator.ending ≡ None
  going_a : w.acceptor.ending ≡ None
  told_i : w.initiator.untold ≡ []
  told_a : is_shaken w.acceptor.facts.connection.phase ≡ false → w.acceptor.untold ≡ []
  shape : Shape w left
  some : 1 ≤ left

-- behind some steps in which so many messages were read, fewer are to come, or the handshake is done
data Next (v : World) (n left : ℕ) : Type 0 where
  still : (l : ℕ) → Before v l → l + n ≤ left → Next v n left
  over : Opened v → Next v n left

same_next : (u v : World) (n k left : ℕ) → u ≡ v → n ≡ k → Next v k left → Next u n left
same_next u v n k left e f x = subst (λ (a : World). Next a n left) (sym e) (subst (λ (a : ℕ). Next v a left) (sym f) x)

-- a phase that is shaken is not idle, and an established one is
idle_not : (p : Phase) → p ≡ phases.Idle → is_shaken p ≡ false
idle_not p e = ap (λ q. is_shaken q) e

established_is : (p : Phase) → p ≡ phases.Established → is_shaken p ≡ true
established_is p e = ap (λ q. is_shaken q) e

establishing_not : (p : Phase) → p ≡ phases.Establishing → is_shaken p ≡ false
establishing_not p e = ap (λ q. is_shaken q) e

-- the initiator reads the answer, and asks again
initiator_answered : (w : World) (m : Message) (left at now : ℕ) → Before w left → w.outward ≡ [] → w.homeward ≡ said m ∷ [] → IsAnswer w.acceptor.config w.initiator.facts.connection.phase (said m) → to_come m ≡ left
    → w.acceptor.facts.connection.phase ≡ phases.Idle → Good w → Next (initiator_read w (said m ∷ []) at now) 1 left
initiator_answered w m left at now b out home answer count idle good = still (to_come r.message) (record {
  unshaken = ap (λ (f : Facts). is_shaken f.connection.phase) rd.facts ∙ r.before;
  going_i = rd.ending ∙ r.going;
  going_a = b.going_a;
  told_i = reading_told s (said m) at now ∙ (ap (λ (ns : List ℕ). ns ++ to_tell s.config o.act) b.told_i ∙ r.told);
  told_a = b.told_a;
  shape = asked_for r.message (ap (λ (ps : List Piece). ps ++ written s (reading (said m) at now)) out ∙ (rd.writes ∙ ap (λ (ms : List Message). said_all ms) r.written)) refl
      (subst (λ (c : EndConfig). IsAsk c t.facts.connection.phase (said r.message)) (sym rd.config) (subst (λ (f : Facts). IsAsk s.config f.connection.phase (said r.message)) (sym rd.facts) r.asks)) refl idle;
  some = r.some;
}) (let less = r.less in omega (arith, less, count))
  where
    s : State
    s = w.initiator

    t : State
    t = run s (reading (said m) at now)

    o : Outcome
    o = reply_of (around s at now) s.facts (incoming_of (said m))

    rd : Reads s (incoming_of (said m)) o t (written s (reading (said m) at now))
    rd = reads_as s (said m) at now

    q : Quiet s.facts
    q = initiator_quiet s.config w.acceptor.config s.facts s.ending w.acceptor.facts w.outward w.homeward good.holds.shaking b.unshaken

    r : AsksOn s.config (to_come m) o
    r = answer_asked (around s at now) s.facts w.acceptor.config s.facts.connection.phase m (to_initiator s.config w.acceptor.config good.holds.matches) refl b.unshaken
        (unheld_in s at now good.holds.initiator_window b.unshaken) q answer (subst (λ (ps : List Piece). AllByRecursion IsNoReject ps) home good.agreed.accepted).0

-- an Establish rests on the negotiation
asks_rests : (c : EndConfig) (p : Phase) (m : Message) → IsAsk c p (said m) → p ≡ phases.Establishing → RestsOn m
asks_rests c phases.Establishing (establish id timestamp keepalive next expected credentials) a e = tt
asks_rests c phases.Establishing _ a e = absurd a
asks_rests c phases.Negotiating m a e = absurd (cc e)
asks_rests c phases.Idle m a e = absurd a
asks_rests c phases.Established m a e = absurd a
asks_rests c phases.Closing m a e = absurd a
asks_rests c phases.Ended m a e = absurd a

-- the acceptor reads what is asked for, and answers, or acknowledges
acceptor_asked : (w : World) (m : Message) (left at now : ℕ) → Before w left → w.outward ≡ said m ∷ [] → w.homeward ≡ [] → IsAsk w.initiator.config w.initiator.facts.connection.phase (said m) → to_come m ≡ left
    → w.acceptor.facts.connection.phase ≡ phases.Idle → Good w → Good (acceptor_read w (said m ∷ []) at now) → Next (acceptor_read w (said m ∷ []) at now) 1 left
acceptor_asked w m left at now b out home asks count idle good good_then = by_answer r
  where
    s : State
    s = w.acceptor

    t : State
    t = run s (reading (said m) at now)

    o : Outcome
    o = reply_of (around s at now) s.facts (incoming_of (said m))

    rd : Reads s (incoming_of (said m)) o t (written s (reading (said m) at now))
    rd = reads_as s (said m) at now

    before : is_shaken s.facts.connection.phase ≡ false
    before = idle_not s.facts.connection.phase idle

    q : Quiet s.facts
    q = acceptor_quiet w.initiator.config s.config w.initiator.facts w.initiator.ending s.facts w.outward w.homeward good.holds.shaking before

    waits : (r : Role) (p : Phase) → is_initiator r ≡ false → p ≡ phases.Idle → (not (is_initiator r) && is_idle p) ≡ true
    waits r p a e = ap (λ k. not k && is_idle p) a ∙ ap (λ k. is_idle k) e

    known : w.initiator.facts.connection.phase ≡ phases.Establishing → s.facts.recorded.negotiated ≡ true
    known e = (subst (λ (ps : List Piece). AllByRecursion (SaysSo s.facts) ps) out good.agreed.outward).0.rests (asks_rests w.initiator.config w.initiator.facts.connection.phase m asks e)

    r : Answers s.config w.initiator.facts.connection.phase w.initiator.config.keepalive s.facts (to_come m) o
    r = ask_answered (around s at now) s.facts w.initiator.config w.initiator.facts.connection.phase m (to_acceptor w.initiator.config s.config good.holds.matches) (sym good.holds.matches.credentials)
        good.holds.matches.keepalive (waits s.config.role s.facts.connection.phase (ap (λ k. is_initiator k) good.holds.matches.accepts) idle) before (unheld_in s at now good.holds.acceptor_window before) q known asks

    homeward_is : (ms : List Message) → o.written ≡ ms → w.homeward ++ written s (reading (said m) at now) ≡ said_all ms
    homeward_is ms e = ap (λ (ps : List Piece). ps ++ written s (reading (said m) at now)) home ∙ (rd.writes ∙ ap (λ (ns : List Message). said_all ns) e)

    by_answer : Answers s.config w.initiator.facts.connection.phase w.initiator.config.keepalive s.facts (to_come m) o → Next (acceptor_read w (said m ∷ []) at now) 1 left
    by_answer (answers n wrote answer less some same going told) = still (to_come n) (record {
      unshaken = b.unshaken;
      going_i = b.going_i;
      going_a = rd.ending ∙ going;
      told_i = b.told_i;
      told_a = λ _. reading_told s (said m) at now ∙ (ap (λ (ns : List ℕ). ns ++ to_tell s.config o.act) (b.told_a before) ∙ told);
      shape = answered_by n refl (homeward_is (n ∷ []) wrote) (subst (λ (c : EndConfig). IsAnswer c w.initiator.facts.connection.phase (said n)) (sym rd.config) answer) refl
          (ap (λ (f : Facts). f.connection.phase) rd.facts ∙ (same ∙ idle));
      some = some;
    }) (omega (arith, less, count))
    by_answer (acknowledges_it n more wrote ack less some now_establishing established interval going) = still (to_come n) (record {
      unshaken = b.unshaken;
      going_i = b.going_i;
      going_a = rd.ending ∙ going;
      told_i = b.told_i;
      told_a = λ k. absurd (true≢false (sym (established_is t.facts.connection.phase (ap (λ (f : Facts). f.connection.phase) rd.facts ∙ established)) ∙ k));
      shape = acked n (said_all more) refl (homeward_is (n ∷ more) wrote) (subst (λ (c : EndConfig). IsAckOf c n) (sym rd.config) ack) refl now_establishing
          (ap (λ (f : Facts). f.connection.phase) rd.facts ∙ established) (ap (λ (f : Facts). f.connection.peer_interval) rd.facts ∙ interval);
      some = some;
    }) (omega (arith, less, count))
    by_answer (refuses_it k) = absurd (k.other (good_then.times.1 k.violation (rd.ending ∙ k.ends)))

-- the initiator reads the acknowledgement
initiator_acked : (w : World) (m : Message) (later : List Piece) (left at now : ℕ) → Before w left → IsAckOf w.acceptor.config m → w.initiator.facts.connection.phase ≡ phases.Establishing → w.acceptor.facts.connection.phase ≡ phases.Established
    → w.acceptor.facts.connection.peer_interval ≡ w.initiator.config.keepalive → Good w → Good (initiator_read w (said m ∷ later) at now) → Next (initiator_read w (said m ∷ later) at now) 1 left
initiator_acked w m later left at now b ack establishing established interval good good_then = by_ack r
  where
    s : State
    s = w.initiator

    t : State
    t = run s (reading (said m) at now)

    o : Outcome
    o = reply_of (around s at now) s.facts (incoming_of (said m))

    rd : Reads s (incoming_of (said m)) o t (written s (reading (said m) at now))
    rd = reads_as s (said m) at now

    q : Quiet s.facts
    q = initiator_quiet s.config w.acceptor.config s.facts s.ending w.acceptor.facts w.outward w.homeward good.holds.shaking b.unshaken

    r : Acked (min 60000 (max 100 w.acceptor.config.keepalive)) o
    r = ack_taken (around s at now) s.facts w.acceptor.config m (to_initiator s.config w.acceptor.config good.holds.matches) establishing b.unshaken q ack

    by_ack : Acked (min 60000 (max 100 w.acceptor.config.keepalive)) o → Next (initiator_read w (said m ∷ later) at now) 1 left
    by_ack (is_done phase known) = over (record {
      initiator = established_is t.facts.connection.phase (ap (λ (f : Facts). f.connection.phase) rd.facts ∙ phase);
      acceptor = established;
      of_initiator = interval ∙ ap (λ (c : EndConfig). c.keepalive) (sym rd.config);
      of_acceptor = ap (λ (f : Facts). f.connection.peer_interval) rd.facts ∙ known;
    })
    by_ack (refuses_ack k) = absurd (k.other (good_then.times.0 k.violation (rd.ending ∙ k.ends)))

-- another call of the initiator
initiator_idles : (hi : List Entry) (w : World) (call : Call) (left : ℕ) → Before w left → Good w → IsOther hi call → MayStand hi w.initiator call → IsCall call → InTime w.initiator call → Next (after w (initiator_does call)) 0 left
initiator_idles hi w call left b good other may is timely = still left (record {
  unshaken = ap (λ k. is_shaken k.phase) k.same ∙ b.unshaken;
  going_i = k.ending;
  going_a = b.going_a;
  told_i = k.untold;
  told_a = b.told_a;
  shape = by_shape b.shape;
  some = b.some;
}) (plus left)
  where
    s : State
    s = w.initiator

    q : Quiet s.facts
    q = initiator_quiet s.config w.acceptor.config s.facts s.ending w.acceptor.facts w.outward w.homeward good.holds.shaking b.unshaken

    k : Idles s (step s call) (writes s call)
    k = idle_call hi s call other may is timely b.unshaken q.free (good.holds.initiator_window.opening b.unshaken) b.told_i b.going_i

    d : Does s (step s call) (written s (call ∷ []))
    d = does_as hi s call other may good.holds.initiator.serves good.holds.initiator_window.opening

    out_is : w.outward ++ written s (call ∷ []) ≡ w.outward
    out_is = ap (λ (ps : List Piece). w.outward ++ (ps ++ [])) k.silent ∙ append-nil w.outward

    plus : (n : ℕ) → n + 0 ≤ n
    plus n = omega arith

    by_shape : Shape w left → Shape (after w (initiator_does call)) left
    by_shape (asked_for m out home asks count idle) = asked_for m (out_is ∙ out) home
        (subst (λ (c : EndConfig). IsAsk c (step s call).facts.connection.phase (said m)) (sym d.config) (subst (λ (p : Phase). IsAsk s.config p (said m)) (sym (ap (λ c. c.phase) k.same)) asks)) count idle
    by_shape (answered_by m out home answer count idle) = answered_by m (out_is ∙ out) home (subst (λ (p : Phase). IsAnswer w.acceptor.config p (said m)) (sym (ap (λ c. c.phase) k.same)) answer) count idle
    by_shape (acked m later out home ack count establishing established interval) = acked m later (out_is ∙ out) home ack count (ap (λ c. c.phase) k.same ∙ establishing) established (interval ∙ ap (λ (c : EndConfig). c.keepalive) (sym d.config))

-- and of the acceptor
acceptor_idles : (ha : List Entry) (w : World) (call : Call) (left : ℕ) → Before w left → Good w → IsOther ha call → MayStand ha w.acceptor call → IsCall call → InTime w.acceptor call → Next (after w (acceptor_does call)) 0 left
acceptor_idles ha w call left b good other may is timely = by_shape b.shape
  where
    s : State
    s = w.acceptor

    plus : (n : ℕ) → n + 0 ≤ n
    plus n = omega arith

    d : Does s (step s call) (written s (call ∷ []))
    d = does_as ha s call other may good.holds.acceptor.serves good.holds.acceptor_window.opening

    idled : s.facts.connection.phase ≡ phases.Idle → Idles s (step s call) (writes s call)
    idled idle =
        let before = idle_not s.facts.connection.phase idle in
        let q = acceptor_quiet w.initiator.config s.config w.initiator.facts w.initiator.ending s.facts w.outward w.homeward good.holds.shaking before in
        idle_call ha s call other may is timely before q.free (good.holds.acceptor_window.opening before) (b.told_a before) b.going_a

    home_is : s.facts.connection.phase ≡ phases.Idle → w.homeward ++ written s (call ∷ []) ≡ w.homeward
    home_is idle = ap (λ (ps : List Piece). w.homeward ++ (ps ++ [])) (idled idle).silent ∙ append-nil w.homeward

    rests : s.facts.connection.phase ≡ phases.Idle → Shape (after w (acceptor_does call)) left → Next (after w (acceptor_does call)) 0 left
    rests idle shape = still left (record {
      unshaken = b.unshaken;
      going_i = b.going_i;
      going_a = (idled idle).ending;
      told_i = b.told_i;
      told_a = λ _. (idled idle).untold;
      shape = shape;
      some = b.some;
    }) (plus left)

    g : GoesOn s (step s call)
    g = call_goes_on s call is timely

    by_shape : Shape w left → Next (after w (acceptor_does call)) 0 left
    by_shape (asked_for m out home asks count idle) = rests idle (asked_for m out (home_is idle ∙ home) asks count (ap (λ c. c.phase) (idled idle).same ∙ idle))
    by_shape (answered_by m out home answer count idle) =
        rests idle (answered_by m out (home_is idle ∙ home) (subst (λ (c : EndConfig). IsAnswer c w.initiator.facts.connection.phase (said m)) (sym d.config) answer) count (ap (λ c. c.phase) (idled idle).same ∙ idle))
    by_shape (acked m later out home ack count establishing established interval) = still left (record {
      unshaken = b.unshaken;
      going_i = b.going_i;
      going_a = g.ending b.going_a;
      told_i = b.told_i;
      told_a = λ k. absurd (true≢false (sym (established_is (step s call).facts.connection.phase phase_is) ∙ k));
      shape = acked m (later ++ written s (call ∷ [])) out (ap (λ (ps : List Piece). ps ++ written s (call ∷ [])) home) (subst (λ (c : EndConfig). IsAckOf c m) (sym d.config) ack) count establishing phase_is (g.interval ∙ interval);
      some = b.some;
    }) (plus left)
      where
        phase_is : (step s call).facts.connection.phase ≡ phases.Established
        phase_is = d.accepts (ap (λ k. is_initiator k) good.holds.matches.accepts) ∙ established

-- once it is done
shaken_established : (ci ca : EndConfig) (fi : Facts) (ei : Option Ending) (fa : Facts) (outward homeward : List Piece) → Shaking ci ca fi ei fa outward homeward → is_shaken fi.connection.phase ≡ true → fa.connection.phase ≡ phases.Established
shaken_established ci ca fi ei fa outward homeward (phased.opens before qi idle qa one free) done = absurd (true≢false (sym done ∙ before))
shaken_established ci ca fi ei fa outward homeward (phased.answering before qi idle qa free one) done = absurd (true≢false (sym done ∙ before))
shaken_established ci ca fi ei fa outward homeward (phased.acknowledging e qi est free first) done = absurd (true≢false (sym done ∙ establishing_not fi.connection.phase e))
shaken_established ci ca fi ei fa outward homeward (phased.standing shaken est out home) done = est
shaken_established ci ca fi ei fa outward homeward (phased.refusing ended before qi est free) done = absurd (true≢false (sym done ∙ before))

opened_initiator_reads : (w : World) (way : List Piece) (at now : ℕ) → Opened w → Opened (initiator_read w way at now)
opened_initiator_reads w [] at now o = o
opened_initiator_reads w (p ∷ left) at now o =
    let s = w.initiator in
    let rd = reads_as s p at now in
    record {
      initiator = ap (λ (f : Facts). is_shaken f.connection.phase) rd.facts ∙ stays_shaken (around s at now) s.facts p o.initiator;
      acceptor = o.acceptor;
      of_initiator = o.of_initiator ∙ ap (λ (c : EndConfig). c.keepalive) (sym rd.config);
      of_acceptor = ap (λ (f : Facts). f.connection.peer_interval) rd.facts ∙ (interval_stays (around s at now) s.facts (incoming_of p) o.initiator ∙ o.of_acceptor);
    }

opened_acceptor_reads : (w : World) (way : List Piece) (at now : ℕ) → Opened w → Good (acceptor_read w way at now) → Opened (acceptor_read w way at now)
opened_acceptor_reads w [] at now o good = o
opened_acceptor_reads w (p ∷ left) at now o good =
    let s = w.acceptor in
    let v = acceptor_read w (p ∷ left) at now in
    let rd = reads_as s p at now in
    record {
      initiator = o.initiator;
      acceptor = shaken_established v.initiator.config v.acceptor.config v.initiator.facts v.initiator.ending v.acceptor.facts v.outward v.homeward good.holds.shaking o.initiator;
      of_initiator = ap (λ (f : Facts). f.connection.peer_interval) rd.facts ∙ (interval_stays (around s at now) s.facts (incoming_of p) (established_is s.facts.connection.phase o.acceptor) ∙ o.of_initiator);
      of_acceptor = o.of_acceptor ∙ ap (λ (c : EndConfig). min 60000 (max 100 c.keepalive)) (sym rd.config);
    }

opened_step : (hi ha : List Entry) (w : World) (s : Step) → Opened w → KeepsLink s → StepInTime w s → MayStep hi ha w s → Good w → Good (after w s) → Opened (after w s)
opened_step hi ha w (meets now_i now_a) o keeps timely may good good_then = absurd keeps
opened_step hi ha w (initiator_reads at now) o keeps timely may good good_then = opened_initiator_reads w w.homeward at now o
opened_step hi ha w (acceptor_reads at now) o keeps timely may good good_then = opened_acceptor_reads w w.outward at now o good_then
opened_step hi ha w (initiator_does call) o keeps timely may good good_then =
    let s = w.initiator in
    let d = does_as hi s call may.0 may.1 good.holds.initiator.serves good.holds.initiator_window.opening in
    let g = call_goes_on s call keeps timely in
    record {
      initiator = (d.done o.initiator).0;
      acceptor = o.acceptor;
      of_initiator = o.of_initiator ∙ ap (λ (c : EndConfig). c.keepalive) (sym d.config);
      of_acceptor = g.interval ∙ o.of_acceptor;
    }
opened_step hi ha w (acceptor_does call) o keeps timely may good good_then =
    let s = w.acceptor in
    let d = does_as ha s call may.0 may.1 good.holds.acceptor.serves good.holds.acceptor_window.opening in
    let g = call_goes_on s call keeps timely in
    record {
      initiator = o.initiator;
      acceptor = d.accepts (ap (λ k. is_initiator k) good.holds.matches.accepts) ∙ o.acceptor;
      of_initiator = g.interval ∙ o.of_initiator;
      of_acceptor = o.of_acceptor ∙ ap (λ (c : EndConfig). min 60000 (max 100 c.keepalive)) (sym d.config);
    }

-- nothing is read where nothing is under way
rest_next : (w v : World) (n left : ℕ) → Before w left → v ≡ w → n ≡ 0 → Next v n left
rest_next w v n left b e z = same_next v w n 0 left e z (still left b (plus left))
  where
    plus : (k : ℕ) → k + 0 ≤ k
    plus k = omega arith

-- a step before it is done
opening_step : (hi ha : List Entry) (w : World) (s : Step) (left : ℕ) → Before w left → KeepsLink s → StepInTime w s → MayStep hi ha w s → Good w → Good (after w s) → Next (after w s) (read_in w s) left
opening_step hi ha w (meets now_i now_a) left b keeps timely may good good_then = absurd keeps
opening_step hi ha w (initiator_does call) left b keeps timely may good good_then = initiator_idles hi w call left b good may.0 may.1 keeps timely
opening_step hi ha w (acceptor_does call) left b keeps timely may good good_then = acceptor_idles ha w call left b good may.0 may.1 keeps timely
opening_step hi ha w (initiator_reads at now) left b keeps timely may good good_then = by_shape b.shape
  where
    reads_of : (way : List Piece) → w.homeward ≡ way → after w (initiator_reads at now) ≡ initiator_read w way at now
    reads_of way e = ap (λ (ps : List Piece). initiator_read w ps at now) e

    by_shape : Shape w left → Next (after w (initiator_reads at now)) (one_of w.homeward) left
    by_shape (asked_for m out home asks count idle) = rest_next w (after w (initiator_reads at now)) (one_of w.homeward) left b (reads_of [] home) (ap (λ (ps : List Piece). one_of ps) home)
    by_shape (answered_by m out home answer count idle) =
        same_next (after w (initiator_reads at now)) (initiator_read w (said m ∷ []) at now) (one_of w.homeward) 1 left (reads_of (said m ∷ []) home) (ap (λ (ps : List Piece). one_of ps) home)
        (initiator_answered w m left at now b out home answer count idle good)
    by_shape (acked m later out home ack count establishing established interval) =
        same_next (after w (initiator_reads at now)) (initiator_read w (said m ∷ later) at now) (one_of w.homeward) 1 left (reads_of (said m ∷ later) home) (ap (λ (ps : List Piece). one_of ps) home)
        (initiator_acked w m later left at now b ack establishing established interval good (subst (λ (v : World). Good v) (reads_of (said m ∷ later) home) good_then))
opening_step hi ha w (acceptor_reads at now) left b keeps timely may good good_then = by_shape b.shape
  where
    reads_of : (way : List Piece) → w.outward ≡ way → after w (acceptor_reads at now) ≡ acceptor_read w way at now
    reads_of way e = ap (λ (ps : List Piece). acceptor_read w ps at now) e

    by_shape : Shape w left → Next (after w (acceptor_reads at now)) (one_of w.outward) left
    by_shape (asked_for m out home asks count idle) =
        same_next (after w (acceptor_reads at now)) (acceptor_read w (said m ∷ []) at now) (one_of w.outward) 1 left (reads_of (said m ∷ []) out) (ap (λ (ps : List Piece). one_of ps) out)
        (acceptor_asked w m left at now b out home asks count idle good (subst (λ (v : World). Good v) (reads_of (said m ∷ []) out) good_then))
    by_shape (answered_by m out home answer count idle) = rest_next w (after w (acceptor_reads at now)) (one_of w.outward) left b (reads_of [] out) (ap (λ (ps : List Piece). one_of ps) out)
    by_shape (acked m later out home ack count establishing established interval) = rest_next w (after w (acceptor_reads at now)) (one_of w.outward) left b (reads_of [] out) (ap (λ (ps : List Piece). one_of ps) out)

-- each world to which steps lead from here is good
abbrev Goods : List Entry → List Entry → World → Type 0
Goods hi ha w = (steps : List Step) → AllMayStep hi ha w steps → Good (world_after w steps)

opened_along : (hi ha : List Entry) (w : World) (steps : List Step) → Opened w → Goods hi ha w → AllMayStep hi ha w steps → AllByRecursion KeepsLink steps → AllInTime w steps → Opened (world_after w steps)
opened_along hi ha w [] o goods may keeps timely = o
opened_along hi ha w (s ∷ later) o goods may keeps timely =
    opened_along hi ha (after w s) later (opened_step hi ha w s o keeps.0 timely.0 may.0 (goods [] tt) (goods (s ∷ []) (may.0, tt))) (λ steps more. goods (s ∷ steps) (may.0, more)) may.1 keeps.1 timely.1

opening_along : (hi ha : List Entry) (w : World) (steps : List Step) (left : ℕ) → Before w left → Goods hi ha w → AllMayStep hi ha w steps → AllByRecursion KeepsLink steps → AllInTime w steps
    → Next (world_after w steps) (reads_in w steps) left
opening_along hi ha w [] left b goods may keeps timely = still left b (plus left)
  where
    plus : (k : ℕ) → k + 0 ≤ k
    plus k = omega arith
opening_along hi ha w (s ∷ later) left b goods may keeps timely =
    by_step (λ l c. opening_along hi ha (after w s) later l c goods_then may.1 keeps.1 timely.1) (opening_step hi ha w s left b keeps.0 timely.0 may.0 (goods [] tt) (goods (s ∷ []) (may.0, tt)))
  where
    goods_then : Goods hi ha (after w s)
    goods_then steps more = goods (s ∷ steps) (may.0, more)

    by_later : (l : ℕ) → l + read_in w s ≤ left → Next (world_after (after w s) later) (reads_in (after w s) later) l → Next (world_after (after w s) later) (read_in w s + reads_in (after w s) later) left
    by_later l few (still k c e) = still k c (numbers l k (read_in w s) (reads_in (after w s) later) left few e)
      where
        numbers : (l k a c left : ℕ) → l + a ≤ left → k + c ≤ l → k + (a + c) ≤ left
        numbers l k a c left f g = omega arith
    by_later l few (over o) = over o

    by_step : ((l : ℕ) → Before (after w s) l → Next (world_after (after w s) later) (reads_in (after w s) later) l) → Next (after w s) (read_in w s) left
        → Next (world_after (after w s) later) (read_in w s + reads_in (after w s) later) left
    by_step on (still l c few) = by_later l few (on l c)
    by_step on (over o) = over (opened_along hi ha (after w s) later o goods_then may.1 keeps.1 timely.1)

-- a connection begins: the initiator asks
record First (c : EndConfig) (m : Made) : Type 0 where
  message : Message
  written_is : m.written ≡ message ∷ []
  asks : IsAsk c m.next.connection.phase (said message)
  before : is_shaken m.next.connection.phase ≡ false
  few : to_come message ≤ 4
  some : 1 ≤ to_come message

initiator_first : (x : Around) (recorded : EndState) → is_initiator x.config.role ≡ true → First x.config (begun x recorded)
initiator_first x recorded role = by_case (is_initiator x.config.role) recorded.negotiated role
  where
    by_case : (i n : Bool) → i ≡ true → First x.config (begun_as x recorded i n)
    by_case true true e = record {
      message = opening_establish x (connecting recorded phases.Establishing);
      written_is = refl;
      asks = (refl, refl, (λ n. number_given (is_sequenced x.config.own_flow) (recorded.sent + 1) n), refl, newer_tells x (connecting recorded phases.Establishing));
      before = refl;
      few = omega arith;
      some = omega arith;
    }
    by_case true false e = record { message = opening_negotiate x; written_is = refl; asks = (refl, refl, refl); before = refl; few = omega arith; some = omega arith }
    by_case false n e = absurd (true≢false (sym e))

pub record Waits (m : Made) : Type 0 where
  pub idle : m.next.connection.phase ≡ phases.Idle
  pub silent : m.written ≡ []

pub acceptor_first : (x : Around) (recorded : EndState) → is_initiator x.config.role ≡ false → Waits (begun x recorded)
acceptor_first x recorded role = by_case (is_initiator x.config.role) recorded.negotiated role
  where
    by_case : (i n : Bool) → i ≡ false → Waits (begun_as x recorded i n)
    by_case false n e = record { idle = refl; silent = refl }
    by_case true n e = absurd (true≢false e)

pub opening_holds : OpeningHolds
opening_holds hi ha w now_i now_a later known agreed may keeps timely = by_next (opening_along hi ha v later (to_come i.message) first goods may.1 keeps timely)
  where
    v : World
    v = after w (meets now_i now_a)

    matches : Match w.initiator.config w.acceptor.config
    matches = known.0.matches

    i : First w.initiator.config (begun (around w.initiator 0 now_i) w.initiator.facts.recorded)
    i = initiator_first (around w.initiator 0 now_i) w.initiator.facts.recorded (ap (λ k. is_initiator k) matches.initiates)

    a : Waits (begun (around w.acceptor 0 now_a) w.acceptor.facts.recorded)
    a = acceptor_first (around w.acceptor 0 now_a) w.acceptor.facts.recorded (ap (λ k. is_initiator k) matches.accepts)

    first : Before v (to_come i.message)
    first = record {
      unshaken = i.before;
      going_i = refl;
      going_a = refl;
      told_i = refl;
      told_a = λ _. refl;
      shape = asked_for i.message (ap (λ (ms : List Message). said_all ms) i.written_is) (ap (λ (ms : List Message). said_all ms) a.silent) i.asks refl a.idle;
      some = i.some;
    }

    goods : Goods hi ha v
    goods steps more = good_after hi ha w (meets now_i now_a ∷ steps) known agreed (may.0, more)

    awaited : (u : World) (l : ℕ) → Before u l → Awaited u l
    awaited u l b = by_shape b.shape
      where
        by_shape : Shape u l → Awaited u l
        by_shape (asked_for m out home asks count idle) = by_acceptor m out home count (idle_not u.acceptor.facts.connection.phase idle)
        by_shape (answered_by m out home answer count idle) = by_initiator m [] out home count (λ _. refl)
        by_shape (acked m more out home ack count establishing established interval) =
            by_initiator m more out home count (λ n. absurd (true≢false (sym (established_is u.acceptor.facts.connection.phase established) ∙ n)))

    interval : (u : World) (l : ℕ) → Before u l → is_shaken u.acceptor.facts.connection.phase ≡ true → u.acceptor.facts.connection.peer_interval ≡ u.initiator.config.keepalive
    interval u l b done = by_shape b.shape
      where
        by_shape : Shape u l → u.acceptor.facts.connection.peer_interval ≡ u.initiator.config.keepalive
        by_shape (asked_for m out home asks count idle) = absurd (true≢false (sym done ∙ idle_not u.acceptor.facts.connection.phase idle))
        by_shape (answered_by m out home answer count idle) = absurd (true≢false (sym done ∙ idle_not u.acceptor.facts.connection.phase idle))
        by_shape (acked m more out home ack count establishing established known_interval) = known_interval

    opening : (u : World) (l : ℕ) → Before u l → Opening u l
    opening u l b = record { unshaken = b.unshaken; initiator = b.going_i; acceptor = b.going_a; awaited = awaited u l b; some = b.some; interval = interval u l b }

    by_next : Next (world_after v later) (reads_in v later) (to_come i.message)
        → ((left : ℕ) × Opening (world_after v later) left × (left + reads_in v later ≤ 4)) ⊎ Opened (world_after v later)
    by_next (still l b few) = let most = i.few in inl (l, opening (world_after v later) l b, omega (arith, few, most))
    by_next (over o) = inr o

pub opened_stays : OpenedStays
opened_stays hi ha w now_i now_a first later known agreed may keeps timely o =
    subst (λ (v : World). Opened v) (sym (after_append (after w (meets now_i now_a)) first later))
    (opened_along hi ha (world_after (after w (meets now_i now_a)) first) later o goods (later_may hi ha (after w (meets now_i now_a)) first later may.1) keeps timely)
  where
    later_may : (hi ha : List Entry) (v : World) (xs ys : List Step) → AllMayStep hi ha v (xs ++ ys) → AllMayStep hi ha (world_after v xs) ys
    later_may hi ha v [] ys all = all
    later_may hi ha v (x ∷ xs) ys all = later_may hi ha (after v x) xs ys all.1

    first_may : (hi ha : List Entry) (v : World) (xs ys : List Step) → AllMayStep hi ha v (xs ++ ys) → AllMayStep hi ha v xs
    first_may hi ha v [] ys all = tt
    first_may hi ha v (x ∷ xs) ys all = (all.0, first_may hi ha (after v x) xs ys all.1)

    both_may : (hi ha : List Entry) (v : World) (xs ys : List Step) → AllMayStep hi ha v xs → AllMayStep hi ha (world_after v xs) ys → AllMayStep hi ha v (xs ++ ys)
    both_may hi ha v [] ys a b = b
    both_may hi ha v (x ∷ xs) ys a b = (a.0, both_may hi ha (after v x) xs ys a.1 b)

    after_append : (v : World) (xs ys : List Step) → world_after v (xs ++ ys) ≡ world_after (world_after v xs) ys
    after_append v [] ys = refl
    after_append v (x ∷ xs) ys = after_append (after v x) xs ys

    goods : Goods hi ha (world_after (after w (meets now_i now_a)) first)
    goods steps more =
        subst (λ (v : World). Good v) (after_append (after w (meets now_i now_a)) first steps)
        (good_after hi ha w (meets now_i now_a ∷ (first ++ steps)) known agreed (may.0, both_may hi ha (after w (meets now_i now_a)) first steps (first_may hi ha (after w (meets now_i now_a)) first later may.1) more))
