-- What each call writes is legal, and leaves the machine in range.
use Rattle.std.proofs.Common.{◌≡◌, ◌≤◌, ◌<◌, ◌+◌, ◌-◌, ◌^◌, ◌==◌, ◌&&◌, ℕ, zero, suc, slice_get, is_none, Bool, true, false, not, if◌then◌else◌, List, [], ◌∷◌, ◌++◌, length, Option, Some, None, IfSome, refl, sym, ap, subst, ◌∙◌, arith, eqb-true, true≢false}
use Rattle.std.specs.Prelude.{is_some}
use Rattle.std.specs.List.{AllByRecursion}
use Rattle.session_model.specs.Journal.{Entry, payloads}
use Rattle.session_model.proofs.Lists.{all_append}
use Rattle.fixp_msgs.specs.Canonical.{IsLegal}
use Rattle.fixp_msgs.specs.Message.{Message, sequence, unsequenced_heartbeat, finished_sending, terminate}
use Rattle.fixp_msgs.specs.Payload.{IsApplication}
use Rattle.fixp_msgs.specs.Table.{null}
use Rattle.fixp_msgs.specs.declared.numbering.Range.{Range}
use Rattle.flow_idem.specs.Runs.{joined, runs_of}
use Rattle.fixp_shake.specs.declared.config.EndConfig.{EndConfig}
use Rattle.fixp_shake.specs.declared.phase.Phase.TheVariants as phases
use Rattle.fixp_shake.specs.declared.violation.Violation.{Violation}
use Rattle.fixp_shake.specs.declared.violation.Violation.TheVariants.{BadFrame}
use Rattle.fixp_shake.specs.Flows.{is_absent, is_idempotent, is_sequenced}
use Rattle.fixp_shake.specs.Phases.{is_established}
use Rattle.fixp_replies.specs.declared.act.Act.{Act}
use Rattle.fixp_replies.specs.declared.act.Act.TheVariants as acts
use Rattle.fixp_replies.specs.Acts.{is_record}
use Rattle.fixp_replies.specs.Events.{Made, heartbeat, heartbeats, lateness, applied_runs, closes, turn_ended, outbox_finished, tells_finish, finish_told, link_ending}
use Rattle.fixp_replies.specs.Facts.{Around, is_open, in_phase}
use Rattle.fixp_replies.specs.Serving.{own_finishing}
use Rattle.fixp_replies.specs.declared.facts.OwnFinish.TheVariants as own
use Rattle.fixp_replies.specs.Outcomes.{Outcome, breaks}
use Rattle.fixp_replies.specs.Replies.{reply_of}
use Rattle.fixp_machine.specs.Sound.{WithinMost, KeepsSound}
use Rattle.fixp_machine.specs.Machine.{State, Call, begin, frame, bad_frame, did, tick, turn_done, closed, link_end, live, again, taken, reserve, held_done, held_until, held_with, held_applied, past_held, front_of, around, bytes_of, wrote, made, to_tell, reply_applied, broken_by, done_pending, served_again, rest_of, step, StaysSound}
use Rattle.fixp_machine.proofs.Expecting.{kept}
use Rattle.session_model.specs.Inbox.{Numbered, numbers_of}
use Rattle.fixp_replies.specs.Incoming.{payload_in}
use Rattle.fixp_machine.proofs.Windowing.{front_there}
use Rattle.fixp_machine.proofs.Keeping.{sound_goes_on}
use Rattle.connection_laws.specs.Framed.{IsLegalPiece}
use Rattle.connection_laws.specs.Writing.{said_all, entries, said_with, said_breaking, range_closed, written_again, writes}
use Rattle.connection_laws.specs.Standing.{AreEntries, MayStand}
use Rattle.connection_laws.specs.Ranges.{IsInRange, IsInTime, FitsCall}
use Rattle.connection_laws.proofs.LegalReplied.{AllLegal, Ready, legal_terminate, advanced, legal_reply}

-- the machine is in range, also what it will tell, and the messages that it will write once an act is done
pub record Ranged (s : State) : Type 0 where
  pub range : IsInRange s
  pub untold : AllByRecursion (λ (n : ℕ). n ≤ s.most) s.untold
  pub pending : IfSome s.pending (λ o. AllLegal o.written)

ready : (s : State) (at now : ℕ) → StaysSound s → Ranged s → IsInTime now → Ready (around s at now) s.facts
ready s at now sound r time = record {
  session = r.range.session;
  keepalive = r.range.keepalive;
  credentials = r.range.credentials;
  most = r.range.most;
  moment = time;
  next = r.range.next;
  sent = sound.facts.sent;
}

-- messages as pieces
pub legal_said : (ms : List Message) → AllLegal ms → AllByRecursion IsLegalPiece (said_all ms)
legal_said [] all = tt
legal_said (m ∷ ms) all = (all.0, legal_said ms all.1)

-- entries of the outbox as pieces
abbrev pub IsPayload : Entry → Type 0
IsPayload e = IsApplication e.payload

payload_found : (h : List Entry) (k : ℕ) (p : List ℕ) → AllByRecursion IsPayload h → slice_get (payloads h) k ≡ Some p → IsApplication p
payload_found [] k p all e = absurd (cc e)
payload_found (x ∷ h) zero p all e = subst IsApplication (let same : x.payload ≡ p = cc e in same) all.0
payload_found (x ∷ h) (suc k) p all e = payload_found h k p all.1 e

legal_entries : (h : List Entry) (n : ℕ) (ps : List (List ℕ)) → AllByRecursion IsPayload h → AreEntries h n ps → AllByRecursion IsLegalPiece (entries ps)
legal_entries h n [] all are = tt
legal_entries h n (p ∷ later) all are = (payload_found h (n - 1) p all are.0.found, legal_entries h (n + 1) later all are.1)

-- runs of numbers that may be applied
abbrev IsRun : ℕ → Range → Type 0
IsRun most r = r.from + r.count ≤ most + 1

runs_joined : (most n : ℕ) (rs : List Range) → n ≤ most → AllByRecursion (IsRun most) rs → AllByRecursion (IsRun most) (joined n rs)
runs_joined most n [] low all = (omega (arith, low), tt)
runs_joined most n (r ∷ rs) low all = by_test (r.from == n + 1) refl
  where
    by_test : (b : Bool) → (r.from == n + 1) ≡ b → AllByRecursion (IsRun most) (if b then record { from = n; count = r.count + 1 } ∷ rs else record { from = n; count = 1 } ∷ r ∷ rs)
    by_test true e = (omega (arith, eqb-true r.from (n + 1) e, all.0), all.1)
    by_test false e = (omega (arith, low), all)

runs_fit : (most : ℕ) (ns : List ℕ) → AllByRecursion (λ (n : ℕ). n ≤ most) ns → AllByRecursion (IsRun most) (runs_of ns)
runs_fit most [] all = tt
runs_fit most (n ∷ ns) all = runs_joined most n (runs_of ns) all.0 (runs_fit most ns all.1)

legal_applied : (most : ℕ) (rs : List Range) → most + 1 < 2 ^ 32 → AllByRecursion (IsRun most) rs → AllLegal (applied_runs rs)
legal_applied most [] small all = tt
legal_applied most (r ∷ rs) small all = (record { fields = (omega (arith, small, all.0), (omega (arith, small, all.0), tt)); datum = tt }, legal_applied most rs small all.1)

legal_sequence : (n : ℕ) → n < 2 ^ 40 → IsLegal (sequence (n + 1))
legal_sequence n small = record { fields = (omega (arith, small), tt); datum = tt }

-- one of two
abbrev chosen : Bool → Made → Made → Made
chosen b first second = if b then first else second

-- what each call writes
legal_beats : (s : State) (now : ℕ) → StaysSound s → AllLegal (heartbeats (around s 0 now) s.facts s.last_sent s.unsent)
legal_beats s now sound = by_unsent s.unsent
  where
    by_flow : (b : Bool) → IsLegal (if b then sequence (s.facts.recorded.sent + 1) else unsequenced_heartbeat)
    by_flow true = legal_sequence s.facts.recorded.sent sound.facts.sent
    by_flow false = record { fields = tt; datum = tt }

    by_due : (b : Bool) → AllLegal (if b then heartbeat (around s 0 now) s.facts ∷ [] else [])
    by_due true = (by_flow (is_sequenced s.config.own_flow), tt)
    by_due false = tt

    by_unsent : (bytes : List ℕ) → AllLegal (heartbeats (around s 0 now) s.facts s.last_sent bytes)
    by_unsent [] = by_due _
    by_unsent (b ∷ bytes) = tt

legal_breaking : (s : State) (v : Option Violation) (now : ℕ) → Ranged s → AllLegal (said_breaking s v now)
legal_breaking s None now r = tt
legal_breaking s (Some v) now r = (legal_terminate s.config.session 2 r.range.session (omega arith), tt)

legal_turn : (s : State) (now : ℕ) → Ranged s → AllLegal (turn_ended (around s 0 now) s.facts (runs_of s.untold)).written
legal_turn s now r = by_test (closes (around s 0 now) s.facts)
  where
    told : AllLegal (applied_runs (runs_of s.untold))
    told = legal_applied s.most (runs_of s.untold) r.range.most (runs_fit s.most s.untold r.untold)

    by_test : (b : Bool) → AllLegal (
        chosen b (record { written = applied_runs (runs_of s.untold) ++ terminate s.config.session 1 [] ∷ []; next = in_phase s.facts phases.Closing })
        (record { written = applied_runs (runs_of s.untold); next = s.facts })
        ).written
    by_test true = all_append IsLegal (applied_runs (runs_of s.untold)) (terminate s.config.session 1 [] ∷ []) told (legal_terminate s.config.session 1 r.range.session (omega arith), tt)
    by_test false = told

fourth : (a b c d e : Bool) → (a && b && c && d && e) ≡ true → d ≡ true
fourth false b c d e t = absurd (true≢false (sym t))
fourth true false c d e t = absurd (true≢false (sym t))
fourth true true false d e t = absurd (true≢false (sym t))
fourth true true true false e t = absurd (true≢false (sym t))
fourth true true true true e t = refl

legal_finish : (s : State) (last now : ℕ) → StaysSound s → Ranged s → AllLegal (finish_told (around s 0 now) s.facts last).written
legal_finish s last now sound r = by_test (tells_finish (around s 0 now) s.facts last) refl
  where
    x : Around
    x = around s 0 now

    by_flow : (b : Bool) → last < 2 ^ 40 → IfSome (if b then Some last else None) (λ k. k < null)
    by_flow true small = omega (arith, small)
    by_flow false small = tt

    by_test : (b : Bool) → tells_finish x s.facts last ≡ b → AllLegal (
        chosen b (record { written = finished_sending s.config.session (if is_sequenced s.config.own_flow then Some last else None) ∷ []; next = own_finishing (outbox_finished s.facts last) own.Told })
        (record { written = []; next = outbox_finished s.facts last })
        ).written
    by_test true e =
        let all_sent : s.facts.recorded.sent ≡ last = eqb-true s.facts.recorded.sent last
        (fourth (not (is_absent s.config.own_flow)) (is_established s.facts.connection.phase) (is_open s.facts.connection.own_finish) (s.facts.recorded.sent == last) (is_none s.facts.connection.serving) e) in
        (record { fields = (r.range.session, (by_flow (is_sequenced s.config.own_flow) (omega (arith, all_sent, sound.facts.sent)), tt)); datum = tt }, tt)
    by_test false e = tt

legal_again : (h : List Entry) (s : State) (serving : Option Range) (ps : List (List ℕ)) → StaysSound s → AllByRecursion IsPayload h
    → ((r : Range) → serving ≡ Some r → AreEntries h r.from ps) → AllByRecursion IsLegalPiece (written_again s.facts serving ps)
legal_again h s None ps sound all are = tt
legal_again h s (Some r) ps sound all are =
    all_append IsLegalPiece (entries ps) (range_closed s.facts (rest_of r (length ps))) (legal_entries h r.from ps all (are r refl)) (by_rest (rest_of r (length ps)))
  where
    by_rest : (o : Option Range) → AllByRecursion IsLegalPiece (range_closed s.facts o)
    by_rest None = (legal_sequence s.facts.recorded.sent sound.facts.sent, tt)
    by_rest (Some q) = tt

pub legal_writes : (h : List Entry) (s : State) (call : Call) → AllByRecursion IsPayload h → StaysSound s → Ranged s → MayStand h s call → FitsCall call → AllByRecursion IsLegalPiece (writes s call)
legal_writes h s (begin now) all sound r may fits = absurd may.comes
legal_writes h s (frame i at now) all sound r may fits = by_record (is_record (reply_of (around s at now) s.facts i).act)
  where
    by_record : (b : Bool) → AllByRecursion IsLegalPiece (if b then [] else said_all (reply_of (around s at now) s.facts i).written)
    by_record true = tt
    by_record false = legal_said (reply_of (around s at now) s.facts i).written (legal_reply (around s at now) s.facts i (ready s at now sound r fits.1) sound.facts sound.windowed.fits fits.0)
legal_writes h s (bad_frame at now) all sound r may fits = (legal_terminate s.config.session 2 r.range.session (omega arith), tt)
legal_writes h s (did now) all sound r may fits = by_pending s.pending r.pending
  where
    by_pending : (p : Option Outcome) → IfSome p (λ o. AllLegal o.written) → AllByRecursion IsLegalPiece (said_all (said_with p))
    by_pending None k = tt
    by_pending (Some o) k = legal_said o.written k
legal_writes h s (tick now) all sound r may fits = by_test (is_some s.ending)
  where
    beats : List Message
    beats = heartbeats (around s 0 now) s.facts s.last_sent s.unsent

    late : List Message
    late = said_breaking s (lateness (around s 0 now) s.facts s.start s.last_received) now

    by_test : (b : Bool) → AllByRecursion IsLegalPiece (if b then [] else said_all (beats ++ late))
    by_test true = tt
    by_test false = legal_said (beats ++ late) (all_append IsLegal beats late (legal_beats s now sound) (legal_breaking s (lateness (around s 0 now) s.facts s.start s.last_received) now r))
legal_writes h s (turn_done now) all sound r may fits = by_test (is_some s.ending)
  where
    by_test : (b : Bool) → AllByRecursion IsLegalPiece (if b then [] else said_all (turn_ended (around s 0 now) s.facts (runs_of s.untold)).written)
    by_test true = tt
    by_test false = legal_said (turn_ended (around s 0 now) s.facts (runs_of s.untold)).written (legal_turn s now r)
legal_writes h s (closed last now) all sound r may fits = by_test (is_some s.ending)
  where
    by_test : (b : Bool) → AllByRecursion IsLegalPiece (if b then [] else said_all (finish_told (around s 0 now) s.facts last).written)
    by_test true = tt
    by_test false = legal_said (finish_told (around s 0 now) s.facts last).written (legal_finish s last now sound r)
legal_writes h s link_end all sound r may fits = tt
legal_writes h s (live ps now) all sound r may fits = legal_entries h (s.facts.recorded.sent + 1) ps all may.comes.entries
legal_writes h s (again ps now) all sound r may fits =
    legal_again h s s.facts.connection.serving ps sound all (λ q e. subst (λ (t : Range). AreEntries h t.from ps) (let same : may.comes.range ≡ q = cc (may.comes.serves, e) in same) may.comes.entries)
legal_writes h s (taken count) all sound r may fits = tt
legal_writes h s reserve all sound r may fits = tt
legal_writes h s held_done all sound r may fits = tt

-- a state is in range whose configuration is another's, and whose inbox awaits a number in range
pub in_range : (s t : State) → t.config ≡ s.config → t.most ≡ s.most → IsInRange s → t.facts.recorded.inbox_next ≤ s.most + 1 → IsInRange t
in_range s t config most r low = record {
  session = ap (λ (c : EndConfig). length c.session) config ∙ r.session;
  keepalive = subst (λ (c : EndConfig). c.keepalive < 2 ^ 32) (sym config) r.keepalive;
  credentials = subst (λ (c : EndConfig). length c.credentials ≤ 2048) (sym config) r.credentials;
  most = subst (λ (n : ℕ). n + 1 < 2 ^ 32) (sym most) r.most;
  next = subst (λ (n : ℕ). t.facts.recorded.inbox_next ≤ n + 1) (sym most) low;
}

-- what is to be told of an act
told_of : (s : State) (act : Act) → WithinMost s.most act → AllByRecursion (λ (n : ℕ). n ≤ s.most) (to_tell s.config act)
told_of s acts.Nothing w = tt
told_of s (acts.Apply number) w = by_flow (is_idempotent s.config.peer_flow)
  where
    by_flow : (b : Bool) → AllByRecursion (λ (n : ℕ). n ≤ s.most) (if b then number ∷ [] else [])
    by_flow true = (w, tt)
    by_flow false = tt
told_of s (acts.Skip from count) w = tt
told_of s acts.Negotiated w = tt
told_of s (acts.PeerFinished last) w = tt
told_of s (acts.Told from count) w = tt
told_of s acts.Ended w = tt

-- an outcome that takes effect
applied_ranged : (s base : State) (o : Outcome) (now : ℕ) → base.config ≡ s.config → base.most ≡ s.most → base.untold ≡ s.untold → Ranged s → KeepsSound s.config s.most s.facts o → Ranged (reply_applied base o now)
applied_ranged s base o now config most untold r k =
    let told : AllByRecursion (λ (n : ℕ). n ≤ s.most) (s.untold ++ to_tell s.config o.act) = all_append (λ (n : ℕ). n ≤ s.most) s.untold (to_tell s.config o.act) r.untold (told_of s o.act k.within) in
    record {
      range = in_range s (reply_applied base o now) config most r.range (advanced o.act s.most s.facts.recorded.inbox_next o.next.recorded.inbox_next r.range.next k.advances k.within);
      untold = subst (λ (m : ℕ). AllByRecursion (λ (n : ℕ). n ≤ m) (base.untold ++ to_tell base.config o.act)) (sym most)
          (subst (λ (ns : List ℕ). AllByRecursion (λ (n : ℕ). n ≤ s.most) (ns ++ to_tell base.config o.act)) (sym untold)
          (subst (λ (c : EndConfig). AllByRecursion (λ (n : ℕ). n ≤ s.most) (s.untold ++ to_tell c o.act)) (sym config) told));
      pending = tt;
    }

-- a connection that ends as a rule is broken
broken_ranged : (s : State) (v : Violation) (now : ℕ) → StaysSound s → KeepsSound s.config s.most s.facts (breaks (around s 0 now) s.facts v)
broken_ranged s v now sound = record { next = sound.facts; sent = kept s.config s.facts s.facts refl; advances = refl; within = tt; writes = (record { opening = λ t. absurd (true≢false (sym t)); writable = record { numbers = (tt, (tt, tt)); datum = omega arith } }, tt) }

either : (P : State → Type 0) (b : Bool) (first second : State) → P first → P second → P (if b then first else second)
either P true first second p q = p
either P false first second p q = q

-- a state that differs in neither
same_ranged : (s t : State) → t.config ≡ s.config → t.most ≡ s.most → t.facts.recorded.inbox_next ≡ s.facts.recorded.inbox_next → t.untold ≡ s.untold → t.pending ≡ s.pending → Ranged s → Ranged t
same_ranged s t config most next untold pending r = record {
  range = in_range s t config most r.range (subst (λ (n : ℕ). n ≤ s.most + 1) (sym next) r.range.next);
  untold = subst (λ (m : ℕ). AllByRecursion (λ (n : ℕ). n ≤ m) t.untold) (sym most) (subst (λ (ns : List ℕ). AllByRecursion (λ (n : ℕ). n ≤ s.most) ns) (sym untold) r.untold);
  pending = subst (λ (p : Option Outcome). IfSome p (λ o. AllLegal o.written)) (sym pending) r.pending;
}

pub ranged_step : (h : List Entry) (s : State) (call : Call) → StaysSound s → Ranged s → MayStand h s call → FitsCall call → Ranged (step s call)
ranged_step h s (begin now) sound r may fits = absurd may.comes
ranged_step h s (frame i at now) sound r may fits =
    either Ranged (is_record o.act) (record s { moment = now; last_received = now; room = s.room - 1; pending = Some o }) (reply_applied got o now)
    (record { range = in_range s (record s { moment = now; last_received = now; room = s.room - 1; pending = Some o }) refl refl r.range r.range.next; untold = r.untold; pending = legal_reply (around s at now) s.facts i (ready s at now sound r fits.1) sound.facts sound.windowed.fits fits.0 })
    (applied_ranged s got o now refl refl refl r (sound_goes_on (around s at now) s.facts i sound.most sound.facts sound.windowed.fits))
  where
    o : Outcome
    o = reply_of (around s at now) s.facts i

    got : State
    got = record s { moment = now; last_received = now; room = s.room - 1; held = held_with o.holds (payload_in i) s.held }
ranged_step h s (bad_frame at now) sound r may fits =
    applied_ranged s (record s { moment = now; last_received = now }) (breaks (around s at now) s.facts (BadFrame at)) now refl refl refl r
    (record { next = sound.facts; sent = kept s.config s.facts s.facts refl; advances = refl; within = tt; writes = (record { opening = λ t. absurd (true≢false (sym t)); writable = record { numbers = (tt, (tt, tt)); datum = omega arith } }, tt) })
ranged_step h s (did now) sound r may fits = by_pending s.pending sound.pending
  where
    by_pending : (p : Option Outcome) → IfSome p (λ o. KeepsSound s.config s.most s.facts o) → Ranged (done_pending s p now)
    by_pending None k = r
    by_pending (Some o) k = applied_ranged s (record s { moment = now }) o now refl refl refl r k
ranged_step h s (tick now) sound r may fits =
    either Ranged (is_some s.ending) (record s { moment = now }) (broken_by beat (lateness (around s 0 now) s.facts s.start s.last_received) now)
    (same_ranged s (record s { moment = now }) refl refl refl refl refl r)
    (by_late (lateness (around s 0 now) s.facts s.start s.last_received))
  where
    beat : State
    beat = wrote (record s { moment = now }) (bytes_of (heartbeats (around s 0 now) s.facts s.last_sent s.unsent)) now

    by_late : (v : Option Violation) → Ranged (broken_by beat v now)
    by_late None = same_ranged s beat refl refl refl refl refl r
    by_late (Some v) = applied_ranged s beat (breaks (around s 0 now) s.facts v) now refl refl refl r (broken_ranged s v now sound)
ranged_step h s (turn_done now) sound r may fits =
    either Ranged (is_some s.ending) (record s { moment = now }) (record (made (record s { moment = now }) (turn_ended (around s 0 now) s.facts (runs_of s.untold)) now) { untold = [] })
    (same_ranged s (record s { moment = now }) refl refl refl refl refl r)
    (record {
      range = in_range s (record (made (record s { moment = now }) (turn_ended (around s 0 now) s.facts (runs_of s.untold)) now) { untold = [] }) refl refl r.range (by_test (closes (around s 0 now) s.facts));
      untold = tt;
      pending = r.pending;
    })
  where
    by_test : (b : Bool) → (
        chosen b (record { written = applied_runs (runs_of s.untold) ++ terminate s.config.session 1 [] ∷ []; next = in_phase s.facts phases.Closing })
        (record { written = applied_runs (runs_of s.untold); next = s.facts })
        ).next.recorded.inbox_next ≤ s.most + 1
    by_test true = r.range.next
    by_test false = r.range.next
ranged_step h s (closed last now) sound r may fits =
    either Ranged (is_some s.ending) (record s { moment = now; facts = outbox_finished s.facts last }) (made (record s { moment = now }) (finish_told (around s 0 now) s.facts last) now)
    (same_ranged s (record s { moment = now; facts = outbox_finished s.facts last }) refl refl refl refl refl r)
    (same_ranged s (made (record s { moment = now }) (finish_told (around s 0 now) s.facts last) now) refl refl (by_test (tells_finish (around s 0 now) s.facts last)) refl refl r)
  where
    by_test : (b : Bool) → (
        chosen b (record { written = finished_sending s.config.session (if is_sequenced s.config.own_flow then Some last else None) ∷ []; next = own_finishing (outbox_finished s.facts last) own.Told })
        (record { written = []; next = outbox_finished s.facts last })
        ).next.recorded.inbox_next ≡ s.facts.recorded.inbox_next
    by_test true = refl
    by_test false = refl
ranged_step h s link_end sound r may fits =
    either Ranged (is_some s.ending) s (record s { ending = Some (link_ending (around s 0 s.moment) s.facts); pending = None; held = [] })
    r (record { range = in_range s (record s { ending = Some (link_ending (around s 0 s.moment) s.facts); pending = None; held = [] }) refl refl r.range r.range.next; untold = r.untold; pending = tt })
ranged_step h s (live ps now) sound r may fits = same_ranged s (step s (live ps now)) refl refl refl refl refl r
ranged_step h s (again ps now) sound r may fits = by_range s.facts.connection.serving
  where
    by_range : (o : Option Range) → Ranged (served_again s o ps now)
    by_range None = r
    by_range (Some q) = same_ranged s (served_again s (Some q) ps now) refl refl refl refl refl r
ranged_step h s (taken count) sound r may fits = same_ranged s (step s (taken count)) refl refl refl refl refl r
ranged_step h s reserve sound r may fits = same_ranged s (step s reserve) refl refl refl refl refl r
ranged_step h s held_done sound r may fits =
    let k = front_there s.facts.recorded.inbox_next s.held may.may_call.1 in
    let top : k.first.number ≤ s.most = (subst (λ (ms : List Numbered). AllByRecursion (λ (n : ℕ). n ≤ s.most) (numbers_of ms)) k.held_is sound.windowed.most).0 in
    subst (λ (m : Option Numbered). Ranged (held_applied s m)) (sym k.front_is)
    (record { range = in_range s (held_applied s (Some k.first)) refl refl r.range (omega (arith, top)); untold = r.untold; pending = r.pending })
