-- So it is at both ends of any world: a range that is served has messages, and ends with what was sent.
use Rattle.std.proofs.Common.{◌≡◌, ℕ, ◌+◌, ◌-◌, ◌≤◌, ◌==◌, ◌&&◌, not, Bool, true, false, if◌then◌else◌, List, [], ◌∷◌, ◌++◌, length, Option, Some, None, refl, sym, ap, subst, ◌∙◌, arith, true≢false}
use Rattle.std.specs.Prelude.{is_some, IfSome}
use Rattle.std.proofs.lemmas.Bool.{eqb-false}
use Rattle.session_model.specs.Journal.{Entry}
use Rattle.session_model.specs.Inbox.{Numbered}
use Rattle.fixp_msgs.specs.declared.numbering.Range.{Range}
use Rattle.flow_idem.specs.Runs.{runs_of}
use Rattle.fixp_msgs.specs.Message.{finished_sending, terminate}
use Rattle.fixp_shake.specs.declared.phase.Phase.{Phase}
use Rattle.fixp_shake.specs.declared.phase.Phase.TheVariants as phases
use Rattle.fixp_shake.specs.declared.violation.Violation.{Violation}
use Rattle.fixp_shake.specs.Flows.{is_recoverable, is_sequenced}
use Rattle.fixp_shake.specs.Phases.{is_idle, is_shaken}
use Rattle.fixp_replies.specs.declared.facts.EndState.{EndState}
use Rattle.fixp_replies.specs.declared.facts.Facts.{Facts}
use Rattle.fixp_replies.specs.declared.facts.OwnFinish.TheVariants as own
use Rattle.fixp_replies.specs.Facts.{Around, is_initiator, in_phase}
use Rattle.fixp_replies.specs.Events.{Made, begun, heartbeats, lateness, applied_runs, closes, turn_ended, outbox_finished, tells_finish, finish_told, link_ending}
use Rattle.fixp_replies.specs.Serving.{own_finishing}
use Rattle.fixp_machine.specs.Machine.{State, Call, begin, frame, bad_frame, did, tick, turn_done, closed, link_end, live, again, taken, reserve, held_done, around, bytes_of, wrote, made, broken_by, served_again, rest_of, step, run, held_applied, front_of}
use Rattle.fixp_replies.specs.Incoming.{Incoming}
use Rattle.fixp_replies.specs.Expecting.{is_newer}
use Rattle.fixp_replies.specs.Replies.{reply_of}
use Rattle.connection_laws.specs.Writing.{Piece, WritesOwn, nothing, shakes, returns, resends}
use Rattle.connection_laws.proofs.Replied.{frame_writes}
use Rattle.connection_laws.specs.Standing.{MayStand}
use Rattle.two_ends.specs.Reading.{incoming_of}
use Rattle.honest_ends.specs.Worlds.{World, Step, meets, initiator_reads, acceptor_reads, initiator_does, acceptor_does, reading, initiator_read, acceptor_read, after, world_after, IsOther, MayStep, AllMayStep}
use Rattle.honest_ends.specs.Knowing.{StartsKnown}
use Rattle.std.specs.List.{AllByRecursion}
use Rattle.honest_ends.proofs.Serving.{by_bool}
use Rattle.drain_ends.specs.Closing.{KeepsLink}
use Rattle.honest_ends.proofs.Moving.{reads_as}
use Rattle.honest_ends.proofs.Phased.{begun_as, initiator_quiet, acceptor_quiet}
use Rattle.honest_ends.proofs.Numbering.{Counted, counted_step, counted_at_first}
use Rattle.drain_steps.specs.Ranges.{InRange, Ranged, RangesHold}
use Rattle.drain_steps.proofs.Ranged.{range_same, no_range, reply_range}

-- facts of which what is served stays, and as much is sent; a connection that was opened stays so
record Kept (f g : Facts) : Type 0 where
  serving : g.connection.serving ≡ f.connection.serving
  sent : f.recorded.sent ≤ g.recorded.sent
  opened : is_idle f.connection.phase ≡ false → is_idle g.connection.phase ≡ false

still : (f : Facts) → Kept f f
still f = record { serving = refl; sent = omega arith; opened = λ e. e }

ticked_kept : (s : State) (now : ℕ) → Kept s.facts (step s (tick now)).facts
ticked_kept s now = by_end (is_some s.ending)
  where
    x : Around
    x = around s 0 now

    beat : State
    beat = wrote (record s { moment = now }) (bytes_of (heartbeats x s.facts s.last_sent s.unsent)) now

    by_fault : (v : Option Violation) → Kept s.facts (broken_by beat v now).facts
    by_fault None = still s.facts
    by_fault (Some v) = still s.facts

    by_end : (b : Bool) → Kept s.facts (if b then record s { moment = now } else broken_by beat (lateness x s.facts s.start s.last_received) now).facts
    by_end true = still s.facts
    by_end false = by_fault (lateness x s.facts s.start s.last_received)

-- what the end of a turn makes of an end, as it closes the connection or not
abbrev pub turned_as : State → Bool → Made
turned_as s closing =
    if closing then record { written = applied_runs (runs_of s.untold) ++ terminate s.config.session 1 [] ∷ []; next = in_phase s.facts phases.Closing }
    else record { written = applied_runs (runs_of s.untold); next = s.facts }

done_kept : (s : State) (now : ℕ) → Kept s.facts (step s (turn_done now)).facts
done_kept s now = by_end (is_some s.ending)
  where
    x : Around
    x = around s 0 now

    by_close : (b : Bool) → Kept s.facts (turned_as s b).next
    by_close true = record { serving = refl; sent = omega arith; opened = λ _. refl }
    by_close false = still s.facts

    by_end : (b : Bool) → Kept s.facts (if b then record s { moment = now } else record (made (record s { moment = now }) (turn_ended x s.facts (runs_of s.untold)) now) { untold = [] }).facts
    by_end true = still s.facts
    by_end false = by_close (closes x s.facts)

-- what it makes of one that its outbox has its finish behind so many entries, as that is told or not
abbrev told_as : State → ℕ → Bool → Made
told_as s last telling =
    if telling
    then record { written = finished_sending s.config.session (if is_sequenced s.config.own_flow then Some last else None) ∷ []; next = own_finishing (outbox_finished s.facts last) own.Told }
    else record { written = []; next = outbox_finished s.facts last }

closed_kept : (s : State) (last now : ℕ) → Kept s.facts (step s (closed last now)).facts
closed_kept s last now = by_end (is_some s.ending)
  where
    x : Around
    x = around s 0 now

    by_test : (b : Bool) → Kept s.facts (told_as s last b).next
    by_test true = record { serving = refl; sent = omega arith; opened = λ e. e }
    by_test false = record { serving = refl; sent = omega arith; opened = λ e. e }

    by_end : (b : Bool) → Kept s.facts (if b then record s { moment = now; facts = outbox_finished s.facts last } else made (record s { moment = now }) (finish_told x s.facts last) now).facts
    by_end true = record { serving = refl; sent = omega arith; opened = λ e. e }
    by_end false = by_test (tells_finish x s.facts last)

link_kept : (s : State) → Kept s.facts (step s link_end).facts
link_kept s = by_end (is_some s.ending)
  where
    by_end : (b : Bool) → Kept s.facts (if b then s else record s { ending = Some (link_ending (around s 0 s.moment) s.facts); pending = None; held = [] }).facts
    by_end true = still s.facts
    by_end false = still s.facts

held_kept : (s : State) → Kept s.facts (step s held_done).facts
held_kept s = by_front (front_of s)
  where
    by_front : (m : Option Numbered) → Kept s.facts (held_applied s m).facts
    by_front None = still s.facts
    by_front (Some m) = record { serving = refl; sent = omega arith; opened = λ e. e }

kept_range : (f g : Facts) → Kept f g → InRange f → InRange g
kept_range f g k h = range_same f g k.serving k.sent h

pub done_range : (s : State) (now : ℕ) → InRange s.facts → InRange (step s (turn_done now)).facts
done_range s now h = kept_range s.facts (step s (turn_done now)).facts (done_kept s now) h

-- what of a range is left
rest_range : (r : Range) (n sent : ℕ) → n ≤ r.count → (1 ≤ r.count) × (r.from + r.count ≤ sent + 1) × (1 ≤ r.from) → IfSome (rest_of r n) (λ q. (1 ≤ q.count) × (q.from + q.count ≤ sent + 1) × (1 ≤ q.from))
rest_range r n sent within h = by_test (r.count == n) refl
  where
    by_test : (b : Bool) → (r.count == n) ≡ b → IfSome {T = Range} (if b then None else Some (record { from = r.from + n; count = r.count - n })) (λ q. (1 ≤ q.count) × (q.from + q.count ≤ sent + 1) × (1 ≤ q.from))
    by_test true e = tt
    by_test false e = let other = eqb-false r.count n e in let some = h.0 in let most = h.1 in let start = h.2 in (omega (arith, other, within), omega (arith, within, most), omega (arith, start))

call_range : (h : List Entry) (s : State) (call : Call) → IsOther h call → MayStand h s call → InRange s.facts → InRange (step s call).facts
call_range h s (begin now) other may r = absurd other
call_range h s (frame incoming at now) other may r = absurd other
call_range h s (bad_frame at now) other may r = absurd other
call_range h s (did now) other may r = absurd other
call_range h s (tick now) other may r = kept_range s.facts (step s (tick now)).facts (ticked_kept s now) r
call_range h s (turn_done now) other may r = kept_range s.facts (step s (turn_done now)).facts (done_kept s now) r
call_range h s (closed last now) other may r = kept_range s.facts (step s (closed last now)).facts (closed_kept s last now) r
call_range h s link_end other may r = kept_range s.facts (step s link_end).facts (link_kept s) r
call_range h s (live payloads now) other may r = kept_range s.facts (step s (live payloads now)).facts (record { serving = refl; sent = omega arith; opened = λ e. e }) r
call_range h s (again payloads now) other may r = by_range s.facts.connection.serving refl
  where
    by_range : (o : Option Range) → s.facts.connection.serving ≡ o → InRange (served_again s o payloads now).facts
    by_range None e = r
    by_range (Some q) e =
        let same : may.comes.range ≡ q = cc (sym may.comes.serves ∙ e) in
        let count = ap (λ (k : Range). k.count) same in
        let within = may.comes.within in
        rest_range q (length payloads) s.facts.recorded.sent (omega (arith, within, count)) (subst (λ (k : Option Range). IfSome k (λ p. (1 ≤ p.count) × (p.from + p.count ≤ s.facts.recorded.sent + 1) × (1 ≤ p.from))) e r)
call_range h s (taken count) other may r = r
call_range h s reserve other may r = r
call_range h s held_done other may r = kept_range s.facts (step s held_done).facts (held_kept s) r

read_range : (s : State) (p : Piece) (at now : ℕ) → (is_shaken s.facts.connection.phase ≡ false → s.facts.connection.serving ≡ None) → InRange s.facts → InRange (run s (reading p at now)).facts
read_range s p at now free r = subst InRange (sym (reads_as s p at now).facts) (reply_range (around s at now) s.facts (incoming_of p) free r)

initiator_reading : (w : World) (way : List Piece) (at now : ℕ) → (is_shaken w.initiator.facts.connection.phase ≡ false → w.initiator.facts.connection.serving ≡ None) → Ranged w → Ranged (initiator_read w way at now)
initiator_reading w [] at now free r = r
initiator_reading w (p ∷ left) at now free r = record { initiator = read_range w.initiator p at now free r.initiator; acceptor = r.acceptor }

acceptor_reading : (w : World) (way : List Piece) (at now : ℕ) → (is_shaken w.acceptor.facts.connection.phase ≡ false → w.acceptor.facts.connection.serving ≡ None) → Ranged w → Ranged (acceptor_read w way at now)
acceptor_reading w [] at now free r = r
acceptor_reading w (p ∷ left) at now free r = record { initiator = r.initiator; acceptor = read_range w.acceptor p at now free r.acceptor }

begun_free : (x : Around) (recorded : EndState) → (begun x recorded).next.connection.serving ≡ None
begun_free x recorded = by_case (is_initiator x.config.role) recorded.negotiated
  where
    by_case : (i n : Bool) → (begun_as x recorded i n).next.connection.serving ≡ None
    by_case true true = refl
    by_case true false = refl
    by_case false n = refl

ranged_step : (hi ha : List Entry) (w : World) (s : Step) → Counted hi ha w → MayStep hi ha w s → Ranged w → Ranged (after w s)
ranged_step hi ha w (meets now_i now_a) n may r = record {
  initiator = no_range (begun (around w.initiator 0 now_i) w.initiator.facts.recorded).next (begun_free (around w.initiator 0 now_i) w.initiator.facts.recorded);
  acceptor = no_range (begun (around w.acceptor 0 now_a) w.acceptor.facts.recorded).next (begun_free (around w.acceptor 0 now_a) w.acceptor.facts.recorded);
}
ranged_step hi ha w (initiator_reads at now) n may r =
    initiator_reading w w.homeward at now (λ before. (initiator_quiet w.initiator.config w.acceptor.config w.initiator.facts w.initiator.ending w.acceptor.facts w.outward w.homeward n.holds.shaking before).free) r
ranged_step hi ha w (acceptor_reads at now) n may r =
    acceptor_reading w w.outward at now (λ before. (acceptor_quiet w.initiator.config w.acceptor.config w.initiator.facts w.initiator.ending w.acceptor.facts w.outward w.homeward n.holds.shaking before).free) r
ranged_step hi ha w (initiator_does call) n may r = record { initiator = call_range hi w.initiator call may.0 may.1 r.initiator; acceptor = r.acceptor }
ranged_step hi ha w (acceptor_does call) n may r = record { initiator = r.initiator; acceptor = call_range ha w.acceptor call may.0 may.1 r.acceptor }

ranged_after : (hi ha : List Entry) (w : World) (steps : List Step) → Counted hi ha w → AllMayStep hi ha w steps → Ranged w → Ranged (world_after w steps)
ranged_after hi ha w [] n may r = r
ranged_after hi ha w (s ∷ later) n may r = ranged_after hi ha (after w s) later (counted_step hi ha w s n may.0) may.1 (ranged_step hi ha w s n may.0 r)

pub ranged_holds : RangesHold
ranged_holds hi ha w steps known may = ranged_after hi ha w steps (counted_at_first hi ha w known) may (record {
  initiator = no_range w.initiator.facts (ap (λ (s : State). s.facts.connection.serving) known.0.initiator);
  acceptor = no_range w.acceptor.facts (ap (λ (s : State). s.facts.connection.serving) known.0.acceptor);
})

-- a connection that was opened is no longer idle
shaken_open : (p : Phase) → is_shaken p ≡ true → is_idle p ≡ false
shaken_open phases.Idle e = absurd (true≢false (sym e))
shaken_open phases.Negotiating e = refl
shaken_open phases.Establishing e = refl
shaken_open phases.Established e = refl
shaken_open phases.Closing e = refl
shaken_open phases.Ended e = refl

returned_then : (a b c d : Bool) → (a && b && not c && d) ≡ true → d ≡ true
returned_then true true false true e = refl
returned_then true true false false e = absurd (true≢false (sym e))
returned_then true true true d e = absurd (true≢false (sym e))
returned_then true false c d e = absurd (true≢false (sym e))
returned_then false b c d e = absurd (true≢false (sym e))

not_idle : (p q : Phase) → (is_idle q ≡ true → is_idle p ≡ true) → is_idle p ≡ false → is_idle q ≡ false
not_idle p q keeps e = by_bool _ (is_idle q) (λ t. absurd (true≢false (sym (keeps t) ∙ e))) (λ f. f)

reply_opened : (x : Around) (f : Facts) (i : Incoming) → is_idle f.connection.phase ≡ false → is_idle (reply_of x f i).next.connection.phase ≡ false
reply_opened x f i e = by_writing (frame_writes x f i)
  where
    by_writing : WritesOwn x f (reply_of x f i) → is_idle (reply_of x f i).next.connection.phase ≡ false
    by_writing (nothing none own) = not_idle f.connection.phase (reply_of x f i).next.connection.phase own.idle e
    by_writing (shakes k) = k.opened
    by_writing (returns k) = shaken_open (reply_of x f i).next.connection.phase
        (returned_then (is_newer x.config) (is_recoverable x.config.own_flow) (is_shaken f.connection.phase) (is_shaken (reply_of x f i).next.connection.phase) k.may)
    by_writing (resends k) = shaken_open (reply_of x f i).next.connection.phase k.stays

call_opened : (h : List Entry) (s : State) (call : Call) → IsOther h call → is_idle s.facts.connection.phase ≡ false → is_idle (step s call).facts.connection.phase ≡ false
call_opened h s (begin now) other e = absurd other
call_opened h s (frame incoming at now) other e = absurd other
call_opened h s (bad_frame at now) other e = absurd other
call_opened h s (did now) other e = absurd other
call_opened h s (tick now) other e = (ticked_kept s now).opened e
call_opened h s (turn_done now) other e = (done_kept s now).opened e
call_opened h s (closed last now) other e = (closed_kept s last now).opened e
call_opened h s link_end other e = (link_kept s).opened e
call_opened h s (live payloads now) other e = e
call_opened h s (again payloads now) other e = by_range s.facts.connection.serving
  where
    by_range : (r : Option Range) → is_idle (served_again s r payloads now).facts.connection.phase ≡ false
    by_range None = e
    by_range (Some r) = e
call_opened h s (taken count) other e = e
call_opened h s reserve other e = e
call_opened h s held_done other e = (held_kept s).opened e

opened_read : (w : World) (way : List Piece) (at now : ℕ) → is_idle w.initiator.facts.connection.phase ≡ false → is_idle (initiator_read w way at now).initiator.facts.connection.phase ≡ false
opened_read w [] at now e = e
opened_read w (p ∷ left) at now e =
    ap (λ (f : Facts). is_idle f.connection.phase) (reads_as w.initiator p at now).facts ∙ reply_opened (around w.initiator at now) w.initiator.facts (incoming_of p) e

opened_read_too : (w : World) (way : List Piece) (at now : ℕ) → is_idle w.initiator.facts.connection.phase ≡ false → is_idle (acceptor_read w way at now).initiator.facts.connection.phase ≡ false
opened_read_too w [] at now e = e
opened_read_too w (p ∷ left) at now e = e

opened_after : (hi ha : List Entry) (w : World) (steps : List Step) → AllMayStep hi ha w steps → AllByRecursion KeepsLink steps → is_idle w.initiator.facts.connection.phase ≡ false → is_idle (world_after w steps).initiator.facts.connection.phase ≡ false
opened_after hi ha w [] may keeps e = e
opened_after hi ha w (meets now_i now_a ∷ later) may keeps e = absurd keeps.0
opened_after hi ha w (initiator_reads at now ∷ later) may keeps e = opened_after hi ha (after w (initiator_reads at now)) later may.1 keeps.1 (opened_read w w.homeward at now e)
opened_after hi ha w (acceptor_reads at now ∷ later) may keeps e = opened_after hi ha (after w (acceptor_reads at now)) later may.1 keeps.1 (opened_read_too w w.outward at now e)
opened_after hi ha w (initiator_does call ∷ later) may keeps e = opened_after hi ha (after w (initiator_does call)) later may.1 keeps.1 (call_opened hi w.initiator call may.0.0 e)
opened_after hi ha w (acceptor_does call ∷ later) may keeps e = opened_after hi ha (after w (acceptor_does call)) later may.1 keeps.1 e

begun_opened : (x : Around) (recorded : EndState) → is_initiator x.config.role ≡ true → is_idle (begun x recorded).next.connection.phase ≡ false
begun_opened x recorded starts = by_case (is_initiator x.config.role) recorded.negotiated starts
  where
    by_case : (i n : Bool) → i ≡ true → is_idle (begun_as x recorded i n).next.connection.phase ≡ false
    by_case true true e = refl
    by_case true false e = refl
    by_case false n e = absurd (true≢false (sym e))

-- behind the beginning of a connection its initiator has opened it
pub opened_holds : (hi ha : List Entry) (w : World) (now_i now_a : ℕ) (later : List Step) → StartsKnown hi ha w → AllMayStep hi ha w (meets now_i now_a ∷ later) → AllByRecursion KeepsLink later
    → is_idle (world_after w (meets now_i now_a ∷ later)).initiator.facts.connection.phase ≡ false
opened_holds hi ha w now_i now_a later known may keeps =
    opened_after hi ha (after w (meets now_i now_a)) later may.1 keeps (begun_opened (around w.initiator 0 now_i) w.initiator.facts.recorded (ap (λ r. is_initiator r) known.0.matches.initiates))
