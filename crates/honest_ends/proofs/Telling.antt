-- The finishes under way between two ends, and how each call of an end moves them.
use Rattle.session_model.specs.Inbox.{Numbered}
use Rattle.std.proofs.Common.{◌≡◌, ℕ, ◌+◌, ◌≤◌, ◌==◌, ◌&&◌, not, Bool, true, false, if◌then◌else◌, List, [], ◌∷◌, ◌++◌, length, Option, Some, None, refl, sym, ap, subst, ◌∙◌, arith, true≢false, append-nil, eqb-true}
use Rattle.std.specs.Prelude.{⊤, is_some, is_none, IfSome}
use Rattle.std.specs.List.{AllByRecursion}
use Rattle.session_model.specs.Journal.{Entry}
use Rattle.fixp_msgs.specs.declared.numbering.Range.{Range}
use Rattle.fixp_msgs.specs.declared.flow.Flow.{Flow}
use Rattle.fixp_msgs.specs.Message.{Message, sequence, unsequenced_heartbeat, terminate, finished_sending}
use Rattle.flow_idem.specs.Runs.{runs_of}
use Rattle.fixp_shake.specs.declared.phase.Phase.TheVariants as phases
use Rattle.fixp_shake.specs.declared.violation.Violation.{Violation}
use Rattle.fixp_shake.specs.Flows.{is_sequenced, is_absent}
use Rattle.fixp_shake.specs.Phases.{is_established}
use Rattle.fixp_replies.specs.declared.facts.Facts.{Facts}
use Rattle.fixp_replies.specs.declared.facts.OwnFinish.{OwnFinish}
use Rattle.fixp_replies.specs.declared.facts.OwnFinish.TheVariants as own
use Rattle.fixp_replies.specs.Facts.{Around, in_phase, is_open}
use Rattle.fixp_replies.specs.Outcomes.{Outcome}
use Rattle.fixp_replies.specs.Events.{Made, heartbeat, heartbeats, is_due, lateness, applied_runs, closes, turn_ended, outbox_finished, tells_finish, finish_told, link_ending}
use Rattle.fixp_machine.specs.Machine.{State, Call, begin, frame, bad_frame, did, tick, turn_done, closed, link_end, live, again, taken, reserve, around, bytes_of, wrote, made, broken_by, served_again, rest_of, step, run, held_done, past_held, held_applied, front_of}
use Rattle.connection_laws.specs.Writing.{Piece, said, said_all, entries, said_breaking, range_closed, written_again, writes}
use Rattle.connection_laws.specs.Standing.{AreEntries, MayStand}
use Rattle.connection_laws.proofs.Owned.{entries_reach}
use Rattle.honest_ends.specs.Worlds.{written, IsOther}
use Rattle.honest_ends.proofs.Moving.{turned, told}
use Rattle.honest_ends.proofs.Finishing.{Counts, Finishes, finishes, total, total_append, sendings, answers, reads, tells, waiting, awaited}

-- A writer's FinishedSending is under way, waits at the reader, or is answered on the way back: once at most, and only where it was told
pub record Awaits (writer reader : Facts) (way back : List Piece) : Type 0 where
  pub once : total sendings way + reads reader + total answers back ≤ tells writer

-- the reader replies to a message, and the writer to one that came back
pub read_by_reader : (writer reader : Facts) (p : Piece) (left back : List Piece) (o : Outcome) → Awaits writer reader (p ∷ left) back → Counts reader (sendings p) (answers p) o
    → Awaits writer o.next left (back ++ said_all o.written)
read_by_reader writer reader p left back o a c =
    let e = total_append answers back (said_all o.written) in
    let once = a.once in
    let read = c.read in
    record { once = omega (arith, e, once, read) }

pub read_by_writer : (writer reader : Facts) (p : Piece) (way left : List Piece) (o : Outcome) → Awaits writer reader way (p ∷ left) → Counts writer (sendings p) (answers p) o
    → Awaits o.next reader (way ++ said_all o.written) left
read_by_writer writer reader p way left o a c =
    let e = total_append sendings way (said_all o.written) in
    let once = a.once in
    let told = c.told in
    let quiet = c.quiet in
    record { once = omega (arith, e, once, told, quiet) }

-- what is answered was told
pub due : (writer reader : Facts) (p : Piece) (way left : List Piece) → Awaits writer reader way (p ∷ left) → answers p ≤ tells writer
due writer reader p way left a = let once = a.once in omega (arith, once)

-- the outbox is finished behind so many entries, and all of them are sent
pub record Complete (n : ℕ) (f : Facts) : Type 0 where
  pub finish : f.recorded.finish ≡ Some n
  pub sent : f.recorded.sent ≡ n

-- a finish names the last of so many numbers, where its flow has numbers
abbrev pub NamesLast : Flow → ℕ → Piece → Type 0
NamesLast own n (said (finished_sending id last)) = last ≡ (if is_sequenced own then Some n else None)
NamesLast own n _ = ⊤

pub none_names : (own : Flow) (n : ℕ) (ps : List Piece) → total sendings ps ≡ 0 → AllByRecursion (NamesLast own n) ps
none_names own n [] e = tt
none_names own n (p ∷ ps) e = (by_piece p (omega (arith, e)), none_names own n ps (omega (arith, e)))
  where
    by_piece : (q : Piece) → sendings q ≡ 0 → NamesLast own n q
    by_piece (said (finished_sending id last)) e = absurd (omega (arith, e))
    by_piece _ e = tt

-- Any other call, where the outbox comes to have so many entries: a finish stands behind all of them still, and one that it tells awaits its answer, is told once all of them are
-- sent, and names the last one. What was read stays, and nothing is answered
pub record Tells (own : Flow) (n : ℕ) (f g : Facts) (out : List Piece) : Type 0 where
  pub told : tells f + total sendings out ≤ tells g
  pub theirs : g.connection.peer_finish ≡ f.connection.peer_finish
  pub recorded : g.recorded.peer_last ≡ f.recorded.peer_last
  pub silent : total answers out ≡ 0
  pub ends : IfSome f.recorded.finish (λ k. k ≡ n) → IfSome g.recorded.finish (λ k. k ≡ n)
  pub completes : Complete n f → Complete n g
  pub closes : 1 ≤ total sendings out → Complete n g × (f.recorded.sent ≡ n)
  pub names : AllByRecursion (NamesLast own n) out

pub told_by_writer : {own : Flow} {n : ℕ} (writer next reader : Facts) (way back out : List Piece) → Awaits writer reader way back → Tells own n writer next out → Awaits next reader (way ++ out) back
told_by_writer writer next reader way back out a t =
    let e = total_append sendings way out in
    let once = a.once in
    let told = t.told in
    record { once = omega (arith, e, once, told) }

pub told_by_reader : {own : Flow} {n : ℕ} (writer reader next : Facts) (way back out : List Piece) → Awaits writer reader way back → Tells own n reader next out → Awaits writer next way (back ++ out)
told_by_reader writer reader next way back out a t =
    let e = total_append answers back out in
    let once = a.once in
    let same = ap waiting t.theirs in
    let silent = t.silent in
    record { once = omega (arith, e, once, same, silent) }

-- of no finish
record Silent (out : List Piece) : Type 0 where
  sends : total sendings out ≡ 0
  answers_none : total answers out ≡ 0

silent_tells : (own : Flow) (n : ℕ) (f g : Facts) (out : List Piece) → tells g ≡ tells f → g.connection.peer_finish ≡ f.connection.peer_finish → g.recorded.peer_last ≡ f.recorded.peer_last
    → (IfSome f.recorded.finish (λ k. k ≡ n) → IfSome g.recorded.finish (λ k. k ≡ n)) → (Complete n f → Complete n g) → Silent out
    → Tells own n f g out
silent_tells own n f g out t p r stands c s =
    let e = s.sends in
    record { told = omega (arith, t, e); theirs = p; recorded = r; silent = s.answers_none; ends = stands; completes = c; closes = λ some. absurd (omega (arith, e, some)); names = none_names own n out s.sends }

-- no finish moves
silent_same : (own : Flow) (n : ℕ) (f g : Facts) (out : List Piece) → finishes g ≡ finishes f → g.recorded.sent ≡ f.recorded.sent → Silent out → Tells own n f g out
silent_same own n f g out e sent s =
    silent_tells own n f g out (ap (λ (k : Finishes). awaited k.own) e) (ap (λ (k : Finishes). k.theirs) e) (ap (λ (k : Finishes). k.peer_last) e)
    (λ h. subst (λ (o : Option ℕ). IfSome o (λ k. k ≡ n)) (sym (ap (λ (k : Finishes). k.finish) e)) h) (λ c. record { finish = ap (λ (k : Finishes). k.finish) e ∙ c.finish; sent = sent ∙ c.sent }) s

silent_both : (ps qs : List Piece) → Silent ps → Silent qs → Silent (ps ++ qs)
silent_both ps qs a b =
    let e = total_append sendings ps qs in
    let k = total_append answers ps qs in
    let ae = a.sends in let ak = a.answers_none in let be = b.sends in let bk = b.answers_none in
    record { sends = omega (arith, e, ae, be); answers_none = omega (arith, k, ak, bk) }

said_more : (ms more : List Message) → Silent (said_all ms) → Silent (said_all more) → Silent (said_all (ms ++ more))
said_more ms more a b = subst (λ (ps : List Piece). Silent ps) (sym (map_more ms more)) (silent_both (said_all ms) (said_all more) a b)
  where
    map_more : (xs ys : List Message) → said_all (xs ++ ys) ≡ said_all xs ++ said_all ys
    map_more [] ys = refl
    map_more (x ∷ xs) ys = ap (λ ps. said x ∷ ps) (map_more xs ys)

none_silent : Silent []
none_silent = record { sends = refl; answers_none = refl }

heartbeat_silent : (x : Around) (f : Facts) → Silent (said_all (heartbeat x f ∷ []))
heartbeat_silent x f = by_flow (is_sequenced x.config.own_flow)
  where
    by_flow : (b : Bool) → Silent (said_all ((if b then sequence (f.recorded.sent + 1) else unsequenced_heartbeat) ∷ []))
    by_flow true = record { sends = refl; answers_none = refl }
    by_flow false = record { sends = refl; answers_none = refl }

beats_silent : (x : Around) (f : Facts) (last : ℕ) (unsent : List ℕ) → Silent (said_all (heartbeats x f last unsent))
beats_silent x f last (b ∷ unsent) = none_silent
beats_silent x f last [] = by_test (is_established f.connection.phase && is_none f.connection.serving && is_due x last)
  where
    by_test : (b : Bool) → Silent (said_all (if b then heartbeat x f ∷ [] else []))
    by_test true = heartbeat_silent x f
    by_test false = none_silent

breaks_silent : (s : State) (v : Option Violation) (now : ℕ) → Silent (said_all (said_breaking s v now))
breaks_silent s None now = none_silent
breaks_silent s (Some v) now = record { sends = refl; answers_none = refl }

broken_same : (s : State) (v : Option Violation) (now : ℕ) → (broken_by s v now).facts ≡ s.facts
broken_same s None now = refl
broken_same s (Some v) now = refl

ticking : (own : Flow) (n : ℕ) (s : State) (now : ℕ) → Tells own n s.facts (step s (tick now)).facts (writes s (tick now))
ticking own n s now = by_end (is_some s.ending)
  where
    x : Around
    x = around s 0 now

    beat : State
    beat = wrote (record s { moment = now }) (bytes_of (heartbeats x s.facts s.last_sent s.unsent)) now

    v : Option Violation
    v = lateness x s.facts s.start s.last_received

    by_end : (b : Bool) → Tells own n s.facts (if b then record s { moment = now } else broken_by beat v now).facts (if b then [] else said_all (heartbeats x s.facts s.last_sent s.unsent ++ said_breaking s v now))
    by_end true = silent_same own n s.facts s.facts [] refl refl none_silent
    by_end false = silent_same own n s.facts (broken_by beat v now).facts _ (ap (λ f. finishes f) (broken_same beat v now)) (ap (λ f. f.recorded.sent) (broken_same beat v now))
        (said_more (heartbeats x s.facts s.last_sent s.unsent) (said_breaking s v now) (beats_silent x s.facts s.last_sent s.unsent) (breaks_silent s v now))

applied_silent : (runs : List Range) → Silent (said_all (applied_runs runs))
applied_silent [] = none_silent
applied_silent (r ∷ runs) = let s = applied_silent runs in let e = s.sends in let k = s.answers_none in record { sends = omega (arith, e); answers_none = omega (arith, k) }

turning : (own : Flow) (n : ℕ) (s : State) (now : ℕ) → Tells own n s.facts (step s (turn_done now)).facts (writes s (turn_done now))
turning own n s now = by_end (is_some s.ending)
  where
    x : Around
    x = around s 0 now

    behind : Made → State
    behind m = record (made (record s { moment = now }) m now) { untold = [] }

    by_close : (b : Bool) → Tells own n s.facts (behind (turned b x s.facts (runs_of s.untold))).facts (said_all (turned b x s.facts (runs_of s.untold)).written)
    by_close true = silent_same own n s.facts (in_phase s.facts phases.Closing) _ refl refl
        (said_more (applied_runs (runs_of s.untold)) (terminate s.config.session 1 [] ∷ []) (applied_silent (runs_of s.untold)) (record { sends = refl; answers_none = refl }))
    by_close false = silent_same own n s.facts s.facts _ refl refl (applied_silent (runs_of s.untold))

    by_end : (b : Bool) → Tells own n s.facts (if b then record s { moment = now } else behind (turn_ended x s.facts (runs_of s.untold))).facts (if b then [] else said_all (turn_ended x s.facts (runs_of s.untold)).written)
    by_end true = silent_same own n s.facts s.facts [] refl refl none_silent
    by_end false = by_close (closes x s.facts)

open_awaits_none : (q : OwnFinish) → is_open q ≡ true → awaited q ≡ 0
open_awaits_none own.Open e = refl
open_awaits_none own.Told e = absurd (true≢false (sym e))
open_awaits_none own.Exchanged e = absurd (true≢false (sym e))

-- the outbox is finished
closed_tells : (own : Flow) (n : ℕ) (f : Facts) (last : ℕ) → last ≡ n → Tells own n f (outbox_finished f last) []
closed_tells own n f last e = silent_tells own n f (outbox_finished f last) [] refl refl refl (λ _. e) (λ c. record { finish = ap (λ (k : ℕ). Some k) e; sent = c.sent }) none_silent

finishing : (n : ℕ) (s : State) (last now : ℕ) → last ≡ n → Tells s.config.own_flow n s.facts (step s (closed last now)).facts (writes s (closed last now))
finishing n s last now is = by_end (is_some s.ending)
  where
    x : Around
    x = around s 0 now

    behind : Made → State
    behind m = made (record s { moment = now }) m now

    tests : (a b c d e : Bool) → (not a && b && c && d && e) ≡ true → (c ≡ true) × (d ≡ true)
    tests false true true true e t = (refl, refl)
    tests false true true false e t = absurd (true≢false (sym t))
    tests false true false d e t = absurd (true≢false (sym t))
    tests false false c d e t = absurd (true≢false (sym t))
    tests true b c d e t = absurd (true≢false (sym t))

    by_test : (b : Bool) → tells_finish x s.facts last ≡ b → Tells s.config.own_flow n s.facts (behind (told b x s.facts last)).facts (said_all (told b x s.facts last).written)
    by_test true e =
        let t = tests (is_absent s.config.own_flow) (is_established s.facts.connection.phase) (is_open s.facts.connection.own_finish) (s.facts.recorded.sent == last) (is_none s.facts.connection.serving) e in
        let none = open_awaits_none s.facts.connection.own_finish t.0 in
        let all = eqb-true s.facts.recorded.sent last t.1 ∙ is in
        record {
          told = omega (arith, none);
          theirs = refl;
          recorded = refl;
          silent = refl;
          ends = λ _. is;
          completes = λ c. record { finish = ap (λ (k : ℕ). Some k) is; sent = c.sent };
          closes = λ _. (record { finish = ap (λ (k : ℕ). Some k) is; sent = all }, all);
          names = (ap (λ (k : ℕ). if is_sequenced s.config.own_flow then Some k else None) is, tt);
        }
    by_test false e = closed_tells s.config.own_flow n s.facts last is

    by_end : (b : Bool)
        → Tells s.config.own_flow n s.facts (if b then record s { moment = now; facts = outbox_finished s.facts last } else behind (finish_told x s.facts last)).facts (if b then [] else said_all (finish_told x s.facts last).written)
    by_end true = closed_tells s.config.own_flow n s.facts last is
    by_end false = by_test (tells_finish x s.facts last) refl

cut : (own : Flow) (n : ℕ) (s : State) → Tells own n s.facts (step s link_end).facts []
cut own n s = by_end (is_some s.ending)
  where
    by_end : (b : Bool) → Tells own n s.facts (if b then s else record s { ending = Some (link_ending (around s 0 s.moment) s.facts); pending = None; held = [] }).facts []
    by_end true = silent_same own n s.facts s.facts [] refl refl none_silent
    by_end false = silent_same own n s.facts s.facts [] refl refl none_silent

entries_silent : (payloads : List (List ℕ)) → Silent (entries payloads)
entries_silent [] = none_silent
entries_silent (p ∷ payloads) = let s = entries_silent payloads in let e = s.sends in let k = s.answers_none in record { sends = omega (arith, e); answers_none = omega (arith, k) }

closed_silent : (f : Facts) (r : Option Range) → Silent (range_closed f r)
closed_silent f None = record { sends = refl; answers_none = refl }
closed_silent f (Some r) = none_silent

resending : (own : Flow) (n : ℕ) (s : State) (r : Option Range) (payloads : List (List ℕ)) (now : ℕ) → Tells own n s.facts (served_again s r payloads now).facts (written_again s.facts r payloads)
resending own n s None payloads now = silent_same own n s.facts s.facts [] refl refl none_silent
resending own n s (Some r) payloads now =
    silent_same own n s.facts (served_again s (Some r) payloads now).facts _ refl refl (silent_both (entries payloads) (range_closed s.facts (rest_of r (length payloads))) (entries_silent payloads) (closed_silent s.facts (rest_of r (length payloads))))

-- behind all entries none goes live
going_live : (own : Flow) (h : List Entry) (s : State) (payloads : List (List ℕ)) (now : ℕ) → AreEntries h (s.facts.recorded.sent + 1) payloads
    → Tells own (length h) s.facts (step s (live payloads now)).facts (entries payloads)
going_live own h s payloads now are = silent_tells own (length h) s.facts (step s (live payloads now)).facts (entries payloads) refl refl refl (λ k. k)
    (λ c. let sent = c.sent in let reach = entries_reach h s.facts.recorded.sent payloads (omega (arith, sent)) are in record { finish = c.finish; sent = omega (arith, sent, reach) }) (entries_silent payloads)

applying : (own : Flow) (n : ℕ) (s : State) (m : Option Numbered) → Tells own n s.facts (held_applied s m).facts []
applying own n s None = silent_same own n s.facts s.facts [] refl refl none_silent
applying own n s (Some m) = silent_same own n s.facts (past_held s.facts m) [] refl refl none_silent

tells_call : (h : List Entry) (s : State) (call : Call) → IsOther h call → MayStand h s call → Tells s.config.own_flow (length h) s.facts (step s call).facts (writes s call)
tells_call h s (begin now) other may = absurd other
tells_call h s (frame incoming at now) other may = absurd other
tells_call h s (bad_frame at now) other may = absurd other
tells_call h s (did now) other may = absurd other
tells_call h s (tick now) other may = ticking s.config.own_flow (length h) s now
tells_call h s (turn_done now) other may = turning s.config.own_flow (length h) s now
tells_call h s (closed last now) other may = finishing (length h) s last now other
tells_call h s link_end other may = cut s.config.own_flow (length h) s
tells_call h s (live payloads now) other may = going_live s.config.own_flow h s payloads now may.comes.entries
tells_call h s (again payloads now) other may = resending s.config.own_flow (length h) s s.facts.connection.serving payloads now
tells_call h s (taken count) other may = silent_same s.config.own_flow (length h) s.facts s.facts [] refl refl none_silent
tells_call h s reserve other may = silent_same s.config.own_flow (length h) s.facts s.facts [] refl refl none_silent
tells_call h s held_done other may = applying s.config.own_flow (length h) s (front_of s)

pub tells_as : (h : List Entry) (s : State) (call : Call) → IsOther h call → MayStand h s call → Tells s.config.own_flow (length h) s.facts (run s (call ∷ [])).facts (written s (call ∷ []))
tells_as h s call other may = subst (λ (out : List Piece). Tells s.config.own_flow (length h) s.facts (step s call).facts out) (sym (append-nil (writes s call))) (tells_call h s call other may)
