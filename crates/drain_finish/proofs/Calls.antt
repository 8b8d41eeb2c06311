-- What each call of an end makes of its finishes, where the connection goes on or is over.
use Rattle.std.proofs.Common.{◌≡◌, ◌⊎◌, inl, inr, ℕ, ◌+◌, ◌≤◌, ◌==◌, ◌&&◌, ◌||◌, not, Bool, true, false, if◌then◌else◌, List, [], ◌∷◌, ◌++◌, length, Option, Some, None, refl, sym, ap, ◌∙◌, arith, true≢false}
use Rattle.std.specs.Prelude.{is_some, is_none, IsSome}
use Rattle.session_model.specs.Inbox.{Numbered}
use Rattle.fixp_msgs.specs.declared.numbering.Range.{Range}
use Rattle.fixp_msgs.specs.Message.{Message, negotiate, negotiation_response, negotiation_reject, establish, establishment_ack, establishment_reject, sequence, unsequenced_heartbeat, retransmit_request, retransmission, retransmit_reject, applied, not_applied, finished_sending, finished_receiving, terminate}
use Rattle.flow_idem.specs.Runs.{runs_of}
use Rattle.fixp_shake.specs.declared.config.EndConfig.{EndConfig}
use Rattle.fixp_shake.specs.declared.phase.Phase.{Phase}
use Rattle.fixp_shake.specs.declared.phase.Phase.TheVariants as phases
use Rattle.fixp_shake.specs.declared.violation.Violation.{Violation}
use Rattle.fixp_shake.specs.Flows.{is_absent, is_sequenced}
use Rattle.fixp_shake.specs.Phases.{is_established, is_closing, is_shaken}
use Rattle.fixp_replies.specs.declared.act.Ending.{Ending}
use Rattle.fixp_replies.specs.declared.facts.Facts.{Facts}
use Rattle.fixp_replies.specs.declared.facts.OwnFinish.{OwnFinish}
use Rattle.fixp_replies.specs.declared.facts.OwnFinish.TheVariants as own
use Rattle.fixp_replies.specs.Incoming.{Incoming, application, session, wrong_order, too_short, unknown}
use Rattle.fixp_replies.specs.Facts.{Around, is_initiator, is_open, own_is_exchanged, peer_is_exchanged, finishes_exchanged}
use Rattle.fixp_replies.specs.Outcomes.{ignores}
use Rattle.fixp_replies.specs.Replies.{reply_of, answer_of, terminates}
use Rattle.fixp_replies.specs.Events.{Made, heartbeat, heartbeats, is_due, lateness, applied_runs, closes, turn_ended, outbox_finished, tells_finish, finish_told}
use Rattle.fixp_machine.specs.Machine.{State, Call, begin, frame, bad_frame, did, tick, turn_done, closed, link_end, live, again, taken, reserve, held_done, around, bytes_of, wrote, made, broken_by, served_again, rest_of, held_applied, front_of, step}
use Rattle.connection_laws.specs.Writing.{Piece, said_all, said_breaking, entries, range_closed, written_again, writes}
use Rattle.honest_ends.proofs.Moving.{turned, told}
use Rattle.honest_ends.proofs.Serving.{by_bool}
use Rattle.drain_laws.specs.Counts.{finish, shutting, among, in_frame, under_way}
use Rattle.drain_laws.proofs.Counting.{among_append}
use Rattle.drain_ends.specs.Shutting.{IsCall, IsOver}
use Rattle.drain_ends.proofs.Shut.{said_counts, replies_shut}
use Rattle.drain_ends.proofs.Stood.{way_append}
use Rattle.drain_opening.specs.Opening.{InTime}
use Rattle.drain_finish.proofs.Ended.{reply_ends}

-- both finishes of an end are exchanged
abbrev pub are_done : State → Bool
are_done s = finishes_exchanged (around s 0 0) s.facts

-- ---- what is written

heartbeat_finish : (x : Around) (f : Facts) → among finish (heartbeat x f ∷ []) ≡ 0
heartbeat_finish x f = by_flow (is_sequenced x.config.own_flow)
  where
    by_flow : (b : Bool) → among finish ((if b then sequence (f.recorded.sent + 1) else unsequenced_heartbeat) ∷ []) ≡ 0
    by_flow true = refl
    by_flow false = refl

beats_finish : (x : Around) (f : Facts) (last : ℕ) (unsent : List ℕ) → among finish (heartbeats x f last unsent) ≡ 0
beats_finish x f last (b ∷ unsent) = refl
beats_finish x f last [] = by_test (is_established f.connection.phase && is_none f.connection.serving && is_due x last)
  where
    by_test : (b : Bool) → among finish (if b then heartbeat x f ∷ [] else []) ≡ 0
    by_test true = heartbeat_finish x f
    by_test false = refl

runs_finish : (rs : List Range) → among finish (applied_runs rs) ≡ 0
runs_finish [] = refl
runs_finish (r ∷ rs) = let e = runs_finish rs in omega (arith, e)

entries_finish : (payloads : List (List ℕ)) → under_way finish (entries payloads) ≡ 0
entries_finish [] = refl
entries_finish (payload ∷ payloads) = let e = entries_finish payloads in omega (arith, e)

closed_finish : (f : Facts) (r : Option Range) → under_way finish (range_closed f r) ≡ 0
closed_finish f None = refl
closed_finish f (Some r) = refl

-- ---- calls

-- a call in time of an end: it ends nothing; a connection is closed only where both finishes are exchanged, and they stay so; and once it is over no finish is written
record Keeps (s t : State) (out : List Piece) : Type 0 where
  config : t.config ≡ s.config
  ending : t.ending ≡ s.ending
  stays : is_closing s.facts.connection.phase ≡ true → is_closing t.facts.connection.phase ≡ true
  over : is_closing t.facts.connection.phase ≡ true → (is_closing s.facts.connection.phase ≡ true) ⊎ (are_done s ≡ true)
  done : are_done s ≡ true → are_done t ≡ true
  quiet : IsOver t → under_way finish out ≡ 0

-- where nothing of the connection's finishes and phase moves
same_keeps : (s t : State) (out : List Piece) → t.config ≡ s.config → t.ending ≡ s.ending → t.facts.connection.phase ≡ s.facts.connection.phase → are_done t ≡ are_done s → under_way finish out ≡ 0 → Keeps s t out
same_keeps s t out config ending phase same none = record {
  config = config;
  ending = ending;
  stays = λ e. ap (λ (p : Phase). is_closing p) phase ∙ e;
  over = λ e. inl (ap (λ (p : Phase). is_closing p) (sym phase) ∙ e);
  done = λ e. same ∙ e;
  quiet = λ _. none;
}

ticking : (s : State) (now : ℕ) → InTime s (tick now) → Keeps s (step s (tick now)) (writes s (tick now))
ticking s now timely = by_end (is_some s.ending)
  where
    x : Around
    x = around s 0 now

    hb : List Message
    hb = heartbeats x s.facts s.last_sent s.unsent

    beat : State
    beat = wrote (record s { moment = now }) (bytes_of hb) now

    by_fault : (v : Option Violation) → v ≡ None → Keeps s (broken_by beat v now) (said_all (hb ++ said_breaking s v now))
    by_fault None e = same_keeps s beat _ refl refl refl refl (said_counts finish (hb ++ []) ∙ (let a = among_append finish hb [] in let b = beats_finish x s.facts s.last_sent s.unsent in omega (arith, a, b)))
    by_fault (Some v) e = absurd (cc e)

    by_end : (b : Bool) → Keeps s (if b then record s { moment = now } else broken_by beat (lateness x s.facts s.start s.last_received) now)
        (if b then [] else said_all (hb ++ said_breaking s (lateness x s.facts s.start s.last_received) now))
    by_end true = same_keeps s (record s { moment = now }) [] refl refl refl refl refl
    by_end false = by_fault (lateness x s.facts s.start s.last_received) timely

-- the finishes that are exchanged in some phase are so in one in which the handshake is done
done_shaken : (o a p b sh : Bool) → ((o || (a && sh)) && (p || (b && sh))) ≡ true → ((o || (a && true)) && (p || (b && true))) ≡ true
done_shaken o a p b sh e = let two = both (o || (a && sh)) (p || (b && sh)) e in join (o || (a && true)) (p || (b && true)) (one o a sh two.0) (one p b sh two.1)
  where
    both : (u v : Bool) → (u && v) ≡ true → (u ≡ true) × (v ≡ true)
    both true v e = (refl, e)
    both false v e = absurd (true≢false (sym e))

    join : (u v : Bool) → u ≡ true → v ≡ true → (u && v) ≡ true
    join true v x y = y
    join false v x y = absurd (true≢false (sym x))

    one : (u v w : Bool) → (u || (v && w)) ≡ true → (u || (v && true)) ≡ true
    one true v w e = refl
    one false true w e = refl
    one false false w e = absurd (true≢false (sym e))

turning : (s : State) (now : ℕ) → Keeps s (step s (turn_done now)) (writes s (turn_done now))
turning s now = by_end (is_some s.ending)
  where
    x : Around
    x = around s 0 now

    runs : List Range
    runs = runs_of s.untold

    behind : Made → State
    behind m = record (made (record s { moment = now }) m now) { untold = [] }

    third : (a b c d : Bool) → (a && b && c && d) ≡ true → c ≡ true
    third true true true d e = refl
    third true true false d e = absurd (true≢false (sym e))
    third true false c d e = absurd (true≢false (sym e))
    third false b c d e = absurd (true≢false (sym e))

    shut : under_way finish (said_all (turned true x s.facts runs).written) ≡ 0
    shut = said_counts finish (turned true x s.facts runs).written
        ∙ (let a = among_append finish (applied_runs runs) (terminate s.config.session 1 [] ∷ []) in let b = runs_finish runs in omega (arith, a, b))

    by_close : (b : Bool) → closes x s.facts ≡ b → Keeps s (behind (turned b x s.facts runs)) (said_all (turned b x s.facts runs).written)
    by_close true e = record {
      config = refl;
      ending = refl;
      stays = λ _. refl;
      over = λ _. inr (third (is_initiator s.config.role) (is_established s.facts.connection.phase) (finishes_exchanged x s.facts) (is_none s.facts.connection.serving) e);
      done = λ d. done_shaken (own_is_exchanged s.facts.connection.own_finish) (is_absent s.config.own_flow) (peer_is_exchanged s.facts.connection.peer_finish) (is_absent s.config.peer_flow) (is_shaken s.facts.connection.phase) d;
      quiet = λ _. shut;
    }
    by_close false e = same_keeps s (behind (turned false x s.facts runs)) _ refl refl refl refl (said_counts finish (applied_runs runs) ∙ runs_finish runs)

    by_end : (b : Bool) → Keeps s (if b then record s { moment = now } else behind (turn_ended x s.facts runs)) (if b then [] else said_all (turn_ended x s.facts runs).written)
    by_end true = same_keeps s (record s { moment = now }) [] refl refl refl refl refl
    by_end false = by_close (closes x s.facts) refl

-- no phase is both
established_open : (p : Phase) → is_established p ≡ true → is_closing p ≡ true → ⊥
established_open phases.Idle e c = true≢false (sym e)
established_open phases.Negotiating e c = true≢false (sym e)
established_open phases.Establishing e c = true≢false (sym e)
established_open phases.Established e c = true≢false (sym c)
established_open phases.Closing e c = true≢false (sym e)
established_open phases.Ended e c = true≢false (sym e)

-- an end that tells its finish has not exchanged it
untold_done : (q : OwnFinish) (absent sh rest : Bool) → is_open q ≡ true → absent ≡ false → ((own_is_exchanged q || (absent && sh)) && rest) ≡ true → ⊥
untold_done own.Open true sh rest unclosed here e = true≢false here
untold_done own.Open false sh rest unclosed here e = true≢false (sym e)
untold_done own.Told absent sh rest unclosed here e = true≢false (sym unclosed)
untold_done own.Exchanged absent sh rest unclosed here e = true≢false (sym unclosed)

finishing : (s : State) (last now : ℕ) → Keeps s (step s (closed last now)) (writes s (closed last now))
finishing s last now = by_end (is_some s.ending) refl
  where
    x : Around
    x = around s 0 now

    behind : Made → State
    behind m = made (record s { moment = now }) m now

    parts : (a b c d e : Bool) → (not a && b && c && d && e) ≡ true → (a ≡ false) × (b ≡ true) × (c ≡ true)
    parts false true true d e t = (refl, refl, refl)
    parts false true false d e t = absurd (true≢false (sym t))
    parts false false c d e t = absurd (true≢false (sym t))
    parts true b c d e t = absurd (true≢false (sym t))

    by_test : (b : Bool) → tells_finish x s.facts last ≡ b → is_some s.ending ≡ false → Keeps s (behind (told b x s.facts last)) (said_all (told b x s.facts last).written)
    by_test true e going =
        let three = parts (is_absent s.config.own_flow) (is_established s.facts.connection.phase) (is_open s.facts.connection.own_finish) (s.facts.recorded.sent == last) (is_none s.facts.connection.serving) e in
        record {
          config = refl;
          ending = refl;
          stays = λ c. c;
          over = λ c. inl c;
          done = λ d. absurd (untold_done s.facts.connection.own_finish (is_absent s.config.own_flow) (is_shaken s.facts.connection.phase) _ three.2 three.0 d);
          quiet = not_over three.1;
        }
      where
        not_over : is_established s.facts.connection.phase ≡ true → IsOver (behind (told true x s.facts last)) → under_way finish (said_all (told true x s.facts last).written) ≡ 0
        not_over est (inl some) = absurd (true≢false (sym some ∙ going))
        not_over est (inr closing) = absurd (established_open s.facts.connection.phase est closing)
    by_test false e going = same_keeps s (behind (told false x s.facts last)) [] refl refl refl refl refl

    by_end : (b : Bool) → is_some s.ending ≡ b → Keeps s (if b then record s { moment = now; facts = outbox_finished s.facts last } else behind (finish_told x s.facts last)) (if b then [] else said_all (finish_told x s.facts last).written)
    by_end true e = same_keeps s (record s { moment = now; facts = outbox_finished s.facts last }) [] refl refl refl refl refl
    by_end false e = by_test (tells_finish x s.facts last) refl e

resending : (s : State) (r : Option Range) (payloads : List (List ℕ)) (now : ℕ) → Keeps s (served_again s r payloads now) (written_again s.facts r payloads)
resending s None payloads now = same_keeps s s [] refl refl refl refl refl
resending s (Some r) payloads now = same_keeps s (served_again s (Some r) payloads now) _ refl refl refl refl
    (let a = way_append finish (entries payloads) (range_closed s.facts (rest_of r (length payloads))) in
    let b = entries_finish payloads in
    let c = closed_finish s.facts (rest_of r (length payloads)) in
    omega (arith, a, b, c))

applying : (s : State) (m : Option Numbered) → Keeps s (held_applied s m) []
applying s None = same_keeps s s [] refl refl refl refl refl
applying s (Some m) = same_keeps s (held_applied s (Some m)) [] refl refl refl refl refl

keeps : (s : State) (call : Call) → IsCall call → InTime s call → Keeps s (step s call) (writes s call)
keeps s (begin now) is timely = absurd is
keeps s (frame incoming at now) is timely = absurd is
keeps s (bad_frame at now) is timely = absurd is
keeps s (did now) is timely = absurd is
keeps s (tick now) is timely = ticking s now timely
keeps s (turn_done now) is timely = turning s now
keeps s (closed last now) is timely = finishing s last now
keeps s link_end is timely = absurd is
keeps s (live payloads now) is timely = same_keeps s (step s (live payloads now)) _ refl refl refl refl (entries_finish payloads)
keeps s (again payloads now) is timely = resending s s.facts.connection.serving payloads now
keeps s (taken count) is timely = same_keeps s (step s (taken count)) [] refl refl refl refl refl
keeps s reserve is timely = same_keeps s (step s reserve) [] refl refl refl refl refl
keeps s held_done is timely = applying s (front_of s)

pub call_config : (s : State) (call : Call) → IsCall call → InTime s call → (step s call).config ≡ s.config
call_config s call is timely = (keeps s call is timely).config

pub call_ends : (s : State) (call : Call) → IsCall call → InTime s call → (step s call).ending ≡ s.ending
call_ends s call is timely = (keeps s call is timely).ending

pub call_stays_over : (s : State) (call : Call) → IsCall call → InTime s call → IsOver s → IsOver (step s call)
call_stays_over s call is timely (inl some) = inl (ap (λ (e : Option Ending). is_some e) (keeps s call is timely).ending ∙ some)
call_stays_over s call is timely (inr closing) = inr ((keeps s call is timely).stays closing)

pub call_over : (s : State) (call : Call) → IsCall call → InTime s call → IsOver (step s call) → IsOver s ⊎ (are_done s ≡ true)
call_over s call is timely (inl some) = inl (inl (ap (λ (e : Option Ending). is_some e) (sym (keeps s call is timely).ending) ∙ some))
call_over s call is timely (inr closing) = by_side ((keeps s call is timely).over closing)
  where
    by_side : (is_closing s.facts.connection.phase ≡ true) ⊎ (are_done s ≡ true) → IsOver s ⊎ (are_done s ≡ true)
    by_side (inl c) = inl (inr c)
    by_side (inr d) = inr d

pub call_keeps : (s : State) (call : Call) → IsCall call → InTime s call → are_done s ≡ true → are_done (step s call) ≡ true
call_keeps s call is timely done = (keeps s call is timely).done done

pub over_quiet : (s : State) (call : Call) → IsCall call → InTime s call → IsOver (step s call) → under_way finish (writes s call) ≡ 0
over_quiet s call is timely over = (keeps s call is timely).quiet over

-- ---- an end that closes reads

terminates_shuts : (x : Around) (i : Incoming) → terminates x i ≡ true → 1 ≤ in_frame shutting i
terminates_shuts x (session (terminate id code reason)) e = omega arith
terminates_shuts x (session (negotiate id timestamp flow credentials)) e = absurd (true≢false (sym e))
terminates_shuts x (session (negotiation_response id timestamp flow credentials)) e = absurd (true≢false (sym e))
terminates_shuts x (session (negotiation_reject id timestamp code reason)) e = absurd (true≢false (sym e))
terminates_shuts x (session (establish id timestamp keepalive next expected credentials)) e = absurd (true≢false (sym e))
terminates_shuts x (session (establishment_ack id timestamp keepalive next expected)) e = absurd (true≢false (sym e))
terminates_shuts x (session (establishment_reject id timestamp code reason)) e = absurd (true≢false (sym e))
terminates_shuts x (session (sequence next)) e = absurd (true≢false (sym e))
terminates_shuts x (session unsequenced_heartbeat) e = absurd (true≢false (sym e))
terminates_shuts x (session (retransmit_request id timestamp first count)) e = absurd (true≢false (sym e))
terminates_shuts x (session (retransmission id next timestamp count)) e = absurd (true≢false (sym e))
terminates_shuts x (session (retransmit_reject id timestamp code reason)) e = absurd (true≢false (sym e))
terminates_shuts x (session (applied first count)) e = absurd (true≢false (sym e))
terminates_shuts x (session (not_applied first count)) e = absurd (true≢false (sym e))
terminates_shuts x (session (finished_sending id last)) e = absurd (true≢false (sym e))
terminates_shuts x (session (finished_receiving id)) e = absurd (true≢false (sym e))
terminates_shuts x (application payload) e = absurd (true≢false (sym e))
terminates_shuts x wrong_order e = absurd (true≢false (sym e))
terminates_shuts x too_short e = absurd (true≢false (sym e))
terminates_shuts x (unknown template) e = absurd (true≢false (sym e))

-- it writes no finish
pub deaf_silent : (x : Around) (f : Facts) (i : Incoming) → is_closing f.connection.phase ≡ true → among finish (reply_of x f i).written ≡ 0
deaf_silent x f i closing = by_bool _ (terminates x i)
    (λ t. (reply_ends x f i).quiet (replies_shut.ends_with_one x f i (terminates_shuts x i t) (inr t)))
    (λ n. ap (λ (b : Bool). among finish (if b then ignores f else answer_of x f i).written) (deaf closing n))
  where
    deaf : is_closing f.connection.phase ≡ true → terminates x i ≡ false → (is_closing f.connection.phase && not (terminates x i)) ≡ true
    deaf c n = ap (λ (b : Bool). b && not (terminates x i)) c ∙ ap (λ (b : Bool). not b) n
