-- That each frame lowers the measure, row by row of the reply table.
use Rattle.std.proofs.Common.{◌≡◌, ℕ, ◌+◌, ◌*◌, ◌≤◌, ◌==◌, ◌&&◌, ◌||◌, max, min, nat_lt, not, Bool, true, false, if◌then◌else◌, List, [], ◌∷◌, ◌++◌, length, Option, Some, None, refl, sym, ap, ◌∙◌, arith, eq-eqb, true≢false}
use Rattle.std.specs.Prelude.{is_some, is_none, unwrap_or, Result, Ok, Err}
use Rattle.fixp_msgs.specs.declared.messages.Expected.{Expected}
use Rattle.fixp_msgs.specs.declared.numbering.Range.{Range}
use Rattle.fixp_msgs.specs.Flow.{flow_code}
use Rattle.fixp_msgs.specs.Message.{Message, negotiate, negotiation_response, negotiation_reject, establish, establishment_ack, establishment_reject, sequence, unsequenced_heartbeat, retransmit_request, retransmission, retransmit_reject, applied, not_applied, finished_sending, finished_receiving, terminate}
use Rattle.flow_recover.specs.declared.numbers.Seen.{Seen}
use Rattle.flow_recover.specs.declared.numbers.Seen.TheVariants.{Deliver, Hold, Gap, Repeat}
use Rattle.flow_recover.specs.Receiving as receiver_is
use Rattle.flow_retrans.specs.declared.request.Request.{Request}
use Rattle.flow_retrans.specs.declared.request.Request.TheVariants as requests
use Rattle.flow_retrans.specs.declared.requester.BadStart.{BadStart}
use Rattle.flow_retrans.specs.declared.judging.RetransmitCode.{RetransmitCode}
use Rattle.flow_retrans.specs.declared.judging.RetransmitCode.TheVariants.{OutOfRange, InvalidSession, RequestLimitExceeded}
use Rattle.flow_retrans.specs.Judging.{judged, code_of, request_limit}
use Rattle.flow_retrans.specs.Requests as request_is
use Rattle.fixp_shake.specs.declared.config.EndConfig.{EndConfig}
use Rattle.fixp_shake.specs.declared.phase.Phase.{Phase}
use Rattle.fixp_shake.specs.declared.phase.Phase.TheVariants as phases
use Rattle.fixp_shake.specs.declared.violation.Violation.{Violation}
use Rattle.fixp_shake.specs.declared.violation.Violation.TheVariants.{AfterFinish}
use Rattle.fixp_shake.specs.Flows.{is_recoverable, is_idempotent}
use Rattle.fixp_shake.specs.Phases.{is_idle, is_negotiating, is_establishing, is_established, is_closing, is_shaken}
use Rattle.fixp_replies.specs.declared.act.Act.TheVariants as acts
use Rattle.fixp_replies.specs.declared.act.Ending.{Ending}
use Rattle.fixp_replies.specs.declared.act.Ending.TheVariants as endings
use Rattle.fixp_replies.specs.declared.facts.Facts.{Facts}
use Rattle.fixp_replies.specs.declared.facts.OwnFinish.TheVariants as own
use Rattle.fixp_replies.specs.declared.facts.PeerFinish.{PeerFinish}
use Rattle.fixp_replies.specs.declared.facts.PeerFinish.TheVariants as peer
use Rattle.fixp_replies.specs.Incoming.{Incoming, application, session, wrong_order, too_short, unknown}
use Rattle.fixp_replies.specs.Facts.{Around, is_initiator, is_own, in_phase, requesting, serves, negotiated as as_negotiated, awaiting, gap_of, holding_too, peer_last, awaits_gap, announced_number}
use Rattle.fixp_replies.specs.Outcomes.{Outcome, Row, row, first_row, within, goes_on, accepts, rejects, ignores, ends, breaks, not_in_phase, skip_of, told_skip, opening_negotiate, opening_establish}
use Rattle.fixp_replies.specs.Announcing.{Announced, announced, announcement_fault, refuses}
use Rattle.fixp_replies.specs.Expecting.{answers_next, returned, softened, told_return}
use Rattle.fixp_replies.specs.Handshake.{awaits_client, serves_client, established, acknowledges, establish_rows, established_again_rows, establish_rows_in, shaken, reached}
use Rattle.fixp_replies.specs.Flowing.{counted, taken_as, finish_act, peer_finished, answers_finish, is_filled, is_past_finish, sequence_taken, sequence_follows, sequence_rows, restarted, finished_last, finish_fault, finished}
use Rattle.fixp_replies.specs.Serving.{request_answered, own_finishing}
use Rattle.fixp_replies.specs.Replies.{template_of, rows_of, answer_of, reply_of, terminates}
use Rattle.fixp_machine.specs.Machine.{to_tell}
use Rattle.fixp_machine.proofs.Rows.{AllRows, by_row, all_rows, all_within, announced_rows, own_rows}
use Rattle.fixp_machine.proofs.Tests.{not_negotiated, not_established, not_opened}
use Rattle.drain_laws.specs.Weights.{weight_of, weights, entry_weight, weight_in}
use Rattle.drain_laws.specs.Loads.{end_of, open_load, lost_load, read_load, load}
use Rattle.drain_laws.specs.Frames.{Fills, IsWhole, IsHonest, falls, FramesFall}
use Rattle.drain_laws.proofs.Lifting.{weights_append, close_least, rest, Low, stopping, halting, breaking, resting, bad, refusing, going, skip_tells, skip_weighs, return_weighs, sending_before, closing_before, loses_less, Unmoved, unmoved, skips_same, established_load, returned_rest}

-- what an act leaves to be told, but for an Apply
finish_tells : (c : EndConfig) (recorded : Option ℕ) (last : ℕ) → 4 * length (to_tell c (finish_act recorded last)) ≡ 0
finish_tells c None last = refl
finish_tells c (Some n) last = refl

shaking_tells : (c : EndConfig) (b : Bool) → 4 * length (to_tell c (if b then acts.Nothing else acts.Negotiated)) ≡ 0
shaking_tells c true = refl
shaking_tells c false = refl

-- an entry pays for what it leaves to be told
entry_pays : (idempotent : Bool) (number : ℕ) → 4 * length (if idempotent then number ∷ [] else []) + 4 ≤ entry_weight idempotent
entry_pays true number = omega arith
entry_pays false number = omega arith

entry_least : (idempotent : Bool) → 4 ≤ entry_weight idempotent
entry_least true = omega arith
entry_least false = omega arith

-- a Negotiate is rejected, and an Establish
negotiate_rejected : (x : Around) (m n : ℕ) (f : Facts) (id : List ℕ) (timestamp code : ℕ) → Low x m n f 25 4 (rejects (negotiation_reject id timestamp code [] ∷ []) f)
negotiate_rejected x m n f id timestamp code = resting x m n f (negotiation_reject id timestamp code [] ∷ []) 25 4 (omega arith)

establish_rejected : (x : Around) (m n : ℕ) (f : Facts) (id : List ℕ) (timestamp code : ℕ) → Low x m n f 17 4 (rejects (establishment_reject id timestamp code [] ∷ []) f)
establish_rejected x m n f id timestamp code = resting x m n f (establishment_reject id timestamp code [] ∷ []) 17 4 (omega arith)

-- an initiator goes on with the handshake
shaking : (x : Around) (m n : ℕ) (f : Facts) → is_shaken f.connection.phase ≡ false → Low x m n f 21 4 (shaken x f)
shaking x m n f before =
    let t = shaking_tells x.config f.recorded.negotiated in
    let s = sending_before x.config m f before in
    let c = closing_before x.config f before in
    going x m n f (in_phase (as_negotiated f) phases.Establishing) (if f.recorded.negotiated then acts.Nothing else acts.Negotiated) (opening_establish x f ∷ []) 21 4 (omega (arith, t, s, c))

-- or begins it again
negotiating : (x : Around) (m n : ℕ) (f : Facts) (w k : ℕ) → 25 + k ≤ w → is_shaken f.connection.phase ≡ false → Low x m n f w k (goes_on x acts.Nothing (opening_negotiate x ∷ []) (in_phase f phases.Negotiating))
negotiating x m n f w k h before =
    let s = sending_before x.config m f before in
    let c = closing_before x.config f before in
    going x m n f (in_phase f phases.Negotiating) acts.Nothing (opening_negotiate x ∷ []) w k (omega (arith, h, s, c))

awaiting_client : (x : Around) (f : Facts) → awaits_client x f ≡ true → is_shaken f.connection.phase ≡ false
awaiting_client x f t = not_opened f.connection.phase (and_right (not (is_initiator x.config.role)) (is_idle f.connection.phase) t)
  where
    and_right : (a b : Bool) → (a && b) ≡ true → b ≡ true
    and_right true b e = e
    and_right false b e = absurd (true≢false (sym e))

-- Establish is acknowledged
acknowledging : (x : Around) (m n : ℕ) (f : Facts) (timestamp keepalive : ℕ) (next : Option ℕ) (e : Expected) → is_shaken f.connection.phase ≡ false
    → Low x m n f 17 4 (acknowledges x timestamp keepalive e (announced x f next))
acknowledging x m n f timestamp keepalive next e before =
    let a : Announced = announced x f next in
    let r : Facts = returned x a.facts e in
    let u = unmoved x m n f next in
    let t = skip_tells x.config a.skipped in
    let s = skip_weighs a.skipped in
    let l = established_load x.config m n f (softened x e r) keepalive before (returned_rest x n a.facts e ∙ u.rest_same) in
    going x m n f (established (softened x e r) keepalive) (skip_of a.skipped)
    (establishment_ack x.config.session timestamp x.config.keepalive (announced_number x r) (answers_next x e r) ∷ told_skip a.skipped) 17 4 (omega (arith, t, s, l))

establish_all : (x : Around) (m n : ℕ) (f : Facts) (id : List ℕ) (timestamp keepalive : ℕ) (next : Option ℕ) (expected : Expected) (credentials : List ℕ)
    → AllRows (Low x m n f 17 4) (establish_rows_in x f id timestamp keepalive next expected credentials)
establish_all x m n f id timestamp keepalive next expected credentials = by_place (awaits_client x f) (serves_client x f) refl
  where
    P : Outcome → Type 0
    P = Low x m n f 17 4

    by_place : (p q : Bool) → awaits_client x f ≡ p → AllRows P (if p then establish_rows x f id timestamp keepalive next expected credentials else if q then established_again_rows x f id timestamp else [])
    by_place true q waits = (
      λ _. establish_rejected x m n f id timestamp 2,
      λ _. (
        λ _. establish_rejected x m n f id timestamp 5,
        λ _. (
          λ _. establish_rejected x m n f id timestamp 6,
          λ _. announced_rows P x f 4 next (acknowledges x timestamp keepalive expected) (λ v. refusing x m n f 17 4 v (omega arith))
              (λ _. acknowledging x m n f timestamp keepalive next expected (awaiting_client x f waits)),
        ),
      ),
    )
    by_place false true waits = (λ _. establish_rejected x m n f id timestamp 2, λ _. (λ _. establish_rejected x m n f id timestamp 3, λ _. tt))
    by_place false false waits = tt

-- Establish was acknowledged
acknowledged : (x : Around) (m n : ℕ) (f : Facts) (keepalive : ℕ) (next : Option ℕ) (e : Expected) → is_shaken f.connection.phase ≡ false → Low x m n f 9 4 (reached x keepalive e (announced x f next))
acknowledged x m n f keepalive next e before =
    let a : Announced = announced x f next in
    let u = unmoved x m n f next in
    let t = skip_tells x.config a.skipped in
    let s = skip_weighs a.skipped in
    let r = return_weighs x a.facts e in
    let both = weights_append (told_skip a.skipped) (told_return x a.facts e) in
    let l = established_load x.config m n f (returned x a.facts e) (min 60000 (max 100 keepalive)) before (returned_rest x n a.facts e ∙ u.rest_same) in
    going x m n f (established (returned x a.facts e) (min 60000 (max 100 keepalive))) (skip_of a.skipped) (told_skip a.skipped ++ told_return x a.facts e) 9 4 (omega (arith, t, s, r, both, l))

-- a message that is counted leaves no more numbers lost
one_later : (b : Bool) (next : ℕ) → next ≤ (if b then next + 1 else next)
one_later true next = omega arith
one_later false next = omega arith

record Ends (q r : Request) : Type 0 where
  end : end_of r ≡ end_of q
  is_open : open_load r ≡ open_load q

message_ends : (q : Request) → Ends q (request_is.after_message q)
message_ends requests.Nothing = record { end = refl; is_open = refl }
message_ends (requests.Asked range) = record { end = refl; is_open = refl }
message_ends (requests.Coming range next left) = record { end = refl; is_open = refl }

started_ends : (q : Request) (next count : ℕ) → Ends q (request_is.started q next count)
started_ends requests.Nothing next count = record { end = refl; is_open = refl }
started_ends (requests.Asked range) next count = record { end = refl; is_open = refl }
started_ends (requests.Coming range number left) next count = record { end = refl; is_open = refl }

counted_load : (c : EndConfig) (m n : ℕ) (f : Facts) → load c m n (counted f) None ≤ load c m n f None
counted_load c m n f =
    let e = message_ends f.connection.requester in
    let end = e.end in
    let same = e.is_open in
    let later = one_later (receiver_is.number f.connection.receiver == f.connection.receiver.next) f.connection.receiver.next in
    let lost = loses_less (is_recoverable c.peer_flow) n (max f.connection.receiver.next (end_of f.connection.requester)) (max (counted f).connection.receiver.next (end_of (counted f).connection.requester))
    (omega (arith, end, later)) in
    omega (arith, same, lost)

taking : (x : Around) (m n : ℕ) (f : Facts) (s : Seen) → Low x m n f (entry_weight (is_idempotent x.config.peer_flow)) 4 (taken_as x (counted f) s)
taking x m n f (Deliver number) =
    let p = entry_pays (is_idempotent x.config.peer_flow) number in
    let l = counted_load x.config m n f in
    going x m n f (awaiting (counted f) (number + 1)) (acts.Apply number) [] (entry_weight (is_idempotent x.config.peer_flow)) 4 (omega (arith, p, l))
taking x m n f (Hold number) =
    let p = entry_least (is_idempotent x.config.peer_flow) in
    let l = counted_load x.config m n f in
    let k = going (holding_too x number) m n f (counted f) acts.Nothing [] (entry_weight (is_idempotent x.config.peer_flow)) 4 (omega (arith, p, l)) in
    record { lowers = k.lowers }
taking x m n f (Gap number) =
    let p = entry_least (is_idempotent x.config.peer_flow) in let l = counted_load x.config m n f in going x m n f (counted f) acts.Nothing [] (entry_weight (is_idempotent x.config.peer_flow)) 4 (omega (arith, p, l))
taking x m n f (Repeat number) =
    let p = entry_least (is_idempotent x.config.peer_flow) in let l = counted_load x.config m n f in going x m n f (counted f) acts.Nothing [] (entry_weight (is_idempotent x.config.peer_flow)) 4 (omega (arith, p, l))

message_rows : (x : Around) (m n : ℕ) (f : Facts) (payload : List ℕ) → AllRows (Low x m n f (entry_weight (is_idempotent x.config.peer_flow)) 4) (rows_of x f (application payload))
message_rows x m n f payload =
    let w = entry_weight (is_idempotent x.config.peer_flow) in
    let least = entry_least (is_idempotent x.config.peer_flow) in
    all_within (Low x m n f w 4) (is_established f.connection.phase) _ (λ _. (
      λ _. breaking x m n f w 4 2 _ least,
      λ _. (
        λ _. breaking x m n f w 4 2 _ least,
        λ _. (
          λ _. breaking x m n f w 4 2 _ least,
          λ _. (
            λ _. let p = entry_pays (is_idempotent x.config.peer_flow) f.recorded.inbox_next in
                going x m n f (awaiting f (f.recorded.inbox_next + 1)) (acts.Apply f.recorded.inbox_next) [] w 4 (omega (arith, p)),
            λ _. (
              λ _. bad x m n f w 4 (request_is.message_fault f.connection.requester) least,
              λ _. (λ _. taking x m n f (receiver_is.seen f.connection.receiver), λ _. tt),
            ),
          ),
        ),
      ),
    ))

-- a Sequence ends a retransmission that is whole, and what was open for it
abbrev done_with : Request → ℕ
done_with q = if request_is.is_coming q then 3 else 0

ending_lowers : (recoverable : Bool) (n next : ℕ) (q : Request) → Fills next q → IsWhole q
    → lost_load recoverable n (max next (end_of (request_is.after_sequence q))) + open_load (request_is.after_sequence q) + done_with q ≤ lost_load recoverable n (max next (end_of q)) + open_load q
ending_lowers recoverable n next requests.Nothing fills whole = omega arith
ending_lowers recoverable n next (requests.Asked range) fills whole = omega arith
ending_lowers true n next (requests.Coming range number left) fills whole = let a = fills.0 in let b = fills.1 in omega (arith, a, b, whole)
ending_lowers false n next (requests.Coming range number left) fills whole = omega arith

whole_is_due : (q : Request) → IsWhole q → is_some (request_is.sequence_fault q) ≡ false
whole_is_due requests.Nothing whole = refl
whole_is_due (requests.Asked range) whole = refl
whole_is_due (requests.Coming range next left) whole = ap (λ b. is_some {T = BadStart} (if b then None else Some (record { expected = next; found = 0 }))) (eq-eqb left 0 whole)

abbrev falls_by : Bool → ℕ
falls_by b = if b then 4 else 1

falls_due : (shaken : Bool) (q : Request) → falls_by (shaken && request_is.is_coming q) ≤ 1 + done_with q
falls_due true requests.Nothing = omega arith
falls_due true (requests.Asked range) = omega arith
falls_due true (requests.Coming range next left) = omega arith
falls_due false q = omega arith

falls_before : (shaken b : Bool) → shaken ≡ false → falls_by (shaken && b) ≡ 1
falls_before true b e = absurd (true≢false e)
falls_before false b e = refl

filled_read : (p : PeerFinish) (b : Bool) → (is_some (awaits_gap p) && b) ≡ true → read_load p ≡ 8
filled_read peer.Open b e = absurd (true≢false (sym e))
filled_read (peer.Read last) b e = refl
filled_read (peer.Exchanged last) b e = absurd (true≢false (sym e))

none_weighs : (s : Option Range) → s ≡ None → weights (told_skip s) ≡ 0
none_weighs None e = refl
none_weighs (Some s) e = absurd cc

-- rows that are looked at where their condition holds, and decide then
abbrev Decides : (Outcome → Type 0) → List Row → Type 0
Decides P [] = ⊥
Decides P (row ∷ rows) = (row.applies ≡ true → P row.outcome) × (row.applies ≡ false → Decides P rows)

decided : (P : Outcome → Type 0) (otherwise : Outcome) (rows : List Row) → Decides P rows → P (first_row otherwise rows)
decided P otherwise [] d = absurd d
decided P otherwise (row ∷ rows) d = by_row P row.applies row.outcome (first_row otherwise rows) d.0 (λ e. decided P otherwise rows (d.1 e))

decided_within : (P : Outcome → Type 0) (otherwise : Outcome) (condition : Bool) (rows : List Row) → (condition ≡ true → Decides P rows) → (condition ≡ false → P otherwise)
    → P (first_row otherwise (within condition rows))
decided_within P otherwise true rows d o = decided P otherwise rows (d refl)
decided_within P otherwise false rows d o = o refl

sequence_lowers : (x : Around) (m n : ℕ) (f : Facts) (next : ℕ) → Fills f.connection.receiver.next f.connection.requester → IsHonest x f (session (sequence next))
    → Low x m n f 1 (falls f (session (sequence next))) (answer_of x f (session (sequence next)))
sequence_lowers x m n f next fills fair =
    decided_within P (not_in_phase x f 7) (is_established f.connection.phase) (sequence_rows x f next)
    (λ _. (
      λ fault. absurd (true≢false (sym fault ∙ whole_is_due f.connection.requester fair.0)),
      λ _. (λ _. refused (announcement_fault x g 7 (Some next)), λ _. (λ _. follows, λ e. absurd (true≢false e))),
    ))
    (λ before. let one = falls_before (is_established f.connection.phase) (request_is.is_coming f.connection.requester) before in breaking x m n f 1 k 2 _ (omega (arith, one)))
  where
    k : ℕ
    k = falls f (session (sequence next))

    P : Outcome → Type 0
    P = Low x m n f 1 k

    g : Facts
    g = requesting f (request_is.after_sequence f.connection.requester)

    due : k ≤ 1 + done_with f.connection.requester
    due = falls_due (is_established f.connection.phase) f.connection.requester

    lower : rest x.config n g.connection + done_with f.connection.requester ≤ rest x.config n f.connection
    lower = let e = ending_lowers (is_recoverable x.config.peer_flow) n f.connection.receiver.next f.connection.requester fills fair.0 in omega (arith, e)

    refused : (v : Option Violation) → P (refuses x g v)
    refused None = record { lowers = λ _. omega (arith, due, lower) }
    refused (Some v) = halting x m n f g 1 k 2 _ (omega (arith, due, lower))

    a : Announced
    a = announced x g (Some next)

    u : Unmoved x.config m n g a.facts
    u = unmoved x m n g (Some next)

    none : a.skipped ≡ None
    none = skips_same x f (request_is.after_sequence f.connection.requester) (Some next) ∙ fair.1

    answers : is_filled x a.facts ≡ true → P (answers_finish x a.facts (unwrap_or (awaits_gap a.facts.connection.peer_finish) 0))
    answers filled =
        let last : ℕ = unwrap_or (awaits_gap a.facts.connection.peer_finish) 0 in
        let eight = filled_read a.facts.connection.peer_finish (is_none (gap_of x a.facts)) filled in
        let t = finish_tells x.config a.facts.recorded.peer_last last in
        let r = u.rest_same in
        let s = u.sending_same in
        let c = u.closing_same in
        going x m n f (peer_finished a.facts (peer.Exchanged last) (Some (unwrap_or a.facts.recorded.peer_last last))) (finish_act a.facts.recorded.peer_last last) (finished_receiving x.config.session ∷ []) 1 k
        (omega (arith, due, lower, eight, t, r, s, c))

    goes : P (goes_on x (skip_of a.skipped) (told_skip a.skipped) a.facts)
    goes =
        let t = skip_tells x.config a.skipped in
        let w = none_weighs a.skipped none in
        let r = u.rest_same in
        let s = u.sending_same in
        let c = u.closing_same in
        going x m n f a.facts (skip_of a.skipped) (told_skip a.skipped) 1 k (omega (arith, due, lower, t, w, r, s, c))

    follows : P (sequence_follows x g next a)
    follows =
        by_row P (is_past_finish x g next) (breaks x g (AfterFinish (unwrap_or (peer_last g) 0) next)) (sequence_taken x a)
        (λ _. halting x m n f g 1 k 2 _ (omega (arith, due, lower)))
        (λ _. by_row P (is_filled x a.facts) (answers_finish x a.facts (unwrap_or (awaits_gap a.facts.connection.peer_finish) 0)) (goes_on x (skip_of a.skipped) (told_skip a.skipped) a.facts) answers (λ _. goes))

-- a range that is served has as many messages as were asked for
judged_count : (mine recoverable : Bool) (from count sent : ℕ) (range : Range) → judged mine recoverable from count sent ≡ Ok range → range.count ≡ count
judged_count mine recoverable from count sent range = by_tests mine (not recoverable || from == 0 || count == 0 || nat_lt (sent + 1) (from + count)) (nat_lt request_limit count)
  where
    by_tests : (m outside many : Bool) → (if not m then Err InvalidSession else if outside then Err OutOfRange else if many then Err RequestLimitExceeded else Ok (record { from = from; count = count })) ≡ Ok range → range.count ≡ count
    by_tests false outside many e = absurd cc
    by_tests true true many e = absurd cc
    by_tests true false true e = absurd cc
    by_tests true false false e = let made : Range = record { from = from; count = count } in let same : made ≡ range = cc e in sym (ap (λ (r : Range). r.count) same)

requested : (x : Around) (m n : ℕ) (f : Facts) (id : List ℕ) (timestamp count : ℕ) (r : Result Range RetransmitCode) → ((range : Range) → r ≡ Ok range → range.count ≡ count)
    → Low x m n f (8 + 9 * count) 4 (request_answered x f id timestamp r)
requested x m n f id timestamp count (Ok range) is =
    let same = is range refl in
    going x m n f (serves f (Some range)) acts.Nothing (retransmission x.config.session range.from timestamp range.count ∷ []) (8 + 9 * count) 4 (omega (arith, same))
requested x m n f id timestamp count (Err code) is = resting x m n f (retransmit_reject id timestamp (code_of code) [] ∷ []) (8 + 9 * count) 4 (omega arith)

finishing : (x : Around) (m n : ℕ) (f : Facts) (last : ℕ) → Low x m n f 12 4 (finished x f last)
finishing x m n f last =
    by_row (Low x m n f 12 4) (is_some (gap_of x f)) (accepts x [] (peer_finished f (peer.Read last) f.recorded.peer_last)) (answers_finish x f last)
    (λ _. going x m n f (peer_finished f (peer.Read last) f.recorded.peer_last) acts.Nothing [] 12 4 (omega arith))
    (λ _. let t = finish_tells x.config f.recorded.peer_last last in
    going x m n f (peer_finished f (peer.Exchanged last) (Some (unwrap_or f.recorded.peer_last last))) (finish_act f.recorded.peer_last last) (finished_receiving x.config.session ∷ []) 12 4 (omega (arith, t)))

restarting : (x : Around) (m n : ℕ) (f : Facts) (next count : ℕ) → Low x m n f 4 4 (accepts x [] (restarted f next count))
restarting x m n f next count =
    let e = started_ends f.connection.requester next count in
    let same = e.is_open in
    let lost = ap (λ end. lost_load (is_recoverable x.config.peer_flow) n (max f.connection.receiver.next end)) e.end in
    going x m n f (restarted f next count) acts.Nothing [] 4 4 (omega (arith, same, lost))

answered : (x : Around) (m n : ℕ) (f : Facts) (i : Incoming) → falls f i ≤ weight_in x.config i → AllRows (Low x m n f (weight_in x.config i) (falls f i)) (rows_of x f i)
    → Low x m n f (weight_in x.config i) (falls f i) (answer_of x f i)
answered x m n f i least rows =
    all_rows (Low x m n f (weight_in x.config i) (falls f i)) (not_in_phase x f (template_of i)) (rows_of x f i) (breaking x m n f (weight_in x.config i) (falls f i) 2 _ least) rows

session_lowers : (x : Around) (m n : ℕ) (f : Facts) (s : Message) → Fills f.connection.receiver.next f.connection.requester → IsHonest x f (session s)
    → Low x m n f (weight_of s) (falls f (session s)) (answer_of x f (session s))
session_lowers x m n f (negotiate id timestamp flow credentials) fills fair =
    answered x m n f (session (negotiate id timestamp flow credentials)) (omega arith) (all_within (Low x m n f 25 4) (awaits_client x f) _ (λ _. (
      λ _. negotiate_rejected x m n f id timestamp 1,
      λ _. (
        λ _. negotiate_rejected x m n f id timestamp 2,
        λ _. (
          λ _. negotiate_rejected x m n f id timestamp 3,
          λ _. (
            λ _. negotiate_rejected x m n f id timestamp 4,
            λ _. (
              λ _. going x m n f (as_negotiated f) acts.Negotiated (negotiation_response x.config.session timestamp (flow_code x.config.own_flow) [] ∷ []) 25 4 (omega arith),
              λ _. tt,
            ),
          ),
        ),
      ),
    )))
session_lowers x m n f (negotiation_response id timestamp flow credentials) fills fair =
    answered x m n f (session (negotiation_response id timestamp flow credentials)) (omega arith) (
    own_rows (Low x m n f 21 4) x f 2 id _ (λ e. breaking x m n f 21 4 2 e (omega arith)) (all_within (Low x m n f 21 4) (is_negotiating f.connection.phase) _ (λ now. (
      λ _. breaking x m n f 21 4 2 _ (omega arith),
      λ _. (λ _. shaking x m n f (not_negotiated f.connection.phase now), λ _. tt),
    ))))
session_lowers x m n f (negotiation_reject id timestamp code reason) fills fair =
    answered x m n f (session (negotiation_reject id timestamp code reason)) (omega arith) (
    own_rows (Low x m n f 21 4) x f 3 id _ (λ e. breaking x m n f 21 4 2 e (omega arith)) (all_within (Low x m n f 21 4) (is_negotiating f.connection.phase) _ (λ now. (
      λ _. shaking x m n f (not_negotiated f.connection.phase now),
      λ _. (λ _. stopping x m n f f [] _ 21 4 (omega arith), λ _. tt),
    ))))
session_lowers x m n f (establish id timestamp keepalive next expected credentials) fills fair =
    answered x m n f (session (establish id timestamp keepalive next expected credentials)) (omega arith) (establish_all x m n f id timestamp keepalive next expected credentials)
session_lowers x m n f (establishment_ack id timestamp keepalive next expected) fills fair =
    answered x m n f (session (establishment_ack id timestamp keepalive next expected)) (omega arith) (
    own_rows (Low x m n f 9 4) x f 5 id _ (λ e. breaking x m n f 9 4 2 e (omega arith)) (all_within (Low x m n f 9 4) (is_establishing f.connection.phase) _ (λ now.
    announced_rows (Low x m n f 9 4) x f 5 next (reached x keepalive expected) (λ v. refusing x m n f 9 4 v (omega arith))
    (λ _. acknowledged x m n f keepalive next expected (not_established f.connection.phase now)))))
session_lowers x m n f (establishment_reject id timestamp code reason) fills fair = absurd fair
session_lowers x m n f (sequence next) fills fair = sequence_lowers x m n f next fills fair
session_lowers x m n f unsequenced_heartbeat fills fair = answered x m n f (session unsequenced_heartbeat) (omega arith) (λ _. going x m n f f acts.Nothing [] 1 1 (omega arith), λ _. tt)
session_lowers x m n f (retransmit_request id timestamp first count) fills fair =
    answered x m n f (session (retransmit_request id timestamp first count)) (omega arith) (all_within (Low x m n f (8 + 9 * count) 4) (is_established f.connection.phase) _ (λ _. (
      λ _. breaking x m n f (8 + 9 * count) 4 4 _ (omega arith),
      λ _. (
        λ _. requested x m n f id timestamp count (judged (is_own x id) (is_recoverable x.config.own_flow) first count f.recorded.sent)
            (λ range e. judged_count (is_own x id) (is_recoverable x.config.own_flow) first count f.recorded.sent range e),
        λ _. tt,
      ),
    )))
session_lowers x m n f (retransmission id next timestamp count) fills fair =
    answered x m n f (session (retransmission id next timestamp count)) (omega arith) (
    own_rows (Low x m n f 4 4) x f 10 id _ (λ e. breaking x m n f 4 4 2 e (omega arith)) (all_within (Low x m n f 4 4) (is_established f.connection.phase) _ (λ _. (
      λ _. bad x m n f 4 4 (request_is.start_fault (request_is.outstanding f.connection.requester) next count) (omega arith),
      λ _. (λ _. restarting x m n f next count, λ _. tt),
    ))))
session_lowers x m n f (retransmit_reject id timestamp code reason) fills fair =
    answered x m n f (session (retransmit_reject id timestamp code reason)) (omega arith) (
    own_rows (Low x m n f 4 4) x f 11 id _ (λ e. breaking x m n f 4 4 2 e (omega arith)) (all_within (Low x m n f 4 4) (is_established f.connection.phase) _ (λ _.
    (λ _. breaking x m n f 4 4 2 _ (omega arith), λ _. tt))))
session_lowers x m n f (applied first count) fills fair = answered x m n f (session (applied first count)) (omega arith) (λ _. going x m n f f acts.Nothing [] 4 4 (omega arith), λ _. tt)
session_lowers x m n f (not_applied first count) fills fair =
    answered x m n f (session (not_applied first count)) (omega arith) (
      λ _. going x m n f f (acts.Told first count) [] 4 4 (omega arith),
      λ _. (λ _. going x m n f f acts.Nothing [] 4 4 (omega arith), λ _. tt),
    )
session_lowers x m n f (finished_sending id last) fills fair =
    answered x m n f (session (finished_sending id last)) (omega arith) (
    own_rows (Low x m n f 12 4) x f 14 id _ (λ e. breaking x m n f 12 4 2 e (omega arith)) (all_within (Low x m n f 12 4) (is_established f.connection.phase) _ (λ _. (
      λ _. refusing x m n f 12 4 (finish_fault x f last) (omega arith),
      λ _. (λ _. finishing x m n f (finished_last x last), λ _. tt),
    ))))
session_lowers x m n f (finished_receiving id) fills fair =
    answered x m n f (session (finished_receiving id)) (omega arith) (
    own_rows (Low x m n f 4 4) x f 15 id _ (λ e. breaking x m n f 4 4 2 e (omega arith)) (all_within (Low x m n f 4 4) (is_established f.connection.phase) _ (λ _. (
      λ _. going x m n f (own_finishing f own.Exchanged) acts.Nothing [] 4 4 (omega arith),
      λ _. tt,
    ))))
session_lowers x m n f (terminate id code reason) fills fair =
    let answer : Row = row true (ends x f 1 (endings.PeerTerminated code)) in
    let rows : AllRows (Low x m n f 4 4) (answer ∷ []) = (λ _. breaking x m n f 4 4 1 _ (omega arith), λ _. tt) in
    answered x m n f (session (terminate id code reason)) (omega arith) (own_rows (Low x m n f 4 4) x f 16 id (answer ∷ []) (λ e. breaking x m n f 4 4 2 e (omega arith)) rows)

frame_lowers : (x : Around) (m n : ℕ) (f : Facts) (i : Incoming) → Fills f.connection.receiver.next f.connection.requester → IsHonest x f i
    → Low x m n f (weight_in x.config i) (falls f i) (answer_of x f i)
frame_lowers x m n f (application payload) fills fair = answered x m n f (application payload) (entry_least (is_idempotent x.config.peer_flow)) (message_rows x m n f payload)
frame_lowers x m n f (session s) fills fair = session_lowers x m n f s fills fair
frame_lowers x m n f wrong_order fills fair = answered x m n f wrong_order (omega arith) (λ _. breaking x m n f 4 4 2 _ (omega arith), λ _. tt)
frame_lowers x m n f too_short fills fair = answered x m n f too_short (omega arith) (λ _. breaking x m n f 4 4 2 _ (omega arith), λ _. tt)
frame_lowers x m n f (unknown template) fills fair = answered x m n f (unknown template) (omega arith) (λ _. breaking x m n f 4 4 2 _ (omega arith), λ _. tt)

-- an end that closes is deaf, and what it reads is lifted all the same
deaf_least : (x : Around) (f : Facts) (i : Incoming) → is_closing f.connection.phase ≡ true → falls f i ≤ weight_in x.config i
deaf_least x f (application payload) e = entry_least (is_idempotent x.config.peer_flow)
deaf_least x f (session (negotiate id timestamp flow credentials)) e = omega arith
deaf_least x f (session (negotiation_response id timestamp flow credentials)) e = omega arith
deaf_least x f (session (negotiation_reject id timestamp code reason)) e = omega arith
deaf_least x f (session (establish id timestamp keepalive next expected credentials)) e = omega arith
deaf_least x f (session (establishment_ack id timestamp keepalive next expected)) e = omega arith
deaf_least x f (session (establishment_reject id timestamp code reason)) e = omega arith
deaf_least x f (session (sequence next)) e =
    let one = falls_before (is_established f.connection.phase) (request_is.is_coming f.connection.requester) (closing_is f.connection.phase e) in omega (arith, one)
  where
    closing_is : (p : Phase) → is_closing p ≡ true → is_established p ≡ false
    closing_is phases.Idle e = refl
    closing_is phases.Negotiating e = refl
    closing_is phases.Establishing e = refl
    closing_is phases.Established e = absurd (true≢false (sym e))
    closing_is phases.Closing e = refl
    closing_is phases.Ended e = refl
deaf_least x f (session unsequenced_heartbeat) e = omega arith
deaf_least x f (session (retransmit_request id timestamp first count)) e = omega arith
deaf_least x f (session (retransmission id next timestamp count)) e = omega arith
deaf_least x f (session (retransmit_reject id timestamp code reason)) e = omega arith
deaf_least x f (session (applied first count)) e = omega arith
deaf_least x f (session (not_applied first count)) e = omega arith
deaf_least x f (session (finished_sending id last)) e = omega arith
deaf_least x f (session (finished_receiving id)) e = omega arith
deaf_least x f (session (terminate id code reason)) e = omega arith
deaf_least x f wrong_order e = omega arith
deaf_least x f too_short e = omega arith
deaf_least x f (unknown template) e = omega arith

and_left : (a b : Bool) → (a && b) ≡ true → a ≡ true
and_left true b e = refl
and_left false b e = absurd (true≢false (sym e))

-- An outcome lowers the measure, whatever was asked for
record Sinks (x : Around) (m n : ℕ) (f : Facts) (w k : ℕ) (o : Outcome) : Type 0 where
  sinks : weights o.written + 4 * length (to_tell x.config o.act) + load x.config m n o.next o.ending + k ≤ w + load x.config m n f None

sinking : (x : Around) (m n : ℕ) (f : Facts) (code : ℕ) (ending : Ending) → Sinks x m n f 4 4 (ends x f code ending)
sinking x m n f code ending = let c = close_least (is_initiator x.config.role) (is_closing f.connection.phase) in record { sinks = omega (arith, c) }

-- so each frame does that is read by an end which closes: it looks at nothing but the peer's Terminate
pub closing_falls : (x : Around) (m n : ℕ) (f : Facts) (i : Incoming) → is_closing f.connection.phase ≡ true
    → weights (reply_of x f i).written + 4 * length (to_tell x.config (reply_of x f i).act) + load x.config m n (reply_of x f i).next (reply_of x f i).ending + falls f i
    ≤ weight_in x.config i + load x.config m n f None
closing_falls x m n f i closing = (by_row (Sinks x m n f (weight_in x.config i) (falls f i)) (is_closing f.connection.phase && not (terminates x i)) (ignores f) (answer_of x f i)
    (λ _. let least = deaf_least x f i closing in record { sinks = omega (arith, least) })
    (λ heard. ends_it i (not_not (terminates x i) (ap (λ b. b && not (terminates x i)) (sym closing) ∙ heard)))).sinks
  where
    not_not : (b : Bool) → not b ≡ false → b ≡ true
    not_not true e = refl
    not_not false e = absurd (true≢false e)

    ends_it : (i : Incoming) → terminates x i ≡ true → Sinks x m n f (weight_in x.config i) (falls f i) (answer_of x f i)
    ends_it (session (terminate id code reason)) t =
        all_rows (Sinks x m n f 4 4) (not_in_phase x f 16) (rows_of x f (session (terminate id code reason))) (sinking x m n f 2 _)
        (λ _. sinking x m n f 2 _, λ _. (λ _. sinking x m n f 1 _, λ _. tt))
    ends_it (session (negotiate _ _ _ _)) t = absurd (true≢false (sym t))
    ends_it (session (negotiation_response _ _ _ _)) t = absurd (true≢false (sym t))
    ends_it (session (negotiation_reject _ _ _ _)) t = absurd (true≢false (sym t))
    ends_it (session (establish _ _ _ _ _ _)) t = absurd (true≢false (sym t))
    ends_it (session (establishment_ack _ _ _ _ _)) t = absurd (true≢false (sym t))
    ends_it (session (establishment_reject _ _ _ _)) t = absurd (true≢false (sym t))
    ends_it (session (sequence _)) t = absurd (true≢false (sym t))
    ends_it (session unsequenced_heartbeat) t = absurd (true≢false (sym t))
    ends_it (session (retransmit_request _ _ _ _)) t = absurd (true≢false (sym t))
    ends_it (session (retransmission _ _ _ _)) t = absurd (true≢false (sym t))
    ends_it (session (retransmit_reject _ _ _ _)) t = absurd (true≢false (sym t))
    ends_it (session (applied _ _)) t = absurd (true≢false (sym t))
    ends_it (session (not_applied _ _)) t = absurd (true≢false (sym t))
    ends_it (session (finished_sending _ _)) t = absurd (true≢false (sym t))
    ends_it (session (finished_receiving _)) t = absurd (true≢false (sym t))
    ends_it (application _) t = absurd (true≢false (sym t))
    ends_it wrong_order t = absurd (true≢false (sym t))
    ends_it too_short t = absurd (true≢false (sym t))
    ends_it (unknown _) t = absurd (true≢false (sym t))

pub frames_fall : FramesFall
frames_fall x m n f i fills fair = (by_row (Low x m n f (weight_in x.config i) (falls f i)) (is_closing f.connection.phase && not (terminates x i)) (ignores f) (answer_of x f i)
    (λ deaf. let least = deaf_least x f i (and_left (is_closing f.connection.phase) (not (terminates x i)) deaf) in resting x m n f [] (weight_in x.config i) (falls f i) (omega (arith, least)))
    (λ _. frame_lowers x m n f i fills fair)).lowers
