-- That a reply with which a connection goes on keeps all even, row by row of the reply table.
use Rattle.std.proofs.Common.{◌≡◌, ◌≢◌, ℕ, ◌+◌, ◌-◌, ◌≤◌, ◌==◌, ◌&&◌, ◌||◌, max, min, not, Bool, true, false, if◌then◌else◌, List, [], ◌∷◌, ◌++◌, Option, Some, None, refl, sym, ap, subst, ◌∙◌, arith, eqb-true, eq-eqb, true≢false}
use Rattle.std.specs.Prelude.{is_some, is_none, unwrap_or, Result, Ok, Err}
use Rattle.fixp_msgs.specs.declared.messages.Expected.{Expected}
use Rattle.fixp_msgs.specs.declared.numbering.Range.{Range}
use Rattle.fixp_msgs.specs.Flow.{flow_code}
use Rattle.fixp_msgs.specs.Message.{Message, negotiate, negotiation_response, negotiation_reject, establish, establishment_ack, establishment_reject, sequence, unsequenced_heartbeat, retransmit_request, retransmission, retransmit_reject, applied, not_applied, finished_sending, finished_receiving, terminate}
use Rattle.flow_recover.specs.declared.numbers.Seen.{Seen}
use Rattle.flow_recover.specs.declared.numbers.Seen.TheVariants.{Deliver, Hold, Gap, Repeat}
use Rattle.flow_recover.specs.Receiving as receiver_is
use Rattle.flow_recover.specs.Receiving.{Receiving}
use Rattle.flow_retrans.specs.declared.request.Request.{Request}
use Rattle.flow_retrans.specs.declared.request.Request.TheVariants as requests
use Rattle.flow_retrans.specs.declared.requester.BadStart.{BadStart}
use Rattle.flow_retrans.specs.declared.judging.RetransmitCode.{RetransmitCode}
use Rattle.flow_retrans.specs.Judging.{judged}
use Rattle.flow_retrans.specs.Requests as request_is
use Rattle.fixp_shake.specs.declared.phase.Phase.{Phase}
use Rattle.fixp_shake.specs.declared.phase.Phase.TheVariants as phases
use Rattle.fixp_shake.specs.declared.violation.Violation.{Violation}
use Rattle.fixp_shake.specs.declared.violation.Violation.TheVariants.{AfterFinish}
use Rattle.fixp_shake.specs.Flows.{is_recoverable, is_idempotent}
use Rattle.fixp_shake.specs.Phases.{is_idle, is_negotiating, is_establishing, is_established, is_closing, is_shaken}
use Rattle.fixp_replies.specs.declared.act.Act.{Act}
use Rattle.fixp_replies.specs.declared.act.Act.TheVariants as acts
use Rattle.fixp_replies.specs.declared.act.Ending.TheVariants as endings
use Rattle.fixp_replies.specs.declared.facts.Connection.{Connection}
use Rattle.fixp_replies.specs.declared.facts.Facts.{Facts}
use Rattle.fixp_replies.specs.declared.facts.OwnFinish.{OwnFinish}
use Rattle.fixp_replies.specs.declared.facts.OwnFinish.TheVariants as own
use Rattle.fixp_replies.specs.declared.facts.PeerFinish.{PeerFinish}
use Rattle.fixp_replies.specs.declared.facts.PeerFinish.TheVariants as peer
use Rattle.fixp_replies.specs.Incoming.{Incoming, application, session, wrong_order, too_short, unknown}
use Rattle.fixp_replies.specs.Facts.{Around, is_initiator, is_own, in_phase, receiving, requesting, firm, serves, negotiated as as_negotiated, awaiting, gap_of, gap_to_ask, holding_too, peer_last, awaits_gap, announced_number, is_told}
use Rattle.fixp_replies.specs.Outcomes.{Outcome, Row, row, goes_on, accepts, rejects, ignores, ends, breaks, not_in_phase, skip_of, told_skip, opening_negotiate, opening_establish}
use Rattle.fixp_replies.specs.Announcing.{Announced, jumped_over, announced, announcement_rows, refuses}
use Rattle.fixp_replies.specs.Expecting.{answers_next, returned, softened, told_return}
use Rattle.fixp_replies.specs.Handshake.{awaits_client, serves_client, established, acknowledges, establish_rows, established_again_rows, establish_rows_in, reached}
use Rattle.fixp_replies.specs.Flowing.{bad_retransmission, counted, taken_as, finish_act, peer_finished, answers_finish, is_filled, is_past_finish, sequence_taken, sequence_follows, restarted, finished_last, finish_fault, finished}
use Rattle.fixp_replies.specs.Serving.{request_answered, own_finishing}
use Rattle.fixp_replies.specs.Replies.{reply_of, template_of, rows_of, answer_of, terminates}
use Rattle.fixp_machine.proofs.Expecting.{returned_stays}
use Rattle.fixp_machine.proofs.Rows.{AllRows, by_row, all_rows, all_within, own_rows}
use Rattle.fixp_machine.proofs.Tests.{not_negotiated, not_established, not_opened}
use Rattle.drain_laws.specs.Counts.{finish, answer, request, restart, opening, shutting, among, in_frame, read_of, answered_of, told_of, exchanged_of, unanswered_of, unshaken_of, read, told, unanswered, unshaken}
use Rattle.drain_laws.specs.Frames.{Fills}
use Rattle.drain_laws.specs.Evens.{ComesBy, Evens, HasRequest, WaitsOn, RepliesEven, FillsStay}
use Rattle.drain_laws.proofs.Counting.{none_silent, skip_silent, return_silent, silent_both, Spare, Goes, stops, going, finishes_stay, asks_stay, opens_stay, Same, still, fills_same, even_opening, waits_so, waits_same, passing, staying}

spare_entry : (payload : List ℕ) → Spare (application payload)
spare_entry payload = record { no_finish = refl; no_answer = refl; no_request = refl; no_restart = refl; no_opening = refl }

-- a violation ends the connection, and without one nothing is refused
some_refused : (x : Around) (f g : Facts) (i : Incoming) (v : Option Violation) → is_some v ≡ true → Goes x f i (refuses x g v)
some_refused x f g i None some = absurd (true≢false (sym some))
some_refused x f g i (Some v) some = stops x f g i _ _

some_bad : (x : Around) (f : Facts) (i : Incoming) (b : Option BadStart) → is_some b ≡ true → Goes x f i (bad_retransmission x f b)
some_bad x f i None some = absurd (true≢false (sym some))
some_bad x f i (Some b) some = stops x f f i _ _

-- an announcement moves nothing that is counted
abbrev chosen : Facts → ℕ → Bool → Bool → Announced
chosen f n recoverable idempotent =
    if recoverable then record { facts = firm (receiving f (receiver_is.announced f.connection.receiver n)); skipped = None }
    else if idempotent then record { facts = awaiting f n; skipped = jumped_over f.recorded.inbox_next n }
    else record { facts = f; skipped = None }

announced_same : (x : Around) (f : Facts) (next : Option ℕ) → Same f (announced x f next).facts
announced_same x f next = by_flow (is_recoverable x.config.peer_flow) (is_idempotent x.config.peer_flow)
  where
    by_flow : (r i : Bool) → Same f (chosen f (unwrap_or next 0) r i).facts
    by_flow true i = record { phase = refl; mine = refl; theirs = refl; requester = refl; next = refl }
    by_flow false true = record { phase = refl; mine = refl; theirs = refl; requester = refl; next = refl }
    by_flow false false = record { phase = refl; mine = refl; theirs = refl; requester = refl; next = refl }

announcement_rows_even : (x : Around) (f g : Facts) (i : Incoming) (template : ℕ) (next : Option ℕ) (follows : Announced → Outcome)
    → Goes x f i (follows (announced x g next)) → AllRows (Goes x f i) (announcement_rows x g template next follows)
announcement_rows_even x f g i template next follows takes = (λ some. some_refused x f g i _ some, λ _. (λ _. takes, λ _. tt))

negotiating_begun : (p : Phase) → is_negotiating p ≡ true → is_idle p ≡ false
negotiating_begun phases.Idle e = absurd (true≢false (sym e))
negotiating_begun phases.Negotiating e = refl
negotiating_begun phases.Establishing e = refl
negotiating_begun phases.Established e = refl
negotiating_begun phases.Closing e = refl
negotiating_begun phases.Ended e = refl

establishing_begun : (p : Phase) → is_establishing p ≡ true → is_idle p ≡ false
establishing_begun phases.Idle e = absurd (true≢false (sym e))
establishing_begun phases.Negotiating e = refl
establishing_begun phases.Establishing e = refl
establishing_begun phases.Established e = refl
establishing_begun phases.Closing e = refl
establishing_begun phases.Ended e = refl

-- the handshake goes on: a message of it is answered by another
opens_on : (x : Around) (f : Facts) (i : Incoming) (act : Act) (m : Message) (p : Phase) (g : Facts) → is_idle f.connection.phase ≡ false → is_shaken f.connection.phase ≡ false → g.connection ≡ record f.connection { phase = p } → is_shaken p ≡ false → is_closing p ≡ false
    → finish m ≡ 0 → answer m ≡ 0 → request m ≡ 0 → restart m ≡ 0 → shutting m ≡ 0 → opening m ≡ 1 → in_frame opening i ≡ 1 → in_frame finish i ≡ 0 → in_frame answer i ≡ 0 → in_frame restart i ≡ 0 → in_frame request i ≡ 0
    → Goes x f i (goes_on x act (m ∷ []) g)
opens_on x f i act m p g begun before is later going_on a b c d e one comes h j k l = going x f g i act (m ∷ []) (record {
  finishes = finishes_stay f g i (m ∷ []) (ap (λ (k : Connection). k.own_finish) is) (ap (λ (k : Connection). k.peer_finish) is) (omega (arith, a)) (omega (arith, b)) h j;
  asks = asks_stay f g i (m ∷ []) (ap (λ (k : Connection). unanswered_of k.requester) is) (omega (arith, c)) (omega (arith, d)) k l;
  opens = record {
    initiator = λ _. omega (arith, one, comes, first, second);
    acceptor = λ _ _. omega (arith, one, comes);
    shuts = omega (arith, e);
    closing = ap (λ (k : Connection). is_closing k.phase) is ∙ going_on;
    stays = λ t. absurd (true≢false (sym t ∙ before));
    idle = λ _ t. absurd (true≢false (sym t ∙ begun));
  };
  fills = λ q _ _. subst (λ (k : Connection). Fills k.receiver.next k.requester) (sym is) q;
}) (λ _. waits_same x f g i (ap (λ (k : Connection). k.peer_finish) is) (ap (λ (k : Connection). k.requester) is))
  where
    first : unshaken f ≡ 1
    first = ap unshaken_of before

    second : unshaken g ≡ 1
    second = ap (λ (k : Connection). unshaken_of (is_shaken k.phase)) is ∙ ap unshaken_of later

-- it is done
opens_done : (x : Around) (f : Facts) (i : Incoming) (act : Act) (ms : List Message) (g : Facts) → (is_initiator x.config.role ≡ true → is_idle f.connection.phase ≡ false) → is_shaken f.connection.phase ≡ false → Same f (in_phase g f.connection.phase) → g.connection.phase ≡ phases.Established
    → among finish ms ≡ 0 → among answer ms ≡ 0 → among request ms ≡ 0 → among restart ms ≡ 0 → among shutting ms ≡ 0
    → (is_initiator x.config.role ≡ true → (among opening ms ≡ 0) × (in_frame opening i ≡ 1))
    → (is_initiator x.config.role ≡ false → (is_negotiating f.connection.phase || is_establishing f.connection.phase) ≡ false → among opening ms ≡ in_frame opening i)
    → in_frame finish i ≡ 0 → in_frame answer i ≡ 0 → in_frame restart i ≡ 0 → in_frame request i ≡ 0
    → Goes x f i (goes_on x act ms g)
opens_done x f i act ms g begun before same is a b c d e mine theirs h j k l = going x f g i act ms (record {
  finishes = finishes_stay f g i ms same.mine same.theirs a b h j;
  asks = asks_stay f g i ms (ap unanswered_of same.requester) c d k l;
  opens = record {
    initiator = λ r. let m = mine r in let none = m.0 in let one = m.1 in omega (arith, none, one, first, later);
    acceptor = theirs;
    shuts = e;
    closing = ap (λ p. is_closing p) is;
    stays = λ t. absurd (true≢false (sym t ∙ before));
    idle = λ r t. absurd (true≢false (sym t ∙ begun r));
  };
  fills = λ q _ _. fills_same f (in_phase g f.connection.phase) same q;
}) (λ _. waits_same x f g i same.theirs same.requester)
  where
    first : unshaken f ≡ 1
    first = ap unshaken_of before

    later : unshaken g ≡ 0
    later = ap (λ p. unshaken_of (is_shaken p)) is

awaiting_parts : (x : Around) (f : Facts) → awaits_client x f ≡ true → (is_initiator x.config.role ≡ false) × (is_shaken f.connection.phase ≡ false)
awaiting_parts x f t = let p = parts (is_initiator x.config.role) (is_idle f.connection.phase) t in (p.0, not_opened f.connection.phase p.1)
  where
    parts : (a b : Bool) → (not a && b) ≡ true → (a ≡ false) × (b ≡ true)
    parts false true e = (refl, refl)
    parts false false e = absurd (true≢false (sym e))
    parts true b e = absurd (true≢false (sym e))

-- a number that is taken moves nothing of the connection
returned_same : (x : Around) (f : Facts) (e : Expected) → Same f (returned x f e)
returned_same x f e =
    let s = (returned_stays x f e).connection in
    record { phase = ap (λ k. k.phase) s; mine = ap (λ k. k.own_finish) s; theirs = ap (λ k. k.peer_finish) s; requester = ap (λ k. k.requester) s; next = ap (λ k. k.receiver.next) s }

same_on : (f g h : Facts) → Same f g → Same g h → Same f h
same_on f g h a b = record { phase = b.phase ∙ a.phase; mine = b.mine ∙ a.mine; theirs = b.theirs ∙ a.theirs; requester = b.requester ∙ a.requester; next = b.next ∙ a.next }

-- Establish is acknowledged
acknowledging : (x : Around) (f : Facts) (id : List ℕ) (timestamp keepalive : ℕ) (next : Option ℕ) (e : Expected) (credentials : List ℕ) → awaits_client x f ≡ true
    → Goes x f (session (establish id timestamp keepalive next e credentials)) (acknowledges x timestamp keepalive e (announced x f next))
acknowledging x f id timestamp keepalive next e credentials waits =
    let a : Announced = announced x f next in
    let r : Facts = returned x a.facts e in
    let ack : Message = establishment_ack x.config.session timestamp x.config.keepalive (announced_number x r) (answers_next x e r) in
    let w = awaiting_parts x f waits in
    let s = skip_silent a.skipped in
    let same = same_on f a.facts r (announced_same x f next) (returned_same x a.facts e) in
    let q = s.no_finish in
    let w2 = s.no_answer in
    let k = s.no_request in
    let l = s.no_restart in
    let z = s.no_shutting in
    opens_done x f (session (establish id timestamp keepalive next e credentials)) (skip_of a.skipped) (ack ∷ told_skip a.skipped) (established (softened x e r) keepalive) (λ t. absurd (true≢false (sym t ∙ w.0))) w.1
    (record { phase = refl; mine = same.mine; theirs = same.theirs; requester = same.requester; next = same.next }) refl
    (omega (arith, q)) (omega (arith, w2)) (omega (arith, k)) (omega (arith, l)) (omega (arith, z))
    (λ t. absurd (true≢false (sym t ∙ w.0))) (λ _ _. let none = s.no_opening in omega (arith, none)) refl refl refl refl

serving_parts : (x : Around) (f : Facts) → serves_client x f ≡ true → is_initiator x.config.role ≡ false
serving_parts x f t = first (is_initiator x.config.role) (is_established f.connection.phase) t
  where
    first : (a b : Bool) → (not a && b) ≡ true → a ≡ false
    first false b e = refl
    first true b e = absurd (true≢false (sym e))

establish_all : (x : Around) (f : Facts) (id : List ℕ) (timestamp keepalive : ℕ) (next : Option ℕ) (expected : Expected) (credentials : List ℕ) → is_closing f.connection.phase ≡ false
    → AllRows (Goes x f (session (establish id timestamp keepalive next expected credentials))) (establish_rows_in x f id timestamp keepalive next expected credentials)
establish_all x f id timestamp keepalive next expected credentials yet = by_place (awaits_client x f) (serves_client x f) refl
  where
    i : Incoming
    i = session (establish id timestamp keepalive next expected credentials)

    P : Outcome → Type 0
    P = Goes x f i

    refused : (code : ℕ) → P (rejects (establishment_reject id timestamp code [] ∷ []) f)
    refused code = staying x f i (establishment_reject id timestamp code []) yet refl refl refl refl refl refl refl refl refl refl

    by_place : (p q : Bool) → awaits_client x f ≡ p → AllRows P (if p then establish_rows x f id timestamp keepalive next expected credentials else if q then established_again_rows x f id timestamp else [])
    by_place true q waits = (
      λ _. refused 2,
      λ _. (
        λ _. refused 5,
        λ _. (
          λ _. refused 6,
          λ _. announcement_rows_even x f f i 4 next (acknowledges x timestamp keepalive expected) (acknowledging x f id timestamp keepalive next expected credentials waits),
        ),
      ),
    )
    by_place false true waits = (λ _. refused 2, λ _. (λ _. refused 3, λ _. tt))
    by_place false false waits = tt

-- Establish was acknowledged
acknowledged : (x : Around) (f : Facts) (id : List ℕ) (timestamp keepalive : ℕ) (next : Option ℕ) (e : Expected) → is_establishing f.connection.phase ≡ true
    → Goes x f (session (establishment_ack id timestamp keepalive next e)) (reached x keepalive e (announced x f next))
acknowledged x f id timestamp keepalive next e now =
    let a : Announced = announced x f next in
    let r : Facts = returned x a.facts e in
    let s = silent_both (told_skip a.skipped) (told_return x a.facts e) (skip_silent a.skipped) (return_silent x a.facts e) in
    let same = same_on f a.facts r (announced_same x f next) (returned_same x a.facts e) in
    let q = s.no_finish in
    let w2 = s.no_answer in
    let k = s.no_request in
    let l = s.no_restart in
    let z = s.no_shutting in
    opens_done x f (session (establishment_ack id timestamp keepalive next e)) (skip_of a.skipped) (told_skip a.skipped ++ told_return x a.facts e) (established r (min 60000 (max 100 keepalive))) (λ _. establishing_begun f.connection.phase now) (not_established f.connection.phase now)
    (record { phase = refl; mine = same.mine; theirs = same.theirs; requester = same.requester; next = same.next }) refl
    s.no_finish s.no_answer s.no_request s.no_restart s.no_shutting
    (λ _. (s.no_opening, refl)) (λ _ not. absurd (true≢false (sym (or_right (is_negotiating f.connection.phase) (is_establishing f.connection.phase) now) ∙ not))) refl refl refl refl
  where
    or_right : (b c : Bool) → c ≡ true → (b || c) ≡ true
    or_right true c t = refl
    or_right false c t = t

-- what a message makes of a request
counts_message : (q : Request) → unanswered_of (request_is.after_message q) ≡ unanswered_of q
counts_message requests.Nothing = refl
counts_message (requests.Asked range) = refl
counts_message (requests.Coming range next left) = refl

counts_sequence : (q : Request) → unanswered_of (request_is.after_sequence q) ≡ unanswered_of q
counts_sequence requests.Nothing = refl
counts_sequence (requests.Asked range) = refl
counts_sequence (requests.Coming range next left) = refl

-- and of what comes in
abbrev next_by : Bool → ℕ → ℕ
next_by b next = if b then next + 1 else next

message_fills : (r : Receiving) (q : Request) → is_some (request_is.message_fault q) ≡ false → Fills r.next q → ComesBy r q
    → Fills (next_by (receiver_is.number r == r.next) r.next) (request_is.after_message q)
message_fills r requests.Nothing whole fills comes = tt
message_fills r (requests.Asked range) whole fills comes = by_test (receiver_is.number r == r.next) refl
  where
    live : receiver_is.number r ≡ r.live
    live = ap (λ (o : Option ℕ). unwrap_or o r.live) comes.0

    by_test : (b : Bool) → (receiver_is.number r == r.next) ≡ b → Fills (next_by b r.next) (requests.Asked range)
    by_test true e =
        let at = eqb-true (receiver_is.number r) r.next e in
        let a = fills.0 in
        let some = fills.1 in
        let low = comes.1 in
        absurd (omega (arith, at, a, some, low, live))
    by_test false e = fills
message_fills r (requests.Coming range number left) whole fills comes = by_test (receiver_is.number r == r.next) refl
  where
    here : receiver_is.number r ≡ number
    here = ap (λ (o : Option ℕ). unwrap_or o r.live) comes

    some : 1 ≤ left
    some = by_zero (left == 0) refl whole
      where
        by_zero : (b : Bool) → (left == 0) ≡ b → is_some {T = BadStart} (if b then Some (record { expected = 0; found = number }) else None) ≡ false → 1 ≤ left
        by_zero true e w = absurd (true≢false w)
        by_zero false e w = let other : left ≢ 0 = λ zero. true≢false (sym (eq-eqb left 0 zero) ∙ e) in omega (arith, other)

    by_test : (b : Bool) → (receiver_is.number r == r.next) ≡ b → Fills (next_by b r.next) (requests.Coming range (number + 1) (left - 1))
    by_test true e = let a = fills.0 in let low = fills.1 in let more = some in (omega (arith, a, more), omega (arith, low))
    by_test false e =
        let a = fills.0 in
        let low = fills.1 in
        let more = some in
        let at = here in
        let other : receiver_is.number r ≢ r.next = λ same. true≢false (sym (eq-eqb (receiver_is.number r) r.next same) ∙ e) in
        (omega (arith, a, more), omega (arith, low, at, other))

-- a message is counted
counted_even : (initiates : Bool) (f : Facts) (payload : List ℕ) → is_closing f.connection.phase ≡ false → is_some (request_is.message_fault f.connection.requester) ≡ false → Evens initiates f (application payload) (counted f) []
counted_even initiates f payload yet whole = record {
  finishes = finishes_stay f (counted f) (application payload) [] refl refl refl refl refl refl;
  asks = asks_stay f (counted f) (application payload) [] (counts_message f.connection.requester) refl refl refl refl;
  opens = opens_stay initiates f (counted f) (application payload) [] yet refl refl refl;
  fills = λ fills comes _. message_fills f.connection.receiver f.connection.requester whole fills comes;
}

counts_open : (q : Request) → is_some (request_is.outstanding q) ≡ true → is_some (request_is.outstanding (request_is.after_message q)) ≡ true
counts_open requests.Nothing h = h
counts_open (requests.Asked range) h = h
counts_open (requests.Coming range next left) h = h

counted_waits : (x : Around) (f : Facts) (payload : List ℕ) → WaitsOn x f (application payload) (counted f)
counted_waits x f payload = waits_so x f (counted f) (application payload) refl (λ h. counts_open f.connection.requester h)

-- and one that is applied
delivered_even : (initiates : Bool) (f : Facts) (payload : List ℕ) (n : ℕ) → is_closing f.connection.phase ≡ false → is_some (request_is.message_fault f.connection.requester) ≡ false
    → Evens initiates f (application payload) (awaiting (counted f) n) []
delivered_even initiates f payload n yet whole = record {
  finishes = finishes_stay f (awaiting (counted f) n) (application payload) [] refl refl refl refl refl refl;
  asks = asks_stay f (awaiting (counted f) n) (application payload) [] (counts_message f.connection.requester) refl refl refl refl;
  opens = opens_stay initiates f (awaiting (counted f) n) (application payload) [] yet refl refl refl;
  fills = λ fills comes _. message_fills f.connection.receiver f.connection.requester whole fills comes;
}

taking : (x : Around) (f : Facts) (payload : List ℕ) → is_closing f.connection.phase ≡ false → is_some (request_is.message_fault f.connection.requester) ≡ false → (s : Seen) → Goes x f (application payload) (taken_as x (counted f) s)
taking x f payload yet whole (Deliver n) = going x f (awaiting (counted f) (n + 1)) (application payload) (acts.Apply n) [] (delivered_even (is_initiator x.config.role) f payload (n + 1) yet whole) (λ _. counted_waits x f payload)
taking x f payload yet whole (Hold n) =
    let k = going (holding_too x n) f (counted f) (application payload) acts.Nothing [] (counted_even (is_initiator x.config.role) f payload yet whole) (λ _. counted_waits (holding_too x n) f payload) in
    record { evens = k.evens; waits = λ none early. k.waits none (λ comes. absurd (omega (arith, comes))) }
taking x f payload yet whole (Gap n) = going x f (counted f) (application payload) acts.Nothing [] (counted_even (is_initiator x.config.role) f payload yet whole) (λ _. counted_waits x f payload)
taking x f payload yet whole (Repeat n) = going x f (counted f) (application payload) acts.Nothing [] (counted_even (is_initiator x.config.role) f payload yet whole) (λ _. counted_waits x f payload)

message_rows : (x : Around) (f : Facts) (payload : List ℕ) → is_closing f.connection.phase ≡ false → AllRows (Goes x f (application payload)) (rows_of x f (application payload))
message_rows x f payload yet =
    let i = application payload in
    all_within (Goes x f i) (is_established f.connection.phase) _ (λ _. (
      λ _. stops x f f i _ _,
      λ _. (
        λ _. stops x f f i _ _,
        λ _. (
          λ _. stops x f f i _ _,
          λ _. (
            λ _. passing x f (awaiting f (f.recorded.inbox_next + 1)) i (acts.Apply f.recorded.inbox_next) [] yet (record { phase = refl; mine = refl; theirs = refl; requester = refl; next = refl }) none_silent (spare_entry payload),
            λ _. (
              λ bad. some_bad x f i (request_is.message_fault f.connection.requester) bad,
              λ whole. (λ _. taking x f payload yet whole (receiver_is.seen f.connection.receiver), λ _. tt),
            ),
          ),
        ),
      ),
    ))

-- a finish is answered that waited for a gap
waited : (p : PeerFinish) (b : Bool) → (is_some (awaits_gap p) && b) ≡ true → (read_of p ≡ 1) × (answered_of p ≡ 0)
waited peer.Open b e = absurd (true≢false (sym e))
waited (peer.Read last) b e = (refl, refl)
waited (peer.Exchanged last) b e = absurd (true≢false (sym e))

-- a Sequence ends what comes in
sequence_fills : (next : ℕ) (q : Request) → Fills next q → Fills next (request_is.after_sequence q)
sequence_fills next requests.Nothing h = tt
sequence_fills next (requests.Asked range) h = h
sequence_fills next (requests.Coming range number left) h = tt

-- where it does not, a gap is left, and is asked for, as the connection is not soft any more
unfilled_open : (x : Around) (f : Facts) (next : Option ℕ) → is_filled x (announced x f next).facts ≡ false → gap_to_ask x (announced x f next).facts ≡ None → read (announced x f next).facts ≡ 1 → HasRequest (announced x f next).facts
unfilled_open x f next = by_flow (is_recoverable x.config.peer_flow) (is_idempotent x.config.peer_flow)
  where
    some_read : (p : PeerFinish) → read_of p ≡ 1 → is_some (awaits_gap p) ≡ true
    some_read peer.Open e = absurd (omega (arith, e))
    some_read (peer.Read last) e = refl
    some_read (peer.Exchanged last) e = absurd (omega (arith, e))

    by_gap : (reads asked : Bool) (gap : Option Range) → reads ≡ true → (reads && is_none gap) ≡ false → (if asked then None else gap) ≡ None → asked ≡ true
    by_gap true true gap r unfilled none = refl
    by_gap true false None r unfilled none = absurd (true≢false unfilled)
    by_gap true false (Some gap) r unfilled none = absurd cc
    by_gap false asked gap r unfilled none = absurd (true≢false (sym r))

    by_flow : (r i : Bool) → (is_some (awaits_gap (chosen f (unwrap_or next 0) r i).facts.connection.peer_finish) && is_none (if r then receiver_is.gap x.held (chosen f (unwrap_or next 0) r i).facts.connection.receiver else None)) ≡ false
        → (if (chosen f (unwrap_or next 0) r i).facts.connection.soft || is_some (request_is.outstanding (chosen f (unwrap_or next 0) r i).facts.connection.requester) then None else (if r then receiver_is.gap x.held (chosen f (unwrap_or next 0) r i).facts.connection.receiver else None)) ≡ None
        → read_of (chosen f (unwrap_or next 0) r i).facts.connection.peer_finish ≡ 1 → is_some (request_is.outstanding (chosen f (unwrap_or next 0) r i).facts.connection.requester) ≡ true
    by_flow true i unfilled none now = by_gap (is_some (awaits_gap f.connection.peer_finish)) (is_some (request_is.outstanding f.connection.requester)) (receiver_is.gap x.held (receiver_is.announced f.connection.receiver (unwrap_or next 0))) (some_read f.connection.peer_finish now) unfilled none
    by_flow false true unfilled none now = absurd (true≢false (sym (ap (λ b. b && true) (some_read f.connection.peer_finish now)) ∙ unfilled))
    by_flow false false unfilled none now = absurd (true≢false (sym (ap (λ b. b && true) (some_read f.connection.peer_finish now)) ∙ unfilled))

sequence_all : (x : Around) (f : Facts) (next : ℕ) → is_closing f.connection.phase ≡ false
    → Goes x f (session (sequence next)) (sequence_follows x (requesting f (request_is.after_sequence f.connection.requester)) next (announced x (requesting f (request_is.after_sequence f.connection.requester)) (Some next)))
sequence_all x f next yet =
    by_row P (is_past_finish x g next) (breaks x g (AfterFinish (unwrap_or (peer_last g) 0) next)) (sequence_taken x a)
    (λ _. stops x f g i _ _)
    (λ _. by_row P (is_filled x a.facts) (answers_finish x a.facts last) (goes_on x (skip_of a.skipped) (told_skip a.skipped) a.facts) answers goes)
  where
    i : Incoming
    i = session (sequence next)

    P : Outcome → Type 0
    P = Goes x f i

    g : Facts
    g = requesting f (request_is.after_sequence f.connection.requester)

    a : Announced
    a = announced x g (Some next)

    last : ℕ
    last = unwrap_or (awaits_gap a.facts.connection.peer_finish) 0

    s : Same g a.facts
    s = announced_same x g (Some next)

    count : unanswered a.facts ≡ unanswered f
    count = ap unanswered_of s.requester ∙ counts_sequence f.connection.requester

    filled : Fills f.connection.receiver.next f.connection.requester → Fills a.facts.connection.receiver.next a.facts.connection.requester
    filled h = fills_same g a.facts s (sequence_fills f.connection.receiver.next f.connection.requester h)

    answers : is_filled x a.facts ≡ true → P (answers_finish x a.facts last)
    answers is =
        let w = waited a.facts.connection.peer_finish (is_none (gap_of x a.facts)) is in
        let one = sym (ap read_of s.theirs) ∙ w.0 in
        let none = sym (ap answered_of s.theirs) ∙ w.1 in
        let mine = ap told_of s.mine in
        let done = ap exchanged_of s.mine in
        let h : Facts = peer_finished a.facts (peer.Exchanged last) (Some (unwrap_or a.facts.recorded.peer_last last)) in
        going x f h i (finish_act a.facts.recorded.peer_last last) (finished_receiving x.config.session ∷ []) (record {
          finishes = record { read = λ _. omega (arith, one); told = omega (arith, mine); quiet = refl; answered = λ _. omega (arith, none); exchanged = omega (arith, done) };
          asks = asks_stay f h i (finished_receiving x.config.session ∷ []) count refl refl refl refl;
          opens = opens_stay (is_initiator x.config.role) f h i (finished_receiving x.config.session ∷ []) yet s.phase refl refl;
          fills = λ h _ _. filled h;
        }) (λ _ _ _ now. absurd (omega (arith, now)))

    goes : is_filled x a.facts ≡ false → P (goes_on x (skip_of a.skipped) (told_skip a.skipped) a.facts)
    goes unfilled =
        let k = skip_silent a.skipped in
        going x f a.facts i (skip_of a.skipped) (told_skip a.skipped) (record {
          finishes = finishes_stay f a.facts i (told_skip a.skipped) s.mine s.theirs k.no_finish k.no_answer refl refl;
          asks = asks_stay f a.facts i (told_skip a.skipped) count k.no_request k.no_restart refl refl;
          opens = opens_stay (is_initiator x.config.role) f a.facts i (told_skip a.skipped) yet s.phase k.no_opening k.no_shutting;
          fills = λ h _ _. filled h;
        }) (λ none _ _ now. unfilled_open x g (Some next) unfilled none now)

-- a request is answered by a retransmission, or by a reject
requested : (x : Around) (f : Facts) (asked : Message) (id : List ℕ) (timestamp : ℕ) (r : Result Range RetransmitCode) → is_closing f.connection.phase ≡ false
    → finish asked ≡ 0 → answer asked ≡ 0 → restart asked ≡ 0 → request asked ≡ 1 → opening asked ≡ 0 → Goes x f (session asked) (request_answered x f id timestamp r)
requested x f asked id timestamp (Ok range) yet a b c one o =
    let ms : List Message = retransmission x.config.session range.from timestamp range.count ∷ [] in
    going x f (serves f (Some range)) (session asked) acts.Nothing ms (record {
      finishes = finishes_stay f (serves f (Some range)) (session asked) ms refl refl refl refl a b;
      asks = record { once = λ _. omega (arith, c); served = omega (arith, one) };
      opens = opens_stay (is_initiator x.config.role) f (serves f (Some range)) (session asked) ms yet refl (sym o) refl;
      fills = λ h _ _. h;
    }) (λ _. waits_same x f (serves f (Some range)) (session asked) refl refl)
requested x f asked id timestamp (Err code) yet a b c one o =
    let m : Message = retransmit_reject id timestamp _ [] in
    record {
      evens = λ _. record {
        finishes = finishes_stay f f (session asked) (m ∷ []) refl refl refl refl a b;
        asks = record { once = λ _. omega (arith, c); served = omega (arith, one) };
        opens = opens_stay (is_initiator x.config.role) f f (session asked) (m ∷ []) yet refl (sym o) refl;
        fills = λ h _ _. h;
      };
      waits = λ _. waits_same x f f (session asked) refl refl;
    }

-- a Retransmission answers the request that is open
restart_takes : (q : Request) (next count : ℕ) → 1 ≤ unanswered_of q → unanswered_of (request_is.started q next count) + 1 ≡ unanswered_of q
restart_takes requests.Nothing next count h = omega (arith, h)
restart_takes (requests.Asked range) next count h = refl
restart_takes (requests.Coming range number left) next count h = omega (arith, h)

restart_fills : (from : ℕ) (q : Request) (next count : ℕ) → q ≡ requests.Asked (record { from = next; count = count }) → Fills from q → Fills from (request_is.started q next count)
restart_fills from requests.Nothing next count is fills = absurd cc
restart_fills from (requests.Asked range) next count is fills =
    let same : range ≡ record { from = next; count = count } = cc is in
    let start = ap (λ (r : Range). r.from) same in
    let many = ap (λ (r : Range). r.count) same in
    let at = fills.0 in
    (omega (arith, start, many), omega (arith, at, start))
restart_fills from (requests.Coming range number left) next count is fills = absurd cc

restart_open : (q : Request) (next count : ℕ) → is_some (request_is.outstanding q) ≡ true → is_some (request_is.outstanding (request_is.started q next count)) ≡ true
restart_open requests.Nothing next count h = h
restart_open (requests.Asked range) next count h = refl
restart_open (requests.Coming range number left) next count h = refl

restarting : (x : Around) (f : Facts) (id : List ℕ) (next timestamp count : ℕ) → is_closing f.connection.phase ≡ false → Goes x f (session (retransmission id next timestamp count)) (accepts x [] (restarted f next count))
restarting x f id next timestamp count yet =
    let i = session (retransmission id next timestamp count) in
    going x f (restarted f next count) i acts.Nothing [] (record {
      finishes = finishes_stay f (restarted f next count) i [] refl refl refl refl refl refl;
      asks = record { once = λ h. let k = restart_takes f.connection.requester next count h in omega (arith, k); served = refl };
      opens = opens_stay (is_initiator x.config.role) f (restarted f next count) i [] yet refl refl refl;
      fills = λ fills _ is. restart_fills f.connection.receiver.next f.connection.requester next count is fills;
    }) (λ _. waits_so x f (restarted f next count) i refl (λ h. restart_open f.connection.requester next count h))

-- a finish that comes waits for a gap, or is answered
finishing : (x : Around) (f : Facts) (id : List ℕ) (told : Option ℕ) (last : ℕ) → is_closing f.connection.phase ≡ false → Goes x f (session (finished_sending id told)) (finished x f last)
finishing x f id told last yet =
    by_row (Goes x f i) (is_some (gap_of x f)) (accepts x [] (peer_finished f (peer.Read last) f.recorded.peer_last)) (answers_finish x f last)
    (λ gap. going x f (peer_finished f (peer.Read last) f.recorded.peer_last) i acts.Nothing [] (record {
      finishes = record { read = λ h. omega (arith, h); told = omega arith; quiet = refl; answered = λ h. omega (arith, h); exchanged = omega arith };
      asks = asks_stay f (peer_finished f (peer.Read last) f.recorded.peer_last) i [] refl refl refl refl refl;
      opens = opens_stay (is_initiator x.config.role) f (peer_finished f (peer.Read last) f.recorded.peer_last) i [] yet refl refl refl;
      fills = λ h _ _. h;
    }) (λ none early _ _. by_tests f.connection.soft (is_some (request_is.outstanding f.connection.requester)) (gap_of x f) gap none (λ soft. early refl soft)))
    (λ _. going x f (peer_finished f (peer.Exchanged last) (Some (unwrap_or f.recorded.peer_last last))) i (finish_act f.recorded.peer_last last) ms (record {
      finishes = record { read = λ h. omega (arith, h); told = omega arith; quiet = refl; answered = λ h. omega (arith, h); exchanged = omega arith };
      asks = asks_stay f (peer_finished f (peer.Exchanged last) (Some (unwrap_or f.recorded.peer_last last))) i ms refl refl refl refl refl;
      opens = opens_stay (is_initiator x.config.role) f (peer_finished f (peer.Exchanged last) (Some (unwrap_or f.recorded.peer_last last))) i ms yet refl refl refl;
      fills = λ h _ _. h;
    }) (λ _ _ _ now. absurd (omega (arith, now))))
  where
    by_tests : (soft asked : Bool) (gap : Option Range) → is_some gap ≡ true → (if soft || asked then None else gap) ≡ None → (soft ≡ true → gap ≡ None) → asked ≡ true
    by_tests soft true gap some none early = refl
    by_tests true false gap some none early = absurd (true≢false (sym some ∙ ap (λ (r : Option Range). is_some r) (early refl)))
    by_tests false false gap some none early = absurd (true≢false (sym some ∙ ap (λ (r : Option Range). is_some r) none))

    i : Incoming
    i = session (finished_sending id told)

    ms : List Message
    ms = finished_receiving x.config.session ∷ []

-- the answer to the own finish
told_is : (q : OwnFinish) → is_told q ≡ true → (told_of q ≡ 1) × (exchanged_of q ≡ 0)
told_is own.Open e = absurd (true≢false (sym e))
told_is own.Told e = (refl, refl)
told_is own.Exchanged e = absurd (true≢false (sym e))

exchanging : (x : Around) (f : Facts) (id : List ℕ) → is_closing f.connection.phase ≡ false → is_told f.connection.own_finish ≡ true → Goes x f (session (finished_receiving id)) (accepts x [] (own_finishing f own.Exchanged))
exchanging x f id yet is =
    let i = session (finished_receiving id) in
    let t = told_is f.connection.own_finish is in
    let one = t.0 in
    let none = t.1 in
    going x f (own_finishing f own.Exchanged) i acts.Nothing [] (record {
      finishes = record { read = λ _. omega arith; told = omega (arith, one); quiet = refl; answered = λ _. omega arith; exchanged = omega (arith, none) };
      asks = asks_stay f (own_finishing f own.Exchanged) i [] refl refl refl refl refl;
      opens = opens_stay (is_initiator x.config.role) f (own_finishing f own.Exchanged) i [] yet refl refl refl;
      fills = λ h _ _. h;
    }) (λ _. waits_same x f (own_finishing f own.Exchanged) i refl refl)

session_rows : (x : Around) (f : Facts) (m : Message) → is_closing f.connection.phase ≡ false → AllRows (Goes x f (session m)) (rows_of x f (session m))
session_rows x f (negotiate id timestamp flow credentials) yet =
    let i = session (negotiate id timestamp flow credentials) in
    all_within (Goes x f i) (awaits_client x f) _ (λ _. (
      λ _. staying x f i _ yet refl refl refl refl refl refl refl refl refl refl,
      λ _. (
        λ _. staying x f i _ yet refl refl refl refl refl refl refl refl refl refl,
        λ _. (
          λ _. staying x f i _ yet refl refl refl refl refl refl refl refl refl refl,
          λ _. (
            λ _. staying x f i _ yet refl refl refl refl refl refl refl refl refl refl,
            λ _. (
              λ _. let ms : List Message = negotiation_response x.config.session timestamp (flow_code x.config.own_flow) [] ∷ [] in
                  going x f (as_negotiated f) i acts.Negotiated ms (even_opening (is_initiator x.config.role) f (as_negotiated f) i ms yet (record { phase = refl; mine = refl; theirs = refl; requester = refl; next = refl }) refl refl refl refl refl refl refl refl refl refl) (λ _. waits_same x f (as_negotiated f) i refl refl),
              λ _. tt,
            ),
          ),
        ),
      ),
    ))
session_rows x f (negotiation_response id timestamp flow credentials) yet =
    let i = session (negotiation_response id timestamp flow credentials) in
    own_rows (Goes x f i) x f 2 id _ (λ e. stops x f f i _ _) (all_within (Goes x f i) (is_negotiating f.connection.phase) _ (λ now. (
      λ _. stops x f f i _ _,
      λ _. (
        λ _. opens_on x f i (if f.recorded.negotiated then acts.Nothing else acts.Negotiated) (opening_establish x f) phases.Establishing (in_phase (as_negotiated f) phases.Establishing) (negotiating_begun f.connection.phase now) (not_negotiated f.connection.phase now) refl refl refl refl refl refl refl refl refl refl refl refl refl refl,
        λ _. tt,
      ),
    )))
session_rows x f (negotiation_reject id timestamp code reason) yet =
    let i = session (negotiation_reject id timestamp code reason) in
    own_rows (Goes x f i) x f 3 id _ (λ e. stops x f f i _ _) (all_within (Goes x f i) (is_negotiating f.connection.phase) _ (λ now. (
      λ _. opens_on x f i (if f.recorded.negotiated then acts.Nothing else acts.Negotiated) (opening_establish x f) phases.Establishing (in_phase (as_negotiated f) phases.Establishing) (negotiating_begun f.connection.phase now) (not_negotiated f.connection.phase now) refl refl refl refl refl refl refl refl refl refl refl refl refl refl,
      λ _. (λ _. stops x f f i _ _, λ _. tt),
    )))
session_rows x f (establish id timestamp keepalive next expected credentials) yet = establish_all x f id timestamp keepalive next expected credentials yet
session_rows x f (establishment_ack id timestamp keepalive next expected) yet =
    let i = session (establishment_ack id timestamp keepalive next expected) in
    own_rows (Goes x f i) x f 5 id _ (λ e. stops x f f i _ _) (all_within (Goes x f i) (is_establishing f.connection.phase) _ (λ now.
    announcement_rows_even x f f i 5 next (reached x keepalive expected) (acknowledged x f id timestamp keepalive next expected now)))
session_rows x f (establishment_reject id timestamp code reason) yet =
    let i = session (establishment_reject id timestamp code reason) in
    own_rows (Goes x f i) x f 6 id _ (λ e. stops x f f i _ _) (all_within (Goes x f i) (is_establishing f.connection.phase) _ (λ now. (
      λ _. opens_on x f i acts.Nothing (opening_negotiate x) phases.Negotiating (in_phase f phases.Negotiating) (establishing_begun f.connection.phase now) (not_established f.connection.phase now) refl refl refl refl refl refl refl refl refl refl refl refl refl refl,
      λ _. (λ _. stops x f f i _ _, λ _. tt),
    )))
session_rows x f (sequence next) yet =
    let i = session (sequence next) in
    let g : Facts = requesting f (request_is.after_sequence f.connection.requester) in
    all_within (Goes x f i) (is_established f.connection.phase) _ (λ _. (
      λ bad. some_bad x f i (request_is.sequence_fault f.connection.requester) bad,
      λ _. announcement_rows_even x f g i 7 (Some next) (sequence_follows x g next) (sequence_all x f next yet),
    ))
session_rows x f unsequenced_heartbeat yet = (λ _. passing x f f (session unsequenced_heartbeat) acts.Nothing [] yet (still f) none_silent (record { no_finish = refl; no_answer = refl; no_request = refl; no_restart = refl; no_opening = refl }), λ _. tt)
session_rows x f (retransmit_request id timestamp first count) yet =
    let i = session (retransmit_request id timestamp first count) in
    all_within (Goes x f i) (is_established f.connection.phase) _ (λ _. (
      λ _. stops x f f i _ _,
      λ _. (λ _. requested x f (retransmit_request id timestamp first count) id timestamp (judged (is_own x id) (is_recoverable x.config.own_flow) first count f.recorded.sent) yet refl refl refl refl refl, λ _. tt),
    ))
session_rows x f (retransmission id next timestamp count) yet =
    let i = session (retransmission id next timestamp count) in
    own_rows (Goes x f i) x f 10 id _ (λ e. stops x f f i _ _) (all_within (Goes x f i) (is_established f.connection.phase) _ (λ _. (
      λ bad. some_bad x f i (request_is.start_fault (request_is.outstanding f.connection.requester) next count) bad,
      λ _. (λ _. restarting x f id next timestamp count yet, λ _. tt),
    )))
session_rows x f (retransmit_reject id timestamp code reason) yet =
    let i = session (retransmit_reject id timestamp code reason) in
    own_rows (Goes x f i) x f 11 id _ (λ e. stops x f f i _ _) (all_within (Goes x f i) (is_established f.connection.phase) _ (λ _. (λ _. stops x f f i _ _, λ _. tt)))
session_rows x f (applied first count) yet = (λ _. passing x f f (session (applied first count)) acts.Nothing [] yet (still f) none_silent (record { no_finish = refl; no_answer = refl; no_request = refl; no_restart = refl; no_opening = refl }), λ _. tt)
session_rows x f (not_applied first count) yet =
    let i = session (not_applied first count) in
    let spare : Spare i = record { no_finish = refl; no_answer = refl; no_request = refl; no_restart = refl; no_opening = refl } in
    (λ _. passing x f f i (acts.Told first count) [] yet (still f) none_silent spare, λ _. (λ _. passing x f f i acts.Nothing [] yet (still f) none_silent spare, λ _. tt))
session_rows x f (finished_sending id last) yet =
    let i = session (finished_sending id last) in
    own_rows (Goes x f i) x f 14 id _ (λ e. stops x f f i _ _) (all_within (Goes x f i) (is_established f.connection.phase) _ (λ _. (
      λ some. some_refused x f f i (finish_fault x f last) some,
      λ _. (λ _. finishing x f id last (finished_last x last) yet, λ _. tt),
    )))
session_rows x f (finished_receiving id) yet =
    let i = session (finished_receiving id) in
    own_rows (Goes x f i) x f 15 id _ (λ e. stops x f f i _ _) (all_within (Goes x f i) (is_established f.connection.phase) _ (λ _. (λ is. exchanging x f id yet is, λ _. tt)))
session_rows x f (terminate id code reason) yet =
    let i = session (terminate id code reason) in
    let answer : Row = row true (ends x f 1 (endings.PeerTerminated code)) in
    let rows : AllRows (Goes x f i) (answer ∷ []) = (λ _. stops x f f i _ _, λ _. tt) in
    own_rows (Goes x f i) x f 16 id (answer ∷ []) (λ e. stops x f f i _ _) rows

each_row : (x : Around) (f : Facts) (i : Incoming) → is_closing f.connection.phase ≡ false → AllRows (Goes x f i) (rows_of x f i)
each_row x f (application payload) yet = message_rows x f payload yet
each_row x f (session m) yet = session_rows x f m yet
each_row x f wrong_order yet = (λ _. stops x f f wrong_order _ _, λ _. tt)
each_row x f too_short yet = (λ _. stops x f f too_short _ _, λ _. tt)
each_row x f (unknown template) yet = (λ _. stops x f f (unknown template) _ _, λ _. tt)

and_left : (a b : Bool) → (a && b) ≡ true → a ≡ true
and_left true b e = refl
and_left false b e = absurd (true≢false (sym e))

answer_even : (x : Around) (f : Facts) (i : Incoming) → is_closing f.connection.phase ≡ false → Goes x f i (answer_of x f i)
answer_even x f i yet = all_rows (Goes x f i) (not_in_phase x f (template_of i)) (rows_of x f i) (stops x f f i _ _) (each_row x f i yet)

goes_even : (x : Around) (f : Facts) (i : Incoming) → is_closing f.connection.phase ≡ false → Goes x f i (reply_of x f i)
goes_even x f i yet =
    by_row (Goes x f i) (is_closing f.connection.phase && not (terminates x i)) (ignores f) (answer_of x f i)
    (λ deaf. absurd (true≢false (sym (and_left (is_closing f.connection.phase) (not (terminates x i)) deaf) ∙ yet)))
    (λ _. answer_even x f i yet)

pub replies_even : RepliesEven
replies_even x f i yet none = let g = goes_even x f i yet in (g.evens none, g.waits none)

-- an end that has begun to close ignores all but a Terminate, which ends its connection
abbrev Stays : Facts → Outcome → Type 0
Stays f o = o.ending ≡ None → Fills o.next.connection.receiver.next o.next.connection.requester

terminated_stays : (x : Around) (f : Facts) (i : Incoming) → terminates x i ≡ true → Stays f (answer_of x f i)
terminated_stays x f (session (terminate id code reason)) t =
    all_rows (Stays f) (not_in_phase x f 16) (rows_of x f (session (terminate id code reason))) (λ over. absurd cc) (λ _ over. absurd cc, λ _. (λ _ over. absurd cc, λ _. tt))
terminated_stays x f (session (negotiate id timestamp flow credentials)) t = absurd (true≢false (sym t))
terminated_stays x f (session (negotiation_response id timestamp flow credentials)) t = absurd (true≢false (sym t))
terminated_stays x f (session (negotiation_reject id timestamp code reason)) t = absurd (true≢false (sym t))
terminated_stays x f (session (establish id timestamp keepalive next expected credentials)) t = absurd (true≢false (sym t))
terminated_stays x f (session (establishment_ack id timestamp keepalive next expected)) t = absurd (true≢false (sym t))
terminated_stays x f (session (establishment_reject id timestamp code reason)) t = absurd (true≢false (sym t))
terminated_stays x f (session (sequence next)) t = absurd (true≢false (sym t))
terminated_stays x f (session unsequenced_heartbeat) t = absurd (true≢false (sym t))
terminated_stays x f (session (retransmit_request id timestamp first count)) t = absurd (true≢false (sym t))
terminated_stays x f (session (retransmission id next timestamp count)) t = absurd (true≢false (sym t))
terminated_stays x f (session (retransmit_reject id timestamp code reason)) t = absurd (true≢false (sym t))
terminated_stays x f (session (applied first count)) t = absurd (true≢false (sym t))
terminated_stays x f (session (not_applied first count)) t = absurd (true≢false (sym t))
terminated_stays x f (session (finished_sending id last)) t = absurd (true≢false (sym t))
terminated_stays x f (session (finished_receiving id)) t = absurd (true≢false (sym t))
terminated_stays x f (application payload) t = absurd (true≢false (sym t))
terminated_stays x f wrong_order t = absurd (true≢false (sym t))
terminated_stays x f too_short t = absurd (true≢false (sym t))
terminated_stays x f (unknown template) t = absurd (true≢false (sym t))

pub fills_stay : FillsStay
fills_stay x f i fills comes is = by_row (Stays f) (is_closing f.connection.phase && not (terminates x i)) (ignores f) (answer_of x f i) (λ _ _. fills) (λ heard. by_phase (is_closing f.connection.phase) refl (terminates x i) refl heard)
  where
    by_phase : (closing : Bool) → is_closing f.connection.phase ≡ closing → (over : Bool) → terminates x i ≡ over → (closing && not over) ≡ false → Stays f (answer_of x f i)
    by_phase false yet over t heard = λ none. ((answer_even x f i yet).evens none).fills fills comes is
    by_phase true now true t heard = terminated_stays x f i t
    by_phase true now false t heard = absurd (true≢false heard)
