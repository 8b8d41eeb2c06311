-- How a reply goes with the number that the peer expects, row by row: it tells the one that its inbox awaits, is soft from an Establish on
-- that tells one, and goes back to the number that it was told alone.
use Rattle.std.proofs.Common.{◌≡◌, ◌⊎◌, inl, inr, ℕ, ◌+◌, ◌-◌, ◌≤◌, ◌==◌, ◌&&◌, min, max, nat_le, not, Bool, true, false, if◌then◌else◌, List, [], ◌∷◌, ◌++◌, Option, Some, None, refl, sym, ap, ◌∙◌, arith, true≢false, eqb-true}
use Rattle.std.specs.Prelude.{is_some, unwrap_or, Result, Ok, Err}
use Rattle.std.specs.List.{AllByRecursion}
use Rattle.std.proofs.lemmas.Bool.{and_parts}
use Rattle.fixp_msgs.specs.declared.numbering.Range.{Range}
use Rattle.fixp_msgs.specs.Flow.{flow_code}
use Rattle.fixp_msgs.specs.declared.messages.Expected.{Expected}
use Rattle.fixp_msgs.specs.declared.messages.Expected.TheVariants as expects
use Rattle.fixp_msgs.specs.Message.{Message, negotiate, negotiation_response, negotiation_reject, establish, establishment_ack, establishment_reject, sequence, unsequenced_heartbeat, retransmit_request, retransmission, retransmit_reject, applied, not_applied, finished_sending, finished_receiving, terminate}
use Rattle.flow_recover.specs.declared.numbers.Seen.{Seen}
use Rattle.flow_recover.specs.declared.numbers.Seen.TheVariants.{Deliver, Hold, Gap, Repeat}
use Rattle.flow_recover.specs.Receiving as receiver_is
use Rattle.flow_retrans.specs.declared.request.Request.{Request}
use Rattle.flow_retrans.specs.declared.request.Request.TheVariants as requests
use Rattle.flow_retrans.specs.declared.requester.BadStart.{BadStart}
use Rattle.flow_retrans.specs.declared.judging.RetransmitCode.{RetransmitCode}
use Rattle.flow_retrans.specs.Judging.{judged}
use Rattle.flow_retrans.specs.Requests as request_is
use Rattle.fixp_shake.specs.declared.config.EndConfig.{EndConfig}
use Rattle.fixp_shake.specs.declared.phase.Phase.TheVariants as phases
use Rattle.fixp_shake.specs.declared.violation.Violation.{Violation}
use Rattle.fixp_shake.specs.Flows.{is_recoverable, is_idempotent}
use Rattle.fixp_shake.specs.Phases.{is_idle, is_negotiating, is_establishing, is_established, is_closing, is_shaken}
use Rattle.fixp_replies.specs.declared.act.Act.{Act}
use Rattle.fixp_replies.specs.declared.act.Act.TheVariants as acts
use Rattle.fixp_replies.specs.declared.act.Ending.{Ending}
use Rattle.fixp_replies.specs.declared.act.Ending.TheVariants as endings
use Rattle.fixp_replies.specs.declared.facts.Facts.{Facts}
use Rattle.fixp_replies.specs.declared.facts.OwnFinish.TheVariants as own
use Rattle.fixp_replies.specs.declared.facts.PeerFinish.TheVariants as peer
use Rattle.fixp_replies.specs.Incoming.{Incoming, session}
use Rattle.fixp_replies.specs.Facts.{Around, is_initiator, is_own, in_phase, receiving, requesting, firm, serves, negotiated as as_negotiated, awaiting, gap_to_ask, having_asked, announced_number, awaits_gap, gap_of, holding_too}
use Rattle.fixp_replies.specs.Outcomes.{Outcome, Row, row, within, goes_on, accepts, rejects, ignores, ends_with, ends, breaks, not_in_phase, request_for, skip_of, told_skip, opening_negotiate, opening_establish}
use Rattle.fixp_replies.specs.Announcing.{Announced, jumped_over, announced, announcement_fault, refuses}
use Rattle.fixp_replies.specs.Expecting.{is_newer, is_present, number_in, told_next, answers_next, takes, softened}
use Rattle.fixp_replies.specs.Handshake.{awaits_client, serves_client, established, acknowledged_by, acknowledges, establish_rows, established_again_rows, shaken, reached, establishment_ack_rows}
use Rattle.fixp_replies.specs.Flowing.{bad_retransmission, counted, taken_as, peer_finished, answers_finish, is_filled, is_past_finish, sequence_follows, sequence_taken, restarted, finished_last, finish_fault, finished}
use Rattle.fixp_replies.specs.Serving.{request_answered, own_finishing}
use Rattle.fixp_replies.specs.Replies.{of_session, reply_of, rows_of, terminates, template_of, answer_of}
use Rattle.fixp_machine.proofs.Rows.{AllRows, by_row, all_rows, all_within, own_rows}
use Rattle.fixp_machine.proofs.Tests.{not_opened, not_false}
use Rattle.fixp_machine.proofs.Expecting.{taken, returned_if}
use Rattle.connection_laws.specs.Writing.{Piece, said, entry, said_all}
use Rattle.two_ends.specs.Reading.{incoming_of}
use Rattle.honest_ends.proofs.Deciding.{announced_all}
use Rattle.honest_ends.proofs.Returning.{by_taking, by_reaching, starting, reaching}
use Rattle.honest_ends.specs.Numbered.{ToldFirst, ToldBack, TellsNext, ReturnsFirst}

-- a message has a word on the number that its writer expects, and tells this one
abbrev pub Presents : Piece → Type 0
Presents (said (establish id timestamp keepalive next expected credentials)) = is_present expected ≡ true
Presents p = ⊥

abbrev pub IsTold : Piece → ℕ → Type 0
IsTold (said (establish id timestamp keepalive next expected credentials)) n = expected ≡ expects.Number n
IsTold (said (establishment_ack id timestamp keepalive next expected)) n = expected ≡ expects.Number n
IsTold p n = ⊥

-- an acceptor becomes soft at an Establish
abbrev pub Softens : Around → Facts → Piece → Type 0
Softens x f p = (is_shaken f.connection.phase ≡ false) × (is_initiator x.config.role ≡ false) × Presents p

-- what holds of a reply to a message
pub record Marks (x : Around) (f : Facts) (p : Piece) (o : Outcome) : Type 0 where
  pub tells : AllByRecursion (TellsNext x.config o.next) (said_all o.written)
  pub soft : o.next.connection.soft ≡ true → (f.connection.soft ≡ true) ⊎ Softens x f p
  pub back : (o.next.recorded.sent ≡ f.recorded.sent) ⊎ IsTold p (o.next.recorded.sent + 1)

tells_same : (c : EndConfig) (g : Facts) (q : Request) (p : Piece) → TellsNext c g p → TellsNext c (requesting g q) p
tells_same c g q (said (establish id timestamp keepalive next (expects.Number n) credentials)) h = h
tells_same c g q (said (establish id timestamp keepalive next expects.Absent credentials)) h = tt
tells_same c g q (said (establish id timestamp keepalive next expects.Null credentials)) h = tt
tells_same c g q (said (establishment_ack id timestamp keepalive next (expects.Number n))) h = h
tells_same c g q (said (establishment_ack id timestamp keepalive next expects.Absent)) h = h
tells_same c g q (said (establishment_ack id timestamp keepalive next expects.Null)) h = h
tells_same c g q _ h = tt

tells_asking : (x : Around) (g : Facts) (ms : List Message) (r : Option Range) → AllByRecursion (TellsNext x.config g) (said_all ms) → AllByRecursion (TellsNext x.config (having_asked g r)) (said_all (ms ++ request_for x r))
tells_asking x g [] None a = tt
tells_asking x g [] (Some r) a = (tt, tt)
tells_asking x g (m ∷ ms) None a = (a.0, tells_asking x g ms None a.1)
tells_asking x g (m ∷ ms) (Some r) a = (tells_same x.config g (requests.Asked (request_is.first_of_gap r)) (said m) a.0, tells_asking x g ms (Some r) a.1)

-- the connection goes on
going : (x : Around) (f g : Facts) (p : Piece) (act : Act) (written : List Message) → AllByRecursion (TellsNext x.config g) (said_all written) → (g.connection.soft ≡ true → (f.connection.soft ≡ true) ⊎ Softens x f p)
    → (g.recorded.sent ≡ f.recorded.sent) ⊎ IsTold p (g.recorded.sent + 1) → Marks x f p (goes_on x act written g)
going x f g p act written tells soft back = by_gap (gap_to_ask x g)
  where
    by_gap : (r : Option Range) → Marks x f p (record { act = act; written = written ++ request_for x r; next = having_asked g r; ending = None; accepted = true; holds = None })
    by_gap None = record { tells = tells_asking x g written None tells; soft = soft; back = back }
    by_gap (Some r) = record { tells = tells_asking x g written (Some r) tells; soft = soft; back = back }

-- where softness does not come, nor what was sent move
passing : (x : Around) (f g : Facts) (p : Piece) (act : Act) (written : List Message) → AllByRecursion (TellsNext x.config g) (said_all written) → (g.connection.soft ≡ true → f.connection.soft ≡ true)
    → g.recorded.sent ≡ f.recorded.sent → Marks x f p (goes_on x act written g)
passing x f g p act written tells soft same = going x f g p act written tells (λ s. inl (soft s)) (inl same)

resting : (x : Around) (f : Facts) (p : Piece) (o : Outcome) → AllByRecursion (TellsNext x.config o.next) (said_all o.written) → (o.next.connection.soft ≡ true → f.connection.soft ≡ true) → o.next.recorded.sent ≡ f.recorded.sent → Marks x f p o
resting x f p o tells soft same = record { tells = tells; soft = λ s. inl (soft s); back = inl same }

staying : (x : Around) (f : Facts) (p : Piece) (written : List Message) → AllByRecursion (TellsNext x.config f) (said_all written) → Marks x f p (rejects written f)
staying x f p written tells = resting x f p (rejects written f) tells (λ s. s) refl

ending : (x : Around) (f g : Facts) (p : Piece) (code : ℕ) (e : Ending) → (g.connection.soft ≡ true → f.connection.soft ≡ true) → g.recorded.sent ≡ f.recorded.sent → Marks x f p (ends x g code e)
ending x f g p code e soft same = resting x f p (ends x g code e) (tt, tt) soft same

rejecting : (x : Around) (f : Facts) (p : Piece) (e : Ending) → Marks x f p (ends_with x f [] e)
rejecting x f p e = resting x f p (ends_with x f [] e) tt (λ s. s) refl

bad : (x : Around) (f : Facts) (p : Piece) (b : Option BadStart) → Marks x f p (bad_retransmission x f b)
bad x f p None = staying x f p [] tt
bad x f p (Some b) = ending x f f p 2 _ (λ s. s) refl

refusing : (x : Around) (f g : Facts) (p : Piece) (v : Option Violation) → (g.connection.soft ≡ true → f.connection.soft ≡ true) → g.recorded.sent ≡ f.recorded.sent → Marks x f p (refuses x g v)
refusing x f g p None soft same = resting x f p (ignores g) tt soft same
refusing x f g p (Some v) soft same = ending x f g p 2 _ soft same

skip_tells : (c : EndConfig) (g : Facts) (s : Option Range) → AllByRecursion (TellsNext c g) (said_all (told_skip s))
skip_tells c g None = tt
skip_tells c g (Some s) = (tt, tt)

abbrev chosen : Facts → ℕ → Bool → Bool → Announced
chosen f n recoverable idempotent =
    if recoverable then record { facts = firm (receiving f (receiver_is.announced f.connection.receiver n)); skipped = None }
    else if idempotent then record { facts = awaiting f n; skipped = jumped_over f.recorded.inbox_next n }
    else record { facts = f; skipped = None }

-- an announcement does not soften
record Calm (f g : Facts) : Type 0 where
  soft : g.connection.soft ≡ true → f.connection.soft ≡ true
  sent : g.recorded.sent ≡ f.recorded.sent

calm : (x : Around) (f : Facts) (next : Option ℕ) → Calm f (announced x f next).facts
calm x f next = by_flow (is_recoverable x.config.peer_flow) (is_idempotent x.config.peer_flow)
  where
    by_flow : (r i : Bool) → Calm f (chosen f (unwrap_or next 0) r i).facts
    by_flow true i = record { soft = λ s. absurd (true≢false (sym s)); sent = refl }
    by_flow false true = record { soft = λ s. s; sent = refl }
    by_flow false false = record { soft = λ s. s; sent = refl }

taking : (x : Around) (f : Facts) (p : Piece) (s : Seen) → Marks x f p (taken_as x (counted f) s)
taking x f p (Deliver n) = passing x f (awaiting (counted f) (n + 1)) p (acts.Apply n) [] tt (λ s. absurd (true≢false (sym s))) refl
taking x f p (Hold n) =
    let k = passing (holding_too x n) f (counted f) p acts.Nothing [] tt (λ s. absurd (true≢false (sym s))) refl in record { tells = k.tells; soft = k.soft; back = k.back }
taking x f p (Gap n) = passing x f (counted f) p acts.Nothing [] tt (λ s. absurd (true≢false (sym s))) refl
taking x f p (Repeat n) = passing x f (counted f) p acts.Nothing [] tt (λ s. absurd (true≢false (sym s))) refl

abbrev behind : Facts → Facts
behind f = requesting f (request_is.after_sequence f.connection.requester)

following : (x : Around) (f : Facts) (p : Piece) (next : ℕ) → Marks x f p (sequence_follows x (behind f) next (announced x (behind f) (Some next)))
following x f p next =
    let g = behind f in
    let a = announced x g (Some next) in
    let c = calm x g (Some next) in
    by_row (Marks x f p) (is_past_finish x g next) (breaks x g _) (sequence_taken x a)
    (λ _. ending x f g p 2 _ (λ s. s) refl)
    (λ _. by_row (Marks x f p) (is_filled x a.facts) (answers_finish x a.facts (unwrap_or (awaits_gap a.facts.connection.peer_finish) 0)) (goes_on x (skip_of a.skipped) (told_skip a.skipped) a.facts)
    (λ _. passing x f (peer_finished a.facts _ _) p _ (finished_receiving x.config.session ∷ []) (tt, tt) c.soft c.sent)
    (λ _. passing x f a.facts p (skip_of a.skipped) (told_skip a.skipped) (skip_tells x.config a.facts a.skipped) c.soft c.sent))

answered : (x : Around) (f : Facts) (p : Piece) (id : List ℕ) (timestamp : ℕ) (r : Result Range RetransmitCode) → Marks x f p (request_answered x f id timestamp r)
answered x f p id timestamp (Ok range) = passing x f (serves f (Some range)) p acts.Nothing (retransmission x.config.session range.from timestamp range.count ∷ []) (tt, tt) (λ s. s) refl
answered x f p id timestamp (Err code) = staying x f p _ (tt, tt)

finishing : (x : Around) (f : Facts) (p : Piece) (n : ℕ) → Marks x f p (finished x f n)
finishing x f p n = by_row (Marks x f p) (is_some (gap_of x f)) (accepts x [] (peer_finished f (peer.Read n) f.recorded.peer_last)) (answers_finish x f n)
    (λ _. passing x f (peer_finished f (peer.Read n) f.recorded.peer_last) p acts.Nothing [] tt (λ s. s) refl)
    (λ _. passing x f (peer_finished f (peer.Exchanged n) _) p _ (finished_receiving x.config.session ∷ []) (tt, tt) (λ s. s) refl)

-- an initiator tells the number that its inbox awaits
pub opening_tells : (x : Around) (f g : Facts) → g.recorded.inbox_next ≡ f.recorded.inbox_next → is_shaken g.connection.phase ≡ false → ToldFirst x.config g (told_next x f)
opening_tells x f g same before = by_tests (is_newer x.config) (is_recoverable x.config.peer_flow) refl
  where
    by_tests : (n r : Bool) → is_newer x.config ≡ n → ToldFirst x.config g (if not n then expects.Absent else if r then expects.Number f.recorded.inbox_next else expects.Null)
    by_tests true true newer = (sym same, newer, before)
    by_tests true false newer = tt
    by_tests false r newer = tt

shaking : (x : Around) (f : Facts) (p : Piece) → Marks x f p (shaken x f)
shaking x f p = passing x f (in_phase (as_negotiated f) phases.Establishing) p _ (opening_establish x f ∷ []) (opening_tells x f (in_phase (as_negotiated f) phases.Establishing) refl refl, tt) (λ s. s) refl

-- and an acceptor in its acknowledgement, where it is soft from then on
ack_tells : (x : Around) (e : Expected) (g : Facts) (keepalive : ℕ) → ToldBack x.config (established (softened x e g) keepalive) (answers_next x e g)
ack_tells x e g keepalive = by_tests (is_newer x.config) (is_present e) (is_recoverable x.config.peer_flow) refl
  where
    by_tests : (n p r : Bool) → is_newer x.config ≡ n
        → ToldBack x.config (established (record g { connection = record g.connection { soft = n && p && r } }) keepalive) (if p then (if not n then expects.Absent else if r then expects.Number g.recorded.inbox_next else expects.Null) else expects.Absent)
    by_tests true true true newer = (refl, newer, refl)
    by_tests true true false newer = refl
    by_tests true false r newer = refl
    by_tests false true r newer = refl
    by_tests false false r newer = refl

presented : (n p r : Bool) → (n && p && r) ≡ true → p ≡ true
presented true true r e = refl
presented true false r e = absurd (true≢false (sym e))
presented false p r e = absurd (true≢false (sym e))

-- a number that is taken is told
number_told : (e : Expected) → 1 ≤ number_in e → e ≡ expects.Number (number_in e - 1 + 1)
number_told expects.Absent low = absurd (omega (arith, low))
number_told expects.Null low = absurd (omega (arith, low))
number_told (expects.Number n) low = ap (λ (k : ℕ). expects.Number k) (omega (arith, low))

acknowledging : (x : Around) (f : Facts) (id : List ℕ) (timestamp keepalive : ℕ) (next : Option ℕ) (e : Expected) (credentials : List ℕ) → is_shaken f.connection.phase ≡ false → is_initiator x.config.role ≡ false
    → Marks x f (said (establish id timestamp keepalive next e credentials)) (acknowledges x timestamp keepalive e (announced x f next))
acknowledging x f id timestamp keepalive next e credentials before role = by_taking (λ g. Marks x f p (acknowledged_by x timestamp keepalive e a.skipped g)) x a.facts e
    (λ k. writing (record a.facts { recorded = record a.facts.recorded { sent = number_in e - 1 } }) (inr (number_told e k.low)))
    (writing a.facts (inl c.sent))
  where
    p : Piece
    p = said (establish id timestamp keepalive next e credentials)

    a : Announced
    a = announced x f next

    c : Calm f a.facts
    c = calm x f next

    writing : (g : Facts) → (g.recorded.sent ≡ f.recorded.sent) ⊎ IsTold p (g.recorded.sent + 1) → Marks x f p (acknowledged_by x timestamp keepalive e a.skipped g)
    writing g back = going x f (established (softened x e g) keepalive) p (skip_of a.skipped) (establishment_ack x.config.session timestamp x.config.keepalive (announced_number x g) (answers_next x e g) ∷ told_skip a.skipped)
        (ack_tells x e g keepalive, skip_tells x.config (established (softened x e g) keepalive) a.skipped)
        (λ s. inr (before, role, presented (is_newer x.config) (is_present e) (is_recoverable x.config.peer_flow) s)) back

-- what an initiator makes of an acknowledgement
reaching_so : (x : Around) (f : Facts) (id : List ℕ) (timestamp keepalive : ℕ) (next : Option ℕ) (e : Expected) (interval : ℕ) (t same : Bool) → takes x (announced x f next).facts e ≡ t
    → Marks x f (said (establishment_ack id timestamp keepalive next e)) (reaching x interval e (announced x f next) t same)
reaching_so x f id timestamp keepalive next e interval t same is = by_test t is
  where
    p : Piece
    p = said (establishment_ack id timestamp keepalive next e)

    a : Announced
    a = announced x f next

    c : Calm f a.facts
    c = calm x f next

    tells : (g : Facts) (s : Option Range) (t same : Bool) → AllByRecursion (TellsNext x.config g) (said_all (told_skip s ++ starting t same e))
    tells g None true true = tt
    tells g None true false = (tt, tt)
    tells g None false same = tt
    tells g (Some s) true true = (tt, tt)
    tells g (Some s) true false = (tt, (tt, tt))
    tells g (Some s) false same = (tt, tt)

    by_test : (b : Bool) → takes x a.facts e ≡ b → Marks x f p (goes_on x (skip_of a.skipped) (told_skip a.skipped ++ starting t same e) (established (returned_if b a.facts e) interval))
    by_test true is = let g : Facts = established (returned_if true a.facts e) interval in
        going x f g p (skip_of a.skipped) (told_skip a.skipped ++ starting t same e) (tells g a.skipped t same) (λ s. inl (c.soft s)) (inr (number_told e (taken x a.facts e is).low))
    by_test false is = let g : Facts = established a.facts interval in
        going x f g p (skip_of a.skipped) (told_skip a.skipped ++ starting t same e) (tells g a.skipped t same) (λ s. inl (c.soft s)) (inl c.sent)

own_within : (x : Around) (f : Facts) (p : Piece) (template : ℕ) (id : List ℕ) (condition : Bool) (rows : List Row) → (condition ≡ true → AllRows (Marks x f p) rows) → AllRows (Marks x f p) (of_session x f template id (within condition rows))
own_within x f p template id condition rows all = own_rows (Marks x f p) x f template id (within condition rows) (λ e. ending x f f p 2 e (λ s. s) refl) (all_within (Marks x f p) condition rows all)

choosing : (P : Outcome → Type 0) (b c : Bool) (first second : List Row) → (b ≡ true → AllRows P first) → AllRows P second → AllRows P (if b then first else if c then second else [])
choosing P true c first second p q = p refl
choosing P false true first second p q = q
choosing P false false first second p q = tt

each_message : (x : Around) (f : Facts) (m : Message) → AllRows (Marks x f (said m)) (rows_of x f (session m))
each_message x f (negotiate id timestamp flow credentials) = let p = said (negotiate id timestamp flow credentials) in all_within (Marks x f p) (awaits_client x f) _ (λ _. (
  λ _. staying x f p _ (tt, tt),
  λ _. (
    λ _. staying x f p _ (tt, tt),
    λ _. (
      λ _. staying x f p _ (tt, tt),
      λ _. (
        λ _. staying x f p _ (tt, tt),
        λ _. (λ _. passing x f (as_negotiated f) p acts.Negotiated (negotiation_response x.config.session timestamp (flow_code x.config.own_flow) [] ∷ []) (tt, tt) (λ s. s) refl, λ _. tt),
      ),
    ),
  ),
))
each_message x f (negotiation_response id timestamp flow credentials) = let p = said (negotiation_response id timestamp flow credentials) in
    own_within x f p 2 id (is_negotiating f.connection.phase) _ (λ _. (λ _. ending x f f p 2 _ (λ s. s) refl, λ _. (λ _. shaking x f p, λ _. tt)))
each_message x f (negotiation_reject id timestamp code reason) = let p = said (negotiation_reject id timestamp code reason) in
    own_within x f p 3 id (is_negotiating f.connection.phase) _ (λ _. (λ _. shaking x f p, λ _. (λ _. rejecting x f p _, λ _. tt)))
each_message x f (establish id timestamp keepalive next expected credentials) = let p = said (establish id timestamp keepalive next expected credentials) in
    choosing (Marks x f p) (awaits_client x f) (serves_client x f) (establish_rows x f id timestamp keepalive next expected credentials) (established_again_rows x f id timestamp) (λ waits. (
      λ _. staying x f p _ (tt, tt),
      λ _. (
        λ _. staying x f p _ (tt, tt),
        λ _. (
          λ _. staying x f p _ (tt, tt),
          λ _. announced_all (Marks x f p) x f 4 next (acknowledges x timestamp keepalive expected) (λ _. refusing x f f p (announcement_fault x f 4 next) (λ s. s) refl)
              (let two = and_parts (not (is_initiator x.config.role)) (is_idle f.connection.phase) waits in
              acknowledging x f id timestamp keepalive next expected credentials (not_opened f.connection.phase two.1) (not_false (is_initiator x.config.role) two.0)),
        ),
      ),
    ))
    (λ _. staying x f p _ (tt, tt), λ _. (λ _. staying x f p _ (tt, tt), λ _. tt))
each_message x f (establishment_ack id timestamp keepalive next expected) = let p = said (establishment_ack id timestamp keepalive next expected) in
    own_within x f p 5 id (is_establishing f.connection.phase) _ (λ _.
    announced_all (Marks x f p) x f 5 next (reached x keepalive expected) (λ _. refusing x f f p (announcement_fault x f 5 next) (λ s. s) refl)
    (by_reaching (Marks x f p) x keepalive expected (announced x f next) (λ t same is _. reaching_so x f id timestamp keepalive next expected (min 60000 (max 100 keepalive)) t same is)))
each_message x f (establishment_reject id timestamp code reason) = let p = said (establishment_reject id timestamp code reason) in
    own_within x f p 6 id (is_establishing f.connection.phase) _ (λ _.
    (λ _. passing x f (in_phase f phases.Negotiating) p acts.Nothing (opening_negotiate x ∷ []) (tt, tt) (λ s. s) refl, λ _. (λ _. rejecting x f p _, λ _. tt)))
each_message x f (sequence next) = let p = said (sequence next) in all_within (Marks x f p) (is_established f.connection.phase) _ (λ _. (
  λ _. bad x f p (request_is.sequence_fault f.connection.requester),
  λ _. announced_all (Marks x f p) x (behind f) 7 (Some next) (sequence_follows x (behind f) next) (λ _. refusing x f (behind f) p (announcement_fault x (behind f) 7 (Some next)) (λ s. s) refl) (following x f p next),
))
each_message x f unsequenced_heartbeat = (λ _. passing x f f (said unsequenced_heartbeat) acts.Nothing [] tt (λ s. s) refl, λ _. tt)
each_message x f (retransmit_request id timestamp first count) = let p = said (retransmit_request id timestamp first count) in all_within (Marks x f p) (is_established f.connection.phase) _ (λ _. (
  λ _. ending x f f p 4 _ (λ s. s) refl,
  λ _. (λ _. answered x f p id timestamp (judged (is_own x id) (is_recoverable x.config.own_flow) first count f.recorded.sent), λ _. tt),
))
each_message x f (retransmission id next timestamp count) = let p = said (retransmission id next timestamp count) in
    own_within x f p 10 id (is_established f.connection.phase) _ (λ _. (
      λ _. bad x f p (request_is.start_fault (request_is.outstanding f.connection.requester) next count),
      λ _. (λ _. passing x f (restarted f next count) p acts.Nothing [] tt (λ s. s) refl, λ _. tt),
    ))
each_message x f (retransmit_reject id timestamp code reason) = let p = said (retransmit_reject id timestamp code reason) in
    own_within x f p 11 id (is_established f.connection.phase) _ (λ _. (λ _. ending x f f p 2 _ (λ s. s) refl, λ _. tt))
each_message x f (applied first count) = (λ _. passing x f f (said (applied first count)) acts.Nothing [] tt (λ s. s) refl, λ _. tt)
each_message x f (not_applied first count) = let p = said (not_applied first count) in
    (λ _. passing x f f p (acts.Told first count) [] tt (λ s. s) refl, λ _. (λ _. passing x f f p acts.Nothing [] tt (λ s. s) refl, λ _. tt))
each_message x f (finished_sending id last) = let p = said (finished_sending id last) in
    own_within x f p 14 id (is_established f.connection.phase) _ (λ _. (λ _. refusing x f f p (finish_fault x f last) (λ s. s) refl, λ _. (λ _. finishing x f p (finished_last x last), λ _. tt)))
each_message x f (finished_receiving id) = let p = said (finished_receiving id) in
    own_within x f p 15 id (is_established f.connection.phase) _ (λ _. (λ _. passing x f (own_finishing f own.Exchanged) p acts.Nothing [] tt (λ s. s) refl, λ _. tt))
each_message x f (terminate id code reason) = let p = said (terminate id code reason) in
    own_rows (Marks x f p) x f 16 id (row true (ends x f 1 (endings.PeerTerminated code)) ∷ []) (λ e. ending x f f p 2 e (λ s. s) refl) (λ _. ending x f f p 1 _ (λ s. s) refl, λ _. tt)

each_row : (x : Around) (f : Facts) (p : Piece) → AllRows (Marks x f p) (rows_of x f (incoming_of p))
each_row x f (said m) = each_message x f m
each_row x f (entry payload) = let p = entry payload in all_within (Marks x f p) (is_established f.connection.phase) _ (λ _. (
  λ _. ending x f f p 2 _ (λ s. s) refl,
  λ _. (
    λ _. ending x f f p 2 _ (λ s. s) refl,
    λ _. (
      λ _. ending x f f p 2 _ (λ s. s) refl,
      λ _. (
        λ _. passing x f (awaiting f (f.recorded.inbox_next + 1)) p (acts.Apply f.recorded.inbox_next) [] tt (λ s. s) refl,
        λ _. (
          λ _. bad x f p (request_is.message_fault f.connection.requester),
          λ _. (λ _. taking x f p (receiver_is.seen f.connection.receiver), λ _. tt),
        ),
      ),
    ),
  ),
))

-- of each reply to a message that may be under way
pub marks : (x : Around) (f : Facts) (p : Piece) → Marks x f p (reply_of x f (incoming_of p))
marks x f p =
    by_row (Marks x f p) (is_closing f.connection.phase && not (terminates x (incoming_of p))) (ignores f) (answer_of x f (incoming_of p))
    (λ _. staying x f p [] tt)
    (λ _. all_rows (Marks x f p) (not_in_phase x f (template_of (incoming_of p))) (rows_of x f (incoming_of p)) (ending x f f p 2 _ (λ s. s) refl) (each_row x f p))

-- An initiator that takes the number of an acknowledgement begins with it, or it is the one that it announced
abbrev pub BeginsWith : ℕ → Facts → Outcome → Type 0
BeginsWith n f o = is_shaken o.next.connection.phase ≡ true → ReturnsFirst n (said_all o.written) ⊎ (n ≡ f.recorded.sent + 1)

returns_behind : (x : Around) (n : ℕ) (ms : List Message) (r : Option Range) → ReturnsFirst n (said_all ms) → ReturnsFirst n (said_all (ms ++ request_for x r))
returns_behind x n [] r h = absurd h
returns_behind x n (m ∷ ms) r (inl h) = inl h
returns_behind x n (m ∷ ms) r (inr h) = inr (h.0, returns_behind x n ms r h.1)

pub ack_begins : (x : Around) (f : Facts) (id : List ℕ) (timestamp keepalive : ℕ) (next : Option ℕ) (n : ℕ) → is_shaken f.connection.phase ≡ false
    → takes x f (expects.Number n) ≡ true → BeginsWith n f (reply_of x f (session (establishment_ack id timestamp keepalive next (expects.Number n))))
ack_begins x f id timestamp keepalive next n before is =
    by_row (BeginsWith n f) (is_closing f.connection.phase && true) (ignores f) (answer_of x f i) (λ _ done. absurd (true≢false (sym done ∙ before)))
    (λ _. all_rows (BeginsWith n f) (not_in_phase x f 5) (rows_of x f i) (λ done. absurd (true≢false (sym done ∙ before)))
    (own_rows (BeginsWith n f) x f 5 id _ (λ e done. absurd (true≢false (sym done ∙ before))) (all_within (BeginsWith n f) (is_establishing f.connection.phase) (establishment_ack_rows x f keepalive next e) (λ _.
    announced_all (BeginsWith n f) x f 5 next (reached x keepalive e) (λ some. refused (announcement_fault x f 5 next)) (by_reaching (BeginsWith n f) x keepalive e a begins)))))
  where
    e : Expected
    e = expects.Number n

    i : Incoming
    i = session (establishment_ack id timestamp keepalive next e)

    a : Announced
    a = announced x f next

    refused : (v : Option Violation) → BeginsWith n f (refuses x f v)
    refused None = λ done. absurd (true≢false (sym done ∙ before))
    refused (Some v) = λ done. absurd (true≢false (sym done ∙ before))

    taken_here : takes x a.facts e ≡ true
    taken_here = ap (λ (k : ℕ). is_newer x.config && is_recoverable x.config.own_flow && nat_le 1 n && nat_le n (k + 1)) (calm x f next).sent ∙ is

    first : (s : Option Range) → ReturnsFirst n (said_all (told_skip s ++ sequence n ∷ []))
    first None = inl refl
    first (Some s) = inr (tt, inl refl)

    begins : (t same : Bool) → takes x a.facts e ≡ t → (n == a.facts.recorded.sent + 1) ≡ same → BeginsWith n f (reaching x (min 60000 (max 100 keepalive)) e a t same)
    begins true true took one = λ _. let k = eqb-true n (a.facts.recorded.sent + 1) one in let sent = (calm x f next).sent in inr (omega (arith, k, sent))
    begins true false took one = λ _. inl (returns_behind x n (told_skip a.skipped ++ sequence n ∷ []) _ (first a.skipped))
    begins false same took one = absurd (true≢false (sym taken_here ∙ took))
