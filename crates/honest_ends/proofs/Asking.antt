-- How a reply moves the requests for what is missing and the ranges that are sent again, row by row: one request is open at a time, and a
-- range is served in answer to one.
use Rattle.flow_recover.specs.Receiving.{gap_end}
use Rattle.std.proofs.Common.{◌≡◌, ◌⊎◌, inl, inr, ℕ, ◌+◌, ◌-◌, ◌≤◌, ◌==◌, ◌&&◌, ◌||◌, nat_lt, min, max, not, Bool, true, false, if◌then◌else◌, List, [], ◌∷◌, ◌++◌, Option, Some, None, refl, sym, ap, subst, ◌∙◌, arith, true≢false, append-nil, eqb-true}
use Rattle.std.specs.Prelude.{⊤, is_some, unwrap_or, IfSome, Result, Ok, Err}
use Rattle.std.specs.List.{AllByRecursion}
use Rattle.std.proofs.lemmas.Bool.{ltb-true, and_parts}
use Rattle.fixp_msgs.specs.declared.numbering.Range.{Range}
use Rattle.fixp_msgs.specs.declared.flow.Flow.{Flow}
use Rattle.fixp_msgs.specs.Flow.{flow_code}
use Rattle.fixp_msgs.specs.declared.messages.Expected.{Expected}
use Rattle.fixp_msgs.specs.Message.{Message, negotiate, negotiation_response, negotiation_reject, establish, establishment_ack, establishment_reject, sequence, unsequenced_heartbeat, retransmit_request, retransmission, retransmit_reject, applied, not_applied, finished_sending, finished_receiving, terminate}
use Rattle.flow_recover.specs.declared.numbers.Seen.{Seen}
use Rattle.flow_recover.specs.declared.numbers.Seen.TheVariants.{Deliver, Hold, Gap, Repeat}
use Rattle.flow_recover.specs.Receiving as receiver_is
use Rattle.flow_retrans.specs.declared.requester.BadStart.{BadStart}
use Rattle.flow_retrans.specs.declared.judging.RetransmitCode.{RetransmitCode}
use Rattle.flow_retrans.specs.Judging.{judged, request_limit}
use Rattle.flow_retrans.specs.Requests as request_is
use Rattle.fixp_shake.specs.declared.phase.Phase.TheVariants as phases
use Rattle.fixp_shake.specs.declared.violation.Violation.{Violation}
use Rattle.fixp_shake.specs.declared.violation.Violation.TheVariants.{AfterFinish, OtherSession}
use Rattle.fixp_shake.specs.Flows.{is_recoverable, is_idempotent, is_sequenced}
use Rattle.fixp_shake.specs.Phases.{is_idle, is_negotiating, is_establishing, is_established, is_closing, is_shaken}
use Rattle.fixp_replies.specs.declared.act.Act.{Act}
use Rattle.fixp_replies.specs.declared.act.Act.TheVariants as acts
use Rattle.fixp_replies.specs.declared.act.Ending.{Ending}
use Rattle.fixp_replies.specs.declared.act.Ending.TheVariants as endings
use Rattle.fixp_replies.specs.declared.facts.Facts.{Facts}
use Rattle.fixp_replies.specs.declared.facts.OwnFinish.TheVariants as own
use Rattle.flow_retrans.specs.declared.request.Request.{Request}
use Rattle.flow_retrans.specs.declared.request.Request.TheVariants as requests
use Rattle.fixp_replies.specs.declared.facts.PeerFinish.TheVariants as peer
use Rattle.fixp_replies.specs.Incoming.{application, session}
use Rattle.fixp_replies.specs.Facts.{Around, is_initiator, is_own, in_phase, receiving, requesting, firm, serves, negotiated as as_negotiated, awaiting, gap_to_ask, having_asked, announced_number, peer_last, awaits_gap, gap_of, holding_too}
use Rattle.fixp_replies.specs.Outcomes.{Outcome, Row, row, goes_on, accepts, rejects, ignores, ends_with, ends, breaks, not_in_phase, request_for, timestamp as timestamp_of, skip_of, told_skip, opening_negotiate, opening_establish}
use Rattle.fixp_replies.specs.Announcing.{Announced, jumped_over, announced, announcement_fault, refuses}
use Rattle.fixp_replies.specs.Handshake.{awaits_client, serves_client, established, acknowledges, negotiate_rows, establish_rows, established_again_rows, acknowledged_by, shaken, negotiation_response_rows, negotiation_reject_rows, establishment_ack_rows, reached, establishment_reject_rows}
use Rattle.fixp_replies.specs.Flowing.{bad_retransmission, counted, taken_as, peer_finished, answers_finish, is_filled, is_past_finish, sequence_follows, sequence_taken, restarted, finished_last, finish_fault, finished, application_rows, sequence_rows, retransmission_rows, retransmit_reject_rows, finished_sending_rows}
use Rattle.fixp_replies.specs.Serving.{request_answered, own_finishing, retransmit_request_rows, finished_receiving_rows}
use Rattle.fixp_replies.specs.Replies.{reply_of, rows_of, answer_of, of_session, terminates, template_of}
use Rattle.fixp_machine.proofs.Rows.{AllRows, by_row, all_rows, all_within, own_rows}
use Rattle.connection_laws.specs.Writing.{Piece, said, entry, said_all}
use Rattle.two_ends.specs.Reading.{incoming_of}
use Rattle.honest_ends.proofs.Deciding.{announced_all}
use Rattle.fixp_replies.specs.Expecting.{number_in, takes, answers_next, softened}
use Rattle.fixp_machine.proofs.Expecting.{IsTaken, taken}
use Rattle.fixp_machine.proofs.Tests.{not_opened, not_established}
use Rattle.honest_ends.proofs.Returning.{by_taking, by_reaching, reaching, may_go_back}
use Rattle.honest_ends.proofs.Running.{silent_runs, announced_runs}
use Rattle.honest_ends.proofs.Finishing.{total}
use Rattle.honest_ends.specs.Numbers.{Awaited, exactly, Allows, awaited_after, left_after, Runs, RunsBetween, RunsOn, ServesLater, served}

-- how many requests a message is, and how many answers to one, which begin a retransmission or reject it
abbrev pub request_in : Message → ℕ
request_in (retransmit_request id timestamp first count) = 1
request_in _ = 0

abbrev pub restart_in : Message → ℕ
restart_in (retransmission id next timestamp count) = 1
restart_in (retransmit_reject id timestamp code reason) = 1
restart_in _ = 0

abbrev pub asks : Piece → ℕ
asks (said m) = request_in m
asks (entry payload) = 0

abbrev pub restarts : Piece → ℕ
restarts (said m) = restart_in m
restarts (entry payload) = 0

-- whether a retransmission is under way behind a message, where it was before: Retransmission begins it, and Sequence ends it
abbrev pub turns_in : Message → Bool → Bool
turns_in (sequence next) b = false
turns_in (retransmission id next timestamp count) b = true
turns_in _ b = b

abbrev pub turns : Piece → Bool → Bool
turns (said m) b = turns_in m b
turns (entry payload) b = b

abbrev pub inside : Bool → List Piece → Bool
inside b [] = b
inside b (p ∷ ps) = inside (turns p b) ps

-- a request is open to which no Retransmission has come
abbrev pub unanswered_of : Request → ℕ
unanswered_of requests.Nothing = 0
unanswered_of (requests.Asked range) = 1
unanswered_of (requests.Coming range next left) = 0

abbrev pub unanswered : Facts → ℕ
unanswered f = unanswered_of f.connection.requester

abbrev pub coming : Facts → Bool
coming f = request_is.is_coming f.connection.requester

abbrev pub is_serving : Facts → Bool
is_serving f = is_some f.connection.serving

-- a request asks for some of what the inbox awaits, from its next number on
abbrev pub Requested : Facts → Piece → Type 0
Requested g (said (retransmit_request id timestamp first count)) =
    (g.connection.requester ≡ requests.Asked (record { from = first; count = count })) × (first ≡ g.connection.receiver.next) × (1 ≤ count) × (count ≤ request_limit)
Requested g _ = ⊤

-- what holds of each message that counts none holds of all, where all count none
pub all_none : (P : Piece → Type 0) (count : Piece → ℕ) → ((p : Piece) → count p ≡ 0 → P p) → (ps : List Piece) → total count ps ≡ 0 → AllByRecursion P ps
all_none P count f [] e = tt
all_none P count f (p ∷ ps) e = (f p (omega (arith, e)), all_none P count f ps (omega (arith, e)))

none_requested : (g : Facts) (p : Piece) → asks p ≡ 0 → Requested g p
none_requested g (said (retransmit_request id timestamp first count)) n = absurd (omega (arith, n))
none_requested g _ n = tt

-- at a message that is so many of each, and turns a retransmission so: what is written and what was open is open or was answered; a range
-- is served in answer to a request; the retransmission that comes in is the one under way; the one that goes out is the range served; and
-- what is written brings its reader to the next number
pub record Asks (x : Around) (f : Facts) (requested restarted : ℕ) (turn : Bool → Bool) (o : Outcome) : Type 0 where
  pub once : total asks (said_all o.written) + unanswered f ≤ unanswered o.next + restarted
  pub asked : total asks (said_all o.written) ≤ unanswered o.next
  pub resent : total restarts (said_all o.written) ≤ requested
  pub comes : o.ending ≡ None → is_closing f.connection.phase ≡ false → coming o.next ≡ turn (coming f)
  pub serves : inside (is_serving f) (said_all o.written) ≡ is_serving o.next
  pub goes : (total asks (said_all o.written) ≡ 0) ⊎ (o.ending ≡ None)
  pub runs : RunsOn x.config f (said_all o.written) o.next
  pub names : AllByRecursion (Requested o.next) (said_all o.written)
  pub keeps : restarted ≡ 0 → unanswered f ≡ 1 → o.next.connection.requester ≡ f.connection.requester

-- messages that are none of these, and of no number but the next live one
pub record Plain (flow : Flow) (c : ℕ) (ms : List Message) : Type 0 where
  pub no_request : total asks (said_all ms) ≡ 0
  pub no_restart : total restarts (said_all ms) ≡ 0
  pub no_turn : (b : Bool) → inside b (said_all ms) ≡ b
  pub no_number : (l : Option ℕ) → Runs flow (exactly c) l (said_all ms) c l

-- of the own flow, where these are the facts
abbrev Own : Around → Facts → List Message → Type 0
Own x f ms = Plain x.config.own_flow (f.recorded.sent + 1) ms

nothing : (flow : Flow) (c : ℕ) → Plain flow c []
nothing flow c = record { no_request = refl; no_restart = refl; no_turn = λ b. refl; no_number = λ l. (refl, refl) }

-- a gap is asked for where no request is open
record AsksGap (x : Around) (g : Facts) (r : Option Range) : Type 0 where
  sum : total asks (said_all (request_for x r)) + unanswered g ≡ unanswered (having_asked g r)
  same : coming (having_asked g r) ≡ coming g
  few : total asks (said_all (request_for x r)) ≤ unanswered (having_asked g r)
  serving : (having_asked g r).connection.serving ≡ g.connection.serving
  sent : (having_asked g r).recorded.sent ≡ g.recorded.sent
  receiver : (having_asked g r).connection.receiver ≡ g.connection.receiver
  names : AllByRecursion (Requested (having_asked g r)) (said_all (request_for x r))
  keeps : unanswered g ≡ 1 → (having_asked g r).connection.requester ≡ g.connection.requester

-- a gap begins at the number that the inbox awaits, and has some
abbrev IsGap : Facts → Range → Type 0
IsGap g r = (r.from ≡ g.connection.receiver.next) × (1 ≤ r.count)

first_few : (n : ℕ) → 1 ≤ n → (1 ≤ min request_limit n) × (min request_limit n ≤ request_limit)
first_few n h = (omega (arith, h), omega arith)

asks_gap : (x : Around) (g : Facts) (soft : Bool) (q : Request) (gap : Option Range) → g.connection.requester ≡ q → IfSome gap (IsGap g)
    → AsksGap x g (if soft || is_some (request_is.outstanding q) then None else gap)
asks_gap x g true q gap e is = record { sum = omega arith; same = refl; few = omega arith; serving = refl; sent = refl; receiver = refl; names = tt; keeps = λ _. refl }
asks_gap x g false requests.Nothing None e is = record { sum = omega arith; same = refl; few = omega arith; serving = refl; sent = refl; receiver = refl; names = tt; keeps = λ _. refl }
asks_gap x g false requests.Nothing (Some r) e is =
    let z = ap unanswered_of e in
    let k = first_few r.count is.1 in
    record {
      sum = omega (arith, z);
      same = sym (ap (λ q. request_is.is_coming q) e);
      few = omega arith;
      serving = refl;
      sent = refl;
      receiver = refl;
      names = ((refl, is.0, k.0, k.1), tt);
      keeps = λ one. absurd (omega (arith, z, one));
    }
asks_gap x g false (requests.Asked range) gap e is = record { sum = omega arith; same = refl; few = omega arith; serving = refl; sent = refl; receiver = refl; names = tt; keeps = λ _. refl }
asks_gap x g false (requests.Coming range next left) gap e is = record { sum = omega arith; same = refl; few = omega arith; serving = refl; sent = refl; receiver = refl; names = tt; keeps = λ _. refl }

gap_is : (x : Around) (g : Facts) → IfSome (gap_of x g) (IsGap g)
gap_is x g = by_flow (is_recoverable x.config.peer_flow) (nat_lt g.connection.receiver.next (gap_end x.held g.connection.receiver.live)) refl
  where
    positive : (n k : ℕ) → nat_lt n k ≡ true → 1 ≤ k - n
    positive n k t = let h = ltb-true n k t in omega (arith, h)

    by_flow : (rec b : Bool) → nat_lt g.connection.receiver.next (gap_end x.held g.connection.receiver.live) ≡ b
        → IfSome (if rec then (if b then Some (record { from = g.connection.receiver.next; count = gap_end x.held g.connection.receiver.live - g.connection.receiver.next }) else None) else None) (IsGap g)
    by_flow true true e = (refl, positive g.connection.receiver.next (gap_end x.held g.connection.receiver.live) e)
    by_flow true false e = tt
    by_flow false b e = tt

asking_behind : (x : Around) (ms : List Message) (r : Option Range) → total asks (said_all (ms ++ request_for x r)) ≡ total asks (said_all ms) + total asks (said_all (request_for x r))
asking_behind x [] r = omega arith
asking_behind x (m ∷ ms) r = let e = asking_behind x ms r in omega (arith, e)

restarts_behind : (x : Around) (ms : List Message) (r : Option Range) → total restarts (said_all (ms ++ request_for x r)) ≡ total restarts (said_all ms)
restarts_behind x [] None = refl
restarts_behind x [] (Some r) = refl
restarts_behind x (m ∷ ms) r = ap (λ n. restart_in m + n) (restarts_behind x ms r)

inside_behind : (x : Around) (b : Bool) (ms : List Message) (r : Option Range) → inside b (said_all (ms ++ request_for x r)) ≡ inside b (said_all ms)
inside_behind x b [] None = refl
inside_behind x b [] (Some r) = refl
inside_behind x b (m ∷ ms) r = inside_behind x (turns_in m b) ms r

runs_behind : (x : Around) (flow : Flow) (a : Awaited) (l : Option ℕ) (ms : List Message) (r : Option Range) (c : ℕ) (m : Option ℕ) → Runs flow a l (said_all ms) c m
    → Runs flow a l (said_all (ms ++ request_for x r)) c m
runs_behind x flow a l [] None c m h = h
runs_behind x flow a l [] (Some r) c m h = silent_runs flow (retransmit_request x.config.session (timestamp_of x) (request_is.first_of_gap r).from (request_is.first_of_gap r).count) a l l [] c m refl tt refl h
runs_behind x flow a l (k ∷ ms) r c m h = (h.0, runs_behind x flow (awaited_after flow (said k) a l) (left_after (said k) l) ms r c m h.1)

runs_asking : (x : Around) (f g : Facts) (ms : List Message) (r : Option Range) → RunsOn x.config f (said_all ms) g → RunsOn x.config f (said_all (ms ++ request_for x r)) (having_asked g r)
runs_asking x f g ms None (inl h) = inl (runs_behind x x.config.own_flow _ (served f.connection.serving) ms None _ _ h)
runs_asking x f g ms (Some r) (inl h) = inl (runs_behind x x.config.own_flow _ (served f.connection.serving) ms (Some r) _ _ h)
runs_asking x f g ms None (inr h) = inr (record { may = h.may; runs = λ a ok. runs_behind x x.config.own_flow a (served f.connection.serving) ms None _ _ (h.runs a ok) })
runs_asking x f g ms (Some r) (inr h) = inr (record { may = h.may; runs = λ a ok. runs_behind x x.config.own_flow a (served f.connection.serving) ms (Some r) _ _ (h.runs a ok) })

names_behind : (x : Around) (g : Facts) (ms : List Message) (r : Option Range) → AllByRecursion (Requested g) (said_all ms) → AllByRecursion (Requested g) (said_all (request_for x r))
    → AllByRecursion (Requested g) (said_all (ms ++ request_for x r))
names_behind x g [] r a b = b
names_behind x g (m ∷ ms) r a b = (a.0, names_behind x g ms r a.1 b)

going_on : (x : Around) (f g : Facts) (requested restarted : ℕ) (turn : Bool → Bool) (act : Act) (written : List Message)
    → total asks (said_all written) ≡ 0 → unanswered f ≤ unanswered g + restarted → (restarted ≡ 0 → unanswered f ≡ 1 → g.connection.requester ≡ f.connection.requester)
    → total restarts (said_all written) ≤ requested → coming g ≡ turn (coming f) → inside (is_serving f) (said_all written) ≡ is_serving g → RunsOn x.config f (said_all written) g
    → Asks x f requested restarted turn (goes_on x act written g)
going_on x f g requested restarted turn act written none u keeps resent comes serving runs =
    let gap = gap_to_ask x g in
    let q : AsksGap x g (gap_to_ask x g) = asks_gap x g g.connection.soft g.connection.requester (gap_of x g) refl (gap_is x g) in
    let sum = q.sum in
    let few = q.few in
    let e = asking_behind x written gap in
    let k = restarts_behind x written gap in
    record {
      once = omega (arith, sum, e, none, u);
      asked = omega (arith, few, e, none);
      resent = omega (arith, k, resent);
      comes = λ _ _. q.same ∙ comes;
      serves = inside_behind x (is_serving f) written gap ∙ (serving ∙ sym (ap (λ s. is_some s) q.serving));
      goes = inr refl;
      runs = runs_asking x f g written gap runs;
      names = names_behind x (having_asked g gap) written gap (all_none (Requested (having_asked g gap)) asks (none_requested (having_asked g gap)) (said_all written) none) q.names;
      keeps = λ r one. let same = ap unanswered_of (keeps r one) in q.keeps (omega (arith, same, one)) ∙ keeps r one;
    }

going : (x : Around) (f g : Facts) (requested restarted : ℕ) (turn : Bool → Bool) (act : Act) (written : List Message)
    → total asks (said_all written) ≡ 0 → unanswered f ≤ unanswered g + restarted → (restarted ≡ 0 → unanswered f ≡ 1 → g.connection.requester ≡ f.connection.requester)
    → total restarts (said_all written) ≤ requested → coming g ≡ turn (coming f) → inside (is_serving f) (said_all written) ≡ is_serving g → RunsBetween x.config.own_flow f (said_all written) g
    → Asks x f requested restarted turn (goes_on x act written g)
going x f g requested restarted turn act written none u keeps resent comes serving runs = going_on x f g requested restarted turn act written none u keeps resent comes serving (inl runs)

-- neither moves
record Untouched (f g : Facts) : Type 0 where
  requester : g.connection.requester ≡ f.connection.requester
  serving : g.connection.serving ≡ f.connection.serving
  sent : g.recorded.sent ≡ f.recorded.sent

runs_told : (flow : Flow) (f g : Facts) (ps : List Piece) → g.connection.serving ≡ f.connection.serving → g.recorded.sent ≡ f.recorded.sent
    → ((l : Option ℕ) → Runs flow (exactly (f.recorded.sent + 1)) l ps (f.recorded.sent + 1) l) → RunsBetween flow f ps g
runs_told flow f g ps s n h =
    subst (λ (k : ℕ). Runs flow (exactly (f.recorded.sent + 1)) (served f.connection.serving) ps (k + 1) (served g.connection.serving)) (sym n)
    (subst (λ (k : Option Range). Runs flow (exactly (f.recorded.sent + 1)) (served f.connection.serving) ps (f.recorded.sent + 1) (served k)) (sym s) (h (served f.connection.serving)))

runs_same : (flow : Flow) (f g : Facts) (ps : List Piece) → Untouched f g → ((l : Option ℕ) → Runs flow (exactly (f.recorded.sent + 1)) l ps (f.recorded.sent + 1) l) → RunsBetween flow f ps g
runs_same flow f g ps u h = runs_told flow f g ps u.serving u.sent h

still : (f : Facts) → Untouched f f
still f = record { requester = refl; serving = refl; sent = refl }

passing : (x : Around) (f g : Facts) (requested : ℕ) (act : Act) (written : List Message) → Untouched f g → Own x f written → Asks x f requested 0 (λ b. b) (goes_on x act written g)
passing x f g requested act written u p =
    let n = p.no_restart in
    let same = ap unanswered_of u.requester in
    going x f g requested 0 (λ b. b) act written p.no_request (omega (arith, same)) (λ _ _. u.requester) (omega (arith, n)) (ap (λ q. request_is.is_coming q) u.requester)
    (p.no_turn (is_serving f) ∙ sym (ap (λ s. is_some s) u.serving)) (runs_same x.config.own_flow f g (said_all written) u p.no_number)

staying : (x : Around) (f : Facts) (requested : ℕ) (m : Message) → total asks (said m ∷ []) ≡ 0 → total restarts (said m ∷ []) ≤ requested → ((b : Bool) → turns_in m b ≡ b)
    → ((l : Option ℕ) → Runs x.config.own_flow (exactly (f.recorded.sent + 1)) l (said m ∷ []) (f.recorded.sent + 1) l) → Asks x f requested 0 (λ b. b) (rejects (m ∷ []) f)
staying x f requested m n k t r = record {
  once = omega (arith, n);
  asked = omega (arith, n);
  resent = k;
  comes = λ _ _. refl;
  serves = t (is_serving f);
  goes = inl n;
  runs = inl (r (served f.connection.serving));
  names = all_none (Requested f) asks (none_requested f) (said m ∷ []) n;
  keeps = λ _ _. refl;
}

ending : (x : Around) (f g : Facts) (requested restarted : ℕ) (turn : Bool → Bool) (code : ℕ) (e : Ending) → unanswered f ≤ unanswered g + restarted
    → (restarted ≡ 0 → unanswered f ≡ 1 → g.connection.requester ≡ f.connection.requester) → g.connection.serving ≡ f.connection.serving → g.recorded.sent ≡ f.recorded.sent
    → Asks x f requested restarted turn (ends x g code e)
ending x f g requested restarted turn code e u keeps s n = record {
  once = omega (arith, u);
  asked = omega arith;
  resent = omega arith;
  comes = λ none _. absurd cc;
  serves = sym (ap (λ r. is_some r) s);
  goes = inl refl;
  runs = inl ((tt, tt), (omega (arith, n), ap served (sym s)));
  names = (tt, tt);
  keeps = keeps;
}

ending_here : (x : Around) (f : Facts) (requested restarted : ℕ) (turn : Bool → Bool) (code : ℕ) (e : Ending) → Asks x f requested restarted turn (ends x f code e)
ending_here x f requested restarted turn code e = ending x f f requested restarted turn code e (omega arith) (λ _ _. refl) refl refl

rejecting : (x : Around) (f : Facts) (requested restarted : ℕ) (turn : Bool → Bool) (e : Ending) → Asks x f requested restarted turn (ends_with x f [] e)
rejecting x f requested restarted turn e =
    record { once = omega arith; asked = omega arith; resent = omega arith; comes = λ none _. absurd cc; serves = refl; goes = inl refl; runs = inl (refl, refl); names = tt; keeps = λ _ _. refl }

bad : (x : Around) (f : Facts) (requested restarted : ℕ) (turn : Bool → Bool) (b : Option BadStart) → is_some b ≡ true → Asks x f requested restarted turn (bad_retransmission x f b)
bad x f requested restarted turn None some = absurd (true≢false (sym some))
bad x f requested restarted turn (Some b) some = ending_here x f requested restarted turn 2 _

refusing : (x : Around) (f g : Facts) (requested restarted : ℕ) (turn : Bool → Bool) (v : Option Violation) → is_some v ≡ true → unanswered f ≤ unanswered g + restarted
    → (restarted ≡ 0 → unanswered f ≡ 1 → g.connection.requester ≡ f.connection.requester) → g.connection.serving ≡ f.connection.serving → g.recorded.sent ≡ f.recorded.sent
    → Asks x f requested restarted turn (refuses x g v)
refusing x f g requested restarted turn None some u keeps s n = absurd (true≢false (sym some))
refusing x f g requested restarted turn (Some v) some u keeps s n = ending x f g requested restarted turn 2 _ u keeps s n

skip_plain : (flow : Flow) (c : ℕ) (s : Option Range) → Plain flow c (told_skip s)
skip_plain flow c None = nothing flow c
skip_plain flow c (Some s) = record { no_request = refl; no_restart = refl; no_turn = λ b. refl; no_number = λ l. ((tt, tt), (refl, refl)) }

alone : (flow : Flow) (c : ℕ) (m : Message) → request_in m ≡ 0 → restart_in m ≡ 0 → ((b : Bool) → turns_in m b ≡ b) → ((l : Option ℕ) → Runs flow (exactly c) l (said_all (m ∷ [])) c l) → Plain flow c (m ∷ [])
alone flow c m a r t n = record { no_request = omega (arith, a); no_restart = omega (arith, r); no_turn = t; no_number = n }

same_number : (c : ℕ) (l : Option ℕ) → (⊤ × ⊤) × ((c ≡ c) × (l ≡ l))
same_number c l = ((tt, tt), (refl, refl))

announced_allowed : (b : Bool) (c : ℕ) → IfSome (if b then (if b then Some c else None) else None) (λ n. Allows (exactly c) n) × (unwrap_or (if b then (if b then Some c else None) else None) c ≡ c)
announced_allowed true c = (refl, refl)
announced_allowed false c = (tt, refl)

abbrev chosen : Facts → ℕ → Bool → Bool → Announced
chosen f n recoverable idempotent =
    if recoverable then record { facts = firm (receiving f (receiver_is.announced f.connection.receiver n)); skipped = None }
    else if idempotent then record { facts = awaiting f n; skipped = jumped_over f.recorded.inbox_next n }
    else record { facts = f; skipped = None }

untouched : (x : Around) (f : Facts) (next : Option ℕ) → Untouched f (announced x f next).facts
untouched x f next = by_flow (is_recoverable x.config.peer_flow) (is_idempotent x.config.peer_flow)
  where
    by_flow : (r i : Bool) → Untouched f (chosen f (unwrap_or next 0) r i).facts
    by_flow true i = record { requester = refl; serving = refl; sent = refl }
    by_flow false true = record { requester = refl; serving = refl; sent = refl }
    by_flow false false = record { requester = refl; serving = refl; sent = refl }

-- what moves a request that is open alone
record Moved (q r : Request) (b : Bool) : Type 0 where
  count : unanswered_of r ≡ unanswered_of q
  comes : request_is.is_coming r ≡ b
  keeps : unanswered_of q ≡ 1 → r ≡ q

-- one message of a retransmission more
after_one : (q : Request) → Moved q (request_is.after_message q) (request_is.is_coming q)
after_one requests.Nothing = record { count = refl; comes = refl; keeps = λ _. refl }
after_one (requests.Asked range) = record { count = refl; comes = refl; keeps = λ _. refl }
after_one (requests.Coming range next left) = record { count = refl; comes = refl; keeps = λ one. absurd (omega (arith, one)) }

abbrev Same : Bool → Bool
Same b = b

counting : (x : Around) (f g : Facts) (act : Act) → g.connection.requester ≡ request_is.after_message f.connection.requester → g.connection.serving ≡ f.connection.serving → g.recorded.sent ≡ f.recorded.sent → Asks x f 0 0 Same (goes_on x act [] g)
counting x f g act e s n =
    let a = after_one f.connection.requester in
    let same = a.count in
    let here = ap unanswered_of e in
    going x f g 0 0 Same act [] refl (omega (arith, same, here)) (λ _ one. e ∙ a.keeps one) (omega arith) (ap (λ q. request_is.is_coming q) e ∙ a.comes) (sym (ap (λ r. is_some r) s)) (omega (arith, n), ap served (sym s))

taking : (x : Around) (f : Facts) (s : Seen) → Asks x f 0 0 Same (taken_as x (counted f) s)
taking x f (Deliver n) = counting x f (awaiting (counted f) (n + 1)) (acts.Apply n) refl refl refl
taking x f (Hold n) =
    let k = counting (holding_too x n) f (counted f) acts.Nothing refl refl refl in
    record { once = k.once; asked = k.asked; resent = k.resent; comes = k.comes; serves = k.serves; goes = k.goes; runs = k.runs; names = k.names; keeps = k.keeps }
taking x f (Gap n) = counting x f (counted f) acts.Nothing refl refl refl
taking x f (Repeat n) = counting x f (counted f) acts.Nothing refl refl refl

receiving_plain : (x : Around) (f : Facts) → Own x f (finished_receiving x.config.session ∷ [])
receiving_plain x f = record { no_request = refl; no_restart = refl; no_turn = λ b. refl; no_number = λ l. same_number (f.recorded.sent + 1) l }

-- Sequence ends a retransmission that comes in
after_end : (q : Request) → Moved q (request_is.after_sequence q) false
after_end requests.Nothing = record { count = refl; comes = refl; keeps = λ _. refl }
after_end (requests.Asked range) = record { count = refl; comes = refl; keeps = λ _. refl }
after_end (requests.Coming range next left) = record { count = refl; comes = refl; keeps = λ one. absurd (omega (arith, one)) }

abbrev Never : Bool → Bool
Never b = false

following : (x : Around) (f : Facts) (next : ℕ) (a : Announced) → Untouched (requesting f (request_is.after_sequence f.connection.requester)) a.facts
    → Asks x f 0 0 Never (sequence_follows x (requesting f (request_is.after_sequence f.connection.requester)) next a)
following x f next a u =
    let g : Facts = requesting f (request_is.after_sequence f.connection.requester) in
    let e = after_end f.connection.requester in
    let same = e.count in
    let here = ap unanswered_of u.requester in
    by_row (Asks x f 0 0 Never) (is_past_finish x g next) (breaks x g (AfterFinish (unwrap_or (peer_last g) 0) next)) (sequence_taken x a)
    (λ _. ending x f g 0 0 Never 2 _ (omega (arith, same)) (λ _ one. e.keeps one) refl refl)
    (λ _. by_row (Asks x f 0 0 Never) (is_filled x a.facts) (answers_finish x a.facts (unwrap_or (awaits_gap a.facts.connection.peer_finish) 0)) (goes_on x (skip_of a.skipped) (told_skip a.skipped) a.facts)
    (λ _. going x f (peer_finished a.facts (peer.Exchanged (unwrap_or (awaits_gap a.facts.connection.peer_finish) 0)) (Some (unwrap_or a.facts.recorded.peer_last (unwrap_or (awaits_gap a.facts.connection.peer_finish) 0)))) 0 0 Never _ (finished_receiving x.config.session ∷ []) refl (omega (arith, same, here)) (λ _ one. u.requester ∙ e.keeps one) (omega arith)
    (ap (λ q. request_is.is_coming q) u.requester ∙ e.comes) (sym (ap (λ r. is_some r) u.serving))
    (runs_told x.config.own_flow f (peer_finished a.facts (peer.Exchanged (unwrap_or (awaits_gap a.facts.connection.peer_finish) 0)) (Some (unwrap_or a.facts.recorded.peer_last (unwrap_or (awaits_gap a.facts.connection.peer_finish) 0)))) (said_all (finished_receiving x.config.session ∷ [])) u.serving u.sent (λ l. same_number (f.recorded.sent + 1) l)))
    (λ _. let p = skip_plain x.config.own_flow (f.recorded.sent + 1) a.skipped in let n = p.no_restart in
    going x f a.facts 0 0 Never (skip_of a.skipped) (told_skip a.skipped) p.no_request (omega (arith, same, here)) (λ _ one. u.requester ∙ e.keeps one) (omega (arith, n))
    (ap (λ q. request_is.is_coming q) u.requester ∙ e.comes) (p.no_turn (is_serving f) ∙ sym (ap (λ r. is_some r) u.serving))
    (runs_told x.config.own_flow f a.facts (said_all (told_skip a.skipped)) u.serving u.sent p.no_number)))

free_runs : (s : Option Range) → is_some s ≡ false → served s ≡ None
free_runs None e = refl
free_runs (Some r) e = absurd (true≢false e)

free_start : (flow : Flow) (c : ℕ) (l : Option ℕ) (id : List ℕ) (next timestamp count : ℕ) → l ≡ None → Runs flow (exactly c) l (said (retransmission id next timestamp count) ∷ []) c (Some count)
free_start flow c l id next timestamp count e = ((tt, e), (refl, refl))

answered : (x : Around) (f : Facts) → is_some f.connection.serving ≡ false → (id : List ℕ) (timestamp : ℕ) (r : Result Range RetransmitCode) → Asks x f 1 0 Same (request_answered x f id timestamp r)
answered x f free id timestamp (Ok range) =
    going x f (serves f (Some range)) 1 0 Same acts.Nothing (retransmission x.config.session range.from timestamp range.count ∷ []) refl (omega arith) (λ _ _. refl) (omega arith) refl refl
    (free_start x.config.own_flow (f.recorded.sent + 1) (served f.connection.serving) x.config.session range.from timestamp range.count (free_runs f.connection.serving free))
answered x f free id timestamp (Err code) = staying x f 1 _ refl (omega arith) (λ b. refl) (λ l. same_number (f.recorded.sent + 1) l)

pub at_most_one : (q : Request) → unanswered_of q ≤ 1
at_most_one requests.Nothing = omega arith
at_most_one (requests.Asked range) = omega arith
at_most_one (requests.Coming range next left) = omega arith

abbrev Always : Bool → Bool
Always b = true

starts : (q : Request) (next count : ℕ) → is_some (request_is.start_fault (request_is.outstanding q) next count) ≡ false → request_is.is_coming (request_is.started q next count) ≡ true
starts requests.Nothing next count e = absurd (true≢false e)
starts (requests.Asked range) next count e = refl
starts (requests.Coming range n left) next count e = refl

finishing : (x : Around) (f : Facts) (n : ℕ) → Asks x f 0 0 Same (finished x f n)
finishing x f n = by_row (Asks x f 0 0 Same) (is_some (gap_of x f)) (accepts x [] (peer_finished f (peer.Read n) f.recorded.peer_last)) (answers_finish x f n)
    (λ _. passing x f (peer_finished f (peer.Read n) f.recorded.peer_last) 0 acts.Nothing [] (record { requester = refl; serving = refl; sent = refl }) (nothing x.config.own_flow (f.recorded.sent + 1)))
    (λ _. passing x f (peer_finished f _ _) 0 _ (finished_receiving x.config.session ∷ []) (record { requester = refl; serving = refl; sent = refl }) (receiving_plain x f))

announced_so : (b : Bool) (n : ℕ) → b ≡ true → (if b then (if b then Some n else None) else None) ≡ Some n
announced_so true n e = refl
announced_so false n e = absurd (true≢false (sym e))

recoverable_numbered : (flow : Flow) → is_recoverable flow ≡ true → is_sequenced flow ≡ true
recoverable_numbered flow e = ap (λ b. b || is_idempotent flow) e

-- so many entries count as sent then
abbrev recounted : Facts → Expected → Facts
recounted f e = record f { recorded = record f.recorded { sent = number_in e - 1 } }

-- an acknowledgement is written where the number was taken, and where it was not
acknowledging : (x : Around) (f : Facts) (next : Option ℕ) (timestamp keepalive : ℕ) (e : Expected) → is_shaken f.connection.phase ≡ false
    → Asks x f 0 0 Same (acknowledges x timestamp keepalive e (announced x f next))
acknowledging x f next timestamp keepalive e before = by_taking (λ g. Asks x f 0 0 Same (acknowledged_by x timestamp keepalive e a.skipped g)) x a.facts e took kept
  where
    a : Announced
    a = announced x f next

    u : Untouched f a.facts
    u = untouched x f next

    flow : Flow
    flow = x.config.own_flow

    p : Plain x.config.own_flow (f.recorded.sent + 1) (told_skip a.skipped)
    p = skip_plain flow (f.recorded.sent + 1) a.skipped

    writing : (g : Facts) → g.connection.requester ≡ f.connection.requester → g.connection.serving ≡ f.connection.serving
        → RunsOn x.config f (said (establishment_ack x.config.session timestamp x.config.keepalive (announced_number x g) (answers_next x e g)) ∷ said_all (told_skip a.skipped)) (established (softened x e g) keepalive)
        → Asks x f 0 0 Same (acknowledged_by x timestamp keepalive e a.skipped g)
    writing g q s runs =
        let none = p.no_request in
        let rest = p.no_restart in
        let same = ap unanswered_of q in
        going_on x f (established (softened x e g) keepalive) 0 0 Same (skip_of a.skipped) (establishment_ack x.config.session timestamp x.config.keepalive (announced_number x g) (answers_next x e g) ∷ told_skip a.skipped)
        (omega (arith, none)) (omega (arith, same)) (λ _ _. q) (omega (arith, rest)) (ap (λ k. request_is.is_coming k) q) (p.no_turn (is_serving f) ∙ sym (ap (λ k. is_some k) s)) runs

    kept : Asks x f 0 0 Same (acknowledged_by x timestamp keepalive e a.skipped a.facts)
    kept = writing a.facts u.requester u.serving (inl (runs_told flow f (established (softened x e a.facts) keepalive) (said (establishment_ack x.config.session timestamp x.config.keepalive (announced_number x a.facts) (answers_next x e a.facts)) ∷ said_all (told_skip a.skipped))
        u.serving u.sent (λ l. begins (is_sequenced flow) refl l)))
      where
        begins : (b : Bool) → is_sequenced flow ≡ b → (l : Option ℕ)
            → Runs flow (exactly (f.recorded.sent + 1)) l (said (establishment_ack x.config.session timestamp x.config.keepalive (announced_number x a.facts) (answers_next x e a.facts)) ∷ said_all (told_skip a.skipped)) (f.recorded.sent + 1) l
        begins true t l = announced_runs flow (establishment_ack x.config.session timestamp x.config.keepalive (announced_number x a.facts) (answers_next x e a.facts)) (exactly (f.recorded.sent + 1)) l l (f.recorded.sent + 1) (said_all (told_skip a.skipped)) (f.recorded.sent + 1) l
            (announced_so (is_sequenced flow) (a.facts.recorded.sent + 1) t ∙ ap (λ (n : ℕ). Some (n + 1)) u.sent) refl tt refl (p.no_number l)
        begins false t l = silent_runs flow (establishment_ack x.config.session timestamp x.config.keepalive (announced_number x a.facts) (answers_next x e a.facts)) (exactly (f.recorded.sent + 1)) l l (said_all (told_skip a.skipped)) (f.recorded.sent + 1) l
            (ap (λ (c : Bool). if c then announced_number x a.facts else None) t) tt refl (p.no_number l)

    took : IsTaken x a.facts e → Asks x f 0 0 Same (acknowledged_by x timestamp keepalive e a.skipped (recounted a.facts e))
    took k = writing (recounted a.facts e) u.requester u.serving (inr (record {
      may = may_go_back x f a.facts (established (softened x e (recounted a.facts e)) keepalive) e k before refl;
      runs = anew;
    }))
      where
        c : ℕ
        c = number_in e - 1 + 1

        l : Option ℕ
        l = served f.connection.serving

        anew : (d : Awaited) → Allows d c
            → Runs flow d l (said (establishment_ack x.config.session timestamp x.config.keepalive (announced_number x (recounted a.facts e)) (answers_next x e (recounted a.facts e))) ∷ said_all (told_skip a.skipped)) c (served a.facts.connection.serving)
        anew d ok = subst (λ (r : Option Range). Runs flow d l (said (establishment_ack x.config.session timestamp x.config.keepalive (announced_number x (recounted a.facts e)) (answers_next x e (recounted a.facts e))) ∷ said_all (told_skip a.skipped)) c (served r)) (sym u.serving)
            (announced_runs flow (establishment_ack x.config.session timestamp x.config.keepalive (announced_number x (recounted a.facts e)) (answers_next x e (recounted a.facts e))) d l l c (said_all (told_skip a.skipped)) c l (announced_so (is_sequenced flow) c (recoverable_numbered flow k.own)) ok tt refl ((skip_plain flow c a.skipped).no_number l))

-- what an initiator writes that starts from this number
record StartsAt (flow : Flow) (n : ℕ) (ms : List Message) : Type 0 where
  no_request : total asks (said_all ms) ≡ 0
  no_restart : total restarts (said_all ms) ≡ 0
  ended : (b : Bool) → inside b (said_all ms) ≡ false
  runs : (d : Awaited) → Allows d n → Runs flow d None (said_all ms) n None

starts_at : (flow : Flow) (n : ℕ) (s : Option Range) → is_sequenced flow ≡ true → StartsAt flow n (told_skip s ++ sequence n ∷ [])
starts_at flow n s numbered = by_skip s
  where
    told : (d : Awaited) → Allows d n → Runs flow d None (said (sequence n) ∷ []) n None
    told d ok = announced_runs flow (sequence n) d None None n [] n None (ap (λ (b : Bool). if b then Some n else None) numbered) ok tt refl (refl, refl)

    by_skip : (r : Option Range) → StartsAt flow n (told_skip r ++ sequence n ∷ [])
    by_skip None = record { no_request = refl; no_restart = refl; ended = λ b. refl; runs = told }
    by_skip (Some r) = record { no_request = refl; no_restart = refl; ended = λ b. refl; runs = λ d ok. silent_runs flow (not_applied r.from r.count) d None None (said (sequence n) ∷ []) n None refl tt refl (told d ok) }

-- an acknowledgement is read, whether its number is taken or not
reaching_on : (x : Around) (f : Facts) (next : Option ℕ) (interval : ℕ) (e : Expected) → ServesLater x.config f → is_shaken f.connection.phase ≡ false → (t same : Bool) → takes x (announced x f next).facts e ≡ t
    → (number_in e == (announced x f next).facts.recorded.sent + 1) ≡ same → Asks x f 0 0 Same (reaching x interval e (announced x f next) t same)
reaching_on x f next interval e later before t same is one = by_tests t same is one
  where
    a : Announced
    a = announced x f next

    u : Untouched f a.facts
    u = untouched x f next

    flow : Flow
    flow = x.config.own_flow

    silent : (g : Facts) → Untouched f g → Asks x f 0 0 Same (goes_on x (skip_of a.skipped) (told_skip a.skipped ++ []) g)
    silent g v = subst (λ (ms : List Message). Asks x f 0 0 Same (goes_on x (skip_of a.skipped) ms g)) (sym (append-nil (told_skip a.skipped)))
        (passing x f g 0 (skip_of a.skipped) (told_skip a.skipped) v (skip_plain flow (f.recorded.sent + 1) a.skipped))

    starting_so : IsTaken x a.facts e → Asks x f 0 0 Same (goes_on x (skip_of a.skipped) (told_skip a.skipped ++ sequence (number_in e) ∷ []) (established (recounted a.facts e) interval))
    starting_so k =
        let n = number_in e in
        let w : StartsAt flow n (told_skip a.skipped ++ sequence n ∷ []) = starts_at flow n a.skipped (recoverable_numbered flow k.own) in
        let none : f.connection.serving ≡ None = later k.newer before in
        let same = ap unanswered_of u.requester in
        let quiet = w.no_restart in
        let low = k.low in
        going_on x f (established (recounted a.facts e) interval) 0 0 Same (skip_of a.skipped) (told_skip a.skipped ++ sequence n ∷ []) w.no_request (omega (arith, same)) (λ _ _. u.requester) (omega (arith, quiet))
        (ap (λ q. request_is.is_coming q) u.requester) (w.ended (is_serving f) ∙ sym (ap (λ r. is_some r) (u.serving ∙ none))) (inr (record {
          may = may_go_back x f a.facts (established (recounted a.facts e) interval) e k before refl;
          runs = λ d ok.
              subst (λ (r : Option Range). Runs flow d (served f.connection.serving) (said_all (told_skip a.skipped ++ sequence n ∷ [])) (n - 1 + 1) (served r)) (sym (u.serving ∙ none))
              (subst (λ (r : Option Range). Runs flow d (served r) (said_all (told_skip a.skipped ++ sequence n ∷ [])) (n - 1 + 1) None) (sym none)
              (subst (λ (c : ℕ). Runs flow d None (said_all (told_skip a.skipped ++ sequence n ∷ [])) c None) (omega (arith, low)) (w.runs d (subst (λ (c : ℕ). Allows d c) (omega (arith, low)) ok))));
        }))

    by_tests : (t same : Bool) → takes x a.facts e ≡ t → (number_in e == a.facts.recorded.sent + 1) ≡ same → Asks x f 0 0 Same (reaching x interval e a t same)
    by_tests false same is one = silent (established a.facts interval) (record { requester = u.requester; serving = u.serving; sent = u.sent })
    by_tests true true is one =
        let n = eqb-true (number_in e) (a.facts.recorded.sent + 1) one in
        let sent = u.sent in
        silent (established (recounted a.facts e) interval) (record { requester = u.requester; serving = u.serving; sent = omega (arith, n, sent) })
    by_tests true false is one = starting_so (taken x a.facts e is)

pub establish_runs : (x : Around) (f : Facts) (l : Option ℕ) → Runs x.config.own_flow (exactly (f.recorded.sent + 1)) l (said (opening_establish x f) ∷ []) (f.recorded.sent + 1) l
establish_runs x f l = let w = announced_allowed (is_sequenced x.config.own_flow) (f.recorded.sent + 1) in ((w.0, tt), (w.1, refl))

establishing : (x : Around) (f : Facts) → Asks x f 0 0 Same (shaken x f)
establishing x f = passing x f (in_phase (as_negotiated f) phases.Establishing) 0 _ (opening_establish x f ∷ []) (record { requester = refl; serving = refl; sent = refl })
    (alone x.config.own_flow (f.recorded.sent + 1) (opening_establish x f) refl refl (λ b. refl) (λ l. establish_runs x f l))

-- all rows of all messages
message_rows : (x : Around) (f : Facts) (p : List ℕ) → AllRows (Asks x f 0 0 Same) (rows_of x f (application p))
message_rows x f p = all_within (Asks x f 0 0 Same) (is_established f.connection.phase) (application_rows x f) (λ _. (
  λ _. ending_here x f 0 0 Same 2 _,
  λ _. (
    λ _. ending_here x f 0 0 Same 2 _,
    λ _. (
      λ _. ending_here x f 0 0 Same 2 _,
      λ _. (
        λ _. passing x f (awaiting f (f.recorded.inbox_next + 1)) 0 (acts.Apply f.recorded.inbox_next) [] (record { requester = refl; serving = refl; sent = refl }) (nothing x.config.own_flow (f.recorded.sent + 1)),
        λ _. (
          λ some. bad x f 0 0 Same (request_is.message_fault f.connection.requester) some,
          λ _. (λ _. taking x f (receiver_is.seen f.connection.receiver), λ _. tt),
        ),
      ),
    ),
  ),
))

in_session : (x : Around) (f : Facts) (requested restarted : ℕ) (turn : Bool → Bool) (template : ℕ) (id : List ℕ) (rows : List Row) → AllRows (Asks x f requested restarted turn) rows
    → AllRows (Asks x f requested restarted turn) (of_session x f template id rows)
in_session x f requested restarted turn template id rows all = own_rows (Asks x f requested restarted turn) x f template id rows (λ e. ending_here x f requested restarted turn 2 e) all

choosing : (P : Outcome → Type 0) (b c : Bool) (first second : List Row) → (b ≡ true → AllRows P first) → AllRows P second → AllRows P (if b then first else if c then second else [])
choosing P true c first second p q = p refl
choosing P false true first second p q = q
choosing P false false first second p q = tt

same_parts : (f g : Facts) → g.connection.requester ≡ f.connection.requester → g.connection.serving ≡ f.connection.serving → g.recorded.sent ≡ f.recorded.sent → Untouched f g
same_parts f g q s n = record { requester = q; serving = s; sent = n }

replies : (x : Around) (f : Facts) (m : Message) → request_in m ≡ 0 → restart_in m ≡ 0 → ((b : Bool) → turns_in m b ≡ b)
    → ((l : Option ℕ) → Runs x.config.own_flow (exactly (f.recorded.sent + 1)) l (said_all (m ∷ [])) (f.recorded.sent + 1) l) → Asks x f 0 0 Same (rejects (m ∷ []) f)
replies x f m a r t n = staying x f 0 m (omega (arith, a)) (omega (arith, r)) t n

asks_again : (x : Around) (f g : Facts) (act : Act) (m : Message) → Untouched f g → request_in m ≡ 0 → restart_in m ≡ 0 → ((b : Bool) → turns_in m b ≡ b)
    → ((l : Option ℕ) → Runs x.config.own_flow (exactly (f.recorded.sent + 1)) l (said_all (m ∷ [])) (f.recorded.sent + 1) l) → Asks x f 0 0 Same (goes_on x act (m ∷ []) g)
asks_again x f g act m u a r t n = passing x f g 0 act (m ∷ []) u (alone x.config.own_flow (f.recorded.sent + 1) m a r t n)

session_rows : (x : Around) (f : Facts) (m : Message) → ServesLater x.config f → AllRows (Asks x f (request_in m) (restart_in m) (turns_in m)) (rows_of x f (session m))
session_rows x f (negotiate id timestamp flow credentials) later = all_within (Asks x f 0 0 Same) (awaits_client x f) (negotiate_rows x f id timestamp flow credentials) (λ _. (
  λ _. replies x f _ refl refl (λ b. refl) (λ l. same_number (f.recorded.sent + 1) l),
  λ _. (
    λ _. replies x f _ refl refl (λ b. refl) (λ l. same_number (f.recorded.sent + 1) l),
    λ _. (
      λ _. replies x f _ refl refl (λ b. refl) (λ l. same_number (f.recorded.sent + 1) l),
      λ _. (
        λ _. replies x f _ refl refl (λ b. refl) (λ l. same_number (f.recorded.sent + 1) l),
        λ _. (λ _. asks_again x f (as_negotiated f) acts.Negotiated (negotiation_response x.config.session timestamp (flow_code x.config.own_flow) []) (same_parts f (as_negotiated f) refl refl refl) refl refl (λ b. refl) (λ l. same_number (f.recorded.sent + 1) l), λ _. tt),
      ),
    ),
  ),
))
session_rows x f (negotiation_response id timestamp flow credentials) later = in_session x f 0 0 Same 2 id _ (all_within (Asks x f 0 0 Same) (is_negotiating f.connection.phase) (negotiation_response_rows x f flow) (λ _. (
  λ _. ending_here x f 0 0 Same 2 _,
  λ _. (λ _. establishing x f, λ _. tt),
)))
session_rows x f (negotiation_reject id timestamp code reason) later = in_session x f 0 0 Same 3 id _ (all_within (Asks x f 0 0 Same) (is_negotiating f.connection.phase) (negotiation_reject_rows x f code) (λ _. (
  λ _. establishing x f,
  λ _. (λ _. rejecting x f 0 0 Same _, λ _. tt),
)))
session_rows x f (establish id timestamp keepalive next expected credentials) later =
    choosing (Asks x f 0 0 Same) (awaits_client x f) (serves_client x f) (establish_rows x f id timestamp keepalive next expected credentials) (established_again_rows x f id timestamp) (λ waits. (
      λ _. replies x f _ refl refl (λ b. refl) (λ l. same_number (f.recorded.sent + 1) l),
      λ _. (
        λ _. replies x f _ refl refl (λ b. refl) (λ l. same_number (f.recorded.sent + 1) l),
        λ _. (
          λ _. replies x f _ refl refl (λ b. refl) (λ l. same_number (f.recorded.sent + 1) l),
          λ _. announced_all (Asks x f 0 0 Same) x f 4 next (acknowledges x timestamp keepalive expected) (λ some. refusing x f f 0 0 Same (announcement_fault x f 4 next) some (omega arith) (λ _ _. refl) refl refl)
              (acknowledging x f next timestamp keepalive expected (not_opened f.connection.phase (and_parts (not (is_initiator x.config.role)) (is_idle f.connection.phase) waits).1)),
        ),
      ),
    ))
    (λ _. replies x f _ refl refl (λ b. refl) (λ l. same_number (f.recorded.sent + 1) l), λ _. (λ _. replies x f _ refl refl (λ b. refl) (λ l. same_number (f.recorded.sent + 1) l), λ _. tt))
session_rows x f (establishment_ack id timestamp keepalive next expected) later = in_session x f 0 0 Same 5 id _ (all_within (Asks x f 0 0 Same) (is_establishing f.connection.phase) (establishment_ack_rows x f keepalive next expected) (λ opens.
    announced_all (Asks x f 0 0 Same) x f 5 next (reached x keepalive expected)
    (λ some. refusing x f f 0 0 Same (announcement_fault x f 5 next) some (omega arith) (λ _ _. refl) refl refl)
    (by_reaching (Asks x f 0 0 Same) x keepalive expected (announced x f next) (reaching_on x f next (min 60000 (max 100 keepalive)) expected later (not_established f.connection.phase opens)))))
session_rows x f (establishment_reject id timestamp code reason) later = in_session x f 0 0 Same 6 id _ (all_within (Asks x f 0 0 Same) (is_establishing f.connection.phase) (establishment_reject_rows x f code) (λ _. (
  λ _. asks_again x f (in_phase f phases.Negotiating) acts.Nothing (opening_negotiate x) (same_parts f (in_phase f phases.Negotiating) refl refl refl) refl refl (λ b. refl) (λ l. same_number (f.recorded.sent + 1) l),
  λ _. (λ _. rejecting x f 0 0 Same _, λ _. tt),
)))
session_rows x f (sequence next) later =
    let g : Facts = requesting f (request_is.after_sequence f.connection.requester) in
    let e = after_end f.connection.requester in
    let same = e.count in
    all_within (Asks x f 0 0 Never) (is_established f.connection.phase) (sequence_rows x f next) (λ _. (
      λ some. bad x f 0 0 Never (request_is.sequence_fault f.connection.requester) some,
      λ _. announced_all (Asks x f 0 0 Never) x g 7 (Some next) (sequence_follows x g next) (λ some. refusing x f g 0 0 Never (announcement_fault x g 7 (Some next)) some (omega (arith, same)) (λ _ one. e.keeps one) refl refl)
          (following x f next (announced x g (Some next)) (untouched x g (Some next))),
    ))
session_rows x f unsequenced_heartbeat later = (λ _. passing x f f 0 acts.Nothing [] (still f) (nothing x.config.own_flow (f.recorded.sent + 1)), λ _. tt)
session_rows x f (retransmit_request id timestamp first count) later = all_within (Asks x f 1 0 Same) (is_established f.connection.phase) (retransmit_request_rows x f id timestamp first count) (λ _. (
  λ _. ending_here x f 1 0 Same 4 _,
  λ free. (λ _. answered x f free id timestamp (judged (is_own x id) (is_recoverable x.config.own_flow) first count f.recorded.sent), λ _. tt),
))
session_rows x f (retransmission id next timestamp count) later = in_session x f 0 1 Always 10 id _ (all_within (Asks x f 0 1 Always) (is_established f.connection.phase) (retransmission_rows x f next count) (λ _. (
  λ some. bad x f 0 1 Always (request_is.start_fault (request_is.outstanding f.connection.requester) next count) some,
  λ fits. (λ _. let one = at_most_one f.connection.requester in going x f (restarted f next count) 0 1 Always acts.Nothing [] refl (omega (arith, one)) (λ none _. absurd (omega (arith, none))) (omega arith) (starts f.connection.requester next count fits) refl (refl, refl), λ _. tt),
)))
session_rows x f (retransmit_reject id timestamp code reason) later = in_session x f 0 1 Same 11 id _ (all_within (Asks x f 0 1 Same) (is_established f.connection.phase) (retransmit_reject_rows x f) (λ _. (
  λ _. ending_here x f 0 1 Same 2 _,
  λ _. tt,
)))
session_rows x f (applied first count) later = (λ _. passing x f f 0 acts.Nothing [] (still f) (nothing x.config.own_flow (f.recorded.sent + 1)), λ _. tt)
session_rows x f (not_applied first count) later = (λ _. passing x f f 0 (acts.Told first count) [] (still f) (nothing x.config.own_flow (f.recorded.sent + 1)), λ _. (λ _. passing x f f 0 acts.Nothing [] (still f) (nothing x.config.own_flow (f.recorded.sent + 1)), λ _. tt))
session_rows x f (finished_sending id last) later = in_session x f 0 0 Same 14 id _ (all_within (Asks x f 0 0 Same) (is_established f.connection.phase) (finished_sending_rows x f last) (λ _. (
  λ some. refusing x f f 0 0 Same (finish_fault x f last) some (omega arith) (λ _ _. refl) refl refl,
  λ _. (λ _. finishing x f (finished_last x last), λ _. tt),
)))
session_rows x f (finished_receiving id) later = in_session x f 0 0 Same 15 id _ (all_within (Asks x f 0 0 Same) (is_established f.connection.phase) (finished_receiving_rows x f) (λ _. (
  λ _. passing x f (own_finishing f own.Exchanged) 0 acts.Nothing [] (same_parts f (own_finishing f own.Exchanged) refl refl refl) (nothing x.config.own_flow (f.recorded.sent + 1)),
  λ _. tt,
)))
session_rows x f (terminate id code reason) later = in_session x f 0 0 Same 16 id (row true (ends x f 1 (endings.PeerTerminated code)) ∷ []) (λ _. ending_here x f 0 0 Same 1 _, λ _. tt)

-- of each reply to a message that may be under way
pub asks_of : (x : Around) (f : Facts) (p : Piece) → ServesLater x.config f → Asks x f (asks p) (restarts p) (turns p) (reply_of x f (incoming_of p))
asks_of x f p later =
    by_row (Asks x f (asks p) (restarts p) (turns p)) (is_closing f.connection.phase && not (terminates x (incoming_of p))) (ignores f) (answer_of x f (incoming_of p))
    (λ e. record { once = omega arith; asked = omega arith; resent = omega arith; comes = λ _ n. absurd (true≢false (sym (and_left (is_closing f.connection.phase) (not (terminates x (incoming_of p))) e) ∙ n)); serves = refl; goes = inl refl; runs = inl (refl, refl); names = tt; keeps = λ _ _. refl })
    (λ _. all_rows (Asks x f (asks p) (restarts p) (turns p)) (not_in_phase x f (template_of (incoming_of p))) (rows_of x f (incoming_of p)) (ending_here x f (asks p) (restarts p) (turns p) 2 _) (by_piece p))
  where
    and_left : (a b : Bool) → (a && b) ≡ true → a ≡ true
    and_left true b e = refl
    and_left false b e = absurd (true≢false (sym e))

    by_piece : (q : Piece) → AllRows (Asks x f (asks q) (restarts q) (turns q)) (rows_of x f (incoming_of q))
    by_piece (said m) = session_rows x f m later
    by_piece (entry payload) = message_rows x f payload

-- in Closing a message is ignored, but for a Terminate
pub in_closing : (P : Outcome → Type 0) (x : Around) (f : Facts) (p : Piece) → is_closing f.connection.phase ≡ true → P (ignores f) → P (breaks x f (OtherSession 16)) → ((code : ℕ) → P (ends x f 1 (endings.PeerTerminated code)))
    → P (reply_of x f (incoming_of p))
in_closing P x f p e ignored other ended =
    by_row P (is_closing f.connection.phase && not (terminates x (incoming_of p))) (ignores f) (answer_of x f (incoming_of p))
    (λ _. ignored)
    (λ n. heard p (terminating (is_closing f.connection.phase) (terminates x (incoming_of p)) e n))
  where
    terminating : (a b : Bool) → a ≡ true → (a && not b) ≡ false → b ≡ true
    terminating true true e n = refl
    terminating true false e n = absurd (true≢false n)
    terminating false b e n = absurd (true≢false (sym e))

    heard : (q : Piece) → terminates x (incoming_of q) ≡ true → P (answer_of x f (incoming_of q))
    heard (said (terminate id code reason)) t = by_row P (not (is_own x id)) (breaks x f (OtherSession 16)) (ends x f 1 (endings.PeerTerminated code)) (λ _. other) (λ _. ended code)
    heard _ t = absurd (true≢false (sym t))

-- there nothing is asked for
pub closing_asks : (x : Around) (f : Facts) (p : Piece) → is_closing f.connection.phase ≡ true → total asks (said_all (reply_of x f (incoming_of p)).written) ≡ 0
closing_asks x f p e = in_closing (λ (o : Outcome). total asks (said_all o.written) ≡ 0) x f p e refl refl (λ code. refl)
