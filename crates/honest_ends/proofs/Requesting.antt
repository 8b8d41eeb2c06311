-- A request under way names the range that is open, and a Retransmission under way answers it.
use Rattle.std.proofs.Common.{◌≡◌, ℕ, zero, suc, ◌+◌, ◌≤◌, ◌==◌, ◌&&◌, ◌||◌, nat_lt, Bool, true, false, if◌then◌else◌, List, ◌∷◌, Option, Some, None, refl, sym, ap, subst, ◌∙◌, arith, true≢false}
use Rattle.std.specs.Prelude.{Result, Ok, Err}
use Rattle.std.specs.List.{AllByRecursion}
use Rattle.std.proofs.lemmas.Bool.Decides.{nat_tests}
use Rattle.fixp_msgs.specs.declared.numbering.Range.{Range}
use Rattle.fixp_msgs.specs.Message.{Message, retransmit_request, retransmission, retransmit_reject}
use Rattle.flow_retrans.specs.declared.judging.RetransmitCode.{RetransmitCode}
use Rattle.flow_retrans.specs.declared.judging.RetransmitCode.TheVariants.{OutOfRange, RequestLimitExceeded}
use Rattle.flow_retrans.specs.declared.request.Request.{Request}
use Rattle.flow_retrans.specs.declared.request.Request.TheVariants as requests
use Rattle.flow_retrans.specs.Judging.{judged, request_limit}
use Rattle.fixp_shake.specs.declared.config.EndConfig.{EndConfig}
use Rattle.fixp_shake.specs.Flows.{is_recoverable}
use Rattle.fixp_shake.specs.Phases.{is_established, is_closing, is_shaken}
use Rattle.fixp_replies.specs.declared.facts.Facts.{Facts}
use Rattle.fixp_replies.specs.Facts.{Around, is_own, serves, gap_to_ask}
use Rattle.fixp_replies.specs.Incoming.{Incoming, session}
use Rattle.fixp_replies.specs.Outcomes.{Outcome, ignores, not_in_phase, request_for}
use Rattle.fixp_replies.specs.Serving.{request_answered, retransmit_request_rows}
use Rattle.fixp_replies.specs.Replies.{reply_of, rows_of, answer_of}
use Rattle.fixp_machine.proofs.Rows.{by_row, all_rows, all_within}
use Rattle.connection_laws.specs.Writing.{Piece, said, entry, said_all}
use Rattle.two_ends.specs.Reading.{incoming_of}
use Rattle.honest_ends.specs.Numbers.{Answers, Idle, Peer, IsFlowing}
use Rattle.honest_ends.proofs.Deciding.{same_bytes}
use Rattle.honest_ends.proofs.Finishing.{total}
use Rattle.honest_ends.proofs.Asking.{asks, restarts, unanswered, Asks, Requested, all_none, at_most_one}
use Rattle.honest_ends.specs.Numbered.{Names}

-- a message that is no request, and one that is no answer to one
pub none_named : (q : Request) (p : Piece) → asks p ≡ 0 → Names q p
none_named q (said (retransmit_request id timestamp first count)) n = absurd (omega (arith, n))
none_named q _ n = tt

pub none_answered : (q : Request) (p : Piece) → restarts p ≡ 0 → Answers q p
none_answered q (said (retransmission id next timestamp count)) n = absurd (omega (arith, n))
none_answered q (said (retransmit_reject id timestamp code reason)) n = absurd (omega (arith, n))
none_answered q _ n = tt

-- what a reader of these facts asks for, behind its reply
pub asked_names : (g : Facts) → 1 ≤ g.connection.receiver.next → (p : Piece) → Requested g p → Names g.connection.requester p
asked_names g one (said (retransmit_request id timestamp first count)) r = let same = r.1 in (r.0, omega (arith, same, one), r.2, r.3)
asked_names g one _ r = tt

-- a reader of a flow that is not recoverable asks for nothing
pub idle_names : (g : Facts) → Idle g → (p : Piece) → Requested g p → Names g.connection.requester p
idle_names g idle (said (retransmit_request id timestamp first count)) r = absurd (cc (idle.none, r.0))
idle_names g idle _ r = tt

-- The reader replies: what was under way stays true of what it asks for then
pub record Agrees (q : Request) (way back : List Piece) : Type 0 where
  pub asks : AllByRecursion (Names q) back
  pub answers : AllByRecursion (Answers q) way

pub agrees_behind : (x : Around) (f : Facts) (p : Piece) (left back : List Piece) (o : Outcome) (turn : Bool → Bool) → total asks back + total restarts (p ∷ left) ≤ unanswered f → Asks x f (asks p) (restarts p) turn o
    → Agrees f.connection.requester (p ∷ left) back → Agrees o.next.connection.requester left back
agrees_behind x f p left back o turn once c a = by_count (restarts p) refl (unanswered f) refl
  where
    none : total asks back ≡ 0 → total restarts left ≡ 0 → Agrees o.next.connection.requester left back
    none b w = record {
      asks = all_none (Names o.next.connection.requester) asks (none_named o.next.connection.requester) back b;
      answers = all_none (Answers o.next.connection.requester) restarts (none_answered o.next.connection.requester) left w;
    }

    by_count : (r : ℕ) → restarts p ≡ r → (n : ℕ) → unanswered f ≡ n → Agrees o.next.connection.requester left back
    by_count r e zero n = none (omega (arith, once, n)) (omega (arith, once, n))
    by_count (suc r) e (suc n) u = let few = at_most_one f.connection.requester in none (omega (arith, once, e, few)) (omega (arith, once, e, few))
    by_count zero e (suc n) u =
        let few = at_most_one f.connection.requester in
        let same = c.keeps e (omega (arith, few, u)) in
        record {
          asks = subst (λ (q : Request). AllByRecursion (Names q) back) (sym same) a.asks;
          answers = subst (λ (q : Request). AllByRecursion (Answers q) left) (sym same) a.answers.1;
        }

-- The writer replies to a request that names a range below its next live number, and below the limit: it sends that again
in_bounds : (from count sent : ℕ) → 1 ≤ from → 1 ≤ count → from + count ≤ sent + 1 → (from == 0 || count == 0 || nat_lt (sent + 1) (from + count)) ≡ false
in_bounds from count sent a b c = grind (arith, nat_tests)

not_past : (count : ℕ) → count ≤ request_limit → nat_lt request_limit count ≡ false
not_past count h = grind (arith, nat_tests)

is_judged : (mine rec : Bool) (from count sent : ℕ) → mine ≡ true → rec ≡ true → 1 ≤ from → 1 ≤ count → count ≤ request_limit → from + count ≤ sent + 1
    → judged mine rec from count sent ≡ Ok (record { from = from; count = count })
is_judged false rec from count sent m r a b c d = absurd (true≢false (sym m))
is_judged true false from count sent m r a b c d = absurd (true≢false (sym r))
is_judged true true from count sent m r a b c d =
    ap (λ t. if t then Err OutOfRange else if nat_lt request_limit count then Err RequestLimitExceeded else Ok (record { from = from; count = count })) (in_bounds from count sent a b d)
    ∙ ap (λ t. if t then Err RequestLimitExceeded else Ok (record { from = from; count = count })) (not_past count c)

requests_answer : (x : Around) (q : Request) (r : Option Range) → AllByRecursion (Answers q) (said_all (request_for x r))
requests_answer x q None = tt
requests_answer x q (Some r) = (tt, tt)

abbrev Answered : Request → Outcome → Type 0
Answered q o = AllByRecursion (Answers q) (said_all o.written)

request_reply : (x : Around) (f : Facts) (theirs : EndConfig) (q : Request) (id : List ℕ) (timestamp first count : ℕ) → Peer x.config theirs → (is_shaken f.connection.phase ≡ true → id ≡ theirs.session)
    → is_recoverable x.config.own_flow ≡ true → first + count ≤ f.recorded.sent + 1 → Names q (said (retransmit_request id timestamp first count)) → Answered q (reply_of x f (session (retransmit_request id timestamp first count)))
request_reply x f theirs q id timestamp first count are flows rec below names =
    by_row (Answered q) (is_closing f.connection.phase && true) (ignores f) (answer_of x f i) (λ _. tt)
    (λ _. all_rows (Answered q) (not_in_phase x f 9) (rows_of x f i) (tt, tt)
    (all_within (Answered q) (is_established f.connection.phase) (retransmit_request_rows x f id timestamp first count) (λ now. (λ _. (tt, tt), λ _. (λ _. resends now, λ _. tt)))))
  where
    i : Incoming
    i = session (retransmit_request id timestamp first count)

    resends : is_established f.connection.phase ≡ true → Answered q (request_answered x f id timestamp (judged (is_own x id) (is_recoverable x.config.own_flow) first count f.recorded.sent))
    resends now = subst (λ (r : Result Range RetransmitCode). Answered q (request_answered x f id timestamp r))
        (sym (is_judged (is_own x id) (is_recoverable x.config.own_flow) first count f.recorded.sent
        (same_bytes id x.config.session (flows (ap (λ b. b || is_closing f.connection.phase) now) ∙ are.session)) rec names.1 names.2 names.3 below))
        ((names.0, names.2), requests_answer x q (gap_to_ask x (serves f (Some (record { from = first; count = count })))))

-- whatever the writer replies
pub answers_behind : (x : Around) (f : Facts) (theirs : EndConfig) (q : Request) (p : Piece) (turn : Bool → Bool) → Peer x.config theirs → (is_shaken f.connection.phase ≡ true → IsFlowing theirs p)
    → ((r : Range) → q ≡ requests.Asked r → (is_recoverable x.config.own_flow ≡ true) × (r.from + r.count ≤ f.recorded.sent + 1)) → Asks x f (asks p) (restarts p) turn (reply_of x f (incoming_of p)) → Names q p
    → Answered q (reply_of x f (incoming_of p))
answers_behind x f theirs q p turn are flows bounds c names = by_piece p flows names c.resent
  where
    by_piece : (k : Piece) → (is_shaken f.connection.phase ≡ true → IsFlowing theirs k) → Names q k → total restarts (said_all (reply_of x f (incoming_of k)).written) ≤ asks k → Answered q (reply_of x f (incoming_of k))
    by_piece (entry payload) w n few = all_none (Answers q) restarts (none_answered q) _ (omega (arith, few))
    by_piece (said m) w n few = by_message m w n few
      where
        by_message : (k : Message) → (is_shaken f.connection.phase ≡ true → IsFlowing theirs (said k)) → Names q (said k) → total restarts (said_all (reply_of x f (session k)).written) ≤ asks (said k)
            → Answered q (reply_of x f (session k))
        by_message (retransmit_request id timestamp first count) w n few =
            let b = bounds (record { from = first; count = count }) n.0 in request_reply x f theirs q id timestamp first count are w b.0 b.1 n
        by_message _ w n few = all_none (Answers q) restarts (none_answered q) _ (omega (arith, few))
