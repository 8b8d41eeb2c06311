-- What a reader in Established expects of numbers behind each message that is under way to it.
use Rattle.std.proofs.Common.{◌≡◌, ℕ, ◌+◌, ◌-◌, ◌≤◌, ◌==◌, ◌&&◌, ◌||◌, nat_lt, not, Bool, true, false, if◌then◌else◌, List, [], ◌∷◌, Option, Some, None, refl, sym, ap, subst, ◌∙◌, arith, true≢false, eqb-true, eq-eqb, ◌⊎◌, inl, inr, ◌<◌, min}
use Rattle.std.specs.Prelude.{⊤, is_some, is_none, unwrap_or, IfSome, Result, Ok, Err}
use Rattle.fixp_msgs.specs.declared.numbering.Range.{Range}
use Rattle.fixp_msgs.specs.declared.flow.Flow.{Flow}
use Rattle.fixp_msgs.specs.Message.{Message, negotiate, negotiation_response, negotiation_reject, establish, establishment_ack, establishment_reject, sequence, unsequenced_heartbeat, retransmit_request, retransmission, retransmit_reject, applied, not_applied, finished_sending, finished_receiving, terminate}
use Rattle.flow_recover.specs.declared.numbers.Seen.{Seen}
use Rattle.flow_recover.specs.declared.numbers.Seen.TheVariants.{Deliver, Hold, Gap, Repeat}
use Rattle.flow_recover.specs.Receiving as receiver_is
use Rattle.flow_retrans.specs.declared.requester.BadStart.{BadStart}
use Rattle.flow_retrans.specs.declared.judging.RetransmitCode.{RetransmitCode}
use Rattle.flow_retrans.specs.Judging.{judged}
use Rattle.flow_retrans.specs.Requests as request_is
use Rattle.fixp_shake.specs.declared.violation.Violation.{Violation}
use Rattle.fixp_shake.specs.declared.violation.Violation.TheVariants.{AfterFinish, WentBack, MissingNext, NumberTooLarge, FlowNone}
use Rattle.fixp_shake.specs.Flows.{is_recoverable, is_idempotent, is_sequenced, is_absent}
use Rattle.fixp_shake.specs.Phases.{is_established}
use Rattle.fixp_replies.specs.declared.act.Act.{Act}
use Rattle.fixp_replies.specs.declared.act.Act.TheVariants as acts
use Rattle.fixp_replies.specs.declared.act.Ending.{Ending}
use Rattle.fixp_replies.specs.declared.act.Ending.TheVariants as endings
use Rattle.fixp_replies.specs.declared.facts.Facts.{Facts}
use Rattle.fixp_replies.specs.declared.facts.OwnFinish.TheVariants as own
use Rattle.flow_retrans.specs.declared.request.Request.{Request}
use Rattle.flow_retrans.specs.declared.request.Request.TheVariants as requests
use Rattle.fixp_replies.specs.declared.facts.PeerFinish.TheVariants as peer
use Rattle.fixp_replies.specs.Incoming.{application, session}
use Rattle.fixp_replies.specs.Facts.{Around, is_own, receiving, requesting, firm, serves, awaiting, gap_to_ask, having_asked, expected_number, message_number, live_number, finishes_exchanged, peer_last, awaits_gap, gap_of, holding_too}
use Rattle.fixp_replies.specs.Outcomes.{Outcome, goes_on, accepts, ends, breaks, not_in_phase, skip_of, told_skip}
use Rattle.fixp_replies.specs.Announcing.{Announced, jumped_over, announced, announcement_fault, refuses}
use Rattle.fixp_replies.specs.Flowing.{bad_retransmission, counted, taken_as, peer_finished, answers_finish, is_filled, is_past_finish, sequence_follows, sequence_taken, restarted, finished_last, finish_fault, finished, is_last, application_rows, sequence_rows, retransmission_rows, retransmit_reject_rows, finished_sending_rows}
use Rattle.fixp_replies.specs.Serving.{request_answered, own_finishing, retransmit_request_rows, finished_receiving_rows}
use Rattle.fixp_replies.specs.Replies.{rows_of, answer_of}
use Rattle.honest_ends.proofs.Returning.{expected_most, asked_unmoved}
use Rattle.honest_ends.proofs.Running.{after_silent, after_announced}
use Rattle.fixp_machine.proofs.Rows.{by_row, all_rows, all_within}
use Rattle.connection_laws.specs.Writing.{Piece, said, entry}
use Rattle.two_ends.specs.Reading.{incoming_of}
use Rattle.fixp_shake.specs.declared.config.EndConfig.{EndConfig}
use Rattle.flow_recover.specs.Receiving.{Receiving, gap_end}
use Rattle.flow_recover.proofs.Chains.{next_counted}
use Rattle.std.proofs.lemmas.Bool.{ltb-false}
use Rattle.std.proofs.lemmas.Bool.Decides.{nat_tests}
use Rattle.fixp_machine.proofs.Tests.{delivers, passes, holds, other_gap}
use Rattle.honest_ends.proofs.Deciding.{Decides, decides_within, ended_by}
use Rattle.honest_ends.proofs.PhaseOpening.{asks_none}
use Rattle.honest_ends.proofs.Moving.{not_over}
use Rattle.honest_ends.proofs.Replying.{foreign, heard}
use Rattle.fixp_machine.specs.Sound.{Matches}
use Rattle.honest_ends.specs.Numbers.{Awaited, exactly, softly, After, AfterOther, Answers, Before, BeforeOther, HasOne, Idle, IsFlowing, IsWhole, Line, Lined, NotNumber, Other, Peer, Reaches, Rests, announces, awaited_after, live_after, left_after, to_come, goes_softly, expecting, lowest, HeldBelow, Applies}

no_violation : (A : Type 0) (v : Violation) → None ≡ Some (endings.Violation v) → NotNumber A v
no_violation A v e = absurd cc

terminated_fine : (A : Type 0) (b : Bool) (code : ℕ) (w : Violation) → Some (if b then endings.Finished else endings.PeerTerminated code) ≡ Some (endings.Violation w) → NotNumber A w
terminated_fine A true code w e = absurd cc
terminated_fine A false code w e = absurd cc

-- a gap ends at the live number, or below it
end_low : (h : Option ℕ) (live : ℕ) → IfSome h (λ n. n < live) → gap_end h live ≤ live
end_low None live below = omega arith
end_low (Some n) live below = omega (arith, below)

-- what is held lies below the live number
lowest_low : (f : Facts) → f.connection.receiver.next ≤ f.connection.receiver.live → lowest f ≤ f.connection.receiver.live
lowest_low f low = by_soft f.connection.soft
  where
    by_soft : (b : Bool) → (if b then f.connection.receiver.next else f.connection.receiver.live) ≤ f.connection.receiver.live
    by_soft true = low
    by_soft false = omega arith

less_still : (h : Option ℕ) (a b : ℕ) → a ≤ b → IfSome h (λ n. n < a) → IfSome h (λ n. n < b)
less_still None a b low below = tt
less_still (Some n) a b low below = omega (arith, low, below)

below_live : (x : Around) (f : Facts) → Line f → HeldBelow x f → IfSome x.held (λ n. n < f.connection.receiver.live)
below_live x f line below = less_still x.held (lowest f) f.connection.receiver.live (lowest_low f line.low) below

-- what is asked for leaves the reader in line
pub line_asked : (x : Around) (g : Facts) → HeldBelow x g → Line g → Line (having_asked g (gap_to_ask x g)) × (to_come (having_asked g (gap_to_ask x g)).connection.requester ≡ to_come g.connection.requester)
line_asked x g below line =
    by_cases g.connection.soft g.connection.requester (is_recoverable x.config.peer_flow) (nat_lt r.next (gap_end x.held r.live)) refl refl (end_low x.held r.live (below_live x g line below))
  where
    r : Receiving
    r = g.connection.receiver

    gap : Bool → Request → Bool → Bool → Option Range
    gap soft q rec b =
        if soft || is_some (request_is.outstanding q) then None
        else if rec then (if b then Some (record { from = r.next; count = gap_end x.held r.live - r.next }) else None) else None

    by_cases : (soft : Bool) (q : Request) (rec b : Bool) → g.connection.soft ≡ soft → g.connection.requester ≡ q → gap_end x.held r.live ≤ r.live
        → Line (having_asked g (gap soft q rec b)) × (to_come (having_asked g (gap soft q rec b)).connection.requester ≡ to_come g.connection.requester)
    by_cases true q rec b s e low = (line, refl)
    by_cases false requests.Nothing true true s e low =
        let none : r.again ≡ None = subst (λ (q : Request). Matches r q) e line.matches in
        let start = line.low in
        (record { waits = line.waits; low = start; matches = (none, omega (arith, start, low)); unasked = λ soft. absurd (true≢false (sym soft ∙ s)) }, sym (ap to_come e))
    by_cases false requests.Nothing true false s e low = (line, refl)
    by_cases false requests.Nothing false b s e low = (line, refl)
    by_cases false (requests.Asked range) rec b s e low = (line, refl)
    by_cases false (requests.Coming range next left) rec b s e low = (line, refl)

-- the receiver and softness decide what is expected
same_expecting : (f g : Facts) → g.connection.receiver.next ≡ f.connection.receiver.next → g.connection.receiver.live ≡ f.connection.receiver.live → g.connection.soft ≡ f.connection.soft → expecting g ≡ expecting f
same_expecting f g n l s = ap (λ (b : Bool). expecting_of b g.connection.receiver.next g.connection.receiver.live) s
    ∙ (ap (λ (k : ℕ). expecting_of f.connection.soft k g.connection.receiver.live) n ∙ ap (λ (k : ℕ). expecting_of f.connection.soft f.connection.receiver.next k) l)
  where
    expecting_of : Bool → ℕ → ℕ → Awaited
    expecting_of b next live = if b && nat_lt next live then softly next live else exactly live

pub firm_expecting : (f : Facts) → f.connection.soft ≡ false → expecting f ≡ exactly f.connection.receiver.live
firm_expecting f e = ap (λ (b : Bool). if b && nat_lt f.connection.receiver.next f.connection.receiver.live then softly f.connection.receiver.next f.connection.receiver.live else exactly f.connection.receiver.live) e

same_receiver : (f g : Facts) (least : ℕ) (a : Awaited) (l : Option ℕ) → g.connection.receiver ≡ f.connection.receiver → g.connection.requester ≡ f.connection.requester → g.recorded.inbox_next ≡ f.recorded.inbox_next
    → g.connection.soft ≡ f.connection.soft → Reaches f least a l → Reaches g least a l
same_receiver f g least a l r q n s h = record {
  line = record {
    waits = ap (λ k. k.next) r ∙ (h.line.waits ∙ sym n);
    low = subst (λ (k : Receiving). k.next ≤ k.live) (sym r) h.line.low;
    matches = subst (λ (k : Receiving). Matches k g.connection.requester) (sym r) (subst (λ (k : Request). Matches f.connection.receiver k) (sym q) h.line.matches);
    unasked = λ soft. q ∙ h.line.unasked (sym s ∙ soft);
  };
  rises = let k = h.rises in omega (arith, k, n);
  reach = same_expecting f g (ap (λ k. k.next) r) (ap (λ k. k.live) r) s ∙ h.reach;
  left = ap to_come q ∙ h.left;
}

-- the connection goes on
-- whether the message was the one that the inbox awaited
abbrev pub Moved : (f g : Facts) (l : Option ℕ) → Type 0
Moved f g l = (g.recorded.inbox_next ≡ f.recorded.inbox_next)
    ⊎ ((receiver_is.number f.connection.receiver ≡ f.recorded.inbox_next) × (g.recorded.inbox_next ≡ f.recorded.inbox_next + 1) × (is_some l ≡ is_some (to_come f.connection.requester)))

pub going : (x : Around) (A : Type 0) (f g : Facts) (act : Act) (written : List Message) (a : Awaited) (l : Option ℕ) → HeldBelow x g → Moved f g l → Reaches g f.recorded.inbox_next a l → Lined A f a l (goes_on x act written g)
going x A f g act written a l below moved h =
    let k = line_asked x g below h.line in
    let same = asked_unmoved g (gap_to_ask x g) in
    record {
      fine = no_violation A;
      next = λ _. record {
        line = k.0;
        rises = let up = h.rises in let n = same.inbox in omega (arith, up, n);
        reach = same_expecting g (having_asked g (gap_to_ask x g)) (ap (λ r. r.next) same.receiver) (ap (λ r. r.live) same.receiver) same.soft ∙ h.reach;
        left = k.1 ∙ h.left;
      };
      over = λ some. not_over {A = Ending} None refl some;
      moved = by_moved moved;
    }
  where
    o : Outcome
    o = goes_on x act written g

    inbox : o.next.recorded.inbox_next ≡ g.recorded.inbox_next
    inbox = (asked_unmoved g (gap_to_ask x g)).inbox

    by_moved : Moved f g l → (o.next.recorded.inbox_next ≡ f.recorded.inbox_next) ⊎ Applies f l o
    by_moved (inl e) = inl (inbox ∙ e)
    by_moved (inr m) = inr (record { number = m.0; next = inbox ∙ m.1; none = refl; left = m.2 })

-- it ends
ending : (x : Around) (A : Type 0) (f g : Facts) (code : ℕ) (v : Violation) (a : Awaited) (l : Option ℕ) → g.recorded.inbox_next ≡ f.recorded.inbox_next → NotNumber A v → Lined A f a l (ends x g code (endings.Violation v))
ending x A f g code v a l same h = record { fine = λ w e. ended_by (NotNumber A) (finishes_exchanged x g) v w e h; next = λ none. absurd cc; over = λ _. same; moved = inl same }

bad : (x : Around) (A : Type 0) (f : Facts) (k : Option BadStart) (a : Awaited) (l : Option ℕ) → is_some k ≡ true → (A → ⊥) → Lined A f a l (bad_retransmission x f k)
bad x A f None a l some wrong = absurd (true≢false (sym some))
bad x A f (Some k) a l some wrong = ending x A f f 2 _ a l refl wrong

refusing : (x : Around) (A : Type 0) (f g : Facts) (v : Option Violation) (a : Awaited) (l : Option ℕ) → g.recorded.inbox_next ≡ f.recorded.inbox_next → is_some v ≡ true → ((w : Violation) → v ≡ Some w → NotNumber A w)
    → Lined A f a l (refuses x g v)
refusing x A f g None a l same some h = absurd (true≢false (sym some))
refusing x A f g (Some v) a l same some h = ending x A f g 2 v a l same (h v refl)

pub number_fault : (A : Type 0) (x : Around) (f : Facts) (t : ℕ) (next : Option ℕ)
    → (is_sequenced x.config.peer_flow ≡ true → is_none next ≡ false → (nat_lt (x.most + 1) (unwrap_or next 0) ≡ false) × (nat_lt (unwrap_or next 0) (expected_number x f) ≡ false))
    → (v : Violation) → announcement_fault x f t next ≡ Some v → NotNumber A v
number_fault A x f t next fits v e = by_tests (is_sequenced x.config.peer_flow) (is_none next) (nat_lt (x.most + 1) (unwrap_or next 0)) (nat_lt (unwrap_or next 0) (expected_number x f)) fits e
  where
    by_tests : (numbered missing large back : Bool) → (numbered ≡ true → missing ≡ false → (large ≡ false) × (back ≡ false))
        → (if not numbered then None else if missing then Some (MissingNext t) else if large then Some (NumberTooLarge (unwrap_or next 0))
        else if back then Some (WentBack (unwrap_or next 0) (expected_number x f)) else None) ≡ Some v
        → NotNumber A v
    by_tests false missing large back fits e = absurd cc
    by_tests true true large back fits e = let same : MissingNext t ≡ v = cc e in subst (λ (u : Violation). NotNumber A u) same tt
    by_tests true false true back fits e = absurd (true≢false (fits refl refl).0)
    by_tests true false false true fits e = absurd (true≢false (fits refl refl).1)
    by_tests true false false false fits e = absurd cc

pub not_less : (a b : ℕ) → b ≤ a → nat_lt a b ≡ false
not_less a b h = grind (arith, nat_tests)

finish_fine : (A : Type 0) (x : Around) (f : Facts) (last : Option ℕ) (v : Violation) → finish_fault x f last ≡ Some v → NotNumber A v
finish_fine A x f last v e = by_tests (is_absent x.config.peer_flow) (is_sequenced x.config.peer_flow) (is_none last) (not (is_last x f (finished_last x last))) e
  where
    by_tests : (absent numbered missing other : Bool)
        → (if absent then Some (FlowNone 14) else if numbered && missing then Some (MissingNext 14)
        else if numbered && other then Some (AfterFinish (finished_last x last) (live_number x f)) else None) ≡ Some v
        → NotNumber A v
    by_tests true numbered missing other e = let same : FlowNone 14 ≡ v = cc e in subst (λ (u : Violation). NotNumber A u) same tt
    by_tests false true true other e = let same : MissingNext 14 ≡ v = cc e in subst (λ (u : Violation). NotNumber A u) same tt
    by_tests false true false true e = let same : AfterFinish (finished_last x last) (live_number x f) ≡ v = cc e in subst (λ (u : Violation). NotNumber A u) same tt
    by_tests false true false false e = absurd cc
    by_tests false false missing other e = absurd cc

-- a message more of a whole retransmission, and one that is not whole at its end
has_one : (q : Request) → HasOne (to_come q) → is_some (request_is.message_fault q) ≡ true → ⊥
has_one requests.Nothing one some = true≢false (sym some)
has_one (requests.Asked range) one some = true≢false (sym some)
has_one (requests.Coming range next left) one some = by_test (left == 0) refl some
  where
    by_test : (b : Bool) → (left == 0) ≡ b → is_some {T = BadStart} (if b then Some (record { expected = 0; found = next }) else None) ≡ true → ⊥
    by_test true e s = let none = eqb-true left 0 e in omega (arith, none, one)
    by_test false e s = true≢false (sym s)

is_whole : (q : Request) → IsWhole (to_come q) → is_some (request_is.sequence_fault q) ≡ true → ⊥
is_whole requests.Nothing whole some = true≢false (sym some)
is_whole (requests.Asked range) whole some = true≢false (sym some)
is_whole (requests.Coming range next left) whole some =
    true≢false (sym some ∙ ap (λ b. is_some {T = BadStart} (if b then None else Some (record { expected = next; found = 0 }))) (eq-eqb left 0 whole))

-- one message more is counted
record Counted (next live : ℕ) (l : Option ℕ) (b : ℕ) (r : Receiving) (q : Request) : Type 0 where
  low : r.next ≤ r.live
  matches : Matches r q
  number : r.live ≡ b
  left : to_come q ≡ l
  rises : next ≤ r.next
  grows : live ≤ r.live

one_past : (t : Bool) (n k : ℕ) → n + 1 ≤ k → (if t then n + 1 else n) ≤ k
one_past true n k h = h
one_past false n k h = omega (arith, h)

no_lower : (t : Bool) (n : ℕ) → n ≤ (if t then n + 1 else n)
no_lower true n = omega arith
no_lower false n = omega arith

past_again : (n next live : ℕ) → n + 1 ≤ live → next ≤ live → (if n == next then next + 1 else next) ≤ live
past_again n next live h low = by_test (n == next) refl
  where
    by_test : (t : Bool) → (n == next) ≡ t → (if t then next + 1 else next) ≤ live
    by_test true e = let same = eqb-true n next e in omega (arith, same, h)
    by_test false e = low

count_line : (flow : Flow) (next live : ℕ) (again : Option ℕ) (q : Request) → next ≤ live → Matches (record { next = next; live = live; again = again }) q → HasOne (to_come q)
    → Counted next live (left_after (entry []) (to_come q)) (live_after flow (entry []) live (to_come q)) (receiver_is.after_message (record { next = next; live = live; again = again })) (request_is.after_message q)
count_line flow next live None requests.Nothing low m one = record { low = one_past (live == next) next (live + 1) (omega (arith, low)); matches = refl; number = refl; left = refl; rises = no_lower (live == next) next; grows = omega arith }
count_line flow next live None (requests.Asked range) low m one =
    let k = m.1 in record { low = one_past (live == next) next (live + 1) (omega (arith, low)); matches = (refl, omega (arith, k)); number = refl; left = refl; rises = no_lower (live == next) next; grows = omega arith }
count_line flow next live None (requests.Coming range n left) low m one = absurd (cc (m.0))
count_line flow next live (Some k) requests.Nothing low m one = absurd (cc m)
count_line flow next live (Some k) (requests.Asked range) low m one = absurd (cc (m.0))
count_line flow next live (Some k) (requests.Coming range n left) low m one =
    let same : k ≡ n = cc (m.0) in
    let h = m.2 in
    record { low = past_again k next live (omega (arith, same, h, one)) low; matches = (ap (λ (j : ℕ). Some (j + 1)) same, m.1, omega (arith, h, one)); number = refl; left = refl; rises = no_lower (k == next) next; grows = omega arith }

counted_line : (flow : Flow) (f : Facts) → Line f → HasOne (to_come f.connection.requester)
    → Counted f.connection.receiver.next f.connection.receiver.live (left_after (entry []) (to_come f.connection.requester)) (live_after flow (entry []) f.connection.receiver.live (to_come f.connection.requester))
    (receiver_is.after_message f.connection.receiver) (request_is.after_message f.connection.requester)
counted_line flow f line one = count_line flow f.connection.receiver.next f.connection.receiver.live f.connection.receiver.again f.connection.requester line.low line.matches one

-- the number of the next message lies below the live number behind it
pub number_below : (flow : Flow) (r : Receiving) (q : Request) → Matches r q → HasOne (to_come q) → receiver_is.number r < live_after flow (entry []) r.live (to_come q)
number_below flow r q m one = by_cases r.next r.live r.again q m one
  where
    by_cases : (next live : ℕ) (again : Option ℕ) (q : Request) → Matches (record { next = next; live = live; again = again }) q → HasOne (to_come q)
        → unwrap_or again live < live_after flow (entry []) live (to_come q)
    by_cases next live None requests.Nothing m one = omega arith
    by_cases next live None (requests.Asked range) m one = omega arith
    by_cases next live None (requests.Coming range n left) m one = absurd (cc (m.0))
    by_cases next live (Some k) requests.Nothing m one = absurd (cc m)
    by_cases next live (Some k) (requests.Asked range) m one = absurd (cc (m.0))
    by_cases next live (Some k) (requests.Coming range n left) m one = let same : k ≡ n = cc (m.0) in let h = m.2 in omega (arith, same, h, one)

-- behind a message the reader is not soft
taking : (x : Around) (A : Type 0) (f : Facts) (s : Seen) (a : Awaited) (l : Option ℕ) → receiver_is.seen f.connection.receiver ≡ s → HeldBelow x f → Line f → HasOne (to_come f.connection.requester)
    → l ≡ left_after (entry []) (to_come f.connection.requester) → exactly (live_after x.config.peer_flow (entry []) f.connection.receiver.live (to_come f.connection.requester)) ≡ a → Lined A f a l (taken_as x (counted f) s)
taking x A f s a l is held line one e top = by_seen s is
  where
    r : Receiving
    r = f.connection.receiver

    c : Counted f.connection.receiver.next f.connection.receiver.live (left_after (entry []) (to_come f.connection.requester)) (live_after x.config.peer_flow (entry []) f.connection.receiver.live (to_come f.connection.requester))
        (receiver_is.after_message f.connection.receiver) (request_is.after_message f.connection.requester)
    c = counted_line x.config.peer_flow f line one

    passed : (t : Bool) → (receiver_is.number r == r.next) ≡ t → (receiver_is.after_message r).next ≡ (if t then r.next + 1 else r.next)
    passed t same = next_counted r.next r.live r.again ∙ ap (λ b. if b then r.next + 1 else r.next) same

    reached : (g : Facts) → g.connection.receiver ≡ receiver_is.after_message r → g.connection.requester ≡ request_is.after_message f.connection.requester → g.connection.soft ≡ false
        → g.connection.receiver.next ≡ g.recorded.inbox_next → f.recorded.inbox_next ≤ g.recorded.inbox_next → Reaches g f.recorded.inbox_next a l
    reached g same asked firm waits rises = record {
      line = record {
        waits = waits;
        low = subst (λ (k : Receiving). k.next ≤ k.live) (sym same) c.low;
        matches = subst (λ (k : Receiving). Matches k g.connection.requester) (sym same) (subst (λ (q : Request). Matches (receiver_is.after_message r) q) (sym asked) c.matches);
        unasked = λ soft. absurd (true≢false (sym soft ∙ firm));
      };
      rises = rises;
      reach = firm_expecting g firm ∙ (ap (λ (k : Receiving). exactly k.live) same ∙ (ap (λ (n : ℕ). exactly n) c.number ∙ top));
      left = ap to_come asked ∙ (c.left ∙ sym e);
    }

    -- a retransmission comes in as before
    comes : is_some l ≡ is_some (to_come f.connection.requester)
    comes = ap (λ (k : Option ℕ). is_some k) e ∙ by_left (to_come f.connection.requester)
      where
        by_left : (k : Option ℕ) → is_some (left_after (entry []) k) ≡ is_some k
        by_left None = refl
        by_left (Some k) = refl

    -- what is held is so still
    below : IfSome x.held (λ n. n < (receiver_is.after_message r).live)
    below = less_still x.held r.live (receiver_is.after_message r).live c.grows (below_live x f line held)

    held_low : (h : Option ℕ) (n k live : ℕ) → n ≡ k → k < live → IfSome h (λ j. j < live) → min n (unwrap_or h n) < live
    held_low None n k live same low all = omega (arith, same, low)
    held_low (Some j) n k live same low all = omega (arith, same, low, all)

    by_seen : (k : Seen) → receiver_is.seen r ≡ k → Lined A f a l (taken_as x (counted f) k)
    by_seen (Deliver n) is =
        let d = delivers r.next (receiver_is.number r) n is in
        let d0 = d.0 in
        let d1 = d.1 in
        let waits = line.waits in
        let next = passed true (eq-eqb (receiver_is.number r) r.next d.1) in
        going x A f (awaiting (counted f) (n + 1)) (acts.Apply n) [] a l below (inr (d1 ∙ waits, omega (arith, d0, d1, waits), comes)) (reached (awaiting (counted f) (n + 1)) refl refl refl (omega (arith, next, d0, d1)) (omega (arith, waits, d0, d1)))
    by_seen (Hold n) is =
        let d = holds r.next (receiver_is.number r) n is in
        let waits = line.waits in
        let next = passed false ((passes r.next (receiver_is.number r) n).hold is) in
        let number = c.number in
        let top = number_below x.config.peer_flow r f.connection.requester line.matches one in
        let k = going (holding_too x n) A f (counted f) acts.Nothing [] a l (held_low x.held n (receiver_is.number r) (receiver_is.after_message r).live d.0 (omega (arith, number, top)) below) (inl refl)
        (reached (counted f) refl refl refl (omega (arith, next, waits)) (omega arith)) in
        record { fine = k.fine; next = k.next; over = k.over; moved = inl (asked_unmoved (counted f) (gap_to_ask (holding_too x n) (counted f))).inbox }
    by_seen (Gap n) is =
        let waits = line.waits in
        let next = passed false ((passes r.next (receiver_is.number r) n).gap is) in
        going x A f (counted f) acts.Nothing [] a l below (inl refl) (reached (counted f) refl refl refl (omega (arith, next, waits)) (omega arith))
    by_seen (Repeat n) is =
        let waits = line.waits in
        let next = passed false ((passes r.next (receiver_is.number r) n).repeat is) in
        going x A f (counted f) acts.Nothing [] a l below (inl refl) (reached (counted f) refl refl refl (omega (arith, next, waits)) (omega arith))

-- a recoverable flow has numbers
pub sequenced_of : (flow : Flow) → is_recoverable flow ≡ true → is_sequenced flow ≡ true
sequenced_of flow e = ap (λ b. b || is_idempotent flow) e

-- what an announcement makes of a reader of a recoverable flow
pub announced_is : (x : Around) (f : Facts) (next : Option ℕ) → is_recoverable x.config.peer_flow ≡ true
    → announced x f next ≡ record { facts = firm (receiving f (receiver_is.announced f.connection.receiver (unwrap_or next 0))); skipped = None }
announced_is x f next rec = by_flow (is_recoverable x.config.peer_flow) (is_idempotent x.config.peer_flow) rec
  where
    chosen : (r i : Bool) → Announced
    chosen r i = if r then record { facts = firm (receiving f (receiver_is.announced f.connection.receiver (unwrap_or next 0))); skipped = None }
        else if i then record { facts = awaiting f (unwrap_or next 0); skipped = jumped_over f.recorded.inbox_next (unwrap_or next 0) }
        else record { facts = f; skipped = None }

    by_flow : (r i : Bool) → r ≡ true → chosen r i ≡ record { facts = firm (receiving f (receiver_is.announced f.connection.receiver (unwrap_or next 0))); skipped = None }
    by_flow true i e = refl
    by_flow false i e = absurd (true≢false (sym e))

ended_matches : (soft : Bool) (r : Receiving) (q : Request) (n : ℕ) → (soft ≡ true → q ≡ requests.Nothing) → Matches r q → (if soft then r.next else r.live) ≤ n
    → Matches (receiver_is.announced r n) (request_is.after_sequence q) × (to_come (request_is.after_sequence q) ≡ None)
ended_matches soft r requests.Nothing n u m h = (refl, refl)
ended_matches true r (requests.Asked range) n u m h = absurd (cc (u refl))
ended_matches false r (requests.Asked range) n u m h = let k = m.1 in ((refl, omega (arith, k, h)), refl)
ended_matches soft r (requests.Coming range next left) n u m h = (refl, refl)

-- what is announced is not below what is expected, nor below the next number
lowest_next : (soft : Bool) (r : Receiving) (n : ℕ) → r.next ≤ r.live → (if soft then r.next else r.live) ≤ n → (r.next ≤ n) × ((if soft then r.next else receiver_is.expected r) ≤ n)
lowest_next true r n low h = (h, h)
lowest_next false r n low h = (omega (arith, low, h), omega (arith, low, h))

following : (x : Around) (A : Type 0) (f g : Facts) (next : ℕ) (a : Announced) (w : Awaited) (l : Option ℕ) → g.recorded.inbox_next ≡ f.recorded.inbox_next
    → HeldBelow x a.facts → a.facts.recorded.inbox_next ≡ f.recorded.inbox_next → Reaches a.facts f.recorded.inbox_next w l → Lined A f w l (sequence_follows x g next a)
following x A f g next a w l same below inbox h =
    by_row (Lined A f w l) (is_past_finish x g next) (breaks x g (AfterFinish (unwrap_or (peer_last g) 0) next)) (sequence_taken x a)
    (λ _. ending x A f g 2 _ w l same tt)
    (λ _. by_row (Lined A f w l) (is_filled x a.facts) (answers_finish x a.facts (unwrap_or (awaits_gap a.facts.connection.peer_finish) 0)) (goes_on x (skip_of a.skipped) (told_skip a.skipped) a.facts)
    (λ _. going x A f (peer_finished a.facts (peer.Exchanged (unwrap_or (awaits_gap a.facts.connection.peer_finish) 0)) (Some (unwrap_or a.facts.recorded.peer_last (unwrap_or (awaits_gap a.facts.connection.peer_finish) 0)))) _ (finished_receiving x.config.session ∷ []) w l below (inl inbox)
    (same_receiver a.facts _ f.recorded.inbox_next w l refl refl refl refl h))
    (λ _. going x A f a.facts (skip_of a.skipped) (told_skip a.skipped) w l below (inl inbox) h))

-- nothing of it moves
abbrev Stays : Type 0 → Facts → Outcome → Type 0
Stays A f o = Lined A f (expecting f) (to_come f.connection.requester) o

-- so it is behind a message that announces nothing, and begins no retransmission
silently : (x : Around) (f : Facts) (m : Message) (o : Outcome) → announces x.config.peer_flow (said m) ≡ None → left_after (said m) (to_come f.connection.requester) ≡ to_come f.connection.requester
    → Stays (Answers f.connection.requester (said m)) f o → After x f (said m) o
silently x f m o e same h =
    subst (λ (a : Awaited). Lined (Answers f.connection.requester (said m)) f a (left_after (said m) (to_come f.connection.requester)) o) (sym (after_silent x.config.peer_flow m (expecting f) (to_come f.connection.requester) e))
    (subst (λ (l : Option ℕ). Lined (Answers f.connection.requester (said m)) f (expecting f) l o) (sym same) h)

here : (f : Facts) → Line f → Reaches f f.recorded.inbox_next (expecting f) (to_come f.connection.requester)
here f line = record { line = line; rises = omega arith; reach = refl; left = refl }

passing : (x : Around) (A : Type 0) (f g : Facts) (act : Act) (written : List Message) → HeldBelow x f → Line f → g.connection.receiver ≡ f.connection.receiver → g.connection.requester ≡ f.connection.requester
    → g.recorded.inbox_next ≡ f.recorded.inbox_next → g.connection.soft ≡ f.connection.soft → Stays A f (goes_on x act written g)
passing x A f g act written below line r q n s =
    going x A f g act written (expecting f) (to_come f.connection.requester) (subst (λ (n : ℕ). IfSome x.held (λ j. j < n)) (sym same_lowest) below) (inl n) (same_receiver f g f.recorded.inbox_next (expecting f) (to_come f.connection.requester) r q n s (here f line))
  where
    same_lowest : lowest g ≡ lowest f
    same_lowest = ap (λ (b : Bool). if b then g.connection.receiver.next else g.connection.receiver.live) s ∙ ap (λ (k : Receiving). if f.connection.soft then k.next else k.live) r

-- a message of the flow makes what is expected exactly one number
pub entry_reach : (flow : Flow) (f : Facts) (payload : List ℕ) (l : Option ℕ) → awaited_after flow (entry payload) (expecting f) l ≡ exactly (live_after flow (entry payload) f.connection.receiver.live l)
entry_reach flow f payload l = by_test (goes_softly f)
  where
    by_test : (t : Bool) → awaited_after flow (entry payload) (if t then softly f.connection.receiver.next f.connection.receiver.live else exactly f.connection.receiver.live) l ≡ exactly (live_after flow (entry payload) f.connection.receiver.live l)
    by_test true = refl
    by_test false = refl

message_lined : (x : Around) (f : Facts) (payload : List ℕ) → Before x f (entry payload) → Decides (After x f (entry payload)) (application_rows x f)
message_lined x f payload k =
    let a : Awaited = awaited_after x.config.peer_flow (entry payload) (expecting f) (to_come f.connection.requester) in
    let l : Option ℕ = left_after (entry payload) (to_come f.connection.requester) in (
      λ _. ending x ⊤ f f 2 _ a l refl tt,
      λ _. (
        λ _. ending x ⊤ f f 2 _ a l refl tt,
        λ _. (
          λ large. absurd (true≢false (sym large ∙ not_less x.most (message_number x f) low)),
          λ _. (
            λ other. absurd (true≢false (sym other ∙ ap not k.recoverable)),
            λ _. (
              λ some. absurd (has_one f.connection.requester k.fits some),
              λ _. (λ _. taking x ⊤ f (receiver_is.seen f.connection.receiver) a l refl k.held k.line k.fits refl (sym (entry_reach x.config.peer_flow f payload (to_come f.connection.requester))), λ e. absurd (true≢false e)),
            ),
          ),
        ),
      ),
    )
  where
    low : message_number x f ≤ x.most
    low = subst (λ (r : Bool). (if r then receiver_is.number f.connection.receiver else f.recorded.inbox_next) ≤ x.most) (sym k.recoverable)
        (let top = k.top refl in let below = number_below x.config.peer_flow f.connection.receiver f.connection.requester k.line.matches k.fits in omega (arith, top, below))

-- a Sequence of a flow with numbers
told : (flow : Flow) (next b : ℕ) → is_sequenced flow ≡ true → live_after flow (said (sequence next)) b None ≡ next
told flow next b e = ap (λ t. unwrap_or (if t then Some next else None) b) e

told_low : (flow : Flow) (next b : ℕ) → is_sequenced flow ≡ true → IfSome (announces flow (said (sequence next))) (λ n. b ≤ n) → b ≤ next
told_low flow next b e h = subst (λ (t : Bool). IfSome (if t then Some next else None) (λ n. b ≤ n)) e h

sequence_lined : (x : Around) (f : Facts) (next : ℕ) → Before x f (said (sequence next)) → Decides (After x f (said (sequence next))) (sequence_rows x f next)
sequence_lined x f next k = subst (λ (a : Awaited). Decides (Lined ⊤ f a None) (sequence_rows x f next)) (sym is_reached) (
  λ some. absurd (is_whole f.connection.requester k.fits.1 some),
  λ _. (
    λ some. refusing x ⊤ f g (announcement_fault x g 7 (Some next)) (exactly next) None refl some
        (number_fault ⊤ x g 7 (Some next) (λ _ _. (not_less (x.most + 1) next top, not_less next (expected_number x g) high))),
    λ _. (
      λ _. following x ⊤ f g next (announced x g (Some next)) (exactly next) None refl
          (subst (λ (a : Announced). HeldBelow x a.facts) (sym is) (less_still x.held (lowest f) next enough k.held)) (ap (λ (a : Announced). a.facts.recorded.inbox_next) is) reached,
      λ e. absurd (true≢false e),
    ),
  ),
)
  where
    g : Facts
    g = requesting f (request_is.after_sequence f.connection.requester)

    numbered : is_sequenced x.config.peer_flow ≡ true
    numbered = sequenced_of x.config.peer_flow k.recoverable

    is_told : announces x.config.peer_flow (said (sequence next)) ≡ Some next
    is_told = ap (λ t. if t then Some next else None) numbered

    is_reached : awaited_after x.config.peer_flow (said (sequence next)) (expecting f) (to_come f.connection.requester) ≡ exactly next
    is_reached = after_announced x.config.peer_flow (sequence next) (expecting f) (to_come f.connection.requester) next is_told

    top : next ≤ x.most + 1
    top = let t = told x.config.peer_flow next f.connection.receiver.live numbered in let high = k.top (ap (λ o. is_some o) is_told) in omega (arith, t, high)

    enough : lowest f ≤ next
    enough = told_low x.config.peer_flow next (lowest f) numbered k.fits.0

    both : (f.connection.receiver.next ≤ next) × ((if f.connection.soft then f.connection.receiver.next else receiver_is.expected f.connection.receiver) ≤ next)
    both = lowest_next f.connection.soft f.connection.receiver next k.line.low enough

    high : expected_number x g ≤ next
    high = subst (λ (r : Bool). (if r then (if f.connection.soft then f.connection.receiver.next else receiver_is.expected f.connection.receiver) else f.recorded.inbox_next) ≤ next) (sym k.recoverable) both.1

    is : announced x g (Some next) ≡ record { facts = firm (receiving g (receiver_is.announced g.connection.receiver next)); skipped = None }
    is = announced_is x g (Some next) k.recoverable

    reached : Reaches (announced x g (Some next)).facts f.recorded.inbox_next (exactly next) None
    reached =
        let m = ended_matches f.connection.soft f.connection.receiver f.connection.requester next k.line.unasked k.line.matches enough in
        subst (λ (a : Announced). Reaches a.facts f.recorded.inbox_next (exactly next) None) (sym is)
        (record { line = record { waits = k.line.waits; low = both.0; matches = m.0; unasked = λ soft. absurd (true≢false (sym soft)) }; rises = omega arith; reach = refl; left = m.1 })

-- a Retransmission that answers the request
begins : (r : Receiving) (q : Request) (next count : ℕ) → to_come q ≡ None → Matches r q → is_some (request_is.start_fault (request_is.outstanding q) next count) ≡ false
    → Matches (receiver_is.retransmitted r next) (request_is.started q next count) × (to_come (request_is.started q next count) ≡ Some count)
begins r requests.Nothing next count none m e = absurd (true≢false e)
begins r (requests.Asked range) next count none m e =
    let t = tests (next == range.from) (count == 0 || nat_lt range.count count) e in
    let same = eqb-true next range.from t.0 in
    let few = ltb-false range.count count (or_right (count == 0) (nat_lt range.count count) t.1) in
    let h = m.1 in
    ((refl, h, omega (arith, same, few, h)), refl)
  where
    tests : (a b : Bool) → is_some {T = BadStart} (if not a then Some (record { expected = range.from; found = next }) else if b then Some (record { expected = range.count; found = count }) else None) ≡ false
        → (a ≡ true) × (b ≡ false)
    tests true false e = (refl, refl)
    tests true true e = absurd (true≢false e)
    tests false b e = absurd (true≢false e)

    or_right : (a b : Bool) → (a || b) ≡ false → b ≡ false
    or_right true b e = absurd (true≢false e)
    or_right false b e = e
begins r (requests.Coming range n left) next count none m e = absurd (cc none)

-- it does
no_fault : (q : Request) (next count : ℕ) → (q ≡ requests.Asked (record { from = next; count = count })) × (1 ≤ count) → is_some (request_is.start_fault (request_is.outstanding q) next count) ≡ false
no_fault q next count a = ap (λ (r : Request). is_some (request_is.start_fault (request_is.outstanding r) next count)) a.0
    ∙ (ap (λ b. is_some {T = BadStart} (if not b then Some (record { expected = next; found = next }) else if count == 0 || nat_lt count count then Some (record { expected = count; found = count }) else None)) (eq-eqb next next refl)
    ∙ ap (λ b. is_some {T = BadStart} (if b then Some (record { expected = count; found = count }) else None)) (some_of_it count a.1))
  where
    some_of_it : (n : ℕ) → 1 ≤ n → (n == 0 || nat_lt n n) ≡ false
    some_of_it n h = grind (arith, nat_tests)

never_starts : (q : Request) (next count : ℕ) → q ≡ requests.Nothing → is_some (request_is.start_fault (request_is.outstanding q) next count) ≡ true
never_starts q next count e = ap (λ k. is_some (request_is.start_fault (request_is.outstanding k) next count)) e

restart_lined : (x : Around) (f : Facts) (id : List ℕ) (next timestamp count : ℕ) → Before x f (said (retransmission id next timestamp count))
    → Decides (After x f (said (retransmission id next timestamp count))) (retransmission_rows x f next count)
restart_lined x f id next timestamp count k =
    let A = Answers f.connection.requester (said (retransmission id next timestamp count)) in
    subst (λ (a : Awaited). Decides (Lined A f a (Some count)) (retransmission_rows x f next count))
    (sym (after_silent x.config.peer_flow (retransmission id next timestamp count) (expecting f) (to_come f.connection.requester) refl)) (
      λ some. bad x A f (request_is.start_fault (request_is.outstanding f.connection.requester) next count) (expecting f) (Some count) some
          (λ a. true≢false (sym some ∙ no_fault f.connection.requester next count a)),
      λ fits. (
        λ _. let m = begins f.connection.receiver f.connection.requester next count k.fits.1 k.line.matches fits in
            going x A f (restarted f next count) acts.Nothing [] (expecting f) (Some count) k.held (inl refl) (record {
              line = record { waits = k.line.waits; low = k.line.low; matches = m.0; unasked = λ soft. absurd (true≢false (sym (never_starts f.connection.requester next count (k.line.unasked soft)) ∙ fits)) };
              rises = omega arith;
              reach = same_expecting f (restarted f next count) refl refl refl;
              left = m.1;
            }),
        λ e. absurd (true≢false e),
      ),
    )

requested : (x : Around) (f : Facts) (id : List ℕ) (timestamp : ℕ) (r : Result Range RetransmitCode) → HeldBelow x f → Line f → Stays ⊤ f (request_answered x f id timestamp r)
requested x f id timestamp (Ok range) below line = passing x ⊤ f (serves f (Some range)) acts.Nothing (retransmission x.config.session range.from timestamp range.count ∷ []) below line refl refl refl refl
requested x f id timestamp (Err code) below line = record { fine = no_violation ⊤; next = λ _. here f line; over = λ some. not_over {A = Ending} None refl some; moved = inl refl }

finishing : (x : Around) (f : Facts) (n : ℕ) → HeldBelow x f → Line f → Stays ⊤ f (finished x f n)
finishing x f n below line = by_row (Stays ⊤ f) (is_some (gap_of x f)) (accepts x [] (peer_finished f (peer.Read n) f.recorded.peer_last)) (answers_finish x f n)
    (λ _. passing x ⊤ f (peer_finished f (peer.Read n) f.recorded.peer_last) acts.Nothing [] below line refl refl refl refl)
    (λ _. passing x ⊤ f (peer_finished f (peer.Exchanged n) (Some (unwrap_or f.recorded.peer_last n))) _ (finished_receiving x.config.session ∷ []) below line refl refl refl refl)

stopping : (x : Around) (A : Type 0) (f : Facts) (code : ℕ) (v : Violation) → NotNumber A v → Stays A f (ends x f code (endings.Violation v))
stopping x A f code v h = ending x A f f code v (expecting f) (to_come f.connection.requester) refl h

-- the reply in Established of a reader of a recoverable flow
pub recoverable_reply : (x : Around) (f : Facts) (theirs : EndConfig) (p : Piece) → Peer x.config theirs → is_established f.connection.phase ≡ true → IsFlowing theirs p → Before x f p → After x f p (answer_of x f (incoming_of p))
recoverable_reply x f theirs (entry payload) are now flows k =
    heard (After x f (entry payload)) x f (application payload) (decides_within (After x f (entry payload)) (is_established f.connection.phase) (application_rows x f) now (message_lined x f payload k))
recoverable_reply x f theirs (said (negotiate id timestamp flow credentials)) are now flows k = absurd flows
recoverable_reply x f theirs (said (negotiation_response id timestamp flow credentials)) are now flows k = absurd flows
recoverable_reply x f theirs (said (negotiation_reject id timestamp code reason)) are now flows k = absurd flows
recoverable_reply x f theirs (said (establish id timestamp keepalive next expected credentials)) are now flows k = absurd flows
recoverable_reply x f theirs (said (establishment_ack id timestamp keepalive next expected)) are now flows k = absurd flows
recoverable_reply x f theirs (said (establishment_reject id timestamp code reason)) are now flows k = absurd flows
recoverable_reply x f theirs (said (sequence next)) are now flows k =
    heard (After x f (said (sequence next))) x f (session (sequence next)) (decides_within (After x f (said (sequence next))) (is_established f.connection.phase) (sequence_rows x f next) now (sequence_lined x f next k))
recoverable_reply x f theirs (said unsequenced_heartbeat) are now flows k =
    silently x f unsequenced_heartbeat _ refl refl (passing x ⊤ f f acts.Nothing [] k.held k.line refl refl refl refl)
recoverable_reply x f theirs (said (retransmit_request id timestamp first count)) are now flows k =
    silently x f (retransmit_request id timestamp first count) _ refl refl (heard (Stays ⊤ f) x f (session (retransmit_request id timestamp first count)) (decides_within (Stays ⊤ f) (is_established f.connection.phase) (retransmit_request_rows x f id timestamp first count) now (
      λ _. stopping x ⊤ f 4 _ tt,
      λ _. (λ _. requested x f id timestamp (judged (is_own x id) (is_recoverable x.config.own_flow) first count f.recorded.sent) k.held k.line, λ e. absurd (true≢false e)),
    )))
recoverable_reply x f theirs (said (retransmission id next timestamp count)) are now flows k =
    let P = After x f (said (retransmission id next timestamp count)) in
    heard P x f (session (retransmission id next timestamp count)) (
      foreign x id (flows ∙ are.session),
      λ _.
          decides_within P (is_established f.connection.phase) (retransmission_rows x f next count) now (restart_lined x f id next timestamp count k),
    )
recoverable_reply x f theirs (said (retransmit_reject id timestamp code reason)) are now flows k =
    silently x f (retransmit_reject id timestamp code reason) _ refl refl (heard (Stays ⊥ f) x f (session (retransmit_reject id timestamp code reason)) (
      foreign x id (flows ∙ are.session),
      λ _.
          decides_within (Stays ⊥ f) (is_established f.connection.phase) (retransmit_reject_rows x f) now (λ _. stopping x ⊥ f 2 _ (λ wrong. wrong), λ e. absurd (true≢false e)),
    ))
recoverable_reply x f theirs (said (applied first count)) are now flows k =
    silently x f (applied first count) _ refl refl (passing x ⊤ f f acts.Nothing [] k.held k.line refl refl refl refl)
recoverable_reply x f theirs (said (not_applied first count)) are now flows k =
    silently x f (not_applied first count) _ refl refl (by_row (Stays ⊤ f) (is_idempotent x.config.own_flow) (goes_on x (acts.Told first count) [] f) (accepts x [] f)
    (λ _. passing x ⊤ f f (acts.Told first count) [] k.held k.line refl refl refl refl) (λ _. passing x ⊤ f f acts.Nothing [] k.held k.line refl refl refl refl))
recoverable_reply x f theirs (said (finished_sending id last)) are now flows k =
    silently x f (finished_sending id last) _ refl refl (heard (Stays ⊤ f) x f (session (finished_sending id last)) (
      foreign x id (flows.0 ∙ are.session),
      λ _.
          decides_within (Stays ⊤ f) (is_established f.connection.phase) (finished_sending_rows x f last) now (
            λ some. refusing x ⊤ f f (finish_fault x f last) (expecting f) (to_come f.connection.requester) refl some (finish_fine ⊤ x f last),
            λ _. (λ _. finishing x f (finished_last x last) k.held k.line, λ e. absurd (true≢false e)),
          ),
    ))
recoverable_reply x f theirs (said (finished_receiving id)) are now flows k =
    silently x f (finished_receiving id) _ refl refl (all_rows (Stays ⊤ f) (not_in_phase x f 15) (rows_of x f (session (finished_receiving id))) (stopping x ⊤ f 2 _ tt)
    (foreign x id (flows ∙ are.session), λ _. all_within (Stays ⊤ f) (is_established f.connection.phase) (finished_receiving_rows x f) (λ _. (λ _. passing x ⊤ f (own_finishing f own.Exchanged) acts.Nothing [] k.held k.line refl refl refl refl, λ _. tt))))
recoverable_reply x f theirs (said (terminate id code reason)) are now flows k =
    silently x f (terminate id code reason) _ refl refl (heard (Stays ⊤ f) x f (session (terminate id code reason)) (
      foreign x id (flows ∙ are.session),
      λ _.
          (λ _. record { fine = λ w same. terminated_fine ⊤ (finishes_exchanged x f) code w same; next = λ none. absurd cc; over = λ _. refl; moved = inl refl }, λ e. absurd (true≢false e)),
    ))

pub rests : (x : Around) (A : Type 0) (f g : Facts) (act : Act) (written : List Message) (b : ℕ) → is_recoverable x.config.peer_flow ≡ false → Rests g b → Other A f b (goes_on x act written g)
rests x A f g act written b other h = record {
  fine = no_violation A;
  next = λ _. subst (λ (r : Option Range). Rests (having_asked g r) b) (sym (asks_none x g (other_gap x g other))) h;
  over = λ some. not_over {A = Ending} None refl some;
}

stops : (x : Around) (A : Type 0) (f g : Facts) (code : ℕ) (v : Violation) (b : ℕ) → g.recorded.inbox_next ≡ f.recorded.inbox_next → NotNumber A v → Other A f b (ends x g code (endings.Violation v))
stops x A f g code v b same h = record { fine = λ w e. ended_by (NotNumber A) (finishes_exchanged x g) v w e h; next = λ none. absurd cc; over = λ _. same }

refusing_other : (x : Around) (A : Type 0) (f g : Facts) (v : Option Violation) (b : ℕ) → g.recorded.inbox_next ≡ f.recorded.inbox_next → is_some v ≡ true → ((w : Violation) → v ≡ Some w → NotNumber A w)
    → Other A f b (refuses x g v)
refusing_other x A f g None b same some h = absurd (true≢false (sym some))
refusing_other x A f g (Some v) b same some h = stops x A f g 2 v b same (h v refl)

-- nothing of it moves
abbrev StaysOther : Type 0 → Facts → Outcome → Type 0
StaysOther A f o = Other A f f.recorded.inbox_next o

rest : (f : Facts) → Idle f → Rests f f.recorded.inbox_next
rest f idle = record { idle = idle; next = refl }

message_rests : (x : Around) (f : Facts) (payload : List ℕ) → BeforeOther x f (entry payload) → Decides (Other ⊤ f (f.recorded.inbox_next + 1)) (application_rows x f)
message_rests x f payload k =
    let b : ℕ = f.recorded.inbox_next + 1 in (
      λ _. stops x ⊤ f f 2 _ b refl tt,
      λ _. (
        λ _. stops x ⊤ f f 2 _ b refl tt,
        λ _. (
          λ large. absurd (true≢false (sym large ∙ not_less x.most (message_number x f) low)),
          λ _. (
            λ _. rests x ⊤ f (awaiting f (f.recorded.inbox_next + 1)) (acts.Apply f.recorded.inbox_next) [] b k.other (record { idle = record { even = k.idle.even; none = k.idle.none; firm = k.idle.firm }; next = refl }),
            λ rec. absurd (true≢false (sym (ap not k.other) ∙ rec)),
          ),
        ),
      ),
    )
  where
    low : message_number x f ≤ x.most
    low = subst (λ (r : Bool). (if r then receiver_is.number f.connection.receiver else f.recorded.inbox_next) ≤ x.most) (sym k.other) (let top = k.top in omega (arith, top))

following_other : (x : Around) (A : Type 0) (f g : Facts) (next : ℕ) (a : Announced) (b : ℕ) → is_recoverable x.config.peer_flow ≡ false → g.recorded.inbox_next ≡ f.recorded.inbox_next → Rests a.facts b
    → Other A f b (sequence_follows x g next a)
following_other x A f g next a b other same h =
    by_row (Other A f b) (is_past_finish x g next) (breaks x g (AfterFinish (unwrap_or (peer_last g) 0) next)) (sequence_taken x a)
    (λ _. stops x A f g 2 _ b same tt)
    (λ _. by_row (Other A f b) (is_filled x a.facts) (answers_finish x a.facts (unwrap_or (awaits_gap a.facts.connection.peer_finish) 0)) (goes_on x (skip_of a.skipped) (told_skip a.skipped) a.facts)
    (λ _. rests x A f (peer_finished a.facts (peer.Exchanged (unwrap_or (awaits_gap a.facts.connection.peer_finish) 0)) (Some (unwrap_or a.facts.recorded.peer_last (unwrap_or (awaits_gap a.facts.connection.peer_finish) 0)))) _ (finished_receiving x.config.session ∷ []) b other
    (record { idle = record { even = h.idle.even; none = h.idle.none; firm = h.idle.firm }; next = h.next }))
    (λ _. rests x A f a.facts (skip_of a.skipped) (told_skip a.skipped) b other h))

-- what an announcement makes of a reader of a flow that is not recoverable: an idempotent one awaits the number, and another what it did
pub announced_rests : (x : Around) (g : Facts) (next : Option ℕ) (b : ℕ) → is_recoverable x.config.peer_flow ≡ false → Idle g → (is_idempotent x.config.peer_flow ≡ false → g.recorded.inbox_next ≡ b)
    → (is_idempotent x.config.peer_flow ≡ true → unwrap_or next 0 ≡ b) → Rests (announced x g next).facts b
announced_rests x g next b other idle stays moves = by_flow (is_recoverable x.config.peer_flow) (is_idempotent x.config.peer_flow) other stays moves
  where
    chosen : (r i : Bool) → Announced
    chosen r i = if r then record { facts = firm (receiving g (receiver_is.announced g.connection.receiver (unwrap_or next 0))); skipped = None }
        else if i then record { facts = awaiting g (unwrap_or next 0); skipped = jumped_over g.recorded.inbox_next (unwrap_or next 0) }
        else record { facts = g; skipped = None }

    by_flow : (r i : Bool) → r ≡ false → (i ≡ false → g.recorded.inbox_next ≡ b) → (i ≡ true → unwrap_or next 0 ≡ b) → Rests (chosen r i).facts b
    by_flow true i e stays moves = absurd (true≢false e)
    by_flow false true e stays moves = record { idle = record { even = idle.even; none = idle.none; firm = idle.firm }; next = moves refl }
    by_flow false false e stays moves = record { idle = idle; next = stays refl }

-- a flow that is not recoverable has numbers where it is idempotent
pub other_sequenced : (flow : Flow) (b : Bool) → is_recoverable flow ≡ false → is_idempotent flow ≡ b → is_sequenced flow ≡ b
other_sequenced flow b r i = ap (λ t. t || is_idempotent flow) r ∙ i

sequence_rests : (x : Around) (f : Facts) (next : ℕ) → BeforeOther x f (said (sequence next)) → Decides (AfterOther x f (said (sequence next))) (sequence_rows x f next)
sequence_rests x f next k = (
  λ some. absurd (is_whole f.connection.requester (subst (λ (q : Request). IsWhole (to_come q)) (sym k.idle.none) tt) some),
  λ _. (
    λ some. refusing_other x ⊤ f g (announcement_fault x g 7 (Some next)) b refl some
        (number_fault ⊤ x g 7 (Some next) (λ numbered _. (not_less (x.most + 1) next (low numbered), not_less next (expected_number x g) (high numbered)))),
    λ _. (λ _. following_other x ⊤ f g next (announced x g (Some next)) b k.other refl (announced_rests x g (Some next) b k.other idle stays moves), λ e. absurd (true≢false e)),
  ),
)
  where
    flow : Flow
    flow = x.config.peer_flow

    g : Facts
    g = requesting f (request_is.after_sequence f.connection.requester)

    b : ℕ
    b = live_after x.config.peer_flow (said (sequence next)) f.recorded.inbox_next None

    idle : Idle g
    idle = record { even = k.idle.even; none = ap (λ q. request_is.after_sequence q) k.idle.none; firm = k.idle.firm }

    stays : is_idempotent flow ≡ false → f.recorded.inbox_next ≡ b
    stays e = sym (ap (λ t. unwrap_or (if t then Some next else None) f.recorded.inbox_next) (other_sequenced flow false k.other e))

    moves : is_idempotent flow ≡ true → next ≡ b
    moves e = sym (told flow next f.recorded.inbox_next (other_sequenced flow true k.other e))

    low : is_sequenced flow ≡ true → next ≤ x.most + 1
    low numbered = let t = told flow next f.recorded.inbox_next numbered in let top = k.top in omega (arith, t, top)

    high : is_sequenced flow ≡ true → expected_number x g ≤ next
    high numbered = omega (arith, expected_most x g, subst (λ (r : Bool). (if r then receiver_is.expected f.connection.receiver else f.recorded.inbox_next) ≤ next) (sym k.other) (told_low flow next f.recorded.inbox_next numbered k.fits.0))

passing_other : (x : Around) (A : Type 0) (f g : Facts) (act : Act) (written : List Message) → is_recoverable x.config.peer_flow ≡ false → Idle f → g.connection.receiver ≡ f.connection.receiver → g.connection.requester ≡ f.connection.requester
    → g.recorded.inbox_next ≡ f.recorded.inbox_next → g.connection.soft ≡ f.connection.soft → StaysOther A f (goes_on x act written g)
passing_other x A f g act written other idle r q n s = rests x A f g act written f.recorded.inbox_next other
    (record { idle = record { even = ap (λ k. receiver_is.gap None k) r ∙ idle.even; none = q ∙ idle.none; firm = s ∙ idle.firm }; next = n })

requested_other : (x : Around) (f : Facts) (id : List ℕ) (timestamp : ℕ) (r : Result Range RetransmitCode) → is_recoverable x.config.peer_flow ≡ false → Idle f → StaysOther ⊤ f (request_answered x f id timestamp r)
requested_other x f id timestamp (Ok range) other idle = passing_other x ⊤ f (serves f (Some range)) acts.Nothing (retransmission x.config.session range.from timestamp range.count ∷ []) other idle refl refl refl refl
requested_other x f id timestamp (Err code) other idle = record { fine = no_violation ⊤; next = λ _. rest f idle; over = λ some. not_over {A = Ending} None refl some }

finishing_other : (x : Around) (f : Facts) (n : ℕ) → is_recoverable x.config.peer_flow ≡ false → Idle f → StaysOther ⊤ f (finished x f n)
finishing_other x f n other idle = by_row (StaysOther ⊤ f) (is_some (gap_of x f)) (accepts x [] (peer_finished f (peer.Read n) f.recorded.peer_last)) (answers_finish x f n)
    (λ _. passing_other x ⊤ f (peer_finished f (peer.Read n) f.recorded.peer_last) acts.Nothing [] other idle refl refl refl refl)
    (λ _. passing_other x ⊤ f (peer_finished f (peer.Exchanged n) (Some (unwrap_or f.recorded.peer_last n))) _ (finished_receiving x.config.session ∷ []) other idle refl refl refl refl)

bad_other : (x : Around) (A : Type 0) (f : Facts) (k : Option BadStart) (b : ℕ) → is_some k ≡ true → (A → ⊥) → Other A f b (bad_retransmission x f k)
bad_other x A f None b some wrong = absurd (true≢false (sym some))
bad_other x A f (Some k) b some wrong = stops x A f f 2 _ b refl wrong

nothing_asked : (q : Request) (r : Range) → q ≡ requests.Nothing → q ≡ requests.Asked r → ⊥
nothing_asked q r e k = cc (e, k)

stopping_other : (x : Around) (A : Type 0) (f : Facts) (code : ℕ) (v : Violation) → NotNumber A v → StaysOther A f (ends x f code (endings.Violation v))
stopping_other x A f code v h = stops x A f f code v f.recorded.inbox_next refl h

-- the reply in Established of a reader of a flow that is not recoverable
pub other_reply : (x : Around) (f : Facts) (theirs : EndConfig) (p : Piece) → Peer x.config theirs → is_established f.connection.phase ≡ true → IsFlowing theirs p → BeforeOther x f p
    → AfterOther x f p (answer_of x f (incoming_of p))
other_reply x f theirs (entry payload) are now flows k =
    let P = Other ⊤ f (f.recorded.inbox_next + 1) in
    heard P x f (application payload) (decides_within P (is_established f.connection.phase) (application_rows x f) now (message_rests x f payload k))
other_reply x f theirs (said (negotiate id timestamp flow credentials)) are now flows k = absurd flows
other_reply x f theirs (said (negotiation_response id timestamp flow credentials)) are now flows k = absurd flows
other_reply x f theirs (said (negotiation_reject id timestamp code reason)) are now flows k = absurd flows
other_reply x f theirs (said (establish id timestamp keepalive next expected credentials)) are now flows k = absurd flows
other_reply x f theirs (said (establishment_ack id timestamp keepalive next expected)) are now flows k = absurd flows
other_reply x f theirs (said (establishment_reject id timestamp code reason)) are now flows k = absurd flows
other_reply x f theirs (said (sequence next)) are now flows k =
    let P = AfterOther x f (said (sequence next)) in
    heard P x f (session (sequence next)) (decides_within P (is_established f.connection.phase) (sequence_rows x f next) now (sequence_rests x f next k))
other_reply x f theirs (said unsequenced_heartbeat) are now flows k = passing_other x ⊤ f f acts.Nothing [] k.other k.idle refl refl refl refl
other_reply x f theirs (said (retransmit_request id timestamp first count)) are now flows k =
    heard (StaysOther ⊤ f) x f (session (retransmit_request id timestamp first count)) (decides_within (StaysOther ⊤ f) (is_established f.connection.phase) (retransmit_request_rows x f id timestamp first count) now (
      λ _. stopping_other x ⊤ f 4 _ tt,
      λ _. (λ _. requested_other x f id timestamp (judged (is_own x id) (is_recoverable x.config.own_flow) first count f.recorded.sent) k.other k.idle, λ e. absurd (true≢false e)),
    ))
other_reply x f theirs (said (retransmission id next timestamp count)) are now flows k =
    let A = Answers f.connection.requester (said (retransmission id next timestamp count)) in
    heard (StaysOther A f) x f (session (retransmission id next timestamp count)) (
      foreign x id (flows ∙ are.session),
      λ _.
          decides_within (StaysOther A f) (is_established f.connection.phase) (retransmission_rows x f next count) now (
            λ some. bad_other x A f (request_is.start_fault (request_is.outstanding f.connection.requester) next count) f.recorded.inbox_next some (λ a. nothing_asked f.connection.requester _ k.idle.none a.0),
            λ fits. absurd (true≢false (sym (never_starts f.connection.requester next count k.idle.none) ∙ fits)),
          ),
    )
other_reply x f theirs (said (retransmit_reject id timestamp code reason)) are now flows k =
    heard (StaysOther ⊥ f) x f (session (retransmit_reject id timestamp code reason)) (
      foreign x id (flows ∙ are.session),
      λ _.
          decides_within (StaysOther ⊥ f) (is_established f.connection.phase) (retransmit_reject_rows x f) now (λ _. stopping_other x ⊥ f 2 _ (λ wrong. wrong), λ e. absurd (true≢false e)),
    )
other_reply x f theirs (said (applied first count)) are now flows k = passing_other x ⊤ f f acts.Nothing [] k.other k.idle refl refl refl refl
other_reply x f theirs (said (not_applied first count)) are now flows k =
    by_row (StaysOther ⊤ f) (is_idempotent x.config.own_flow) (goes_on x (acts.Told first count) [] f) (accepts x [] f)
    (λ _. passing_other x ⊤ f f (acts.Told first count) [] k.other k.idle refl refl refl refl) (λ _. passing_other x ⊤ f f acts.Nothing [] k.other k.idle refl refl refl refl)
other_reply x f theirs (said (finished_sending id last)) are now flows k =
    heard (StaysOther ⊤ f) x f (session (finished_sending id last)) (
      foreign x id (flows.0 ∙ are.session),
      λ _.
          decides_within (StaysOther ⊤ f) (is_established f.connection.phase) (finished_sending_rows x f last) now (
            λ some. refusing_other x ⊤ f f (finish_fault x f last) f.recorded.inbox_next refl some (finish_fine ⊤ x f last),
            λ _. (λ _. finishing_other x f (finished_last x last) k.other k.idle, λ e. absurd (true≢false e)),
          ),
    )
other_reply x f theirs (said (finished_receiving id)) are now flows k =
    all_rows (StaysOther ⊤ f) (not_in_phase x f 15) (rows_of x f (session (finished_receiving id))) (stopping_other x ⊤ f 2 _ tt)
    (foreign x id (flows ∙ are.session), λ _. all_within (StaysOther ⊤ f) (is_established f.connection.phase) (finished_receiving_rows x f) (λ _. (λ _. passing_other x ⊤ f (own_finishing f own.Exchanged) acts.Nothing [] k.other k.idle refl refl refl refl, λ _. tt)))
other_reply x f theirs (said (terminate id code reason)) are now flows k =
    heard (StaysOther ⊤ f) x f (session (terminate id code reason)) (
      foreign x id (flows ∙ are.session),
      λ _.
          (λ _. record { fine = λ w same. terminated_fine ⊤ (finishes_exchanged x f) code w same; next = λ none. absurd cc; over = λ _. refl }, λ e. absurd (true≢false e)),
    )
