-- A reader of a recoverable flow is in line behind each reply, row by row, and behind each call.
use Rattle.std.proofs.Common.{◌≡◌, ℕ, ◌+◌, ◌-◌, ◌<◌, ◌≤◌, ◌==◌, ◌&&◌, ◌||◌, max, min, nat_lt, not, Bool, true, false, if◌then◌else◌, List, [], ◌∷◌, ◌++◌, drop, Option, Some, None, IsSome, refl, sym, ap, subst, ◌∙◌, arith, eqb-true, eq-eqb, ne_eqb, true≢false}
use Rattle.std.specs.Prelude.{⊤, is_some, is_none, unwrap_or, IfSome, Result, Ok, Err}
use Rattle.std.specs.List.{AllByRecursion}
use Rattle.std.proofs.lemmas.Bool.{ltb-false, false≢true}
use Rattle.std.proofs.lemmas.Option.{none-some}
use Rattle.std.proofs.lemmas.Bool.Decides.{nat_tests}
use Rattle.session_model.specs.Inbox.{Numbered, numbers_of, Ascending}
use Rattle.session_model.proofs.Lists.{all_weaker}
use Rattle.fixp_msgs.specs.declared.numbering.Range.{Range}
use Rattle.fixp_msgs.specs.Flow.{flow_code}
use Rattle.fixp_msgs.specs.declared.messages.Expected.{Expected}
use Rattle.fixp_msgs.specs.Message.{Message, negotiate, negotiation_response, negotiation_reject, establish, establishment_ack, establishment_reject, sequence, unsequenced_heartbeat, retransmit_request, retransmission, retransmit_reject, applied, not_applied, finished_sending, finished_receiving, terminate}
use Rattle.flow_recover.specs.declared.numbers.Seen.{Seen}
use Rattle.flow_recover.specs.declared.numbers.Seen.TheVariants.{Deliver, Hold, Gap, Repeat}
use Rattle.flow_recover.specs.Receiving as receiver_is
use Rattle.flow_recover.specs.Receiving.{Receiving, gap_end}
use Rattle.flow_recover.proofs.Chains.{next_counted}
use Rattle.flow_retrans.specs.declared.requester.BadStart.{BadStart}
use Rattle.flow_retrans.specs.declared.request.Request.{Request}
use Rattle.flow_retrans.specs.declared.request.Request.TheVariants as requests
use Rattle.flow_retrans.specs.declared.judging.RetransmitCode.{RetransmitCode}
use Rattle.flow_retrans.specs.Judging.{judged}
use Rattle.flow_retrans.specs.Requests as request_is
use Rattle.flow_window.specs.Window.{holding, least, front}
use Rattle.flow_window.proofs.Reach.{all_holding}
use Rattle.fixp_shake.specs.declared.phase.Phase.TheVariants as phases
use Rattle.fixp_shake.specs.declared.violation.Violation.{Violation}
use Rattle.fixp_shake.specs.Flows.{is_recoverable, is_idempotent, is_sequenced}
use Rattle.fixp_shake.specs.Phases.{is_idle, is_negotiating, is_establishing, is_established, is_closing, is_shaken}
use Rattle.fixp_replies.specs.declared.act.Act.{Act}
use Rattle.fixp_replies.specs.declared.act.Act.TheVariants as acts
use Rattle.fixp_replies.specs.declared.act.Ending.{Ending}
use Rattle.fixp_replies.specs.declared.act.Ending.TheVariants as endings
use Rattle.fixp_replies.specs.declared.facts.Facts.{Facts}
use Rattle.fixp_replies.specs.declared.facts.PeerFinish.TheVariants as peer
use Rattle.fixp_replies.specs.declared.facts.OwnFinish.TheVariants as own
use Rattle.fixp_replies.specs.Incoming.{Incoming, application, session, wrong_order, too_short, unknown, payload_in}
use Rattle.fixp_replies.specs.Facts.{Around, is_initiator, is_own, in_phase, receiving, requesting, firm, serves, negotiated as as_negotiated, awaiting, gap_of, gap_to_ask, holding_too, having_asked, announced_number, expected_number, peer_last, awaits_gap}
use Rattle.fixp_replies.specs.Outcomes.{Outcome, Row, row, goes_on, accepts, rejects, ignores, ends_with, ends, not_in_phase, skip_of, told_skip, opening_negotiate, opening_establish}
use Rattle.fixp_replies.specs.Announcing.{Announced, jumped_over, announced, announcement_fault, refuses, announcement_rows}
use Rattle.fixp_replies.specs.Handshake.{awaits_client, serves_client, established, acknowledges, establish_rows, established_again_rows, establish_rows_in, shaken, reached}
use Rattle.fixp_replies.specs.Expecting.{answers_next, returned, told_return, softened}
use Rattle.fixp_replies.specs.Flowing.{bad_retransmission, counted, taken_as, finish_act, peer_finished, answers_finish, is_filled, is_past_finish, sequence_taken, sequence_follows, restarted, finished_last, finish_fault, finished}
use Rattle.fixp_replies.specs.Serving.{request_answered, own_finishing}
use Rattle.fixp_replies.specs.Replies.{template_of, rows_of, answer_of, terminates, reply_of}
use Rattle.fixp_machine.specs.Sound.{Sound, HeldFits, Matches, InLine}
use Rattle.fixp_machine.specs.Machine.{held_with, Windowed, LineGoesOn}
use Rattle.fixp_machine.proofs.Expecting.{returned_stays}
use Rattle.fixp_machine.proofs.Rows.{AllRows, by_row, all_rows, all_within, announced_rows, own_rows}
use Rattle.fixp_machine.proofs.Tests.{some-none, delivers, holds, not_established, not_opened}
use Rattle.fixp_machine.proofs.Keeping.{in_bounds, expected_as}

-- where a connection goes on with an outcome, its reader is in line
abbrev Lined : (payload : List ℕ) (held : List Numbered) → Outcome → Type 0
Lined payload held o = o.ending ≡ None → InLine o.next (held_with o.holds payload held)

-- facts with the same receiver, the same request and the same number awaited
pub same_line : (f g : Facts) (held : List Numbered) → g.connection.receiver ≡ f.connection.receiver → g.connection.requester ≡ f.connection.requester
    → g.recorded.inbox_next ≡ f.recorded.inbox_next → InLine f held → InLine g held
same_line f g held r q n l = record {
  low = subst (λ (k : Receiving). k.next ≤ k.live) (sym r) l.low;
  matches = subst (λ (k : Receiving). Matches k g.connection.requester) (sym r) (subst (λ (k : Request). Matches f.connection.receiver k) (sym q) l.matches);
  below = subst (λ (k : Receiving). AllByRecursion (λ j. j < k.live) (numbers_of held)) (sym r) l.below;
  coming = λ some. ap (λ k. request_is.is_coming k) q ∙ l.coming (subst (λ k. IsSome (front k held)) n some);
}

-- a gap ends at the live number, or below it
gap_end_low : (held : List Numbered) (live : ℕ) → AllByRecursion (λ n. n < live) (numbers_of held) → gap_end (least held) live ≤ live
gap_end_low [] live below = omega arith
gap_end_low (m ∷ ms) live below = let b = below.0 in omega (arith, b)

asked_line : (x : Around) (g : Facts) (held : List Numbered) → x.held ≡ least held → InLine g held → InLine (having_asked g (gap_to_ask x g)) held
asked_line x g held is l =
    by_cases g.connection.soft g.connection.requester (is_recoverable x.config.peer_flow) (nat_lt g.connection.receiver.next (gap_end x.held g.connection.receiver.live)) refl refl
    (subst (λ (h : Option ℕ). gap_end h g.connection.receiver.live ≤ g.connection.receiver.live) (sym is) (gap_end_low held g.connection.receiver.live l.below))
  where
    by_cases : (soft : Bool) (q : Request) (rec b : Bool) → g.connection.requester ≡ q → nat_lt g.connection.receiver.next (gap_end x.held g.connection.receiver.live) ≡ b
        → gap_end x.held g.connection.receiver.live ≤ g.connection.receiver.live
        → InLine (having_asked g (if soft || is_some (request_is.outstanding q) then None
        else if rec then (if b then Some (record { from = g.connection.receiver.next; count = gap_end x.held g.connection.receiver.live - g.connection.receiver.next }) else None) else None)) held
    by_cases true q rec b e t low = l
    by_cases false (requests.Asked range) rec b e t low = l
    by_cases false (requests.Coming range next left) rec b e t low = l
    by_cases false requests.Nothing false b e t low = l
    by_cases false requests.Nothing true false e t low = l
    by_cases false requests.Nothing true true e t low =
        let none : g.connection.receiver.again ≡ None = subst (λ (q : Request). Matches g.connection.receiver q) e l.matches in
        let start = l.low in
        record {
          low = l.low;
          matches = (none, omega (arith, start, low));
          below = l.below;
          coming = λ some. absurd (true≢false (sym (l.coming some) ∙ ap (λ q. request_is.is_coming q) e));
        }

going : (x : Around) (p : List ℕ) (held : List Numbered) (g : Facts) (act : Act) (written : List Message) → x.held ≡ least held → InLine g held → Lined p held (goes_on x act written g)
going x p held g act written is l = λ _. asked_line x g held is l

rejecting : (p : List ℕ) (held : List Numbered) (f : Facts) (written : List Message) → InLine f held → Lined p held (rejects written f)
rejecting p held f written l = λ _. l

refusing : (p : List ℕ) (held : List Numbered) (x : Around) (f : Facts) → (v : Option Violation) → (is_some v ≡ false → InLine f held) → Lined p held (refuses x f v)
refusing p held x f None l = λ _. l refl
refusing p held x f (Some v) l = (λ none. absurd cc)

bad : (p : List ℕ) (held : List Numbered) (x : Around) (f : Facts) (b : Option BadStart) → InLine f held → Lined p held (bad_retransmission x f b)
bad p held x f None l = λ _. l
bad p held x f (Some b) l = (λ none. absurd cc)

-- nothing is held
nothing_held : (held : List Numbered) → least held ≡ None → held ≡ []
nothing_held [] e = refl
nothing_held (m ∷ ms) e = absurd (none-some m.number (sym e))

empty_line : (g : Facts) (held : List Numbered) → held ≡ [] → g.connection.receiver.next ≤ g.connection.receiver.live → Matches g.connection.receiver g.connection.requester → InLine g held
empty_line g held none low m = record {
  low = low;
  matches = m;
  below = subst (λ (ms : List Numbered). AllByRecursion (λ n. n < g.connection.receiver.live) (numbers_of ms)) (sym none) tt;
  coming = λ some. absurd (false≢true (subst (λ (ms : List Numbered). IsSome (front g.recorded.inbox_next ms)) none some));
}

-- an announcement of a recoverable flow
announced_is : (x : Around) (f : Facts) (next : Option ℕ) → is_recoverable x.config.peer_flow ≡ true
    → announced x f next ≡ record { facts = firm (receiving f (receiver_is.announced f.connection.receiver (unwrap_or next 0))); skipped = None }
announced_is x f next rec = by_flow (is_recoverable x.config.peer_flow) (is_idempotent x.config.peer_flow) rec
  where
    chosen : (r i : Bool) → Announced
    chosen r i = if r then record { facts = firm (receiving f (receiver_is.announced f.connection.receiver (unwrap_or next 0))); skipped = None }
        else if i then record { facts = awaiting f (unwrap_or next 0); skipped = jumped_over f.recorded.inbox_next (unwrap_or next 0) }
        else record { facts = f; skipped = None }

    by_flow : (r i : Bool) → r ≡ true → chosen r i ≡ record { facts = firm (receiving f (receiver_is.announced f.connection.receiver (unwrap_or next 0))); skipped = None }
    by_flow true i e = refl
    by_flow false i e = absurd (true≢false (sym e))

-- the number announced is at least what was expected
expects : (x : Around) (f : Facts) (template : ℕ) (next : Option ℕ) → is_recoverable x.config.peer_flow ≡ true → announcement_fault x f template next ≡ None
    → expected_as f true ≤ unwrap_or next 0
expects x f template next rec none =
    let b = in_bounds x f template next none (ap (λ (r : Bool). r || is_idempotent x.config.peer_flow) rec) in
    subst (λ (r : Bool). expected_as f r ≤ unwrap_or next 0) rec b.0

expects_next : (soft : Bool) (r : Receiving) (n : ℕ) → (if soft then r.next else receiver_is.expected r) ≤ n → r.next ≤ n
expects_next true r n h = h
expects_next false r n h = omega (arith, h)

expects_live : (soft : Bool) (r : Receiving) (n : ℕ) → soft ≡ false → (if soft then r.next else receiver_is.expected r) ≤ n → r.live ≤ n
expects_live true r n e h = absurd (true≢false e)
expects_live false r n e h = omega (arith, h)

-- at the handshake's end: nothing was asked for, and nothing is held
shaken_line : (x : Around) (f g : Facts) (template : ℕ) (next : Option ℕ) (ending : Option Ending) (held : List Numbered) → Sound x.config f → Windowed x.config x.most f ending held
    → is_recoverable x.config.peer_flow ≡ true → InLine f held → is_shaken f.connection.phase ≡ false → announcement_fault x f template next ≡ None
    → g.connection.receiver ≡ (announced x f next).facts.connection.receiver → g.connection.requester ≡ (announced x f next).facts.connection.requester → InLine g held
shaken_line x f g template next ending held s w rec l before none r q =
    let is = announced_is x f next rec in
    let receiver : g.connection.receiver ≡ receiver_is.announced f.connection.receiver (unwrap_or next 0) = r ∙ ap (λ (a : Announced). a.facts.connection.receiver) is in
    let free : g.connection.requester ≡ requests.Nothing = q ∙ (ap (λ (a : Announced). a.facts.connection.requester) is ∙ (s.opening before).no_request) in
    empty_line g held (nothing_held held (w.fits.opening before))
    (subst (λ (k : Receiving). k.next ≤ k.live) (sym receiver) (expects_next f.connection.soft f.connection.receiver (unwrap_or next 0) (expects x f template next rec none)))
    (subst (λ (k : Receiving). Matches k g.connection.requester) (sym receiver) (subst (λ (k : Request). Matches (receiver_is.announced f.connection.receiver (unwrap_or next 0)) k) (sym free) refl))

-- Sequence ends a retransmission that is whole
ended_matches : (r : Receiving) (q : Request) (n : ℕ) → Matches r q → r.live ≤ n → Matches (receiver_is.announced r n) (request_is.after_sequence q)
ended_matches r requests.Nothing n m h = refl
ended_matches r (requests.Asked range) n m h = let k = m.1 in (refl, omega (arith, k, h))
ended_matches r (requests.Coming range next left) n m h = refl

sequence_line : (x : Around) (f : Facts) (next : ℕ) (ending : Option Ending) (held : List Numbered) → Sound x.config f → Windowed x.config x.most f ending held
    → is_recoverable x.config.peer_flow ≡ true → front f.recorded.inbox_next held ≡ None → InLine f held
    → announcement_fault x (requesting f (request_is.after_sequence f.connection.requester)) 7 (Some next) ≡ None
    → InLine (firm (receiving (requesting f (request_is.after_sequence f.connection.requester)) (receiver_is.announced f.connection.receiver next))) held
sequence_line x f next ending held s w rec drained l none =
    by_soft f.connection.soft refl (expects x (requesting f (request_is.after_sequence f.connection.requester)) 7 (Some next) rec none)
  where
    g : Facts
    g = firm (receiving (requesting f (request_is.after_sequence f.connection.requester)) (receiver_is.announced f.connection.receiver next))

    by_soft : (soft : Bool) → f.connection.soft ≡ soft
        → (if f.connection.soft then f.connection.receiver.next else receiver_is.expected f.connection.receiver) ≤ next → InLine g held
    by_soft true e h =
        let free : request_is.after_sequence f.connection.requester ≡ requests.Nothing = ap (λ (q : Request). request_is.after_sequence q) (s.soft e).no_request in
        empty_line g held (nothing_held held (w.fits.soft e)) (expects_next f.connection.soft f.connection.receiver next h)
        (subst (λ (k : Request). Matches (receiver_is.announced f.connection.receiver next) k) (sym free) refl)
    by_soft false e h =
        let above = expects_live f.connection.soft f.connection.receiver next e h in
        record {
          low = expects_next f.connection.soft f.connection.receiver next h;
          matches = ended_matches f.connection.receiver f.connection.requester next l.matches above;
          below = all_weaker (λ n. n < f.connection.receiver.live) (λ n. n < next) (λ n b. omega (arith, b, above)) (numbers_of held) l.below;
          coming = λ some. absurd (true≢false (sym (some_front f.recorded.inbox_next held some) ∙ ap is_some drained));
        }
      where
        some_front : (n : ℕ) (ms : List Numbered) → IsSome (front n ms) → is_some (front n ms) ≡ true
        some_front n ms some = some

-- one message more is counted
record Counts (r : Receiving) (q : Request) : Type 0 where
  low : (receiver_is.after_message r).next ≤ (receiver_is.after_message r).live
  matches : Matches (receiver_is.after_message r) (request_is.after_message q)
  grows : r.live ≤ (receiver_is.after_message r).live
  top : receiver_is.number r < (receiver_is.after_message r).live

one_past : (t : Bool) (n k : ℕ) → n + 1 ≤ k → (if t then n + 1 else n) ≤ k
one_past true n k h = h
one_past false n k h = omega (arith, h)

past_again : (n next live : ℕ) → n + 1 ≤ live → next ≤ live → (if n == next then next + 1 else next) ≤ live
past_again n next live h low = by_test (n == next) refl
  where
    by_test : (t : Bool) → (n == next) ≡ t → (if t then next + 1 else next) ≤ live
    by_test true e = let same = eqb-true n next e in omega (arith, same, h)
    by_test false e = low

some_left : (range : Range) (next left : ℕ) → is_some (request_is.message_fault (requests.Coming range next left)) ≡ false → 1 ≤ left
some_left range next left none = by_test (left == 0) refl none
  where
    by_test : (b : Bool) → (left == 0) ≡ b → is_some {T = BadStart} (if b then Some (record { expected = 0; found = next }) else None) ≡ false → 1 ≤ left
    by_test true e n = absurd (true≢false n)
    by_test false e n = grind (arith, nat_tests)

count_line : (next live : ℕ) (again : Option ℕ) (q : Request) → next ≤ live → Matches (record { next = next; live = live; again = again }) q
    → is_some (request_is.message_fault q) ≡ false → Counts (record { next = next; live = live; again = again }) q
count_line next live None requests.Nothing low m one =
    record { low = one_past (live == next) next (live + 1) (omega (arith, low)); matches = refl; grows = omega arith; top = omega arith }
count_line next live None (requests.Asked range) low m one = let k = m.1 in
    record { low = one_past (live == next) next (live + 1) (omega (arith, low)); matches = (refl, omega (arith, k)); grows = omega arith; top = omega arith }
count_line next live None (requests.Coming range n left) low m one = absurd (cc (m.0))
count_line next live (Some k) requests.Nothing low m one = absurd (cc m)
count_line next live (Some k) (requests.Asked range) low m one = absurd (cc (m.0))
count_line next live (Some k) (requests.Coming range n left) low m one =
    let same : k ≡ n = cc (m.0) in
    let asked = m.1 in
    let h = m.2 in
    let some = some_left range n left one in
    record {
      low = past_again k next live (omega (arith, same, h, some)) low;
      matches = (ap (λ (j : ℕ). Some (j + 1)) same, asked, omega (arith, h, some));
      grows = omega arith;
      top = omega (arith, same, h, some);
    }

-- the message that is delivered is the only one below the live number, or one of a retransmission
delivers_coming : (next live : ℕ) (again : Option ℕ) (q : Request) (held : List Numbered) → Matches (record { next = next; live = live; again = again }) q
    → unwrap_or again live ≡ next → Ascending next (numbers_of held) → AllByRecursion (λ n. n < live) (numbers_of held) → (n : ℕ) → IsSome (front n held)
    → request_is.is_coming (request_is.after_message q) ≡ true
delivers_coming next live (Some k) (requests.Coming range n left) held m e rising below j some = refl
delivers_coming next live (Some k) requests.Nothing held m e rising below j some = absurd (cc m)
delivers_coming next live (Some k) (requests.Asked range) held m e rising below j some = absurd (cc (m.0))
delivers_coming next live None q [] m e rising below j some = absurd (false≢true some)
delivers_coming next live None q (h ∷ hs) m e rising below j some = let low = rising.0 in let high = below.0 in absurd (omega (arith, e, low, high))

-- a message that is held is not the one awaited
front_holding : (next n : ℕ) (p : List ℕ) (ms : List Numbered) → next < n → front next ms ≡ None → front next (holding n p ms) ≡ None
front_holding next n p [] h none = rw (ne_eqb n next (omega (arith, h))) refl
front_holding next n p (m ∷ ms) h none = by_tests (m.number == n) (nat_lt n m.number)
  where
    by_tests : (same below : Bool) → front next (if same then m ∷ ms else if below then record { number = n; payload = p } ∷ m ∷ ms else m ∷ holding n p ms) ≡ None
    by_tests true below = none
    by_tests false true = rw (ne_eqb n next (omega (arith, h))) refl
    by_tests false false = none

taking : (x : Around) (p : List ℕ) (f : Facts) (ending : Option Ending) (held : List Numbered) → is_recoverable x.config.peer_flow ≡ true → Sound x.config f → x.held ≡ least held
    → Windowed x.config x.most f ending held → front f.recorded.inbox_next held ≡ None → InLine f held → is_some (request_is.message_fault f.connection.requester) ≡ false
    → (seen : Seen) → receiver_is.seen f.connection.receiver ≡ seen → Lined p held (taken_as x (counted f) seen)
taking x p f ending held rec s is w drained l one = by_seen
  where
    r : Receiving
    r = f.connection.receiver

    c : Counts f.connection.receiver f.connection.requester
    c = count_line r.next r.live r.again f.connection.requester l.low l.matches one

    below_still : AllByRecursion (λ n. n < (receiver_is.after_message f.connection.receiver).live) (numbers_of held)
    below_still = let up = c.grows in all_weaker (λ n. n < f.connection.receiver.live) (λ n. n < (receiver_is.after_message f.connection.receiver).live) (λ n b. omega (arith, b, up)) (numbers_of held) l.below

    none_there : (n : ℕ) → n ≡ f.recorded.inbox_next → IsSome (front n held) → ⊥
    none_there n e some = false≢true (subst (λ (m : Option Numbered). IsSome m) (ap (λ k. front k held) e ∙ drained) some)

    passed : InLine (counted f) held
    passed = record { low = c.low; matches = c.matches; below = below_still; coming = λ some. absurd (none_there f.recorded.inbox_next refl some) }

    by_seen : (seen : Seen) → receiver_is.seen f.connection.receiver ≡ seen → Lined p held (taken_as x (counted f) seen)
    by_seen (Deliver n) e =
        let d = delivers r.next (receiver_is.number r) n e in
        going x p held (awaiting (counted f) (n + 1)) (acts.Apply n) [] is (record {
          low = c.low;
          matches = c.matches;
          below = below_still;
          coming = delivers_coming r.next r.live r.again f.connection.requester held l.matches d.1
              (subst (λ k. Ascending k (numbers_of held)) (sym (s.waits rec)) w.reach.rising) l.below (n + 1);
        })
    by_seen (Hold n) e =
        let d = holds r.next (receiver_is.number r) n e in
        let above : f.recorded.inbox_next < n = let q = s.waits rec in omega (arith, q, d.0, d.1) in
        let high : n < (receiver_is.after_message f.connection.receiver).live = let t = c.top in omega (arith, d.0, t) in
        let more : List Numbered = holding n p held in
        let line : InLine (counted f) more = record {
          low = c.low;
          matches = c.matches;
          below = all_holding (λ k. k < (receiver_is.after_message f.connection.receiver).live) n p held high below_still;
          coming = λ some. absurd (false≢true (subst (λ (m : Option Numbered). IsSome m) (front_holding f.recorded.inbox_next n p held above drained) some));
        } in
        λ _. held_line n line
      where
        least_holding : (n : ℕ) (ms : List Numbered) → least (holding n p ms) ≡ Some (min n (unwrap_or (least ms) n))
        least_holding n [] = ap Some (omega arith)
        least_holding n (m ∷ ms) = by_tests (m.number == n) refl (nat_lt n m.number) refl
          where
            by_tests : (same : Bool) → (m.number == n) ≡ same → (below : Bool) → nat_lt n m.number ≡ below
                → least (if same then m ∷ ms else if below then record { number = n; payload = p } ∷ m ∷ ms else m ∷ holding n p ms) ≡ Some (min n m.number)
            by_tests true e below t = let k = eqb-true m.number n e in ap Some (omega (arith, k))
            by_tests false e true t = let k : n < m.number = grind (arith, nat_tests) in ap Some (omega (arith, k))
            by_tests false e false t = let k = ltb-false n m.number t in ap Some (omega (arith, k))

        held_line : (n : ℕ) → InLine (counted f) (holding n p held) → InLine (having_asked (counted f) (gap_to_ask (holding_too x n) (counted f))) (holding n p held)
        held_line n line = asked_line (holding_too x n) (counted f) (holding n p held) (ap (λ (h : Option ℕ). Some (min n (unwrap_or h n))) is ∙ sym (least_holding n held)) line
    by_seen (Gap n) e = going x p held (counted f) acts.Nothing [] is passed
    by_seen (Repeat n) e = going x p held (counted f) acts.Nothing [] is passed

-- Retransmission answers the request that is open
starts : (asked : Range) (next count : ℕ) → is_some (request_is.start_fault (Some asked) next count) ≡ false → (next ≡ asked.from) × (count ≤ asked.count)
starts asked next count none = by_tests (next == asked.from) refl (count == 0 || nat_lt asked.count count) refl none
  where
    or_right_false : (a b : Bool) → (a || b) ≡ false → b ≡ false
    or_right_false true b e = absurd (true≢false e)
    or_right_false false b e = e

    by_tests : (same : Bool) → (next == asked.from) ≡ same → (wrong : Bool) → (count == 0 || nat_lt asked.count count) ≡ wrong
        → is_some {T = BadStart} (if not same then Some (record { expected = asked.from; found = next }) else if wrong then Some (record { expected = asked.count; found = count }) else None) ≡ false
        → (next ≡ asked.from) × (count ≤ asked.count)
    by_tests false e wrong t n = absurd (true≢false n)
    by_tests true e true t n = absurd (true≢false n)
    by_tests true e false t n = (eqb-true next asked.from e, ltb-false asked.count count (or_right_false (count == 0) (nat_lt asked.count count) t))

restart_matches : (r : Receiving) (q : Request) (next count : ℕ) → Matches r q → is_some (request_is.start_fault (request_is.outstanding q) next count) ≡ false
    → Matches (receiver_is.retransmitted r next) (request_is.started q next count)
restart_matches r requests.Nothing next count m none = absurd (true≢false none)
restart_matches r (requests.Asked range) next count m none =
    let k = starts range next count none in let h = m.1 in (refl, h, omega (arith, k.0, k.1, h))
restart_matches r (requests.Coming range n left) next count m none =
    let k = starts range next count none in let h = m.1 in (refl, h, omega (arith, k.0, k.1, h))

message_rows : (x : Around) (f : Facts) (p : List ℕ) (ending_before : Option Ending) (held : List Numbered) → is_recoverable x.config.peer_flow ≡ true → Sound x.config f → x.held ≡ least held
    → Windowed x.config x.most f ending_before held → front f.recorded.inbox_next held ≡ None → InLine f held → AllRows (Lined p held) (rows_of x f (application p))
message_rows x f p before held rec s is w drained l = all_within (Lined p held) (is_established f.connection.phase) _ (λ est. (
  λ _. (λ none. absurd cc),
  λ _. (
    λ _. (λ none. absurd cc),
    λ _. (
      λ _. (λ none. absurd cc),
      λ small. (
        λ e. absurd (true≢false (sym e ∙ ap not rec)),
        λ e. (
          λ _. bad p held x f (request_is.message_fault f.connection.requester) l,
          λ none. (
            λ _. taking x p f before held rec s is w drained l none (receiver_is.seen f.connection.receiver) refl,
            λ _. tt,
          ),
        ),
      ),
    ),
  ),
))

-- a message that leaves the receiver, the request and the number awaited
passing : (x : Around) (held : List Numbered) (f g : Facts) (act : Act) (written : List Message) → x.held ≡ least held → g.connection.receiver ≡ f.connection.receiver
    → g.connection.requester ≡ f.connection.requester → g.recorded.inbox_next ≡ f.recorded.inbox_next → InLine f held → Lined [] held (goes_on x act written g)
passing x held f g act written is r q n l = going x [] held g act written is (same_line f g held r q n l)

finishing : (x : Around) (held : List Numbered) (f : Facts) (n : ℕ) → x.held ≡ least held → InLine f held → Lined [] held (finished x f n)
finishing x held f n is l = by_row (Lined [] held) (is_some (gap_of x f)) (accepts x [] (peer_finished f (peer.Read n) f.recorded.peer_last)) (answers_finish x f n)
    (λ _. passing x held f (peer_finished f (peer.Read n) f.recorded.peer_last) acts.Nothing [] is refl refl refl l)
    (λ _. passing x held f (peer_finished f (peer.Exchanged n) (Some (unwrap_or f.recorded.peer_last n))) (finish_act f.recorded.peer_last n) (finished_receiving x.config.session ∷ []) is refl refl refl l)

following : (x : Around) (held : List Numbered) (f : Facts) (next : ℕ) (a : Announced) → x.held ≡ least held → InLine a.facts held → Lined [] held (sequence_follows x f next a)
following x held f next a is l =
    by_row (Lined [] held) (is_past_finish x f next) _ (sequence_taken x a) (λ _. (λ none. absurd cc))
    (λ _. by_row (Lined [] held) (is_filled x a.facts) (answers_finish x a.facts (unwrap_or (awaits_gap a.facts.connection.peer_finish) 0)) (goes_on x (skip_of a.skipped) (told_skip a.skipped) a.facts)
    (λ _. let last : ℕ = unwrap_or (awaits_gap a.facts.connection.peer_finish) 0 in
    passing x held a.facts (peer_finished a.facts (peer.Exchanged last) (Some (unwrap_or a.facts.recorded.peer_last last))) (finish_act a.facts.recorded.peer_last last) (finished_receiving x.config.session ∷ []) is refl refl refl l)
    (λ _. going x [] held a.facts (skip_of a.skipped) (told_skip a.skipped) is l))

answered : (x : Around) (held : List Numbered) (f : Facts) (id : List ℕ) (timestamp : ℕ) (r : Result Range RetransmitCode) → x.held ≡ least held → InLine f held
    → Lined [] held (request_answered x f id timestamp r)
answered x held f id timestamp (Ok range) is l = passing x held f (serves f (Some range)) acts.Nothing (retransmission x.config.session range.from timestamp range.count ∷ []) is refl refl refl l
answered x held f id timestamp (Err code) is l = (λ _. l)

shaking : (x : Around) (held : List Numbered) (f : Facts) → x.held ≡ least held → InLine f held → Lined [] held (shaken x f)
shaking x held f is l = passing x held f (in_phase (as_negotiated f) phases.Establishing) (if f.recorded.negotiated then acts.Nothing else acts.Negotiated) (opening_establish x f ∷ []) is refl refl refl l

session_rows : (x : Around) (f : Facts) (m : Message) (before : Option Ending) (held : List Numbered) → is_recoverable x.config.peer_flow ≡ true → Sound x.config f → x.held ≡ least held
    → Windowed x.config x.most f before held → front f.recorded.inbox_next held ≡ None → InLine f held → AllRows (Lined [] held) (rows_of x f (session m))
session_rows x f (negotiate id timestamp flow credentials) before held rec s is w drained l = all_within (Lined [] held) (awaits_client x f) _ (λ _. (
  λ _. (λ _. l),
  λ _. (
    λ _. (λ _. l),
    λ _. (
      λ _. (λ _. l),
      λ _. (
        λ _. (λ _. l),
        λ _. (λ _. passing x held f (as_negotiated f) acts.Negotiated (negotiation_response x.config.session timestamp (flow_code x.config.own_flow) [] ∷ []) is refl refl refl l, λ _. tt),
      ),
    ),
  ),
))
session_rows x f (negotiation_response id timestamp flow credentials) before held rec s is w drained l =
    own_rows (Lined [] held) x f 2 id _ (λ e. (λ none. absurd cc)) (all_within (Lined [] held) (is_negotiating f.connection.phase) _ (λ _. (
      λ _. (λ none. absurd cc),
      λ _. (λ _. shaking x held f is l, λ _. tt),
    )))
session_rows x f (negotiation_reject id timestamp code reason) before held rec s is w drained l =
    own_rows (Lined [] held) x f 3 id _ (λ e. (λ none. absurd cc)) (all_within (Lined [] held) (is_negotiating f.connection.phase) _ (λ _. (
      λ _. shaking x held f is l,
      λ _. (λ _. (λ none. absurd cc), λ _. tt),
    )))
session_rows x f (establish id timestamp keepalive next expected credentials) before held rec s is w drained l = by_place (awaits_client x f) (serves_client x f) refl
  where
    idle : (i d : Bool) → (not i && d) ≡ true → d ≡ true
    idle false d t = t
    idle true d t = absurd (true≢false (sym t))

    acknowledged : awaits_client x f ≡ true → announcement_fault x f 4 next ≡ None → Lined [] held (acknowledges x timestamp keepalive expected (announced x f next))
    acknowledged waits none =
        let a : Announced = announced x f next in
        let g : Facts = returned x a.facts expected in
        let r = returned_stays x a.facts expected in
        going x [] held (established (softened x expected g) keepalive) (skip_of a.skipped)
        (establishment_ack x.config.session timestamp x.config.keepalive (announced_number x g) (answers_next x expected g) ∷ told_skip a.skipped) is
        (shaken_line x f (established (softened x expected g) keepalive) 4 next before held s w rec l
        (not_opened f.connection.phase (idle (is_initiator x.config.role) (is_idle f.connection.phase) waits)) none (ap (λ c. c.receiver) r.connection) (ap (λ c. c.requester) r.connection))

    by_place : (a b : Bool) → awaits_client x f ≡ a
        → AllRows (Lined [] held) (if a then establish_rows x f id timestamp keepalive next expected credentials else if b then established_again_rows x f id timestamp else [])
    by_place true b waits = (
      λ _. (λ _. l),
      λ _. (
        λ _. (λ _. l),
        λ _. (
          λ _. (λ _. l),
          λ _. announced_rows (Lined [] held) x f 4 next (acknowledges x timestamp keepalive expected) (λ v. refusing [] held x f v (λ _. l)) (acknowledged waits),
        ),
      ),
    )
    by_place false true waits = (λ _. (λ _. l), λ _. (λ _. (λ _. l), λ _. tt))
    by_place false false waits = tt
session_rows x f (establishment_ack id timestamp keepalive next expected) before held rec s is w drained l =
    own_rows (Lined [] held) x f 5 id _ (λ e. (λ none. absurd cc)) (all_within (Lined [] held) (is_establishing f.connection.phase) _ (λ n.
    announced_rows (Lined [] held) x f 5 next (reached x keepalive expected) (λ v. refusing [] held x f v (λ _. l)) (λ none.
    let a : Announced = announced x f next in
    let g : Facts = returned x a.facts expected in
    let r = returned_stays x a.facts expected in
    let interval : ℕ = min 60000 (max 100 keepalive) in
    going x [] held (established g interval) (skip_of a.skipped) (told_skip a.skipped ++ told_return x a.facts expected) is
    (shaken_line x f (established g interval) 5 next before held s w rec l (not_established f.connection.phase n) none (ap (λ c. c.receiver) r.connection) (ap (λ c. c.requester) r.connection)))))
session_rows x f (establishment_reject id timestamp code reason) before held rec s is w drained l =
    own_rows (Lined [] held) x f 6 id _ (λ e. (λ none. absurd cc)) (all_within (Lined [] held) (is_establishing f.connection.phase) _ (λ _. (
      λ _. passing x held f (in_phase f phases.Negotiating) acts.Nothing (opening_negotiate x ∷ []) is refl refl refl l,
      λ _. (λ _. (λ none. absurd cc), λ _. tt),
    )))
session_rows x f (sequence next) before held rec s is w drained l = all_within (Lined [] held) (is_established f.connection.phase) _ (λ _. (
  λ _. bad [] held x f (request_is.sequence_fault f.connection.requester) l,
  λ _.
      let g : Facts = requesting f (request_is.after_sequence f.connection.requester) in (
        λ some. refused g (announcement_fault x g 7 (Some next)) some,
        λ none. (
          λ _. following x held g next (announced x g (Some next)) is
              (subst (λ (a : Announced). InLine a.facts held) (sym (announced_is x g (Some next) rec))
              (sequence_line x f next before held s w rec drained l (some-none (announcement_fault x g 7 (Some next)) none))),
          λ _. tt,
        ),
      ),
))
  where
    refused : (g : Facts) (v : Option Violation) → is_some v ≡ true → Lined [] held (refuses x g v)
    refused g None some = absurd (true≢false (sym some))
    refused g (Some v) some = (λ none. absurd cc)
session_rows x f unsequenced_heartbeat before held rec s is w drained l = (λ _. passing x held f f acts.Nothing [] is refl refl refl l, λ _. tt)
session_rows x f (retransmit_request id timestamp first count) before held rec s is w drained l = all_within (Lined [] held) (is_established f.connection.phase) _ (λ _. (
  λ _. (λ none. absurd cc),
  λ _. (λ _. answered x held f id timestamp (judged (is_own x id) (is_recoverable x.config.own_flow) first count f.recorded.sent) is l, λ _. tt),
))
session_rows x f (retransmission id next timestamp count) before held rec s is w drained l =
    own_rows (Lined [] held) x f 10 id _ (λ e. (λ none. absurd cc)) (all_within (Lined [] held) (is_established f.connection.phase) _ (λ _. (
      λ _. bad [] held x f (request_is.start_fault (request_is.outstanding f.connection.requester) next count) l,
      λ none. (
        λ _. going x [] held (restarted f next count) acts.Nothing [] is (record {
          low = l.low;
          matches = restart_matches f.connection.receiver f.connection.requester next count l.matches none;
          below = l.below;
          coming = λ some. absurd (false≢true (subst (λ (m : Option Numbered). IsSome m) drained some));
        }),
        λ _. tt,
      ),
    )))
session_rows x f (retransmit_reject id timestamp code reason) before held rec s is w drained l =
    own_rows (Lined [] held) x f 11 id _ (λ e. (λ none. absurd cc)) (all_within (Lined [] held) (is_established f.connection.phase) _ (λ _. (λ _. (λ none. absurd cc), λ _. tt)))
session_rows x f (applied first count) before held rec s is w drained l = (λ _. passing x held f f acts.Nothing [] is refl refl refl l, λ _. tt)
session_rows x f (not_applied first count) before held rec s is w drained l =
    (λ _. passing x held f f (acts.Told first count) [] is refl refl refl l, λ _. (λ _. passing x held f f acts.Nothing [] is refl refl refl l, λ _. tt))
session_rows x f (finished_sending id last) before held rec s is w drained l =
    own_rows (Lined [] held) x f 14 id _ (λ e. (λ none. absurd cc)) (all_within (Lined [] held) (is_established f.connection.phase) _ (λ _. (
      λ _. refusing [] held x f (finish_fault x f last) (λ _. l),
      λ _. (λ _. finishing x held f (finished_last x last) is l, λ _. tt),
    )))
session_rows x f (finished_receiving id) before held rec s is w drained l =
    own_rows (Lined [] held) x f 15 id _ (λ e. (λ none. absurd cc)) (all_within (Lined [] held) (is_established f.connection.phase) _ (λ _. (
      λ _. passing x held f (own_finishing f own.Exchanged) acts.Nothing [] is refl refl refl l,
      λ _. tt,
    )))
session_rows x f (terminate id code reason) before held rec s is w drained l =
    let answer : Row = row true (ends x f 1 (endings.PeerTerminated code)) in
    let rest : AllRows (Lined [] held) (answer ∷ []) = (λ _. (λ none. absurd cc), λ _. tt) in
    own_rows (Lined [] held) x f 16 id (answer ∷ []) (λ e. (λ none. absurd cc)) rest

lined : (x : Around) (f : Facts) (i : Incoming) (held : List Numbered) → InLine f held → AllRows (Lined (payload_in i) held) (rows_of x f i) → Lined (payload_in i) held (reply_of x f i)
lined x f i held l all =
    by_row (Lined (payload_in i) held) (is_closing f.connection.phase && not (terminates x i)) (ignores f) (answer_of x f i)
    (λ _. rejecting (payload_in i) held f [] l)
    (λ _. all_rows (Lined (payload_in i) held) (not_in_phase x f (template_of i)) (rows_of x f i) ((λ none. absurd cc)) all)

pub line_goes_on : LineGoesOn
line_goes_on x f (application p) before held s is w drained rec l = lined x f (application p) held l (message_rows x f p before held rec s is w drained l)
line_goes_on x f (session m) before held s is w drained rec l = lined x f (session m) held l (session_rows x f m before held rec s is w drained l)
line_goes_on x f wrong_order before held s is w drained rec l = lined x f wrong_order held l (λ _. (λ none. absurd cc), λ _. tt)
line_goes_on x f too_short before held s is w drained rec l = lined x f too_short held l (λ _. (λ none. absurd cc), λ _. tt)
line_goes_on x f (unknown template) before held s is w drained rec l = lined x f (unknown template) held l (λ _. (λ none. absurd cc), λ _. tt)
