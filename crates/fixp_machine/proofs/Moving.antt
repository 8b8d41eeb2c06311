-- The act of each reply is one that the inbox can take, and what is recorded moves with it, row by row.
use Rattle.std.proofs.Common.{◌≡◌, ◌⊎◌, inl, inr, ℕ, ◌+◌, ◌-◌, ◌<◌, ◌≤◌, ◌^◌, ◌==◌, ◌&&◌, ◌||◌, max, min, nat_lt, not, Bool, true, false, if◌then◌else◌, List, [], ◌∷◌, ◌++◌, Option, Some, None, refl, sym, ap, subst, ◌∙◌, arith, true≢false}
use Rattle.std.specs.Prelude.{⊤, is_some, is_none, unwrap_or, Result, Ok, Err}
use Rattle.std.proofs.lemmas.Bool.{ltb-true, ltb-false}
use Rattle.std.proofs.lemmas.Bool.Decides.{nat_tests}
use Rattle.fixp_msgs.specs.declared.flow.Flow.{Flow}
use Rattle.fixp_msgs.specs.declared.flow.Flow.TheVariants as flows
use Rattle.fixp_msgs.specs.declared.numbering.Range.{Range}
use Rattle.fixp_msgs.specs.Flow.{flow_code}
use Rattle.fixp_msgs.specs.declared.messages.Expected.{Expected}
use Rattle.fixp_msgs.specs.Message.{Message, negotiate, negotiation_response, negotiation_reject, establish, establishment_ack, establishment_reject, sequence, unsequenced_heartbeat, retransmit_request, retransmission, retransmit_reject, applied, not_applied, finished_sending, finished_receiving, terminate}
use Rattle.flow_recover.specs.declared.numbers.Seen.{Seen}
use Rattle.flow_recover.specs.declared.numbers.Seen.TheVariants.{Deliver, Hold, Gap, Repeat}
use Rattle.flow_recover.specs.Receiving as receiver_is
use Rattle.flow_retrans.specs.declared.requester.BadStart.{BadStart}
use Rattle.flow_retrans.specs.declared.judging.RetransmitCode.{RetransmitCode}
use Rattle.flow_retrans.specs.Judging.{judged, is_outside, request_limit}
use Rattle.flow_retrans.specs.Requests as request_is
use Rattle.fixp_shake.specs.declared.phase.Phase.TheVariants as phases
use Rattle.fixp_shake.specs.declared.violation.Violation.{Violation}
use Rattle.fixp_shake.specs.declared.violation.Violation.TheVariants.{AfterFinish}
use Rattle.fixp_shake.specs.Flows.{is_recoverable, is_idempotent, is_sequenced}
use Rattle.fixp_shake.specs.Phases.{is_idle, is_negotiating, is_establishing, is_established, is_closing}
use Rattle.fixp_replies.specs.declared.act.Act.{Act}
use Rattle.fixp_replies.specs.declared.act.Act.TheVariants as acts
use Rattle.fixp_replies.specs.declared.act.Ending.{Ending}
use Rattle.fixp_replies.specs.declared.act.Ending.TheVariants as endings
use Rattle.fixp_replies.specs.declared.facts.EndState.{EndState}
use Rattle.fixp_replies.specs.declared.facts.Facts.{Facts}
use Rattle.fixp_replies.specs.declared.facts.PeerFinish.TheVariants as peer
use Rattle.fixp_replies.specs.declared.facts.OwnFinish.TheVariants as own
use Rattle.fixp_replies.specs.Incoming.{Incoming, application, session, wrong_order, too_short, unknown}
use Rattle.fixp_replies.specs.Facts.{Around, is_initiator, is_own, in_phase, receiving, requesting, firm, serves, negotiated as as_negotiated, awaiting, gap_of, gap_to_ask, holding_too, having_asked, announced_number, peer_last, awaits_gap}
use Rattle.fixp_replies.specs.Outcomes.{Outcome, Row, row, goes_on, accepts, rejects, ignores, ends_with, ends, not_in_phase, skip_of, told_skip, opening_negotiate, opening_establish, breaks}
use Rattle.fixp_replies.specs.Announcing.{Announced, jumped_over, announced, announcement_fault, refuses, announcement_rows}
use Rattle.fixp_replies.specs.Handshake.{awaits_client, serves_client, established, acknowledges, establish_rows, established_again_rows, establish_rows_in, shaken, reached}
use Rattle.fixp_replies.specs.Expecting.{answers_next, returned, told_return, softened}
use Rattle.fixp_replies.specs.Flowing.{bad_retransmission, counted, taken_as, finish_act, peer_finished, answers_finish, is_filled, sequence_follows, restarted, finished_last, finish_fault, finished}
use Rattle.fixp_replies.specs.Serving.{request_answered, own_finishing}
use Rattle.fixp_replies.specs.Replies.{template_of, rows_of, answer_of, terminates, reply_of}
use Rattle.fixp_machine.specs.Sound.{Sound, HeldFits, Advances, WithinMost}
use Rattle.fixp_machine.specs.Fitting.{IsMessage, CanTake, recorded_after, WasSent, Records, Fits, ActsFit}
use Rattle.fixp_machine.proofs.Expecting.{returned_stays}
use Rattle.fixp_machine.proofs.Holding.{held_messages}
use Rattle.fixp_machine.proofs.Rows.{AllRows, by_row, all_rows, all_within, announced_rows, own_rows}
use Rattle.fixp_machine.proofs.Keeping.{in_bounds, or_right, expected_as, sound_goes_on}
use Rattle.fixp_machine.proofs.Tests.{none-some, not_opened, not_established}

-- what an inbox asks of an act beside its numbers
abbrev Allows : Flow → EndState → Incoming → Act → Type 0
Allows flow recorded i acts.Nothing = ⊤
Allows flow recorded i (acts.Apply number) = IsMessage i
Allows flow recorded i (acts.Skip from count) = (flow ≡ flows.Idempotent) × (1 ≤ count)
Allows flow recorded i acts.Negotiated = recorded.negotiated ≡ false
Allows flow recorded i (acts.PeerFinished last) = recorded.peer_last ≡ None
Allows flow recorded i (acts.Told from count) = ⊤
Allows flow recorded i acts.Ended = ⊤

abbrev Served : (f g : Facts) → Type 0
Served f g = (range : Range) → g.connection.serving ≡ Some range
    → ((f.connection.serving ≡ Some range) × (g.recorded.sent ≡ f.recorded.sent)) ⊎ WasSent g.recorded.sent range

record Moves (x : Around) (f : Facts) (i : Incoming) (o : Outcome) : Type 0 where
  allows : Allows x.config.peer_flow f.recorded i o.act
  recorded : Records o.act f.recorded o.next.recorded
  served : Served f o.next

-- the number of entries sent moves with no act
still_sent : (act : Act) (r : EndState) → (recorded_after act r).sent ≡ r.sent
still_sent acts.Nothing r = refl
still_sent (acts.Apply number) r = refl
still_sent (acts.Skip from count) r = refl
still_sent acts.Negotiated r = refl
still_sent (acts.PeerFinished last) r = refl
still_sent (acts.Told from count) r = refl
still_sent acts.Ended r = refl

-- what is recorded is what the act makes of it, with as many entries sent
exactly : (act : Act) (before after : EndState) → after ≡ recorded_after act before → Records act before after
exactly act before after e = e ∙ ap (λ (n : ℕ). record (recorded_after act before) { sent = n }) (sym (ap (λ (r : EndState). r.sent) e))

-- the range that was served is served still
still : (f g : Facts) → g.connection.serving ≡ f.connection.serving → g.recorded.sent ≡ f.recorded.sent → Served f g
still f g e sent range is = inl (sym e ∙ is, sent)

asked_recorded : (f : Facts) (g : Option Range) → (having_asked f g).recorded ≡ f.recorded
asked_recorded f None = refl
asked_recorded f (Some g) = refl

asked_serving : (f : Facts) (g : Option Range) → (having_asked f g).connection.serving ≡ f.connection.serving
asked_serving f None = refl
asked_serving f (Some g) = refl

-- the connection goes on
asked_served : (f next : Facts) (g : Option Range) → Served f next → Served f (having_asked next g)
asked_served f next None s = s
asked_served f next (Some g) s = s

going_by : (x : Around) (f next : Facts) (i : Incoming) (act : Act) (written : List Message) → Allows x.config.peer_flow f.recorded i act
    → Records act f.recorded next.recorded → Served f next → Moves x f i (goes_on x act written next)
going_by x f next i act written a r s = record {
  allows = a;
  recorded = subst (Records act f.recorded) (sym (asked_recorded next (gap_to_ask x next))) r;
  served = asked_served f next (gap_to_ask x next) s;
}

-- as many entries count as sent, and the range that was served is served still
going : (x : Around) (f next : Facts) (i : Incoming) (act : Act) (written : List Message) → Allows x.config.peer_flow f.recorded i act
    → next.recorded ≡ recorded_after act f.recorded → next.connection.serving ≡ f.connection.serving → Moves x f i (goes_on x act written next)
going x f next i act written a r s = going_by x f next i act written a (exactly act f.recorded next.recorded r)
    (still f next s (ap (λ (e : EndState). e.sent) r ∙ still_sent act f.recorded))

-- it goes on with nothing to be done, and what is recorded stays
accepting : (x : Around) (f next : Facts) (i : Incoming) (written : List Message) → next.recorded ≡ f.recorded → next.connection.serving ≡ f.connection.serving → Moves x f i (accepts x written next)
accepting x f next i written r s = going x f next i acts.Nothing written tt r s

-- nothing changes
staying : (x : Around) (f : Facts) (i : Incoming) (written : List Message) → Moves x f i (rejects written f)
staying x f i written = record { allows = tt; recorded = refl; served = still f f refl refl }

ending : (x : Around) (f : Facts) (i : Incoming) (written : List Message) (e : Ending) → Moves x f i (ends_with x f written e)
ending x f i written e = record { allows = tt; recorded = refl; served = still f f refl refl }

-- the same of facts with other requests
ending_of : (x : Around) (f next : Facts) (i : Incoming) (written : List Message) (e : Ending) → next.recorded ≡ f.recorded → next.connection.serving ≡ f.connection.serving
    → Moves x f i (ends_with x next written e)
ending_of x f next i written e r s = record { allows = tt; recorded = exactly acts.Nothing f.recorded next.recorded r; served = still f next s (ap (λ (e : EndState). e.sent) r) }

refusing : (x : Around) (f : Facts) (i : Incoming) (v : Option Violation) → Moves x f i (refuses x f v)
refusing x f i None = staying x f i []
refusing x f i (Some v) = ending x f i _ _

refusing_of : (x : Around) (f next : Facts) (i : Incoming) → next.recorded ≡ f.recorded → next.connection.serving ≡ f.connection.serving → (v : Option Violation)
    → Moves x f i (refuses x next v)
refusing_of x f next i r s None = record { allows = tt; recorded = exactly acts.Nothing f.recorded next.recorded r; served = still f next s (ap (λ (e : EndState). e.sent) r) }
refusing_of x f next i r s (Some v) = ending_of x f next i _ _ r s

bad : (x : Around) (f : Facts) (i : Incoming) (b : Option BadStart) → Moves x f i (bad_retransmission x f b)
bad x f i None = staying x f i []
bad x f i (Some b) = ending x f i _ _

idempotent : (flow : Flow) → is_idempotent flow ≡ true → flow ≡ flows.Idempotent
idempotent flows.Recoverable e = absurd (true≢false (sym e))
idempotent flows.Idempotent e = refl
idempotent flows.Unsequenced e = absurd (true≢false (sym e))
idempotent flows.None e = absurd (true≢false (sym e))

-- what an announcement makes
record Announces (x : Around) (f : Facts) (a : Announced) : Type 0 where
  allows : (i : Incoming) → Allows x.config.peer_flow f.recorded i (skip_of a.skipped)
  recorded : a.facts.recorded ≡ recorded_after (skip_of a.skipped) f.recorded
  serving : a.facts.connection.serving ≡ f.connection.serving
  finish : a.facts.connection.peer_finish ≡ f.connection.peer_finish
  unmoved : is_recoverable x.config.peer_flow ≡ true → a.facts.recorded ≡ f.recorded

abbrev jump_if : Bool → ℕ → ℕ → Option Range
jump_if b next n = if b then Some (record { from = next; count = n - next }) else None

jumps : (x : Around) (f : Facts) (n : ℕ) → x.config.peer_flow ≡ flows.Idempotent → f.recorded.inbox_next ≤ n
    → ((i : Incoming) → Allows x.config.peer_flow f.recorded i (skip_of (jumped_over f.recorded.inbox_next n)))
    × (record f.recorded { inbox_next = n } ≡ recorded_after (skip_of (jumped_over f.recorded.inbox_next n)) f.recorded)
jumps x f n flow low = by_test (nat_lt f.recorded.inbox_next n) refl
  where
    moved : (k : ℕ) → n ≡ k → record f.recorded { inbox_next = n } ≡ record f.recorded { inbox_next = k }
    moved k e = ap (λ (m : ℕ). record f.recorded { inbox_next = m }) e

    by_test : (b : Bool) → nat_lt f.recorded.inbox_next n ≡ b
        → ((i : Incoming) → Allows x.config.peer_flow f.recorded i (skip_of (jump_if b f.recorded.inbox_next n)))
        × (record f.recorded { inbox_next = n } ≡ recorded_after (skip_of (jump_if b f.recorded.inbox_next n)) f.recorded)
    by_test true t =
        let above = ltb-true f.recorded.inbox_next n t in
        (λ i. (flow, omega (arith, above)), moved (f.recorded.inbox_next + (n - f.recorded.inbox_next)) (omega (arith, low)))
    by_test false t =
        let high = ltb-false f.recorded.inbox_next n t in
        (λ i. tt, moved f.recorded.inbox_next (omega (arith, low, high)))

abbrev chosen : Around → Facts → ℕ → Bool → Bool → Announced
chosen x f n recoverable idempotent =
    if recoverable then record { facts = firm (receiving f (receiver_is.announced f.connection.receiver n)); skipped = None }
    else if idempotent then record { facts = awaiting f n; skipped = jumped_over f.recorded.inbox_next n }
    else record { facts = f; skipped = None }

announces : (x : Around) (f : Facts) (template : ℕ) (next : Option ℕ) → announcement_fault x f template next ≡ None → Announces x f (announced x f next)
announces x f template next e = by_flow (is_recoverable x.config.peer_flow) (is_idempotent x.config.peer_flow) refl refl
  where
    by_flow : (r i : Bool) → is_recoverable x.config.peer_flow ≡ r → is_idempotent x.config.peer_flow ≡ i → Announces x f (chosen x f (unwrap_or next 0) r i)
    by_flow true i rec idem = record { allows = λ _. tt; recorded = refl; serving = refl; finish = refl; unmoved = λ _. refl }
    by_flow false true rec idem =
        let b = in_bounds x f template next e (or_right (is_recoverable x.config.peer_flow) (is_idempotent x.config.peer_flow) idem) in
        let low : f.recorded.inbox_next ≤ unwrap_or next 0 =
        subst (λ (r : Bool). expected_as f r ≤ unwrap_or next 0) rec b.0 in
        let j = jumps x f (unwrap_or next 0) (idempotent x.config.peer_flow idem) low in
        record { allows = j.0; recorded = j.1; serving = refl; finish = refl; unmoved = λ t. absurd (true≢false (sym t ∙ rec)) }
    by_flow false false rec idem = record { allows = λ _. tt; recorded = refl; serving = refl; finish = refl; unmoved = λ _. refl }

-- an announcement is followed by what goes on from its facts, where the number that the peer expects is taken, and nothing is served
follows_return : (x : Around) (f : Facts) (i : Incoming) (e : Expected) (a : Announced) (next : Facts) (written : List Message) → Announces x f a → f.connection.serving ≡ None
    → next.recorded ≡ (returned x a.facts e).recorded → next.connection.serving ≡ (returned x a.facts e).connection.serving → Moves x f i (goes_on x (skip_of a.skipped) written next)
follows_return x f i e a next written is free r s =
    let t = returned_stays x a.facts e in
    let none : next.connection.serving ≡ None = s ∙ (ap (λ c. c.serving) t.connection ∙ (is.serving ∙ free)) in
    let moved : next.recorded ≡ record a.facts.recorded { sent = next.recorded.sent } =
    r ∙ (t.recorded ∙ ap (λ (n : ℕ). record a.facts.recorded { sent = n }) (sym (ap (λ (k : EndState). k.sent) r))) in
    going_by x f next i (skip_of a.skipped) written (is.allows i)
    (moved ∙ ap (λ (k : EndState). record k { sent = next.recorded.sent }) is.recorded)
    (λ range serves_it. absurd (none-some (Some range) refl (sym serves_it ∙ none)))

-- the peer's finish is answered, and recorded where it was not
finishes : (r : EndState) (p : Option ℕ) (last : ℕ) → r.peer_last ≡ p → record r { peer_last = Some (unwrap_or p last) } ≡ recorded_after (finish_act p last) r
finishes r None last e = refl
finishes r (Some l) last e = ap (λ (q : Option ℕ). record r { peer_last = q }) (sym e)

allows_finish : (x : Around) (r : EndState) (i : Incoming) (p : Option ℕ) (last : ℕ) → r.peer_last ≡ p → Allows x.config.peer_flow r i (finish_act p last)
allows_finish x r i None last e = e
allows_finish x r i (Some l) last e = tt

answering : (x : Around) (f next : Facts) (i : Incoming) (last : ℕ) → next.recorded ≡ f.recorded → next.connection.serving ≡ f.connection.serving → Moves x f i (answers_finish x next last)
answering x f next i last r s =
    going x f (peer_finished next (peer.Exchanged last) (Some (unwrap_or next.recorded.peer_last last))) i (finish_act next.recorded.peer_last last) (finished_receiving x.config.session ∷ [])
    (subst (λ (e : EndState). Allows x.config.peer_flow e i (finish_act next.recorded.peer_last last)) r (allows_finish x next.recorded i next.recorded.peer_last last refl))
    (subst (λ (e : EndState). record next.recorded { peer_last = Some (unwrap_or next.recorded.peer_last last) } ≡ recorded_after (finish_act next.recorded.peer_last last) e) r (finishes next.recorded next.recorded.peer_last last refl))
    s

-- Sequence, where its announcement stands
following : (x : Around) (f ended : Facts) (i : Incoming) (next : ℕ) (a : Announced) → Sound x.config f → ended.recorded ≡ f.recorded → ended.connection.serving ≡ f.connection.serving
    → ended.connection.peer_finish ≡ f.connection.peer_finish → Announces x ended a → Moves x f i (sequence_follows x ended next a)
following x f ended i next a s r serving finish is =
    all_rows (Moves x f i) (ignores ended) rows (refusing_of x f ended i r serving None) (
      λ _. ending_of x f ended i _ _ r serving,
      λ _. (
        λ filled. by_flow (is_recoverable x.config.peer_flow) refl (and_left (is_some (awaits_gap a.facts.connection.peer_finish)) (is_none (gap_of x a.facts)) filled),
        λ _. (
          λ _. going x f a.facts i (skip_of a.skipped) (told_skip a.skipped) (subst (λ (e : EndState). Allows x.config.peer_flow e i (skip_of a.skipped)) r (is.allows i))
              (is.recorded ∙ ap (λ (e : EndState). recorded_after (skip_of a.skipped) e) r) (is.serving ∙ serving),
          λ _. tt,
        ),
      ),
    )
  where
    rows : List Row
    rows =
        row (is_sequenced x.config.peer_flow && is_some (peer_last ended) && not (next == unwrap_or (peer_last ended) 0 + 1)) (breaks x ended (AfterFinish (unwrap_or (peer_last ended) 0) next))
        ∷ row (is_filled x a.facts) (answers_finish x a.facts (unwrap_or (awaits_gap a.facts.connection.peer_finish) 0))
        ∷ row true (goes_on x (skip_of a.skipped) (told_skip a.skipped) a.facts)
        ∷ []

    and_left : (p q : Bool) → (p && q) ≡ true → p ≡ true
    and_left true q t = refl
    and_left false q t = absurd (true≢false (sym t))

    by_flow : (b : Bool) → is_recoverable x.config.peer_flow ≡ b → is_some (awaits_gap a.facts.connection.peer_finish) ≡ true
        → Moves x f i (answers_finish x a.facts (unwrap_or (awaits_gap a.facts.connection.peer_finish) 0))
    by_flow true rec t = answering x f a.facts i (unwrap_or (awaits_gap a.facts.connection.peer_finish) 0) (is.unmoved rec ∙ r) (is.serving ∙ serving)
    by_flow false rec t = absurd (none-some (awaits_gap a.facts.connection.peer_finish) t (ap (λ p. awaits_gap p) (is.finish ∙ finish) ∙ s.unread rec))

-- what is judged to be sent again was sent
abbrev judged_as : Bool → Bool → Bool → ℕ → ℕ → Result Range RetransmitCode
judged_as own outside large from count =
    if not own then Err RetransmitCode.InvalidSession
    else if outside then Err RetransmitCode.OutOfRange
    else if large then Err RetransmitCode.RequestLimitExceeded
    else Ok (record { from = from; count = count })

judged_tests : (own outside large : Bool) (from count : ℕ) (range : Range) → judged_as own outside large from count ≡ Ok range
    → (outside ≡ false) × (large ≡ false) × (range.from ≡ from) × (range.count ≡ count)
judged_tests false outside large from count range e = absurd cc
judged_tests true true large from count range e = absurd cc
judged_tests true false true from count range e = absurd cc
judged_tests true false false from count range e = let same : record { from = from; count = count } ≡ range = cc in
    (refl, refl, sym (ap (λ (r : Range). r.from) same), sym (ap (λ (r : Range). r.count) same))

or_tests : (a b c d : Bool) → (a || b || c || d) ≡ false → (b ≡ false) × (c ≡ false) × (d ≡ false)
or_tests a b c d e = grind arith

judged_sent : (own recoverable : Bool) (from count sent : ℕ) (range : Range) → judged own recoverable from count sent ≡ Ok range → WasSent sent range
judged_sent own recoverable from count sent range e =
    let t = judged_tests own (is_outside recoverable from count sent) (nat_lt request_limit count) from count range e in
    let o = or_tests (not recoverable) (from == 0) (count == 0) (nat_lt (sent + 1) (from + count)) t.0 in
    let last = ltb-false (sent + 1) (from + count) o.2 in
    let most = ltb-false request_limit count t.1 in
    let least : 1 ≤ from = not_zero from o.0 in
    let some : 1 ≤ count = not_zero count o.1 in
    record {
      first = omega (arith, least, t.2);
      some = omega (arith, some, t.3);
      few = subst (λ (n : ℕ). n ≤ request_limit) (sym t.3) most;
      last = omega (arith, last, t.2, t.3);
    }
  where
    not_zero : (n : ℕ) → (n == 0) ≡ false → 1 ≤ n
    not_zero n e = grind (arith, nat_tests)

answered : (x : Around) (f : Facts) (i : Incoming) (id : List ℕ) (timestamp : ℕ) (r : Result Range RetransmitCode)
    → ((range : Range) → r ≡ Ok range → WasSent f.recorded.sent range) → Moves x f i (request_answered x f id timestamp r)
answered x f i id timestamp (Ok range) sent =
    going_by x f (serves f (Some range)) i acts.Nothing (retransmission x.config.session range.from timestamp range.count ∷ []) tt refl (λ other is. let same : range ≡ other = cc in inr (subst (WasSent f.recorded.sent) same (sent range refl)))
answered x f i id timestamp (Err code) sent = staying x f i _

-- an initiator goes on with the handshake
set_negotiated : (r : EndState) (b : Bool) → r.negotiated ≡ b → record r { negotiated = true } ≡ recorded_after (if b then acts.Nothing else acts.Negotiated) r
set_negotiated r true e = ap (λ (b : Bool). record r { negotiated = b }) (sym e)
set_negotiated r false e = refl

allows_negotiated : (x : Around) (r : EndState) (i : Incoming) (b : Bool) → r.negotiated ≡ b → Allows x.config.peer_flow r i (if b then acts.Nothing else acts.Negotiated)
allows_negotiated x r i true e = tt
allows_negotiated x r i false e = e

shaking : (x : Around) (f : Facts) (i : Incoming) → Moves x f i (shaken x f)
shaking x f i = going x f (in_phase (as_negotiated f) phases.Establishing) i (if f.recorded.negotiated then acts.Nothing else acts.Negotiated) (opening_establish x f ∷ [])
    (allows_negotiated x f.recorded i f.recorded.negotiated refl) (set_negotiated f.recorded f.recorded.negotiated refl) refl

message_rows : (x : Around) (f : Facts) (p : List ℕ) → AllRows (Moves x f (application p)) (rows_of x f (application p))
message_rows x f p = all_within (Moves x f (application p)) (is_established f.connection.phase) _ (λ _. (
  λ _. ending x f (application p) _ _,
  λ _. (
    λ _. ending x f (application p) _ _,
    λ _. (
      λ _. ending x f (application p) _ _,
      λ _. (
        λ _. going x f (awaiting f (f.recorded.inbox_next + 1)) (application p) (acts.Apply f.recorded.inbox_next) [] tt refl refl,
        λ _. (
          λ _. bad x f (application p) (request_is.message_fault f.connection.requester),
          λ _. (λ _. taking (receiver_is.seen f.connection.receiver), λ _. tt),
        ),
      ),
    ),
  ),
))
  where
    taking : (s : Seen) → Moves x f (application p) (taken_as x (counted f) s)
    taking (Deliver n) = going x f (awaiting (counted f) (n + 1)) (application p) (acts.Apply n) [] tt refl refl
    taking (Hold n) = let k = accepting (holding_too x n) f (counted f) (application p) [] refl refl in record { allows = k.allows; recorded = k.recorded; served = k.served }
    taking (Gap n) = accepting x f (counted f) (application p) [] refl refl
    taking (Repeat n) = accepting x f (counted f) (application p) [] refl refl

establish_all : (x : Around) (f : Facts) (i : Incoming) (id : List ℕ) (timestamp keepalive : ℕ) (next : Option ℕ) (expected : Expected) (credentials : List ℕ) → Sound x.config f
    → AllRows (Moves x f i) (establish_rows_in x f id timestamp keepalive next expected credentials)
establish_all x f i id timestamp keepalive next expected credentials s = by_place (awaits_client x f) (serves_client x f) refl
  where
    idle : (i d : Bool) → (not i && d) ≡ true → d ≡ true
    idle false d t = t
    idle true d t = absurd (true≢false (sym t))

    acknowledged : awaits_client x f ≡ true → (a : Announced) → Announces x f a → Moves x f i (acknowledges x timestamp keepalive expected a)
    acknowledged waits a is = follows_return x f i expected a (established (softened x expected (returned x a.facts expected)) keepalive)
        (establishment_ack x.config.session timestamp x.config.keepalive (announced_number x (returned x a.facts expected)) (answers_next x expected (returned x a.facts expected)) ∷ told_skip a.skipped)
        is (s.opening (not_opened f.connection.phase (idle (is_initiator x.config.role) (is_idle f.connection.phase) waits))).no_range refl refl

    first : awaits_client x f ≡ true → AllRows (Moves x f i) (establish_rows x f id timestamp keepalive next expected credentials)
    first waits = (
      λ _. staying x f i _,
      λ _. (
        λ _. staying x f i _,
        λ _. (
          λ _. staying x f i _,
          λ _. announced_rows (Moves x f i) x f 4 next (acknowledges x timestamp keepalive expected) (refusing x f i) (λ e. acknowledged waits (announced x f next) (announces x f 4 next e)),
        ),
      ),
    )

    again : AllRows (Moves x f i) (established_again_rows x f id timestamp)
    again = (λ _. staying x f i _, λ _. (λ _. staying x f i _, λ _. tt))

    by_place : (a b : Bool) → awaits_client x f ≡ a
        → AllRows (Moves x f i) (if a then establish_rows x f id timestamp keepalive next expected credentials else if b then established_again_rows x f id timestamp else [])
    by_place true b waits = first waits
    by_place false true waits = again
    by_place false false waits = tt

session_rows : (x : Around) (f : Facts) (m : Message) → Sound x.config f → AllRows (Moves x f (session m)) (rows_of x f (session m))
session_rows x f (negotiate id timestamp flow credentials) s =
    let i : Incoming = session (negotiate id timestamp flow credentials) in
    all_within (Moves x f i) (awaits_client x f) _ (λ _. (
      λ _. staying x f i _,
      λ _. (
        λ _. staying x f i _,
        λ _. (
          λ _. staying x f i _,
          λ _. (
            λ _. staying x f i _,
            λ fresh. (λ _. going x f (as_negotiated f) i acts.Negotiated (negotiation_response x.config.session timestamp (flow_code x.config.own_flow) [] ∷ []) fresh refl refl, λ _. tt),
          ),
        ),
      ),
    ))
session_rows x f (negotiation_response id timestamp flow credentials) s =
    let i : Incoming = session (negotiation_response id timestamp flow credentials) in
    own_rows (Moves x f i) x f 2 id _ (λ e. ending x f i _ e) (all_within (Moves x f i) (is_negotiating f.connection.phase) _ (λ _. (λ _. ending x f i _ _, λ _. (λ _. shaking x f i, λ _. tt))))
session_rows x f (negotiation_reject id timestamp code reason) s =
    let i : Incoming = session (negotiation_reject id timestamp code reason) in
    own_rows (Moves x f i) x f 3 id _ (λ e. ending x f i _ e) (all_within (Moves x f i) (is_negotiating f.connection.phase) _ (λ _. (λ _. shaking x f i, λ _. (λ _. ending x f i _ _, λ _. tt))))
session_rows x f (establish id timestamp keepalive next expected credentials) s = establish_all x f (session (establish id timestamp keepalive next expected credentials)) id timestamp keepalive next expected credentials s
session_rows x f (establishment_ack id timestamp keepalive next expected) s =
    let i : Incoming = session (establishment_ack id timestamp keepalive next expected) in
    let a : Announced = announced x f next in
    own_rows (Moves x f i) x f 5 id _ (λ e. ending x f i _ e) (all_within (Moves x f i) (is_establishing f.connection.phase) _ (λ n.
    announced_rows (Moves x f i) x f 5 next (reached x keepalive expected) (refusing x f i)
    (λ e. follows_return x f i expected a (established (returned x a.facts expected) (min 60000 (max 100 keepalive))) (told_skip a.skipped ++ told_return x a.facts expected)
    (announces x f 5 next e) (s.opening (not_established f.connection.phase n)).no_range refl refl)))
session_rows x f (establishment_reject id timestamp code reason) s =
    let i : Incoming = session (establishment_reject id timestamp code reason) in
    own_rows (Moves x f i) x f 6 id _ (λ e. ending x f i _ e) (all_within (Moves x f i) (is_establishing f.connection.phase) _ (λ _. (
      λ _. accepting x f (in_phase f phases.Negotiating) i (opening_negotiate x ∷ []) refl refl,
      λ _. (λ _. ending x f i _ _, λ _. tt),
    )))
session_rows x f (sequence next) s =
    let i : Incoming = session (sequence next) in
    all_within (Moves x f i) (is_established f.connection.phase) _ (λ _. (
      λ _. bad x f i (request_is.sequence_fault f.connection.requester),
      λ _. after i (requesting f (request_is.after_sequence f.connection.requester)) refl refl refl,
    ))
  where
    after : (i : Incoming) (ended : Facts) → ended.recorded ≡ f.recorded → ended.connection.serving ≡ f.connection.serving → ended.connection.peer_finish ≡ f.connection.peer_finish
        → AllRows (Moves x f i) (announcement_rows x ended 7 (Some next) (sequence_follows x ended next))
    after i ended r serving finish =
        announced_rows (Moves x f i) x ended 7 (Some next) (sequence_follows x ended next) (refusing_of x f ended i r serving)
        (λ none. following x f ended i next (announced x ended (Some next)) s r serving finish (announces x ended 7 (Some next) none))
session_rows x f unsequenced_heartbeat s = (λ _. accepting x f f (session unsequenced_heartbeat) [] refl refl, λ _. tt)
session_rows x f (retransmit_request id timestamp first count) s =
    let i : Incoming = session (retransmit_request id timestamp first count) in
    all_within (Moves x f i) (is_established f.connection.phase) _ (λ _. (
      λ _. ending x f i _ _,
      λ _. (
        λ _. answered x f i id timestamp (judged (is_own x id) (is_recoverable x.config.own_flow) first count f.recorded.sent)
            (λ range is. judged_sent (is_own x id) (is_recoverable x.config.own_flow) first count f.recorded.sent range is),
        λ _. tt,
      ),
    ))
session_rows x f (retransmission id next timestamp count) s =
    let i : Incoming = session (retransmission id next timestamp count) in
    own_rows (Moves x f i) x f 10 id _ (λ e. ending x f i _ e) (all_within (Moves x f i) (is_established f.connection.phase) _ (λ _. (
      λ _. bad x f i (request_is.start_fault (request_is.outstanding f.connection.requester) next count),
      λ _. (λ _. accepting x f (restarted f next count) i [] refl refl, λ _. tt),
    )))
session_rows x f (retransmit_reject id timestamp code reason) s =
    let i : Incoming = session (retransmit_reject id timestamp code reason) in
    own_rows (Moves x f i) x f 11 id _ (λ e. ending x f i _ e) (all_within (Moves x f i) (is_established f.connection.phase) _ (λ _. (λ _. ending x f i _ _, λ _. tt)))
session_rows x f (applied first count) s = (λ _. accepting x f f (session (applied first count)) [] refl refl, λ _. tt)
session_rows x f (not_applied first count) s =
    let i : Incoming = session (not_applied first count) in
    (λ _. going x f f i (acts.Told first count) [] tt refl refl, λ _. (λ _. accepting x f f i [] refl refl, λ _. tt))
session_rows x f (finished_sending id last) s =
    let i : Incoming = session (finished_sending id last) in
    own_rows (Moves x f i) x f 14 id _ (λ e. ending x f i _ e) (all_within (Moves x f i) (is_established f.connection.phase) _ (λ _. (
      λ some. refused i (finish_fault x f last) some,
      λ _. (λ _. finishing i (finished_last x last), λ _. tt),
    )))
  where
    refused : (i : Incoming) (v : Option Violation) → is_some v ≡ true → Moves x f i (refuses x f v)
    refused i None some = absurd (true≢false (sym some))
    refused i (Some v) some = ending x f i _ _

    finishing : (i : Incoming) (n : ℕ) → Moves x f i (finished x f n)
    finishing i n = by_row (Moves x f i) (is_some (gap_of x f)) (accepts x [] (peer_finished f (peer.Read n) f.recorded.peer_last)) (answers_finish x f n)
        (λ _. accepting x f (peer_finished f (peer.Read n) f.recorded.peer_last) i [] refl refl)
        (λ _. answering x f f i n refl refl)
session_rows x f (finished_receiving id) s =
    let i : Incoming = session (finished_receiving id) in
    own_rows (Moves x f i) x f 15 id _ (λ e. ending x f i _ e) (all_within (Moves x f i) (is_established f.connection.phase) _ (λ _. (
      λ _. accepting x f (own_finishing f own.Exchanged) i [] refl refl,
      λ _. tt,
    )))
session_rows x f (terminate id code reason) s =
    let i : Incoming = session (terminate id code reason) in
    let answer : Row = row true (ends x f 1 (endings.PeerTerminated code)) in
    let rest : AllRows (Moves x f i) (answer ∷ []) = (λ _. ending x f i _ _, λ _. tt) in
    own_rows (Moves x f i) x f 16 id (answer ∷ []) (λ e. ending x f i _ e) rest

each_row : (x : Around) (f : Facts) (i : Incoming) → Sound x.config f → AllRows (Moves x f i) (rows_of x f i)
each_row x f (application p) s = message_rows x f p
each_row x f (session m) s = session_rows x f m s
each_row x f wrong_order s = (λ _. ending x f wrong_order _ _, λ _. tt)
each_row x f too_short s = (λ _. ending x f too_short _ _, λ _. tt)
each_row x f (unknown template) s = (λ _. ending x f (unknown template) _ _, λ _. tt)

moves : (x : Around) (f : Facts) (i : Incoming) → Sound x.config f → Moves x f i (reply_of x f i)
moves x f i s =
    by_row (Moves x f i) (is_closing f.connection.phase && not (terminates x i)) (ignores f) (answer_of x f i)
    (λ _. staying x f i [])
    (λ _. all_rows (Moves x f i) (not_in_phase x f (template_of i)) (rows_of x f i) (ending x f i _ _) (each_row x f i s))

-- with the numbers, an inbox can take the act
can_take : (flow : Flow) (most : ℕ) (r : EndState) (i : Incoming) (act : Act) (after : ℕ) → Allows flow r i act → Advances act r.inbox_next after → WithinMost most act
    → CanTake flow most r (IsMessage i) act
can_take flow most r i acts.Nothing after a n w = tt
can_take flow most r i (acts.Apply number) after a n w = (a, n.0, w)
can_take flow most r i (acts.Skip from count) after a n w = (a.0, n.0, a.1, w)
can_take flow most r i acts.Negotiated after a n w = a
can_take flow most r i (acts.PeerFinished last) after a n w = a
can_take flow most r i (acts.Told from count) after a n w = tt
can_take flow most r i acts.Ended after a n w = tt

frame_fits : (x : Around) (f : Facts) (i : Incoming) → x.most < 2 ^ 40 → Sound x.config f → HeldFits x.held f → Fits x.config x.most f i (reply_of x f i)
frame_fits x f i low s h =
    let o : Outcome = reply_of x f i in
    let k = sound_goes_on x f i low s h in
    let m = moves x f i s in
    record {
      takes = can_take x.config.peer_flow x.most f.recorded i o.act o.next.recorded.inbox_next m.allows k.advances k.within;
      recorded = m.recorded;
      served = m.served;
      holds = held_messages x f i;
    }

pub acts_fit : ActsFit
acts_fit = record {
  frames = frame_fits;
  bad_frames = λ x f i. record { takes = tt; recorded = refl; served = still f f refl refl; holds = λ some. absurd (true≢false (sym some)) };
}
