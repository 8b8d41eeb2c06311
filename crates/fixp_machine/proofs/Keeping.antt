-- Sound facts stay sound, row by row.
use Rattle.std.proofs.Common.{◌≡◌, ◌≢◌, ℕ, ◌+◌, ◌-◌, ◌*◌, ◌<◌, ◌≤◌, ◌^◌, ◌==◌, ◌&&◌, ◌||◌, max, min, nat_lt, not, Bool, true, false, if◌then◌else◌, List, length, [], ◌∷◌, ◌++◌, Option, Some, None, refl, sym, ap, subst, ◌∙◌, arith, eq-eqb, true≢false}
use Rattle.std.specs.Prelude.{is_some, is_none, unwrap_or, Result, Ok, Err}
use Rattle.std.specs.List.{AllByRecursion}
use Rattle.std.proofs.lemmas.Bool.{ltb-false}
use Rattle.fixp_msgs.specs.declared.numbering.Range.{Range}
use Rattle.fixp_msgs.specs.Flow.{flow_code}
use Rattle.fixp_msgs.specs.declared.messages.Expected.{Expected}
use Rattle.fixp_msgs.specs.Message.{Message, negotiate, negotiation_response, negotiation_reject, establish, establishment_ack, establishment_reject, sequence, unsequenced_heartbeat, retransmit_request, retransmission, retransmit_reject, applied, not_applied, finished_sending, finished_receiving, terminate}
use Rattle.flow_recover.specs.declared.numbers.Seen.{Seen}
use Rattle.flow_recover.specs.declared.numbers.Seen.TheVariants.{Deliver, Hold, Gap, Repeat}
use Rattle.flow_recover.specs.Receiving as receiver_is
use Rattle.flow_recover.proofs.Chains.{next_counted}
use Rattle.flow_retrans.specs.declared.requester.BadStart.{BadStart}
use Rattle.flow_retrans.specs.declared.judging.RetransmitCode.{RetransmitCode}
use Rattle.flow_retrans.specs.Judging.{judged, code_of}
use Rattle.flow_retrans.specs.Requests as request_is
use Rattle.flow_retrans.specs.declared.request.Request.{Request}
use Rattle.flow_retrans.specs.declared.request.Request.TheVariants as requests
use Rattle.fixp_msgs.specs.Canonical.{IsWritable, IsWritableField}
use Rattle.fixp_msgs.specs.Table.{Field, null}
use Rattle.fixp_shake.specs.declared.config.EndConfig.{EndConfig}
use Rattle.fixp_shake.specs.declared.phase.Phase.TheVariants as phases
use Rattle.fixp_shake.specs.declared.violation.Violation.{Violation}
use Rattle.fixp_shake.specs.declared.violation.Violation.TheVariants.{AfterFinish, MissingNext, NumberTooLarge, WentBack}
use Rattle.fixp_shake.specs.Flows.{is_recoverable, is_idempotent, is_sequenced}
use Rattle.fixp_shake.specs.Phases.{is_idle, is_negotiating, is_establishing, is_established, is_closing, is_shaken}
use Rattle.fixp_replies.specs.declared.act.Act.{Act}
use Rattle.fixp_replies.specs.declared.act.Act.TheVariants as acts
use Rattle.fixp_replies.specs.declared.act.Ending.{Ending}
use Rattle.fixp_replies.specs.declared.act.Ending.TheVariants as endings
use Rattle.fixp_replies.specs.declared.facts.Facts.{Facts}
use Rattle.fixp_replies.specs.declared.facts.PeerFinish.TheVariants as peer
use Rattle.fixp_replies.specs.declared.facts.OwnFinish.TheVariants as own
use Rattle.fixp_replies.specs.Incoming.{Incoming, application, session, wrong_order, too_short, unknown}
use Rattle.fixp_replies.specs.Facts.{Around, is_initiator, is_own, in_phase, receiving, requesting, firm, serves, negotiated as as_negotiated, awaiting, gap_of, gap_to_ask, holding_too, having_asked, announced_number, expected_number, message_number, peer_last, awaits_gap}
use Rattle.fixp_replies.specs.Outcomes.{Outcome, Row, row, goes_on, accepts, rejects, ignores, ends_with, ends, breaks, not_in_phase, request_for, skip_of, told_skip, opening_negotiate, opening_establish}
use Rattle.fixp_replies.specs.Announcing.{Announced, jumped_over, announced, announcement_fault, refuses, announcement_rows}
use Rattle.fixp_replies.specs.Handshake.{awaits_client, serves_client, rejects_negotiate, rejects_establish, established, acknowledges, establish_rows, established_again_rows, establish_rows_in, shaken, reached}
use Rattle.fixp_replies.specs.Expecting.{is_newer, is_present, number_in, told_next, answers_next, takes, returned, told_return, softens, softened}
use Rattle.fixp_replies.specs.Flowing.{bad_retransmission, counted, taken_as, finish_act, peer_finished, answers_finish, is_filled, sequence_follows, restarted, finished_last, finish_fault, finished}
use Rattle.fixp_replies.specs.Serving.{request_answered, own_finishing}
use Rattle.fixp_replies.specs.Replies.{template_of, rows_of, answer_of, terminates}
use Rattle.fixp_machine.specs.Sound.{IsOpening, IsSoft, Sound, Advances, is_opening, MayWrite, WithinMost, may_return, KeepsSent, KeepsSound, HeldFits, SoundGoesOn}
use Rattle.fixp_machine.proofs.Expecting.{Stays, returned_stays, kept, returned_keeps, told_writable, answer_writable}
use Rattle.fixp_machine.proofs.Rows.{AllRows, by_row, all_rows, all_within, announced_rows, own_rows}
use Rattle.fixp_machine.proofs.Tests.{not_true, not_false, none-some, delivers, passes, no_gap_of, other_gap, is_done, not_negotiated, not_established, not_opened}

abbrev Writes : EndConfig → List Message → Type 0
Writes cfg ms = AllByRecursion (MayWrite cfg) ms

plain : (cfg : EndConfig) (m : Message) → is_opening m ≡ false → IsWritable m → Writes cfg (m ∷ [])
plain cfg m e w = (record { opening = λ t. absurd (true≢false (sym t ∙ e)); writable = w }, tt)

writes_behind : (cfg : EndConfig) (ms more : List Message) → Writes cfg ms → Writes cfg more → Writes cfg (ms ++ more)
writes_behind cfg [] more p q = q
writes_behind cfg (m ∷ ms) more p q = (p.0, writes_behind cfg ms more p.1 q)

-- the number that an end announces is not the null value
not_null : (x : Around) (f : Facts) → f.recorded.sent < 2 ^ 40 → announced_number x f ≢ Some null
not_null x f h = by_flow (is_sequenced x.config.own_flow)
  where
    by_flow : (b : Bool) → (if b then Some (f.recorded.sent + 1) else None) ≢ Some null
    by_flow true e = let same : f.recorded.sent + 1 ≡ 2 ^ 64 - 1 = cc e in omega (arith, h, same)
    by_flow false e = cc e

writes_terminate : (cfg : EndConfig) (code : ℕ) → Writes cfg (terminate cfg.session code [] ∷ [])
writes_terminate cfg code = plain cfg (terminate cfg.session code []) refl (record { numbers = (tt, (tt, tt)); datum = omega arith })

writes_ack : (x : Around) (f : Facts) (timestamp : ℕ) (e : Expected) → f.recorded.sent < 2 ^ 40 → (is_recoverable x.config.peer_flow ≡ true → f.recorded.inbox_next + 1 < 2 ^ 64)
    → Writes x.config (establishment_ack x.config.session timestamp x.config.keepalive (announced_number x f) (answers_next x e f) ∷ [])
writes_ack x f timestamp e h low = plain x.config (establishment_ack x.config.session timestamp x.config.keepalive (announced_number x f) (answers_next x e f)) refl
    (record { numbers = (tt, (tt, (tt, (not_null x f h, (answer_writable x e f low, tt))))); datum = tt })

-- the Sequence that tells where an end starts
writes_return : (x : Around) (f : Facts) (e : Expected) → Writes x.config (told_return x f e)
writes_return x f e = by_test (takes x f e && not (number_in e == f.recorded.sent + 1))
  where
    by_test : (b : Bool) → Writes x.config (if b then sequence (number_in e) ∷ [] else [])
    by_test true = plain x.config (sequence (number_in e)) refl (record { numbers = (tt, tt); datum = tt })
    by_test false = tt

asks_not : (x : Around) (g : Option Range) → Writes x.config (request_for x g)
asks_not x None = tt
asks_not x (Some g) = plain x.config (retransmit_request x.config.session (x.moment * 1000000) (request_is.first_of_gap g).from (request_is.first_of_gap g).count) refl
    (record { numbers = (tt, (tt, (tt, (tt, tt)))); datum = tt })

tells_not : (cfg : EndConfig) (s : Option Range) → Writes cfg (told_skip s)
tells_not cfg None = tt
tells_not cfg (Some s) = plain cfg (not_applied s.from s.count) refl (record { numbers = (tt, (tt, tt)); datum = tt })

writes_receiving : (cfg : EndConfig) → Writes cfg (finished_receiving cfg.session ∷ [])
writes_receiving cfg = plain cfg (finished_receiving cfg.session) refl (record { numbers = (tt, tt); datum = tt })

-- the messages that open carry the credentials
writes_negotiate : (x : Around) → is_initiator x.config.role ≡ true → length x.config.credentials ≤ 2048 → Writes x.config (opening_negotiate x ∷ [])
writes_negotiate x i h = (record { opening = λ _. i; writable = record { numbers = (tt, (tt, (tt, tt))); datum = h } }, tt)

writes_establish : (x : Around) (f : Facts) → is_initiator x.config.role ≡ true → length x.config.credentials ≤ 2048 → f.recorded.sent < 2 ^ 40
    → (is_recoverable x.config.peer_flow ≡ true → f.recorded.inbox_next + 1 < 2 ^ 64) → Writes x.config (opening_establish x f ∷ [])
writes_establish x f i h sent low = (record { opening = λ _. i; writable = record { numbers = (tt, (tt, (tt, (not_null x f sent, (told_writable x f low, tt))))); datum = h } }, tt)

-- nothing is held before the handshake is done
abbrev Opens : Around → Facts → Type 0
Opens x f = is_shaken f.connection.phase ≡ false → x.held ≡ None

-- a gap that is to be asked for is there, and the connection is not soft
asks_gap : (x : Around) (f : Facts) (g : Range) → gap_to_ask x f ≡ Some g → (f.connection.soft ≡ false) × (gap_of x f ≡ Some g)
asks_gap x f g = by_tests f.connection.soft (is_some (request_is.outstanding f.connection.requester))
  where
    by_tests : (a b : Bool) → (if a || b then None else gap_of x f) ≡ Some g → (a ≡ false) × (gap_of x f ≡ Some g)
    by_tests false false e = (refl, e)
    by_tests false true e = absurd cc
    by_tests true b e = absurd cc

asked_sound : (x : Around) (f : Facts) (g : Option Range) → gap_to_ask x f ≡ g → Opens x f → Sound x.config f → Sound x.config (having_asked f g)
asked_sound x f None e h s = s
asked_sound x f (Some g) e h s =
    let a = asks_gap x f g e in
    record {
      waits = s.waits;
      even = s.even;
      unread = s.unread;
      credentials = s.credentials;
      sent = s.sent;
      next = s.next;
      opening = λ n. absurd (none-some (gap_of x f) (ap is_some a.1) (no_gap_of x f (h n) (s.opening n).no_gap));
      soft = λ t. absurd (true≢false (sym t ∙ a.0));
      role = s.role;
    }

asked_awaits : (f : Facts) (g : Option Range) → (having_asked f g).recorded.inbox_next ≡ f.recorded.inbox_next
asked_awaits f None = refl
asked_awaits f (Some g) = refl

asked_keeps : (cfg : EndConfig) (f next : Facts) (g : Option Range) → KeepsSent cfg f next → KeepsSent cfg f (having_asked next g)
asked_keeps cfg f next None k = k
asked_keeps cfg f next (Some g) k = record { most = k.most; same = k.same }

-- the connection goes on with facts that are sound
going_by : (x : Around) (f next : Facts) (act : Act) (written : List Message) → Opens x next → Sound x.config next → KeepsSent x.config f next
    → Advances act f.recorded.inbox_next next.recorded.inbox_next → WithinMost x.most act → Writes x.config written → KeepsSound x.config x.most f (goes_on x act written next)
going_by x f next act written h s same a w o = record {
  next = asked_sound x next (gap_to_ask x next) refl h s;
  sent = asked_keeps x.config f next (gap_to_ask x next) same;
  advances = subst (λ n. Advances act f.recorded.inbox_next n) (sym (asked_awaits next (gap_to_ask x next))) a;
  within = w;
  writes = writes_behind x.config written (request_for x (gap_to_ask x next)) o (asks_not x (gap_to_ask x next));
}

-- as many entries count as sent
going : (x : Around) (f next : Facts) (act : Act) (written : List Message) → Opens x next → Sound x.config next → next.recorded.sent ≡ f.recorded.sent
    → Advances act f.recorded.inbox_next next.recorded.inbox_next → WithinMost x.most act → Writes x.config written → KeepsSound x.config x.most f (goes_on x act written next)
going x f next act written h s same a w o = going_by x f next act written h s (kept x.config f next same) a w o

-- nothing changes
staying : (x : Around) (f : Facts) (m : Message) → Sound x.config f → is_opening m ≡ false → IsWritable m → KeepsSound x.config x.most f (rejects (m ∷ []) f)
staying x f m s e w = record { next = s; sent = kept x.config f f refl; advances = refl; within = tt; writes = plain x.config m e w }

-- a reject without a reason
rejecting_negotiate : (x : Around) (f : Facts) (id : List ℕ) (timestamp code : ℕ) → Sound x.config f → KeepsSound x.config x.most f (rejects_negotiate f id timestamp code)
rejecting_negotiate x f id timestamp code s = staying x f (negotiation_reject id timestamp code []) s refl (record { numbers = (tt, (tt, (tt, tt))); datum = omega arith })

rejecting_establish : (x : Around) (f : Facts) (id : List ℕ) (timestamp code : ℕ) → Sound x.config f → KeepsSound x.config x.most f (rejects_establish f id timestamp code)
rejecting_establish x f id timestamp code s = staying x f (establishment_reject id timestamp code []) s refl (record { numbers = (tt, (tt, (tt, tt))); datum = omega arith })

ignoring : (x : Around) (f : Facts) → Sound x.config f → KeepsSound x.config x.most f (ignores f)
ignoring x f s = record { next = s; sent = kept x.config f f refl; advances = refl; within = tt; writes = tt }

ending : (x : Around) (f : Facts) (code : ℕ) (e : Ending) → Sound x.config f → KeepsSound x.config x.most f (ends x f code e)
ending x f code e s = record { next = s; sent = kept x.config f f refl; advances = refl; within = tt; writes = writes_terminate x.config code }

rejecting : (x : Around) (f : Facts) (e : Ending) → Sound x.config f → KeepsSound x.config x.most f (ends_with x f [] e)
rejecting x f e s = record { next = s; sent = kept x.config f f refl; advances = refl; within = tt; writes = tt }

refusing : (x : Around) (f : Facts) → Sound x.config f → (v : Option Violation) → KeepsSound x.config x.most f (refuses x f v)
refusing x f s None = ignoring x f s
refusing x f s (Some v) = ending x f 2 _ s

bad : (x : Around) (f : Facts) (b : Option BadStart) → Sound x.config f → KeepsSound x.config x.most f (bad_retransmission x f b)
bad x f None s = ignoring x f s
bad x f (Some b) s = ending x f 2 _ s

-- sound facts, but for what holds before the handshake is done
record Steady (cfg : EndConfig) (f : Facts) : Type 0 where
  waits : is_recoverable cfg.peer_flow ≡ true → f.connection.receiver.next ≡ f.recorded.inbox_next
  even : is_recoverable cfg.peer_flow ≡ false → f.connection.receiver.live ≡ f.connection.receiver.next
  unread : is_recoverable cfg.peer_flow ≡ false → awaits_gap f.connection.peer_finish ≡ None
  credentials : length cfg.credentials ≤ 2048
  sent : f.recorded.sent < 2 ^ 40
  next : is_recoverable cfg.peer_flow ≡ true → f.recorded.inbox_next + 1 < 2 ^ 64
  soft : f.connection.soft ≡ true → IsSoft cfg f.connection.requester
  role : is_initiator cfg.role ≡ false → (is_negotiating f.connection.phase || is_establishing f.connection.phase) ≡ false

firmly : (cfg : EndConfig) (f : Facts) → is_shaken f.connection.phase ≡ true → Steady cfg f → Sound cfg f
firmly cfg f done s = record {
  waits = s.waits;
  even = s.even;
  unread = s.unread;
  credentials = s.credentials;
  sent = s.sent;
  next = s.next;
  opening = λ n. absurd (true≢false (sym done ∙ n));
  soft = s.soft;
  role = s.role;
}

-- what an announcement makes is steady, and skips exactly what lies before it
record Fits (x : Around) (f : Facts) (a : Announced) : Type 0 where
  steady : Steady x.config a.facts
  sent : a.facts.recorded.sent ≡ f.recorded.sent
  advances : Advances (skip_of a.skipped) f.recorded.inbox_next a.facts.recorded.inbox_next
  within : WithinMost x.most (skip_of a.skipped)

jumps : (most next n : ℕ) → next ≤ n → n ≤ most + 1 → Advances (skip_of (jumped_over next n)) next n × WithinMost most (skip_of (jumped_over next n))
jumps most next n h top = by_test (nat_lt next n) refl
  where
    by_test : (b : Bool) → nat_lt next n ≡ b → Advances (skip_of (if b then Some (record { from = next; count = n - next }) else None)) next n
        × WithinMost most (skip_of (if b then Some (record { from = next; count = n - next }) else None))
    by_test true t = ((refl, omega (arith, h)), omega (arith, h, top))
    by_test false t = let low : n ≤ next = ltb-false next n t in (omega (arith, h, low), tt)

-- an announcement that breaks no rule is within its bounds
pub in_bounds : (x : Around) (f : Facts) (template : ℕ) (next : Option ℕ) → announcement_fault x f template next ≡ None → is_sequenced x.config.peer_flow ≡ true
    → (expected_number x f ≤ unwrap_or next 0) × (unwrap_or next 0 ≤ x.most + 1)
in_bounds x f template next e seq =
    let t = by_tests (is_sequenced x.config.peer_flow) (is_none next) (nat_lt (x.most + 1) (unwrap_or next 0)) (nat_lt (unwrap_or next 0) (expected_number x f)) e seq in
    (ltb-false (unwrap_or next 0) (expected_number x f) t.1, ltb-false (x.most + 1) (unwrap_or next 0) t.0)
  where
    by_tests : (numbered missing large low : Bool)
        → (if not numbered then None else if missing then Some (MissingNext template) else if large then Some (NumberTooLarge (unwrap_or next 0))
        else if low then Some (WentBack (unwrap_or next 0) (expected_number x f)) else None) ≡ None
        → numbered ≡ true → (large ≡ false) × (low ≡ false)
    by_tests true true large low e t = absurd cc
    by_tests true false true low e t = absurd cc
    by_tests true false false true e t = absurd cc
    by_tests true false false false e t = (refl, refl)
    by_tests false missing large low e t = absurd (true≢false (sym t))

or_left : (a b : Bool) → a ≡ true → (a || b) ≡ true
or_left true b e = refl
or_left false b e = absurd (true≢false (sym e))

pub or_right : (a b : Bool) → b ≡ true → (a || b) ≡ true
or_right true b e = refl
or_right false b e = e

abbrev chosen : Around → Facts → ℕ → Bool → Bool → Announced
chosen x f n recoverable idempotent =
    if recoverable then record { facts = firm (receiving f (receiver_is.announced f.connection.receiver n)); skipped = None }
    else if idempotent then record { facts = awaiting f n; skipped = jumped_over f.recorded.inbox_next n }
    else record { facts = f; skipped = None }

abbrev pub expected_as : Facts → Bool → ℕ
expected_as f recoverable =
    if recoverable then (if f.connection.soft then f.connection.receiver.next else receiver_is.expected f.connection.receiver) else f.recorded.inbox_next

announced_fits : (x : Around) (f : Facts) (template : ℕ) (next : Option ℕ) → Sound x.config f → announcement_fault x f template next ≡ None → Fits x f (announced x f next)
announced_fits x f template next s e = by_flow (is_recoverable x.config.peer_flow) (is_idempotent x.config.peer_flow) refl refl
  where
    by_flow : (r i : Bool) → is_recoverable x.config.peer_flow ≡ r → is_idempotent x.config.peer_flow ≡ i → Fits x f (chosen x f (unwrap_or next 0) r i)
    by_flow true i rec idem = record {
      steady = record {
        waits = λ _. s.waits rec;
        even = λ t. absurd (true≢false (sym rec ∙ t));
        unread = s.unread;
        credentials = s.credentials;
        sent = s.sent;
        next = s.next;
        soft = λ t. absurd (true≢false (sym t));
        role = s.role;
      };
      sent = refl;
      advances = refl;
      within = tt;
    }
    by_flow false true rec idem =
        let b = in_bounds x f template next e (or_right (is_recoverable x.config.peer_flow) (is_idempotent x.config.peer_flow) idem) in
        let low : f.recorded.inbox_next ≤ unwrap_or next 0 =
        subst (λ (r : Bool). expected_as f r ≤ unwrap_or next 0) rec b.0 in
        let j = jumps x.most f.recorded.inbox_next (unwrap_or next 0) low b.1 in
        record {
          steady = record {
            waits = λ t. absurd (true≢false (sym t ∙ rec));
            even = s.even;
            unread = s.unread;
            credentials = s.credentials;
            sent = s.sent;
            next = λ t. absurd (true≢false (sym t ∙ rec));
            soft = s.soft;
            role = s.role;
          };
          sent = refl;
          advances = j.0;
          within = j.1;
        }
    by_flow false false rec idem = record {
      steady = record { waits = s.waits; even = s.even; unread = s.unread; credentials = s.credentials; sent = s.sent; next = s.next; soft = s.soft; role = s.role };
      sent = refl;
      advances = refl;
      within = tt;
    }

-- an announcement leaves the phase and what is asked for
same_connection : (x : Around) (f : Facts) (next : Option ℕ)
    → ((announced x f next).facts.connection.phase ≡ f.connection.phase) × ((announced x f next).facts.connection.requester ≡ f.connection.requester)
same_connection x f next = by_flow (is_recoverable x.config.peer_flow) (is_idempotent x.config.peer_flow)
  where
    by_flow : (r i : Bool) → ((chosen x f (unwrap_or next 0) r i).facts.connection.phase ≡ f.connection.phase)
        × ((chosen x f (unwrap_or next 0) r i).facts.connection.requester ≡ f.connection.requester)
    by_flow true i = (refl, refl)
    by_flow false true = (refl, refl)
    by_flow false false = (refl, refl)

-- a recoverable flow's announcement moves the inbox nowhere
unmoved : (x : Around) (f : Facts) (next : Option ℕ) → is_recoverable x.config.peer_flow ≡ true → (announced x f next).facts.recorded.inbox_next ≡ f.recorded.inbox_next
unmoved x f next rec = by_flow (is_recoverable x.config.peer_flow) (is_idempotent x.config.peer_flow) rec
  where
    by_flow : (r i : Bool) → r ≡ true → (chosen x f (unwrap_or next 0) r i).facts.recorded.inbox_next ≡ f.recorded.inbox_next
    by_flow true i e = refl
    by_flow false i e = absurd (true≢false (sym e))

-- the handshake is done, and the number that the peer expects was taken
done : (cfg : EndConfig) (f g : Facts) (k : ℕ) → Steady cfg f → Stays f g → Sound cfg (established g k)
done cfg f g k s r = record {
  waits = λ t. ap (λ c. c.receiver.next) r.connection ∙ (s.waits t ∙ sym r.inbox_next);
  even = λ t. ap (λ c. c.receiver.live) r.connection ∙ (s.even t ∙ sym (ap (λ c. c.receiver.next) r.connection));
  unread = λ t. ap (λ c. awaits_gap c.peer_finish) r.connection ∙ s.unread t;
  credentials = s.credentials;
  sent = omega (arith, s.sent, r.most);
  next = λ t. omega (arith, s.next t, r.inbox_next);
  opening = λ n. absurd (true≢false n);
  soft = λ t. let same = ap (λ c. c.requester) r.connection in
      let k = s.soft (sym (ap (λ c. c.soft) r.connection) ∙ t) in record { newer = k.newer; flow = k.flow; role = k.role; no_request = same ∙ k.no_request };
  role = λ _. refl;
}

-- and the connection is soft, at an acceptor
done_softly : (x : Around) (f g : Facts) (e : Expected) (k : ℕ) → Steady x.config f → Stays f g → f.connection.requester ≡ requests.Nothing → is_initiator x.config.role ≡ false
    → Sound x.config (established (softened x e g) k)
done_softly x f g e k s r none role = let d = done x.config f g k s r in record {
  waits = d.waits;
  even = d.even;
  unread = d.unread;
  credentials = d.credentials;
  sent = d.sent;
  next = d.next;
  opening = λ n. absurd (true≢false n);
  soft = λ t. let b = softens_only (is_newer x.config) (is_present e) (is_recoverable x.config.peer_flow) t in
      record { newer = b.0; flow = b.1; role = role; no_request = ap (λ c. c.requester) r.connection ∙ none };
  role = λ _. refl;
}
  where
    softens_only : (a b c : Bool) → (a && b && c) ≡ true → (a ≡ true) × (c ≡ true)
    softens_only true true true t = (refl, refl)
    softens_only true true false t = absurd (true≢false (sym t))
    softens_only true false c t = absurd (true≢false (sym t))
    softens_only false b c t = absurd (true≢false (sym t))

-- a request is done, or goes on, where the handshake is done
requests_on : (cfg : EndConfig) (f : Facts) (r : Request) → is_shaken f.connection.phase ≡ true → (f.connection.requester ≡ requests.Nothing → r ≡ requests.Nothing) → Sound cfg f
    → Sound cfg (requesting f r)
requests_on cfg f r shaken none s = record {
  waits = s.waits;
  even = s.even;
  unread = s.unread;
  credentials = s.credentials;
  sent = s.sent;
  next = s.next;
  opening = λ n. absurd (true≢false (sym shaken ∙ n));
  soft = λ t. let k = s.soft t in record { newer = k.newer; flow = k.flow; role = k.role; no_request = none k.no_request };
  role = s.role;
}

-- a message of a recoverable flow
left_out : (cfg : EndConfig) (f : Facts) → is_recoverable cfg.peer_flow ≡ true → is_shaken f.connection.phase ≡ true → Sound cfg f
    → (receiver_is.number f.connection.receiver == f.connection.receiver.next) ≡ false → Sound cfg (counted f)
left_out cfg f rec shaken s other =
    let r = f.connection.receiver in
    record {
      waits = λ t. next_counted r.next r.live r.again ∙ (ap (λ b. if b then r.next + 1 else r.next) other ∙ s.waits t);
      even = λ t. absurd (true≢false (sym rec ∙ t));
      unread = s.unread;
      credentials = s.credentials;
      sent = s.sent;
      next = s.next;
      opening = λ n. absurd (true≢false (sym shaken ∙ n));
      soft = λ t. absurd (true≢false (sym t));
      role = s.role;
    }

taking : (x : Around) (f : Facts) → x.most < 2 ^ 40 → is_recoverable x.config.peer_flow ≡ true → is_shaken f.connection.phase ≡ true → Sound x.config f
    → receiver_is.number f.connection.receiver ≤ x.most → (s : Seen) → receiver_is.seen f.connection.receiver ≡ s → KeepsSound x.config x.most f (taken_as x (counted f) s)
taking x f small rec shaken s top (Deliver n) is =
    let r = f.connection.receiver in
    let d = delivers r.next (receiver_is.number r) n is in
    going x f (awaiting (counted f) (n + 1)) (acts.Apply n) [] (λ n. absurd (true≢false (sym shaken ∙ n)))
    (record {
      waits = λ t. next_counted r.next r.live r.again ∙ (ap (λ b. if b then r.next + 1 else r.next) (eq-eqb (receiver_is.number r) r.next d.1) ∙ omega (arith, d.0, d.1));
      even = λ t. absurd (true≢false (sym rec ∙ t));
      unread = s.unread;
      credentials = s.credentials;
      sent = s.sent;
      next = λ _. omega (arith, d.0, top, small);
      opening = λ n. absurd (true≢false (sym shaken ∙ n));
      soft = λ t. absurd (true≢false (sym t));
      role = s.role;
    })
    refl (d.0 ∙ (d.1 ∙ s.waits rec), refl) (omega (arith, d.0, top)) tt
taking x f small rec shaken s top (Hold n) is =
    let r = f.connection.receiver in
    let k = going (holding_too x n) f (counted f) acts.Nothing [] (λ b. absurd (true≢false (sym shaken ∙ b)))
    (left_out x.config f rec shaken s ((passes r.next (receiver_is.number r) n).hold is)) refl refl tt tt in
    record { next = k.next; sent = k.sent; advances = k.advances; within = k.within; writes = k.writes }
taking x f small rec shaken s top (Gap n) is =
    let r = f.connection.receiver in
    going x f (counted f) acts.Nothing [] (λ b. absurd (true≢false (sym shaken ∙ b)))
    (left_out x.config f rec shaken s ((passes r.next (receiver_is.number r) n).gap is)) refl refl tt tt
taking x f small rec shaken s top (Repeat n) is =
    let r = f.connection.receiver in
    going x f (counted f) acts.Nothing [] (λ b. absurd (true≢false (sym shaken ∙ b)))
    (left_out x.config f rec shaken s ((passes r.next (receiver_is.number r) n).repeat is)) refl refl tt tt

-- the number of a message that is not too large
pub number_of : (x : Around) (f : Facts) → is_recoverable x.config.peer_flow ≡ true → nat_lt x.most (message_number x f) ≡ false → receiver_is.number f.connection.receiver ≤ x.most
number_of x f rec e =
    subst (λ (b : Bool). (if b then receiver_is.number f.connection.receiver else f.recorded.inbox_next) ≤ x.most) rec (ltb-false x.most (message_number x f) e)

next_of : (x : Around) (f : Facts) → is_recoverable x.config.peer_flow ≡ false → nat_lt x.most (message_number x f) ≡ false → f.recorded.inbox_next ≤ x.most
next_of x f rec e =
    subst (λ (b : Bool). (if b then receiver_is.number f.connection.receiver else f.recorded.inbox_next) ≤ x.most) rec (ltb-false x.most (message_number x f) e)

message_rows : (x : Around) (f : Facts) (p : List ℕ) → x.most < 2 ^ 40 → Sound x.config f → Opens x f → AllRows (KeepsSound x.config x.most f) (rows_of x f (application p))
message_rows x f p low s h = all_within (KeepsSound x.config x.most f) (is_established f.connection.phase) _ (λ est. (
  λ _. ending x f 2 _ s,
  λ _. (
    λ _. ending x f 2 _ s,
    λ _. (
      λ _. ending x f 2 _ s,
      λ small. (
        λ e. going x f (awaiting f (f.recorded.inbox_next + 1)) (acts.Apply f.recorded.inbox_next) [] h
            (record { waits = λ t. absurd (true≢false (sym e ∙ ap not t)); even = s.even; unread = s.unread; credentials = s.credentials; sent = s.sent; next = λ t. absurd (true≢false (sym e ∙ ap not t)); opening = s.opening; soft = s.soft; role = s.role })
            refl (refl, refl) (next_of x f (not_false (is_recoverable x.config.peer_flow) e) small) tt,
        λ e. (
          λ _. bad x f (request_is.message_fault f.connection.requester) s,
          λ _. (
            λ _. taking x f low (not_true (is_recoverable x.config.peer_flow) e) (is_done f.connection.phase est) s (number_of x f (not_true (is_recoverable x.config.peer_flow) e) small) (receiver_is.seen f.connection.receiver) refl,
            λ _. tt,
          ),
        ),
      ),
    ),
  ),
))

-- the answer to the peer's finish
finish_still : (recorded : Option ℕ) (last n : ℕ) → Advances (finish_act recorded last) n n
finish_still None last n = refl
finish_still (Some _) last n = refl

-- the finish is answered: the facts behind it
finish_answered : (cfg : EndConfig) (f : Facts) (last : ℕ) (recorded : Option ℕ) → Sound cfg f → Sound cfg (peer_finished f (peer.Exchanged last) recorded)
finish_answered cfg f last recorded s = record { waits = s.waits; even = s.even; unread = λ _. refl; credentials = s.credentials; sent = s.sent; next = s.next; opening = s.opening; soft = s.soft; role = s.role }

finish_within : (recorded : Option ℕ) (last most : ℕ) → WithinMost most (finish_act recorded last)
finish_within None last most = tt
finish_within (Some _) last most = tt

answering : (x : Around) (f next : Facts) (last : ℕ) → Opens x next → Sound x.config next → next.recorded.sent ≡ f.recorded.sent → next.recorded.inbox_next ≡ f.recorded.inbox_next → KeepsSound x.config x.most f (answers_finish x next last)
answering x f next last h s kept same =
    going x f (peer_finished next (peer.Exchanged last) (Some (unwrap_or next.recorded.peer_last last))) (finish_act next.recorded.peer_last last) (finished_receiving x.config.session ∷ []) h
    (finish_answered x.config next last (Some (unwrap_or next.recorded.peer_last last)) s)
    kept
    (subst (λ n. Advances (finish_act next.recorded.peer_last last) n next.recorded.inbox_next) same (finish_still next.recorded.peer_last last next.recorded.inbox_next))
    (finish_within next.recorded.peer_last last x.most)
    (writes_receiving x.config)

-- Sequence, where its announcement stands
following : (x : Around) (f ended : Facts) (next : ℕ) (a : Announced) → Sound x.config ended → is_shaken a.facts.connection.phase ≡ true → ended.recorded.sent ≡ f.recorded.sent → ended.recorded.inbox_next ≡ f.recorded.inbox_next
    → (is_recoverable x.config.peer_flow ≡ true → a.facts.recorded.inbox_next ≡ f.recorded.inbox_next) → Fits x f a → KeepsSound x.config x.most f (sequence_follows x ended next a)
following x f ended next a e shaken count same still fits =
    all_rows (KeepsSound x.config x.most f) (ignores ended) rows (record { next = e; sent = kept x.config f ended count; advances = same; within = tt; writes = tt }) (
      λ _. record { next = e; sent = kept x.config f ended count; advances = same; within = tt; writes = writes_terminate x.config 2 },
      λ _. (
        λ filled. by_flow (is_recoverable x.config.peer_flow) refl (and_left (is_some (awaits_gap a.facts.connection.peer_finish)) (is_none (gap_of x a.facts)) filled),
        λ _. (
          λ _. going x f a.facts (skip_of a.skipped) (told_skip a.skipped) opened (firmly x.config a.facts shaken fits.steady) fits.sent fits.advances fits.within (tells_not x.config a.skipped),
          λ _. tt,
        ),
      ),
    )
  where
    rows : List Row
    rows =
        row (is_sequenced x.config.peer_flow && is_some (peer_last ended) && not (next == unwrap_or (peer_last ended) 0 + 1)) (breaks x ended (AfterFinish (unwrap_or (peer_last ended) 0) next))
        ∷ row (is_filled x a.facts) (answers_finish x a.facts (unwrap_or (awaits_gap a.facts.connection.peer_finish) 0))
        ∷ row true (goes_on x (skip_of a.skipped) (told_skip a.skipped) a.facts)
        ∷ []

    opened : Opens x a.facts
    opened n = absurd (true≢false (sym shaken ∙ n))

    and_left : (p q : Bool) → (p && q) ≡ true → p ≡ true
    and_left true q t = refl
    and_left false q t = absurd (true≢false (sym t))

    by_flow : (b : Bool) → is_recoverable x.config.peer_flow ≡ b → is_some (awaits_gap a.facts.connection.peer_finish) ≡ true
        → KeepsSound x.config x.most f (answers_finish x a.facts (unwrap_or (awaits_gap a.facts.connection.peer_finish) 0))
    by_flow true r t = answering x f a.facts (unwrap_or (awaits_gap a.facts.connection.peer_finish) 0) opened (firmly x.config a.facts shaken fits.steady) fits.sent (still r)
    by_flow false r t = absurd (none-some (awaits_gap a.facts.connection.peer_finish) t (fits.steady.unread r))

answered : (x : Around) (f : Facts) (id : List ℕ) (timestamp : ℕ) (r : Result Range RetransmitCode) → is_shaken f.connection.phase ≡ true → Sound x.config f → KeepsSound x.config x.most f (request_answered x f id timestamp r)
answered x f id timestamp (Ok range) shaken s =
    going x f (serves f (Some range)) acts.Nothing (retransmission x.config.session range.from timestamp range.count ∷ []) (λ n. absurd (true≢false (sym shaken ∙ n)))
    (record { waits = s.waits; even = s.even; unread = s.unread; credentials = s.credentials; sent = s.sent; next = s.next; opening = λ n. absurd (true≢false (sym shaken ∙ n)); soft = s.soft; role = s.role }) refl refl tt
    (plain x.config (retransmission x.config.session range.from timestamp range.count) refl (record { numbers = (tt, (tt, (tt, (tt, tt)))); datum = tt }))
answered x f id timestamp (Err code) shaken s = staying x f (retransmit_reject id timestamp (code_of code) []) s refl (record { numbers = (tt, (tt, (tt, tt))); datum = omega arith })

-- an initiator goes on with the handshake
shaking : (x : Around) (f : Facts) → is_initiator x.config.role ≡ true → is_shaken f.connection.phase ≡ false → Opens x f → Sound x.config f → KeepsSound x.config x.most f (shaken x f)
shaking x f i before h s =
    going x f (in_phase (as_negotiated f) phases.Establishing) (if f.recorded.negotiated then acts.Nothing else acts.Negotiated) (opening_establish x f ∷ []) (λ _. h before)
    (record { waits = s.waits; even = s.even; unread = s.unread; credentials = s.credentials; sent = s.sent; next = s.next; opening = λ _. s.opening before; soft = s.soft; role = λ t. absurd (true≢false (sym i ∙ t)) })
    refl (still f.recorded.negotiated) (within f.recorded.negotiated) (writes_establish x f i s.credentials s.sent s.next)
  where
    still : (b : Bool) → Advances (if b then acts.Nothing else acts.Negotiated) f.recorded.inbox_next f.recorded.inbox_next
    still true = refl
    still false = refl

    within : (b : Bool) → WithinMost x.most (if b then acts.Nothing else acts.Negotiated)
    within true = tt
    within false = tt

-- only an initiator waits for the answers of a handshake
awaits_as_initiator : (cfg : EndConfig) (f : Facts) → Sound cfg f → (is_negotiating f.connection.phase || is_establishing f.connection.phase) ≡ true → is_initiator cfg.role ≡ true
awaits_as_initiator cfg f s t = by_role (is_initiator cfg.role) refl
  where
    by_role : (b : Bool) → is_initiator cfg.role ≡ b → is_initiator cfg.role ≡ true
    by_role true e = e
    by_role false e = absurd (true≢false (sym t ∙ s.role e))

establish_all : (x : Around) (f : Facts) (id : List ℕ) (timestamp keepalive : ℕ) (next : Option ℕ) (expected : Expected) (credentials : List ℕ) → Sound x.config f
    → AllRows (KeepsSound x.config x.most f) (establish_rows_in x f id timestamp keepalive next expected credentials)
establish_all x f id timestamp keepalive next expected credentials s = by_place (awaits_client x f) (serves_client x f) refl
  where
    P : Outcome → Type 0
    P = KeepsSound x.config x.most f

    waits_idle : (i d : Bool) → (not i && d) ≡ true → (i ≡ false) × (d ≡ true)
    waits_idle false true t = (refl, refl)
    waits_idle false false t = absurd (true≢false (sym t))
    waits_idle true d t = absurd (true≢false (sym t))

    acknowledged : awaits_client x f ≡ true → (a : Announced) → Fits x f a → a.facts.connection.requester ≡ f.connection.requester → P (acknowledges x timestamp keepalive expected a)
    acknowledged waits a fits requester =
        let w = waits_idle (is_initiator x.config.role) (is_idle f.connection.phase) waits in
        let before : is_shaken f.connection.phase ≡ false = not_opened f.connection.phase w.1 in
        let g : Facts = returned x a.facts expected in
        let r = returned_stays x a.facts expected in
        let steady = fits.steady in
        let low : is_recoverable x.config.peer_flow ≡ true → g.recorded.inbox_next + 1 < 2 ^ 64 = λ t. omega (arith, steady.next t, r.inbox_next) in
        going_by x f (established (softened x expected g) keepalive) (skip_of a.skipped)
        (establishment_ack x.config.session timestamp x.config.keepalive (announced_number x g) (answers_next x expected g) ∷ told_skip a.skipped)
        (λ n. absurd (true≢false n)) (done_softly x a.facts g expected keepalive steady r (requester ∙ (s.opening before).no_request) w.0)
        (returned_keeps x f a.facts (established (softened x expected g) keepalive) expected before refl fits.sent refl)
        (subst (λ (n : ℕ). Advances (skip_of a.skipped) f.recorded.inbox_next n) (sym r.inbox_next) fits.advances) fits.within
        (writes_behind x.config (establishment_ack x.config.session timestamp x.config.keepalive (announced_number x g) (answers_next x expected g) ∷ []) (told_skip a.skipped)
        (writes_ack x g timestamp expected (omega (arith, steady.sent, r.most)) low) (tells_not x.config a.skipped))

    first : awaits_client x f ≡ true → AllRows P (establish_rows x f id timestamp keepalive next expected credentials)
    first waits = (
      λ _. rejecting_establish x f id timestamp 2 s,
      λ _. (
        λ _. rejecting_establish x f id timestamp 5 s,
        λ _. (
          λ _. rejecting_establish x f id timestamp 6 s,
          λ _. announced_rows P x f 4 next (acknowledges x timestamp keepalive expected) (refusing x f s) (λ e. acknowledged waits (announced x f next) (announced_fits x f 4 next s e) (same_connection x f next).1),
        ),
      ),
    )

    again : AllRows P (established_again_rows x f id timestamp)
    again = (λ _. rejecting_establish x f id timestamp 2 s, λ _. (λ _. rejecting_establish x f id timestamp 3 s, λ _. tt))

    by_place : (a b : Bool) → awaits_client x f ≡ a
        → AllRows P (if a then establish_rows x f id timestamp keepalive next expected credentials else if b then established_again_rows x f id timestamp else [])
    by_place true b waits = first waits
    by_place false true waits = again
    by_place false false waits = tt

-- Establish was acknowledged
reaching : (x : Around) (f : Facts) (keepalive : ℕ) (e : Expected) (a : Announced) → is_shaken f.connection.phase ≡ false → Fits x f a
    → KeepsSound x.config x.most f (reached x keepalive e a)
reaching x f keepalive e a before fits =
    let g : Facts = returned x a.facts e in
    let r = returned_stays x a.facts e in
    let interval : ℕ = min 60000 (max 100 keepalive) in
    going_by x f (established g interval) (skip_of a.skipped) (told_skip a.skipped ++ told_return x a.facts e)
    (λ n. absurd (true≢false n)) (done x.config a.facts g interval fits.steady r) (returned_keeps x f a.facts (established g interval) e before refl fits.sent refl)
    (subst (λ (n : ℕ). Advances (skip_of a.skipped) f.recorded.inbox_next n) (sym r.inbox_next) fits.advances) fits.within
    (writes_behind x.config (told_skip a.skipped) (told_return x a.facts e) (tells_not x.config a.skipped) (writes_return x a.facts e))

session_rows : (x : Around) (f : Facts) (m : Message) → Sound x.config f → Opens x f → AllRows (KeepsSound x.config x.most f) (rows_of x f (session m))
session_rows x f (negotiate id timestamp flow credentials) s h = all_within (KeepsSound x.config x.most f) (awaits_client x f) _ (λ _. (
  λ _. rejecting_negotiate x f id timestamp 1 s,
  λ _. (
    λ _. rejecting_negotiate x f id timestamp 2 s,
    λ _. (
      λ _. rejecting_negotiate x f id timestamp 3 s,
      λ _. (
        λ _. rejecting_negotiate x f id timestamp 4 s,
        λ _. (
          λ _. going x f (as_negotiated f) acts.Negotiated (negotiation_response x.config.session timestamp (flow_code x.config.own_flow) [] ∷ []) h
              (record { waits = s.waits; even = s.even; unread = s.unread; credentials = s.credentials; sent = s.sent; next = s.next; opening = s.opening; soft = s.soft; role = s.role }) refl refl tt
              (plain x.config (negotiation_response x.config.session timestamp (flow_code x.config.own_flow) []) refl (record { numbers = (tt, (tt, (tt, tt))); datum = omega arith })),
          λ _. tt,
        ),
      ),
    ),
  ),
))
session_rows x f (negotiation_response id timestamp flow credentials) s h =
    own_rows (KeepsSound x.config x.most f) x f 2 id _ (λ e. ending x f 2 e s) (all_within (KeepsSound x.config x.most f) (is_negotiating f.connection.phase) _ (λ n. (
      λ _. ending x f 2 _ s,
      λ _. (λ _. shaking x f (awaits_as_initiator x.config f s (or_left (is_negotiating f.connection.phase) (is_establishing f.connection.phase) n)) (not_negotiated f.connection.phase n) h s, λ _. tt),
    )))
session_rows x f (negotiation_reject id timestamp code reason) s h =
    own_rows (KeepsSound x.config x.most f) x f 3 id _ (λ e. ending x f 2 e s) (all_within (KeepsSound x.config x.most f) (is_negotiating f.connection.phase) _ (λ n. (
      λ _. shaking x f (awaits_as_initiator x.config f s (or_left (is_negotiating f.connection.phase) (is_establishing f.connection.phase) n)) (not_negotiated f.connection.phase n) h s,
      λ _. (λ _. rejecting x f (endings.Rejected 3 code) s, λ _. tt),
    )))
session_rows x f (establish id timestamp keepalive next expected credentials) s h = establish_all x f id timestamp keepalive next expected credentials s
session_rows x f (establishment_ack id timestamp keepalive next expected) s h =
    own_rows (KeepsSound x.config x.most f) x f 5 id _ (λ e. ending x f 2 e s) (all_within (KeepsSound x.config x.most f) (is_establishing f.connection.phase) _ (λ n.
    announced_rows (KeepsSound x.config x.most f) x f 5 next (reached x keepalive expected) (refusing x f s)
    (λ e. reaching x f keepalive expected (announced x f next) (not_established f.connection.phase n) (announced_fits x f 5 next s e))))
session_rows x f (establishment_reject id timestamp code reason) s h =
    own_rows (KeepsSound x.config x.most f) x f 6 id _ (λ e. ending x f 2 e s) (all_within (KeepsSound x.config x.most f) (is_establishing f.connection.phase) _ (λ n. (
      λ _.
          let i = awaits_as_initiator x.config f s (or_right (is_negotiating f.connection.phase) (is_establishing f.connection.phase) n) in
          going x f (in_phase f phases.Negotiating) acts.Nothing (opening_negotiate x ∷ []) (λ _. h (not_established f.connection.phase n))
          (record { waits = s.waits; even = s.even; unread = s.unread; credentials = s.credentials; sent = s.sent; next = s.next; opening = λ _. s.opening (not_established f.connection.phase n); soft = s.soft; role = λ t. absurd (true≢false (sym i ∙ t)) }) refl refl tt (writes_negotiate x i s.credentials),
      λ _. (λ _. rejecting x f (endings.Rejected 6 code) s, λ _. tt),
    )))
session_rows x f (sequence next) s h = all_within (KeepsSound x.config x.most f) (is_established f.connection.phase) _ (λ est. (
  λ _. bad x f (request_is.sequence_fault f.connection.requester) s,
  λ _. after (requesting f (request_is.after_sequence f.connection.requester))
      (requests_on x.config f (request_is.after_sequence f.connection.requester) (is_done f.connection.phase est) (λ none. ap request_is.after_sequence none) s)
      (is_done f.connection.phase est) refl refl,
))
  where
    left : (ended : Facts) → Sound x.config ended → ended.recorded.sent ≡ f.recorded.sent → ended.recorded.inbox_next ≡ f.recorded.inbox_next → (v : Option Violation)
        → KeepsSound x.config x.most f (refuses x ended v)
    left ended e count same None = record { next = e; sent = kept x.config f ended count; advances = same; within = tt; writes = tt }
    left ended e count same (Some v) = record { next = e; sent = kept x.config f ended count; advances = same; within = tt; writes = writes_terminate x.config 2 }

    after : (ended : Facts) → Sound x.config ended → is_shaken ended.connection.phase ≡ true → ended.recorded.sent ≡ f.recorded.sent → ended.recorded.inbox_next ≡ f.recorded.inbox_next
        → AllRows (KeepsSound x.config x.most f) (announcement_rows x ended 7 (Some next) (sequence_follows x ended next))
    after ended e shaken count same =
        announced_rows (KeepsSound x.config x.most f) x ended 7 (Some next) (sequence_follows x ended next)
        (left ended e count same)
        (λ none. let fits = announced_fits x ended 7 (Some next) e none in
        following x f ended next (announced x ended (Some next)) e (ap (λ p. is_shaken p) (same_connection x ended (Some next)).0 ∙ shaken) count same (λ r. unmoved x ended (Some next) r ∙ same) (record {
          steady = fits.steady;
          sent = fits.sent ∙ count;
          advances = subst (λ k. Advances (skip_of (announced x ended (Some next)).skipped) k (announced x ended (Some next)).facts.recorded.inbox_next) same fits.advances;
          within = fits.within;
        }))
session_rows x f unsequenced_heartbeat s h = (λ _. going x f f acts.Nothing [] h s refl refl tt tt, λ _. tt)
session_rows x f (retransmit_request id timestamp first count) s h = all_within (KeepsSound x.config x.most f) (is_established f.connection.phase) _ (λ est. (
  λ _. ending x f 4 _ s,
  λ _. (λ _. answered x f id timestamp (judged (is_own x id) (is_recoverable x.config.own_flow) first count f.recorded.sent) (is_done f.connection.phase est) s, λ _. tt),
))
session_rows x f (retransmission id next timestamp count) s h =
    own_rows (KeepsSound x.config x.most f) x f 10 id _ (λ e. ending x f 2 e s) (all_within (KeepsSound x.config x.most f) (is_established f.connection.phase) _ (λ est. (
      λ _. bad x f (request_is.start_fault (request_is.outstanding f.connection.requester) next count) s,
      λ _. (
        λ _. going x f (restarted f next count) acts.Nothing [] h (record {
          waits = s.waits;
          even = s.even;
          unread = s.unread;
          credentials = s.credentials;
          sent = s.sent;
          next = s.next;
          opening = λ n. absurd (true≢false (sym (is_done f.connection.phase est) ∙ n));
          soft = λ t. let k = s.soft t in record { newer = k.newer; flow = k.flow; role = k.role; no_request = ap (λ q. request_is.started q next count) k.no_request };
          role = s.role;
        }) refl refl tt tt,
        λ _. tt,
      ),
    )))
session_rows x f (retransmit_reject id timestamp code reason) s h =
    own_rows (KeepsSound x.config x.most f) x f 11 id _ (λ e. ending x f 2 e s) (all_within (KeepsSound x.config x.most f) (is_established f.connection.phase) _ (λ _. (λ _. ending x f 2 _ s, λ _. tt)))
session_rows x f (applied first count) s h = (λ _. going x f f acts.Nothing [] h s refl refl tt tt, λ _. tt)
session_rows x f (not_applied first count) s h = (λ _. going x f f (acts.Told first count) [] h s refl refl tt tt, λ _. (λ _. going x f f acts.Nothing [] h s refl refl tt tt, λ _. tt))
session_rows x f (finished_sending id last) s h =
    own_rows (KeepsSound x.config x.most f) x f 14 id _ (λ e. ending x f 2 e s) (all_within (KeepsSound x.config x.most f) (is_established f.connection.phase) _ (λ _. (
      λ _. refusing x f s (finish_fault x f last),
      λ _. (λ _. finishing (finished_last x last), λ _. tt),
    )))
  where
    finishing : (n : ℕ) → KeepsSound x.config x.most f (finished x f n)
    finishing n = by_row (KeepsSound x.config x.most f) (is_some (gap_of x f)) (accepts x [] (peer_finished f (peer.Read n) f.recorded.peer_last)) (answers_finish x f n)
        (λ g. going x f (peer_finished f (peer.Read n) f.recorded.peer_last) acts.Nothing [] h
        (record { waits = s.waits; even = s.even; unread = λ t. absurd (none-some (gap_of x f) g (other_gap x f t)); credentials = s.credentials; sent = s.sent; next = s.next; opening = s.opening; soft = s.soft; role = s.role }) refl refl tt tt)
        (λ _. answering x f f n h s refl refl)
session_rows x f (finished_receiving id) s h =
    own_rows (KeepsSound x.config x.most f) x f 15 id _ (λ e. ending x f 2 e s) (all_within (KeepsSound x.config x.most f) (is_established f.connection.phase) _ (λ _. (
      λ _. going x f (own_finishing f own.Exchanged) acts.Nothing [] h (record { waits = s.waits; even = s.even; unread = s.unread; credentials = s.credentials; sent = s.sent; next = s.next; opening = s.opening; soft = s.soft; role = s.role }) refl refl tt tt,
      λ _. tt,
    )))
session_rows x f (terminate id code reason) s h =
    let answer : Row = row true (ends x f 1 (endings.PeerTerminated code)) in
    let rest : AllRows (KeepsSound x.config x.most f) (answer ∷ []) = (λ _. ending x f 1 _ s, λ _. tt) in
    own_rows (KeepsSound x.config x.most f) x f 16 id (answer ∷ []) (λ e. ending x f 2 e s) rest

each_row : (x : Around) (f : Facts) (i : Incoming) → x.most < 2 ^ 40 → Sound x.config f → Opens x f → AllRows (KeepsSound x.config x.most f) (rows_of x f i)
each_row x f (application p) low s h = message_rows x f p low s h
each_row x f (session m) low s h = session_rows x f m s h
each_row x f wrong_order low s h = (λ _. ending x f 2 _ s, λ _. tt)
each_row x f too_short low s h = (λ _. ending x f 2 _ s, λ _. tt)
each_row x f (unknown template) low s h = (λ _. ending x f 2 _ s, λ _. tt)

pub sound_goes_on : SoundGoesOn
sound_goes_on x f i low s h =
    by_row (KeepsSound x.config x.most f) (is_closing f.connection.phase && not (terminates x i)) (ignores f) (answer_of x f i)
    (λ _. ignoring x f s)
    (λ _. all_rows (KeepsSound x.config x.most f) (not_in_phase x f (template_of i)) (rows_of x f i) (ending x f 2 _ s) (each_row x f i low s h.opening))
