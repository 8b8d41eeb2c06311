-- What a reader makes of each message before the handshake is done: nothing of its numbers, or it takes the announcement.
use Rattle.std.proofs.Common.{◌≡◌, ℕ, ◌+◌, ◌-◌, ◌≤◌, ◌&&◌, ◌||◌, min, max, nat_lt, not, Bool, true, false, if◌then◌else◌, List, [], ◌∷◌, ◌++◌, Option, Some, None, refl, sym, ap, subst, ◌∙◌, arith, true≢false, ◌<◌}
use Rattle.std.specs.Prelude.{⊤, is_some, is_none, unwrap_or, IfSome, IsSome}
use Rattle.fixp_msgs.specs.declared.numbering.Range.{Range}
use Rattle.fixp_msgs.specs.declared.flow.Flow.{Flow}
use Rattle.fixp_msgs.specs.Flow.{flow_code}
use Rattle.fixp_msgs.specs.declared.messages.Expected.{Expected}
use Rattle.fixp_msgs.specs.Message.{Message, negotiate, negotiation_response, negotiation_reject, establish, establishment_ack, establishment_reject, sequence, unsequenced_heartbeat, retransmit_request, retransmission, retransmit_reject, applied, not_applied, finished_sending, finished_receiving, terminate}
use Rattle.flow_recover.specs.Receiving as receiver_is
use Rattle.flow_recover.specs.Receiving.{Receiving}
use Rattle.flow_retrans.specs.declared.request.Request.{Request}
use Rattle.flow_retrans.specs.declared.request.Request.TheVariants as requests
use Rattle.fixp_shake.specs.declared.config.EndConfig.{EndConfig}
use Rattle.fixp_shake.specs.declared.phase.Phase.TheVariants as phases
use Rattle.fixp_shake.specs.declared.violation.Violation.{Violation}
use Rattle.fixp_shake.specs.declared.violation.Violation.TheVariants.{MissingNext, OtherSession}
use Rattle.fixp_shake.specs.Flows.{is_recoverable, is_sequenced}
use Rattle.fixp_shake.specs.Phases.{is_negotiating, is_establishing, is_established, is_closing, is_shaken}
use Rattle.fixp_replies.specs.declared.act.Act.{Act}
use Rattle.fixp_replies.specs.declared.act.Ending.{Ending}
use Rattle.fixp_replies.specs.declared.act.Ending.TheVariants as endings
use Rattle.fixp_replies.specs.declared.facts.Facts.{Facts}
use Rattle.fixp_replies.specs.Facts.{Around, in_phase, receiving, firm, negotiated as as_negotiated, having_asked, expected_number, finishes_exchanged, gap_to_ask, announced_number}
use Rattle.fixp_replies.specs.Incoming.{session}
use Rattle.fixp_replies.specs.Outcomes.{Outcome, Row, row, goes_on, rejects, ignores, ends_with, ends, not_in_phase, skip_of, told_skip, opening_negotiate, opening_establish}
use Rattle.fixp_replies.specs.Announcing.{Announced, announced, announcement_fault, refuses, announcement_rows}
use Rattle.fixp_replies.specs.Handshake.{awaits_client, serves_client, established, acknowledged_by, acknowledges, negotiate_rows, establish_rows, established_again_rows, negotiation_response_rows, negotiation_reject_rows, establishment_ack_rows, reached, establishment_reject_rows}
use Rattle.fixp_replies.specs.Replies.{reply_of, rows_of, answer_of, of_session, terminates, template_of}
use Rattle.fixp_replies.specs.Expecting.{is_newer, is_present, number_in, answers_next, softened}
use Rattle.fixp_machine.proofs.Expecting.{returned_if}
use Rattle.honest_ends.proofs.Returning.{expected_most, by_taking, by_reaching, starting, reaching, Unmoved, asked_unmoved}
use Rattle.honest_ends.proofs.Running.{Below, after_announced}
use Rattle.fixp_machine.proofs.Rows.{AllRows, by_row, all_rows, all_within}
use Rattle.fixp_machine.proofs.Tests.{some-none}
use Rattle.connection_laws.specs.Writing.{Piece, said, entry}
use Rattle.two_ends.specs.Reading.{incoming_of}
use Rattle.honest_ends.proofs.Deciding.{ended_so}
use Rattle.fixp_machine.specs.Sound.{Matches}
use Rattle.honest_ends.specs.Numbers.{Awaited, exactly, at_most, softly, announces, live_after, awaited_after, left_after, Fits, Answers, NotNumber, Line, Idle, Rests, to_come, goes_softly, expecting, lowest}
use Rattle.honest_ends.proofs.Replying.{asked_phase}
use Rattle.honest_ends.proofs.PhaseOpening.{asks_unheld}
use Rattle.honest_ends.proofs.Moving.{not_over}
use Rattle.honest_ends.proofs.Lining.{rests, line_asked, announced_is, announced_rests, number_fault, not_less, other_sequenced, sequenced_of}
use Rattle.honest_ends.specs.Numbered.{next_live, awaits, awaited}
use Rattle.honest_ends.specs.NumberLaws.{NoNumber}
use Rattle.honest_ends.proofs.Awaiting.{not_number, Moves, other_moves, live_is, and_true, awaited_before, awaited_expecting, after_at_most}

-- the reader behind it: nothing of its numbers moved, or the handshake is done and it moved as the message makes it
pub data Hears (c : EndConfig) (p : Piece) (f g : Facts) : Type 0 where
  still : is_shaken g.connection.phase ≡ false → g.connection.receiver ≡ f.connection.receiver → g.connection.requester ≡ f.connection.requester
      → g.recorded.inbox_next ≡ f.recorded.inbox_next → g.connection.soft ≡ f.connection.soft → left_after p None ≡ None → Hears c p f g
  done : is_shaken g.connection.phase ≡ true → Moves c p f g → Hears c p f g

-- a reply that breaks no rule of numbers
pub record Opens (c : EndConfig) (f : Facts) (p : Piece) (o : Outcome) : Type 0 where
  pub fine : (v : Violation) → o.ending ≡ Some (endings.Violation v) → NoNumber v
  pub over : IsSome o.ending → o.next.recorded.inbox_next ≡ f.recorded.inbox_next
  pub next : o.ending ≡ None → Hears c p f o.next

pub ending : (x : Around) (f : Facts) (p : Piece) (written : List Message) (e : Ending) → ((v : Violation) → e ≡ endings.Violation v → NoNumber v) → Opens x.config f p (ends_with x f written e)
ending x f p written e h = record { fine = λ w same. h w (ended_so (finishes_exchanged x f) e w same); over = λ _. refl; next = λ none. absurd cc }

pub breaking : (x : Around) (f : Facts) (p : Piece) (code : ℕ) (v : Violation) → NoNumber v → Opens x.config f p (ends x f code (endings.Violation v))
breaking x f p code v h = ending x f p _ (endings.Violation v) (λ w e. let same : v ≡ w = cc e in subst (λ (u : Violation). NoNumber u) same h)

-- what a message before the handshake is done stands for
record Unheard (x : Around) (f : Facts) (p : Piece) : Type 0 where
  before : is_shaken f.connection.phase ≡ false
  none : x.held ≡ None
  idle : Idle f
  line : is_recoverable x.config.peer_flow ≡ true → Line f
  fits : Fits x.config.peer_flow p (at_most (next_live x.config f)) None
  top : live_after x.config.peer_flow p (next_live x.config f) None ≤ x.most + 1

keeping : (x : Around) (f g : Facts) (p : Piece) (act : Act) (written : List Message) → x.held ≡ None → Idle f → is_shaken g.connection.phase ≡ false → g.connection.receiver ≡ f.connection.receiver → g.connection.requester ≡ f.connection.requester
    → g.recorded.inbox_next ≡ f.recorded.inbox_next → g.connection.soft ≡ f.connection.soft → left_after p None ≡ None → Opens x.config f p (goes_on x act written g)
keeping x f g p act written unheld idle before r q n t none = record {
  fine = λ v e. absurd cc;
  over = λ some. not_over {A = Ending} None refl some;
  next = λ _. subst (λ (k : Option Range). Hears x.config p f (having_asked g k)) (sym (asks_unheld x g unheld (ap (λ k. receiver_is.gap None k) r ∙ idle.even))) (still before r q n t none);
}

rejecting : (x : Around) (f : Facts) (p : Piece) (written : List Message) → is_shaken f.connection.phase ≡ false → left_after p None ≡ None → Opens x.config f p (rejects written f)
rejecting x f p written before none = record { fine = λ v e. absurd cc; over = λ some. not_over {A = Ending} None refl some; next = λ _. still before refl refl refl refl none }

-- An announcement is taken. It is of the next number, where the flow has numbers
record Tells (flow : Flow) (m : Message) (next : Option ℕ) : Type 0 where
  told : announces flow (said m) ≡ (if is_sequenced flow then next else None)
  none : left_after (said m) None ≡ None
  plain : (q : Request) → Answers q (said m)

-- a fault of the number alone is a violation of numbers
given : (t : ℕ) (numbered : Bool) (next : Option ℕ) (more : Option Violation) → (if not numbered then None else if is_none next then Some (MissingNext t) else more) ≡ None → numbered ≡ true → is_some next ≡ true
given t true None more e n = absurd cc
given t true (Some k) more e n = refl
given t false next more e n = absurd (true≢false (sym n))

told_given : (flow : Flow) (next : Option ℕ) (b : ℕ) → is_sequenced flow ≡ true → is_some next ≡ true → unwrap_or (if is_sequenced flow then next else None) b ≡ unwrap_or next 0
told_given flow next b numbered some = ap (λ t. unwrap_or (if t then next else None) b) numbered ∙ by_next next some
  where
    by_next : (o : Option ℕ) → is_some o ≡ true → unwrap_or o b ≡ unwrap_or o 0
    by_next None e = absurd (true≢false (sym e))
    by_next (Some k) e = refl

allowed_given : (b : ℕ) (o : Option ℕ) → is_some o ≡ true → IfSome o (λ n. b ≤ n) → b ≤ unwrap_or o 0
allowed_given b None e h = absurd (true≢false (sym e))
allowed_given b (Some k) e h = h

-- where it is given, its number is not below what is awaited
at_least : (x : Around) (f : Facts) (m : Message) (next : Option ℕ) → Unheard x f (said m) → Tells x.config.peer_flow m next → is_sequenced x.config.peer_flow ≡ true → is_some next ≡ true → next_live x.config f ≤ unwrap_or next 0
at_least x f m next u t numbered some =
    allowed_given (next_live x.config f) next some
    (subst (λ (b : Bool). IfSome (if b then next else None) (λ n. next_live x.config f ≤ n)) numbered (subst (λ (o : Option ℕ). IfSome o (λ n. next_live x.config f ≤ n)) t.told u.fits.0))

live_told : (x : Around) (f : Facts) (m : Message) (next : Option ℕ) (b : ℕ) → Tells x.config.peer_flow m next → is_sequenced x.config.peer_flow ≡ true → is_some next ≡ true → live_after x.config.peer_flow (said m) b None ≡ unwrap_or next 0
live_told x f m next b t numbered some = ap (λ (o : Option ℕ). unwrap_or o b) t.told ∙ told_given x.config.peer_flow next b numbered some

live_untold : (x : Around) (m : Message) (next : Option ℕ) (b : ℕ) → Tells x.config.peer_flow m next → is_sequenced x.config.peer_flow ≡ false → live_after x.config.peer_flow (said m) b None ≡ b
live_untold x m next b t numbered = ap (λ (o : Option ℕ). unwrap_or o b) t.told ∙ ap (λ s. unwrap_or (if s then next else None) b) numbered

expected_low : (x : Around) (f : Facts) → (is_recoverable x.config.peer_flow ≡ true → Line f) → expected_number x f ≤ next_live x.config f
expected_low x f line = omega (arith, expected_most x f, by_flow (is_recoverable x.config.peer_flow) (λ e. (line e).low))
  where
    by_flow : (b : Bool) → (b ≡ true → f.connection.receiver.next ≤ f.connection.receiver.live)
        → (if b then receiver_is.expected f.connection.receiver else f.recorded.inbox_next) ≤ (if b then f.connection.receiver.live else f.recorded.inbox_next)
    by_flow true h = let low = h refl in omega (arith, low)
    by_flow false h = omega arith

refusing : (x : Around) (f : Facts) (m : Message) (t : ℕ) (next : Option ℕ) → Unheard x f (said m) → Tells x.config.peer_flow m next → is_some (announcement_fault x f t next) ≡ true
    → Opens x.config f (said m) (refuses x f (announcement_fault x f t next))
refusing x f m t next u tells some = by_fault (announcement_fault x f t next) some (number_fault ⊤ x f t next (λ numbered missing. fits numbered (there next missing)))
  where
    there : (o : Option ℕ) → is_none o ≡ false → is_some o ≡ true
    there None e = absurd (true≢false e)
    there (Some k) e = refl

    fits : is_sequenced x.config.peer_flow ≡ true → is_some next ≡ true → (nat_lt (x.most + 1) (unwrap_or next 0) ≡ false) × (nat_lt (unwrap_or next 0) (expected_number x f) ≡ false)
    fits numbered is =
        let low = at_least x f m next u tells numbered is in
        let same = live_told x f m next (next_live x.config f) tells numbered is in
        let top = u.top in
        let expected = expected_low x f u.line in
        (not_less (x.most + 1) (unwrap_or next 0) (omega (arith, same, top)), not_less (unwrap_or next 0) (expected_number x f) (omega (arith, low, expected)))

    by_fault : (v : Option Violation) → is_some v ≡ true → ((w : Violation) → v ≡ Some w → NotNumber ⊤ w) → Opens x.config f (said m) (refuses x f v)
    by_fault None e h = absurd (true≢false (sym e))
    by_fault (Some v) e h = breaking x f (said m) 2 v (not_number ⊤ v tt (h v refl))

some_told : (flow : Flow) (m : Message) (next : Option ℕ) → Tells flow m next → (is_sequenced flow ≡ true → is_some next ≡ true) → is_some (announces flow (said m)) ≡ is_sequenced flow
some_told flow m next t some = ap (λ (o : Option ℕ). is_some o) t.told ∙ by_flow (is_sequenced flow) some
  where
    by_flow : (b : Bool) → (b ≡ true → is_some next ≡ true) → is_some (if b then next else None) ≡ b
    by_flow true h = h refl
    by_flow false h = refl

-- the handshake is done, and of these facts nothing else has changed that the flow rests on, but a reader of a recoverable flow may be soft
record IsDone (c : EndConfig) (f g : Facts) : Type 0 where
  shaken : is_shaken g.connection.phase ≡ true
  receiver : g.connection.receiver ≡ f.connection.receiver
  requester : g.connection.requester ≡ f.connection.requester
  inbox_next : g.recorded.inbox_next ≡ f.recorded.inbox_next
  firm : is_recoverable c.peer_flow ≡ false → f.connection.soft ≡ false → g.connection.soft ≡ false

-- what a soft reader expects is the number announced, or less
expecting_below : (f : Facts) → f.connection.receiver.next ≤ f.connection.receiver.live → Below (expecting f) (exactly f.connection.receiver.live)
expecting_below f low = by_test (goes_softly f)
  where
    by_test : (t : Bool) → Below (if t then softly f.connection.receiver.next f.connection.receiver.live else exactly f.connection.receiver.live) (exactly f.connection.receiver.live)
    by_test true = (low, refl)
    by_test false = refl

some_is : (o : Option ℕ) → is_some o ≡ true → o ≡ Some (unwrap_or o 0)
some_is None e = absurd (true≢false (sym e))
some_is (Some n) e = refl

taking : (x : Around) (f : Facts) (m : Message) (next : Option ℕ) (act : Act) (written : List Message) (g : Facts) → IsDone x.config (announced x f next).facts g → Unheard x f (said m) → Tells x.config.peer_flow m next
    → (is_sequenced x.config.peer_flow ≡ true → is_some next ≡ true) → Opens x.config f (said m) (goes_on x act written g)
taking x f m next act written g d u t some = record { fine = λ w e. absurd cc; over = λ e. not_over {A = Ending} None refl e; next = λ _. done shaken_then (by_flow (is_recoverable x.config.peer_flow) refl) }
  where
    flow : Flow
    flow = x.config.peer_flow

    o : Outcome
    o = goes_on x act written g

    l : Option ℕ
    l = to_come f.connection.requester

    no_left : l ≡ None
    no_left = ap to_come u.idle.none

    shaken_then : is_shaken o.next.connection.phase ≡ true
    shaken_then = ap (λ k. is_shaken k) (asked_phase g (gap_to_ask x g)) ∙ d.shaken

    waits : awaited x.config f ≡ at_most (next_live x.config f)
    waits = awaited_before x.config f u.idle.firm u.before

    recovers : is_recoverable flow ≡ true → Moves x.config (said m) f o.next
    recovers rec = record {
      below = subst (λ (a : Awaited). Below a (awaited_after flow (said m) (awaited x.config f) l)) (sym (awaited_expecting x.config o.next rec shaken_then))
          (subst (λ (a : Awaited). Below (expecting o.next) a) (sym (after_announced flow m (awaited x.config f) l n is_told))
          (subst (λ (k : ℕ). Below (expecting o.next) (exactly k)) live_then (expecting_below o.next both.0.low)));
      left = both.1 ∙ (ap to_come none ∙ (sym t.none ∙ ap (λ (k : Option ℕ). left_after (said m) k) (sym no_left)));
      line = λ _. both.0;
      idle = λ other. absurd (true≢false (sym rec ∙ other));
      rises = λ _. omega (arith, same.inbox, d.inbox_next, ap (λ (a : Announced). a.facts.recorded.inbox_next) is);
    }
      where
        n : ℕ
        n = unwrap_or next 0

        numbered : is_sequenced flow ≡ true
        numbered = sequenced_of flow rec

        is : announced x f next ≡ record { facts = firm (receiving f (receiver_is.announced f.connection.receiver n)); skipped = None }
        is = announced_is x f next rec

        is_told : announces flow (said m) ≡ Some n
        is_told = t.told ∙ (ap (λ b. if b then next else None) numbered ∙ some_is next (some numbered))

        none : g.connection.requester ≡ requests.Nothing
        none = d.requester ∙ (ap (λ (a : Announced). a.facts.connection.requester) is ∙ u.idle.none)

        receiver : g.connection.receiver ≡ receiver_is.announced f.connection.receiver n
        receiver = d.receiver ∙ ap (λ (a : Announced). a.facts.connection.receiver) is

        same : Unmoved g o.next
        same = asked_unmoved g (gap_to_ask x g)

        live_then : o.next.connection.receiver.live ≡ n
        live_then = ap (λ r. r.live) (same.receiver ∙ receiver)

        low : f.connection.receiver.next ≤ n
        low =
            let least = at_least x f m next u t numbered (some numbered) in
            let live = live_is x.config f rec in
            let below = (u.line rec).low in
            omega (arith, least, live, below)

        line : Line g
        line = record {
          waits = ap (λ r. r.next) receiver ∙ ((u.line rec).waits ∙ sym (d.inbox_next ∙ ap (λ (a : Announced). a.facts.recorded.inbox_next) is));
          low = subst (λ (r : Receiving). r.next ≤ r.live) (sym receiver) low;
          matches = subst (λ (r : Receiving). Matches r g.connection.requester) (sym receiver) (subst (λ (q : Request). Matches (receiver_is.announced f.connection.receiver n) q) (sym none) refl);
          unasked = λ _. none;
        }

        both : Line o.next × (to_come o.next.connection.requester ≡ to_come g.connection.requester)
        both = line_asked x g (subst (λ (h : Option ℕ). IfSome h (λ n. n < lowest g)) (sym u.none) tt) line

    rested : is_recoverable flow ≡ false → Rests g (live_after flow (said m) f.recorded.inbox_next None)
    rested other =
        let r = announced_rests x f next (live_after flow (said m) f.recorded.inbox_next None) other u.idle
        (λ e. sym (live_untold x m next f.recorded.inbox_next t (other_sequenced flow false other e)))
        (λ e. let numbered = other_sequenced flow true other e in sym (live_told x f m next f.recorded.inbox_next t numbered (some numbered))) in
        record { idle = record { even = ap (λ k. receiver_is.gap None k) d.receiver ∙ r.idle.even; none = d.requester ∙ r.idle.none; firm = d.firm other r.idle.firm }; next = d.inbox_next ∙ r.next }

    after : awaited_after flow (said m) (awaited x.config f) l ≡ awaits (is_sequenced flow && is_shaken o.next.connection.phase) (live_after flow (said m) (next_live x.config f) l)
    after = ap (λ (a : Awaited). awaited_after flow (said m) a l) waits ∙ (after_at_most flow (said m) (next_live x.config f) l (is_sequenced flow) (some_told flow m next t some)
        ∙ (ap (λ b. awaits b (live_after flow (said m) (next_live x.config f) l)) (sym (and_true (is_sequenced flow)))
        ∙ ap (λ b. awaits (is_sequenced flow && b) (live_after flow (said m) (next_live x.config f) l)) (sym shaken_then)))

    by_flow : (b : Bool) → is_recoverable flow ≡ b → Moves x.config (said m) f o.next
    by_flow true rec = recovers rec
    by_flow false other = other_moves x f (said m) ⊤ o other u.idle (t.plain f.connection.requester) after (rests x ⊤ f g act written (live_after flow (said m) f.recorded.inbox_next None) other (rested other)) refl

announcing : (x : Around) (f : Facts) (m : Message) (t : ℕ) (next : Option ℕ) (follows : Announced → Outcome) → Unheard x f (said m) → Tells x.config.peer_flow m next
    → ((is_sequenced x.config.peer_flow ≡ true → is_some next ≡ true) → Opens x.config f (said m) (follows (announced x f next))) → AllRows (Opens x.config f (said m)) (announcement_rows x f t next follows)
announcing x f m t next follows u tells takes = (
  λ some. refusing x f m t next u tells some,
  λ none. (λ _. takes (given t (is_sequenced x.config.peer_flow) next _ (some-none (announcement_fault x f t next) none)), λ _. tt),
)

-- nothing of the flows is read yet
not_yet : (P : Outcome → Type 0) (f : Facts) (rows : List Row) → is_shaken f.connection.phase ≡ false → AllRows P (if is_established f.connection.phase then rows else [])
not_yet P f rows before = all_within P (is_established f.connection.phase) rows (λ e. absurd (first (is_established f.connection.phase) (is_closing f.connection.phase) e before))
  where
    first : (a b : Bool) → a ≡ true → (a || b) ≡ false → ⊥
    first true b e n = true≢false n
    first false b e n = true≢false (sym e)

in_session : (x : Around) (f : Facts) (p : Piece) (template : ℕ) (id : List ℕ) (rows : List Row) → AllRows (Opens x.config f p) rows → AllRows (Opens x.config f p) (of_session x f template id rows)
in_session x f p template id rows all = (λ _. breaking x f p 2 (OtherSession template) tt, λ _. all)

rejected_fine : (t code : ℕ) (v : Violation) → endings.Rejected t code ≡ endings.Violation v → NoNumber v
rejected_fine t code v e = absurd cc

terminated_fine : (code : ℕ) (v : Violation) → endings.PeerTerminated code ≡ endings.Violation v → NoNumber v
terminated_fine code v e = absurd cc

choosing : (P : Outcome → Type 0) (b c : Bool) (first second : List Row) → (b ≡ true → AllRows P first) → (c ≡ true → AllRows P second) → AllRows P (if b then first else if c then second else [])
choosing P true c first second p q = p refl
choosing P false true first second p q = q refl
choosing P false false first second p q = tt

-- an Establish is acknowledged, and an acknowledgement read, whether the number is taken or not
acknowledging : (x : Around) (f : Facts) (id : List ℕ) (timestamp keepalive : ℕ) (next : Option ℕ) (e : Expected) (credentials : List ℕ) → Unheard x f (said (establish id timestamp keepalive next e credentials))
    → (is_sequenced x.config.peer_flow ≡ true → is_some next ≡ true) → Opens x.config f (said (establish id timestamp keepalive next e credentials)) (acknowledges x timestamp keepalive e (announced x f next))
acknowledging x f id timestamp keepalive next e credentials u some =
    by_taking (λ g. Opens x.config f (said m) (acknowledged_by x timestamp keepalive e a.skipped g)) x a.facts e
    (λ _. writing (record a.facts { recorded = record a.facts.recorded { sent = number_in e - 1 } }) refl refl refl) (writing a.facts refl refl refl)
  where
    m : Message
    m = establish id timestamp keepalive next e credentials

    a : Announced
    a = announced x f next

    not_soft : (b c r : Bool) → r ≡ false → (b && c && r) ≡ false
    not_soft true true r e = e
    not_soft true false r e = refl
    not_soft false c r e = refl

    writing : (g : Facts) → g.connection.receiver ≡ a.facts.connection.receiver → g.connection.requester ≡ a.facts.connection.requester → g.recorded.inbox_next ≡ a.facts.recorded.inbox_next
        → Opens x.config f (said m) (acknowledged_by x timestamp keepalive e a.skipped g)
    writing g r q n = taking x f m next (skip_of a.skipped) (establishment_ack x.config.session timestamp x.config.keepalive (announced_number x g) (answers_next x e g) ∷ told_skip a.skipped) (established (softened x e g) keepalive)
        (record { shaken = refl; receiver = r; requester = q; inbox_next = n; firm = λ other _. not_soft (is_newer x.config) (is_present e) (is_recoverable x.config.peer_flow) other }) u (record { told = refl; none = refl; plain = λ q. tt }) some

reaching_on : (x : Around) (f : Facts) (id : List ℕ) (timestamp keepalive : ℕ) (next : Option ℕ) (e : Expected) (interval : ℕ) → Unheard x f (said (establishment_ack id timestamp keepalive next e))
    → (is_sequenced x.config.peer_flow ≡ true → is_some next ≡ true) → (t same : Bool) → Opens x.config f (said (establishment_ack id timestamp keepalive next e)) (reaching x interval e (announced x f next) t same)
reaching_on x f id timestamp keepalive next e interval u some t same = by_test t
  where
    m : Message
    m = establishment_ack id timestamp keepalive next e

    a : Announced
    a = announced x f next

    by_test : (b : Bool) → Opens x.config f (said m) (goes_on x (skip_of a.skipped) (told_skip a.skipped ++ starting t same e) (established (returned_if b a.facts e) interval))
    by_test true = taking x f m next (skip_of a.skipped) (told_skip a.skipped ++ starting t same e) (established (returned_if true a.facts e) interval)
        (record { shaken = refl; receiver = refl; requester = refl; inbox_next = refl; firm = λ _ soft. soft }) u (record { told = refl; none = refl; plain = λ q. tt }) some
    by_test false = taking x f m next (skip_of a.skipped) (told_skip a.skipped ++ starting t same e) (established a.facts interval)
        (record { shaken = refl; receiver = refl; requester = refl; inbox_next = refl; firm = λ _ soft. soft }) u (record { told = refl; none = refl; plain = λ q. tt }) some

-- all rows of all messages
session_opens : (x : Around) (f : Facts) (m : Message) → Unheard x f (said m) → AllRows (Opens x.config f (said m)) (rows_of x f (session m))
session_opens x f (negotiate id timestamp flow credentials) u =
    let p = said (negotiate id timestamp flow credentials) in
    all_within (Opens x.config f p) (awaits_client x f) (negotiate_rows x f id timestamp flow credentials) (λ _. (
      λ _. rejecting x f p _ u.before refl,
      λ _. (
        λ _. rejecting x f p _ u.before refl,
        λ _. (
          λ _. rejecting x f p _ u.before refl,
          λ _. (
            λ _. rejecting x f p _ u.before refl,
            λ _. (λ _. keeping x f (as_negotiated f) p _ (negotiation_response x.config.session timestamp (flow_code x.config.own_flow) [] ∷ []) u.none u.idle u.before refl refl refl refl refl, λ _. tt),
          ),
        ),
      ),
    ))
session_opens x f (negotiation_response id timestamp flow credentials) u =
    let p = said (negotiation_response id timestamp flow credentials) in
    in_session x f p 2 id _ (all_within (Opens x.config f p) (is_negotiating f.connection.phase) (negotiation_response_rows x f flow) (λ _. (
      λ _. breaking x f p 2 (OtherSession 2) tt,
      λ _. (λ _. keeping x f (in_phase (as_negotiated f) phases.Establishing) p _ (opening_establish x f ∷ []) u.none u.idle refl refl refl refl refl refl, λ _. tt),
    )))
session_opens x f (negotiation_reject id timestamp code reason) u =
    let p = said (negotiation_reject id timestamp code reason) in
    in_session x f p 3 id _ (all_within (Opens x.config f p) (is_negotiating f.connection.phase) (negotiation_reject_rows x f code) (λ _. (
      λ _. keeping x f (in_phase (as_negotiated f) phases.Establishing) p _ (opening_establish x f ∷ []) u.none u.idle refl refl refl refl refl refl,
      λ _. (λ _. ending x f p [] (endings.Rejected 3 code) (rejected_fine 3 code), λ _. tt),
    )))
session_opens x f (establish id timestamp keepalive next expected credentials) u =
    let m = establish id timestamp keepalive next expected credentials in
    let p = said m in
    choosing (Opens x.config f p) (awaits_client x f) (serves_client x f) (establish_rows x f id timestamp keepalive next expected credentials) (established_again_rows x f id timestamp)
    (λ _. (
      λ _. rejecting x f p _ u.before refl,
      λ _. (
        λ _. rejecting x f p _ u.before refl,
        λ _. (
          λ _. rejecting x f p _ u.before refl,
          λ _. announcing x f m 4 next (acknowledges x timestamp keepalive expected) u (record { told = refl; none = refl; plain = λ q. tt })
              (λ some. acknowledging x f id timestamp keepalive next expected credentials u some),
        ),
      ),
    ))
    (λ _. (λ _. rejecting x f p _ u.before refl, λ _. (λ _. rejecting x f p _ u.before refl, λ _. tt)))
session_opens x f (establishment_ack id timestamp keepalive next expected) u =
    let m = establishment_ack id timestamp keepalive next expected in
    let p = said m in
    in_session x f p 5 id _ (all_within (Opens x.config f p) (is_establishing f.connection.phase) (establishment_ack_rows x f keepalive next expected) (λ _.
    announcing x f m 5 next (reached x keepalive expected) u (record { told = refl; none = refl; plain = λ q. tt })
    (λ some. by_reaching (Opens x.config f p) x keepalive expected (announced x f next) (λ t same _ _. reaching_on x f id timestamp keepalive next expected (min 60000 (max 100 keepalive)) u some t same))))
session_opens x f (establishment_reject id timestamp code reason) u =
    let p = said (establishment_reject id timestamp code reason) in
    in_session x f p 6 id _ (all_within (Opens x.config f p) (is_establishing f.connection.phase) (establishment_reject_rows x f code) (λ _. (
      λ _. keeping x f (in_phase f phases.Negotiating) p _ (opening_negotiate x ∷ []) u.none u.idle refl refl refl refl refl refl,
      λ _. (λ _. ending x f p [] (endings.Rejected 6 code) (rejected_fine 6 code), λ _. tt),
    )))
session_opens x f (sequence next) u = not_yet (Opens x.config f (said (sequence next))) f _ u.before
session_opens x f unsequenced_heartbeat u = (λ _. keeping x f f (said unsequenced_heartbeat) _ [] u.none u.idle u.before refl refl refl refl refl, λ _. tt)
session_opens x f (retransmit_request id timestamp first count) u = not_yet (Opens x.config f (said (retransmit_request id timestamp first count))) f _ u.before
session_opens x f (retransmission id next timestamp count) u =
    let p = said (retransmission id next timestamp count) in in_session x f p 10 id _ (not_yet (Opens x.config f p) f _ u.before)
session_opens x f (retransmit_reject id timestamp code reason) u =
    let p = said (retransmit_reject id timestamp code reason) in in_session x f p 11 id _ (not_yet (Opens x.config f p) f _ u.before)
session_opens x f (applied first count) u = (λ _. keeping x f f (said (applied first count)) _ [] u.none u.idle u.before refl refl refl refl refl, λ _. tt)
session_opens x f (not_applied first count) u =
    let p = said (not_applied first count) in
    (λ _. keeping x f f p _ [] u.none u.idle u.before refl refl refl refl refl, λ _. (λ _. keeping x f f p _ [] u.none u.idle u.before refl refl refl refl refl, λ _. tt))
session_opens x f (finished_sending id last) u = let p = said (finished_sending id last) in in_session x f p 14 id _ (not_yet (Opens x.config f p) f _ u.before)
session_opens x f (finished_receiving id) u = let p = said (finished_receiving id) in in_session x f p 15 id _ (not_yet (Opens x.config f p) f _ u.before)
session_opens x f (terminate id code reason) u =
    let p = said (terminate id code reason) in in_session x f p 16 id (row true (ends x f 1 (endings.PeerTerminated code)) ∷ []) (λ _. ending x f p _ (endings.PeerTerminated code) (terminated_fine code), λ _. tt)

rows_open : (x : Around) (f : Facts) (p : Piece) → Unheard x f p → AllRows (Opens x.config f p) (rows_of x f (incoming_of p))
rows_open x f (said m) u = session_opens x f m u
rows_open x f (entry payload) u = not_yet (Opens x.config f (entry payload)) f _ u.before

-- the reply to a message before the handshake is done
pub opening_reply : (x : Around) (f : Facts) (p : Piece) → is_shaken f.connection.phase ≡ false → x.held ≡ None → Idle f → (is_recoverable x.config.peer_flow ≡ true → Line f)
    → Fits x.config.peer_flow p (at_most (next_live x.config f)) None → live_after x.config.peer_flow p (next_live x.config f) None ≤ x.most + 1 → Opens x.config f p (reply_of x f (incoming_of p))
opening_reply x f p before none idle line fits top =
    by_row (Opens x.config f p) (is_closing f.connection.phase && not (terminates x (incoming_of p))) (ignores f) (answer_of x f (incoming_of p))
    (λ e. absurd (closes (is_established f.connection.phase) (is_closing f.connection.phase) (not (terminates x (incoming_of p))) before e))
    (λ _. all_rows (Opens x.config f p) (not_in_phase x f (template_of (incoming_of p))) (rows_of x f (incoming_of p)) (breaking x f p 2 _ tt)
    (rows_open x f p (record { before = before; none = none; idle = idle; line = line; fits = fits; top = top })))
  where
    closes : (a b c : Bool) → (a || b) ≡ false → (b && c) ≡ true → ⊥
    closes true b c n e = true≢false n
    closes false true c n e = true≢false n
    closes false false c n e = true≢false (sym e)
