-- What a reader awaits, by its flow and as far as the handshake is.
use Rattle.std.proofs.Common.{◌≡◌, ℕ, ◌≤◌, ◌&&◌, nat_lt, Bool, true, false, if◌then◌else◌, List, ◌∷◌, Option, Some, None, refl, sym, ap, subst, ◌∙◌, arith, true≢false}
use Rattle.std.specs.Prelude.{is_some}
use Rattle.fixp_msgs.specs.declared.flow.Flow.{Flow}
use Rattle.flow_recover.specs.Receiving as receiver_is
use Rattle.flow_recover.specs.Receiving.{Receiving}
use Rattle.flow_retrans.specs.declared.request.Request.{Request}
use Rattle.flow_retrans.specs.declared.request.Request.TheVariants as requests
use Rattle.fixp_shake.specs.declared.config.EndConfig.{EndConfig}
use Rattle.fixp_shake.specs.declared.violation.Violation.{Violation}
use Rattle.fixp_shake.specs.declared.violation.Violation.TheVariants.{BadFrame, UnknownTemplate, NotInPhase, OtherSession, WentBack, MissingNext, NumberTooLarge, BadRetransmission, AfterFinish, FlowNone, Silent, HandshakeLate}
use Rattle.fixp_shake.specs.Flows.{is_recoverable, is_sequenced}
use Rattle.fixp_shake.specs.Phases.{is_shaken}
use Rattle.fixp_replies.specs.declared.facts.Facts.{Facts}
use Rattle.fixp_replies.specs.Facts.{Around}
use Rattle.fixp_replies.specs.Outcomes.{Outcome}
use Rattle.fixp_msgs.specs.Message.{Message, establish, establishment_ack, sequence, retransmission}
use Rattle.connection_laws.specs.Writing.{Piece, said, entry}
use Rattle.fixp_machine.specs.Sound.{Matches}
use Rattle.honest_ends.specs.Numbers.{Awaited, exactly, at_most, softly, announces, live_after, awaited_after, left_after, Runs, Answers, NotNumber, to_come, Line, Idle, Lined, Other, goes_softly, expecting}
use Rattle.honest_ends.proofs.Running.{number_of, runs_top, Below, below_same, lower}
use Rattle.honest_ends.proofs.Lining.{sequenced_of}
use Rattle.honest_ends.specs.Numbered.{next_live, awaits, awaited}
use Rattle.honest_ends.specs.NumberLaws.{NoNumber}

pub not_number : (A : Type 0) (v : Violation) → A → NotNumber A v → NoNumber v
not_number A (BadFrame at) a n = tt
not_number A (UnknownTemplate id) a n = tt
not_number A (NotInPhase template phase) a n = tt
not_number A (OtherSession template) a n = tt
not_number A (WentBack announced expected) a n = absurd n
not_number A (MissingNext template) a n = tt
not_number A (NumberTooLarge announced) a n = absurd n
not_number A (BadRetransmission expected found) a n = absurd (n a)
not_number A (AfterFinish last found) a n = tt
not_number A (FlowNone template) a n = tt
not_number A (Silent last now) a n = tt
not_number A (HandshakeLate start now) a n = tt

-- what is awaited, before the handshake is done and from then on
and_false : (b : Bool) → (b && false) ≡ false
and_false true = refl
and_false false = refl

pub and_true : (b : Bool) → (b && true) ≡ b
and_true true = refl
and_true false = refl

-- the live number, by its flow
pub live_is : (c : EndConfig) (f : Facts) → is_recoverable c.peer_flow ≡ true → next_live c f ≡ f.connection.receiver.live
live_is c f e = ap (λ b. if b then f.connection.receiver.live else f.recorded.inbox_next) e

pub inbox_of : (c : EndConfig) (f : Facts) → is_recoverable c.peer_flow ≡ false → next_live c f ≡ f.recorded.inbox_next
inbox_of c f e = ap (λ b. if b then f.connection.receiver.live else f.recorded.inbox_next) e

-- what the parts of the facts make of it
abbrev awaited_of : (soft : Bool) (r : Receiving) (announced : Bool) (live : ℕ) → Awaited
awaited_of soft r announced live = if soft && nat_lt r.next r.live then softly r.next r.live else awaits announced live

-- a reader that is not soft does not go softly
pub not_softly : (f : Facts) → f.connection.soft ≡ false → goes_softly f ≡ false
not_softly f e = ap (λ b. b && nat_lt f.connection.receiver.next f.connection.receiver.live) e

pub awaited_firm : (c : EndConfig) (f : Facts) → goes_softly f ≡ false → awaited c f ≡ awaits (is_sequenced c.peer_flow && is_shaken f.connection.phase) (next_live c f)
awaited_firm c f e = ap (λ b. if b then softly f.connection.receiver.next f.connection.receiver.live else awaits (is_sequenced c.peer_flow && is_shaken f.connection.phase) (next_live c f)) e

pub awaited_before : (c : EndConfig) (f : Facts) → f.connection.soft ≡ false → is_shaken f.connection.phase ≡ false → awaited c f ≡ at_most (next_live c f)
awaited_before c f firm e = awaited_firm c f (not_softly f firm) ∙ (ap (λ b. awaits (is_sequenced c.peer_flow && b) (next_live c f)) e ∙ ap (λ b. awaits b (next_live c f)) (and_false (is_sequenced c.peer_flow)))

pub awaited_then : (c : EndConfig) (f : Facts) → goes_softly f ≡ false → is_shaken f.connection.phase ≡ true → awaited c f ≡ awaits (is_sequenced c.peer_flow) (next_live c f)
awaited_then c f firm e = awaited_firm c f firm ∙ (ap (λ b. awaits (is_sequenced c.peer_flow && b) (next_live c f)) e ∙ ap (λ b. awaits b (next_live c f)) (and_true (is_sequenced c.peer_flow)))

-- of a recoverable flow, once the handshake is done
pub awaited_expecting : (c : EndConfig) (f : Facts) → is_recoverable c.peer_flow ≡ true → is_shaken f.connection.phase ≡ true → awaited c f ≡ expecting f
awaited_expecting c f rec done =
    ap (λ b. chosen (awaits (b && is_shaken f.connection.phase) (next_live c f))) (sequenced_of c.peer_flow rec)
    ∙ (ap (λ b. chosen (awaits b (next_live c f))) done ∙ ap (λ (n : ℕ). chosen (exactly n)) (live_is c f rec))
  where
    chosen : Awaited → Awaited
    chosen a = if goes_softly f then softly f.connection.receiver.next f.connection.receiver.live else a

pub number_awaited : (b : Bool) (n : ℕ) → number_of (awaits b n) ≡ n
number_awaited true n = refl
number_awaited false n = refl

-- the receiver, softness and the inbox decide it
pub same_live : (c : EndConfig) (f g : Facts) → g.connection.receiver ≡ f.connection.receiver → g.recorded.inbox_next ≡ f.recorded.inbox_next → next_live c g ≡ next_live c f
same_live c f g e n = ap (λ (k : Receiving). if is_recoverable c.peer_flow then k.live else g.recorded.inbox_next) e ∙ ap (λ (k : ℕ). if is_recoverable c.peer_flow then f.connection.receiver.live else k) n

pub same_softly : (f g : Facts) → g.connection.receiver ≡ f.connection.receiver → g.connection.soft ≡ f.connection.soft → goes_softly g ≡ goes_softly f
same_softly f g e t = ap (λ (k : Receiving). g.connection.soft && nat_lt k.next k.live) e ∙ ap (λ (b : Bool). b && nat_lt f.connection.receiver.next f.connection.receiver.live) t

pub same_awaited : (c : EndConfig) (f g : Facts) → is_shaken g.connection.phase ≡ is_shaken f.connection.phase → g.connection.receiver ≡ f.connection.receiver → g.recorded.inbox_next ≡ f.recorded.inbox_next
    → g.connection.soft ≡ f.connection.soft → awaited c g ≡ awaited c f
same_awaited c f g s e n t =
    ap (λ (b : Bool). awaited_of b g.connection.receiver (is_sequenced c.peer_flow && is_shaken g.connection.phase) (next_live c g)) t
    ∙ (ap (λ (k : Receiving). awaited_of f.connection.soft k (is_sequenced c.peer_flow && is_shaken g.connection.phase) (next_live c g)) e
    ∙ (ap (λ b. awaited_of f.connection.soft f.connection.receiver (is_sequenced c.peer_flow && b) (next_live c g)) s
    ∙ ap (λ (k : ℕ). awaited_of f.connection.soft f.connection.receiver (is_sequenced c.peer_flow && is_shaken f.connection.phase) k) (same_live c f g e n)))

pub line_same : (f g : Facts) → g.connection.receiver ≡ f.connection.receiver → g.connection.requester ≡ f.connection.requester → g.recorded.inbox_next ≡ f.recorded.inbox_next
    → g.connection.soft ≡ f.connection.soft → Line f → Line g
line_same f g e q n t line = record {
  waits = ap (λ (k : Receiving). k.next) e ∙ (line.waits ∙ sym n);
  low = subst (λ (k : Receiving). k.next ≤ k.live) (sym e) line.low;
  matches = subst (λ (k : Receiving). Matches k g.connection.requester) (sym e) (subst (λ (k : Request). Matches f.connection.receiver k) (sym q) line.matches);
  unasked = λ soft. q ∙ line.unasked (sym t ∙ soft);
}

pub idle_same : (f g : Facts) → g.connection.receiver ≡ f.connection.receiver → g.connection.requester ≡ f.connection.requester → g.connection.soft ≡ f.connection.soft → Idle f → Idle g
idle_same f g e q t idle = record { even = ap (λ k. receiver_is.gap None k) e ∙ idle.even; none = q ∙ idle.none; firm = t ∙ idle.firm }

-- a flow without numbers announces none
unannounced : (flow : Flow) (p : Piece) → is_sequenced flow ≡ false → is_some (announces flow p) ≡ false
unannounced flow (entry payload) e = refl
unannounced flow (said m) e = by_message m
  where
    by_message : (k : Message) → is_some (announces flow (said k)) ≡ false
    by_message (establish id timestamp keepalive next expected credentials) = ap (λ b. is_some (if b then next else None)) e
    by_message (establishment_ack id timestamp keepalive next expected) = ap (λ b. is_some (if b then next else None)) e
    by_message (sequence next) = ap (λ b. is_some (if b then Some next else None)) e
    by_message _ = refl

pub after_at_most : (flow : Flow) (p : Piece) (b : ℕ) (l : Option ℕ) (t : Bool) → is_some (announces flow p) ≡ t → awaited_after flow p (at_most b) l ≡ awaits t (live_after flow p b l)
after_at_most flow p b l true e = ap (λ s. if s then exactly (live_after flow p b l) else at_most (live_after flow p b l)) e
after_at_most flow p b l false e = ap (λ s. if s then exactly (live_after flow p b l) else at_most (live_after flow p b l)) e

-- once the handshake is done
pub after_then : (flow : Flow) (p : Piece) (b : ℕ) (l : Option ℕ) → awaited_after flow p (awaits (is_sequenced flow) b) l ≡ awaits (is_sequenced flow) (live_after flow p b l)
after_then flow p b l = by_flow (is_sequenced flow) refl
  where
    by_flow : (t : Bool) → is_sequenced flow ≡ t → awaited_after flow p (awaits t b) l ≡ awaits t (live_after flow p b l)
    by_flow true e = refl
    by_flow false e = after_at_most flow p b l false (unannounced flow p e)

-- a reader behind a message: what it awaits is what the message makes of it, or less
pub record Moves (c : EndConfig) (p : Piece) (f g : Facts) : Type 0 where
  pub below : Below (awaited c g) (awaited_after c.peer_flow p (awaited c f) (to_come f.connection.requester))
  pub left : to_come g.connection.requester ≡ left_after p (to_come f.connection.requester)
  pub line : is_recoverable c.peer_flow ≡ true → Line g
  pub idle : is_recoverable c.peer_flow ≡ false → Idle g
  pub rises : is_recoverable c.peer_flow ≡ true → f.recorded.inbox_next ≤ g.recorded.inbox_next

same_below : (a d : Awaited) → a ≡ d → Below a d
same_below a d e = subst (λ (b : Awaited). Below a b) e (below_same a)

pub lined_moves : (x : Around) (f : Facts) (p : Piece) (A : Type 0) (o : Outcome) → is_recoverable x.config.peer_flow ≡ true → is_shaken f.connection.phase ≡ true → is_shaken o.next.connection.phase ≡ true
    → Lined A f (awaited_after x.config.peer_flow p (expecting f) (to_come f.connection.requester)) (left_after p (to_come f.connection.requester)) o → o.ending ≡ None → Moves x.config p f o.next
lined_moves x f p A o rec before after h going =
    let r = h.next going in
    record {
      below = same_below (awaited x.config o.next) (awaited_after x.config.peer_flow p (awaited x.config f) (to_come f.connection.requester))
          (awaited_expecting x.config o.next rec after ∙ (r.reach ∙ ap (λ (a : Awaited). awaited_after x.config.peer_flow p a (to_come f.connection.requester)) (sym (awaited_expecting x.config f rec before))));
      left = r.left;
      line = λ _. r.line;
      idle = λ n. absurd (true≢false (sym rec ∙ n));
      rises = λ _. r.rises;
    }

-- nothing is left where nothing was asked for
left_none : (p : Piece) (q : Request) → q ≡ requests.Nothing → Answers q p → left_after p None ≡ None
left_none (entry payload) q e a = refl
left_none (said m) q e a = by_message m a
  where
    by_message : (k : Message) → Answers q (said k) → left_after (said k) None ≡ None
    by_message (retransmission id next timestamp count) b = absurd (cc (e, b.0))
    by_message _ b = refl

pub other_moves : (x : Around) (f : Facts) (p : Piece) (A : Type 0) (o : Outcome) → is_recoverable x.config.peer_flow ≡ false → Idle f → Answers f.connection.requester p
    → awaited_after x.config.peer_flow p (awaited x.config f) (to_come f.connection.requester)
    ≡ awaits (is_sequenced x.config.peer_flow && is_shaken o.next.connection.phase) (live_after x.config.peer_flow p (next_live x.config f) (to_come f.connection.requester))
    → Other A f (live_after x.config.peer_flow p f.recorded.inbox_next None) o → o.ending ≡ None → Moves x.config p f o.next
other_moves x f p A o other idle answers after h going =
    let r = h.next going in
    let none : to_come f.connection.requester ≡ None = ap to_come idle.none in
    let live = inbox_of x.config o.next other ∙ (r.next ∙ (ap (λ (n : ℕ). live_after x.config.peer_flow p n None) (sym (inbox_of x.config f other))
    ∙ ap (λ (l : Option ℕ). live_after x.config.peer_flow p (next_live x.config f) l) (sym none))) in
    record {
      below = same_below (awaited x.config o.next) (awaited_after x.config.peer_flow p (awaited x.config f) (to_come f.connection.requester))
          (awaited_firm x.config o.next (not_softly o.next r.idle.firm) ∙ (ap (λ (n : ℕ). awaits (is_sequenced x.config.peer_flow && is_shaken o.next.connection.phase) n) live ∙ sym after));
      left = ap to_come r.idle.none ∙ (sym (left_none p f.connection.requester idle.none answers) ∙ ap (λ (l : Option ℕ). left_after p l) (sym none));
      line = λ n. absurd (true≢false (sym n ∙ other));
      idle = λ _. r.idle;
      rises = λ n. absurd (true≢false (sym n ∙ other));
    }

-- What is under way to a reader brings it to this number, and to so much of a retransmission
pub record Ready (c : EndConfig) (f : Facts) (way : List Piece) (k : ℕ) (m : Option ℕ) : Type 0 where
  pub runs : Runs c.peer_flow (awaited c f) (to_come f.connection.requester) way k m
  pub line : is_recoverable c.peer_flow ≡ true → Line f
  pub idle : is_recoverable c.peer_flow ≡ false → Idle f
  pub opening : is_shaken f.connection.phase ≡ false → Idle f

-- then its live number is no greater, nor what its inbox awaits
pub ready_live : (c : EndConfig) (f : Facts) (way : List Piece) (k : ℕ) (m : Option ℕ) → goes_softly f ≡ false → Ready c f way k m → next_live c f ≤ k
ready_live c f way k m firm r =
    let top = runs_top c.peer_flow (awaited c f) (to_come f.connection.requester) way k m r.runs in
    let same = ap number_of (awaited_firm c f firm) ∙ number_awaited (is_sequenced c.peer_flow && is_shaken f.connection.phase) (next_live c f) in
    omega (arith, top, same)

pub ready_top : (c : EndConfig) (f : Facts) (way : List Piece) (k : ℕ) (m : Option ℕ) → Ready c f way k m → f.recorded.inbox_next ≤ k
ready_top c f way k m r = by_flow (is_recoverable c.peer_flow) refl (goes_softly f) refl
  where
    by_flow : (b : Bool) → is_recoverable c.peer_flow ≡ b → (t : Bool) → goes_softly f ≡ t → f.recorded.inbox_next ≤ k
    by_flow true e false firm =
        let line = r.line e in let waits = line.waits in let below = line.low in let same = live_is c f e in let h = ready_live c f way k m firm r in omega (arith, waits, below, same, h)
    by_flow true e true soft =
        let line = r.line e in
        let waits = line.waits in
        let below = line.low in
        let top = runs_top c.peer_flow (awaited c f) (to_come f.connection.requester) way k m r.runs in
        let same = ap (λ b. number_of (if b then softly f.connection.receiver.next f.connection.receiver.live else awaits (is_sequenced c.peer_flow && is_shaken f.connection.phase) (next_live c f))) soft in
        omega (arith, waits, below, top, same)
    by_flow false e t is = let same = inbox_of c f e in let h = ready_live c f way k m (not_softly f (r.idle e).firm) r in omega (arith, same, h)

-- behind a message that moves it
pub moved_runs : (c : EndConfig) (f g : Facts) (p : Piece) (left : List Piece) (k : ℕ) (m : Option ℕ) → Moves c p f g
    → Runs c.peer_flow (awaited c f) (to_come f.connection.requester) (p ∷ left) k m → Runs c.peer_flow (awaited c g) (to_come g.connection.requester) left k m
moved_runs c f g p left k m v r =
    subst (λ (l : Option ℕ). Runs c.peer_flow (awaited c g) l left k m) (sym v.left)
    (lower c.peer_flow (awaited c g) (awaited_after c.peer_flow p (awaited c f) (to_come f.connection.requester)) (left_after p (to_come f.connection.requester)) left k m v.below r.1)
