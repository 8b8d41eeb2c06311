-- Both ends over any steps: a gap is asked for at once, and what is recorded of a finish comes behind all of its flow.
use Rattle.honest_ends.proofs.Past.{least_above}
use Rattle.honest_ends.proofs.Lying.{LiesSo}
use Rattle.honest_ends.proofs.Windowing.{Window}
use Rattle.honest_ends.proofs.PhaseOpening.{asks_unheld}
use Rattle.fixp_replies.specs.Incoming.{payload_in}
use Rattle.fixp_replies.specs.declared.act.Ending.{Ending}
use Rattle.flow_window.specs.Window.{least, holding}
use Rattle.session_model.specs.Inbox.{Numbered}
use Rattle.fixp_msgs.specs.declared.numbering.Range.{Range}
use Rattle.std.proofs.lemmas.Bool.{ltb-true, ltb-false}
use Rattle.std.proofs.Common.{◌≡◌, ℕ, ◌+◌, ◌≤◌, ◌||◌, Bool, true, false, if◌then◌else◌, List, [], ◌∷◌, Option, Some, None, refl, sym, ap, subst, ◌∙◌, arith, true≢false, ◌-◌, ◌==◌, min, nat_lt, inl, inr, IsSome, eqb-true}
use Rattle.std.specs.Prelude.{is_some, IfSome, unwrap_or}
use Rattle.session_model.specs.Journal.{Entry}
use Rattle.flow_recover.specs.Receiving as receiver_is
use Rattle.flow_recover.specs.Receiving.{Receiving}
use Rattle.flow_retrans.specs.declared.request.Request.{Request}
use Rattle.flow_retrans.specs.declared.request.Request.TheVariants as requests
use Rattle.fixp_shake.specs.declared.phase.Phase.TheVariants as phases
use Rattle.flow_retrans.specs.Requests.{outstanding, is_coming}
use Rattle.fixp_shake.specs.declared.config.EndConfig.{EndConfig}
use Rattle.fixp_shake.specs.Flows.{is_recoverable, is_sequenced}
use Rattle.fixp_shake.specs.Phases.{is_closing}
use Rattle.fixp_replies.specs.declared.facts.Facts.{Facts}
use Rattle.fixp_replies.specs.declared.facts.PeerFinish.{PeerFinish}
use Rattle.fixp_replies.specs.Facts.{Around, is_initiator, gap_to_ask, peer_is_exchanged, connecting}
use Rattle.fixp_replies.specs.Outcomes.{Outcome}
use Rattle.fixp_replies.specs.Replies.{reply_of}
use Rattle.fixp_machine.specs.Machine.{State, Call, begin, around, step, run, fresh, IsDrained, held_until, held_with}
use Rattle.fixp_machine.proofs.Tests.{no_gap}
use Rattle.connection_laws.specs.Standing.{MayStand}
use Rattle.connection_laws.specs.Writing.{Piece}
use Rattle.two_ends.specs.Reading.{incoming_of}
use Rattle.two_ends.proofs.Refused.{closing_is_deaf}
use Rattle.honest_ends.specs.Worlds.{World, Step, meets, initiator_reads, acceptor_reads, initiator_does, acceptor_does, reading, written, initiator_read, acceptor_read, after, world_after, IsOther, MayStep, AllMayStep, MayRead}
use Rattle.honest_ends.proofs.Moving.{Reads, reads_as, does_as}
use Rattle.honest_ends.proofs.Phased.{begun_as}
use Rattle.honest_ends.proofs.Serving.{by_bool, serves_as, was_none, Serves, Passes, Remains}
use Rattle.honest_ends.proofs.Telling.{tells_as}
use Rattle.honest_ends.specs.Numbered.{Follows}
use Rattle.honest_ends.proofs.Numbering.{Counted, counted_step, numbered_of}
use Rattle.honest_ends.proofs.Settling.{Ended, Ends, Waits, Settles, settles, rise, holding_so}

-- the gap that an end is to ask for
abbrev pub gap_in : State → Option Range
gap_in s = gap_to_ask (around s 0 0) s.facts

-- what an end keeps from one moment to another
pub record Keeps (s t : State) : Type 0 where
  pub asked : (s.ending ≡ None → gap_in s ≡ None) → t.ending ≡ None → gap_in t ≡ None
  pub ends : Ends s.config.peer_flow s.facts → Ends t.config.peer_flow t.facts
  pub config : t.config ≡ s.config

keeps_still : (s : State) → Keeps s s
keeps_still s = record { asked = λ h. h; ends = λ e. e; config = refl }

keeps_on : (s t u : State) → Keeps s t → Keeps t u → Keeps s u
keeps_on s t u a b = record { asked = λ h. b.asked (a.asked h); ends = λ e. b.ends (a.ends e); config = b.config ∙ a.config }

-- a connection begins
begins : (s : State) (now : ℕ) → Keeps s (step s (begin now))
begins s now = let b = by_case (is_initiator s.config.role) s.facts.recorded.negotiated in record { asked = λ _ _. b.0; ends = b.1; config = refl }
  where
    none : (f : Facts) → f.connection.receiver ≡ receiver_is.fresh s.facts.recorded.inbox_next → gap_to_ask (around (step s (begin now)) 0 0) f ≡ None
    none f e = asks_unheld (around (step s (begin now)) 0 0) f refl (ap (λ (r : Receiving). receiver_is.gap None r) e ∙ no_gap s.facts.recorded.inbox_next s.facts.recorded.inbox_next refl)

    by_case : (i n : Bool)
        → (gap_to_ask (around (step s (begin now)) 0 0) (begun_as (around s 0 now) s.facts.recorded i n).next ≡ None)
        × (Ends s.config.peer_flow s.facts → Ends s.config.peer_flow (begun_as (around s 0 now) s.facts.recorded i n).next)
    by_case true true = (none (connecting s.facts.recorded phases.Establishing) refl, λ e. record { reached = e.reached; recorded = λ t. absurd (true≢false (sym t)) })
    by_case true false = (none (connecting s.facts.recorded phases.Negotiating) refl, λ e. record { reached = e.reached; recorded = λ t. absurd (true≢false (sym t)) })
    by_case false n = (none (connecting s.facts.recorded phases.Idle) refl, λ e. record { reached = e.reached; recorded = λ t. absurd (true≢false (sym t)) })

-- the gap to ask for, by what decides it
abbrev gap_by : EndConfig → Option ℕ → Facts → Option Range
gap_by c h f = if f.connection.soft || is_some (outstanding f.connection.requester) then None else if is_recoverable c.peer_flow then receiver_is.gap h f.connection.receiver else None

same_gap : (c d : EndConfig) (h k : Option ℕ) (f g : Facts) → c ≡ d → h ≡ k → f ≡ g → gap_by c h f ≡ gap_by d k g
same_gap c d h k f g a b e = ap (λ (u : EndConfig). gap_by u h f) a ∙ (ap (λ (u : Option ℕ). gap_by d u f) b ∙ ap (λ (u : Facts). gap_by d k u) e)

same_parts : (c : EndConfig) (h : Option ℕ) (f g : Facts) → g.connection.receiver ≡ f.connection.receiver → g.connection.requester ≡ f.connection.requester → g.connection.soft ≡ f.connection.soft → gap_by c h g ≡ gap_by c h f
same_parts c h f g r q s =
    ap (λ (k : Receiving). if g.connection.soft || is_some (outstanding g.connection.requester) then None else if is_recoverable c.peer_flow then receiver_is.gap h k else None) r
    ∙ (ap (λ (k : Request). if g.connection.soft || is_some (outstanding k) then None else if is_recoverable c.peer_flow then receiver_is.gap h f.connection.receiver else None) q
    ∙ ap (λ (b : Bool). if b || is_some (outstanding f.connection.requester) then None else if is_recoverable c.peer_flow then receiver_is.gap h f.connection.receiver else None) s)

-- where messages come again none is to be asked for
coming_gap : (c : EndConfig) (h : Option ℕ) (f : Facts) → is_coming f.connection.requester ≡ true → gap_by c h f ≡ None
coming_gap c h f coming = by_tests f.connection.soft f.connection.requester coming
  where
    by_tests : (b : Bool) (q : Request) → is_coming q ≡ true → (if b || is_some (outstanding q) then None else if is_recoverable c.peer_flow then receiver_is.gap h f.connection.receiver else None) ≡ None
    by_tests true q e = refl
    by_tests false requests.Nothing e = absurd (true≢false (sym e))
    by_tests false (requests.Asked range) e = absurd (true≢false (sym e))
    by_tests false (requests.Coming range next left) e = refl

-- the least of what is held with one message more
least_holding : (n : ℕ) (payload : List ℕ) (ms : List Numbered) → least (holding n payload ms) ≡ Some (min n (unwrap_or (least ms) n))
least_holding n payload [] = ap Some (omega arith)
least_holding n payload (m ∷ ms) = by_tests (m.number == n) refl (nat_lt n m.number) refl
  where
    by_tests : (same : Bool) → (m.number == n) ≡ same → (below : Bool) → nat_lt n m.number ≡ below
        → least (if same then m ∷ ms else if below then record { number = n; payload = payload } ∷ m ∷ ms else m ∷ holding n payload ms) ≡ Some (min n m.number)
    by_tests true e below t = let k = eqb-true m.number n e in ap Some (omega (arith, k))
    by_tests false e true t = let k = ltb-true n m.number t in ap Some (omega (arith, k))
    by_tests false e false t = let k = ltb-false n m.number t in ap Some (omega (arith, k))

-- a message is read
reads_on : (s : State) (p : Piece) (at now : ℕ) → s.ending ≡ None → (is_closing s.facts.connection.phase ≡ false → Waits (around s at now) s.facts) → Keeps s (run s (reading p at now))
reads_on s p at now going waits = record {
  asked = λ before none. gap_behind (sym rd.ending ∙ none) ∙ k.asked (before going) (sym rd.ending ∙ none);
  ends = λ e. subst (λ (c : EndConfig). Ends c.peer_flow (run s (reading p at now)).facts) (sym rd.config) (subst (λ (f : Facts). Ends s.config.peer_flow f) (sym rd.facts) (replied e));
  config = rd.config;
}
  where
    x : Around
    x = around s at now

    o : Outcome
    o = reply_of x s.facts (incoming_of p)

    k : Settles x s.facts o
    k = settles x s.facts (incoming_of p)

    rd : Reads s (incoming_of p) o (run s (reading p at now)) (written s (reading p at now))
    rd = reads_as s p at now

    t : State
    t = run s (reading p at now)

    -- what is held then
    held_least : o.ending ≡ None → least t.held ≡ (holding_so x o.holds).held
    held_least none = ap (λ (ms : List Numbered). least ms) (rd.held ∙ ap (λ (e : Option Ending). held_until e (held_with o.holds (payload_in (incoming_of p)) s.held)) none) ∙ by_number o.holds
      where
        by_number : (n : Option ℕ) → least (held_with n (payload_in (incoming_of p)) s.held) ≡ (holding_so x n).held
        by_number None = refl
        by_number (Some n) = least_holding n (payload_in (incoming_of p)) s.held

    gap_behind : o.ending ≡ None → gap_in t ≡ gap_to_ask (holding_so x o.holds) o.next
    gap_behind none = same_gap t.config s.config (least t.held) (holding_so x o.holds).held t.facts o.next rd.config (held_least none) rd.facts ∙ by_number o.holds
      where
        by_number : (n : Option ℕ) → gap_by s.config (holding_so x n).held o.next ≡ gap_to_ask (holding_so x n) o.next
        by_number None = refl
        by_number (Some n) = refl

    replied : Ends s.config.peer_flow s.facts → Ends s.config.peer_flow o.next
    replied e = by_bool (Ends s.config.peer_flow o.next) (is_closing s.facts.connection.phase)
        (λ closing. subst (λ (f : Facts). Ends s.config.peer_flow f) (sym (closing_is_deaf x s.facts (incoming_of p) closing).next) e)
        (λ yet. k.ends (waits yet) e)

-- any other call takes no inbox back, and leaves no gap to be asked for
inbox_rises : (s t : State) → Passes s t → s.facts.recorded.inbox_next ≤ t.facts.recorded.inbox_next
inbox_rises s t (inl k) = let same = k.inbox in omega (arith, same)
inbox_rises s t (inr d) = let at = d.front.number in let is = ap (λ (f : Facts). f.recorded.inbox_next) d.facts in omega (arith, at, is)

asked_behind : {h : List Entry} {out : List Piece} (s t : State) → Serves h s t out → t.config ≡ s.config → Window s → LiesSo s → (IsSome t.ending → ⊥) → gap_in s ≡ None → t.ending ≡ None → gap_in t ≡ None
asked_behind s t k config window lies going before none = by_reader k.reader
  where
    by_reader : Passes s t → gap_in t ≡ None
    by_reader (inl still) = by_held still.held
      where
        by_held : Remains s t → gap_in t ≡ None
        by_held (inl same) = same_gap t.config s.config (least t.held) (least s.held) t.facts t.facts config (ap (λ (ms : List Numbered). least ms) same) refl
            ∙ (same_parts s.config (least s.held) s.facts t.facts still.receiver k.requester k.soft ∙ before)
        by_held (inr gone) = absurd (going gone.1)
    by_reader (inr d) = coming_gap t.config (least t.held) t.facts (ap (λ (q : Request). is_coming q) k.requester
        ∙ (lies d.going yet).coming (ap (λ (m : Option Numbered). is_some m) d.front.front_is))
      where
        yet : is_closing s.facts.connection.phase ≡ false
        yet = by_bool _ (is_closing s.facts.connection.phase) (λ e. absurd (cc (d.front.front_is, window.closing e))) (λ e. e)

-- and any other call
calls_on : (h : List Entry) (s : State) (call : Call) → IsOther h call → MayStand h s call → (is_recoverable s.config.own_flow ≡ false → s.facts.connection.serving ≡ None) → Window s → LiesSo s → Keeps s (run s (call ∷ []))
calls_on h s call other may serves window lies =
    let t = run s (call ∷ []) in
    let d = does_as h s call other may serves window.opening in
    let k = serves_as h s call other may in
    let tells = tells_as h s call other may in
    let numbered = is_sequenced s.config.peer_flow in
    record {
      asked = λ before none. asked_behind s t k d.config window lies (λ some. absurd (cc (none, some))) (before (was_none s.ending t.ending d.over none)) none;
      ends = λ e. subst (λ (c : EndConfig). Ends c.peer_flow t.facts) (sym d.config)
          (subst (λ (l : Option ℕ). Ended numbered l t.facts.recorded.inbox_next t.facts.connection.peer_finish) (sym tells.recorded)
          (rise numbered s.facts.recorded.peer_last s.facts.recorded.inbox_next t.facts.recorded.inbox_next t.facts.connection.peer_finish (inbox_rises s t k.reader)
          (subst (λ (q : PeerFinish). Ended numbered s.facts.recorded.peer_last s.facts.recorded.inbox_next q) (sym tells.theirs) e)));
      config = d.config;
    }

-- a machine that is fresh has exchanged no finish
pub first_ends : (s : State) → s ≡ fresh s.config s.facts.recorded s.most → (is_sequenced s.config.peer_flow ≡ true → IfSome s.facts.recorded.peer_last (λ n. n + 1 ≤ s.facts.recorded.inbox_next)) → Ends s.config.peer_flow s.facts
first_ends s new last = record {
  reached = last;
  recorded = λ t. absurd (true≢false (sym t ∙ ap (λ (k : State). peer_is_exchanged k.facts.connection.peer_finish) new));
}

pub past_last : (inbox : ℕ) (o : Option ℕ) → IfSome o (λ n. inbox ≡ n + 1) → IfSome o (λ n. n + 1 ≤ inbox)
past_last inbox None h = tt
past_last inbox (Some n) h = omega (arith, h)

-- both ends
pub record BothKeep (v w : World) : Type 0 where
  pub initiator : Keeps v.initiator w.initiator
  pub acceptor : Keeps v.acceptor w.acceptor

waits_of : (h : List Entry) (writer reader : State) (way back : List Piece) (at now : ℕ) → Follows h writer reader way back → LiesSo reader → IsDrained reader → reader.ending ≡ None → is_closing reader.facts.connection.phase ≡ false
    → Waits (around reader at now) reader.facts
waits_of h writer reader way back at now f lies drained going yet rec =
    (((f.expects going yet).line rec).waits, least_above reader.facts.recorded.inbox_next reader.held (lies going yet).reach drained)

initiator_reading : (hi ha : List Entry) (w : World) (way : List Piece) (at now : ℕ) → Follows ha w.acceptor w.initiator w.homeward w.outward → LiesSo w.initiator → MayRead w.initiator → BothKeep w (initiator_read w way at now)
initiator_reading hi ha w [] at now f lies may = record { initiator = keeps_still w.initiator; acceptor = keeps_still w.acceptor }
initiator_reading hi ha w (p ∷ left) at now f lies may =
    record { initiator = reads_on w.initiator p at now may.0.going (waits_of ha w.acceptor w.initiator w.homeward w.outward at now f lies may.1 may.0.going); acceptor = keeps_still w.acceptor }

acceptor_reading : (hi ha : List Entry) (w : World) (way : List Piece) (at now : ℕ) → Follows hi w.initiator w.acceptor w.outward w.homeward → LiesSo w.acceptor → MayRead w.acceptor → BothKeep w (acceptor_read w way at now)
acceptor_reading hi ha w [] at now f lies may = record { initiator = keeps_still w.initiator; acceptor = keeps_still w.acceptor }
acceptor_reading hi ha w (p ∷ left) at now f lies may =
    record { initiator = keeps_still w.initiator; acceptor = reads_on w.acceptor p at now may.0.going (waits_of hi w.initiator w.acceptor w.outward w.homeward at now f lies may.1 may.0.going) }

keep_step : (hi ha : List Entry) (w : World) (s : Step) → Counted hi ha w → MayStep hi ha w s → BothKeep w (after w s)
keep_step hi ha w (meets now_i now_a) n may = record { initiator = begins w.initiator now_i; acceptor = begins w.acceptor now_a }
keep_step hi ha w (initiator_reads at now) n may = initiator_reading hi ha w w.homeward at now (numbered_of hi ha w n).homeward n.initiator_lies may
keep_step hi ha w (acceptor_reads at now) n may = acceptor_reading hi ha w w.outward at now (numbered_of hi ha w n).outward n.acceptor_lies may
keep_step hi ha w (initiator_does call) n may = record { initiator = calls_on hi w.initiator call may.0 may.1 n.holds.initiator.serves n.holds.initiator_window n.initiator_lies; acceptor = keeps_still w.acceptor }
keep_step hi ha w (acceptor_does call) n may = record { initiator = keeps_still w.initiator; acceptor = calls_on ha w.acceptor call may.0 may.1 n.holds.acceptor.serves n.holds.acceptor_window n.acceptor_lies }

-- over any steps
pub keep_after : (hi ha : List Entry) (w : World) (steps : List Step) → Counted hi ha w → AllMayStep hi ha w steps → BothKeep w (world_after w steps)
keep_after hi ha w [] n may = record { initiator = keeps_still w.initiator; acceptor = keeps_still w.acceptor }
keep_after hi ha w (s ∷ later) n may =
    let a = keep_step hi ha w s n may.0 in
    let b = keep_after hi ha (after w s) later (counted_step hi ha w s n may.0) may.1 in
    record {
      initiator = keeps_on w.initiator (after w s).initiator (world_after w (s ∷ later)).initiator a.initiator b.initiator;
      acceptor = keeps_on w.acceptor (after w s).acceptor (world_after w (s ∷ later)).acceptor a.acceptor b.acceptor;
    }
