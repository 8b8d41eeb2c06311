-- One flow between two ends: each reply and each call of either keeps its numbers.
use Rattle.honest_ends.proofs.Lying.{LiesSo}
use Rattle.honest_ends.proofs.Past.{Lies, ready_past}
use Rattle.honest_ends.proofs.Windowing.{Window}
use Rattle.honest_ends.proofs.Phased.{Unheld}
use Rattle.session_model.specs.Inbox.{Numbered, numbers_of}
use Rattle.std.proofs.Common.{◌≡◌, ℕ, ◌+◌, ◌≤◌, ◌&&◌, ◌⊎◌, inl, inr, nat_lt, nat_le, not, Bool, true, false, if◌then◌else◌, List, [], ◌∷◌, ◌++◌, length, Option, Some, None, refl, sym, ap, subst, ◌∙◌, arith, true≢false, ◌<◌}
use Rattle.std.specs.Prelude.{is_some, IsSome}
use Rattle.std.specs.List.{AllByRecursion}
use Rattle.std.proofs.lemmas.Bool.{ltb-true, ltb-false, and_parts}
use Rattle.std.proofs.lemmas.Bool.Decides.{nat_tests}
use Rattle.session_model.specs.Journal.{Entry}
use Rattle.session_model.proofs.Lists.{all_append, all_weaker}
use Rattle.fixp_msgs.specs.declared.flow.Flow.{Flow}
use Rattle.fixp_msgs.specs.declared.numbering.Range.{Range}
use Rattle.fixp_msgs.specs.declared.messages.Expected.{Expected}
use Rattle.fixp_msgs.specs.declared.messages.Expected.TheVariants as expects
use Rattle.fixp_msgs.specs.Message.{establish, establishment_ack, sequence, unsequenced_heartbeat, applied, not_applied, terminate}
use Rattle.flow_recover.specs.Receiving as receiver_is
use Rattle.flow_recover.specs.Receiving.{Receiving}
use Rattle.flow_retrans.specs.declared.request.Request.{Request}
use Rattle.flow_retrans.specs.declared.request.Request.TheVariants as requests
use Rattle.fixp_shake.specs.declared.config.EndConfig.{EndConfig}
use Rattle.fixp_shake.specs.declared.violation.Violation.{Violation}
use Rattle.fixp_shake.specs.declared.violation.Violation.TheVariants.{OtherSession}
use Rattle.fixp_shake.specs.Flows.{is_recoverable, is_idempotent, is_sequenced}
use Rattle.fixp_shake.specs.Phases.{is_closing, is_shaken}
use Rattle.fixp_replies.specs.declared.act.Act.{Act}
use Rattle.fixp_replies.specs.declared.act.Act.TheVariants as acts
use Rattle.fixp_replies.specs.declared.act.Ending.{Ending}
use Rattle.fixp_replies.specs.declared.act.Ending.TheVariants as endings
use Rattle.fixp_replies.specs.declared.facts.Facts.{Facts}
use Rattle.fixp_replies.specs.Facts.{Around, is_initiator, is_own, gap_to_ask}
use Rattle.fixp_replies.specs.Outcomes.{Outcome, goes_on, accepts, ignores, ends, breaks}
use Rattle.fixp_replies.specs.Replies.{reply_of, answer_of, terminates}
use Rattle.fixp_machine.specs.Machine.{State, past_held}
use Rattle.fixp_replies.specs.Expecting.{is_newer, takes}
use Rattle.fixp_machine.proofs.Tests.{no_gap}
use Rattle.fixp_machine.proofs.Rows.{by_row}
use Rattle.honest_ends.proofs.Returning.{no_gap_live, asked_unmoved}
use Rattle.honest_ends.proofs.Expecting.{IsTold, Softens, Marks, marks, ack_begins}
use Rattle.connection_laws.specs.Writing.{Piece, said, said_all, WritesOwn, nothing, shakes, returns, resends}
use Rattle.connection_laws.proofs.Owned.{returning}
use Rattle.connection_laws.proofs.Replied.{frame_writes}
use Rattle.two_ends.specs.Reading.{incoming_of}
use Rattle.two_ends.proofs.Refused.{closing_is_deaf}
use Rattle.fixp_machine.specs.Sound.{Matches}
use Rattle.honest_ends.specs.Numbers.{Awaited, exactly, at_most, softly, Allows, IsAt, starts, Runs, RunsBetween, Restarts, RunsOn, ServesLater, served, Answers, Idle, Peer, IsFlowing, to_come, goes_softly, HeldBelow}
use Rattle.honest_ends.proofs.Running.{lower, runs_append, runs_through, silent_end, runs_top}
use Rattle.honest_ends.proofs.Shapes.{IsFree, IsAck}
use Rattle.honest_ends.proofs.Lining.{sequenced_of}
use Rattle.honest_ends.proofs.Standing.{Untold, Quietly, Opening}
use Rattle.honest_ends.proofs.Finishing.{total}
use Rattle.honest_ends.proofs.Asking.{asks, restarts, turns, unanswered, Requested, all_none, asks_of, in_closing}
use Rattle.honest_ends.proofs.PhaseOpening.{Quiet}
use Rattle.honest_ends.proofs.Moving.{Does}
use Rattle.honest_ends.proofs.Serving.{Serves, by_bool, was_none, Passes, Drops}
use Rattle.honest_ends.specs.Numbered.{next_live, awaits, awaited, Names, ToldFirst, ToldBack, TellsNext, IsSpare, ReturnsFirst}
use Rattle.honest_ends.specs.NumberLaws.{NoNumber}
use Rattle.honest_ends.proofs.Awaiting.{awaited_before, same_awaited, same_softly, line_same, idle_same, live_is, inbox_of, Ready, ready_live, not_softly}
use Rattle.honest_ends.proofs.NumberOpening.{ending as ended, breaking}
use Rattle.honest_ends.proofs.Reading.{Heard, reads}
use Rattle.honest_ends.proofs.Requesting.{none_named, none_answered, asked_names, idle_names, Agrees, agrees_behind, answers_behind}

-- Of one flow: what its writer sent, and what its reader is ready for and asks for, as long as its connection goes on
pub record Between (h : List Entry) (writer : Facts) (c : EndConfig) (limit : ℕ) (reader : Facts) (over : Option Ending) (way back : List Piece) : Type 0 where
  pub sent : writer.recorded.sent ≤ length h
  pub most : length h ≤ limit
  pub one : is_recoverable c.peer_flow ≡ true → 1 ≤ reader.recorded.inbox_next
  pub next : reader.recorded.inbox_next ≤ writer.recorded.sent + 1
  pub told : AllByRecursion (TellsNext c reader) back
  pub goes : over ≡ None → is_closing reader.connection.phase ≡ false
      → Ready c reader way (writer.recorded.sent + 1) (served writer.connection.serving) × Agrees reader.connection.requester way back
  pub restarts : over ≡ None → is_closing reader.connection.phase ≡ false → goes_softly reader ≡ true → is_shaken writer.connection.phase ≡ true → ReturnsFirst reader.connection.receiver.next way

-- an end that closes its connection breaks no rule of numbers
abbrev Fine : Outcome → Type 0
Fine o = (v : Violation) → o.ending ≡ Some (endings.Violation v) → NoNumber v

closing_fine : (x : Around) (f : Facts) (p : Piece) → is_closing f.connection.phase ≡ true → (v : Violation) → (reply_of x f (incoming_of p)).ending ≡ Some (endings.Violation v) → NoNumber v
closing_fine x f p e = in_closing Fine x f p e (λ v k. absurd cc) (breaking x f p 2 (OtherSession 16) tt).fine (λ code. (ended x f p (terminate x.config.session 1 [] ∷ []) (endings.PeerTerminated code) (λ v k. absurd cc)).fine)

-- what a reader has told stays what its inbox awaits, where its numbers stay
tells_still : (c : EndConfig) (f g : Facts) → g.recorded.inbox_next ≡ f.recorded.inbox_next → g.connection.soft ≡ f.connection.soft → is_shaken g.connection.phase ≡ is_shaken f.connection.phase → (p : Piece) → TellsNext c f p → TellsNext c g p
tells_still c f g n s t (said (establish id timestamp keepalive next (expects.Number k) credentials)) h = (h.0 ∙ sym n, h.1, t ∙ h.2)
tells_still c f g n s t (said (establish id timestamp keepalive next expects.Absent credentials)) h = tt
tells_still c f g n s t (said (establish id timestamp keepalive next expects.Null credentials)) h = tt
tells_still c f g n s t (said (establishment_ack id timestamp keepalive next (expects.Number k))) h = (h.0 ∙ sym n, h.1, s ∙ h.2)
tells_still c f g n s t (said (establishment_ack id timestamp keepalive next expects.Absent)) h = s ∙ h
tells_still c f g n s t (said (establishment_ack id timestamp keepalive next expects.Null)) h = s ∙ h
tells_still c f g n s t _ h = tt

untold_tells : (c : EndConfig) (f : Facts) (p : Piece) → Untold p → TellsNext c f p
untold_tells c f (said (establish id timestamp keepalive next expected credentials)) u = absurd u
untold_tells c f (said (establishment_ack id timestamp keepalive next expected)) u = absurd u
untold_tells c f _ u = tt

-- a free message leaves them
record Spared (f : Facts) (o : Outcome) : Type 0 where
  inbox : o.next.recorded.inbox_next ≡ f.recorded.inbox_next
  soft : o.next.connection.soft ≡ f.connection.soft
  shaken : is_shaken o.next.connection.phase ≡ is_shaken f.connection.phase

spared_asking : (x : Around) (f : Facts) (act : Act) → Spared f (goes_on x act [] f)
spared_asking x f act = let u = asked_unmoved f (gap_to_ask x f) in record { inbox = u.inbox; soft = u.soft; shaken = ap (λ k. is_shaken k) u.phase }

spared_here : (f : Facts) (o : Outcome) → o.next ≡ f → Spared f o
spared_here f o e = record { inbox = ap (λ (k : Facts). k.recorded.inbox_next) e; soft = ap (λ (k : Facts). k.connection.soft) e; shaken = ap (λ (k : Facts). is_shaken k.connection.phase) e }

free_spares : (x : Around) (f : Facts) (theirs : EndConfig) (p : Piece) → IsFree theirs p → Spared f (reply_of x f (incoming_of p))
free_spares x f theirs p free =
    by_row (Spared f) (is_closing f.connection.phase && not (terminates x (incoming_of p))) (ignores f) (answer_of x f (incoming_of p)) (λ _. spared_here f (ignores f) refl) (λ _. by_piece p free)
  where
    by_piece : (q : Piece) → IsFree theirs q → Spared f (answer_of x f (incoming_of q))
    by_piece (said unsequenced_heartbeat) free = spared_asking x f acts.Nothing
    by_piece (said (applied first count)) free = spared_asking x f acts.Nothing
    by_piece (said (not_applied first count)) free =
        by_row (Spared f) (is_idempotent x.config.own_flow) (goes_on x (acts.Told first count) [] f) (accepts x [] f) (λ _. spared_asking x f (acts.Told first count)) (λ _. spared_asking x f acts.Nothing)
    by_piece (said (terminate id code reason)) free =
        by_row (Spared f) (not (is_own x id)) (breaks x f (OtherSession 16)) (ends x f 1 (endings.PeerTerminated code)) (λ _. spared_here f (breaks x f (OtherSession 16)) refl) (λ _. spared_here f (ends x f 1 (endings.PeerTerminated code)) refl)
    by_piece _ free = absurd free

told_behind : (x : Around) (f : Facts) (theirs : EndConfig) (p : Piece) (back : List Piece) → Quietly theirs p back → AllByRecursion (TellsNext x.config f) back → AllByRecursion (TellsNext x.config (reply_of x f (incoming_of p)).next) back
told_behind x f theirs p back (inl untold) told = all_weaker Untold (TellsNext x.config (reply_of x f (incoming_of p)).next) (untold_tells x.config (reply_of x f (incoming_of p)).next) back untold
told_behind x f theirs p back (inr free) told =
    let s = free_spares x f theirs p free in
    all_weaker (TellsNext x.config f) (TellsNext x.config (reply_of x f (incoming_of p)).next) (tells_still x.config f (reply_of x f (incoming_of p)).next s.inbox s.soft s.shaken) back told

-- a reader that goes softly behind a message went so before
sequence_starts : (flow : Flow) (n : ℕ) (p : Piece) → is_recoverable flow ≡ true → p ≡ said (sequence n) → starts flow p ≡ true
sequence_starts flow n p rec e = ap (λ (q : Piece). starts flow q) e ∙ ap (λ b. is_some (if b then Some n else None)) (sequenced_of flow rec)

rest_returns : (flow : Flow) (n : ℕ) (p : Piece) (left : List Piece) → is_recoverable flow ≡ true → starts flow p ≡ false → ReturnsFirst n (p ∷ left) → ReturnsFirst n left
rest_returns flow n p left rec silent (inl e) = absurd (true≢false (sym (sequence_starts flow n p rec e) ∙ silent))
rest_returns flow n p left rec silent (inr h) = h.1

soft_of : (f : Facts) → goes_softly f ≡ true → f.connection.soft ≡ true
soft_of f e = (and_parts f.connection.soft (nat_lt f.connection.receiver.next f.connection.receiver.live) e).0

-- only a reader of a recoverable flow is soft
soft_recovers : (c : EndConfig) (f : Facts) (way : List Piece) (k : ℕ) (m : Option ℕ) → Ready c f way k m → f.connection.soft ≡ true → is_recoverable c.peer_flow ≡ true
soft_recovers c f way k m r soft = by_flow (is_recoverable c.peer_flow) refl
  where
    by_flow : (b : Bool) → is_recoverable c.peer_flow ≡ b → is_recoverable c.peer_flow ≡ true
    by_flow true e = e
    by_flow false e = absurd (true≢false (sym soft ∙ (r.idle e).firm))

-- the reader replies to the first message under way
pub reader_replies : (h : List Entry) (writer : Facts) (x : Around) (reader : Facts) (theirs : EndConfig) (p : Piece) (left back : List Piece) → ServesLater x.config reader → Peer x.config theirs
    → (is_shaken reader.connection.phase ≡ true → IsFlowing theirs p) → Quietly theirs p back → (is_shaken reader.connection.phase ≡ false → (is_shaken writer.connection.phase ≡ false) ⊎ (is_initiator x.config.role ≡ true))
    → total asks back + total restarts (p ∷ left) ≤ unanswered reader → (is_closing reader.connection.phase ≡ false → HeldBelow x reader) → Unheld x reader
    → Between h writer x.config x.most reader None (p ∷ left) back
    → Between h writer x.config x.most (reply_of x reader (incoming_of p)).next (reply_of x reader (incoming_of p)).ending left (back ++ said_all (reply_of x reader (incoming_of p)).written)
    × ((v : Violation) → (reply_of x reader (incoming_of p)).ending ≡ Some (endings.Violation v) → NoNumber v)
reader_replies h writer x reader theirs p left back later are flows quietly first once below unheld b = by_bool _ (is_closing reader.connection.phase) closing going
  where
    o : Outcome
    o = reply_of x reader (incoming_of p)

    k : ℕ
    k = writer.recorded.sent + 1

    m : Option ℕ
    m = served writer.connection.serving

    mark : Marks x reader p o
    mark = marks x reader p

    told : AllByRecursion (TellsNext x.config o.next) (back ++ said_all o.written)
    told = all_append (TellsNext x.config o.next) back (said_all o.written) (told_behind x reader theirs p back quietly b.told) mark.tells

    closing : is_closing reader.connection.phase ≡ true → Between h writer x.config x.most o.next o.ending left (back ++ said_all o.written) × ((v : Violation) → o.ending ≡ Some (endings.Violation v) → NoNumber v)
    closing e =
        let same : o.next ≡ reader = (closing_is_deaf x reader (incoming_of p) e).next in
        let inbox = ap (λ (f : Facts). f.recorded.inbox_next) same in
        let next = b.next in
        let still = ap (λ (f : Facts). is_closing f.connection.phase) (sym same) in (
          record {
            sent = b.sent;
            most = b.most;
            one = λ rec. let one = b.one rec in omega (arith, one, inbox);
            next = omega (arith, inbox, next);
            told = told;
            goes = λ _ yet. absurd (true≢false (sym e ∙ (still ∙ yet)));
            restarts = λ _ yet. absurd (true≢false (sym e ∙ (still ∙ yet)));
          },
          closing_fine x reader p e,
        )

    going : is_closing reader.connection.phase ≡ false → Between h writer x.config x.most o.next o.ending left (back ++ said_all o.written) × ((v : Violation) → o.ending ≡ Some (endings.Violation v) → NoNumber v)
    going yet =
        let g = b.goes refl yet in
        let sent = b.sent in
        let most = b.most in
        let r : Heard x.config reader p left k m o = reads x reader theirs p left k m are yet flows (below yet) unheld g.0 g.1.answers.0 (omega (arith, sent, most)) b.next in
        let c = asks_of x reader p later in
        let a = agrees_behind x reader p left back o (turns p) once c g.1 in (
          record {
            sent = b.sent;
            most = b.most;
            one = λ rec. r.one rec (b.one rec);
            next = r.top;
            told = told;
            goes = λ none _. (r.goes none, agrees none r c.names a);
            restarts = λ none _ soft done. by_bool (ReturnsFirst o.next.connection.receiver.next left) (is_shaken reader.connection.phase)
                (λ shaken. let w = r.softly shaken none soft in let rec = soft_recovers x.config o.next left k m (r.goes none) (soft_of o.next soft) in
                subst (λ (n : ℕ). ReturnsFirst n left) (sym w.next) (rest_returns x.config.peer_flow reader.connection.receiver.next p left rec w.silent (b.restarts refl yet w.soft done)))
                (λ before. absurd (begins before g.0 (mark.soft (soft_of o.next soft)) (first before) done));
          },
          r.fine,
        )
      where
        begins : is_shaken reader.connection.phase ≡ false → Ready x.config reader (p ∷ left) k m → (reader.connection.soft ≡ true) ⊎ Softens x reader p → (is_shaken writer.connection.phase ≡ false) ⊎ (is_initiator x.config.role ≡ true)
            → is_shaken writer.connection.phase ≡ true → ⊥
        begins before ready (inl soft) side done = true≢false (sym soft ∙ (ready.opening before).firm)
        begins before ready (inr s) (inl waits) done = true≢false (sym done ∙ waits)
        begins before ready (inr s) (inr initiates) done = true≢false (sym initiates ∙ s.1)

        agrees : o.ending ≡ None → Heard x.config reader p left k m o → AllByRecursion (Requested o.next) (said_all o.written) → Agrees o.next.connection.requester left back
            → Agrees o.next.connection.requester left (back ++ said_all o.written)
        agrees none r names a = record { asks = all_append (Names o.next.connection.requester) back (said_all o.written) a.asks (by_flow (is_recoverable x.config.peer_flow) refl); answers = a.answers }
          where
            by_flow : (t : Bool) → is_recoverable x.config.peer_flow ≡ t → AllByRecursion (Names o.next.connection.requester) (said_all o.written)
            by_flow true rec =
                let one = r.one rec (b.one rec) in
                let waits = ((r.goes none).line rec).waits in
                all_weaker (Requested o.next) (Names o.next.connection.requester) (asked_names o.next (omega (arith, one, waits))) (said_all o.written) names
            by_flow false other = all_weaker (Requested o.next) (Names o.next.connection.requester) (idle_names o.next ((r.goes none).idle other)) (said_all o.written) names

-- a reply sends nothing live
sent_most : (x : Around) (f : Facts) (p : Piece) → (reply_of x f (incoming_of p)).next.recorded.sent ≤ f.recorded.sent
sent_most x f p = by_case (frame_writes x f (incoming_of p))
  where
    by_case : WritesOwn x f (reply_of x f (incoming_of p)) → (reply_of x f (incoming_of p)).next.recorded.sent ≤ f.recorded.sent
    by_case (nothing n s) = let same = s.sent in omega (arith, same)
    by_case (shakes s) = s.sent.most
    by_case (returns r) = let less = r.sent in omega (arith, less)
    by_case (resends r) = let same = r.sent in omega (arith, same)

-- a number that is told is what its reader awaits, at an end of version 1
pub told_inbox : (c : EndConfig) (f : Facts) (p : Piece) (n : ℕ) → TellsNext c f p → IsTold p n → n ≡ f.recorded.inbox_next
told_inbox c f (said (establish id timestamp keepalive next expected credentials)) n h e = (subst (λ (k : Expected). ToldFirst c f k) e h).0
told_inbox c f (said (establishment_ack id timestamp keepalive next expected)) n h e = (subst (λ (k : Expected). ToldBack c f k) e h).0
told_inbox c f _ n h e = absurd e

pub told_newer : (c : EndConfig) (f : Facts) (p : Piece) (n : ℕ) → TellsNext c f p → IsTold p n → is_newer c ≡ true
told_newer c f (said (establish id timestamp keepalive next expected credentials)) n h e = (subst (λ (k : Expected). ToldFirst c f k) e h).1
told_newer c f (said (establishment_ack id timestamp keepalive next expected)) n h e = (subst (λ (k : Expected). ToldBack c f k) e h).1
told_newer c f _ n h e = absurd e

allows_at : (a : Awaited) (n : ℕ) → IsAt a n → Allows a n
allows_at (exactly b) n h = h
allows_at (at_most b) n h = h
allows_at (softly low live) n h = h.0

-- and one that it may await
idle_allows : (c : EndConfig) (f : Facts) (way : List Piece) (k : ℕ) (m : Option ℕ) → Ready c f way k m → is_shaken f.connection.phase ≡ false → Allows (awaited c f) f.recorded.inbox_next
idle_allows c f way k m r before =
    subst (λ (a : Awaited). Allows a f.recorded.inbox_next) (sym (awaited_before c f (r.opening before).firm before)) (by_flow (is_recoverable c.peer_flow) refl)
  where
    by_flow : (b : Bool) → is_recoverable c.peer_flow ≡ b → next_live c f ≤ f.recorded.inbox_next
    by_flow true rec = let live = live_is c f rec in let low = no_gap_live f.connection.receiver (r.opening before).even in let waits = (r.line rec).waits in omega (arith, live, low, waits)
    by_flow false other = let live = inbox_of c f other in omega (arith, live)

soft_allows : (c : EndConfig) (f : Facts) (way : List Piece) (k : ℕ) (m : Option ℕ) → Ready c f way k m → f.connection.soft ≡ true → Allows (awaited c f) f.recorded.inbox_next
soft_allows c f way k m r soft = by_test (goes_softly f) refl
  where
    rec : is_recoverable c.peer_flow ≡ true
    rec = soft_recovers c f way k m r soft

    by_bool_of : (b : Bool) (n : ℕ) → n ≡ f.recorded.inbox_next → Allows (awaits b n) f.recorded.inbox_next
    by_bool_of true n e = e
    by_bool_of false n e = omega (arith, e)

    by_test : (t : Bool) → goes_softly f ≡ t
        → Allows (if t then softly f.connection.receiver.next f.connection.receiver.live else awaits (is_sequenced c.peer_flow && is_shaken f.connection.phase) (next_live c f)) f.recorded.inbox_next
    by_test true e = let waits = (r.line rec).waits in omega (arith, waits)
    by_test false e =
        let waits = (r.line rec).waits in
        let low = (r.line rec).low in
        let high = ltb-false f.connection.receiver.next f.connection.receiver.live (sym (ap (λ b. b && nat_lt f.connection.receiver.next f.connection.receiver.live) soft) ∙ e) in
        let live = live_is c f rec in
        by_bool_of (is_sequenced c.peer_flow && is_shaken f.connection.phase) (next_live c f) (omega (arith, waits, low, high, live))

told_allowed : (c : EndConfig) (f : Facts) (way : List Piece) (k : ℕ) (m : Option ℕ) (p : Piece) (n : ℕ) → Ready c f way k m → TellsNext c f p → IsTold p n → Allows (awaited c f) n
told_allowed c f way k m (said (establish id timestamp keepalive next expected credentials)) n r h e =
    let t : ToldFirst c f (expects.Number n) = subst (λ (q : Expected). ToldFirst c f q) e h in subst (λ (i : ℕ). Allows (awaited c f) i) (sym t.0) (idle_allows c f way k m r t.2)
told_allowed c f way k m (said (establishment_ack id timestamp keepalive next expected)) n r h e =
    let t : ToldBack c f (expects.Number n) = subst (λ (q : Expected). ToldBack c f q) e h in subst (λ (i : ℕ). Allows (awaited c f) i) (sym t.0) (soft_allows c f way k m r t.2)
told_allowed c f way k m _ n r h e = absurd e

-- a free message starts no flow
free_silent : (cfg : EndConfig) (flow : Flow) (p : Piece) → IsFree cfg p → starts flow p ≡ false
free_silent cfg flow (said unsequenced_heartbeat) f = refl
free_silent cfg flow (said (applied first count)) f = refl
free_silent cfg flow (said (not_applied first count)) f = refl
free_silent cfg flow (said (terminate id code reason)) f = refl
free_silent cfg flow _ f = absurd f

free_spare : (cfg : EndConfig) (p : Piece) → IsFree cfg p → IsSpare p
free_spare cfg (said unsequenced_heartbeat) f = tt
free_spare cfg (said (applied first count)) f = tt
free_spare cfg (said (not_applied first count)) f = tt
free_spare cfg (said (terminate id code reason)) f = tt
free_spare cfg _ f = absurd f

returns_more : (n : ℕ) (ps qs : List Piece) → ReturnsFirst n ps → ReturnsFirst n (ps ++ qs)
returns_more n [] qs h = absurd h
returns_more n (p ∷ ps) qs (inl e) = inl e
returns_more n (p ∷ ps) qs (inr h) = inr (h.0, returns_more n ps qs h.1)

returns_later : (cfg : EndConfig) (n : ℕ) (ps qs : List Piece) → AllByRecursion (IsFree cfg) ps → ReturnsFirst n qs → ReturnsFirst n (ps ++ qs)
returns_later cfg n [] qs free h = h
returns_later cfg n (p ∷ ps) qs free h = inr (free_spare cfg p free.0, returns_later cfg n ps qs free.1 h)

-- what the writer writes then is under way too
ready_more : (c : EndConfig) (reader : Facts) (flow : Flow) (f g : Facts) (way out : List Piece) → c.peer_flow ≡ flow → RunsBetween flow f out g
    → Ready c reader way (f.recorded.sent + 1) (served f.connection.serving) → Ready c reader (way ++ out) (g.recorded.sent + 1) (served g.connection.serving)
ready_more c reader flow f g way out same runs r = record {
  runs = runs_append c.peer_flow (awaited c reader) (to_come reader.connection.requester) way out (f.recorded.sent + 1) (served f.connection.serving) (g.recorded.sent + 1) (served g.connection.serving) r.runs
      (subst (λ (k : Flow). RunsBetween k f out g) (sym same) runs);
  line = r.line;
  idle = r.idle;
  opening = r.opening;
}

-- so it is where the writer starts anew, and nothing of its flow is under way
ready_anew : (c : EndConfig) (reader : Facts) (cfg : EndConfig) (f g : Facts) (way out : List Piece) → c.peer_flow ≡ cfg.own_flow → Restarts cfg f out g → AllByRecursion (λ p. starts c.peer_flow p ≡ false) way
    → Allows (awaited c reader) (g.recorded.sent + 1) → Ready c reader way (f.recorded.sent + 1) (served f.connection.serving) → Ready c reader (way ++ out) (g.recorded.sent + 1) (served g.connection.serving)
ready_anew c reader cfg f g way out same anew silent ok r = record {
  runs = runs_through c.peer_flow (awaited c reader) (to_come reader.connection.requester) way out (f.recorded.sent + 1) (served f.connection.serving) (g.recorded.sent + 1) (served g.connection.serving) silent r.runs
      (subst (λ (k : Flow). Runs k (awaited c reader) (served f.connection.serving) out (g.recorded.sent + 1) (served g.connection.serving)) (sym same) (anew.runs (awaited c reader) ok));
  line = r.line;
  idle = r.idle;
  opening = r.opening;
}

-- a range that is asked for was sent
asked_sent : (c : EndConfig) (reader : Facts) (way : List Piece) (k : ℕ) (m : Option ℕ) (r : Range) → Ready c reader way k m → reader.connection.requester ≡ requests.Asked r → (is_recoverable c.peer_flow ≡ true) × (r.from + r.count ≤ k)
asked_sent c reader way k m r ready e = by_flow (is_recoverable c.peer_flow) refl
  where
    by_flow : (t : Bool) → is_recoverable c.peer_flow ≡ t → (t ≡ true) × (r.from + r.count ≤ k)
    by_flow true rec =
        let line = ready.line rec in
        let matches : Matches reader.connection.receiver (requests.Asked r) = subst (λ (q : Request). Matches reader.connection.receiver q) e line.matches in
        let below = matches.1 in
        let same = live_is c reader rec in
        let firm : goes_softly reader ≡ false = by_bool (goes_softly reader ≡ false) (goes_softly reader) (λ soft. absurd (cc (line.unasked (soft_of reader soft), e))) (λ n. n) in
        let top = ready_live c reader way k m firm ready in
        (refl, omega (arith, below, same, top))
    by_flow false other = absurd (cc ((ready.idle other).none, e))

taking_all : (a b c d : Bool) → a ≡ true → b ≡ true → c ≡ true → d ≡ true → (a && b && c && d) ≡ true
taking_all true true true true e f g h = refl
taking_all false b c d e f g h = absurd (true≢false (sym e))
taking_all true false c d e f g h = absurd (true≢false (sym f))
taking_all true true false d e f g h = absurd (true≢false (sym g))
taking_all true true true false e f g h = absurd (true≢false (sym h))

is_no_more : (a b : ℕ) → a ≤ b → nat_le a b ≡ true
is_no_more a b h = grind (arith, nat_tests)

pub awaited_softly : (c : EndConfig) (f : Facts) → goes_softly f ≡ true → awaited c f ≡ softly f.connection.receiver.next f.connection.receiver.live
awaited_softly c f e = ap (λ b. if b then softly f.connection.receiver.next f.connection.receiver.live else awaits (is_sequenced c.peer_flow && is_shaken f.connection.phase) (next_live c f)) e

-- the writer replies to a message that came back
pub writer_replies : (h : List Entry) (x : Around) (writer : Facts) (theirs c : EndConfig) (limit : ℕ) (reader : Facts) (over : Option Ending) (p : Piece) (way left : List Piece) → ServesLater x.config writer → Peer x.config theirs
    → (is_shaken writer.connection.phase ≡ true → IsFlowing theirs p)
    → (is_shaken writer.connection.phase ≡ false → is_shaken (reply_of x writer (incoming_of p)).next.connection.phase ≡ true → Opening x.config theirs reader p way)
    → c.peer_flow ≡ x.config.own_flow → Between h writer c limit reader over way (p ∷ left)
    → Between h (reply_of x writer (incoming_of p)).next c limit reader over (way ++ said_all (reply_of x writer (incoming_of p)).written) left
writer_replies h x writer theirs c limit reader over p way left later are flows opening same b =
    let sent = b.sent in
    let least = sent_most x writer p in
    record {
      sent = omega (arith, least, sent);
      most = b.most;
      one = b.one;
      next = next_so (marks x writer p).back;
      told = b.told.1;
      goes = λ none yet. more (b.goes none yet);
      restarts = λ none yet soft done. by_bool (ReturnsFirst reader.connection.receiver.next (way ++ said_all o.written)) (is_shaken writer.connection.phase)
          (λ shaken. returns_more reader.connection.receiver.next way (said_all o.written) (b.restarts none yet soft shaken))
          (λ before. starts_anew (b.goes none yet).0 soft before done (opening before done));
    }
  where
    o : Outcome
    o = reply_of x writer (incoming_of p)

    n : ℕ
    n = reader.connection.receiver.next

    next_so : (o.next.recorded.sent ≡ writer.recorded.sent) ⊎ IsTold p (o.next.recorded.sent + 1) → reader.recorded.inbox_next ≤ o.next.recorded.sent + 1
    next_so (inl e) = let next = b.next in omega (arith, e, next)
    next_so (inr t) = let is = told_inbox c reader p (o.next.recorded.sent + 1) b.told.0 t in omega (arith, is)

    allowed : Ready c reader way (writer.recorded.sent + 1) (served writer.connection.serving) → AllByRecursion (λ q. starts c.peer_flow q ≡ false) way → (o.next.recorded.sent ≡ writer.recorded.sent) ⊎ IsTold p (o.next.recorded.sent + 1)
        → Allows (awaited c reader) (o.next.recorded.sent + 1)
    allowed r silent (inl e) = subst (λ (k : ℕ). Allows (awaited c reader) (k + 1)) (sym e)
        (allows_at (awaited c reader) (writer.recorded.sent + 1) (silent_end c.peer_flow (awaited c reader) (to_come reader.connection.requester) way (writer.recorded.sent + 1) (served writer.connection.serving) silent r.runs))
    allowed r silent (inr t) = told_allowed c reader way (writer.recorded.sent + 1) (served writer.connection.serving) p (o.next.recorded.sent + 1) r b.told.0 t

    silent_way : AllByRecursion (IsFree x.config) way → AllByRecursion (λ q. starts c.peer_flow q ≡ false) way
    silent_way free = all_weaker (IsFree x.config) (λ q. starts c.peer_flow q ≡ false) (free_silent x.config c.peer_flow) way free

    ready_on : Ready c reader way (writer.recorded.sent + 1) (served writer.connection.serving) → RunsOn x.config writer (said_all o.written) o.next → Ready c reader (way ++ said_all o.written) (o.next.recorded.sent + 1) (served o.next.connection.serving)
    ready_on r (inl runs) = ready_more c reader x.config.own_flow writer o.next way (said_all o.written) same runs r
    ready_on r (inr anew) =
        let t = returning x writer o.next anew.may in
        let silent = silent_way (opening t.before t.done).0 in
        ready_anew c reader x.config writer o.next way (said_all o.written) same anew silent (allowed r silent (marks x writer p).back) r

    more : Ready c reader way (writer.recorded.sent + 1) (served writer.connection.serving) × Agrees reader.connection.requester way (p ∷ left)
        → Ready c reader (way ++ said_all o.written) (o.next.recorded.sent + 1) (served o.next.connection.serving) × Agrees reader.connection.requester (way ++ said_all o.written) left
    more g =
        let k = asks_of x writer p later in (
          ready_on g.0 k.runs,
          record {
            asks = g.1.asks.1;
            answers = all_append (Answers reader.connection.requester) way (said_all o.written) g.1.answers
                (answers_behind x writer theirs reader.connection.requester p (turns p) are flows
                (λ r e. let a = asked_sent c reader way (writer.recorded.sent + 1) (served writer.connection.serving) r g.0 e in (ap (λ k. is_recoverable k) (sym same) ∙ a.0, a.1)) k g.1.asks.0);
          },
        )

    -- an acknowledgement is read of a reader that goes softly: it has told the number from which the writer starts
    starts_anew : Ready c reader way (writer.recorded.sent + 1) (served writer.connection.serving) → goes_softly reader ≡ true → is_shaken writer.connection.phase ≡ false → is_shaken o.next.connection.phase ≡ true
        → Opening x.config theirs reader p way → ReturnsFirst n (way ++ said_all o.written)
    starts_anew r soft before done (free, inl opens) = absurd (true≢false (sym (soft_of reader soft) ∙ (r.opening opens).firm))
    starts_anew r soft before done (free, inr acked) = by_piece p refl acked.0 b.told.0
      where
        rec : is_recoverable c.peer_flow ≡ true
        rec = soft_recovers c reader way (writer.recorded.sent + 1) (served writer.connection.serving) r (soft_of reader soft)

        waits : n ≡ reader.recorded.inbox_next
        waits = (r.line rec).waits

        takes_it : (k : ℕ) → k ≡ reader.recorded.inbox_next → takes x writer (expects.Number k) ≡ true
        takes_it k e =
            let one = b.one rec in
            let next = b.next in
            taking_all (is_newer x.config) (is_recoverable x.config.own_flow) (nat_le 1 k) (nat_le k (writer.recorded.sent + 1)) (acked.1 (soft_of reader soft)) (ap (λ f. is_recoverable f) (sym same) ∙ rec)
            (is_no_more 1 k (omega (arith, e, one))) (is_no_more k (writer.recorded.sent + 1) (omega (arith, e, next)))

        begun : (k : ℕ) → k ≡ reader.recorded.inbox_next → ReturnsFirst k (said_all o.written) ⊎ (k ≡ writer.recorded.sent + 1) → ReturnsFirst n (way ++ said_all o.written)
        begun k e (inl h) = returns_later x.config n way (said_all o.written) free (subst (λ (i : ℕ). ReturnsFirst i (said_all o.written)) (e ∙ sym waits) h)
        begun k e (inr at) =
            let end : IsAt (softly n reader.connection.receiver.live) (writer.recorded.sent + 1) = subst (λ (a : Awaited). IsAt a (writer.recorded.sent + 1)) (awaited_softly c reader soft)
            (silent_end c.peer_flow (awaited c reader) (to_come reader.connection.requester) way (writer.recorded.sent + 1) (served writer.connection.serving) (silent_way free) r.runs) in
            let live = end.1 in
            let less = ltb-true n reader.connection.receiver.live (and_parts reader.connection.soft (nat_lt n reader.connection.receiver.live) soft).1 in
            absurd (omega (arith, live, less, waits, e, at))

        by_piece : (q : Piece) → p ≡ q → IsAck theirs q → TellsNext c reader q → ReturnsFirst n (way ++ said_all o.written)
        by_piece (said (establishment_ack id timestamp keepalive next (expects.Number k))) is ack told =
            begun k told.0 (subst (λ (v : Outcome). ReturnsFirst k (said_all v.written) ⊎ (k ≡ writer.recorded.sent + 1)) (sym (ap (λ (q : Piece). reply_of x writer (incoming_of q)) is))
            (ack_begins x writer id timestamp keepalive next k before (takes_it k told.0) (ap (λ (q : Piece). is_shaken (reply_of x writer (incoming_of q)).next.connection.phase) (sym is) ∙ done)))
        by_piece (said (establishment_ack id timestamp keepalive next expects.Absent)) is ack told = absurd (true≢false (sym (soft_of reader soft) ∙ told))
        by_piece (said (establishment_ack id timestamp keepalive next expects.Null)) is ack told = absurd (true≢false (sym (soft_of reader soft) ∙ told))
        by_piece _ is ack told = absurd ack

-- a handshake that is done stays so, and one that is not
pub same_shaken : (s t : State) (out : List Piece) → Does s t out → (is_shaken s.facts.connection.phase ≡ false → Quiet s.facts) → is_shaken t.facts.connection.phase ≡ is_shaken s.facts.connection.phase
same_shaken s t out d quiet = by_bool _ (is_shaken s.facts.connection.phase) (λ e. (d.done e).0 ∙ sym e) (λ e. ap (λ c. is_shaken c.phase) (d.before e (quiet e)).0)

-- a number that a reader has told is none of one that holds something
tells_past : (c : EndConfig) (f : Facts) (m : Numbered) → is_shaken f.connection.phase ≡ true → f.connection.soft ≡ false → (p : Piece) → TellsNext c f p → TellsNext c (past_held f m) p
tells_past c f m shaken firm (said (establish id timestamp keepalive next (expects.Number k) credentials)) h = absurd (true≢false (sym shaken ∙ h.2))
tells_past c f m shaken firm (said (establish id timestamp keepalive next expects.Absent credentials)) h = tt
tells_past c f m shaken firm (said (establish id timestamp keepalive next expects.Null credentials)) h = tt
tells_past c f m shaken firm (said (establishment_ack id timestamp keepalive next (expects.Number k))) h = absurd (true≢false (sym h.2 ∙ firm))
tells_past c f m shaken firm (said (establishment_ack id timestamp keepalive next expects.Absent)) h = h
tells_past c f m shaken firm (said (establishment_ack id timestamp keepalive next expects.Null)) h = h
tells_past c f m shaken firm _ h = tt

-- a held message that the reader's inbox awaited is applied
reader_drops : (h : List Entry) (writer : Facts) (s t : State) (way back out : List Piece) → Window s → LiesSo s → AllByRecursion Untold out → total asks out ≡ 0 → Drops s t
    → Between h writer s.config s.most s.facts s.ending way back → Between h writer s.config s.most t.facts t.ending way (back ++ out)
reader_drops h writer s t way back out window lies untold none d b =
    subst (λ (f : Facts). Between h writer s.config s.most f t.ending way (back ++ out)) (sym d.facts) (record {
      sent = b.sent;
      most = b.most;
      one = λ _. omega arith;
      next = omega (arith, low, top, live);
      told = all_append (TellsNext s.config g) back out (all_weaker (TellsNext s.config f) (TellsNext s.config g) (tells_past s.config f m shaken firm) back b.told)
          (all_weaker Untold (TellsNext s.config g) (untold_tells s.config g) out untold);
      goes = λ _ _. (
        ready_past s.config f m way k n rec shaken firm d.front.number low now.0,
        record { asks = all_append (Names f.connection.requester) back out now.1.asks (all_none (Names f.connection.requester) asks (none_named f.connection.requester) out none); answers = now.1.answers },
      );
      restarts = λ _ _ soft. absurd (true≢false (sym (soft_of g soft) ∙ firm));
    })
  where
    f : Facts
    f = s.facts

    m : Numbered
    m = d.front.first

    g : Facts
    g = past_held f m

    k : ℕ
    k = writer.recorded.sent + 1

    n : Option ℕ
    n = served writer.connection.serving

    some_held : {A : Type 0} → s.held ≡ [] → A
    some_held e = absurd (cc (d.front.held_is, e))

    yet : is_closing f.connection.phase ≡ false
    yet = by_bool _ (is_closing f.connection.phase) (λ e. absurd (cc (d.front.front_is, window.closing e))) (λ e. e)

    rec : is_recoverable s.config.peer_flow ≡ true
    rec = by_bool _ (is_recoverable s.config.peer_flow) (λ e. e) (λ e. some_held (window.other e))

    shaken : is_shaken f.connection.phase ≡ true
    shaken = by_bool _ (is_shaken f.connection.phase) (λ e. e) (λ e. some_held (window.opening e))

    held : Lies f s.held
    held = lies d.going yet

    firm : f.connection.soft ≡ false
    firm = by_bool _ f.connection.soft (λ e. some_held (held.soft e)) (λ e. e)

    now : Ready s.config f way k n × Agrees f.connection.requester way back
    now = b.goes d.going yet

    low : m.number < f.connection.receiver.live
    low = (subst (λ (ms : List Numbered). AllByRecursion (λ j. j < f.connection.receiver.live) (numbers_of ms)) d.front.held_is held.below).0

    top : next_live s.config f ≤ k
    top = ready_live s.config f way k n (not_softly f firm) now.0

    live : next_live s.config f ≡ f.connection.receiver.live
    live = live_is s.config f rec

-- the reader has another call
pub reader_calls : (h own : List Entry) (writer : Facts) (s t : State) (way back out : List Piece) → is_shaken t.facts.connection.phase ≡ is_shaken s.facts.connection.phase → (IsSome s.ending → IsSome t.ending)
    → t.config ≡ s.config → AllByRecursion Untold out → Window s → LiesSo s → Serves own s t out → Between h writer s.config s.most s.facts s.ending way back → Between h writer t.config t.most t.facts t.ending way (back ++ out)
reader_calls h own writer s t way back out shaken over config untold window lies c b =
    subst (λ (e : EndConfig). Between h writer e t.most t.facts t.ending way (back ++ out)) (sym config)
    (subst (λ (n : ℕ). Between h writer s.config n t.facts t.ending way (back ++ out)) (sym c.most) (by_reader c.reader))
  where
    by_reader : Passes s t → Between h writer s.config s.most t.facts t.ending way (back ++ out)
    by_reader (inr d) = reader_drops h writer s t way back out window lies untold c.asks_none d b
    by_reader (inl still) = let next = b.next in let inbox = still.inbox in record {
      sent = b.sent;
      most = b.most;
      one = λ rec. let one = b.one rec in omega (arith, one, inbox);
      next = omega (arith, next, inbox);
      told = all_append (TellsNext s.config t.facts) back out (all_weaker (TellsNext s.config s.facts) (TellsNext s.config t.facts) (tells_still s.config s.facts t.facts still.inbox c.soft shaken) back b.told)
          (all_weaker Untold (TellsNext s.config t.facts) (untold_tells s.config t.facts) out untold);
      goes = λ none yet. going (b.goes (was_none s.ending t.ending over none) (c.closing yet));
      restarts = λ none yet soft done. subst (λ (k : ℕ). ReturnsFirst k way) (sym (ap (λ (k : Receiving). k.next) still.receiver))
          (b.restarts (was_none s.ending t.ending over none) (c.closing yet) (sym (same_softly s.facts t.facts still.receiver c.soft) ∙ soft) done);
    }
      where
        going : Ready s.config s.facts way (writer.recorded.sent + 1) (served writer.connection.serving) × Agrees s.facts.connection.requester way back
            → Ready s.config t.facts way (writer.recorded.sent + 1) (served writer.connection.serving) × Agrees t.facts.connection.requester way (back ++ out)
        going g = (
          record {
            runs = subst (λ (a : Awaited). Runs s.config.peer_flow a (to_come t.facts.connection.requester) way (writer.recorded.sent + 1) (served writer.connection.serving)) (sym (same_awaited s.config s.facts t.facts shaken still.receiver still.inbox c.soft))
                (subst (λ (q : Request). Runs s.config.peer_flow (awaited s.config s.facts) (to_come q) way (writer.recorded.sent + 1) (served writer.connection.serving)) (sym c.requester) g.0.runs);
            line = λ rec. line_same s.facts t.facts still.receiver c.requester still.inbox c.soft (g.0.line rec);
            idle = λ other. idle_same s.facts t.facts still.receiver c.requester c.soft (g.0.idle other);
            opening = λ e. idle_same s.facts t.facts still.receiver c.requester c.soft (g.0.opening (sym shaken ∙ e));
          },
          subst (λ (q : Request). Agrees q way (back ++ out)) (sym c.requester) (record {
            asks = all_append (Names s.facts.connection.requester) back out g.1.asks (all_none (Names s.facts.connection.requester) asks (none_named s.facts.connection.requester) out c.asks_none);
            answers = g.1.answers;
          }),
        )

-- and the writer
pub writer_calls : (h : List Entry) (s t : State) (c : EndConfig) (limit : ℕ) (reader : Facts) (over : Option Ending) (way back out : List Piece) → c.peer_flow ≡ s.config.own_flow
    → is_shaken t.facts.connection.phase ≡ is_shaken s.facts.connection.phase → Serves h s t out → Between h s.facts c limit reader over way back → Between h t.facts c limit reader over (way ++ out) back
writer_calls h s t c limit reader over way back out same shaken k b =
    let next = b.next in
    let grows = runs_top s.config.own_flow (exactly (s.facts.recorded.sent + 1)) (served s.facts.connection.serving) out (t.facts.recorded.sent + 1) (served t.facts.connection.serving) k.runs in
    record {
      sent = k.sent b.sent;
      most = b.most;
      one = b.one;
      next = omega (arith, next, grows);
      told = b.told;
      goes = λ none yet. more (b.goes none yet);
      restarts = λ none yet soft done. returns_more reader.connection.receiver.next way out (b.restarts none yet soft (sym shaken ∙ done));
    }
  where
    more : Ready c reader way (s.facts.recorded.sent + 1) (served s.facts.connection.serving) × Agrees reader.connection.requester way back
        → Ready c reader (way ++ out) (t.facts.recorded.sent + 1) (served t.facts.connection.serving) × Agrees reader.connection.requester (way ++ out) back
    more g = (
      ready_more c reader s.config.own_flow s.facts t.facts way out same k.runs g.0,
      record { asks = g.1.asks; answers = all_append (Answers reader.connection.requester) way out g.1.answers (all_none (Answers reader.connection.requester) restarts (none_answered reader.connection.requester) out k.begins_none) },
    )

-- a connection begins: its reader awaits at most what its writer sent
pub ready_first : (c : EndConfig) (f : Facts) (way : List Piece) (k : ℕ) (m : Option ℕ) → f.connection.receiver ≡ receiver_is.fresh f.recorded.inbox_next → f.connection.requester ≡ requests.Nothing → f.connection.soft ≡ false
    → is_shaken f.connection.phase ≡ false → f.recorded.inbox_next ≤ k → Runs c.peer_flow (exactly k) None way k m → Ready c f way k m
ready_first c f way k m r q firm before low runs = record {
  runs = subst (λ (a : Awaited). Runs c.peer_flow a (to_come f.connection.requester) way k m) (sym (awaited_before c f firm before))
      (subst (λ (l : Option ℕ). Runs c.peer_flow (at_most (next_live c f)) l way k m) (sym (ap to_come q))
      (lower c.peer_flow (at_most (next_live c f)) (exactly k) None way k m (omega (arith, live, low)) runs));
  line = λ _. record {
    waits = ap (λ (k : Receiving). k.next) r;
    low = subst (λ (k : Receiving). k.next ≤ k.live) (sym r) (omega arith);
    matches = subst (λ (k : Receiving). Matches k f.connection.requester) (sym r) (subst (λ (k : Request). Matches (receiver_is.fresh f.recorded.inbox_next) k) (sym q) refl);
    unasked = λ _. q;
  };
  idle = λ _. idle;
  opening = λ _. idle;
}
  where
    live : next_live c f ≡ f.recorded.inbox_next
    live = by_flow (is_recoverable c.peer_flow)
      where
        by_flow : (b : Bool) → (if b then f.connection.receiver.live else f.recorded.inbox_next) ≡ f.recorded.inbox_next
        by_flow true = ap (λ (k : Receiving). k.live) r
        by_flow false = refl

    idle : Idle f
    idle = record { even = ap (λ (k : Receiving). receiver_is.gap None k) r ∙ no_gap f.recorded.inbox_next f.recorded.inbox_next refl; none = q; firm = firm }
