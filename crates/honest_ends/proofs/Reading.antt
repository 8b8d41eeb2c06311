-- A reader that expects what is under way expects the rest of it behind its first message.
use Rattle.honest_ends.proofs.Phased.{Unheld}
use Rattle.honest_ends.proofs.Windowing.{stays_shaken}
use Rattle.std.proofs.Common.{◌≡◌, ℕ, ◌+◌, ◌≤◌, ◌&&◌, ◌||◌, nat_lt, Bool, true, false, if◌then◌else◌, List, ◌∷◌, Option, Some, None, refl, sym, ap, subst, ◌∙◌, arith, true≢false}
use Rattle.std.specs.Prelude.{IsSome}
use Rattle.fixp_shake.specs.declared.config.EndConfig.{EndConfig}
use Rattle.fixp_shake.specs.declared.violation.Violation.{Violation}
use Rattle.fixp_shake.specs.Flows.{is_recoverable, is_sequenced}
use Rattle.fixp_shake.specs.Phases.{is_established, is_closing, is_shaken}
use Rattle.fixp_replies.specs.declared.act.Ending.{Ending}
use Rattle.fixp_replies.specs.declared.act.Ending.TheVariants as endings
use Rattle.fixp_replies.specs.declared.facts.Facts.{Facts}
use Rattle.fixp_replies.specs.Facts.{Around}
use Rattle.fixp_replies.specs.Outcomes.{Outcome}
use Rattle.fixp_replies.specs.Replies.{reply_of}
use Rattle.connection_laws.specs.Writing.{Piece}
use Rattle.two_ends.specs.Reading.{incoming_of}
use Rattle.honest_ends.specs.Numbers.{Awaited, exactly, at_most, softly, starts, live_after, awaited_after, left_after, Fits, Runs, Answers, Idle, Before, After, BeforeOther, AfterOther, Peer, IsFlowing, to_come, goes_softly, expecting, lowest, HeldBelow}
use Rattle.fixp_msgs.specs.declared.flow.Flow.{Flow}
use Rattle.honest_ends.proofs.Expected.{reader_expects}
use Rattle.honest_ends.proofs.Running.{Below, fits_below, lower, number_after, number_started, grows, runs_top}
use Rattle.honest_ends.specs.Numbered.{next_live, awaits, awaited}
use Rattle.honest_ends.specs.NumberLaws.{NoNumber}
use Rattle.honest_ends.proofs.Awaiting.{not_number, and_true, not_softly, awaited_before, awaited_then, awaited_expecting, after_then, Moves, lined_moves, other_moves, inbox_of, same_live, line_same, idle_same, Ready, ready_top, moved_runs}
use Rattle.honest_ends.proofs.NumberOpening.{Hears, still, done, Opens, opening_reply}

-- the reader goes softly as it did: its peer has not started
pub record WaitsOn (c : EndConfig) (p : Piece) (f g : Facts) : Type 0 where
  pub soft : goes_softly f ≡ true
  pub next : g.connection.receiver.next ≡ f.connection.receiver.next
  pub silent : starts c.peer_flow p ≡ false

waits_on : (c : EndConfig) (p : Piece) (f g : Facts) (l : Option ℕ) → expecting g ≡ awaited_after c.peer_flow p (expecting f) l → goes_softly g ≡ true → WaitsOn c p f g
waits_on c p f g l e soft = by_tests (goes_softly f) (starts c.peer_flow p) refl refl (sym (ap (λ b. if b then softly g.connection.receiver.next g.connection.receiver.live else exactly g.connection.receiver.live) soft) ∙ e)
  where
    by_tests : (t s : Bool) → goes_softly f ≡ t → starts c.peer_flow p ≡ s
        → softly g.connection.receiver.next g.connection.receiver.live ≡ awaited_after c.peer_flow p (if t then softly f.connection.receiver.next f.connection.receiver.live else exactly f.connection.receiver.live) l
        → WaitsOn c p f g
    by_tests false s before start h = absurd (cc h)
    by_tests true true before start h =
        let no : softly g.connection.receiver.next g.connection.receiver.live ≡ exactly (live_after c.peer_flow p f.connection.receiver.live l) =
        h ∙ ap (λ b. if b then exactly (live_after c.peer_flow p f.connection.receiver.live l) else softly f.connection.receiver.next f.connection.receiver.live) start in
        absurd (cc no)
    by_tests true false before start h =
        let same : softly g.connection.receiver.next g.connection.receiver.live ≡ softly f.connection.receiver.next f.connection.receiver.live =
        h ∙ ap (λ b. if b then exactly (live_after c.peer_flow p f.connection.receiver.live l) else softly f.connection.receiver.next f.connection.receiver.live) start in
        record { soft = before; next = cc same; silent = start }

-- the reply breaks no rule of numbers, and its reader is ready for the rest, where its connection goes on; its inbox awaits no more than
-- what was sent brings it to
pub record Heard (c : EndConfig) (f : Facts) (p : Piece) (left : List Piece) (k : ℕ) (m : Option ℕ) (o : Outcome) : Type 0 where
  pub fine : (v : Violation) → o.ending ≡ Some (endings.Violation v) → NoNumber v
  pub one : is_recoverable c.peer_flow ≡ true → 1 ≤ f.recorded.inbox_next → 1 ≤ o.next.recorded.inbox_next
  pub top : o.next.recorded.inbox_next ≤ k
  pub goes : o.ending ≡ None → Ready c o.next left k m
  pub softly : is_shaken f.connection.phase ≡ true → o.ending ≡ None → goes_softly o.next ≡ true → WaitsOn c p f o.next

by_ending : (P : Type 0) (e : Option Ending) → (e ≡ None → P) → (IsSome e → P) → P
by_ending P None f g = f refl
by_ending P (Some e) f g = g refl

heard_of : (c : EndConfig) (f : Facts) (p : Piece) (left : List Piece) (k : ℕ) (m : Option ℕ) (o : Outcome) → f.recorded.inbox_next ≤ k → ((v : Violation) → o.ending ≡ Some (endings.Violation v) → NoNumber v)
    → (IsSome o.ending → o.next.recorded.inbox_next ≡ f.recorded.inbox_next)
    → (o.ending ≡ None → Ready c o.next left k m × (is_recoverable c.peer_flow ≡ true → f.recorded.inbox_next ≤ o.next.recorded.inbox_next))
    → (is_shaken f.connection.phase ≡ true → o.ending ≡ None → goes_softly o.next ≡ true → WaitsOn c p f o.next) → Heard c f p left k m o
heard_of c f p left k m o top fine over next soft = record {
  fine = fine;
  one = λ rec one. by_ending (1 ≤ o.next.recorded.inbox_next) o.ending (λ e. let rises = (next e).1 rec in omega (arith, rises, one)) (λ e. let same = over e in omega (arith, same, one));
  top = by_ending (o.next.recorded.inbox_next ≤ k) o.ending (λ e. ready_top c o.next left k m (next e).0) (λ e. let same = over e in omega (arith, same, top));
  goes = λ e. (next e).0;
  softly = soft;
}

-- one that moved, once the handshake is done
ready_moved : (c : EndConfig) (f g : Facts) (p : Piece) (left : List Piece) (k : ℕ) (m : Option ℕ) → Moves c p f g → is_shaken g.connection.phase ≡ true → Ready c f (p ∷ left) k m → Ready c g left k m
ready_moved c f g p left k m v shaken r = record {
  runs = moved_runs c f g p left k m v r.runs;
  line = v.line;
  idle = v.idle;
  opening = λ n. absurd (true≢false (sym shaken ∙ n));
}

-- its first number is within the limit: of a reader that is not soft, and of one that is, where the flow starts
first_within : (flow : Flow) (p : Piece) (b : Bool) (n : ℕ) (l : Option ℕ) (left : List Piece) (k : ℕ) (m : Option ℕ) → Runs flow (awaits b n) l (p ∷ left) k m → live_after flow p n l ≤ k
first_within flow p true n l left k m r = runs_top flow (exactly (live_after flow p n l)) (left_after p l) left k m r.1
first_within flow p false n l left k m r =
    let top = runs_top flow (awaited_after flow p (at_most n) l) (left_after p l) left k m r.1 in
    let after = number_after flow p n l in
    omega (arith, top, after)

started_within : (flow : Flow) (p : Piece) (f : Facts) (l : Option ℕ) (left : List Piece) (k : ℕ) (m : Option ℕ) → Runs flow (expecting f) l (p ∷ left) k m → starts flow p ≡ true → live_after flow p f.connection.receiver.live l ≤ k
started_within flow p f l left k m r start = by_test (goes_softly f) r
  where
    by_test : (t : Bool) → Runs flow (if t then softly f.connection.receiver.next f.connection.receiver.live else exactly f.connection.receiver.live) l (p ∷ left) k m → live_after flow p f.connection.receiver.live l ≤ k
    by_test true h =
        let top = runs_top flow (awaited_after flow p (softly f.connection.receiver.next f.connection.receiver.live) l) (left_after p l) left k m h.1 in
        let after = number_started flow p f.connection.receiver.next f.connection.receiver.live l start in
        omega (arith, top, after)
    by_test false h = runs_top flow (exactly (live_after flow p f.connection.receiver.live l)) (left_after p l) left k m h.1

-- no number is announced below the lowest
lowest_below : (f : Facts) → f.connection.receiver.next ≤ f.connection.receiver.live → Below (at_most (lowest f)) (expecting f)
lowest_below f low = by_tests f.connection.soft (nat_lt f.connection.receiver.next f.connection.receiver.live)
  where
    by_tests : (s t : Bool) → Below (at_most (if s then f.connection.receiver.next else f.connection.receiver.live))
        (if s && t then softly f.connection.receiver.next f.connection.receiver.live else exactly f.connection.receiver.live)
    by_tests true true = omega (arith, low)
    by_tests true false = low
    by_tests false t = omega arith

below_it : (b : Bool) (n : ℕ) → Below (at_most n) (awaits b n)
below_it true n = omega arith
below_it false n = omega arith

-- by what is under way to it a reader of a recoverable flow expects the first message
pub expected : (x : Around) (f : Facts) (p : Piece) (left : List Piece) (k : ℕ) (m : Option ℕ) → is_shaken f.connection.phase ≡ true → is_recoverable x.config.peer_flow ≡ true → HeldBelow x f
    → Ready x.config f (p ∷ left) k m → k ≤ x.most + 1 → Before x f p
expected x f p left k m shaken rec below r high =
    let flow : Flow = x.config.peer_flow in
    let l : Option ℕ = to_come f.connection.requester in
    let runs : Runs flow (expecting f) l (p ∷ left) k m = subst (λ (a : Awaited). Runs flow a l (p ∷ left) k m) (awaited_expecting x.config f rec shaken) r.runs in
    record {
      recoverable = rec;
      line = r.line rec;
      fits = fits_below flow p (at_most (lowest f)) (expecting f) l (lowest_below f (r.line rec).low) runs.0;
      held = below;
      top = λ start. let top = started_within flow p f l left k m runs start in omega (arith, top, high);
    }

-- in Established
established_reads : (x : Around) (f : Facts) (theirs : EndConfig) (p : Piece) (left : List Piece) (k : ℕ) (m : Option ℕ) → Peer x.config theirs → is_established f.connection.phase ≡ true → is_shaken f.connection.phase ≡ true
    → IsFlowing theirs p → HeldBelow x f → Ready x.config f (p ∷ left) k m → Answers f.connection.requester p → k ≤ x.most + 1 → f.recorded.inbox_next ≤ k → Heard x.config f p left k m (reply_of x f (incoming_of p))
established_reads x f theirs p left k m are now shaken flows below r answers high top = by_flow (is_recoverable c.peer_flow) refl
  where
    c : EndConfig
    c = x.config

    o : Outcome
    o = reply_of x f (incoming_of p)

    l : Option ℕ
    l = to_come f.connection.requester

    both : (Before x f p → After x f p o) × (BeforeOther x f p → AfterOther x f p o)
    both = reader_expects x f theirs p are now flows

    shaken_then : is_shaken o.next.connection.phase ≡ true
    shaken_then = stays_shaken x f p shaken

    recovers : is_recoverable c.peer_flow ≡ true → Heard c f p left k m o
    recovers rec =
        let h : After x f p o = both.0 (expected x f p left k m shaken rec below r high) in
        heard_of c f p left k m o top (λ v e. not_number (Answers f.connection.requester p) v answers (h.fine v e)) h.over
        (λ e. let v = lined_moves x f p (Answers f.connection.requester p) o rec shaken shaken_then h e in (ready_moved c f o.next p left k m v shaken_then r, v.rises))
        (λ _ e soft. waits_on c p f o.next l (h.next e).reach soft)

    passes : is_recoverable c.peer_flow ≡ false → Heard c f p left k m o
    passes other =
        let same = inbox_of c f other in
        let idle = r.idle other in
        let none : l ≡ None = ap to_come idle.none in
        let waits : awaited c f ≡ awaits (is_sequenced c.peer_flow) (next_live c f) = awaited_then c f (not_softly f idle.firm) shaken in
        let runs : Runs c.peer_flow (awaits (is_sequenced c.peer_flow) (next_live c f)) l (p ∷ left) k m = subst (λ (a : Awaited). Runs c.peer_flow a l (p ∷ left) k m) waits r.runs in
        let fits : Fits c.peer_flow p (at_most (next_live c f)) l = fits_below c.peer_flow p (at_most (next_live c f)) (awaits (is_sequenced c.peer_flow) (next_live c f)) l (below_it (is_sequenced c.peer_flow) (next_live c f)) runs.0 in
        let within = first_within c.peer_flow p (is_sequenced c.peer_flow) (next_live c f) l left k m runs in
        let h : AfterOther x f p o = both.1 (record {
          other = other;
          idle = idle;
          fits = subst (λ (n : ℕ). Fits c.peer_flow p (at_most n) None) same (subst (λ (j : Option ℕ). Fits c.peer_flow p (at_most (next_live c f)) j) none fits);
          top = subst (λ (n : ℕ). live_after c.peer_flow p n None ≤ x.most + 1) same (subst (λ (j : Option ℕ). live_after c.peer_flow p (next_live c f) j ≤ x.most + 1) none (omega (arith, within, high)));
        }) in
        heard_of c f p left k m o top (λ v e. not_number (Answers f.connection.requester p) v answers (h.fine v e)) h.over
        (λ e. let v = other_moves x f p (Answers f.connection.requester p) o other idle answers (after waits) h e in (ready_moved c f o.next p left k m v shaken_then r, v.rises))
        (λ _ e soft. absurd (true≢false (sym soft ∙ not_softly o.next (h.next e).idle.firm)))
      where
        after : awaited c f ≡ awaits (is_sequenced c.peer_flow) (next_live c f) → awaited_after c.peer_flow p (awaited c f) l ≡ awaits (is_sequenced c.peer_flow && is_shaken o.next.connection.phase) (live_after c.peer_flow p (next_live c f) l)
        after waits = ap (λ (a : Awaited). awaited_after c.peer_flow p a l) waits ∙ (after_then c.peer_flow p (next_live c f) l
            ∙ (ap (λ b. awaits b (live_after c.peer_flow p (next_live c f) l)) (sym (and_true (is_sequenced c.peer_flow)))
            ∙ ap (λ b. awaits (is_sequenced c.peer_flow && b) (live_after c.peer_flow p (next_live c f) l)) (sym shaken_then)))

    by_flow : (b : Bool) → is_recoverable c.peer_flow ≡ b → Heard c f p left k m o
    by_flow true rec = recovers rec
    by_flow false other = passes other

-- before the handshake is done
opening_reads : (x : Around) (f : Facts) (p : Piece) (left : List Piece) (k : ℕ) (m : Option ℕ) → is_shaken f.connection.phase ≡ false → x.held ≡ None → Ready x.config f (p ∷ left) k m → k ≤ x.most + 1 → f.recorded.inbox_next ≤ k
    → Heard x.config f p left k m (reply_of x f (incoming_of p))
opening_reads x f p left k m before unheld r high top =
    heard_of c f p left k m o top h.fine h.over (λ e. by_hearing (h.next e)) (λ done _ _. absurd (true≢false (sym done ∙ before)))
  where
    c : EndConfig
    c = x.config

    o : Outcome
    o = reply_of x f (incoming_of p)

    idle : Idle f
    idle = r.opening before

    none : to_come f.connection.requester ≡ None
    none = ap to_come idle.none

    waits : awaited c f ≡ at_most (next_live c f)
    waits = awaited_before c f idle.firm before

    fits : Fits c.peer_flow p (at_most (next_live c f)) None
    fits = subst (λ (l : Option ℕ). Fits c.peer_flow p (at_most (next_live c f)) l) none (subst (λ (a : Awaited). Fits c.peer_flow p a (to_come f.connection.requester)) waits r.runs.0)

    within : live_after c.peer_flow p (next_live c f) None ≤ x.most + 1
    within =
        let runs : Runs c.peer_flow (at_most (next_live c f)) (to_come f.connection.requester) (p ∷ left) k m = subst (λ (a : Awaited). Runs c.peer_flow a (to_come f.connection.requester) (p ∷ left) k m) waits r.runs in
        let top = first_within c.peer_flow p false (next_live c f) (to_come f.connection.requester) left k m runs in
        subst (λ (l : Option ℕ). live_after c.peer_flow p (next_live c f) l ≤ x.most + 1) none (omega (arith, top, high))

    h : Opens c f p o
    h = opening_reply x f p before unheld idle r.line fits within

    more : Runs c.peer_flow (awaited_after c.peer_flow p (at_most (next_live c f)) None) (left_after p None) left k m
    more = subst (λ (l : Option ℕ). Runs c.peer_flow (awaited_after c.peer_flow p (at_most (next_live c f)) l) (left_after p l) left k m) none
        (subst (λ (a : Awaited). Runs c.peer_flow (awaited_after c.peer_flow p a (to_come f.connection.requester)) (left_after p (to_come f.connection.requester)) left k m) waits r.runs.1)

    below : Below (at_most (next_live c f)) (awaited_after c.peer_flow p (at_most (next_live c f)) None)
    below = grows c.peer_flow p (at_most (next_live c f)) None fits

    by_hearing : Hears c p f o.next → Ready c o.next left k m × (is_recoverable c.peer_flow ≡ true → f.recorded.inbox_next ≤ o.next.recorded.inbox_next)
    by_hearing (still then_before e q n soft no_left) = (
      record {
        runs = subst (λ (a : Awaited). Runs c.peer_flow a (to_come o.next.connection.requester) left k m) (sym (awaited_before c o.next (soft ∙ idle.firm) then_before ∙ ap at_most (same_live c f o.next e n)))
            (subst (λ (l : Option ℕ). Runs c.peer_flow (at_most (next_live c f)) l left k m) (sym (ap to_come q ∙ none))
            (lower c.peer_flow (at_most (next_live c f)) (awaited_after c.peer_flow p (at_most (next_live c f)) None) None left k m below
            (subst (λ (l : Option ℕ). Runs c.peer_flow (awaited_after c.peer_flow p (at_most (next_live c f)) None) l left k m) no_left more)));
        line = λ rec. line_same f o.next e q n soft (r.line rec);
        idle = λ _. idle_same f o.next e q soft idle;
        opening = λ _. idle_same f o.next e q soft idle;
      },
      λ _. omega (arith, n),
    )
    by_hearing (done shaken v) = (ready_moved c f o.next p left k m v shaken r, v.rises)

-- the reply of a reader that has not begun to close its connection
pub reads : (x : Around) (f : Facts) (theirs : EndConfig) (p : Piece) (left : List Piece) (k : ℕ) (m : Option ℕ) → Peer x.config theirs → is_closing f.connection.phase ≡ false
    → (is_shaken f.connection.phase ≡ true → IsFlowing theirs p) → HeldBelow x f → Unheld x f → Ready x.config f (p ∷ left) k m → Answers f.connection.requester p → k ≤ x.most + 1 → f.recorded.inbox_next ≤ k
    → Heard x.config f p left k m (reply_of x f (incoming_of p))
reads x f theirs p left k m are yet flows below unheld r answers high top = by_phase (is_established f.connection.phase) refl
  where
    by_phase : (b : Bool) → is_established f.connection.phase ≡ b → Heard x.config f p left k m (reply_of x f (incoming_of p))
    by_phase true now =
        let shaken : is_shaken f.connection.phase ≡ true = ap (λ b. b || is_closing f.connection.phase) now in
        established_reads x f theirs p left k m are now shaken (flows shaken) below r answers high top
    by_phase false not_now = let before = ap (λ b. b || is_closing f.connection.phase) not_now ∙ yet in opening_reads x f p left k m before (unheld before) r high top
