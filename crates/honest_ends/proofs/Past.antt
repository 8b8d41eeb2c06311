-- What a reader holds while its connection goes on, and what it makes of its numbers that a held message is applied.
use Rattle.honest_ends.proofs.Awaiting.{awaited_firm, not_softly, live_is, Ready}
use Rattle.honest_ends.specs.Numbered.{awaits, awaited}
use Rattle.fixp_shake.specs.declared.config.EndConfig.{EndConfig}
use Rattle.fixp_machine.specs.Fitting.{IsMessage}
use Rattle.std.proofs.Common.{◌≡◌, ◌⊎◌, inl, inr, ℕ, ◌+◌, ◌<◌, ◌≤◌, Bool, true, false, if◌then◌else◌, List, [], ◌∷◌, Option, Some, None, IsSome, refl, sym, ap, subst, ◌∙◌, arith, true≢false, ne_eqb, ◌&&◌}
use Rattle.std.specs.Prelude.{is_some, unwrap_or, IfSome}
use Rattle.std.specs.List.{AllByRecursion}
use Rattle.std.proofs.lemmas.Bool.{false≢true}
use Rattle.session_model.specs.Inbox.{Numbered, numbers_of}
use Rattle.session_model.proofs.Lists.{all_weaker}
use Rattle.fixp_msgs.specs.declared.flow.Flow.{Flow}
use Rattle.flow_recover.specs.Receiving as receiver_is
use Rattle.flow_recover.specs.Receiving.{Receiving, reach}
use Rattle.flow_retrans.specs.declared.request.Request.{Request}
use Rattle.flow_retrans.specs.declared.request.Request.TheVariants as requests
use Rattle.flow_retrans.specs.Requests as request_is
use Rattle.flow_window.specs.Window.{holding, least, front, InReach}
use Rattle.flow_window.proofs.Reach.{all_holding}
use Rattle.flow_window.proofs.Staying.{holding_in_reach, past_in_reach}
use Rattle.fixp_shake.specs.Flows.{is_recoverable, is_sequenced}
use Rattle.fixp_shake.specs.Phases.{is_shaken}
use Rattle.fixp_replies.specs.declared.facts.Facts.{Facts}
use Rattle.fixp_replies.specs.Facts.{Around}
use Rattle.fixp_replies.specs.Incoming.{Incoming, payload_in}
use Rattle.fixp_replies.specs.Outcomes.{Outcome}
use Rattle.fixp_replies.specs.Replies.{reply_of}
use Rattle.fixp_machine.specs.Machine.{State, held_with, past_held}
use Rattle.fixp_machine.specs.Sound.{Matches, MayHold, KeepsHeld}
use Rattle.fixp_machine.proofs.Holding.{holding_goes_on, held_messages}
use Rattle.fixp_machine.proofs.Windowing.{front_there}
use Rattle.connection_laws.specs.Writing.{Piece, said, entry}
use Rattle.two_ends.specs.Reading.{incoming_of}
use Rattle.honest_ends.specs.Numbers.{Awaited, exactly, at_most, softly, announces, live_after, awaited_after, left_after, HasOne, Fits, to_come, Line, goes_softly, expecting, lowest, Applies, Reaches, After, Runs}
use Rattle.honest_ends.proofs.Lining.{firm_expecting, entry_reach, number_below}
use Rattle.honest_ends.proofs.Serving.{Passes, by_bool, Remains}

-- Nothing while the reader is soft. Else it lies within reach of the number awaited and below the live one, and that number is held only
-- while messages come again
pub record Lies (f : Facts) (held : List Numbered) : Type 0 where
  pub soft : f.connection.soft ≡ true → held ≡ []
  pub reach : InReach f.recorded.inbox_next held
  pub below : AllByRecursion (λ n. n < f.connection.receiver.live) (numbers_of held)
  pub coming : IsSome (front f.recorded.inbox_next held) → request_is.is_coming f.connection.requester ≡ true

pub lies_empty : (f : Facts) (held : List Numbered) → held ≡ [] → Lies f held
lies_empty f held none = subst (λ (ms : List Numbered). Lies f ms) (sym none)
    (record { soft = λ _. refl; reach = record { rising = tt; near = tt }; below = tt; coming = λ some. absurd (false≢true some) })

-- it lies below each number that may be announced
first_below : (ms : List Numbered) (k : ℕ) → AllByRecursion (λ n. n < k) (numbers_of ms) → IfSome (least ms) (λ n. n < k)
first_below [] k below = tt
first_below (m ∷ ms) k below = below.0

pub held_below : (f : Facts) (held : List Numbered) → Lies f held → IfSome (least held) (λ n. n < lowest f)
held_below f held l = by_soft f.connection.soft refl
  where
    by_soft : (b : Bool) → f.connection.soft ≡ b → IfSome (least held) (λ n. n < (if b then f.connection.receiver.next else f.connection.receiver.live))
    by_soft true e = subst (λ (ms : List Numbered). IfSome (least ms) (λ n. n < f.connection.receiver.next)) (sym (l.soft e)) tt
    by_soft false e = first_below held f.connection.receiver.live l.below

pub to_come_some : (q : Request) → is_some (to_come q) ≡ request_is.is_coming q
to_come_some requests.Nothing = refl
to_come_some (requests.Asked range) = refl
to_come_some (requests.Coming range next left) = refl

nothing_held : (held : List Numbered) → least held ≡ None → held ≡ []
nothing_held [] e = refl
nothing_held (m ∷ ms) e = absurd (cc e)

-- where the one awaited is not held, the least held is past it
pub least_above : (next : ℕ) (ms : List Numbered) → InReach next ms → front next ms ≡ None → IfSome (least ms) (λ n. next < n)
least_above next [] all none = tt
least_above next (m ∷ ms) all none = let low = (past_in_reach next (m ∷ ms) all none).rising.0 in omega (arith, low)

-- a number past the one awaited leaves that one out
front_past : (next : ℕ) (ms : List Numbered) → InReach (next + 1) ms → front next ms ≡ None
front_past next [] all = refl
front_past next (m ∷ ms) all = let low = all.rising.0 in ap (λ (b : Bool). if b then Some m else None) (ne_eqb m.number next (omega (arith, low)))

front_holding : (next n : ℕ) (payload : List ℕ) (ms : List Numbered) → next < n → n ≤ next + reach → InReach next ms → front next ms ≡ None → front next (holding n payload ms) ≡ None
front_holding next n payload ms above near all none =
    front_past next (holding n payload ms) (holding_in_reach (next + 1) n payload ms (omega (arith, above)) (omega (arith, near)) (past_in_reach next ms all none))

-- the live number does not go back at a message that a firm reader expects
live_grows : (flow : Flow) (p : Piece) (b : ℕ) (l : Option ℕ) → Fits flow p (at_most b) l → b ≤ live_after flow p b l
live_grows flow (entry payload) b None fits = omega arith
live_grows flow (entry payload) b (Some n) fits = omega arith
live_grows flow (said m) b l fits = by_number (announces flow (said m)) fits.0
  where
    by_number : (o : Option ℕ) → IfSome o (λ n. b ≤ n) → b ≤ unwrap_or o b
    by_number None h = omega arith
    by_number (Some n) h = h

-- what is expected is one number, so that is the live one
exactly_live : (f : Facts) (n : ℕ) → expecting f ≡ exactly n → f.connection.receiver.live ≡ n
exactly_live f n e = by_test (goes_softly f) e
  where
    by_test : (b : Bool) → (if b then softly f.connection.receiver.next f.connection.receiver.live else exactly f.connection.receiver.live) ≡ exactly n → f.connection.receiver.live ≡ n
    by_test true e = absurd cc
    by_test false e = cc e

-- a message below the live number that is the one awaited comes again
comes_again : (next live inbox : ℕ) (again : Option ℕ) (q : Request) → Matches (record { next = next; live = live; again = again }) q → unwrap_or again live ≡ inbox → inbox + 1 < live
    → is_some (to_come q) ≡ true
comes_again next live inbox None q m is low = absurd (omega (arith, is, low))
comes_again next live inbox (Some k) requests.Nothing m is low = absurd (cc m)
comes_again next live inbox (Some k) (requests.Asked range) m is low = absurd (cc (m.0))
comes_again next live inbox (Some k) (requests.Coming range n left) m is low = refl

-- A message is read in Established that a reader of a recoverable flow expects, which awaits no message that is held: what it holds lies so still
pub lies_reads : (x : Around) (f : Facts) (p : Piece) (held : List Numbered) → is_recoverable x.config.peer_flow ≡ true → x.held ≡ least held → is_shaken f.connection.phase ≡ true → Line f → Lies f held
    → front f.recorded.inbox_next held ≡ None → Fits x.config.peer_flow p (at_most (lowest f)) (to_come f.connection.requester) → After x f p (reply_of x f (incoming_of p)) → (reply_of x f (incoming_of p)).ending ≡ None
    → Lies (reply_of x f (incoming_of p)).next (held_with (reply_of x f (incoming_of p)).holds (payload_in (incoming_of p)) held)
lies_reads x f p held rec is shaken line lies drained fits h none = by_holds o.holds refl k.holds
  where
    i : Incoming
    i = incoming_of p

    o : Outcome
    o = reply_of x f i

    q : Request
    q = f.connection.requester

    l : Option ℕ
    l = left_after p (to_come q)

    k : KeepsHeld x.config x.most f o
    k = holding_goes_on x f i (λ _. line.waits)

    r : Reaches o.next f.recorded.inbox_next (awaited_after x.config.peer_flow p (expecting f) (to_come q)) l
    r = h.next none

    soft_before : o.next.connection.soft ≡ true → held ≡ []
    soft_before t = nothing_held held ((k.fits (least held) (record { opening = λ n. absurd (true≢false (sym shaken ∙ n)); soft = λ s. ap (λ (ms : List Numbered). least ms) (lies.soft s) })).soft t)

    -- of a firm reader
    live_up : f.connection.soft ≡ false → f.connection.receiver.live ≤ o.next.connection.receiver.live
    live_up firm =
        let is_exact = r.reach ∙ ap (λ (a : Awaited). awaited_after x.config.peer_flow p a (to_come q)) (firm_expecting f firm) in
        let then_live = exactly_live o.next (live_after x.config.peer_flow p f.connection.receiver.live (to_come q)) is_exact in
        let up = live_grows x.config.peer_flow p f.connection.receiver.live (to_come q)
        (subst (λ (b : Bool). Fits x.config.peer_flow p (at_most (if b then f.connection.receiver.next else f.connection.receiver.live)) (to_come q)) firm fits) in
        omega (arith, then_live, up)

    below : AllByRecursion (λ n. n < o.next.connection.receiver.live) (numbers_of held)
    below = by_bool _ f.connection.soft
        (λ s. subst (λ (ms : List Numbered). AllByRecursion (λ n. n < o.next.connection.receiver.live) (numbers_of ms)) (sym (lies.soft s)) tt)
        (λ firm. let up = live_up firm in all_weaker (λ n. n < f.connection.receiver.live) (λ n. n < o.next.connection.receiver.live) (λ n b. omega (arith, b, up)) (numbers_of held) lies.below)

    none_there : (ms : List Numbered) → front f.recorded.inbox_next ms ≡ None → o.next.recorded.inbox_next ≡ f.recorded.inbox_next → IsSome (front o.next.recorded.inbox_next ms) → ⊥
    none_there ms gone same some = false≢true (sym (ap (λ (m : Option Numbered). is_some m) (ap (λ (n : ℕ). front n ms) same ∙ gone)) ∙ some)

    comes_so : Applies f l o → IsSome (front o.next.recorded.inbox_next held) → request_is.is_coming o.next.connection.requester ≡ true
    comes_so a some =
        let first = front_there o.next.recorded.inbox_next held some in
        let at = first.number in
        let next = a.next in
        let low : first.first.number < f.connection.receiver.live = (subst (λ (ms : List Numbered). AllByRecursion (λ n. n < f.connection.receiver.live) (numbers_of ms)) first.held_is lies.below).0 in
        let again = comes_again f.connection.receiver.next f.connection.receiver.live f.recorded.inbox_next f.connection.receiver.again q line.matches a.number (omega (arith, at, next, low)) in
        sym (to_come_some o.next.connection.requester) ∙ (ap (λ (n : Option ℕ). is_some n) r.left ∙ (a.left ∙ again))

    passes : o.holds ≡ None → Lies o.next held
    passes e = by_moved h.moved
      where
        by_moved : (o.next.recorded.inbox_next ≡ f.recorded.inbox_next) ⊎ Applies f l o → Lies o.next held
        by_moved (inl same) = record {
          soft = soft_before;
          reach = subst (λ (n : ℕ). InReach n held) (sym same) lies.reach;
          below = below;
          coming = λ some. absurd (none_there held drained same some);
        }
        by_moved (inr a) = record {
          soft = soft_before;
          reach = subst (λ (n : ℕ). InReach n held) (sym a.next) (past_in_reach f.recorded.inbox_next held lies.reach drained);
          below = below;
          coming = comes_so a;
        }

    -- only an entry is held
    below_live : (n : ℕ) → o.holds ≡ Some n → n ≡ receiver_is.number f.connection.receiver → n < o.next.connection.receiver.live
    below_live n e number = by_piece p refl (held_messages x f i (ap (λ (j : Option ℕ). is_some j) e))
      where
        by_piece : (c : Piece) → p ≡ c → IsMessage (incoming_of c) → n < o.next.connection.receiver.live
        by_piece (entry payload) same message =
            let entry_fits : HasOne (to_come q) = subst (λ (c : Piece). Fits x.config.peer_flow c (at_most (lowest f)) (to_come q)) same fits in
            let is_exact = r.reach ∙ (ap (λ (c : Piece). awaited_after x.config.peer_flow c (expecting f) (to_come q)) same ∙ entry_reach x.config.peer_flow f payload (to_come q)) in
            let then_live = exactly_live o.next (live_after x.config.peer_flow (entry payload) f.connection.receiver.live (to_come q)) is_exact in
            let top = number_below x.config.peer_flow f.connection.receiver q line.matches entry_fits in
            omega (arith, number, then_live, top)
        by_piece (said m) same message = absurd message

    holds_it : (n : ℕ) → o.holds ≡ Some n → MayHold x.config x.most f o n → Lies o.next (holding n (payload_in i) held)
    holds_it n e m = by_moved h.moved
      where
        by_moved : (o.next.recorded.inbox_next ≡ f.recorded.inbox_next) ⊎ Applies f l o → Lies o.next (holding n (payload_in i) held)
        by_moved (inl same) =
            let above = m.above in
            record {
              soft = λ t. absurd (true≢false (sym t ∙ m.firm));
              reach = subst (λ (j : ℕ). InReach j (holding n (payload_in i) held)) (sym same) (holding_in_reach f.recorded.inbox_next n (payload_in i) held (omega (arith, above)) m.near lies.reach);
              below = all_holding (λ j. j < o.next.connection.receiver.live) n (payload_in i) held (below_live n e m.number) below;
              coming = λ some. absurd (none_there (holding n (payload_in i) held) (front_holding f.recorded.inbox_next n (payload_in i) held m.above m.near lies.reach drained) same some);
            }
        by_moved (inr a) = absurd (cc (a.none, e))

    by_holds : (n : Option ℕ) → o.holds ≡ n → IfSome n (λ j. MayHold x.config x.most f o j) → Lies o.next (held_with n (payload_in i) held)
    by_holds None e m = passes e
    by_holds (Some n) e m = holds_it n e m

-- behind any other call
past_matches : (r : Receiving) (q : Request) → Matches r q → Matches (receiver_is.past r) q
past_matches r requests.Nothing m = m
past_matches r (requests.Asked range) m = m
past_matches r (requests.Coming range next left) m = m

pub lies_passes : (s t : State) → Passes s t → t.facts.connection.soft ≡ s.facts.connection.soft → t.facts.connection.requester ≡ s.facts.connection.requester → Lies s.facts s.held → Lies t.facts t.held
lies_passes s t (inl k) soft asked l = by_held k.held
  where
    by_held : Remains s t → Lies t.facts t.held
    by_held (inr gone) = lies_empty t.facts t.held gone.0
    by_held (inl same) = record {
      soft = λ e. same ∙ l.soft (sym soft ∙ e);
      reach = subst (λ (n : ℕ). InReach n t.held) (sym k.inbox) (subst (λ (ms : List Numbered). InReach s.facts.recorded.inbox_next ms) (sym same) l.reach);
      below = subst (λ (r : Receiving). AllByRecursion (λ n. n < r.live) (numbers_of t.held)) (sym k.receiver)
          (subst (λ (ms : List Numbered). AllByRecursion (λ n. n < s.facts.connection.receiver.live) (numbers_of ms)) (sym same) l.below);
      coming = λ some. ap (λ (q : Request). request_is.is_coming q) asked
          ∙ l.coming (subst (λ (ms : List Numbered). IsSome (front s.facts.recorded.inbox_next ms)) same (subst (λ (n : ℕ). IsSome (front n t.held)) k.inbox some));
    }
lies_passes s t (inr d) soft asked l =
    let m = d.front.first in
    let at = d.front.number in
    let all : InReach s.facts.recorded.inbox_next (m ∷ d.front.later) = subst (λ (ms : List Numbered). InReach s.facts.recorded.inbox_next ms) d.front.held_is l.reach in
    let low : AllByRecursion (λ n. n < s.facts.connection.receiver.live) (numbers_of (m ∷ d.front.later)) =
    subst (λ (ms : List Numbered). AllByRecursion (λ n. n < s.facts.connection.receiver.live) (numbers_of ms)) d.front.held_is l.below in
    subst (λ (f : Facts). Lies f t.held) (sym d.facts) (subst (λ (ms : List Numbered). Lies (past_held s.facts m) ms) (sym d.held) (record {
      soft = λ e. absurd (cc (d.front.held_is, l.soft e));
      reach = record {
        rising = all.rising.1;
        near = all_weaker (λ n. n ≤ s.facts.recorded.inbox_next + reach) (λ n. n ≤ m.number + 1 + reach) (λ n near. omega (arith, near, at)) (numbers_of d.front.later) all.near.1;
      };
      below = low.1;
      coming = λ _. l.coming (ap (λ (k : Option Numbered). is_some k) d.front.front_is);
    }))

-- a reader of a recoverable flow that is not soft is ready for what is under way behind it too
pub ready_past : (c : EndConfig) (f : Facts) (m : Numbered) (way : List Piece) (k : ℕ) (n : Option ℕ) → is_recoverable c.peer_flow ≡ true → is_shaken f.connection.phase ≡ true → f.connection.soft ≡ false
    → m.number ≡ f.recorded.inbox_next → m.number < f.connection.receiver.live → Ready c f way k n → Ready c (past_held f m) way k n
ready_past c f m way k n rec shaken firm at low r = record {
  runs = subst (λ (a : Awaited). Runs c.peer_flow a (to_come f.connection.requester) way k n) (sym same) r.runs;
  line = λ _. record {
    waits = let waits = (r.line rec).waits in omega (arith, waits, at);
    low = let waits = (r.line rec).waits in omega (arith, waits, at, low);
    matches = past_matches f.connection.receiver f.connection.requester (r.line rec).matches;
    unasked = λ soft. absurd (true≢false (sym soft ∙ firm));
  };
  idle = λ other. absurd (true≢false (sym rec ∙ other));
  opening = λ before. absurd (true≢false (sym shaken ∙ before));
}
  where
    g : Facts
    g = past_held f m

    same : awaited c g ≡ awaited c f
    same = awaited_firm c g (not_softly g firm) ∙ (ap (λ (j : ℕ). awaits (is_sequenced c.peer_flow && is_shaken f.connection.phase) j) (live_is c g rec ∙ sym (live_is c f rec)) ∙ sym (awaited_firm c f (not_softly f firm)))
