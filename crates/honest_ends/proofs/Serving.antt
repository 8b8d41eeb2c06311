-- The requests and retransmissions under way between two ends, and how each call of an end moves them.
use Rattle.fixp_machine.proofs.Windowing.{IsFront, front_there}
use Rattle.session_model.specs.Inbox.{Numbered}
use Rattle.std.proofs.Common.{◌≡◌, ◌⊎◌, inl, inr, ℕ, zero, suc, ◌+◌, ◌-◌, ◌≤◌, ◌==◌, ◌&&◌, Bool, true, false, if◌then◌else◌, List, [], ◌∷◌, ◌++◌, length, Option, Some, None, refl, sym, ap, subst, ◌∙◌, arith, true≢false, append-nil, eqb-true, drop}
use Rattle.std.specs.Prelude.{is_some, is_none, unwrap_or, IfSome, IsSome}
use Rattle.session_model.specs.Journal.{Entry}
use Rattle.fixp_msgs.specs.declared.numbering.Range.{Range}
use Rattle.fixp_msgs.specs.declared.flow.Flow.{Flow}
use Rattle.fixp_msgs.specs.Message.{Message, sequence, unsequenced_heartbeat, terminate, retransmission, retransmit_reject}
use Rattle.flow_retrans.specs.declared.request.Request.{Request}
use Rattle.flow_retrans.specs.declared.request.Request.TheVariants as requests
use Rattle.flow_retrans.specs.Requests as request_is
use Rattle.flow_idem.specs.Runs.{runs_of}
use Rattle.fixp_shake.specs.declared.violation.Violation.{Violation}
use Rattle.fixp_shake.specs.Flows.{is_sequenced}
use Rattle.fixp_shake.specs.Phases.{is_established, is_closing}
use Rattle.fixp_replies.specs.declared.act.Ending.{Ending}
use Rattle.fixp_replies.specs.declared.facts.Facts.{Facts}
use Rattle.fixp_replies.specs.Facts.{Around}
use Rattle.fixp_replies.specs.Outcomes.{Outcome}
use Rattle.fixp_replies.specs.Replies.{reply_of}
use Rattle.fixp_replies.specs.Events.{Made, heartbeat, heartbeats, is_due, lateness, applied_runs, closes, turn_ended, outbox_finished, tells_finish, finish_told, link_ending}
use Rattle.fixp_machine.specs.Machine.{State, Call, begin, frame, bad_frame, did, tick, turn_done, closed, link_end, live, again, taken, reserve, around, bytes_of, wrote, made, broken_by, served_again, rest_of, step, run, held_done, past_held, held_applied, front_of, IsDrained}
use Rattle.connection_laws.specs.Writing.{Piece, said, said_all, entries, said_breaking, range_closed, written_again, writes}
use Rattle.two_ends.specs.Reading.{incoming_of}
use Rattle.two_ends.proofs.Refused.{closing_is_deaf}
use Rattle.connection_laws.specs.Standing.{MayStand}
use Rattle.connection_laws.proofs.Owned.{entries_reach}
use Rattle.honest_ends.specs.Worlds.{written, IsOther}
use Rattle.honest_ends.proofs.Finishing.{total, total_append}
use Rattle.honest_ends.proofs.Asking.{asks, restarts, turns, inside, unanswered_of, unanswered, coming, is_serving, Asks, asks_of, closing_asks, at_most_one}
use Rattle.honest_ends.proofs.Running.{runs_append, live_run, again_run}
use Rattle.honest_ends.proofs.Moving.{turned, told}
use Rattle.honest_ends.specs.Numbers.{exactly, Allows, IsWhole, Runs, RunsBetween, ServesLater, served}

-- A reader's request is under way on the way back, or its answer to the reader, or neither: at most where it is yet. As long as it is under
-- way the writer serves nothing. And where the reader goes on, a retransmission comes in to it behind what is under way exactly where the
-- writer serves a range
pub record Requests (writer reader : Facts) (over : Option Ending) (way back : List Piece) : Type 0 where
  pub once : total asks back + total restarts way ≤ unanswered reader
  pub free : 1 ≤ total asks back → is_serving writer ≡ false
  pub even : over ≡ None → is_closing reader.connection.phase ≡ false → inside (coming reader) way ≡ is_serving writer

inside_append : (b : Bool) (ps qs : List Piece) → inside b (ps ++ qs) ≡ inside (inside b ps) qs
inside_append b [] qs = refl
inside_append b (p ∷ ps) qs = inside_append (turns p b) ps qs

turned_off : (p : Piece) → restarts p ≡ 0 → turns p false ≡ false
turned_off (said (retransmission id next timestamp count)) e = absurd (omega (arith, e))
turned_off (said (retransmit_reject id timestamp code reason)) e = refl
turned_off _ e = refl

-- without a Retransmission none begins
outside : (ps : List Piece) → total restarts ps ≡ 0 → inside false ps ≡ false
outside [] e = refl
outside (p ∷ ps) e = ap (λ b. inside b ps) (turned_off p (omega (arith, e))) ∙ outside ps (omega (arith, e))

not_coming : (q : Request) → 1 ≤ unanswered_of q → request_is.is_coming q ≡ false
not_coming requests.Nothing e = refl
not_coming (requests.Asked range) e = refl
not_coming (requests.Coming range next left) e = absurd (omega (arith, e))

-- a Bool that is not true
pub by_bool : (P : Type 0) (b : Bool) → (b ≡ true → P) → (b ≡ false → P) → P
by_bool P true t f = t refl
by_bool P false t f = f refl

-- the reader replies to a message
pub asked_by_reader : (writer : Facts) (x : Around) (reader : Facts) (over : Option Ending) (p : Piece) (left back : List Piece) → ServesLater x.config reader → over ≡ None → Requests writer reader over (p ∷ left) back
    → Requests writer (reply_of x reader (incoming_of p)).next (reply_of x reader (incoming_of p)).ending left (back ++ said_all (reply_of x reader (incoming_of p)).written)
asked_by_reader writer x reader over p left back later goes a = record { once = once; free = free; even = even }
  where
    o : Outcome
    o = reply_of x reader (incoming_of p)

    c : Asks x reader (asks p) (restarts p) (turns p) o
    c = asks_of x reader p later

    more : total asks (back ++ said_all o.written) ≡ total asks back + total asks (said_all o.written)
    more = total_append asks back (said_all o.written)

    once : total asks (back ++ said_all o.written) + total restarts left ≤ unanswered o.next
    once = let e = more in let before = a.once in let now = c.once in omega (arith, e, before, now)

    -- it was not closing
    even_after : o.ending ≡ None → is_closing reader.connection.phase ≡ false → inside (coming o.next) left ≡ is_serving writer
    even_after none yet = ap (λ b. inside b left) (c.comes none yet) ∙ a.even goes yet

    even : o.ending ≡ None → is_closing o.next.connection.phase ≡ false → inside (coming o.next) left ≡ is_serving writer
    even none yet = by_bool (inside (coming o.next) left ≡ is_serving writer) (is_closing reader.connection.phase)
        (λ t. absurd (true≢false (sym t ∙ (ap (λ (f : Facts). is_closing f.connection.phase) (sym (closing_is_deaf x reader (incoming_of p) t).next) ∙ yet))))
        (λ n. even_after none n)

    asking : (n : ℕ) → total asks (said_all o.written) ≡ n → 1 ≤ total asks (back ++ said_all o.written) → is_serving writer ≡ false
    asking zero e some = let k = more in a.free (omega (arith, k, e, some))
    asking (suc n) e some =
        let k = more in let all = once in let few = at_most_one o.next.connection.requester in let asked = c.asked in
        let none : o.ending ≡ None = ending_of c.goes in
        let yet : is_closing reader.connection.phase ≡ false = by_bool (is_closing reader.connection.phase ≡ false) (is_closing reader.connection.phase)
        (λ t. let z = closing_asks x reader p t in absurd (omega (arith, z, e))) (λ f. f) in
        let off : coming o.next ≡ false = not_coming o.next.connection.requester (omega (arith, asked, e)) in
        sym (even_after none yet) ∙ (ap (λ b. inside b left) off ∙ outside left (omega (arith, k, all, few, e)))
      where
        ending_of : (total asks (said_all o.written) ≡ 0) ⊎ (o.ending ≡ None) → o.ending ≡ None
        ending_of (inl z) = absurd (omega (arith, z, e))
        ending_of (inr none) = none

    free : 1 ≤ total asks (back ++ said_all o.written) → is_serving writer ≡ false
    free some = asking (total asks (said_all o.written)) refl some

-- the writer serves nothing where a request comes
pub free_for : (writer reader : Facts) (over : Option Ending) (p : Piece) (way left : List Piece) → Requests writer reader over way (p ∷ left) → 1 ≤ asks p → is_serving writer ≡ false
free_for writer reader over p way left a some = a.free (omega (arith, some))

-- the writer replies to a message that came back
pub asked_by_writer : (x : Around) (writer reader : Facts) (over : Option Ending) (p : Piece) (way left : List Piece) → ServesLater x.config writer → Requests writer reader over way (p ∷ left)
    → Requests (reply_of x writer (incoming_of p)).next reader over (way ++ said_all (reply_of x writer (incoming_of p)).written) left
asked_by_writer x writer reader over p way left later a =
    let o : Outcome = reply_of x writer (incoming_of p) in
    let c = asks_of x writer p later in
    let e = total_append restarts way (said_all o.written) in
    let once = a.once in
    let resent = c.resent in
    let few = at_most_one reader.connection.requester in
    record {
      once = omega (arith, e, once, resent);
      free = λ some. sym c.serves ∙ (ap (λ b. inside b (said_all o.written)) (a.free (omega (arith, some))) ∙ outside (said_all o.written) (omega (arith, once, resent, few, some)));
      even = λ none yet. inside_append (coming reader) way (said_all o.written) ∙ (ap (λ b. inside b (said_all o.written)) (a.even none yet) ∙ c.serves);
    }

abbrev pub Remains : State → State → Type 0
Remains s t = (t.held ≡ s.held) ⊎ ((t.held ≡ []) × IsSome t.ending)

-- the numbers of a reader stay, and so does what it holds, or its connection ends and it holds nothing any more
pub record Still (s t : State) : Type 0 where
  pub receiver : t.facts.connection.receiver ≡ s.facts.connection.receiver
  pub inbox : t.facts.recorded.inbox_next ≡ s.facts.recorded.inbox_next
  pub held : Remains s t

-- a held message that its inbox awaited was applied, on an open connection
pub record Drops (s t : State) : Type 0 where
  pub going : s.ending ≡ None
  pub front : IsFront s.facts.recorded.inbox_next s.held
  pub facts : t.facts ≡ past_held s.facts front.first
  pub held : t.held ≡ front.later

abbrev pub Passes : State → State → Type 0
Passes s t = Still s t ⊎ Drops s t

-- any other call asks for nothing and begins no retransmission, and sends no more than the outbox has; a connection begins to close where no
-- held message is to be applied
pub record Serves (h : List Entry) (s t : State) (out : List Piece) : Type 0 where
  pub asks_none : total asks out ≡ 0
  pub begins_none : total restarts out ≡ 0
  pub serves : inside (is_serving s.facts) out ≡ is_serving t.facts
  pub requester : t.facts.connection.requester ≡ s.facts.connection.requester
  pub closing : is_closing t.facts.connection.phase ≡ false → is_closing s.facts.connection.phase ≡ false
  pub reader : Passes s t
  pub drains : is_closing t.facts.connection.phase ≡ true → (is_closing s.facts.connection.phase ≡ true) ⊎ IsDrained s
  pub soft : t.facts.connection.soft ≡ s.facts.connection.soft
  pub runs : RunsBetween s.config.own_flow s.facts out t.facts
  pub most : t.most ≡ s.most
  pub sent : s.facts.recorded.sent ≤ length h → t.facts.recorded.sent ≤ length h

pub served_by_writer : {h : List Entry} (s t : State) (reader : Facts) (over : Option Ending) (way back out : List Piece) → Requests s.facts reader over way back → Serves h s t out → Requests t.facts reader over (way ++ out) back
served_by_writer s t reader over way back out a c =
    let e = total_append restarts way out in
    let once = a.once in
    let none = c.begins_none in
    record {
      once = omega (arith, e, once, none);
      free = λ some. sym c.serves ∙ (ap (λ b. inside b out) (a.free some) ∙ outside out c.begins_none);
      even = λ going yet. inside_append (coming reader) way out ∙ (ap (λ b. inside b out) (a.even going yet) ∙ c.serves);
    }

pub was_none : {A B : Type 0} (before : Option A) (later : Option B) → (IsSome before → IsSome later) → later ≡ None → before ≡ None
was_none None later over e = refl
was_none (Some b) None over e = absurd (true≢false (sym (over refl)))
was_none (Some b) (Some k) over e = absurd cc

pub served_by_reader : {h : List Entry} (writer : Facts) (s t : State) (way back out : List Piece) → (IsSome s.ending → IsSome t.ending) → Requests writer s.facts s.ending way back → Serves h s t out
    → Requests writer t.facts t.ending way (back ++ out)
served_by_reader writer s t way back out over a c =
    let e = total_append asks back out in
    let once = a.once in
    let none = c.asks_none in
    let same = ap unanswered_of c.requester in
    record {
      once = omega (arith, e, once, none, same);
      free = λ some. a.free (omega (arith, e, none, some));
      even = λ going yet. ap (λ q. inside (request_is.is_coming q) way) c.requester ∙ a.even (was_none s.ending t.ending over going) (c.closing yet);
    }

-- messages that are none of these
record Silent (out : List Piece) : Type 0 where
  no_request : total asks out ≡ 0
  no_restart : total restarts out ≡ 0
  no_turn : (b : Bool) → inside b out ≡ b

none_silent : Silent []
none_silent = record { no_request = refl; no_restart = refl; no_turn = λ b. refl }

silent_both : (ps qs : List Piece) → Silent ps → Silent qs → Silent (ps ++ qs)
silent_both ps qs a b =
    let e = total_append asks ps qs in let k = total_append restarts ps qs in
    let ae = a.no_request in let ak = a.no_restart in let be = b.no_request in let bk = b.no_restart in
    record { no_request = omega (arith, e, ae, be); no_restart = omega (arith, k, ak, bk); no_turn = λ c. inside_append c ps qs ∙ (ap (λ d. inside d qs) (a.no_turn c) ∙ b.no_turn c) }

map_more : (xs ys : List Message) → said_all (xs ++ ys) ≡ said_all xs ++ said_all ys
map_more [] ys = refl
map_more (x ∷ xs) ys = ap (λ ps. said x ∷ ps) (map_more xs ys)

said_more : (ms more : List Message) → Silent (said_all ms) → Silent (said_all more) → Silent (said_all (ms ++ more))
said_more ms more a b = subst (λ (ps : List Piece). Silent ps) (sym (map_more ms more)) (silent_both (said_all ms) (said_all more) a b)

-- messages without a number
abbrev Plain : List Piece → Type 0
Plain ps = (flow : Flow) (b : ℕ) (l : Option ℕ) → Runs flow (exactly b) l ps b l

still : Plain []
still flow b l = (refl, refl)

serves_silent : (h : List Entry) (s t : State) (out : List Piece) → t.most ≡ s.most → (s.facts.recorded.sent ≤ length h → t.facts.recorded.sent ≤ length h) → t.facts.connection ≡ s.facts.connection → t.facts.recorded.inbox_next ≡ s.facts.recorded.inbox_next
    → Remains s t → RunsBetween s.config.own_flow s.facts out t.facts → Silent out → Serves h s t out
serves_silent h s t out most sent e n held r a = record {
  asks_none = a.no_request;
  begins_none = a.no_restart;
  serves = a.no_turn (is_serving s.facts) ∙ sym (ap (λ c. is_some c.serving) e);
  requester = ap (λ c. c.requester) e;
  closing = λ n. ap (λ c. is_closing c.phase) (sym e) ∙ n;
  reader = inl (record { receiver = ap (λ c. c.receiver) e; inbox = n; held = held });
  drains = λ t. inl (ap (λ c. is_closing c.phase) (sym e) ∙ t);
  soft = ap (λ c. c.soft) e;
  runs = r;
  most = most;
  sent = sent;
}

-- what a tick writes: a heartbeat where nothing is served
record Beats (flow : Flow) (f : Facts) (ps : List Piece) : Type 0 where
  no_request : total asks ps ≡ 0
  no_restart : total restarts ps ≡ 0
  stays : inside (is_serving f) ps ≡ is_serving f
  runs : RunsBetween flow f ps f

-- a Sequence of the next live number, where no range is served
next_told : (flow : Flow) (b : ℕ) (l : Option ℕ) → IsWhole l → Runs flow (exactly b) l (said (sequence b) ∷ []) b None
next_told flow b l whole = let w = by_flow (is_sequenced flow) in ((w.0, whole), (w.1, refl))
  where
    by_flow : (t : Bool) → IfSome (if t then Some b else None) (λ n. Allows (exactly b) n) × (unwrap_or (if t then Some b else None) b ≡ b)
    by_flow true = (refl, refl)
    by_flow false = (tt, refl)

none_whole : (flow : Flow) (b : ℕ) (s : Option Range) → is_some s ≡ false → Runs flow (exactly b) (served s) (said (sequence b) ∷ []) b (served s)
none_whole flow b None e = next_told flow b None tt
none_whole flow b (Some r) e = absurd (true≢false e)

beating : (x : Around) (flow : Flow) (f : Facts) → is_some f.connection.serving ≡ false → Beats flow f (said_all (heartbeat x f ∷ []))
beating x flow f free = by_flow (is_sequenced x.config.own_flow)
  where
    by_flow : (b : Bool) → Beats flow f (said_all ((if b then sequence (f.recorded.sent + 1) else unsequenced_heartbeat) ∷ []))
    by_flow true = record { no_request = refl; no_restart = refl; stays = sym free; runs = none_whole flow (f.recorded.sent + 1) f.connection.serving free }
    by_flow false = record { no_request = refl; no_restart = refl; stays = refl; runs = ((tt, tt), (refl, refl)) }

no_beat : (flow : Flow) (f : Facts) → Beats flow f []
no_beat flow f = record { no_request = refl; no_restart = refl; stays = refl; runs = (refl, refl) }

beats : (x : Around) (flow : Flow) (f : Facts) (last : ℕ) (unsent : List ℕ) → Beats flow f (said_all (heartbeats x f last unsent))
beats x flow f last (b ∷ unsent) = no_beat flow f
beats x flow f last [] = by_test (is_established f.connection.phase && is_none f.connection.serving && is_due x last) refl
  where
    by_test : (b : Bool) → (is_established f.connection.phase && is_none f.connection.serving && is_due x last) ≡ b → Beats flow f (said_all (if b then heartbeat x f ∷ [] else []))
    by_test true e = beating x flow f (second (is_established f.connection.phase) (is_due x last) f.connection.serving e)
      where
        second : (a c : Bool) (r : Option Range) → (a && is_none r && c) ≡ true → is_some r ≡ false
        second true c None e = refl
        second true c (Some r) e = absurd (true≢false (sym e))
        second false c r e = absurd (true≢false (sym e))
    by_test false e = no_beat flow f

breaks_silent : (s : State) (v : Option Violation) (now : ℕ) → Silent (said_all (said_breaking s v now))
breaks_silent s None now = none_silent
breaks_silent s (Some v) now = record { no_request = refl; no_restart = refl; no_turn = λ b. refl }

breaks_plain : (s : State) (v : Option Violation) (now : ℕ) → Plain (said_all (said_breaking s v now))
breaks_plain s None now flow b l = (refl, refl)
breaks_plain s (Some v) now flow b l = ((tt, tt), (refl, refl))

broken_same : (s : State) (v : Option Violation) (now : ℕ)
    → ((broken_by s v now).facts ≡ s.facts) × ((broken_by s v now).most ≡ s.most) × Remains s (broken_by s v now)
broken_same s None now = (refl, refl, inl refl)
broken_same s (Some v) now = (refl, refl, inr (refl, refl))

ticking : (h : List Entry) (s : State) (now : ℕ) → Serves h s (step s (tick now)) (writes s (tick now))
ticking h s now = by_end (is_some s.ending)
  where
    x : Around
    x = around s 0 now

    beat : State
    beat = wrote (record s { moment = now }) (bytes_of (heartbeats x s.facts s.last_sent s.unsent)) now

    v : Option Violation
    v = lateness x s.facts s.start s.last_received

    going : Serves h s (broken_by beat v now) (said_all (heartbeats x s.facts s.last_sent s.unsent ++ said_breaking s v now))
    going =
        let h : List Message = heartbeats x s.facts s.last_sent s.unsent in
        let q = said_breaking s v now in
        let b = beats x s.config.own_flow s.facts s.last_sent s.unsent in
        let r = breaks_silent s v now in
        let e = total_append asks (said_all h) (said_all q) in let k = total_append restarts (said_all h) (said_all q) in
        let be = b.no_request in let bk = b.no_restart in let re = r.no_request in let rk = r.no_restart in
        let same = (broken_same beat v now).0 in
        let sent = ap (λ f. f.recorded.sent) same in
        record {
          asks_none = ap (λ ps. total asks ps) (map_more h q) ∙ omega (arith, e, be, re);
          begins_none = ap (λ ps. total restarts ps) (map_more h q) ∙ omega (arith, k, bk, rk);
          serves = ap (λ ps. inside (is_serving s.facts) ps) (map_more h q) ∙ (inside_append (is_serving s.facts) (said_all h) (said_all q)
              ∙ (r.no_turn (inside (is_serving s.facts) (said_all h)) ∙ (b.stays ∙ sym (ap (λ f. is_serving f) same))));
          requester = ap (λ f. f.connection.requester) same;
          closing = λ n. ap (λ f. is_closing f.connection.phase) (sym same) ∙ n;
          reader = inl (record { receiver = ap (λ f. f.connection.receiver) same; inbox = ap (λ f. f.recorded.inbox_next) same; held = (broken_same beat v now).2 });
          drains = λ t. inl (ap (λ f. is_closing f.connection.phase) (sym same) ∙ t);
          soft = ap (λ f. f.connection.soft) same;
          runs = subst (λ (g : Facts). RunsBetween s.config.own_flow s.facts (said_all (h ++ q)) g) (sym same)
              (subst (λ (ps : List Piece). RunsBetween s.config.own_flow s.facts ps s.facts) (sym (map_more h q))
              (runs_append s.config.own_flow (exactly (s.facts.recorded.sent + 1)) (served s.facts.connection.serving) (said_all h) (said_all q) (s.facts.recorded.sent + 1) (served s.facts.connection.serving)
              (s.facts.recorded.sent + 1) (served s.facts.connection.serving) b.runs (breaks_plain s v now s.config.own_flow (s.facts.recorded.sent + 1) (served s.facts.connection.serving))));
          most = (broken_same beat v now).1;
          sent = λ k. omega (arith, sent, k);
        }

    by_end : (b : Bool) → Serves h s (if b then record s { moment = now } else broken_by beat v now) (if b then [] else said_all (heartbeats x s.facts s.last_sent s.unsent ++ said_breaking s v now))
    by_end true = serves_silent h s (record s { moment = now }) [] refl (λ k. k) refl refl (inl refl) (refl, refl) none_silent
    by_end false = going

applied_silent : (runs : List Range) → Silent (said_all (applied_runs runs))
applied_silent [] = none_silent
applied_silent (r ∷ runs) =
    let s = applied_silent runs in let e = s.no_request in let k = s.no_restart in record { no_request = omega (arith, e); no_restart = omega (arith, k); no_turn = s.no_turn }

applied_plain : (runs : List Range) → Plain (said_all (applied_runs runs))
applied_plain [] flow b l = (refl, refl)
applied_plain (r ∷ runs) flow b l = ((tt, tt), applied_plain runs flow b l)

closing_plain : (ms : List Message) (m : Message) → Plain (said_all ms) → Plain (said m ∷ []) → Plain (said_all (ms ++ m ∷ []))
closing_plain ms m a c flow b l =
    subst (λ (ps : List Piece). Runs flow (exactly b) l ps b l) (sym (map_more ms (m ∷ []))) (runs_append flow (exactly b) l (said_all ms) (said m ∷ []) b l b l (a flow b l) (c flow b l))

turning : (h : List Entry) (s : State) (now : ℕ) → IsDrained s → Serves h s (step s (turn_done now)) (writes s (turn_done now))
turning h s now drained = by_end (is_some s.ending)
  where
    x : Around
    x = around s 0 now

    behind : Made → State
    behind m = record (made (record s { moment = now }) m now) { untold = [] }

    by_close : (b : Bool) → Serves h s (behind (turned b x s.facts (runs_of s.untold))) (said_all (turned b x s.facts (runs_of s.untold)).written)
    by_close true =
        let q = said_more (applied_runs (runs_of s.untold)) (terminate s.config.session 1 [] ∷ []) (applied_silent (runs_of s.untold)) (record { no_request = refl; no_restart = refl; no_turn = λ b. refl }) in
        record {
          asks_none = q.no_request;
          begins_none = q.no_restart;
          serves = q.no_turn (is_serving s.facts);
          requester = refl;
          closing = λ n. absurd (true≢false n);
          reader = inl (record { receiver = refl; inbox = refl; held = inl refl });
          drains = λ _. inr drained;
          soft = refl;
          runs = closing_plain (applied_runs (runs_of s.untold)) (terminate s.config.session 1 []) (applied_plain (runs_of s.untold)) (λ flow b l. ((tt, tt), (refl, refl))) s.config.own_flow (s.facts.recorded.sent + 1) (served s.facts.connection.serving);
          most = refl;
          sent = λ k. k;
        }
    by_close false = serves_silent h s (behind (turned false x s.facts (runs_of s.untold))) _ refl (λ k. k) refl refl (inl refl) (applied_plain (runs_of s.untold) s.config.own_flow (s.facts.recorded.sent + 1) (served s.facts.connection.serving)) (applied_silent (runs_of s.untold))

    by_end : (b : Bool) → Serves h s (if b then record s { moment = now } else behind (turn_ended x s.facts (runs_of s.untold))) (if b then [] else said_all (turn_ended x s.facts (runs_of s.untold)).written)
    by_end true = serves_silent h s (record s { moment = now }) [] refl (λ k. k) refl refl (inl refl) (refl, refl) none_silent
    by_end false = by_close (closes x s.facts)

finishing : (h : List Entry) (s : State) (last now : ℕ) → Serves h s (step s (closed last now)) (writes s (closed last now))
finishing h s last now = by_end (is_some s.ending)
  where
    x : Around
    x = around s 0 now

    behind : Made → State
    behind m = made (record s { moment = now }) m now

    by_test : (b : Bool) → Serves h s (behind (told b x s.facts last)) (said_all (told b x s.facts last).written)
    by_test true = record { asks_none = refl; begins_none = refl; serves = refl; requester = refl; closing = λ n. n; reader = inl (record { receiver = refl; inbox = refl; held = inl refl }); drains = inl; soft = refl; runs = ((tt, tt), (refl, refl)); most = refl; sent = λ k. k }
    by_test false = serves_silent h s (behind (told false x s.facts last)) [] refl (λ k. k) refl refl (inl refl) (refl, refl) none_silent

    by_end : (b : Bool)
        → Serves h s (if b then record s { moment = now; facts = outbox_finished s.facts last } else behind (finish_told x s.facts last)) (if b then [] else said_all (finish_told x s.facts last).written)
    by_end true = serves_silent h s (record s { moment = now; facts = outbox_finished s.facts last }) [] refl (λ k. k) refl refl (inl refl) (refl, refl) none_silent
    by_end false = by_test (tells_finish x s.facts last)

cut : (h : List Entry) (s : State) → Serves h s (step s link_end) []
cut h s = by_end (is_some s.ending)
  where
    by_end : (b : Bool) → Serves h s (if b then s else record s { ending = Some (link_ending (around s 0 s.moment) s.facts); pending = None; held = [] }) []
    by_end true = serves_silent h s s [] refl (λ k. k) refl refl (inl refl) (refl, refl) none_silent
    by_end false = serves_silent h s (record s { ending = Some (link_ending (around s 0 s.moment) s.facts); pending = None; held = [] }) [] refl (λ k. k) refl refl (inr (refl, refl)) (refl, refl) none_silent

entries_silent : (payloads : List (List ℕ)) → Silent (entries payloads)
entries_silent [] = none_silent
entries_silent (p ∷ payloads) =
    let s = entries_silent payloads in let e = s.no_request in let k = s.no_restart in record { no_request = omega (arith, e); no_restart = omega (arith, k); no_turn = s.no_turn }

-- behind the last message of a range stands the Sequence that ends it
record Closes (ps : List Piece) (r : Option Range) : Type 0 where
  no_request : total asks ps ≡ 0
  no_restart : total restarts ps ≡ 0
  ends : inside true ps ≡ is_some r

closing_range : (f : Facts) (r : Option Range) → Closes (range_closed f r) r
closing_range f None = record { no_request = refl; no_restart = refl; ends = refl }
closing_range f (Some r) = record { no_request = refl; no_restart = refl; ends = refl }

again_closed : (flow : Flow) (f : Facts) (r : Range) (n : ℕ) → n ≤ r.count → Runs flow (exactly (f.recorded.sent + 1)) (Some (r.count - n)) (range_closed f (rest_of r n)) (f.recorded.sent + 1) (served (rest_of r n))
again_closed flow f r n h = by_test (r.count == n) refl
  where
    rest : Bool → Option Range
    rest b = if b then None else Some (record { from = r.from + n; count = r.count - n })

    by_test : (b : Bool) → (r.count == n) ≡ b → Runs flow (exactly (f.recorded.sent + 1)) (Some (r.count - n)) (range_closed f (rest b)) (f.recorded.sent + 1) (served (rest b))
    by_test true e = let same = eqb-true r.count n e in next_told flow (f.recorded.sent + 1) (Some (r.count - n)) (omega (arith, same))
    by_test false e = (refl, refl)

resending : (h : List Entry) (s : State) (r : Option Range) (payloads : List (List ℕ)) (now : ℕ) → ((k : Range) → r ≡ Some k → length payloads ≤ k.count) → s.facts.connection.serving ≡ r → Serves h s (served_again s r payloads now) (written_again s.facts r payloads)
resending h s None payloads now within same = serves_silent h s s [] refl (λ k. k) refl refl (inl refl) (refl, refl) none_silent
resending h s (Some r) payloads now within same =
    let rest = rest_of r (length payloads) in
    let a = entries_silent payloads in let b = closing_range s.facts rest in
    let e = total_append asks (entries payloads) (range_closed s.facts rest) in let k = total_append restarts (entries payloads) (range_closed s.facts rest) in
    let ae = a.no_request in let ak = a.no_restart in let be = b.no_request in let bk = b.no_restart in
    record {
      asks_none = omega (arith, e, ae, be);
      begins_none = omega (arith, k, ak, bk);
      serves = ap (λ q. inside (is_some q) (entries payloads ++ range_closed s.facts rest)) same
          ∙ (inside_append true (entries payloads) (range_closed s.facts rest) ∙ (ap (λ c. inside c (range_closed s.facts rest)) (a.no_turn true) ∙ b.ends));
      requester = refl;
      closing = λ n. n;
      reader = inl (record { receiver = refl; inbox = refl; held = inl refl });
      drains = inl;
      soft = refl;
      runs = subst (λ (k : Option Range). Runs s.config.own_flow (exactly (s.facts.recorded.sent + 1)) (served k) (entries payloads ++ range_closed s.facts rest) (s.facts.recorded.sent + 1) (served rest)) (sym same)
          (runs_append s.config.own_flow (exactly (s.facts.recorded.sent + 1)) (Some r.count) (entries payloads) (range_closed s.facts rest) (s.facts.recorded.sent + 1) (Some (r.count - length payloads))
          (s.facts.recorded.sent + 1) (served rest) (again_run s.config.own_flow (s.facts.recorded.sent + 1) r.count payloads (within r refl)) (again_closed s.config.own_flow s.facts r (length payloads) (within r refl)));
      most = refl;
      sent = λ k. k;
    }

range_within : (s : Option Range) (range : Range) (n : ℕ) → s ≡ Some range → n ≤ range.count → (k : Range) → s ≡ Some k → n ≤ k.count
range_within s range n e h k is = let same : range ≡ k = cc (e, is) in subst (λ (j : Range). n ≤ j.count) same h

live_runs : (s : State) (payloads : List (List ℕ)) → s.facts.connection.serving ≡ None
    → Runs s.config.own_flow (exactly (s.facts.recorded.sent + 1)) (served s.facts.connection.serving) (entries payloads) (s.facts.recorded.sent + length payloads + 1) (served s.facts.connection.serving)
live_runs s payloads free =
    subst (λ (k : Option Range). Runs s.config.own_flow (exactly (s.facts.recorded.sent + 1)) (served k) (entries payloads) (s.facts.recorded.sent + length payloads + 1) (served k)) (sym free)
    (subst (λ (n : ℕ). Runs s.config.own_flow (exactly (s.facts.recorded.sent + 1)) None (entries payloads) n None) (omega arith) (live_run s.config.own_flow (s.facts.recorded.sent + 1) payloads))

-- a held message is applied
applying : (h : List Entry) (s : State) → s.ending ≡ None → IsSome (front_of s) → Serves h s (step s held_done) []
applying h s going some =
    let k = front_there s.facts.recorded.inbox_next s.held some in
    subst (λ (m : Option Numbered). Serves h s (held_applied s m) []) (sym k.front_is) (record {
      asks_none = refl;
      begins_none = refl;
      serves = refl;
      requester = refl;
      closing = λ n. n;
      reader = inr (record { going = going; front = k; facts = refl; held = ap (λ (ms : List Numbered). drop 1 ms) k.held_is });
      drains = inl;
      soft = refl;
      runs = (refl, refl);
      most = refl;
      sent = λ n. n;
    })

serves_call : (h : List Entry) (s : State) (call : Call) → IsOther h call → MayStand h s call → Serves h s (step s call) (writes s call)
serves_call h s (begin now) other may = absurd other
serves_call h s (frame incoming at now) other may = absurd other
serves_call h s (bad_frame at now) other may = absurd other
serves_call h s (did now) other may = absurd other
serves_call h s (tick now) other may = ticking h s now
serves_call h s (turn_done now) other may = turning h s now may.may_call.1
serves_call h s (closed last now) other may = finishing h s last now
serves_call h s link_end other may = cut h s
serves_call h s (live payloads now) other may = serves_silent h s (step s (live payloads now)) (entries payloads) refl (λ k. entries_reach h s.facts.recorded.sent payloads k may.comes.entries) refl refl (inl refl) (live_runs s payloads may.comes.free) (entries_silent payloads)
serves_call h s (again payloads now) other may = resending h s s.facts.connection.serving payloads now (range_within s.facts.connection.serving may.comes.range (length payloads) may.comes.serves may.comes.within) refl
serves_call h s (taken count) other may = serves_silent h s (step s (taken count)) [] refl (λ k. k) refl refl (inl refl) (refl, refl) none_silent
serves_call h s reserve other may = serves_silent h s (step s reserve) [] refl (λ k. k) refl refl (inl refl) (refl, refl) none_silent
serves_call h s held_done other may = applying h s may.comes.going may.may_call.1

pub serves_as : (h : List Entry) (s : State) (call : Call) → IsOther h call → MayStand h s call → Serves h s (run s (call ∷ [])) (written s (call ∷ []))
serves_as h s call other may = subst (λ (out : List Piece). Serves h s (step s call) out) (sym (append-nil (writes s call))) (serves_call h s call other may)
