-- What an outcome makes of what is counted, by how it is made.
use Rattle.std.proofs.Common.{◌≡◌, ℕ, ◌+◌, ◌==◌, ◌&&◌, not, Bool, true, false, if◌then◌else◌, List, [], ◌∷◌, ◌++◌, Option, Some, None, refl, sym, ap, subst, ◌∙◌, arith}
use Rattle.std.specs.Prelude.{is_some, IfSome}
use Rattle.fixp_msgs.specs.declared.messages.Expected.{Expected}
use Rattle.fixp_msgs.specs.declared.numbering.Range.{Range}
use Rattle.fixp_msgs.specs.Message.{Message, sequence, retransmit_request}
use Rattle.flow_retrans.specs.declared.request.Request.{Request}
use Rattle.flow_retrans.specs.Requests as request_is
use Rattle.fixp_shake.specs.Phases.{is_idle, is_closing, is_shaken}
use Rattle.fixp_replies.specs.declared.act.Act.{Act}
use Rattle.fixp_replies.specs.declared.act.Ending.{Ending}
use Rattle.fixp_replies.specs.declared.facts.Facts.{Facts}
use Rattle.fixp_replies.specs.Incoming.{Incoming}
use Rattle.fixp_replies.specs.Facts.{Around, is_initiator, gap_to_ask, having_asked}
use Rattle.fixp_replies.specs.Outcomes.{Outcome, goes_on, rejects, ends_with, request_for, timestamp as timestamp_of, told_skip}
use Rattle.fixp_replies.specs.Expecting.{number_in, takes, told_return}
use Rattle.drain_laws.specs.Counts.{finish, answer, request, restart, opening, shutting, among, in_frame, read_of, answered_of, told_of, exchanged_of, unanswered_of, unshaken_of, unanswered}
use Rattle.drain_laws.specs.Frames.{Fills}
use Rattle.drain_laws.specs.Evens.{FinishesEven, AsksEven, OpensEven, Evens, HasRequest, WaitsOn}
use Rattle.drain_laws.proofs.Lifting.{Missing, missing}

pub among_append : (kind : Message → ℕ) (ms more : List Message) → among kind (ms ++ more) ≡ among kind ms + among kind more
among_append kind [] more = omega arith
among_append kind (m ∷ ms) more = let e = among_append kind ms more in omega (arith, e)

-- messages of no kind that is counted
pub record Silent (ms : List Message) : Type 0 where
  pub no_finish : among finish ms ≡ 0
  pub no_answer : among answer ms ≡ 0
  pub no_request : among request ms ≡ 0
  pub no_restart : among restart ms ≡ 0
  pub no_opening : among opening ms ≡ 0
  pub no_shutting : among shutting ms ≡ 0

pub none_silent : Silent []
none_silent = record { no_finish = refl; no_answer = refl; no_request = refl; no_restart = refl; no_opening = refl; no_shutting = refl }

pub skip_silent : (s : Option Range) → Silent (told_skip s)
skip_silent None = none_silent
skip_silent (Some s) = record { no_finish = refl; no_answer = refl; no_request = refl; no_restart = refl; no_opening = refl; no_shutting = refl }

pub return_silent : (x : Around) (f : Facts) (e : Expected) → Silent (told_return x f e)
return_silent x f e = by_test (takes x f e && not (number_in e == f.recorded.sent + 1))
  where
    by_test : (b : Bool) → Silent (if b then sequence (number_in e) ∷ [] else [])
    by_test true = record { no_finish = refl; no_answer = refl; no_request = refl; no_restart = refl; no_opening = refl; no_shutting = refl }
    by_test false = none_silent

pub silent_both : (ms more : List Message) → Silent ms → Silent more → Silent (ms ++ more)
silent_both ms more a b =
    let f = among_append finish ms more in
    let w = among_append answer ms more in
    let q = among_append request ms more in
    let r = among_append restart ms more in
    let o = among_append opening ms more in
    let s = among_append shutting ms more in
    record { no_finish = omega (arith, f); no_answer = omega (arith, w); no_request = omega (arith, q); no_restart = omega (arith, r); no_opening = omega (arith, o); no_shutting = omega (arith, s) }

-- a frame of none of them
pub record Spare (i : Incoming) : Type 0 where
  pub no_finish : in_frame finish i ≡ 0
  pub no_answer : in_frame answer i ≡ 0
  pub no_request : in_frame request i ≡ 0
  pub no_restart : in_frame restart i ≡ 0
  pub no_opening : in_frame opening i ≡ 0

-- where a connection goes on, all is even
pub record Goes (x : Around) (f : Facts) (i : Incoming) (o : Outcome) : Type 0 where
  pub evens : o.ending ≡ None → Evens (is_initiator x.config.role) f i o.next o.written
  pub waits : o.ending ≡ None → WaitsOn x f i o.next

pub stops : (x : Around) (f g : Facts) (i : Incoming) (written : List Message) (ending : Ending) → Goes x f i (ends_with x g written ending)
stops x f g i written ending = record { evens = λ over. absurd cc; waits = λ over. absurd cc }

-- it is asked for what is missing
asking : (x : Around) (initiates : Bool) (f g : Facts) (i : Incoming) (written : List Message) → Evens initiates f i g written → (r : Option Range) → IfSome r (Missing x g)
    → Evens initiates f i (having_asked g r) (written ++ request_for x r)
asking x initiates f g i written e None is =
    let w = among_append answer written [] in
    let t = among_append finish written [] in
    let q = among_append request written [] in
    let r = among_append restart written [] in
    let o = among_append opening written [] in
    let s = among_append shutting written [] in
    record {
      finishes = record {
        read = λ h. let k = e.finishes.read h in omega (arith, k, w);
        told = e.finishes.told;
        quiet = let k = e.finishes.quiet in omega (arith, k, t);
        answered = λ h. let k = e.finishes.answered h in omega (arith, k, w);
        exchanged = e.finishes.exchanged;
      };
      asks = record { once = λ h. let k = e.asks.once h in omega (arith, k, q); served = let k = e.asks.served in omega (arith, k, r) };
      opens = record {
        initiator = λ h. let k = e.opens.initiator h in omega (arith, k, o);
        acceptor = λ h j. let k = e.opens.acceptor h j in omega (arith, k, o);
        shuts = let k = e.opens.shuts in omega (arith, k, s);
        closing = e.opens.closing;
        stays = e.opens.stays;
        idle = e.opens.idle;
      };
      fills = e.fills;
    }
asking x initiates f g i written e (Some gap) is =
    let more : List Message = retransmit_request x.config.session (timestamp_of x) (request_is.first_of_gap gap).from (request_is.first_of_gap gap).count ∷ [] in
    let w = among_append answer written more in
    let t = among_append finish written more in
    let q = among_append request written more in
    let r = among_append restart written more in
    let o = among_append opening written more in
    let s = among_append shutting written more in
    let none = ap unanswered_of is.unasked in
    let some = is.some in
    record {
      finishes = record {
        read = λ h. let k = e.finishes.read h in omega (arith, k, w);
        told = e.finishes.told;
        quiet = let k = e.finishes.quiet in omega (arith, k, t);
        answered = λ h. let k = e.finishes.answered h in omega (arith, k, w);
        exchanged = e.finishes.exchanged;
      };
      asks = record { once = λ h. let k = e.asks.once h in omega (arith, k, q, none); served = let k = e.asks.served in omega (arith, k, r) };
      opens = record {
        initiator = λ h. let k = e.opens.initiator h in omega (arith, k, o);
        acceptor = λ h j. let k = e.opens.acceptor h j in omega (arith, k, o);
        shuts = let k = e.opens.shuts in omega (arith, k, s);
        closing = e.opens.closing;
        stays = e.opens.stays;
        idle = e.opens.idle;
      };
      fills = λ _ _ _. (is.from, omega (arith, some));
    }

pub going : (x : Around) (f g : Facts) (i : Incoming) (act : Act) (written : List Message) → Evens (is_initiator x.config.role) f i g written → (gap_to_ask x g ≡ None → WaitsOn x f i g) → Goes x f i (goes_on x act written g)
going x f g i act written e w = record {
  evens = λ _. asking x (is_initiator x.config.role) f g i written e (gap_to_ask x g) (missing x g);
  waits = λ _. by_gap (gap_to_ask x g) refl;
}
  where
    by_gap : (r : Option Range) → gap_to_ask x g ≡ r → WaitsOn x f i (having_asked g r)
    by_gap None none = w none
    by_gap (Some r) some = λ _ _ _. refl

-- a finish waits as it did
pub waits_so : (x : Around) (f g : Facts) (i : Incoming) → g.connection.peer_finish ≡ f.connection.peer_finish → (HasRequest f → HasRequest g) → WaitsOn x f i g
waits_so x f g i theirs more = λ _ before now. more (before (sym (ap read_of theirs) ∙ now))

pub waits_same : (x : Around) (f g : Facts) (i : Incoming) → g.connection.peer_finish ≡ f.connection.peer_finish → g.connection.requester ≡ f.connection.requester → WaitsOn x f i g
waits_same x f g i theirs same = waits_so x f g i theirs (λ h. ap (λ q. is_some (request_is.outstanding q)) same ∙ h)

-- the parts where nothing of them moves
pub finishes_stay : (f g : Facts) (i : Incoming) (ms : List Message) → g.connection.own_finish ≡ f.connection.own_finish → g.connection.peer_finish ≡ f.connection.peer_finish → among finish ms ≡ 0 → among answer ms ≡ 0
    → in_frame finish i ≡ 0 → in_frame answer i ≡ 0 → FinishesEven f i g ms
finishes_stay f g i ms mine theirs no_finish no_answer none no_reply =
    let a = ap read_of theirs in
    let b = ap answered_of theirs in
    let c = ap told_of mine in
    let d = ap exchanged_of mine in
    record { read = λ _. omega (arith, a, no_answer, none); told = omega (arith, c, no_reply); quiet = no_finish; answered = λ _. omega (arith, b, no_answer); exchanged = omega (arith, d, no_reply) }

pub asks_stay : (f g : Facts) (i : Incoming) (ms : List Message) → unanswered g ≡ unanswered f → among request ms ≡ 0 → among restart ms ≡ 0 → in_frame restart i ≡ 0 → in_frame request i ≡ 0 → AsksEven f i g ms
asks_stay f g i ms same no_request no_restart none no_ask = record { once = λ _. omega (arith, same, no_request, none); served = omega (arith, no_restart, no_ask) }

pub opens_stay : (initiates : Bool) (f g : Facts) (i : Incoming) (ms : List Message) → is_closing f.connection.phase ≡ false → g.connection.phase ≡ f.connection.phase → among opening ms ≡ in_frame opening i → among shutting ms ≡ 0 → OpensEven initiates f i g ms
opens_stay initiates f g i ms yet same even shuts =
    let u = ap (λ p. unshaken_of (is_shaken p)) same in
    record {
      initiator = λ _. omega (arith, u, even);
      acceptor = λ _ _. even;
      shuts = shuts;
      closing = ap (λ p. is_closing p) same ∙ yet;
      stays = λ t. ap (λ p. is_shaken p) same ∙ t;
      idle = λ _ t. ap (λ p. is_idle p) same ∙ t;
    }

-- the facts that are counted are the same
pub record Same (f g : Facts) : Type 0 where
  pub phase : g.connection.phase ≡ f.connection.phase
  pub mine : g.connection.own_finish ≡ f.connection.own_finish
  pub theirs : g.connection.peer_finish ≡ f.connection.peer_finish
  pub requester : g.connection.requester ≡ f.connection.requester
  pub next : g.connection.receiver.next ≡ f.connection.receiver.next

pub still : (f : Facts) → Same f f
still f = record { phase = refl; mine = refl; theirs = refl; requester = refl; next = refl }

pub fills_same : (f g : Facts) → Same f g → Fills f.connection.receiver.next f.connection.requester → Fills g.connection.receiver.next g.connection.requester
fills_same f g s h = subst (λ (n : ℕ). Fills n g.connection.requester) (sym s.next) (subst (λ (q : Request). Fills f.connection.receiver.next q) (sym s.requester) h)

-- so all is even where as many messages of the handshake are written as come
pub even_opening : (initiates : Bool) (f g : Facts) (i : Incoming) (ms : List Message) → is_closing f.connection.phase ≡ false → Same f g → among finish ms ≡ 0 → among answer ms ≡ 0 → among request ms ≡ 0 → among restart ms ≡ 0 → among shutting ms ≡ 0
    → among opening ms ≡ in_frame opening i → in_frame finish i ≡ 0 → in_frame answer i ≡ 0 → in_frame restart i ≡ 0 → in_frame request i ≡ 0 → Evens initiates f i g ms
even_opening initiates f g i ms yet s a b c d e even h j k l = record {
  finishes = finishes_stay f g i ms s.mine s.theirs a b h j;
  asks = asks_stay f g i ms (ap unanswered_of s.requester) c d k l;
  opens = opens_stay initiates f g i ms yet s.phase even e;
  fills = λ h _ _. fills_same f g s h;
}

pub passing : (x : Around) (f g : Facts) (i : Incoming) (act : Act) (ms : List Message) → is_closing f.connection.phase ≡ false → Same f g → Silent ms → Spare i → Goes x f i (goes_on x act ms g)
passing x f g i act ms yet s a b = going x f g i act ms
    (even_opening (is_initiator x.config.role) f g i ms yet s a.no_finish a.no_answer a.no_request a.no_restart a.no_shutting (a.no_opening ∙ sym b.no_opening) b.no_finish b.no_answer b.no_restart b.no_request) (λ _. waits_same x f g i s.theirs s.requester)

-- it stays as it was, and this is written
pub staying : (x : Around) (f : Facts) (i : Incoming) (m : Message) → is_closing f.connection.phase ≡ false → finish m ≡ 0 → answer m ≡ 0 → request m ≡ 0 → restart m ≡ 0 → shutting m ≡ 0
    → opening m ≡ in_frame opening i → in_frame finish i ≡ 0 → in_frame answer i ≡ 0 → in_frame restart i ≡ 0 → in_frame request i ≡ 0 → Goes x f i (rejects (m ∷ []) f)
staying x f i m yet a b c d e even h j k l = record {
  evens = λ _. even_opening (is_initiator x.config.role) f f i (m ∷ []) yet (still f) (omega (arith, a)) (omega (arith, b)) (omega (arith, c)) (omega (arith, d)) (omega (arith, e)) (omega (arith, even)) h j k l;
  waits = λ _. waits_same x f f i refl refl;
}
