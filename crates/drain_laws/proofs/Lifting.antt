-- What an outcome makes of the measure, by how it is made: it ends the connection, leaves it as it was, or goes on with it, and then a gap
-- may be asked for.
use Rattle.std.proofs.Common.{◌≡◌, ℕ, ◌+◌, ◌-◌, ◌*◌, ◌≤◌, ◌==◌, ◌&&◌, ◌||◌, max, min, nat_lt, not, Bool, true, false, if◌then◌else◌, List, [], ◌∷◌, ◌++◌, length, Option, Some, None, refl, sym, ap, arith, true≢false}
use Rattle.std.specs.Prelude.{is_some, unwrap_or, IfSome}
use Rattle.std.proofs.lemmas.Bool.{ltb-true}
use Rattle.fixp_msgs.specs.declared.messages.Expected.{Expected}
use Rattle.fixp_msgs.specs.declared.numbering.Range.{Range}
use Rattle.fixp_msgs.specs.Message.{Message, sequence, retransmit_request, terminate}
use Rattle.flow_recover.specs.Receiving as receiver_is
use Rattle.flow_recover.specs.Receiving.{gap_end}
use Rattle.flow_retrans.specs.declared.request.Request.{Request}
use Rattle.flow_retrans.specs.declared.request.Request.TheVariants as requests
use Rattle.flow_retrans.specs.declared.requester.BadStart.{BadStart}
use Rattle.flow_retrans.specs.Requests as request_is
use Rattle.fixp_shake.specs.declared.config.EndConfig.{EndConfig}
use Rattle.fixp_shake.specs.declared.violation.Violation.{Violation}
use Rattle.fixp_shake.specs.Flows.{is_recoverable, is_idempotent}
use Rattle.fixp_shake.specs.Phases.{is_established, is_closing, is_shaken}
use Rattle.fixp_replies.specs.declared.act.Act.{Act}
use Rattle.fixp_replies.specs.declared.act.Ending.{Ending}
use Rattle.fixp_replies.specs.declared.facts.Connection.{Connection}
use Rattle.fixp_replies.specs.declared.facts.Facts.{Facts}
use Rattle.fixp_replies.specs.Facts.{Around, is_initiator, receiving, requesting, firm, awaiting, gap_to_ask, having_asked}
use Rattle.fixp_replies.specs.Outcomes.{Outcome, goes_on, rejects, ends_with, ends, request_for, timestamp as timestamp_of, skip_of, told_skip}
use Rattle.fixp_replies.specs.Announcing.{Announced, jumped_over, announced, refuses}
use Rattle.fixp_replies.specs.Expecting.{number_in, takes, returned, told_return}
use Rattle.fixp_replies.specs.Handshake.{established}
use Rattle.fixp_replies.specs.Flowing.{bad_retransmission}
use Rattle.fixp_machine.specs.Machine.{to_tell}
use Rattle.fixp_machine.proofs.Expecting.{returned_stays}
use Rattle.drain_laws.specs.Weights.{weights}
use Rattle.drain_laws.specs.Loads.{unsent, sent_load, served_load, told_load, own_load, end_of, open_load, lost_load, read_load, peer_load, closing_load, load}
use Rattle.drain_laws.specs.Frames.{Lowers}

pub weights_append : (ms more : List Message) → weights (ms ++ more) ≡ weights ms + weights more
weights_append [] more = omega arith
weights_append (m ∷ ms) more = let e = weights_append ms more in omega (arith, e)

-- both flows of an end
abbrev pub flows : EndConfig → (m n : ℕ) → Facts → ℕ
flows c m n f = own_load c m f + peer_load c n f

-- what is still to be sent
abbrev pub sending : EndConfig → (m : ℕ) → Facts → ℕ
sending c m f = sent_load (is_idempotent c.own_flow) (unsent (is_shaken f.connection.phase) m f.recorded.sent)

-- and the other parts of both flows
abbrev pub rest : EndConfig → (n : ℕ) → Connection → ℕ
rest c n k =
    (served_load k.serving + told_load k.own_finish)
    + (lost_load (is_recoverable c.peer_flow) n (max k.receiver.next (end_of k.requester)) + (open_load k.requester + read_load k.peer_finish))

-- what is left of the closing, where the connection goes on
abbrev pub closing : EndConfig → Facts → ℕ
closing c f = closing_load (is_initiator c.role) (is_closing f.connection.phase)

-- An outcome lowers the measure
pub record Low (x : Around) (m n : ℕ) (f : Facts) (w k : ℕ) (o : Outcome) : Type 0 where
  pub lowers : Lowers x.config m n f w k o

pub close_least : (initiates closing : Bool) → 4 ≤ closing_load initiates closing
close_least true true = omega arith
close_least true false = omega arith
close_least false closing = omega arith

-- the connection ends
pub stopping : (x : Around) (m n : ℕ) (f g : Facts) (written : List Message) (ending : Ending) (w k : ℕ)
    → weights written + k + flows x.config m n g ≤ w + flows x.config m n f + 4 → Low x m n f w k (ends_with x g written ending)
stopping x m n f g written ending w k h =
    let c = close_least (is_initiator x.config.role) (is_closing f.connection.phase) in record { lowers = λ _. omega (arith, h, c) }

pub halting : (x : Around) (m n : ℕ) (f g : Facts) (w k code : ℕ) (ending : Ending) → 4 + k + flows x.config m n g ≤ w + flows x.config m n f + 4 → Low x m n f w k (ends x g code ending)
halting x m n f g w k code ending h = stopping x m n f g (terminate x.config.session code [] ∷ []) ending w k (omega (arith, h))

pub breaking : (x : Around) (m n : ℕ) (f : Facts) (w k code : ℕ) (ending : Ending) → k ≤ w → Low x m n f w k (ends x f code ending)
breaking x m n f w k code ending h = halting x m n f f w k code ending (omega (arith, h))

-- it stays as it was
pub resting : (x : Around) (m n : ℕ) (f : Facts) (written : List Message) (w k : ℕ) → weights written + k ≤ w → Low x m n f w k (rejects written f)
resting x m n f written w k h = record { lowers = λ _. omega (arith, h) }

pub bad : (x : Around) (m n : ℕ) (f : Facts) (w k : ℕ) (b : Option BadStart) → k ≤ w → Low x m n f w k (bad_retransmission x f b)
bad x m n f w k None h = resting x m n f [] w k (omega (arith, h))
bad x m n f w k (Some b) h = breaking x m n f w k 2 _ h

pub refusing : (x : Around) (m n : ℕ) (f : Facts) (w k : ℕ) (v : Option Violation) → k ≤ w → Low x m n f w k (refuses x f v)
refusing x m n f w k None h = resting x m n f [] w k (omega (arith, h))
refusing x m n f w k (Some v) h = breaking x m n f w k 2 _ h

-- a gap that is asked for: of a recoverable flow, where nothing was asked for, from the number that the inbox awaits on
pub record Missing (x : Around) (g : Facts) (r : Range) : Type 0 where
  pub recovers : is_recoverable x.config.peer_flow ≡ true
  pub unasked : g.connection.requester ≡ requests.Nothing
  pub from : r.from ≡ g.connection.receiver.next
  pub some : 1 ≤ r.count

pub missing : (x : Around) (g : Facts) → IfSome (gap_to_ask x g) (Missing x g)
missing x g =
    by_tests g.connection.soft g.connection.requester (is_recoverable x.config.peer_flow) (nat_lt g.connection.receiver.next (gap_end x.held g.connection.receiver.live)) refl refl refl
  where
    positive : (n k : ℕ) → nat_lt n k ≡ true → 1 ≤ k - n
    positive n k t = let h = ltb-true n k t in omega (arith, h)

    by_tests : (soft : Bool) (q : Request) (rec past : Bool) → g.connection.requester ≡ q → is_recoverable x.config.peer_flow ≡ rec
        → nat_lt g.connection.receiver.next (gap_end x.held g.connection.receiver.live) ≡ past
        → IfSome (if soft || is_some (request_is.outstanding q) then None
        else (if rec then (if past then Some (record { from = g.connection.receiver.next; count = gap_end x.held g.connection.receiver.live - g.connection.receiver.next }) else None) else None)) (Missing x g)
    by_tests true q rec past e r t = tt
    by_tests false (requests.Asked range) rec past e r t = tt
    by_tests false (requests.Coming range next left) rec past e r t = tt
    by_tests false requests.Nothing false past e r t = tt
    by_tests false requests.Nothing true false e r t = tt
    by_tests false requests.Nothing true true e r t = record { recovers = r; unasked = e; from = refl; some = positive g.connection.receiver.next (gap_end x.held g.connection.receiver.live) t }

-- a request pays less than each number that it asks for does
asking_lowers : (recoverable : Bool) (n next from count : ℕ) (q : Request) → recoverable ≡ true → q ≡ requests.Nothing → from ≡ next → 1 ≤ count
    → max next (from + min 256 count) ≤ n + 1
    → 8 + 9 * min 256 count + (lost_load recoverable n (max next (from + min 256 count)) + 3) ≤ lost_load recoverable n (max next (end_of q)) + open_load q
asking_lowers true n next from count requests.Nothing r e same some most = omega arith
asking_lowers true n next from count (requests.Asked range) r e same some most = absurd cc
asking_lowers true n next from count (requests.Coming range number left) r e same some most = absurd cc
asking_lowers false n next from count q r e same some most = absurd (true≢false (sym r))

-- it goes on, and what is missing is asked for
asking : (x : Around) (m n : ℕ) (f g : Facts) (act : Act) (written : List Message) (w k : ℕ)
    → weights written + 4 * length (to_tell x.config act) + k + load x.config m n g None ≤ w + load x.config m n f None
    → (r : Option Range) → IfSome r (Missing x g)
    → Low x m n f w k (record { act = act; written = written ++ request_for x r; next = having_asked g r; ending = None; accepted = true; holds = None })
asking x m n f g act written w k h None is = record { lowers = λ _. let e = weights_append written [] in omega (arith, h, e) }
asking x m n f g act written w k h (Some r) is = record {
  lowers = λ bound.
      let most = bound refl is.recovers in
      let e = weights_append written (retransmit_request x.config.session (timestamp_of x) (request_is.first_of_gap r).from (request_is.first_of_gap r).count ∷ []) in
      let lower = asking_lowers (is_recoverable x.config.peer_flow) n g.connection.receiver.next r.from r.count g.connection.requester is.recovers is.unasked is.from is.some most in
      omega (arith, h, e, lower);
}

pub going : (x : Around) (m n : ℕ) (f g : Facts) (act : Act) (written : List Message) (w k : ℕ)
    → weights written + 4 * length (to_tell x.config act) + k + load x.config m n g None ≤ w + load x.config m n f None → Low x m n f w k (goes_on x act written g)
going x m n f g act written w k h = asking x m n f g act written w k h (gap_to_ask x g) (missing x g)

-- what the acts of a handshake and of a skip leave to be told
pub skip_tells : (c : EndConfig) (s : Option Range) → 4 * length (to_tell c (skip_of s)) ≡ 0
skip_tells c None = refl
skip_tells c (Some s) = refl

pub skip_weighs : (s : Option Range) → weights (told_skip s) ≤ 4
skip_weighs None = omega arith
skip_weighs (Some s) = omega arith

pub return_weighs : (x : Around) (f : Facts) (e : Expected) → weights (told_return x f e) ≤ 1
return_weighs x f e = by_test (takes x f e && not (number_in e == f.recorded.sent + 1))
  where
    by_test : (b : Bool) → weights (if b then sequence (number_in e) ∷ [] else []) ≤ 1
    by_test true = omega arith
    by_test false = omega arith

-- before the handshake is done
or_false : (a b : Bool) → (a || b) ≡ false → b ≡ false
or_false true b e = absurd (true≢false e)
or_false false b e = e

pub sending_before : (c : EndConfig) (m : ℕ) (f : Facts) → is_shaken f.connection.phase ≡ false → sending c m f ≡ sent_load (is_idempotent c.own_flow) m
sending_before c m f e = ap (λ b. sent_load (is_idempotent c.own_flow) (unsent b m f.recorded.sent)) e

pub closing_before : (c : EndConfig) (f : Facts) → is_shaken f.connection.phase ≡ false → closing c f ≡ closing_load (is_initiator c.role) false
closing_before c f e = ap (λ b. closing_load (is_initiator c.role) b) (or_false (is_established f.connection.phase) (is_closing f.connection.phase) e)

pub sends_less : (idempotent : Bool) (j k : ℕ) → j ≤ k → sent_load idempotent j ≤ sent_load idempotent k
sends_less true j k h = omega arith
sends_less false j k h = omega arith

pub loses_less : (recoverable : Bool) (n j k : ℕ) → j ≤ k → lost_load recoverable n k ≤ lost_load recoverable n j
loses_less true n j k h = omega arith
loses_less false n j k h = omega arith

-- an announcement moves none of these
pub record Unmoved (c : EndConfig) (m n : ℕ) (f g : Facts) : Type 0 where
  pub rest_same : rest c n g.connection ≡ rest c n f.connection
  pub sending_same : sending c m g ≡ sending c m f
  pub closing_same : closing c g ≡ closing c f
  pub read_same : read_load g.connection.peer_finish ≡ read_load f.connection.peer_finish

abbrev chosen : Facts → ℕ → Bool → Bool → Announced
chosen f n recoverable idempotent =
    if recoverable then record { facts = firm (receiving f (receiver_is.announced f.connection.receiver n)); skipped = None }
    else if idempotent then record { facts = awaiting f n; skipped = jumped_over f.recorded.inbox_next n }
    else record { facts = f; skipped = None }

pub unmoved : (x : Around) (m n : ℕ) (f : Facts) (next : Option ℕ) → Unmoved x.config m n f (announced x f next).facts
unmoved x m n f next = by_flow (is_recoverable x.config.peer_flow) (is_idempotent x.config.peer_flow)
  where
    by_flow : (r i : Bool) → Unmoved x.config m n f (chosen f (unwrap_or next 0) r i).facts
    by_flow true i = record { rest_same = refl; sending_same = refl; closing_same = refl; read_same = refl }
    by_flow false true = record { rest_same = refl; sending_same = refl; closing_same = refl; read_same = refl }
    by_flow false false = record { rest_same = refl; sending_same = refl; closing_same = refl; read_same = refl }

-- what is asked for moves no number that is skipped
pub skips_same : (x : Around) (f : Facts) (q : Request) (next : Option ℕ) → (announced x (requesting f q) next).skipped ≡ (announced x f next).skipped
skips_same x f q next = by_flow (is_recoverable x.config.peer_flow) (is_idempotent x.config.peer_flow)
  where
    by_flow : (r i : Bool) → (chosen (requesting f q) (unwrap_or next 0) r i).skipped ≡ (chosen f (unwrap_or next 0) r i).skipped
    by_flow true i = refl
    by_flow false true = refl
    by_flow false false = refl

-- the handshake is done: no more is to be sent than before
pub established_load : (c : EndConfig) (m n : ℕ) (f h : Facts) (interval : ℕ) → is_shaken f.connection.phase ≡ false → rest c n h.connection ≡ rest c n f.connection
    → load c m n (established h interval) None ≤ load c m n f None
established_load c m n f h interval before same =
    let s = sends_less (is_idempotent c.own_flow) (m - h.recorded.sent) m (omega arith) in
    let b = sending_before c m f before in
    let e = closing_before c f before in
    omega (arith, s, b, e, same)

-- whatever number is taken then
pub returned_rest : (x : Around) (n : ℕ) (f : Facts) (e : Expected) → rest x.config n (returned x f e).connection ≡ rest x.config n f.connection
returned_rest x n f e = ap (λ k. rest x.config n k) (returned_stays x f e).connection
