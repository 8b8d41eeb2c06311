-- What the number that a peer expects makes of the facts, and what a soft reader expects.
use Rattle.std.proofs.Common.{◌≡◌, ℕ, ◌+◌, ◌-◌, ◌≤◌, ◌==◌, ◌&&◌, max, min, nat_lt, not, Bool, true, false, if◌then◌else◌, List, [], ◌∷◌, ◌++◌, Option, Some, None, refl, sym, ap, ◌∙◌, arith, true≢false}
use Rattle.std.proofs.lemmas.Bool.{ltb-false}
use Rattle.fixp_msgs.specs.declared.numbering.Range.{Range}
use Rattle.fixp_msgs.specs.declared.messages.Expected.{Expected}
use Rattle.fixp_msgs.specs.Message.{Message, sequence}
use Rattle.flow_recover.specs.Receiving as receiver_is
use Rattle.flow_recover.specs.Receiving.{Receiving}
use Rattle.fixp_shake.specs.declared.config.EndConfig.{EndConfig}
use Rattle.fixp_shake.specs.Flows.{is_recoverable}
use Rattle.fixp_shake.specs.Phases.{is_shaken}
use Rattle.fixp_replies.specs.declared.facts.Facts.{Facts}
use Rattle.fixp_replies.specs.Facts.{Around, having_asked, expected_number}
use Rattle.fixp_replies.specs.Outcomes.{Outcome, goes_on, skip_of, told_skip}
use Rattle.fixp_replies.specs.Announcing.{Announced}
use Rattle.fixp_replies.specs.Expecting.{is_newer, number_in, takes, returned}
use Rattle.fixp_replies.specs.Handshake.{established, reached}
use Rattle.fixp_machine.specs.Sound.{may_return}
use Rattle.fixp_machine.proofs.Expecting.{IsTaken, taken, returned_if}
use Rattle.connection_laws.specs.Writing.{said, said_all}

-- what holds whether the number is taken or not holds of the facts behind it
pub by_taking : (P : Facts → Type 0) (x : Around) (f : Facts) (e : Expected) → (IsTaken x f e → P (record f { recorded = record f.recorded { sent = number_in e - 1 } })) → P f → P (returned x f e)
by_taking P x f e took kept = by_test (takes x f e) refl
  where
    by_test : (b : Bool) → takes x f e ≡ b → P (returned_if b f e)
    by_test true t = took (taken x f e t)
    by_test false t = kept

-- what an initiator makes of an acknowledgement, where a number is taken or not, and is the one announced or not
abbrev pub starting : (taken same : Bool) → Expected → List Message
starting t same e = if t && not same then sequence (number_in e) ∷ [] else []

abbrev pub reaching : Around → (interval : ℕ) → Expected → Announced → (taken same : Bool) → Outcome
reaching x interval e a t same = goes_on x (skip_of a.skipped) (told_skip a.skipped ++ starting t same e) (established (returned_if t a.facts e) interval)

pub by_reaching : (P : Outcome → Type 0) (x : Around) (keepalive : ℕ) (e : Expected) (a : Announced)
    → ((t same : Bool) → takes x a.facts e ≡ t → (number_in e == a.facts.recorded.sent + 1) ≡ same → P (reaching x (min 60000 (max 100 keepalive)) e a t same)) → P (reached x keepalive e a)
by_reaching P x keepalive e a f = f (takes x a.facts e) (number_in e == a.facts.recorded.sent + 1) refl refl

-- the handshake is done by a reply that takes the number
pub may_go_back : (x : Around) (f h g : Facts) (e : Expected) → IsTaken x h e → is_shaken f.connection.phase ≡ false → is_shaken g.connection.phase ≡ true → may_return x.config f g ≡ true
may_go_back x f h g e k before done = ap (λ a. a && is_recoverable x.config.own_flow && not (is_shaken f.connection.phase) && is_shaken g.connection.phase) k.newer
    ∙ (ap (λ a. a && not (is_shaken f.connection.phase) && is_shaken g.connection.phase) k.own
    ∙ (ap (λ a. not a && is_shaken g.connection.phase) before ∙ done))

pub returns_newer : (cfg : EndConfig) (f g : Facts) → may_return cfg f g ≡ true → is_newer cfg ≡ true
returns_newer cfg f g = by_test (is_newer cfg)
  where
    by_test : (b : Bool) → (b && is_recoverable cfg.own_flow && not (is_shaken f.connection.phase) && is_shaken g.connection.phase) ≡ true → b ≡ true
    by_test true e = refl
    by_test false e = absurd (true≢false (sym e))

pub said_behind : (ms more : List Message) → said_all (ms ++ more) ≡ said_all ms ++ said_all more
said_behind [] more = refl
said_behind (m ∷ ms) more = ap (λ ps. said m ∷ ps) (said_behind ms more)

-- a soft connection expects no greater number than another
pub expected_most : (x : Around) (f : Facts) → expected_number x f ≤ (if is_recoverable x.config.peer_flow then receiver_is.expected f.connection.receiver else f.recorded.inbox_next)
expected_most x f = by_tests (is_recoverable x.config.peer_flow) f.connection.soft
  where
    by_tests : (r s : Bool) → (if r then (if s then f.connection.receiver.next else receiver_is.expected f.connection.receiver) else f.recorded.inbox_next)
        ≤ (if r then receiver_is.expected f.connection.receiver else f.recorded.inbox_next)
    by_tests true true = omega arith
    by_tests true false = omega arith
    by_tests false s = omega arith

-- what is asked for leaves the inbox, the receiver, the phase and softness
pub record Unmoved (f g : Facts) : Type 0 where
  pub receiver : g.connection.receiver ≡ f.connection.receiver
  pub inbox : g.recorded.inbox_next ≡ f.recorded.inbox_next
  pub soft : g.connection.soft ≡ f.connection.soft
  pub phase : g.connection.phase ≡ f.connection.phase

pub asked_unmoved : (g : Facts) (r : Option Range) → Unmoved g (having_asked g r)
asked_unmoved g None = record { receiver = refl; inbox = refl; soft = refl; phase = refl }
asked_unmoved g (Some r) = record { receiver = refl; inbox = refl; soft = refl; phase = refl }

-- a receiver with no gap has come to the live number
pub no_gap_live : (r : Receiving) → receiver_is.gap None r ≡ None → r.live ≤ r.next
no_gap_live r e = by_test (nat_lt r.next r.live) refl e
  where
    missing : Range
    missing = record { from = r.next; count = r.live - r.next }

    by_test : (b : Bool) → nat_lt r.next r.live ≡ b → (if b then Some missing else None) ≡ None → r.live ≤ r.next
    by_test true t e = absurd cc
    by_test false t e = ltb-false r.next r.live t
