-- What the number that a peer expects makes of the facts: entries count as sent no longer.
use Rattle.std.proofs.Common.{◌≡◌, ◌≢◌, ℕ, ◌+◌, ◌-◌, ◌<◌, ◌≤◌, ◌^◌, ◌&&◌, nat_le, not, Bool, true, false, if◌then◌else◌, Option, Some, None, refl, sym, ap, ◌∙◌, arith, true≢false}
use Rattle.std.proofs.lemmas.Bool.Decides.{nat_tests}
use Rattle.fixp_msgs.specs.declared.messages.Expected.{Expected}
use Rattle.fixp_msgs.specs.declared.messages.Expected.TheVariants.{Absent, Null, Number}
use Rattle.fixp_msgs.specs.Canonical.{IsWritableField}
use Rattle.fixp_msgs.specs.Table.{Field, null}
use Rattle.fixp_shake.specs.declared.config.EndConfig.{EndConfig}
use Rattle.fixp_shake.specs.Flows.{is_recoverable}
use Rattle.fixp_shake.specs.Phases.{is_shaken}
use Rattle.fixp_replies.specs.declared.facts.Facts.{Facts}
use Rattle.fixp_replies.specs.Facts.{Around}
use Rattle.fixp_replies.specs.Expecting.{is_newer, is_present, number_in, told_next, answers_next, takes, returned}
use Rattle.fixp_machine.specs.Sound.{may_return, KeepsSent}

-- a number that is taken is one of those that may be
pub record IsTaken (x : Around) (f : Facts) (e : Expected) : Type 0 where
  pub newer : is_newer x.config ≡ true
  pub own : is_recoverable x.config.own_flow ≡ true
  pub low : 1 ≤ number_in e
  pub high : number_in e ≤ f.recorded.sent + 1

pub taken : (x : Around) (f : Facts) (e : Expected) → takes x f e ≡ true → IsTaken x f e
taken x f Absent t = absurd (true≢false (sym t))
taken x f Null t = absurd (true≢false (sym t))
taken x f (Number n) t = by_tests (is_newer x.config) (is_recoverable x.config.own_flow) (nat_le 1 n) (nat_le n (f.recorded.sent + 1)) refl refl refl refl t
  where
    by_tests : (a b c d : Bool) → is_newer x.config ≡ a → is_recoverable x.config.own_flow ≡ b → nat_le 1 n ≡ c → nat_le n (f.recorded.sent + 1) ≡ d
        → (a && b && c && d) ≡ true → IsTaken x f (Number n)
    by_tests true true true true newer own low high t = record { newer = newer; own = own; low = grind (arith, nat_tests); high = grind (arith, nat_tests) }
    by_tests false b c d newer own low high t = absurd (true≢false (sym t))
    by_tests true false c d newer own low high t = absurd (true≢false (sym t))
    by_tests true true false d newer own low high t = absurd (true≢false (sym t))
    by_tests true true true false newer own low high t = absurd (true≢false (sym t))

-- the facts behind it, by whether it is taken
abbrev pub returned_if : Bool → Facts → Expected → Facts
returned_if b f e = if b then record f { recorded = record f.recorded { sent = number_in e - 1 } } else f

-- nothing else moves
pub record Stays (f g : Facts) : Type 0 where
  pub connection : g.connection ≡ f.connection
  pub inbox_next : g.recorded.inbox_next ≡ f.recorded.inbox_next
  pub most : g.recorded.sent ≤ f.recorded.sent
  pub recorded : g.recorded ≡ record f.recorded { sent = g.recorded.sent }

pub returned_stays : (x : Around) (f : Facts) (e : Expected) → Stays f (returned x f e)
returned_stays x f e = by_test (takes x f e) refl
  where
    by_test : (b : Bool) → takes x f e ≡ b → Stays f (returned_if b f e)
    by_test true t = let k = taken x f e t in record { connection = refl; inbox_next = refl; most = omega (arith, k.high); recorded = refl }
    by_test false t = record { connection = refl; inbox_next = refl; most = omega arith; recorded = refl }

-- as many entries count as sent
pub kept : (cfg : EndConfig) (f g : Facts) → g.recorded.sent ≡ f.recorded.sent → KeepsSent cfg f g
kept cfg f g e = record { most = omega (arith, e); same = λ _. e }

-- the handshake is done, and the number was taken of facts that count as many as sent
pub returned_keeps : (x : Around) (f h g : Facts) (e : Expected) → is_shaken f.connection.phase ≡ false → is_shaken g.connection.phase ≡ true
    → h.recorded.sent ≡ f.recorded.sent → g.recorded.sent ≡ (returned x h e).recorded.sent → KeepsSent x.config f g
returned_keeps x f h g e before done sent behind = by_test (takes x h e) refl behind
  where
    by_test : (b : Bool) → takes x h e ≡ b → g.recorded.sent ≡ (returned_if b h e).recorded.sent → KeepsSent x.config f g
    by_test true t is =
        let k = taken x h e t in
        let may : may_return x.config f g ≡ true = ap (λ a. a && is_recoverable x.config.own_flow && not (is_shaken f.connection.phase) && is_shaken g.connection.phase) k.newer
        ∙ (ap (λ a. a && not (is_shaken f.connection.phase) && is_shaken g.connection.phase) k.own
        ∙ (ap (λ a. not a && is_shaken g.connection.phase) before ∙ done)) in
        record { most = omega (arith, is, k.high, sent); same = λ no. absurd (true≢false (sym may ∙ no)) }
    by_test false t is = kept x.config f g (is ∙ sent)

-- what is told may be written
pub told_writable : (x : Around) (f : Facts) → (is_recoverable x.config.peer_flow ≡ true → f.recorded.inbox_next + 1 < 2 ^ 64) → IsWritableField (Field.expected (told_next x f))
told_writable x f low = by_tests (is_newer x.config) (is_recoverable x.config.peer_flow) refl
  where
    by_tests : (a b : Bool) → is_recoverable x.config.peer_flow ≡ b
        → IsWritableField (Field.expected (if not a then Absent else if b then Number f.recorded.inbox_next else Null))
    by_tests false b r = tt
    by_tests true true r = λ e. omega (arith, low r, e)
    by_tests true false r = tt

pub answer_writable : (x : Around) (e : Expected) (f : Facts) → (is_recoverable x.config.peer_flow ≡ true → f.recorded.inbox_next + 1 < 2 ^ 64) → IsWritableField (Field.expected (answers_next x e f))
answer_writable x e f low = by_test (is_present e)
  where
    by_test : (b : Bool) → IsWritableField (Field.expected (if b then told_next x f else Absent))
    by_test true = told_writable x f low
    by_test false = tt
