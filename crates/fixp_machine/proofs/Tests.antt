-- What the tests of the rows mean.
use Rattle.std.proofs.Common.{◌≡◌, ℕ, ◌+◌, ◌-◌, ◌<◌, ◌≤◌, ◌==◌, ◌||◌, nat_lt, nat_le, not, Bool, true, false, if◌then◌else◌, Option, Some, None, refl, sym, ap, ◌∙◌, arith, eqb-true, true≢false}
use Rattle.std.specs.Prelude.{is_some}
use Rattle.std.proofs.lemmas.Bool.Decides.{nat_tests}
use Rattle.fixp_msgs.specs.declared.numbering.Range.{Range}
use Rattle.flow_recover.specs.declared.numbers.Seen.{Seen}
use Rattle.flow_recover.specs.declared.numbers.Seen.TheVariants.{Deliver, Hold, Gap, Repeat}
use Rattle.flow_recover.specs.Receiving as receiver_is
use Rattle.flow_recover.specs.Receiving.{reach}
use Rattle.fixp_shake.specs.Flows.{is_recoverable}
use Rattle.fixp_replies.specs.declared.facts.Facts.{Facts}
use Rattle.fixp_replies.specs.Facts.{Around, gap_of}
use Rattle.fixp_shake.specs.declared.phase.Phase.{Phase}
use Rattle.fixp_shake.specs.declared.phase.Phase.TheVariants as phases
use Rattle.fixp_shake.specs.Phases.{is_idle, is_negotiating, is_establishing, is_established, is_closing, is_shaken}

pub not_true : (b : Bool) → not b ≡ false → b ≡ true
not_true true e = refl
not_true false e = absurd (true≢false e)

pub not_false : (b : Bool) → not b ≡ true → b ≡ false
not_false true e = absurd (true≢false (sym e))
not_false false e = refl

pub none-some : {A : Type 0} (o : Option A) → is_some o ≡ true → o ≡ None → ⊥
none-some None t e = true≢false (sym t)
none-some (Some a) t e = true≢false (sym t ∙ ap is_some e)

pub some-none : {A : Type 0} (o : Option A) → is_some o ≡ false → o ≡ None
some-none None e = refl
some-none (Some a) e = absurd (true≢false e)

-- a message delivered is the one waited for
pub delivers : (next k n : ℕ) → receiver_is.seen_as next k ≡ Deliver n → (n ≡ k) × (k ≡ next)
delivers next k n = by_tests (k == next) (nat_lt k next) (nat_le k (next + reach)) refl
  where
    by_tests : (same below near : Bool) → (k == next) ≡ same
        → (if same then Deliver k else if below then Repeat k else if near then Hold k else Gap k) ≡ Deliver n → (n ≡ k) × (k ≡ next)
    by_tests true below near t e = (cc e, eqb-true k next t)
    by_tests false true near t e = absurd cc
    by_tests false false true t e = absurd cc
    by_tests false false false t e = absurd cc

-- one that is held is past that, and within reach
pub holds : (next k n : ℕ) → receiver_is.seen_as next k ≡ Hold n → (n ≡ k) × (next < k) × (k ≤ next + reach)
holds next k n = by_tests (k == next) (nat_lt k next) (nat_le k (next + reach)) refl refl refl
  where
    by_tests : (same below near : Bool) → (k == next) ≡ same → nat_lt k next ≡ below → nat_le k (next + reach) ≡ near
        → (if same then Deliver k else if below then Repeat k else if near then Hold k else Gap k) ≡ Hold n → (n ≡ k) × (next < k) × (k ≤ next + reach)
    by_tests true below near t u v e = absurd cc
    by_tests false true near t u v e = absurd cc
    by_tests false false true t u v e = (cc e, grind (arith, nat_tests), grind (arith, nat_tests))
    by_tests false false false t u v e = absurd cc

-- and any other is not
pub record Passes (next k n : ℕ) : Type 0 where
  pub hold : receiver_is.seen_as next k ≡ Hold n → (k == next) ≡ false
  pub gap : receiver_is.seen_as next k ≡ Gap n → (k == next) ≡ false
  pub repeat : receiver_is.seen_as next k ≡ Repeat n → (k == next) ≡ false

abbrev seen_if : ℕ → ℕ → Bool → Seen
seen_if next k same = if same then Deliver k else if nat_lt k next then Repeat k else if nat_le k (next + reach) then Hold k else Gap k

pub passes : (next k n : ℕ) → Passes next k n
passes next k n = record { hold = by_hold (k == next) refl; gap = by_gap (k == next) refl; repeat = by_repeat (k == next) refl }
  where
    by_hold : (same : Bool) → (k == next) ≡ same → seen_if next k same ≡ Hold n → (k == next) ≡ false
    by_hold true t e = absurd cc
    by_hold false t e = t

    by_gap : (same : Bool) → (k == next) ≡ same → seen_if next k same ≡ Gap n → (k == next) ≡ false
    by_gap true t e = absurd cc
    by_gap false t e = t

    by_repeat : (same : Bool) → (k == next) ≡ same → seen_if next k same ≡ Repeat n → (k == next) ≡ false
    by_repeat true t e = absurd cc
    by_repeat false t e = t

-- an even receiver has no gap
abbrev gap_if : Bool → Range → Option Range
gap_if b g = if b then Some g else None

pub no_gap : (next live : ℕ) → live ≡ next → gap_if (nat_lt next live) (record { from = next; count = live - next }) ≡ None
no_gap next live e = by_test (nat_lt next live) refl
  where
    by_test : (b : Bool) → nat_lt next live ≡ b → gap_if b (record { from = next; count = live - next }) ≡ None
    by_test true t = let no : ⊥ = grind (arith, nat_tests) in absurd no
    by_test false t = refl

-- and a flow that is not recoverable has none; nor has one where nothing is held and no number is missing
pub no_gap_of : (x : Around) (f : Facts) → x.held ≡ None → f.connection.receiver.live ≡ f.connection.receiver.next → gap_of x f ≡ None
no_gap_of x f none even = by_flow (is_recoverable x.config.peer_flow)
  where
    by_flow : (b : Bool) → (if b then receiver_is.gap x.held f.connection.receiver else None) ≡ None
    by_flow true =
        ap (λ (h : Option ℕ). receiver_is.gap h f.connection.receiver) none ∙ no_gap f.connection.receiver.next f.connection.receiver.live even
    by_flow false = refl

pub other_gap : (x : Around) (f : Facts) → is_recoverable x.config.peer_flow ≡ false → gap_of x f ≡ None
other_gap x f e = ap (λ (b : Bool). if b then receiver_is.gap x.held f.connection.receiver else None) e

-- where the handshake is done, and where it is not
pub is_done : (p : Phase) → is_established p ≡ true → is_shaken p ≡ true
is_done p e = ap (λ b. b || is_closing p) e

pub not_negotiated : (p : Phase) → is_negotiating p ≡ true → is_shaken p ≡ false
not_negotiated phases.Idle e = absurd (true≢false (sym e))
not_negotiated phases.Negotiating e = refl
not_negotiated phases.Establishing e = absurd (true≢false (sym e))
not_negotiated phases.Established e = absurd (true≢false (sym e))
not_negotiated phases.Closing e = absurd (true≢false (sym e))
not_negotiated phases.Ended e = absurd (true≢false (sym e))

pub not_established : (p : Phase) → is_establishing p ≡ true → is_shaken p ≡ false
not_established phases.Idle e = absurd (true≢false (sym e))
not_established phases.Negotiating e = absurd (true≢false (sym e))
not_established phases.Establishing e = refl
not_established phases.Established e = absurd (true≢false (sym e))
not_established phases.Closing e = absurd (true≢false (sym e))
not_established phases.Ended e = absurd (true≢false (sym e))

pub not_opened : (p : Phase) → is_idle p ≡ true → is_shaken p ≡ false
not_opened phases.Idle e = refl
not_opened phases.Negotiating e = absurd (true≢false (sym e))
not_opened phases.Establishing e = absurd (true≢false (sym e))
not_opened phases.Established e = absurd (true≢false (sym e))
not_opened phases.Closing e = absurd (true≢false (sym e))
not_opened phases.Ended e = absurd (true≢false (sym e))
