-- What each end holds, as far as phases go.
use Rattle.std.proofs.Common.{◌≡◌, ◌⊎◌, inl, inr, ℕ, true, false, List, [], Option, Some, None, refl, sym, ap, ◌∙◌, true≢false}
use Rattle.std.specs.Prelude.{is_some, IsSome}
use Rattle.session_model.specs.Journal.{Entry}
use Rattle.session_model.specs.Inbox.{Numbered}
use Rattle.flow_window.specs.Window.{front, least}
use Rattle.fixp_shake.specs.declared.config.EndConfig.{EndConfig}
use Rattle.fixp_shake.specs.Flows.{is_recoverable}
use Rattle.fixp_shake.specs.Phases.{is_closing, is_shaken}
use Rattle.fixp_replies.specs.declared.act.Ending.{Ending}
use Rattle.fixp_replies.specs.declared.facts.Facts.{Facts}
use Rattle.fixp_replies.specs.Facts.{Around}
use Rattle.fixp_replies.specs.Incoming.{Incoming, payload_in}
use Rattle.fixp_replies.specs.Outcomes.{Outcome}
use Rattle.fixp_replies.specs.Replies.{reply_of}
use Rattle.fixp_machine.specs.Machine.{State, around, run, held_until, held_with, front_of}
use Rattle.fixp_machine.proofs.Tests.{is_done}
use Rattle.connection_laws.specs.Writing.{Piece, WritesOwn, nothing, shakes, returns, resends}
use Rattle.connection_laws.proofs.Owned.{returning}
use Rattle.connection_laws.proofs.Replied.{frame_writes}
use Rattle.two_ends.specs.Reading.{incoming_of}
use Rattle.two_ends.proofs.Refused.{closing_is_deaf}
use Rattle.honest_ends.specs.Worlds.{reading, written}
use Rattle.honest_ends.proofs.Held.{holds_so, open_not_closing}
use Rattle.honest_ends.proofs.Moving.{Reads, reads_as, Does}
use Rattle.honest_ends.proofs.Serving.{Serves, Passes, by_bool, Remains}

-- Nothing before the handshake is done, nor of a flow that is not recoverable; and nothing that is to be applied, once the end closes its
-- connection
pub record Window (s : State) : Type 0 where
  pub opening : is_shaken s.facts.connection.phase ≡ false → s.held ≡ []
  pub other : is_recoverable s.config.peer_flow ≡ false → s.held ≡ []
  pub closing : is_closing s.facts.connection.phase ≡ true → front_of s ≡ None

pub window_empty : (s : State) → s.held ≡ [] → Window s
window_empty s none = record { opening = λ _. none; other = λ _. none; closing = λ _. ap (λ (ms : List Numbered). front s.facts.recorded.inbox_next ms) none }

pub least_none : (s : State) → s.held ≡ [] → least s.held ≡ None
least_none s none = ap (λ (ms : List Numbered). least ms) none

-- a handshake that is done stays done
pub stays_shaken : (x : Around) (f : Facts) (p : Piece) → is_shaken f.connection.phase ≡ true → is_shaken (reply_of x f (incoming_of p)).next.connection.phase ≡ true
stays_shaken x f p e = by_case (frame_writes x f (incoming_of p))
  where
    by_case : WritesOwn x f (reply_of x f (incoming_of p)) → is_shaken (reply_of x f (incoming_of p)).next.connection.phase ≡ true
    by_case (nothing n s) = s.stays e
    by_case (shakes s) = absurd (true≢false (sym e ∙ s.before))
    by_case (returns r) = (returning x f (reply_of x f (incoming_of p)).next r.may).done
    by_case (resends r) = r.stays

-- behind any other call
pub window_does : {h : List Entry} (s t : State) (out : List Piece) → Does s t out → Serves h s t out → Window s → Window t
window_does s t out d k w = record {
  opening = λ n. still_none k.reader (w.opening (before n));
  other = λ r. still_none k.reader (w.other (sym (ap (λ (c : EndConfig). is_recoverable c.peer_flow) d.config) ∙ r));
  closing = λ c. by_drained k.reader (k.drains c);
}
  where
    before : is_shaken t.facts.connection.phase ≡ false → is_shaken s.facts.connection.phase ≡ false
    before n = by_bool (is_shaken s.facts.connection.phase ≡ false) (is_shaken s.facts.connection.phase) (λ e. absurd (true≢false (sym (d.done e).0 ∙ n))) (λ e. e)

    still_none : Passes s t → s.held ≡ [] → t.held ≡ []
    still_none (inl k) none = by_held k.held
      where
        by_held : Remains s t → t.held ≡ []
        by_held (inl same) = same ∙ none
        by_held (inr gone) = gone.0
    still_none (inr a) none = absurd (cc (a.front.held_is, none))

    drained : Passes s t → front_of s ≡ None → front_of t ≡ None
    drained (inl k) e = by_held k.held
      where
        by_held : Remains s t → front_of t ≡ None
        by_held (inl same) = ap (λ (n : ℕ). front n t.held) k.inbox ∙ (ap (λ (ms : List Numbered). front s.facts.recorded.inbox_next ms) same ∙ e)
        by_held (inr gone) = ap (λ (ms : List Numbered). front t.facts.recorded.inbox_next ms) gone.0
    drained (inr a) e = absurd (cc (a.front.front_is, e))

    by_drained : Passes s t → (is_closing s.facts.connection.phase ≡ true) ⊎ (front_of s ≡ None) → front_of t ≡ None
    by_drained r (inl c) = drained r (w.closing c)
    by_drained r (inr e) = drained r e

-- where a connection ends, nothing is held, and else what was
pub until_none : (e : Option Ending) (ms : List Numbered) → ms ≡ [] → held_until e ms ≡ []
until_none None ms none = none
until_none (Some e) ms none = refl

until_front : (e : Option Ending) (n : ℕ) (ms : List Numbered) → front n ms ≡ None → front n (held_until e ms) ≡ None
until_front None n ms none = none
until_front (Some e) n ms none = refl

-- where the reply holds no message
pub holds_none : (x : Around) (f : Facts) (i : Incoming) → (IsSome (reply_of x f i).holds → ⊥) → (reply_of x f i).holds ≡ None
holds_none x f i never = by_number (reply_of x f i).holds refl
  where
    by_number : (n : Option ℕ) → (reply_of x f i).holds ≡ n → (reply_of x f i).holds ≡ None
    by_number None e = e
    by_number (Some n) e = absurd (never (ap (λ (k : Option ℕ). is_some k) e))

-- behind a message that is read, with which no end begins to close its connection
pub window_reads : (s : State) (p : Piece) (at now : ℕ)
    → (is_closing (reply_of (around s at now) s.facts (incoming_of p)).next.connection.phase ≡ true → is_closing s.facts.connection.phase ≡ true)
    → Window s → Window (run s (reading p at now))
window_reads s p at now closes w = record {
  opening = λ n. none_stays (fresh (ap (λ (f : Facts). is_shaken f.connection.phase) (sym rd.facts) ∙ n));
  other = λ r. let other = sym (ap (λ (c : EndConfig). is_recoverable c.peer_flow) rd.config) ∙ r in
      none_stays (w.other other, λ some. true≢false (sym (holds_so x s.facts i some).flow ∙ other));
  closing = λ c. drained (closes (ap (λ (f : Facts). is_closing f.connection.phase) (sym rd.facts) ∙ c));
}
  where
    x : Around
    x = around s at now

    i : Incoming
    i = incoming_of p

    o : Outcome
    o = reply_of x s.facts i

    rd : Reads s i o (run s (reading p at now)) (written s (reading p at now))
    rd = reads_as s p at now

    unheld : (IsSome o.holds → ⊥) → held_with o.holds (payload_in i) s.held ≡ s.held
    unheld never = ap (λ (n : Option ℕ). held_with n (payload_in i) s.held) (holds_none x s.facts i never)

    none_stays : (s.held ≡ []) × (IsSome o.holds → ⊥) → (run s (reading p at now)).held ≡ []
    none_stays k = rd.held ∙ until_none o.ending (held_with o.holds (payload_in i) s.held) (unheld k.1 ∙ k.0)

    fresh : is_shaken o.next.connection.phase ≡ false → (s.held ≡ []) × (IsSome o.holds → ⊥)
    fresh n =
        let before : is_shaken s.facts.connection.phase ≡ false = by_bool (is_shaken s.facts.connection.phase ≡ false) (is_shaken s.facts.connection.phase)
        (λ e. absurd (true≢false (sym (stays_shaken x s.facts p e) ∙ n))) (λ e. e) in
        (w.opening before, λ some. true≢false (sym (is_done s.facts.connection.phase (holds_so x s.facts i some).established) ∙ before))

    drained : is_closing s.facts.connection.phase ≡ true → front_of (run s (reading p at now)) ≡ None
    drained c =
        ap (λ (f : Facts). front f.recorded.inbox_next (run s (reading p at now)).held) (rd.facts ∙ (closing_is_deaf x s.facts i c).next)
        ∙ (ap (λ (ms : List Numbered). front s.facts.recorded.inbox_next ms) (rd.held ∙ ap (λ (ms : List Numbered). held_until o.ending ms)
        (unheld (λ some. true≢false (sym c ∙ open_not_closing s.facts.connection.phase (holds_so x s.facts i some).established))))
        ∙ until_front o.ending s.facts.recorded.inbox_next s.held (w.closing c))
