-- A connection begins with sound facts.
use Rattle.std.proofs.Common.{◌≡◌, ◌||◌, Bool, true, false, not, if◌then◌else◌, [], ◌∷◌, refl, sym, ◌∙◌, true≢false, None}
use Rattle.fixp_shake.specs.declared.config.EndConfig.{EndConfig}
use Rattle.fixp_shake.specs.declared.phase.Phase.{Phase}
use Rattle.fixp_shake.specs.declared.phase.Phase.TheVariants as phases
use Rattle.fixp_shake.specs.Phases.{is_negotiating, is_establishing}
use Rattle.fixp_replies.specs.declared.facts.Facts.{Facts}
use Rattle.fixp_replies.specs.Facts.{Around, is_initiator, connecting}
use Rattle.fixp_replies.specs.Outcomes.{opening_negotiate, opening_establish}
use Rattle.fixp_replies.specs.Events.{Made, begun}
use Rattle.fixp_machine.specs.Sound.{Sound}

-- the facts of a connection that begins are sound where what is recorded is
connecting_sound : (cfg : EndConfig) (f : Facts) (phase : Phase) → Sound cfg f → (is_initiator cfg.role ≡ false → (is_negotiating phase || is_establishing phase) ≡ false)
    → Sound cfg (connecting f.recorded phase)
connecting_sound cfg f phase s role = record {
  waits = λ _. refl;
  even = λ _. refl;
  unread = λ _. refl;
  credentials = s.credentials;
  sent = s.sent;
  next = s.next;
  opening = λ _. record { no_request = refl; no_gap = refl; no_range = refl; firm = refl };
  soft = λ t. absurd (true≢false (sym t));
  role = role;
}

abbrev begun_as : Around → Facts → Bool → Bool → Made
begun_as x f i n =
    if not i then record { written = []; next = connecting f.recorded phases.Idle }
    else if n then record { written = opening_establish x (connecting f.recorded phases.Establishing) ∷ []; next = connecting f.recorded phases.Establishing }
    else record { written = opening_negotiate x ∷ []; next = connecting f.recorded phases.Negotiating }

pub begun_sound : (x : Around) (f : Facts) → Sound x.config f → Sound x.config (begun x f.recorded).next
begun_sound x f s = by_case (is_initiator x.config.role) f.recorded.negotiated refl
  where
    by_case : (i n : Bool) → is_initiator x.config.role ≡ i → Sound x.config (begun_as x f i n).next
    by_case false n e = connecting_sound x.config f phases.Idle s (λ _. refl)
    by_case true true e = connecting_sound x.config f phases.Establishing s (λ t. absurd (true≢false (sym e ∙ t)))
    by_case true false e = connecting_sound x.config f phases.Negotiating s (λ t. absurd (true≢false (sym e ∙ t)))

pub begun_free : (x : Around) (f : Facts) → (begun x f.recorded).next.connection.serving ≡ None
begun_free x f = by_case (is_initiator x.config.role) f.recorded.negotiated
  where
    by_case : (i n : Bool) → (begun_as x f i n).next.connection.serving ≡ None
    by_case false n = refl
    by_case true true = refl
    by_case true false = refl
