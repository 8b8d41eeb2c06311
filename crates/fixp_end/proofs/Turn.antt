-- The end of a turn keeps facts sound, and may write what it writes.
use Rattle.std.proofs.Common.{◌≡◌, ℕ, Bool, true, false, if◌then◌else◌, List, [], ◌∷◌, ◌++◌, refl, sym, ap, ◌∙◌, append_assoc, true≢false, arith}
use Rattle.std.specs.List.{AllByRecursion}
use Rattle.std.proofs.lemmas.Grind.{flat_map-append}
use Rattle.fixp_msgs.specs.declared.numbering.Range.{Range}
use Rattle.fixp_msgs.specs.Message.{Message, terminate}
use Rattle.fixp_msgs.specs.Canonical.{frame_bytes}
use Rattle.fixp_shake.specs.declared.phase.Phase.TheVariants.{Closing}
use Rattle.fixp_replies.specs.declared.facts.Facts.{Facts}
use Rattle.fixp_replies.specs.Facts.{Around, in_phase}
use Rattle.fixp_replies.specs.Events.{Made, applied_runs, closes, turn_ended}
use Rattle.fixp_machine.specs.Machine.{bytes_of, sent_at}
use Rattle.fixp_machine.specs.Sound.{Sound, MayWrite}
use Rattle.fixp_end.proofs.Limits.{ArePlain}

abbrev pub turn_as : Around → Facts → List Range → Bool → Made
turn_as x f runs b =
    if b
    then record { written = applied_runs runs ++ terminate x.config.session 1 [] ∷ []; next = in_phase f Closing }
    else record { written = applied_runs runs; next = f }

pub turn_sound : (x : Around) (f : Facts) (runs : List Range) → Sound x.config f → Sound x.config (turn_ended x f runs).next
turn_sound x f runs s = by_case (closes x f)
  where
    by_case : (b : Bool) → Sound x.config (turn_as x f runs b).next
    by_case true = record {
      waits = s.waits;
      even = s.even;
      unread = s.unread;
      credentials = s.credentials;
      sent = s.sent;
      next = s.next;
      opening = λ n. absurd (true≢false n);
      soft = s.soft;
      role = λ _. refl;
    }
    by_case false = s

pub turn_recorded : (x : Around) (f : Facts) (runs : List Range) → (turn_ended x f runs).next.recorded ≡ f.recorded
turn_recorded x f runs = by_case (closes x f)
  where
    by_case : (b : Bool) → (turn_as x f runs b).next.recorded ≡ f.recorded
    by_case true = refl
    by_case false = refl

pub turn_serving : (x : Around) (f : Facts) (runs : List Range) → (turn_ended x f runs).next.connection.serving ≡ f.connection.serving
turn_serving x f runs = by_case (closes x f)
  where
    by_case : (b : Bool) → (turn_as x f runs b).next.connection.serving ≡ f.connection.serving
    by_case true = refl
    by_case false = refl

pub turn_is_plain : (x : Around) (f : Facts) → ArePlain (turn_ended x f []).written
turn_is_plain x f = by_case (closes x f)
  where
    by_case : (b : Bool) → ArePlain (turn_as x f [] b).written
    by_case true = (refl, tt)
    by_case false = tt

pub turn_writes : (x : Around) (f : Facts) → AllByRecursion (MayWrite x.config) (turn_ended x f []).written
turn_writes x f = by_case (closes x f)
  where
    by_case : (b : Bool) → AllByRecursion (MayWrite x.config) (turn_as x f [] b).written
    by_case true = (record { opening = λ e. absurd (true≢false (sym e)); writable = record { numbers = (tt, (tt, tt)); datum = omega (arith) } }, tt)
    by_case false = tt

-- bytes behind bytes
pub written_behind : (first second : List Message) (start mid more : List ℕ) → mid ≡ start ++ bytes_of first → more ≡ mid ++ bytes_of second → more ≡ start ++ bytes_of (first ++ second)
written_behind first second start mid more a b =
    b ∙ (ap (λ (bytes : List ℕ). bytes ++ bytes_of second) a
    ∙ (append_assoc start (bytes_of first) (bytes_of second)
    ∙ ap (λ (bytes : List ℕ). start ++ bytes) (sym (flat_map-append frame_bytes first second))))

pub sent_twice : (before : ℕ) (a b : List ℕ) (now : ℕ) → sent_at (sent_at before a now) b now ≡ sent_at before (a ++ b) now
sent_twice before [] b now = refl
sent_twice before (_ ∷ a) [] now = refl
sent_twice before (_ ∷ a) (_ ∷ b) now = refl

pub sent_behind : (first second : List Message) (before mid more now : ℕ) → mid ≡ sent_at before (bytes_of first) now → more ≡ sent_at mid (bytes_of second) now
    → more ≡ sent_at before (bytes_of (first ++ second)) now
sent_behind first second before mid more now a b =
    b ∙ (ap (λ (n : ℕ). sent_at n (bytes_of second) now) a
    ∙ (sent_twice before (bytes_of first) (bytes_of second) now
    ∙ ap (λ (bytes : List ℕ). sent_at before bytes now) (sym (flat_map-append frame_bytes first second))))
