-- The outbox's finish keeps facts sound, what else is recorded, and what is served.
use Rattle.std.proofs.Common.{◌≡◌, ℕ, Bool, true, false, if◌then◌else◌, Some, None, [], ◌∷◌, refl}
use Rattle.fixp_msgs.specs.Message.{finished_sending}
use Rattle.fixp_shake.specs.Flows.{is_sequenced}
use Rattle.fixp_replies.specs.declared.facts.Facts.{Facts}
use Rattle.fixp_replies.specs.declared.facts.OwnFinish.TheVariants as own
use Rattle.fixp_replies.specs.Facts.{Around}
use Rattle.fixp_replies.specs.Events.{Made, outbox_finished, tells_finish, finish_told}
use Rattle.fixp_replies.specs.Serving.{own_finishing}
use Rattle.fixp_machine.specs.Sound.{Sound}

abbrev pub told_as : Around → Facts → ℕ → Bool → Made
told_as x f last b =
    if b
    then record { written = finished_sending x.config.session (if is_sequenced x.config.own_flow then Some last else None) ∷ []; next = own_finishing (outbox_finished f last) own.Told }
    else record { written = []; next = outbox_finished f last }

pub told_sound : (x : Around) (f : Facts) (last : ℕ) → Sound x.config f → Sound x.config (finish_told x f last).next
told_sound x f last s = by_case (tells_finish x f last)
  where
    by_case : (b : Bool) → Sound x.config (told_as x f last b).next
    by_case true = record { waits = s.waits; even = s.even; unread = s.unread; credentials = s.credentials; sent = s.sent; next = s.next; opening = s.opening; soft = s.soft; role = s.role }
    by_case false = record { waits = s.waits; even = s.even; unread = s.unread; credentials = s.credentials; sent = s.sent; next = s.next; opening = s.opening; soft = s.soft; role = s.role }

pub told_recorded : (x : Around) (f : Facts) (last : ℕ) → (finish_told x f last).next.recorded ≡ record f.recorded { finish = Some last }
told_recorded x f last = by_case (tells_finish x f last)
  where
    by_case : (b : Bool) → (told_as x f last b).next.recorded ≡ record f.recorded { finish = Some last }
    by_case true = refl
    by_case false = refl

pub told_serving : (x : Around) (f : Facts) (last : ℕ) → (finish_told x f last).next.connection.serving ≡ f.connection.serving
told_serving x f last = by_case (tells_finish x f last)
  where
    by_case : (b : Bool) → (told_as x f last b).next.connection.serving ≡ f.connection.serving
    by_case true = refl
    by_case false = refl
