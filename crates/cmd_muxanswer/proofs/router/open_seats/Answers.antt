use Rattle.std.proofs.Common.{◌≡◌, ℕ, ◌+◌, List, [], ◌∷◌, length, Some, slice_get, ap, sym, subst, ◌∙◌}
use Rattle.std.proofs.lemmas.List.{length-append}
use Rattle.cmd_config.specs.declared.settings.Settings.{Settings}
use Rattle.cmd_muxanswer.specs.declared.seat.Seat.{Seat}
use Rattle.cmd_muxanswer.specs.Progress.{AreSeated, AreUsable}
use Rattle.cmd_muxanswer.proofs.Seating.{usable_push, seated_first}
use Rattle.cmd_muxanswer.proofs.router.open_seats.Goals as goal

pub loop-place-preserved : goal.loop-place-preserved
loop-place-preserved c =
    let seats : List Seat = c.loop-place.seats.items in
    let new : Seat = c.in_ok-open.field-0 in
    let session : Settings = c.in_ok-settings.field-0 in
    let stands = subst (λ (n : ℕ). slice_get c.args.sessions.now n ≡ Some session) (sym c.loop-place.invariant.count) c.in_ok-settings.ensures.value in
    record {
      count = ap length c.in_ok-push.ensures.items ∙ length-append seats (new ∷ []) ∙ ap (λ (n : ℕ). n + 1) c.loop-place.invariant.count;
      usable = subst AreUsable (sym c.in_ok-push.ensures.items) (usable_push seats new c.loop-place.invariant.usable c.in_ok-open.ensures.usable);
      seated = subst (AreSeated c.args.sessions.now []) (sym c.in_ok-push.ensures.items) (seated_first c.args.sessions.now seats session new c.loop-place.invariant.seated stands c.in_ok-open.ensures.sits);
    }
