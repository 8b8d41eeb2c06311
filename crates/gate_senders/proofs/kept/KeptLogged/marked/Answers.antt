use Rattle.std.proofs.Common.{◌≡◌, sym, ap, ◌∙◌}
use Rattle.jr_kept.specs.Outbox.{is_closed}
use Rattle.gate_senders.proofs.Keeping.{keeps_stands, mark_is}
use Rattle.gate_senders.proofs.kept.KeptLogged.marked.Goals as goal

pub returns : goal.returns
returns g c =
    let kept = c.args.self.now in
    let marked : c.closed.result ≡ kept.told.history.finished =
    c.closed.ensures.value ∙ (ap is_closed c.deref.ensures ∙ mark_is kept.outbox.value kept.told.history (keeps_stands kept.outbox.value kept.told.history kept.told.refused kept.holds)) in
    record { exact = ((λ e. sym marked ∙ e), (λ e. marked ∙ e)) }
