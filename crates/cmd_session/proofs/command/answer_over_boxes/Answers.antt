use Rattle.std.proofs.Common.{refl, inl, inr, ⊎_elim, subst, arith}
use Rattle.gw_outside.specs.Faults.{HasRisen}
use Rattle.cmd_session.specs.Outsides.{hears}
use Rattle.cmd_session.proofs.Served.{lived_from, keeps_none, keeps_behind}
use Rattle.cmd_session.proofs.command.answer_over_boxes.Goals as goal

pub returns-in-Err-clause-lived : goal.returns-in-Err-clause-lived
returns-in-Err-clause-lived g c = inl (record { cause = inr (refl, c.in-Err.ensures.cause.risen); dialer_is = refl; out_kept = keeps_none _ _ c.in-Err.ensures.nothing; box_is = refl; outbox_is = refl })

pub returns-clause-lived : goal.returns-clause-lived
returns-clause-lived g c =
    let as_before = c.in-Ok.ensures.cause.risen in
    ⊎_elim
    (λ b. inl (record {
      cause = ⊎_elim (λ m. inl m) (λ f. inr (f.0, subst (λ n. HasRisen n (g.K.Sink.faults c.live_answering.result.1.live.out)) as_before f.1)) b.cause;
      dialer_is = b.dialer_is;
      out_kept = keeps_behind _ _ _ c.in-Ok.ensures.nothing b.out_kept;
      box_is = b.box_is;
      outbox_is = b.outbox_is;
    }))
    (λ h. inr (lived_from (hears g.K.Sink g.N.Dialer g.N.Link.Link g.C.Clock) _ _ c.args.over.live _ _ _ _ _ _ c.in-Ok.ensures.nothing (omega arith) h))
    c.live_answering.ensures.lived

pub returns-clause-output : goal.returns-clause-output
returns-clause-output g c = λ e. subst (λ n. HasRisen n (g.K.Sink.faults c.live_answering.result.1.live.out)) c.in-Ok.ensures.cause.risen (c.live_answering.ensures.output e)
