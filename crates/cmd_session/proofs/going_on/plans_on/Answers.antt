use Rattle.std.proofs.Common.{ℕ, inr, refl, sym, ◌∙◌, subst}
use Rattle.jr_segments.specs.Journal.{disk_of}
use Rattle.cmd_session.specs.Inputs.{RefusesPlans}
use Rattle.cmd_session.proofs.Kept.{outbox_kept}
use Rattle.cmd_session.proofs.Over.{risen_over}
use Rattle.cmd_session.proofs.going_on.plans_on.Goals as goal

pub returns-in-Err-clause-kept : goal.returns-in-Err-clause-kept
returns-in-Err-clause-kept g c = λ before o. outbox_kept g.D.Disk.told g.D.Disk.may_leave (disk_of {G = g.D.Disk}) c.args.outbox before _ o (λ image h. h) c.close_outbox.ensures.disk

pub returns-in-Err-compared-clause-refused : goal.returns-in-Err-compared-clause-refused
returns-in-Err-compared-clause-refused g c = λ before o least.
    let stopped = c.in-Err-compared.ensures in
    let many = sym c.in-Ok.given.plans.ok.0 ∙ (c.in-Ok.ensures.many ∙ c.from.ensures) in
    inr (record {
      refused = subst (λ (n : ℕ). RefusesPlans n (g.S.Source.left c.args.input.now) (g.D.Disk.told before) c.in-Err-compared.status) many
          (stopped.refused (g.S.Source.left c.args.input.now) (g.D.Disk.told before) c.in-Ok.ensures.text o);
      cause = λ e. risen_over _ _ _ _ least refl (stopped.cause e);
    })
