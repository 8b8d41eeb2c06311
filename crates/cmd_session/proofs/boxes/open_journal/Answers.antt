use Rattle.std.proofs.Common.{⊎_elim, sym, subst, ◌∙◌, arith}
use Rattle.std.specs.Option.{ForSome}
use Rattle.jr_dated.specs.declared.formats.Format.TheVariants.{Two}
use Rattle.jr_segments.specs.Opening.{Refuses}
use Rattle.cmd_session.specs.Boxes.{IsNotOpened}
use Rattle.cmd_session.proofs.boxes.open_journal.Goals as goal

pub returns-in-Err-clause-refused : goal.returns-in-Err-clause-refused
returns-in-Err-clause-refused g c = λ flow.
    let back = c.in-Err.ensures.returned.0 in
    subst (λ t. IsNotOpened c.args.which flow t c.not_opened-status.result) back
    (c.not_opened-status.ensures.refused flow (subst (λ t. ForSome t (Refuses Two c.in-Err.fault)) (sym back) c.in-Err.ensures.refused))

pub returns-in-Err-clause-kept : goal.returns-in-Err-clause-kept
returns-in-Err-clause-kept g c = record {
  tells = c.not_opened-status.ensures.content ∙ c.in-Err.ensures.returned.0;
  leaves = λ content left. c.in-Err.ensures.returned_images content ((c.not_opened-status.ensures.images content).0 left);
}

pub returns-in-Err-clause-cause : goal.returns-in-Err-clause-cause
returns-in-Err-clause-cause g c = λ is. ⊎_elim
    (λ fault. let risen = c.in-Err.ensures.cause fault in let on = c.not_opened-status.ensures.never_falls in omega (arith, risen, on))
    (λ risen. let back = c.in-Err.ensures.returned.1 in omega (arith, risen, back))
    (c.not_opened-status.ensures.fault is)
