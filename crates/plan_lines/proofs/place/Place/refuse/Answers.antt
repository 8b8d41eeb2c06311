use Rattle.std.proofs.Common.{inr, refl}
use Rattle.plan_lines.proofs.Ending.{told_none}
use Rattle.plan_lines.proofs.place.Place.refuse.Goals as goal

pub returns-in-Ok-None : goal.returns-in-Ok-None
returns-in-Ok-None c = inr (record {
  none = told_none c.args.plan.now c.as_slice.result.now c.args.self.now.text.items c.in-Ok-None.field-0 c.as_slice.ensures.value c.in-Ok-None.field-0-is c.in-Ok-None.ensures;
  told_is = refl;
  wrong_is = refl;
})
