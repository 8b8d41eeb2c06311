use Rattle.std.proofs.Common.{◌≡◌, ℕ, ◌+◌, ◌<◌, List, [], ◌∷◌, ◌++◌, length, ◌-◌, sym, subst, arith}
use Rattle.std.proofs.Math.ListN.{set}
use Rattle.std.proofs.lemmas.List.{get_or_default}
use Rattle.jr_record.specs.declared.record.Record.TheVariants.{Entry}
use Rattle.plan_values.specs.Plans.{payloads_of}
use Rattle.plan_outbox.proofs.Agreeing.{fronts_moved, fronts_same, past_its}
use Rattle.plan_outbox.proofs.fronts.take_entry.Goals as goal

pub returns-then-place-plans-clause-fronts : goal.returns-then-place-plans-clause-fronts
returns-then-place-plans-clause-fronts c = λ before own a.
    let below : c.args.sender - 1 < length c.args.fronts.now = omega (arith, c.if-place-plans.true, c.requires.many) in
    fronts_moved c.args.plans.now before c.args.fronts.now c.args.sender own c.args.payload.now c.behind.result _ c.index-plans-place.result c.requires.sender.0 c.if-place-plans.true
    (get_or_default c.args.fronts.now (c.args.sender - 1) _ _ below) c.index-plans-place.is
    (λ sent f. c.behind.ensures.front sent f) a

pub returns-else-place-plans-clause-fronts : goal.returns-else-place-plans-clause-fronts
returns-else-place-plans-clause-fronts c = λ before own a.
    fronts_same c.args.plans.now before c.args.fronts.now (Entry c.args.sender own c.args.payload.now)
    (λ i lt. past_its (length c.args.plans.now) c.args.sender i own c.args.payload.now c.if-place-plans.false c.requires.sender.0 lt) a
