use Rattle.std.proofs.Common.{◌∙◌, ◌++◌, set, sym, ap, arith, drop, false, true}
use Rattle.std.proofs.lemmas.List.{take_all, drop_all, append-nil, get_or_default}
use Rattle.gw_fakes.specs.Disks.{spoiled}
use Rattle.gw_fakes.proofs.Settling.{spoiled_at, length-spoiled, goes_over, stays_over}
use Rattle.gw_fakes.proofs.disk.spoil.Goals as goal
use Rattle.gw_fakes.proofs.disk.spoil.Goals.{then-pending-place, else-pending-place}

pub loop-place-preserved : goal.loop-place-preserved
loop-place-preserved c =
    let old = c.args.content.now in
    let pending = c.args.pending.now in
    let place = c.loop-place.place in
    let lt = c.loop-place-test.true in
    elim c.if-pending-place.branch [
      | then-pending-place w ↦
          let here = spoiled_at old pending place true c.requires.within lt (sym w.if-pending-place.true ∙ get_or_default pending place false true (omega (arith, lt, c.requires.within))) in
          w.content-is ∙ ap (λ l. set l place 165) c.loop-place.invariant ∙ goes_over old (spoiled old pending) place 165 (length-spoiled old pending) lt (sym here)
      | else-pending-place w ↦
          let here = spoiled_at old pending place false c.requires.within lt (sym w.if-pending-place.false) in
          w.content-is ∙ c.loop-place.invariant ∙ stays_over old (spoiled old pending) place (length-spoiled old pending) lt (sym here)
    ]

pub returns : goal.returns
returns c =
    let old = c.args.content.now in
    let new = spoiled old c.args.pending.now in
    let past = c.loop-place-test.false in
    record {
      items = c.loop-place.invariant
          ∙ ap (λ l. l ++ drop c.loop-place.place old) (take_all c.loop-place.place new (omega (arith, past, length-spoiled old c.args.pending.now)))
          ∙ ap (λ l. new ++ l) (drop_all c.loop-place.place old past)
          ∙ append-nil new;
    }
