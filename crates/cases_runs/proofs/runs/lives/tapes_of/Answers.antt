use Rattle.std.proofs.Common.{[], refl, sym, subst}
use Rattle.std.proofs.lemmas.List.Elements.{All-push}
use Rattle.gw_link_fakes.specs.Tapes.{IsUnused, new_tape}
use Rattle.cases_runs.proofs.runs.lives.tapes_of.Goals as goal

pub loop-word-preserved : goal.loop-word-preserved
loop-word-preserved c =
    let new : IsUnused (new_tape c.from-given.result 4096 []) = record { given = refl; taken = refl } in
    rw c.in_ok-push.ensures.items (All-push IsUnused _ _ c.loop-word.invariant (subst IsUnused (sym c.in_ok-without_faults.ensures) new))
