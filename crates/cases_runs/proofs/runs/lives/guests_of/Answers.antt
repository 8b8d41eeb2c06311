use Rattle.std.proofs.lemmas.List.Elements.{All-push}
use Rattle.gw_guest_fakes.specs.Guests.{IsFresh}
use Rattle.cases_runs.proofs.runs.lives.guests_of.Goals as goal

pub loop-word-preserved : goal.loop-word-preserved
loop-word-preserved c = rw c.in_ok-push.ensures.items (All-push IsFresh _ _ c.loop-word.invariant c.in_ok-guest_of.ensures.fresh)
