use Rattle.std.specs.List.{All}
use Rattle.gw_guest_fakes.specs.Guests.{IsFresh}
use Rattle.cases_runs.proofs.runs.lives.guests_of.Given as goal

abbrev pub invariant-loop-word : goal.invariant-loop-word
invariant-loop-word l = All IsFresh l.guests.items
