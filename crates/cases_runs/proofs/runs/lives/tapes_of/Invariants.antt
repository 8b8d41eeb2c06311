use Rattle.std.specs.List.{All}
use Rattle.gw_link_fakes.specs.Tapes.{IsUnused}
use Rattle.cases_runs.proofs.runs.lives.tapes_of.Given as goal

abbrev pub invariant-loop-word : goal.invariant-loop-word
invariant-loop-word l = All IsUnused l.tapes.items
