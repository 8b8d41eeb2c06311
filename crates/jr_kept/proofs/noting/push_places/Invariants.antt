use Rattle.std.proofs.Common.{◌≡◌, ◌++◌}
use Rattle.session_model.specs.Journal.{counts_from}
use Rattle.jr_places.specs.Numbers.{numbers_of}
use Rattle.jr_kept.proofs.noting.push_places.Given as goal

abbrev pub invariant-loop-i : goal.invariant-loop-i
invariant-loop-i l = record {
  pushed : numbers_of l.places ≡ numbers_of l.fn.places ++ counts_from l.at l.i;
}
