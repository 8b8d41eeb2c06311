-- The numbers of full segments, and those behind them.
use Rattle.std.specs.Prelude.{ℕ, List, ◌++◌}
use Rattle.std.specs.List.{flat_map}
use Rattle.jr_places.specs.Listed.{listed}
use Rattle.jr_places.specs.declared.segment.Segment.{Segment}

abbrev pub joined : List Segment → List ℕ → List ℕ
joined full last = flat_map (λ (s : Segment). listed s.numbers) full ++ last
