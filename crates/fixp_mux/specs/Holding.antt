-- How bytes lie in memory. No clause of a public call speaks of it.
use Rattle.std.specs.Prelude.{ℕ, List, drop}
use Rattle.fixp_mux.specs.declared.lane.Lane.{Lane}

-- the bytes that wait, the earliest first: those behind what was given
abbrev pub waits_in : Lane → List ℕ
waits_in l = drop l.given l.bytes.items
