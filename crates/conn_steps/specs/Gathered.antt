-- What is gathered, as a list.
use Rattle.std.specs.Prelude.{List, ℕ}
use Rattle.conn_steps.specs.declared.gathered.Gathered.{Gathered}

-- the payloads, in order
abbrev pub payloads_in : Gathered → List (List ℕ)
payloads_in g = g.payloads.items
