use Rattle.std.proofs.Common.{◌≡◌, ◌++◌, Ok, drop, length}
use Rattle.toml.specs.View.{view, items_view}
use Rattle.toml_walk.specs.Reading.{◌>>=◌}
use Rattle.toml_walk.specs.Keys.{elements, list_of}
use Rattle.toml_walk.proofs.reader.read_list.Given as goal

abbrev pub invariant-loop-value : goal.invariant-loop-value
invariant-loop-value g l =
    (length l.list.items ≡ l.value-index)
    × (list_of (g.R.Reader.spelled l.parent) (view l.value) ≡ (elements (g.R.Reader.spelled l.parent) l.value-index (items_view (drop l.value-index l.value-items)) >>= (λ rest. Ok (l.list.items ++ rest))))
