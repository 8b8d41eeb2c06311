-- A run as the list of its numbers.
use Rattle.std.specs.Prelude.{ℕ, ◌+◌, ◌<◌, List, ◌++◌, map}
use Rattle.std.specs.Vec.{vec_len, vec_capacity}
use Rattle.jr_places.specs.declared.run.Run.{Run}

-- those close to the first number, those near it, and then the others
abbrev pub listed : Run → List ℕ
listed r = map (λ (d : ℕ). r.base + d) r.close.items ++ map (λ (d : ℕ). r.base + d) r.near.items ++ r.far.items

-- one more number takes no memory, close, near or neither
pub record HasRoom (r : Run) : Type 0 where
  pub close : vec_len r.close < vec_capacity r.close
  pub near : vec_len r.near < vec_capacity r.near
  pub far : vec_len r.far < vec_capacity r.far
