use Rattle.std.proofs.Common.{◌≡◌, drop, map}
use Rattle.toml_walk.specs.Keys.{is_among}
use Rattle.toml_walk.proofs.keys.is_among.Given as goal

abbrev pub invariant-loop-one : goal.invariant-loop-one
invariant-loop-one l = is_among l.key (map (λ k. k.now) (drop l.one-index l.known)) ≡ is_among l.key (map (λ k. k.now) l.known)
