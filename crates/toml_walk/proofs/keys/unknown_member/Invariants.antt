use Rattle.std.proofs.Common.{◌≡◌, map}
use Rattle.toml.specs.View.{members_view}
use Rattle.toml_walk.specs.Keys.{unknown_member}
use Rattle.toml_walk.proofs.keys.unknown_member.Given as goal

abbrev pub invariant-loop-key : goal.invariant-loop-key
invariant-loop-key l =
    (goal.iterator-loop-key).can_next l.key-iterator ×
    (goal.iterator-loop-key).is_finite l.key-iterator ×
    (unknown_member (map (λ k. k.now) l.known) (members_view l.key-iterator) ≡ unknown_member (map (λ k. k.now) l.known) (members_view l.table.entries))
