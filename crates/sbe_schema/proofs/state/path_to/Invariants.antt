use Rattle.std.proofs.Common.{◌≡◌, [], ◌∷◌, ◌++◌, drop}
use Rattle.sbe_schema.specs.Places.{path_of}
use Rattle.sbe_schema.proofs.state.path_to.Given as goal

-- the steps so far, followed by those that are left, are all
abbrev pub invariant-loop-parent : goal.invariant-loop-parent
invariant-loop-parent l = l.path ++ path_of (drop l.parent-index l.parent_path ++ l.path_step ∷ []) ≡ path_of (l.parent_path ++ l.path_step ∷ [])
