-- A path as people read it: the keys joined by dots, and a place in a list in brackets.
use Rattle.std.specs.Prelude.{ℕ, List, [], ◌∷◌, ◌++◌}
use Rattle.std.specs.Fmt.{decimal}
use Rattle.sbe_value.specs.declared.path.Step.{Step}
use Rattle.sbe_value.specs.declared.path.Step.TheVariants.{Key, At}

-- a step behind others: a dot (46) and the key, or the place between brackets (91 and 93)
abbrev pub step_text : Step → List ℕ
step_text (Key key) = 46 ∷ key
step_text (At place) = 91 ∷ (decimal place ++ 93 ∷ [])

abbrev pub steps_text : List Step → List ℕ
steps_text [] = []
steps_text (step ∷ steps) = step_text step ++ steps_text steps

abbrev pub path_text : List Step → List ℕ
path_text [] = []
path_text (Key key ∷ steps) = key ++ steps_text steps
path_text (At place ∷ steps) = steps_text (At place ∷ steps)
