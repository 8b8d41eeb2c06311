use Rattle.std.proofs.Common.{◌≡◌, ◌++◌, drop}
use Rattle.sbe_value.specs.PathText.{steps_text, path_text}
use Rattle.sbe_value.proofs.path.text_of_path.Given as goal

-- what is written, followed by the text of the steps that are left, is the whole text
abbrev pub invariant-loop-step : goal.invariant-loop-step
invariant-loop-step l = l.text ++ steps_text (drop l.step-index l.step-items) ≡ path_text l.fn.path
