use Rattle.std.proofs.Common.{◌≡◌, ◌++◌, take, drop}
use Rattle.text_names.specs.Bare.{uncommented}
use Rattle.text_names.specs.declared.bare.Quote.TheVariants.{Outside}
use Rattle.text_names.proofs.bare.uncommented.Given as goal

-- the bytes so far, and those that are left of the others
abbrev pub invariant-loop-at : goal.invariant-loop-at
invariant-loop-at l = take l.at l.line ++ uncommented l.place (drop l.at l.line) ≡ uncommented Outside l.line
