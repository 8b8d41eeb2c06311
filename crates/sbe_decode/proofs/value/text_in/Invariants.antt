use Rattle.std.proofs.Common.{◌≡◌, ◌++◌, take, drop}
use Rattle.sbe_grammar.specs.Values.{text_in}
use Rattle.sbe_decode.proofs.value.text_in.Given as goal

-- what is passed, followed by the text of what is left, is the text
abbrev pub invariant-loop-i : goal.invariant-loop-i
invariant-loop-i l = take l.i l.bytes ++ text_in (drop l.i l.bytes) ≡ text_in l.bytes
