use Rattle.std.proofs.Common.{◌≡◌, take, drop}
use Rattle.sbe_text.specs.Held.{is_word}
use Rattle.sbe_from_text.proofs.numbers.behind_word.Given as goal

-- the bytes so far are the same, and none of them ends a line
abbrev pub invariant-loop-at : goal.invariant-loop-at
invariant-loop-at l = record {
  same : take l.at l.text ≡ take l.at l.word;
  clear : is_word (drop l.at l.word) ≡ is_word l.word;
}
