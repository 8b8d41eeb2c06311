use Rattle.std.proofs.Common.{◌≡◌, true, take}
use Rattle.std.specs.Str.Parse.{digits_value}
use Rattle.sbe_text.specs.Tokens.{are_digits}
use Rattle.sbe_text.proofs.token.leading_digits.Given as goal

-- the bytes so far are digits, of the number so far
abbrev pub invariant-loop-at : goal.invariant-loop-at
invariant-loop-at l = record {
  digits : are_digits (take l.at l.text) ≡ true;
  value : digits_value 10 (take l.at l.text) ≡ l.number;
}
