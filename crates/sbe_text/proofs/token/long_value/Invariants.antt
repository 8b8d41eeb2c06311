use Rattle.std.proofs.Common.{◌≡◌, ◌≤◌, ◌-◌, ◌^◌, true, drop}
use Rattle.std.specs.Str.Parse.{digits_value_after, digits_value}
use Rattle.sbe_text.specs.Tokens.{are_digits}
use Rattle.sbe_text.proofs.token.long_value.Given as goal

-- the digits that are left, behind the number so far, are those of the whole
abbrev pub invariant-loop-digit : goal.invariant-loop-digit
invariant-loop-digit l = record {
  held : l.number ≤ 2 ^ 128 - 1;
  digits : are_digits (drop l.digit-index l.digits) ≡ true;
  value : digits_value_after 10 l.number (drop l.digit-index l.digits) ≡ digits_value 10 l.digits;
}
