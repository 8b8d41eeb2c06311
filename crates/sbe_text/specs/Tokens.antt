-- What stands on a line: a path, and the value of an element by its form (this project's profile).
use Rattle.std.specs.Prelude.{◌≡◌, ℕ, zero, suc, ◌-◌, ◌^◌, ◌<◌, ◌≤◌, ◌==◌, ◌&&◌, ◌||◌, nat_le, ℤ, pos, negsuc, Bool, true, false, not, if◌then◌else◌, Option, Some, None, Result, Ok, Err, List, [], ◌∷◌, length, take, drop, codes}
use Rattle.std.specs.Option.{option_map}
use Rattle.std.specs.Str.{bytes_eq}
use Rattle.std.specs.Str.Parse.{digits_value}
use Rattle.hex.specs.Hex.{decode_of}
use Rattle.hex.specs.declared.error.FromHexError.{FromHexError}
use Rattle.sbe_value.specs.declared.item.Item.{Item}
use Rattle.sbe_value.specs.declared.item.Item.TheVariants.{Num, Null, Absent, Text, Raw}
use Rattle.sbe_value.specs.declared.datum.Datum.{Datum}
use Rattle.sbe_value.specs.declared.datum.Datum.TheVariants as datum
use Rattle.sbe_grammar.specs.Fits.{Form, number, text, raw}
use Rattle.sbe_text.specs.declared.token.Count.{Count}
use Rattle.sbe_text.specs.declared.token.Count.TheVariants as count
use Rattle.sbe_text.specs.Written.{are_plain}

-- ---- parts of a line

-- what stands behind these bytes, and what in front of them
abbrev pub behind : List ℕ → List ℕ → Option (List ℕ)
behind front bytes = if bytes_eq (take (length front) bytes) front then Some (drop (length front) bytes) else None

abbrev pub in_front : List ℕ → List ℕ → Option (List ℕ)
in_front back bytes =
    if bytes_eq (drop (length bytes - length back) bytes) back then Some (take (length bytes - length back) bytes) else None

-- something of a part, where the part is there
abbrev pub also : {A B : Type 0} → Option A → (A → Option B) → Option B
also None more = None
also (Some part) more = more part

-- the value on the line of an element: it stands behind the element's path and ` = `
abbrev pub value_on : List ℕ → List ℕ → List ℕ → Option (List ℕ)
value_on before name line = also (also (behind before line) (behind name)) (behind (codes " = "))

-- a line of these bytes alone
abbrev pub is_line : List ℕ → List ℕ → Option (List ℕ)
is_line bytes line = if bytes_eq line bytes then Some line else None

-- ---- numbers

abbrev pub is_digit : ℕ → Bool
is_digit byte = nat_le 48 byte && nat_le byte 57

abbrev pub are_digits : List ℕ → Bool
are_digits [] = true
are_digits (byte ∷ bytes) = is_digit byte && are_digits bytes

-- so many digits, of this number, stand in front, and where there are bytes behind them not all are digits
pub record AreInFront (text : List ℕ) (number count : ℕ) : Type 0 where
  pub digits : are_digits (take count text) ≡ true
  pub value : digits_value 10 (take count text) ≡ number
  pub within : count ≤ length text
  pub end : count < length text → are_digits text ≡ false

-- decimal digits without a leading zero (48), of a number that 128 bits hold
abbrev pub natural_of : List ℕ → Option ℕ
natural_of [] = None
natural_of (byte ∷ bytes) =
    if (are_digits (byte ∷ bytes) && (not (byte == 48) || length bytes == 0)) && nat_le (digits_value 10 (byte ∷ bytes)) (2 ^ 128 - 1)
    then Some (digits_value 10 (byte ∷ bytes))
    else None

-- a number that 128 bits with a sign hold
abbrev pub held : ℕ → Option ℕ
held n = if nat_le n (2 ^ 127 - 1) then Some n else None

abbrev pub positive : ℕ → Option ℤ
positive n = option_map pos (held n)

-- -(n + 1) is written negsuc n
abbrev pub negative : ℕ → Option ℤ
negative zero = None
negative (suc n) = option_map negsuc (held n)

-- a number of 128 bits with a sign: it has a `-` (45) where it is negative
abbrev pub number_of : List ℕ → Option ℤ
number_of [] = None
number_of (byte ∷ bytes) = if byte == 45 then also (natural_of bytes) negative else also (natural_of (byte ∷ bytes)) positive

-- ---- bytes and characters

abbrev pub decoded : Result (List ℕ) FromHexError → Option (List ℕ)
decoded (Ok bytes) = Some bytes
decoded (Err fault) = None

-- hexadecimal pairs of either case behind an `x`
abbrev pub raw_of : List ℕ → Option (List ℕ)
raw_of line = also (behind (codes "x") line) (λ digits. decoded (decode_of digits))

abbrev pub plain : List ℕ → Option (List ℕ)
plain bytes = if are_plain bytes then Some bytes else None

-- characters between quotes (34)
abbrev pub quoted_of : List ℕ → Option (List ℕ)
quoted_of line = also (also (behind (34 ∷ []) line) (in_front (34 ∷ []))) plain

-- characters between quotes, or raw bytes
abbrev pub either_of : Option (List ℕ) → Option (List ℕ) → Option (List ℕ)
either_of None other = other
either_of (Some bytes) other = Some bytes

abbrev pub characters_of : List ℕ → Option (List ℕ)
characters_of line = either_of (quoted_of line) (raw_of line)

abbrev pub at_most : ℕ → List ℕ → Option (List ℕ)
at_most size bytes = if nat_le (length bytes) size then Some bytes else None

abbrev pub exactly : ℕ → List ℕ → Option (List ℕ)
exactly size bytes = if length bytes == size then Some bytes else None

-- ---- values

-- a value that is not absent, by its form
abbrev pub present_of : Form → List ℕ → Option Item
present_of (number optional) line =
    if optional && bytes_eq line (codes "null") then Some Null else option_map Num (number_of line)
present_of (text size) line = option_map Text (also (characters_of line) (at_most size))
present_of (raw size) line = option_map Raw (also (raw_of line) (exactly size))

abbrev pub value_of : Form → List ℕ → Option Item
value_of form line = if bytes_eq line (codes "absent") then Some Absent else present_of form line

abbrev pub datum_of : List ℕ → Option Datum
datum_of line = if bytes_eq line (codes "absent") then Some datum.Absent else option_map datum.Present (raw_of line)

-- what the line of a group tells: that it is absent, or the number of its entries
abbrev pub count_of : List ℕ → Option Count
count_of line = if bytes_eq line (codes "absent") then Some count.Absent else option_map count.Entries (also (natural_of line) held)
