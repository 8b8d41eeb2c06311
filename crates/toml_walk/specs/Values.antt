-- What stands at a key by itself: names, texts and numbers (this project's profile).
use Rattle.std.specs.Prelude.{ℕ, ◌-◌, ◌^◌, ◌==◌, ◌&&◌, ◌||◌, Bool, true, false, not, nat_le, if◌then◌else◌, Option, Some, None, List, [], ◌∷◌, length, Ok, Err, ℤ, pos, negsuc}
use Rattle.std.specs.Char.{is_ascii_digit, is_ascii_alphabetic, is_ascii_alphanumeric}
use Rattle.std.specs.Str.{bytes_eq}
use Rattle.std.specs.Str.Parse.{digits_value}
use Rattle.toml.specs.Data.{Data, string, integer, as_str}
use Rattle.toml_walk.specs.declared.fault.TomlFault.TheVariants.{WrongKind, Range}
use Rattle.toml_walk.specs.Reading.{Read, ◌>>=◌}

-- ---- texts

abbrev pub text_of_string : Option (List ℕ) → Read (List ℕ)
text_of_string None = Err (WrongKind [])
text_of_string (Some text) = Ok text

abbrev pub text_of : Data → Read (List ℕ)
text_of d = text_of_string (as_str d)

-- ---- words

module _ {A : Type 0} where
  -- the value of a word, if it is one of a list
  abbrev pub word_in : List (List ℕ × A) → List ℕ → Option A
  word_in [] text = None
  word_in (w ∷ ws) text = if bytes_eq text w.0 then Some w.1 else word_in ws text

  -- a text that is no word of its list is out of range
  abbrev pub listed : Option A → Read A
  listed None = Err (Range [])
  listed (Some a) = Ok a

-- ---- names: 1 to 64 letters, digits or `_` (95), the first no digit

abbrev pub is_name_byte : ℕ → Bool
is_name_byte byte = is_ascii_alphanumeric byte || byte == 95

abbrev pub are_name_bytes : List ℕ → Bool
are_name_bytes [] = true
are_name_bytes (byte ∷ bytes) = is_name_byte byte && are_name_bytes bytes

abbrev pub is_name : List ℕ → Bool
is_name [] = false
is_name (first ∷ bytes) = (nat_le (length (first ∷ bytes)) 64 && not (is_ascii_digit first)) && are_name_bytes (first ∷ bytes)

abbrev pub name_of : Data → Read (List ℕ)
name_of d = text_of d >>= (λ text. if is_name text then Ok text else Err (Range []))

-- ---- numbers: a TOML integer, or decimal digits above 2^63 - 1 as a string

abbrev pub are_digits : List ℕ → Bool
are_digits [] = true
are_digits (byte ∷ bytes) = is_ascii_digit byte && are_digits bytes

-- the number that decimal digits spell, where they are some and it is above the greatest TOML integer
abbrev pub wide_number : List ℕ → Option ℕ
wide_number [] = None
wide_number (byte ∷ bytes) =
    if are_digits (byte ∷ bytes) && not (nat_le (digits_value 10 (byte ∷ bytes)) (2 ^ 63 - 1)) then Some (digits_value 10 (byte ∷ bytes)) else None

-- a number that 128 bits hold
abbrev pub held : ℕ → Read ℤ
held n = if nat_le n (2 ^ 127 - 1) then Ok (pos n) else Err (Range [])

abbrev pub number_by : Option ℕ → Read ℤ
number_by None = Err (WrongKind [])
number_by (Some n) = held n

abbrev pub number_of : Data → Read ℤ
number_of (integer z) = Ok z
number_of (string text) = number_by (wide_number text)
number_of _ = Err (WrongKind [])

-- a whole number from the least to the greatest
abbrev pub between : ℕ → ℕ → ℤ → Read ℕ
between least greatest (pos n) = if nat_le least n && nat_le n greatest then Ok n else Err (Range [])
between least greatest (negsuc n) = Err (Range [])

abbrev pub natural_of : ℕ → ℕ → Data → Read ℕ
natural_of least greatest d = number_of d >>= between least greatest
