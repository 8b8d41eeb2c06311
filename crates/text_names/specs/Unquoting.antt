-- How the reader of a text in quotes is tied to what such a text says.
use Rattle.std.specs.Prelude.{◌≡◌, ⊤, ℕ, ◌<◌, Option, Some, None, Ok, Err, List, ◌++◌}
use Rattle.text_names.specs.Quotes.{Unquoted, characters, ended, escape, high_digit, led_by, low_digit}
use Rattle.text_names.specs.declared.mistake.Wrong.{Wrong}
use Rattle.text_names.specs.declared.quotes.Place.{Place}
use Rattle.text_names.specs.declared.quotes.Place.TheVariants as place
use Rattle.text_names.specs.declared.quotes.Seen.{Seen}
use Rattle.text_names.specs.declared.quotes.Seen.TheVariants as seen

-- what the bytes from a place on say
abbrev pub left_at : Place → List ℕ → Unquoted
left_at place.Text bs = characters bs
left_at place.Escape bs = escape bs
left_at place.High bs = high_digit bs
left_at (place.Low high) bs = low_digit (Some high) bs
left_at place.End bs = ended bs

-- a digit is below 16
abbrev pub IsPlace : Place → Type 0
IsPlace place.Text = ⊤
IsPlace place.Escape = ⊤
IsPlace place.High = ⊤
IsPlace (place.Low high) = high < 16
IsPlace place.End = ⊤

-- what the bytes behind one say that was read
abbrev pub goes_on : Seen → List ℕ → Unquoted
goes_on (seen.Byte b) bs = led_by (Some b) (characters bs)
goes_on (seen.Part place) bs = left_at place bs
goes_on (seen.Bad wrong) bs = Err wrong

abbrev pub IsRead : Seen → Type 0
IsRead (seen.Byte b) = ⊤
IsRead (seen.Part place) = IsPlace place
IsRead (seen.Bad wrong) = ⊤

-- bytes before those that are said
abbrev pub led_by_all : List ℕ → Unquoted → Unquoted
led_by_all bytes (Ok bs) = Ok (bytes ++ bs)
led_by_all bytes (Err wrong) = Err wrong

-- the bytes of a text stand in a room, or this is wrong with it
abbrev pub Reads : Unquoted → List ℕ → Option Wrong → Type 0
Reads told room None = told ≡ Ok room
Reads told room (Some wrong) = told ≡ Err wrong
