-- Text in quotes, where a byte that may not stand there is written behind a backslash (this project's profile).
use Rattle.std.specs.Prelude.{ℕ, ◌+◌, ◌*◌, ◌==◌, ◌&&◌, ◌||◌, nat_le, Bool, true, if◌then◌else◌, Option, Some, None, Result, Ok, Err, List, [], ◌∷◌, ◌++◌}
use Rattle.hex.specs.Hex.{hex_digit_value}
use Rattle.text_names.specs.declared.mistake.Wrong.{Wrong}
use Rattle.text_names.specs.declared.mistake.Wrong.TheVariants.{Escape, Open, Behind}

-- the bytes of a text in quotes, or what is wrong with it
abbrev pub Unquoted : Type 0
Unquoted = Result (List ℕ) Wrong

-- ---- reading

-- the byte behind a backslash (92): itself where it is a quote (34) or a backslash; of n (110), r (114), t (116) a line feed, a
-- carriage return, a tab
abbrev pub meant_by : ℕ → Option ℕ
meant_by b =
    if b == 34 || b == 92 then Some b
    else (if b == 110 then Some 10 else (if b == 114 then Some 13 else (if b == 116 then Some 9 else None)))

-- the byte of two hexadecimal digits
abbrev pub byte_of : ℕ → Option ℕ → Option ℕ
byte_of high None = None
byte_of high (Some low) = Some (high * 16 + low)

-- a byte, and those behind it
abbrev pub led_by : Option ℕ → Unquoted → Unquoted
led_by None rest = Err Escape
led_by (Some b) (Ok bytes) = Ok (b ∷ bytes)
led_by (Some b) (Err wrong) = Err wrong

-- nothing stands behind the quote that ends a text
abbrev pub ended : List ℕ → Unquoted
ended [] = Ok []
ended (b ∷ bs) = Err Behind

abbrev mutual
  -- what stands behind the quote that begins a text
  pub characters : List ℕ → Unquoted
  characters [] = Err Open
  characters (b ∷ bs) = if b == 34 then ended bs else (if b == 92 then escape bs else led_by (Some b) (characters bs))

  -- behind a backslash: x (120) and two hexadecimal digits of either case are the byte of these
  pub escape : List ℕ → Unquoted
  escape [] = Err Open
  escape (b ∷ bs) = if b == 120 then high_digit bs else led_by (meant_by b) (characters bs)

  pub high_digit : List ℕ → Unquoted
  high_digit [] = Err Open
  high_digit (b ∷ bs) = low_digit (hex_digit_value b) bs

  pub low_digit : Option ℕ → List ℕ → Unquoted
  low_digit None bs = Err Escape
  low_digit (Some high) [] = Err Open
  low_digit (Some high) (b ∷ bs) = led_by (byte_of high (hex_digit_value b)) (characters bs)

-- what a text says that begins with a quote
abbrev pub unquoted : List ℕ → Option Unquoted
unquoted [] = None
unquoted (b ∷ bs) = if b == 34 then Some (characters bs) else None

-- ---- writing

-- a byte from 0x20 to 0x7E, a line feed (10), a carriage return (13), a tab (9)
abbrev pub is_shown : ℕ → Bool
is_shown b = (nat_le 0x20 b && nat_le b 0x7e) || (b == 10 || (b == 13 || b == 9))

abbrev pub are_shown : List ℕ → Bool
are_shown [] = true
are_shown (b ∷ bs) = is_shown b && are_shown bs

abbrev pub shown : ℕ → List ℕ
shown b =
    if b == 34 || b == 92 then 92 ∷ b ∷ []
    else (if b == 10 then 92 ∷ 110 ∷ [] else (if b == 13 then 92 ∷ 114 ∷ [] else (if b == 9 then 92 ∷ 116 ∷ [] else b ∷ [])))

abbrev pub escaped : List ℕ → List ℕ
escaped [] = []
escaped (b ∷ bs) = shown b ++ escaped bs

abbrev pub in_quotes : List ℕ → List ℕ
in_quotes bytes = 34 ∷ (escaped bytes ++ 34 ∷ [])
