-- What is answered of a text that may begin with a quote.
use Rattle.std.specs.Prelude.{◌≡◌, ⊤, ℕ, Bool, true, false, Some, None, Result, Ok, Err, List}
use Rattle.text_names.specs.Quotes.{unquoted}
use Rattle.text_names.specs.declared.mistake.Slip.{Slip}
use Rattle.text_names.specs.declared.mistake.Slip.TheVariants as slip

-- it is one in quotes, whose bytes stand in a room, or none, or is wrong
abbrev pub Unquotes : List ℕ → List ℕ → Result Bool Slip → Type 0
Unquotes text room (Ok true) = unquoted text ≡ Some (Ok room)
Unquotes text room (Ok false) = unquoted text ≡ None
Unquotes text room (Err (slip.Mistake wrong word)) = (unquoted text ≡ Some (Err wrong)) × (word.now ≡ text)
Unquotes text room (Err slip.Memory) = ⊤
