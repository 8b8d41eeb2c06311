-- Bytes of ASCII, as the characters of their numbers.
use Rattle.std.proofs.Common.{◌≡◌, ℕ, List}
use Rattle.std.proofs.lemmas.Str.{encodes-IsAscii}
use Rattle.std.specs.Str.{IsAscii}
use Rattle.sbe_json.specs.Fields.{text_of}

pub ascii_encoded : (bytes : List ℕ) → IsAscii bytes → text_of bytes ≡ bytes
ascii_encoded bytes ascii = encodes-IsAscii bytes ascii
