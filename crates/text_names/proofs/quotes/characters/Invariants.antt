use Rattle.std.proofs.Common.{◌≡◌, drop}
use Rattle.text_names.specs.Quotes.{characters}
use Rattle.text_names.specs.Unquoting.{IsPlace, left_at, led_by_all}
use Rattle.text_names.proofs.quotes.characters.Given as goal

-- the bytes so far, and those that the others say
abbrev pub invariant-loop-byte : goal.invariant-loop-byte
invariant-loop-byte l = IsPlace l.place × (led_by_all l.room.items (left_at l.place (drop l.byte-index l.text)) ≡ characters l.text)
