-- What a caller sees of the value of an item.
use Rattle.std.specs.Prelude.{◌≡◌, ◌⊎◌}
use Rattle.sbe_value.specs.declared.item.Item.{Item}
use Rattle.sbe_value.specs.declared.item.Item.TheVariants as item
use Rattle.sbe_decode.specs.declared.value.FieldView.{FieldView}
use Rattle.sbe_decode.specs.declared.value.FieldView.TheVariants.{Num, Bytes, Null, Absent}
use Rattle.sbe_decode.specs.declared.value.Value.{Value}
use Rattle.sbe_decode.specs.declared.value.Value.TheVariants as value

-- the field shows the item: its number, the bytes of its text or of its raw value, that it is not set, or that it is absent
abbrev pub Shows : FieldView → Item → Type 0
Shows (Num n) i = i ≡ item.Num n
Shows (Bytes part) i = (i ≡ item.Text part.now) ⊎ (i ≡ item.Raw part.now)
Shows Null i = i ≡ item.Null
Shows Absent i = i ≡ item.Absent

-- the item of a value that is still in its message
abbrev pub item_of : Value → Item
item_of (value.Num n) = item.Num n
item_of value.Null = item.Null
item_of value.Absent = item.Absent
item_of (value.Text part) = item.Text part.now
item_of (value.Raw part) = item.Raw part.now
