-- The words of a schema's text (this project's profile).
use Rattle.std.specs.Prelude.{ℕ, Option, Some, None, List, [], ◌∷◌, Ok, Err, ℤ, codes}
use Rattle.toml.specs.Data.{Data, string, integer}
use Rattle.sbe_prim.specs.declared.Order.{Order}
use Rattle.sbe_prim.specs.declared.Order.TheVariants.{Little, Big}
use Rattle.sbe_prim.specs.declared.Primitive.{Primitive}
use Rattle.sbe_prim.specs.Names.{primitive_named}
use Rattle.schema_types.specs.declared.types.Presence.{Presence}
use Rattle.schema_types.specs.declared.types.Presence.TheVariants.{Required, Optional, Constant as Always}
use Rattle.schema_types.specs.declared.types.Constant.{Constant}
use Rattle.schema_types.specs.declared.types.Constant.TheVariants.{Num, Text}
use Rattle.toml_walk.specs.declared.fault.TomlFault.TheVariants.{WrongKind}
use Rattle.toml_walk.specs.Reading.{Read, ◌>>=◌}
use Rattle.toml_walk.specs.Values.{text_of, wide_number, held, word_in, listed}

abbrev pub order_of : Data → Read Order
order_of d = text_of d >>= (λ text. listed (word_in ((codes "little", Little) ∷ (codes "big", Big) ∷ []) text))

abbrev pub presence_of : Data → Read Presence
presence_of d = text_of d >>= (λ text. listed (word_in ((codes "required", Required) ∷ (codes "optional", Optional) ∷ (codes "constant", Always) ∷ []) text))

abbrev pub primitive_of : Data → Read Primitive
primitive_of d = text_of d >>= (λ text. listed (primitive_named text))

-- the value of a constant: a number as numbers are spelled, and every other text
abbrev pub constant_by : List ℕ → Option ℕ → Read Constant
constant_by text None = Ok (Text text)
constant_by text (Some n) = held n >>= (λ z. Ok (Num z))

abbrev pub constant_of : Data → Read Constant
constant_of (integer z) = Ok (Num z)
constant_of (string text) = constant_by text (wide_number text)
constant_of _ = Err (WrongKind [])
