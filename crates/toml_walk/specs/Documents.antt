-- The table that a text is.
use Rattle.std.specs.Prelude.{ℕ, if◌then◌else◌, Option, Some, None, List, Ok, Err}
use Rattle.std.specs.Str.{is_utf8}
use Rattle.toml.specs.Data.{Data, table, Members}
use Rattle.toml.specs.Parse.{parse_document}
use Rattle.toml_walk.specs.declared.fault.TomlFault.TheVariants.{Text}
use Rattle.toml_walk.specs.Reading.{Read}

abbrev pub table_or_fault : Option Members → Read Data
table_or_fault None = Err Text
table_or_fault (Some keys) = Ok (table keys)

-- a TOML document in UTF-8
abbrev pub document_of : List ℕ → Read Data
document_of text = table_or_fault (if is_utf8 text then parse_document text else None)
