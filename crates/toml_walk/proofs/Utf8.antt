-- Texts that are no UTF-8.
use Rattle.std.proofs.Common.{◌≡◌, ℕ, List, true, false, Err, refl}
use Rattle.std.specs.Str.{IsUtf8, is_utf8}
use Rattle.std.proofs.lemmas.Str.{IsUtf8-from_is_utf8, is_utf8-from_IsUtf8}
use Rattle.toml.specs.Parse.{parse_document}
use Rattle.toml_walk.specs.declared.fault.TomlFault.TheVariants.{Text}
use Rattle.toml_walk.specs.Documents.{document_of, table_or_fault}

pub none_unless_utf8 : (bytes : List ℕ) → (IsUtf8 bytes → ⊥) → is_utf8 bytes ≡ false
none_unless_utf8 bytes h = elim (is_utf8 bytes) as (λ b. is_utf8 bytes ≡ b → is_utf8 bytes ≡ false) [ true ↦ λ e. absurd (h (IsUtf8-from_is_utf8 bytes e)) | false ↦ λ e. e ] refl

pub document_of-utf8 : (text : List ℕ) → IsUtf8 text → document_of text ≡ table_or_fault (parse_document text)
document_of-utf8 text utf8 = rw (is_utf8-from_IsUtf8 text utf8) refl

pub document_of-other : (text : List ℕ) → (IsUtf8 text → ⊥) → document_of text ≡ Err Text
document_of-other text other = rw (none_unless_utf8 text other) refl
