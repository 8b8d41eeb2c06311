-- What is written of a text, by the test for UTF-8.
use Rattle.std.proofs.Common.{◌≡◌, ℕ, false, List, [], IsUtf8, refl, inl, inr}
use Rattle.std.proofs.lemmas.Bool.{cases_Bool}
use Rattle.std.proofs.lemmas.Str.{IsUtf8-from_is_utf8, is_utf8-from_IsUtf8}
use Rattle.std.specs.Str.{is_utf8}
use Rattle.toml.specs.Data.{string}
use Rattle.schema_print.specs.Written.{text_data}

not_utf8 : (bs : List ℕ) → (IsUtf8 bs → ⊥) → is_utf8 bs ≡ false
not_utf8 bs never = elim (cases_Bool (is_utf8 bs)) [ inl valid ↦ absurd (never (IsUtf8-from_is_utf8 bs valid)) | inr other ↦ other ]

pub valid_text : (text bytes : List ℕ) → text ≡ bytes → IsUtf8 bytes → string text ≡ text_data bytes
valid_text text bytes same valid = rw (same, is_utf8-from_IsUtf8 bytes valid) refl

pub other_text : (bytes : List ℕ) → (IsUtf8 bytes → ⊥) → string [] ≡ text_data bytes
other_text bytes never = rw (not_utf8 bytes never) refl
