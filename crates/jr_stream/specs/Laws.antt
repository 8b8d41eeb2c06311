-- Laws of what an image has of a journal (this project's journal format).
use Rattle.std.specs.Prelude.{◌≡◌, ℕ, List}
use Rattle.jr_dated.specs.declared.formats.Format.{Format}
use Rattle.jr_dated.specs.Dated.{Dated}
use Rattle.jr_dated.specs.Formats.{IsNotFormattedIn}
use Rattle.jr_stream.specs.Images.{HasRecords}
use Rattle.jr_stream.specs.declared.reader.End.{End}

-- An image has one list of records, which end in one way at one place; where it does not begin with the header, it has none
pub record HasOneReading : Type 0 where
  pub one : (format : Format) (image : List ℕ) (h k : List Dated) (a b : End) → HasRecords format image h a → HasRecords format image k b → (h ≡ k) × (a ≡ b)
  pub formatted : (format : Format) (image : List ℕ) (h : List Dated) (a : End) → HasRecords format image h a → IsNotFormattedIn format image → ⊥
