-- A journal with moments as the boxes above it speak of it: by its records without their moments.
use Rattle.std.specs.Prelude.{◌≡◌, List}
use Rattle.jr_record.specs.declared.record.Record.{Record}
use Rattle.jr_dated.specs.Dated.{Dated, undated}

-- it stands for these records, each with some moment
abbrev pub Undated : {J : Type 0} → (J → List Dated → Type 0) → J → List Record → Type 0
Undated stands j records = (dated : List Dated) × stands j dated × (undated dated ≡ records)
