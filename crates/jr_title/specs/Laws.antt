-- The laws of titles.
use Rattle.std.specs.Prelude.{◌≡◌, ℕ, List, ◌++◌, length, Option, Result, Ok}
use Rattle.jr_title.specs.declared.title.Title.{Title}
use Rattle.jr_title.specs.declared.title.Binding.{Binding}
use Rattle.jr_title.specs.declared.faults.TitleFault.{TitleFault}
use Rattle.jr_title.specs.declared.comparing.Part.{Part}
use Rattle.jr_title.specs.Titles.{IsTitle, image_of}
use Rattle.jr_title.specs.Reading.{IsReading}
use Rattle.jr_title.specs.Others.{IsFirstOther}

-- a title has 64 bytes, which are read as that title, whatever stands behind them
pub record ReadsBack : Type 0 where
  pub size : (t : Title) → IsTitle t → length (image_of t) ≡ 64
  pub read : (t : Title) (behind : List ℕ) → IsTitle t → IsReading (image_of t ++ behind) (Ok t)

-- titles with the same bytes are one
abbrev pub AtMostOneTitle : Type 0
AtMostOneTitle = (t u : Title) → IsTitle t → IsTitle u → image_of t ≡ image_of u → t ≡ u

-- bytes are one title, or none for one cause
abbrev pub AtMostOneReading : Type 0
AtMostOneReading = (bytes : List ℕ) (r s : Result Title TitleFault) → IsReading bytes r → IsReading bytes s → r ≡ s

-- nothing differs, or one part does first
abbrev pub AtMostOneOther : Type 0
AtMostOneOther = (t : Title) (asked : Binding) (pair : Option ℕ) (o p : Option Part) → IsFirstOther t asked pair o → IsFirstOther t asked pair p → o ≡ p
