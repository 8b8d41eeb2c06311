-- How much of a journal was written, its first byte being left out.
use Rattle.std.specs.Prelude.{◌≡◌, ℕ, ◌+◌, List, [], ◌∷◌, ◌++◌, length, take, drop, Option}
use Rattle.std.specs.Option.{ForSome}
use Rattle.jr_record.specs.declared.record.Record.{Record}
use Rattle.jr_record.specs.Images.{gated}
use Rattle.jr_dated.specs.Dated.{dated, spelled}
use Rattle.jr_dated.specs.Images.{header}

-- the header without its first byte
abbrev pub header_rest : List ℕ
header_rest = drop 1 header

-- all of a journal of these records but its first byte, the moments being 0
abbrev pub rest_of : List Record → List ℕ
rest_of records = header_rest ++ (gated spelled (dated 0 records) ++ 0 ∷ [])

-- these bytes stand behind the first byte, which is 0
abbrev pub HasLaid : List ℕ → List ℕ → Type 0
HasLaid done content = take (1 + length done) content ≡ 0 ∷ done

-- all of the journal does
abbrev pub LaysAll : List Record → List ℕ → Type 0
LaysAll records content = HasLaid (rest_of records) content

-- of bytes that were laid and those held behind them some more were laid: the place of the next ones, and those that are held now
pub record Spills (told : Option (List ℕ)) (done held : List ℕ) (at : ℕ) (held' : List ℕ) : Type 0 where
  pub done' : List ℕ
  pub place : at ≡ 1 + length done'
  pub laid : ForSome told (HasLaid done')
  pub same : done' ++ held' ≡ done ++ held
