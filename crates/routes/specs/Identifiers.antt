-- Identifiers of sessions in a row, and where each stands (FIXP 1.1: a session identifier is a UUID of 16 bytes). Places count from 0.
use Rattle.std.specs.Prelude.{◌≡◌, ℕ, ◌<◌, List, Some, slice_get}

-- an identifier stands at a place
abbrev pub StandsAt : List (List ℕ) → List ℕ → ℕ → Type 0
StandsAt ids id place = slice_get ids place ≡ Some id

-- the identifier at a place stands at an earlier place too
pub record IsRepeated (ids : List (List ℕ)) (place : ℕ) : Type 0 where
  pub id : List ℕ
  pub earlier : ℕ
  pub before : earlier < place
  pub here : StandsAt ids id place
  pub there : StandsAt ids id earlier

-- and no place before it is such a one
pub record IsFirstRepeated (ids : List (List ℕ)) (place : ℕ) : Type 0 where
  pub repeated : IsRepeated ids place
  pub least : (p : ℕ) → p < place → IsRepeated ids p → ⊥

-- no identifier stands twice
abbrev pub EachOnce : List (List ℕ) → Type 0
EachOnce ids = (p : ℕ) → IsRepeated ids p → ⊥

-- where no identifier stands twice, each stands at one place
abbrev pub StandsOnce : Type 0
StandsOnce = (ids : List (List ℕ)) (id : List ℕ) (p q : ℕ) → EachOnce ids → StandsAt ids id p → StandsAt ids id q → p ≡ q

-- at most one place is the first that is repeated, and where there is none each identifier stands once
abbrev pub FirstIsOne : Type 0
FirstIsOne = (ids : List (List ℕ)) (p q : ℕ) → IsFirstRepeated ids p → IsFirstRepeated ids q → p ≡ q
