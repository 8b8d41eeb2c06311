-- What the schema of the session messages is: checked, with the block lengths of the profile's table, and of two versions of which the older is a
-- part of the newer.
use Rattle.std.specs.Prelude.{◌≡◌, ℕ, IsTrue, List, [], ◌∷◌, map}
use Rattle.schema_types.specs.declared.schema.Schema.{Schema}
use Rattle.sbe_schema.specs.Checked.{is_checked}
use Rattle.sbe_schema.specs.Sums.{bytes_of_block}
use Rattle.sbe_skew.specs.Projected.{projected}
use Rattle.session_grammar.specs.SessionSchema.{session_schema, session_types}

-- At versions 0 and 1 none of the faults of schemas occurs
pub record SessionIsChecked : Type 0 where
  pub older : IsTrue (is_checked (session_schema 0))
  pub newer : IsTrue (is_checked (session_schema 1))

-- the bytes of each template's block
abbrev pub blocks_of : Schema → List (ℕ × ℕ)
blocks_of schema = map {B = ℕ × ℕ} (λ m. (m.id, bytes_of_block session_types m.block_length m.fields)) schema.messages

-- Each template has the bytes of the profile's table: 36 of Establish and EstablishmentAck at version 0, 44 at version 1
pub record SessionBlocks : Type 0 where
  pub older : blocks_of (session_schema 0)
      ≡ (1, 25) ∷ (2, 25) ∷ (3, 25) ∷ (4, 36) ∷ (5, 36) ∷ (6, 25) ∷ (7, 8) ∷ (8, 0) ∷ (9, 36) ∷ (10, 36) ∷ (11, 25) ∷ (12, 12) ∷ (13, 12) ∷ (14, 24)
      ∷ (15, 16) ∷ (16, 17) ∷ []
  pub newer : blocks_of (session_schema 1)
      ≡ (1, 25) ∷ (2, 25) ∷ (3, 25) ∷ (4, 44) ∷ (5, 44) ∷ (6, 25) ∷ (7, 8) ∷ (8, 0) ∷ (9, 36) ∷ (10, 36) ∷ (11, 25) ∷ (12, 12) ∷ (13, 12) ∷ (14, 24)
      ∷ (15, 16) ∷ (16, 17) ∷ []

-- What version 1 has of version 0 is version 0
abbrev pub ProjectsToZero : Type 0
ProjectsToZero = projected 0 (session_schema 1) ≡ session_schema 0
