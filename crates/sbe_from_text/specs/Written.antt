-- The bytes of a message by the lines that spell it.
use Rattle.std.specs.Prelude.{◌≡◌, ⊤, ℕ, Option, Some, None, Ok, List, [], ◌∷◌, ◌++◌}
use Rattle.std.specs.Borrow.{Bor}
use Rattle.sbe_prim.specs.declared.Order.{Order}
use Rattle.sbe_value.specs.declared.datum.Datum.{Datum}
use Rattle.sbe_value.specs.declared.tree.Block.{Block}
use Rattle.sbe_value.specs.declared.message.Message.{Message}
use Rattle.sbe_layout.specs.declared.items.DataPlan.{DataPlan}
use Rattle.sbe_layout.specs.declared.blocks.BlockPlan.{BlockPlan}
use Rattle.sbe_layout.specs.declared.listings.Listing.{Listing}
use Rattle.sbe_layout.specs.declared.plan.Plan.{Plan}
use Rattle.sbe_grammar.specs.Reading.{Entry}
use Rattle.sbe_grammar.specs.Canonical.{canonical, data_bytes}
use Rattle.sbe_encode.specs.declared.fault.EncodeFault.{EncodeFault}
use Rattle.sbe_encode.specs.Faults.{encode_fault}
use Rattle.sbe_encode.specs.Blocks.{parts_bytes, parts_fault}
use Rattle.text_words.specs.Lines.{lines_in}
use Rattle.sbe_text.specs.Read.{Read, next}
use Rattle.sbe_text.specs.Reading.{read_message}

-- the lines at the front of a text spell a message without a fault, its bytes are written, and the text behind it is left
pub record IsWritten (schema : Plan) (text rest bytes : List ℕ) : Type 0 where
  pub message : Message
  pub read : read_message schema.messages (lines_in text) ≡ Ok (message, lines_in rest)
  pub faultless : encode_fault schema message ≡ None
  pub is : bytes ≡ canonical schema message

-- ---- parts of a message

-- the bytes of what is read, behind others, beside its first fault
abbrev pub written : {A : Type 0} → List ℕ → (A → Option EncodeFault) → (A → List ℕ) → Read A → Read (Option EncodeFault × List ℕ)
written old fault bytes read = next read (λ x rest. Ok ((fault x, old ++ bytes x), rest))

-- what is read has no fault, its bytes are written, and the text behind it is given
abbrev pub Writes : {A : Type 0} → (A → Option EncodeFault) → (A → List ℕ) → Read A → List ℕ → List ℕ → Option (Bor (List ℕ)) → Type 0
Writes fault bytes read old new None = ⊤
Writes fault bytes read old new (Some rest) = written old fault bytes read ≡ Ok ((None, new), lines_in rest.now)

abbrev pub block_of : Entry → Block
block_of e = record { items = e.items; groups = e.groups; vars = e.vars }

abbrev pub entry_fault : List Listing → BlockPlan → Entry → Option EncodeFault
entry_fault listings plan e = parts_fault listings plan (block_of e)

abbrev pub entry_bytes : Order → BlockPlan → Entry → List ℕ
entry_bytes order plan e = parts_bytes order plan (block_of e)

abbrev pub datum_bytes : Order → DataPlan → Datum → List ℕ
datum_bytes order plan v = data_bytes order (plan ∷ []) (v ∷ [])
