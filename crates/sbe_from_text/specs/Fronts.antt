-- The bytes of the message at the front of a text, in the strict form or else in the wider one.
use Rattle.std.specs.Prelude.{◌≡◌, ⊤, ℕ, Option, Some, None, Result, Ok, Err, List, length}
use Rattle.std.specs.Borrow.{Bor}
use Rattle.sbe_value.specs.declared.message.Message.{Message}
use Rattle.sbe_layout.specs.declared.plan.Plan.{Plan}
use Rattle.sbe_grammar.specs.Canonical.{canonical}
use Rattle.sbe_encode.specs.declared.fault.EncodeFault.{EncodeFault}
use Rattle.sbe_encode.specs.Faults.{encode_fault}
use Rattle.text_words.specs.Lines.{lines_in}
use Rattle.text_names.specs.Fronts.{front_of}
use Rattle.sbe_from_text.specs.declared.front.Unwritten.{Unwritten}
use Rattle.sbe_from_text.specs.declared.front.Unwritten.TheVariants as unwritten

-- the message at the front has no fault, these are its bytes, and this text is behind it
pub record IsFront (schema : Plan) (text rest bytes : List ℕ) : Type 0 where
  pub message : Message
  pub read : front_of schema (lines_in text) ≡ Ok (Some (message, lines_in rest))
  pub faultless : encode_fault schema message ≡ None
  pub is : bytes ≡ canonical schema message

-- its first fault is this
pub record IsFaulty (schema : Plan) (text : List ℕ) (fault : EncodeFault) : Type 0 where
  pub message : Message
  pub rest : List (List ℕ)
  pub read : front_of schema (lines_in text) ≡ Ok (Some (message, rest))
  pub faulty : encode_fault schema message ≡ Some fault

-- what is answered is what stands at the front; nothing is said where memory ran out
abbrev pub WritesFront : Plan → List ℕ → List ℕ → Result (Option (Bor (List ℕ))) Unwritten → Type 0
WritesFront schema text bytes (Ok (Some rest)) = IsFront schema text rest.now bytes
WritesFront schema text bytes (Ok None) = front_of schema (lines_in text) ≡ Ok None
WritesFront schema text bytes (Err (unwritten.Line at)) = front_of schema (lines_in text) ≡ Err (length (lines_in at.now))
WritesFront schema text bytes (Err (unwritten.Fault fault)) = IsFaulty schema text fault
WritesFront schema text bytes (Err unwritten.Memory) = ⊤
