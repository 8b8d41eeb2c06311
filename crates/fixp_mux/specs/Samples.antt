-- Worked rows, for who reads the definitions: each is computed.
use Rattle.std.specs.Prelude.{◌≡◌, ℕ, List, [], ◌∷◌, ◌++◌, length, Some, None}
use Rattle.sbe_prim.specs.declared.Order.TheVariants.{Little, Big}
use Rattle.sofh_frame.specs.Framing.{Frame, spelled}
use Rattle.sofh_frame.specs.Splits.{spelled_all}
use Rattle.fixp_mux.specs.Context.{says, names, malformed, carries, context_frame}
use Rattle.fixp_mux.specs.Parts.{named_behind, part_of, with_context}

-- the identifiers of two sessions
abbrev pub first_id : List ℕ
first_id = 0x00 ∷ 0x11 ∷ 0x22 ∷ 0x33 ∷ 0x44 ∷ 0x55 ∷ 0x66 ∷ 0x77 ∷ 0x88 ∷ 0x99 ∷ 0xAA ∷ 0xBB ∷ 0xCC ∷ 0xDD ∷ 0xEE ∷ 0xFF ∷ []

abbrev pub second_id : List ℕ
second_id = 0x01 ∷ 0x11 ∷ 0x22 ∷ 0x33 ∷ 0x44 ∷ 0x55 ∷ 0x66 ∷ 0x77 ∷ 0x88 ∷ 0x99 ∷ 0xAA ∷ 0xBB ∷ 0xCC ∷ 0xDD ∷ 0xEE ∷ 0xFF ∷ []

abbrev pub little : List ℕ → Frame
little message = record { order = Little; message = message }

-- the header of a session message with this block length and template
abbrev pub header : ℕ → ℕ → List ℕ
header block template = block ∷ 0x00 ∷ template ∷ 0x00 ∷ 0x11 ∷ 0xF0 ∷ 0x00 ∷ 0x00 ∷ []

-- a recorded client: Negotiate, Establish, two application messages and Terminate, and what it is answered
abbrev pub negotiate : List ℕ → Frame
negotiate id = little (header 0x19 1 ++ id ++ 0x01 ∷ 0x00 ∷ 0x00 ∷ 0x00 ∷ 0x00 ∷ 0x00 ∷ 0x00 ∷ 0x00 ∷ 0x03 ∷ 0x00 ∷ 0x00 ∷ [])

abbrev pub response : List ℕ → Frame
response id = little (header 0x19 2 ++ id ++ 0x01 ∷ 0x00 ∷ 0x00 ∷ 0x00 ∷ 0x00 ∷ 0x00 ∷ 0x00 ∷ 0x00 ∷ 0x04 ∷ 0x00 ∷ 0x00 ∷ [])

abbrev pub established : List ℕ
established =
    0x02 ∷ 0x00 ∷ 0x00 ∷ 0x00 ∷ 0x00 ∷ 0x00 ∷ 0x00 ∷ 0x00 ∷ 0xE8 ∷ 0x03 ∷ 0x00 ∷ 0x00
    ∷ 0xFF ∷ 0xFF ∷ 0xFF ∷ 0xFF ∷ 0xFF ∷ 0xFF ∷ 0xFF ∷ 0xFF ∷ []

abbrev pub establish : List ℕ → Frame
establish id = little (header 0x24 4 ++ id ++ established ++ 0x00 ∷ 0x00 ∷ [])

abbrev pub acknowledgement : List ℕ → Frame
acknowledgement id = little (header 0x24 5 ++ id ++ established)

abbrev pub message : ℕ → Frame
message template = little (0x00 ∷ 0x00 ∷ template ∷ 0x00 ∷ 0x64 ∷ 0x00 ∷ 0x01 ∷ 0x00 ∷ [])

abbrev pub terminate : List ℕ → Frame
terminate id = little (header 0x11 16 ++ id ++ 0x01 ∷ 0x00 ∷ 0x00 ∷ [])

abbrev pub client : List ℕ → List Frame
client id = negotiate id ∷ establish id ∷ message 7 ∷ message 8 ∷ terminate id ∷ []

abbrev pub answer : List ℕ → List Frame
answer id = response id ∷ acknowledgement id ∷ terminate id ∷ []

-- The bytes of a Context as it is written
abbrev pub ContextRow : Type 0
ContextRow =
    spelled (context_frame first_id)
    ≡ 0x00 ∷ 0x00 ∷ 0x00 ∷ 0x26 ∷ 0xEB ∷ 0x50 ∷ 0x18 ∷ 0x00 ∷ 0x11 ∷ 0x00 ∷ 0x11 ∷ 0xF0 ∷ 0x00 ∷ 0x00 ∷ []
    ++ first_id ++ 0xFF ∷ 0xFF ∷ 0xFF ∷ 0xFF ∷ 0xFF ∷ 0xFF ∷ 0xFF ∷ 0xFF ∷ []

-- One session: behind one Context all frames are its own, and its answer is written behind one Context, in 162 bytes
abbrev pub OneSessionRow : Type 0
OneSessionRow =
    (part_of None first_id (context_frame first_id ∷ client first_id) ≡ client first_id)
    × (part_of None first_id (context_frame first_id ∷ answer first_id) ≡ answer first_id)
    × (length (spelled_all (context_frame first_id ∷ answer first_id)) ≡ 162)

-- Two sessions, a Context before every frame and the frames alternating. In the second, an application message comes first
abbrev pub alternating : List Frame
alternating =
    context_frame first_id ∷ negotiate first_id ∷ context_frame second_id ∷ message 7
    ∷ context_frame first_id ∷ establish first_id ∷ context_frame second_id ∷ negotiate second_id
    ∷ context_frame first_id ∷ message 7 ∷ context_frame second_id ∷ establish second_id
    ∷ context_frame first_id ∷ message 8 ∷ context_frame second_id ∷ message 8
    ∷ context_frame first_id ∷ terminate first_id ∷ context_frame second_id ∷ terminate second_id ∷ []

abbrev pub TwoSessionsRow : Type 0
TwoSessionsRow =
    (part_of None first_id alternating ≡ client first_id)
    × (part_of None second_id alternating ≡ message 7 ∷ negotiate second_id ∷ establish second_id ∷ message 8 ∷ terminate second_id ∷ [])
    × (named_behind None alternating ≡ Some second_id)

-- What a frame says: a block of 23 bytes is no Context, one that is not whole is none, a longer one is; a big-endian frame and an application
-- message are none
abbrev pub SaysRow : Type 0
SaysRow =
    (says (little (header 0x18 17 ++ first_id ++ 0x00 ∷ 0x00 ∷ 0x00 ∷ 0x00 ∷ 0x00 ∷ 0x00 ∷ 0x00 ∷ 0x00 ∷ [])) ≡ names first_id)
    × (says (little (header 0x17 17 ++ first_id ++ 0x00 ∷ 0x00 ∷ 0x00 ∷ 0x00 ∷ 0x00 ∷ 0x00 ∷ 0x00 ∷ 0x00 ∷ [])) ≡ malformed)
    × (says (little (header 0x18 17 ++ first_id ++ 0x00 ∷ 0x00 ∷ 0x00 ∷ 0x00 ∷ 0x00 ∷ 0x00 ∷ 0x00 ∷ [])) ≡ malformed)
    × (says (little (header 0x19 17 ++ first_id ++ 0x00 ∷ 0x00 ∷ 0x00 ∷ 0x00 ∷ 0x00 ∷ 0x00 ∷ 0x00 ∷ 0x00 ∷ 0x00 ∷ [])) ≡ names first_id)
    × (says (message 17) ≡ carries)
    × (says (record { order = Big; message = 0x00 ∷ 0x18 ∷ 0x00 ∷ 0x11 ∷ 0xF0 ∷ 0x11 ∷ 0x00 ∷ 0x00 ∷ [] }) ≡ carries)

-- a frame of a session is written behind a Context exactly where the last one does not name it
abbrev pub WithContextRow : Type 0
WithContextRow =
    (with_context None first_id (message 7) ≡ context_frame first_id ∷ message 7 ∷ [])
    × (with_context (Some first_id) first_id (message 7) ≡ message 7 ∷ [])
    × (with_context (Some second_id) first_id (message 7) ≡ context_frame first_id ∷ message 7 ∷ [])
