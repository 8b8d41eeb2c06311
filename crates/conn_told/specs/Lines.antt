-- What a line of OUT says by a schema: the text of the message that was applied (this project's profile).
use Rattle.std.specs.Prelude.{◌≡◌, ◌⊎◌, ℕ, ◌^◌, ◌<◌, ◌≤◌, List, [], ◌∷◌, ◌++◌, length, codes, decimal, Result, Ok, Err}
use Rattle.hex.specs.Hex.{decode_of}
use Rattle.sofh_frame.specs.Framing.{Frame}
use Rattle.fixp_msgs.specs.Numbering.{payload_of}
use Rattle.sbe_value.specs.declared.message.Message.{Message}
use Rattle.sbe_layout.specs.declared.plan.Plan.{Plan}
use Rattle.sbe_grammar.specs.Reading.{message_in}
use Rattle.sbe_grammar.specs.declared.fault.DecodeFault.{DecodeFault}
use Rattle.sbe_text.specs.Written.{lines_of_message}
use Rattle.gw_lines.specs.Lines.{longest}
use Rattle.conn_told.specs.declared.end.Wrong.{Wrong}
use Rattle.conn_told.specs.declared.end.Wrong.TheVariants as wrongs

-- a line tells that a message was applied under a number, and these digits are its payload
pub record Delivers (line digits : List ℕ) : Type 0 where
  pub number : ℕ
  pub size : number < 2 ^ 64
  pub written : line ≡ codes "deliver " ++ decimal number ++ 32 ∷ digits

pub record Begins (line word : List ℕ) : Type 0 where
  pub behind : List ℕ
  pub written : line ≡ word ++ behind

-- a line of OUT that tells of no message: what a peer did not apply, how a connection ended, how a run ended
abbrev pub TellsOther : List ℕ → Type 0
TellsOther line = Begins line (codes "notapplied ") ⊎ (Begins line (codes "connection ") ⊎ Begins line (codes "status "))

-- a message in the byte order of a schema
abbrev pub framed : Plan → List ℕ → Frame
framed plan message = record { order = plan.order; message = message }

-- a line tells that this message was applied
pub record DeliversMessage (plan : Plan) (line message : List ℕ) : Type 0 where
  pub digits : List ℕ
  pub delivers : Delivers line digits
  pub spelled : decode_of digits ≡ Ok (payload_of (framed plan message))

-- the text of the message that a line tells of
pub record SaysMessage (plan : Plan) (line text : List ℕ) : Type 0 where
  pub bytes : List ℕ
  pub delivers : DeliversMessage plan line bytes
  pub message : Message
  pub read : message_in plan bytes ≡ Ok message
  pub text_is : text ≡ lines_of_message plan message

-- the payload is not in pairs of hexadecimal digits
pub record HasNoPairs (line : List ℕ) : Type 0 where
  pub digits : List ℕ
  pub delivers : Delivers line digits
  pub none : (payload : List ℕ) → decode_of digits ≡ Ok payload → ⊥

-- the payload begins with no encoding type of the schema's byte order
pub record HasOtherEncoding (plan : Plan) (line : List ℕ) : Type 0 where
  pub digits : List ℕ
  pub delivers : Delivers line digits
  pub payload : List ℕ
  pub spelled : decode_of digits ≡ Ok payload
  pub other : (message : List ℕ) → payload ≡ payload_of (framed plan message) → ⊥

-- the message has this fault
pub record HasFault (plan : Plan) (line : List ℕ) (fault : DecodeFault) : Type 0 where
  pub bytes : List ℕ
  pub delivers : DeliversMessage plan line bytes
  pub faulty : message_in plan bytes ≡ Err fault

-- the line is none of OUT
pub record IsNone (line : List ℕ) : Type 0 where
  pub no_message : (digits : List ℕ) → Delivers line digits → ⊥
  pub no_other : TellsOther line → ⊥

-- what a line says: the text of a message, nothing where it tells of none, or what is wrong with it
abbrev pub Says : Plan → List ℕ → Result (List ℕ) Wrong → Type 0
Says plan line (Ok text) = SaysMessage plan line text ⊎ (TellsOther line × (text ≡ []))
Says plan line (Err wrongs.TooLong) = longest ≤ length line
Says plan line (Err wrongs.Form) = IsNone line
Says plan line (Err wrongs.Digits) = HasNoPairs line
Says plan line (Err wrongs.Encoding) = HasOtherEncoding plan line
Says plan line (Err (wrongs.Message fault)) = HasFault plan line fault
