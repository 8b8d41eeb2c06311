-- What `encode` makes of a text: the messages in a row that its lines spell, and their frames (this project's profile; the
-- frames are those of the Simple Open Framing Header).
use Rattle.std.specs.Prelude.{◌≡◌, ◌≢◌, ℕ, ◌+◌, ◌-◌, Option, Some, None, Ok, Err, List, [], ◌∷◌, ◌++◌, length}
use Rattle.sofh_frame.specs.Framing.{Frame, spelled}
use Rattle.sbe_value.specs.declared.message.Message.{Message}
use Rattle.sbe_layout.specs.declared.plan.Plan.{Plan}
use Rattle.sbe_grammar.specs.Canonical.{canonical}
use Rattle.sbe_encode.specs.declared.fault.EncodeFault.{EncodeFault}
use Rattle.sbe_encode.specs.Faults.{encode_fault}
use Rattle.text_words.specs.Lines.{lines_in}
use Rattle.sbe_text.specs.Reading.{read_message}
use Rattle.text_names.specs.Fronts.{front_of}
use Rattle.cmd_base.specs.Texts.{input_limit}
use Rattle.cmd_base.specs.declared.status.Bad.TheVariants as bad
use Rattle.cmd_base.specs.declared.status.Status.{Status}
use Rattle.cmd_base.specs.declared.status.Status.TheVariants as status

-- the most bytes of a text
abbrev pub text_limit : ℕ
text_limit = input_limit

-- ---- messages in a row, each in the strict form or else in the wider one

-- the lines begin with this message, and so much is known of those behind it
pub record BeginsWith (plan : Plan) (ls : List (List ℕ)) (m : Message) (known : List (List ℕ) → Type 0) : Type 0 where
  pub rest : List (List ℕ)
  pub is : front_of plan ls ≡ Ok (Some (m, rest))
  pub behind : known rest

-- the lines are those of these messages, one after another, and the lines behind them
abbrev pub AreRead : Plan → List (List ℕ) → List Message → List (List ℕ) → Type 0
AreRead plan ls [] behind = ls ≡ behind
AreRead plan ls (m ∷ ms) behind = BeginsWith plan ls m (λ rest. AreRead plan rest ms behind)

-- the lines are those of these messages, one after another, and the lines behind them are empty
abbrev pub AreAll : Plan → List (List ℕ) → List Message → Type 0
AreAll plan ls [] = front_of plan ls ≡ Ok None
AreAll plan ls (m ∷ ms) = BeginsWith plan ls m (λ rest. AreAll plan rest ms)

-- a text spells these messages
abbrev pub AreSpelled : Plan → List ℕ → List Message → Type 0
AreSpelled plan text messages = AreAll plan (lines_in text) messages

-- lines are those of these messages in the strict form, one after another
abbrev pub AreStrict : Plan → List (List ℕ) → List Message → Type 0
AreStrict plan ls [] = ls ≡ []
AreStrict plan ls (m ∷ ms) = (rest : List (List ℕ)) × (read_message plan.messages ls ≡ Ok (m, rest)) × AreStrict plan rest ms

-- a text has messages up to a line that may not stand there; it has this number, counted from 1 over the whole text, and is one
-- past the last where the text ends inside a message
pub record IsRefusedAt (plan : Plan) (text : List ℕ) (line : ℕ) : Type 0 where
  pub messages : List Message
  pub behind : List (List ℕ)
  pub read : AreRead plan (lines_in text) messages behind
  pub more : behind ≢ []
  pub left : ℕ
  pub refused : front_of plan behind ≡ Err left
  pub number : line ≡ length (lines_in text) - left + 1

-- ---- their frames

abbrev pub frame_of : Plan → Message → Frame
frame_of plan m = record { order = plan.order; message = canonical plan m }

-- what is written, and how it ends
pub record Written : Type 0 where
  pub wire : List ℕ
  pub status : Status

-- bytes in front of what is written behind them
abbrev pub behind : List ℕ → Written → Written
behind bytes more = record { wire = bytes ++ more.wire; status = more.status }

-- what is written from a message on, given its first fault, and what is written behind it
abbrev pub followed : Plan → ℕ → Message → Option EncodeFault → Written → Written
followed plan number m (Some fault) more = record { wire = []; status = status.Message (bad.Encode number fault) }
followed plan number m None more = behind (spelled (frame_of plan m)) more

-- the frames of messages, of which the first has this number, up to the first that may not be written
abbrev pub written_from : Plan → ℕ → List Message → Written
written_from plan number [] = record { wire = []; status = status.Done }
written_from plan number (m ∷ ms) = followed plan number m (encode_fault plan m) (written_from plan (number + 1) ms)

-- messages are numbered from 1
abbrev pub written : Plan → List Message → Written
written plan messages = written_from plan 1 messages
