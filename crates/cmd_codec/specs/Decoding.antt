-- How far `decode` has come in the middle of its input.
use Rattle.std.specs.Prelude.{◌≡◌, ⊤, ℕ, ◌<◌, Bool, true, false, Result, Ok, Err, List, [], ◌++◌, length}
use Rattle.sofh_frame.specs.Framing.{rest, first_of}
use Rattle.sbe_value.specs.declared.message.Message as values
use Rattle.sbe_layout.specs.declared.plan.Plan.{Plan}
use Rattle.sbe_grammar.specs.Reading.{message_in}
use Rattle.sbe_text.specs.Written.{lines_of_message}
use Rattle.cmd_codec.specs.declared.shown.Shown.{Shown}
use Rattle.cmd_base.specs.declared.status.Bad.{Bad}
use Rattle.cmd_base.specs.declared.status.Status.{Status}
use Rattle.cmd_base.specs.declared.status.Status.TheVariants.{Message, Memory}
use Rattle.cmd_codec.specs.declared.decoder.Decoder.{Decoder}
use Rattle.cmd_codec.specs.Decoded.{Decoded, behind, decoded_from, lines_shown}

-- what is decoded from here on, where these bytes follow those that are held: the lines that are not pushed yet come first
abbrev pub goes_on : Shown → Plan → Decoder → List ℕ → Decoded
goes_on shown plan d left = behind d.lines.items (decoded_from shown plan d.number d.place (d.framer.held ++ left))

-- whatever follows, the same is decoded
abbrev pub Keeps : Shown → Plan → Decoder → Decoder → Type 0
Keeps shown plan old new = (left : List ℕ) → goes_on shown plan old left ≡ goes_on shown plan new left

-- whatever follows, nothing more is printed
abbrev pub Stops : Shown → Plan → Decoder → Decoder → Bad → Type 0
Stops shown plan old new wrong = (left : List ℕ) → goes_on shown plan old left ≡ record { lines = new.lines.items; status = Message wrong }

-- the bytes spell a message, and its lines are added as they are shown
pub record HasShown (shown : Shown) (plan : Plan) (bytes old new : List ℕ) : Type 0 where
  pub message : values.Message
  pub spelled : message_in plan bytes ≡ Ok message
  pub added : new ≡ old ++ lines_shown shown plan (lines_of_message plan message)

-- the lines of a frame were added, if it has any
pub record Added (told : Result (List ℕ) Bad) (old new : List ℕ) : Type 0 where
  pub lines : List ℕ
  pub is : told ≡ Ok lines
  pub added : new ≡ old ++ lines

pub record Wrong (told : Result (List ℕ) Bad) (wrong : Bad) (old new : List ℕ) : Type 0 where
  pub is : told ≡ Err wrong
  pub kept : new ≡ old

abbrev pub Prints : {A : Type 0} → Result (List ℕ) Bad → List ℕ → List ℕ → Result A Status → Type 0
Prints told old new (Ok done) = Added told old new
Prints told old new (Err (Message wrong)) = Wrong told wrong old new
Prints told old new (Err Memory) = ⊤
Prints told old new (Err _) = ⊥

-- what the frame at the front leaves, if there is one
pub record Took (shown : Shown) (plan : Plan) (old new : Decoder) : Type 0 where
  pub same : Keeps shown plan old new
  pub less : length new.framer.held < length old.framer.held

pub record Waits (shown : Shown) (plan : Plan) (old new : Decoder) : Type 0 where
  pub same : Keeps shown plan old new
  pub waits : first_of new.framer.held ≡ rest

abbrev pub Takes : Shown → Plan → Decoder → Decoder → Result Bool Status → Type 0
Takes shown plan old new (Ok true) = Took shown plan old new
Takes shown plan old new (Ok false) = Waits shown plan old new
Takes shown plan old new (Err (Message wrong)) = Stops shown plan old new wrong
Takes shown plan old new (Err Memory) = ⊤
Takes shown plan old new (Err _) = ⊥

-- what all frames that are held leave
abbrev pub TakesAll : {A : Type 0} → Shown → Plan → Decoder → Decoder → Result A Status → Type 0
TakesAll shown plan old new (Ok done) = Waits shown plan old new
TakesAll shown plan old new (Err (Message wrong)) = Stops shown plan old new wrong
TakesAll shown plan old new (Err Memory) = ⊤
TakesAll shown plan old new (Err _) = ⊥

-- a decoder that has read nothing
pub record IsNew (d : Decoder) : Type 0 where
  pub held : d.framer.held ≡ []
  pub lines : d.lines.items ≡ []
  pub number : d.number ≡ 1
  pub place : d.place ≡ 0
