-- How far `encode` has come in the middle of its text.
use Rattle.std.specs.Prelude.{◌≡◌, ◌≢◌, ⊤, ℕ, ◌+◌, ◌<◌, ◌≤◌, Option, Some, None, Result, Ok, Err, List, [], ◌++◌, length}
use Rattle.std.specs.Io.KnownBytes.{Appends}
use Rattle.gw_outside.specs.Faults.{TakesFront}
use Rattle.std.specs.Borrow.{Bor}
use Rattle.sofh_frame.specs.Framing.{spelled}
use Rattle.sbe_value.specs.declared.message.Message.{Message}
use Rattle.sbe_layout.specs.declared.plan.Plan.{Plan}
use Rattle.sbe_encode.specs.declared.fault.EncodeFault.{EncodeFault}
use Rattle.sbe_encode.specs.Faults.{encode_fault}
use Rattle.sbe_text.specs.declared.error.Refusal.{Refusal}
use Rattle.sbe_text.specs.declared.error.Refusal.TheVariants as refusal
use Rattle.text_words.specs.Lines.{lines_in}
use Rattle.text_names.specs.Fronts.{front_of}
use Rattle.cmd_base.specs.declared.status.Bad.TheVariants as bad
use Rattle.cmd_base.specs.declared.status.Status.{Status}
use Rattle.cmd_base.specs.declared.status.Status.TheVariants as status
use Rattle.cmd_codec.specs.declared.writing.Place.{Place}
use Rattle.sbe_from_text.specs.declared.front.Unwritten.{Unwritten}
use Rattle.sbe_from_text.specs.declared.front.Unwritten.TheVariants as unwritten
use Rattle.cmd_codec.specs.Encoded.{AreRead, AreSpelled, frame_of, behind, written, written_from}

-- a text is messages in a row
pub record Spelled (plan : Plan) (text : List ℕ) : Type 0 where
  pub messages : List Message
  pub read : AreSpelled plan text messages

-- messages were read in a row, and these bytes of the text are left
pub record HasRead (plan : Plan) (text left : List ℕ) : Type 0 where
  pub messages : List Message
  pub read : AreRead plan (lines_in text) messages (lines_in left)

-- a line is refused behind messages in a row, at which so many lines are left
pub record RefusesWith (plan : Plan) (text : List ℕ) (left : ℕ) : Type 0 where
  pub messages : List Message
  pub behind : List (List ℕ)
  pub read : AreRead plan (lines_in text) messages behind
  pub more : behind ≢ []
  pub refused : front_of plan behind ≡ Err left

-- what the reading of all messages says
abbrev pub Reads : {A : Type 0} → Plan → List ℕ → Result A Refusal → Type 0
Reads plan text (Ok done) = Spelled plan text
Reads plan text (Err (refusal.At left)) = RefusesWith plan text (length (lines_in left.now))
Reads plan text (Err refusal.Memory) = ⊤

-- the frame of a message was added
pub record AddedFrame (plan : Plan) (m : Message) (old new : List ℕ) : Type 0 where
  pub faultless : encode_fault plan m ≡ None
  pub added : new ≡ old ++ spelled (frame_of plan m)

pub record Faulty (plan : Plan) (m : Message) (fault : EncodeFault) (old new : List ℕ) : Type 0 where
  pub is : encode_fault plan m ≡ Some fault
  pub kept : new ≡ old

-- the message at the front was read, and its frame added
pub record WroteOne (plan : Plan) (left rest : List ℕ) (old new : List ℕ) : Type 0 where
  pub message : Message
  pub read : front_of plan (lines_in left) ≡ Ok (Some (message, lines_in rest))
  pub frame : AddedFrame plan message old new
  pub shorter : length (lines_in rest) < length (lines_in left)

-- or it may not be written
pub record WroteNone (plan : Plan) (left : List ℕ) (fault : EncodeFault) (old new : List ℕ) : Type 0 where
  pub message : Message
  pub rest : List (List ℕ)
  pub read : front_of plan (lines_in left) ≡ Ok (Some (message, rest))
  pub faulty : Faulty plan message fault old new

-- no line is left that has something
pub record WroteAll (plan : Plan) (left : List ℕ) (old new : List ℕ) : Type 0 where
  pub empty : front_of plan (lines_in left) ≡ Ok None
  pub kept : new ≡ old

abbrev pub WritesOne : Plan → List ℕ → List ℕ → List ℕ → Result (Option (Bor (List ℕ))) Unwritten → Type 0
WritesOne plan left old new (Ok (Some rest)) = WroteOne plan left rest.now old new
WritesOne plan left old new (Ok None) = WroteAll plan left old new
WritesOne plan left old new (Err (unwritten.Line at)) = front_of plan (lines_in left) ≡ Err (length (lines_in at.now))
WritesOne plan left old new (Err (unwritten.Fault fault)) = WroteNone plan left fault old new
WritesOne plan left old new (Err unwritten.Memory) = ⊤

-- bytes that waited were pushed, from the front on
pub record Pushed (before after : Option (List ℕ)) (old new : List ℕ) : Type 0 where
  pub bytes : List ℕ
  pub joins : old ≡ bytes ++ new
  pub gained : Appends before after bytes

-- all bytes that waited were pushed, or a front of them
abbrev pub PushesLast : Option (List ℕ) → Option (List ℕ) → List ℕ → Status → Type 0
PushesLast before after frames status.Done = Appends before after frames
PushesLast before after frames status.OutputFault = TakesFront before after frames
PushesLast before after frames _ = ⊥

-- the frames of the messages read so far were pushed, or are still to be pushed
pub record HasWritten (plan : Plan) (text left : List ℕ) (number : ℕ) (before now : Option (List ℕ)) (frames : List ℕ) : Type 0 where
  pub messages : List Message
  pub read : AreRead plan (lines_in text) messages (lines_in left)
  pub pushed : List ℕ
  pub gained : Appends before now pushed
  pub same : (more : List Message) → written plan (messages ++ more) ≡ behind (pushed ++ frames) (written_from plan number more)
  pub counted : number + length (lines_in left) ≤ length (lines_in text) + 1

-- the frames of the messages read so far wait, and none of them is pushed
abbrev pub HasMade : Plan → List ℕ → List ℕ → ℕ → List ℕ → Type 0
HasMade plan text left number frames = (now : Option (List ℕ)) → HasWritten plan text left number now now frames

abbrev pub MakesFront : Plan → List ℕ → List ℕ → Result Place Refusal → Type 0
MakesFront plan text frames (Ok place) = HasMade plan text place.left.now place.number frames
MakesFront plan text frames (Err refusal) = Reads {A = Place} plan text (Err refusal)

-- the whole text is messages, and the frames of those at its front wait
pub record IsMade (plan : Plan) (text : List ℕ) (place : Place) (frames : List ℕ) : Type 0 where
  pub spelled : Spelled plan text
  pub front : HasMade plan text place.left.now place.number frames

abbrev pub Makes : Plan → List ℕ → List ℕ → Result Place Refusal → Type 0
Makes plan text frames (Ok place) = IsMade plan text place frames
Makes plan text frames (Err refusal) = Reads {A = Place} plan text (Err refusal)

-- the line of this number is refused, unless memory ran out
abbrev pub TellsLine : ℕ → Status → Type 0
TellsLine number (status.Message (bad.Line line)) = line ≡ number
TellsLine number status.Memory = ⊤
TellsLine number _ = ⊥
