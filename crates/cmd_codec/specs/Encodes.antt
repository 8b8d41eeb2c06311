-- What `encode` promises of WIRE, where the devices tell their content.
use Rattle.std.specs.Prelude.{◌≡◌, ⊤, ◌⊎◌, ℕ, ◌<◌, ◌≤◌, Option, Some, Result, Ok, Err, List, [], length}
use Rattle.std.specs.Io.KnownBytes.{Appends, Keeps}
use Rattle.gw_outside.specs.Faults.{TakesFront}
use Rattle.sbe_value.specs.declared.message.Message.{Message}
use Rattle.schema_toml.specs.declared.fault.ConfigFault.{ConfigFault}
use Rattle.sbe_layout.specs.declared.plan.Plan.{Plan}
use Rattle.cmd_base.specs.declared.status.Bad.TheVariants as bad
use Rattle.cmd_base.specs.declared.status.Status.{Status}
use Rattle.cmd_base.specs.declared.status.Status.TheVariants.{Done, Message as Wrong, InputFault, OutputFault, Memory}
use Rattle.cmd_codec.specs.Encoded.{text_limit, AreSpelled, IsRefusedAt, written}

-- the text spells messages, WIRE gained what is written of them, and the status is that of their writing
pub record GaveFrames (plan : Plan) (text : List ℕ) (before after : Option (List ℕ)) (status : Status) : Type 0 where
  pub messages : List Message
  pub read : AreSpelled plan text messages
  pub wire : Appends before after (written plan messages).wire
  pub status_is : status ≡ (written plan messages).status

-- the text spells messages, and WIRE gained a front of what is written of them
pub record GaveFront (plan : Plan) (text : List ℕ) (before after : Option (List ℕ)) : Type 0 where
  pub messages : List Message
  pub read : AreSpelled plan text messages
  pub front : TakesFront before after (written plan messages).wire

-- a line of the text is refused, and nothing is written
pub record RefusedLine (plan : Plan) (text : List ℕ) (line : ℕ) (before after : Option (List ℕ)) : Type 0 where
  pub within : length text ≤ text_limit
  pub refused : IsRefusedAt plan text line
  pub wire : Appends before after []

-- the text is too long, and nothing is written
pub record RefusedLength (text : List ℕ) (before after : Option (List ℕ)) : Type 0 where
  pub past : text_limit < length text
  pub wire : Appends before after []

-- what a status says of the text that was told
abbrev pub Gave : Plan → List ℕ → Option (List ℕ) → Option (List ℕ) → Status → Type 0
Gave plan text before after Done = (length text ≤ text_limit) × GaveFrames plan text before after Done
Gave plan text before after (Wrong (bad.Encode number fault)) = (length text ≤ text_limit) × GaveFrames plan text before after (Wrong (bad.Encode number fault))
Gave plan text before after (Wrong (bad.Line line)) = RefusedLine plan text line before after
Gave plan text before after (Wrong bad.TooLong) = RefusedLength text before after
Gave plan text before after (Wrong _) = ⊥
Gave plan text before after InputFault = Appends before after []
Gave plan text before after OutputFault = Appends before after [] ⊎ GaveFront plan text before after
Gave plan text before after Memory = Appends before after [] ⊎ GaveFront plan text before after
Gave plan text before after _ = ⊥

-- the statuses that `encode` ends with behind its configuration
abbrev pub IsEncodeEnd : Status → Type 0
IsEncodeEnd Done = ⊤
IsEncodeEnd (Wrong wrong) = ⊤
IsEncodeEnd InputFault = ⊤
IsEncodeEnd OutputFault = ⊤
IsEncodeEnd Memory = ⊤
IsEncodeEnd _ = ⊥

-- the statuses at which WIRE is left as it was: INPUT could not be read, or its text is refused
abbrev pub LeavesWire : Status → Type 0
LeavesWire InputFault = ⊤
LeavesWire (Wrong (bad.Line line)) = ⊤
LeavesWire (Wrong bad.TooLong) = ⊤
LeavesWire _ = ⊥

abbrev pub KeepsPromise : Plan → Option (List ℕ) → Option (List ℕ) → Option (List ℕ) → Status → Type 0
KeepsPromise plan input before after status = (text : List ℕ) → input ≡ Some text → Gave plan text before after status

-- what the writing of messages says, where a text spells them
abbrev pub Writes : Plan → List ℕ → Option (List ℕ) → Option (List ℕ) → Status → Type 0
Writes plan text before after Done = GaveFrames plan text before after Done
Writes plan text before after (Wrong (bad.Encode number fault)) = GaveFrames plan text before after (Wrong (bad.Encode number fault))
Writes plan text before after OutputFault = GaveFront plan text before after
Writes plan text before after Memory = GaveFront plan text before after
Writes plan text before after _ = ⊥

-- what WIRE gains in a run whose configuration says this
abbrev pub GaveWire : Result Plan ConfigFault → List ℕ → Option (List ℕ) → Option (List ℕ) → Status → Type 0
GaveWire (Err fault) text before after status = Keeps before after
GaveWire (Ok plan) text before after status = Gave plan text before after status
