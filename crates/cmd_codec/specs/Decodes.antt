-- What `decode` promises of OUT, where the devices tell their content.
use Rattle.std.specs.Prelude.{◌≡◌, ⊤, ℕ, Bool, true, false, Option, Some, Result, Ok, Err, List, [], ◌++◌}
use Rattle.std.specs.Io.KnownBytes.{Appends, Consumes, Keeps}
use Rattle.gw_outside.specs.Faults.{TakesFront}
use Rattle.sofh_frame.specs.Framing.{rest, first_of}
use Rattle.schema_toml.specs.declared.fault.ConfigFault.{ConfigFault}
use Rattle.sbe_layout.specs.declared.plan.Plan.{Plan}
use Rattle.cmd_codec.specs.declared.shown.Shown.{Shown}
use Rattle.cmd_base.specs.declared.status.Status.{Status}
use Rattle.cmd_base.specs.declared.status.Status.TheVariants.{Done, Message, InputFault, OutputFault, Memory}
use Rattle.cmd_codec.specs.declared.decoder.Decoder.{Decoder}
use Rattle.cmd_codec.specs.Decoded.{Decoded, behind, decoded}
use Rattle.cmd_codec.specs.Decoding.{goes_on}

-- OUT gained all lines, and the status is the one that is told
pub record GaveDecoded (told : Decoded) (before after : Option (List ℕ)) (status : Status) : Type 0 where
  pub lines : Appends before after told.lines
  pub status_is : status ≡ told.status

-- what a status says of the lines that are told: all of them were given at the end of the input and at its first fault, and
-- a front of them where a device failed or memory ran out
abbrev pub Gave : Decoded → Option (List ℕ) → Option (List ℕ) → Status → Type 0
Gave told before after Done = GaveDecoded told before after Done
Gave told before after (Message wrong) = GaveDecoded told before after (Message wrong)
Gave told before after InputFault = TakesFront before after told.lines
Gave told before after OutputFault = TakesFront before after told.lines
Gave told before after Memory = TakesFront before after told.lines
Gave told before after _ = ⊥

-- the statuses that `decode` ends with behind its configuration
abbrev pub IsDecodeEnd : Status → Type 0
IsDecodeEnd Done = ⊤
IsDecodeEnd (Message wrong) = ⊤
IsDecodeEnd InputFault = ⊤
IsDecodeEnd OutputFault = ⊤
IsDecodeEnd Memory = ⊤
IsDecodeEnd _ = ⊥

-- the content that INPUT has left, and that OUT has taken
pub record Streams : Type 0 where
  pub input : Option (List ℕ)
  pub out : Option (List ℕ)

abbrev pub KeepsPromise : Shown → Plan → Streams → Streams → Status → Type 0
KeepsPromise shown plan before after status = (input : List ℕ) → before.input ≡ Some input → Gave (decoded shown plan input) before.out after.out status

-- The bytes read and the lines pushed so far are those that the decoder stands for.
pub record Stands (shown : Shown) (plan : Plan) (before now : Streams) (d : Decoder) : Type 0 where
  pub read : List ℕ
  pub printed : List ℕ
  pub consumed : Consumes before.input now.input read
  pub gained : Appends before.out now.out printed
  pub same : (left : List ℕ) → decoded shown plan (read ++ left) ≡ behind printed (goes_on shown plan d left)

-- a decoder between two pieces of input: it waits for more, and has nothing to push
pub record IsIdle (d : Decoder) : Type 0 where
  pub waits : first_of d.framer.held ≡ rest
  pub pushed : d.lines.items ≡ []

-- what a round leaves: it goes on, or the promise is kept
abbrev pub AfterRound : Shown → Plan → Streams → Streams → Decoder → Result Bool Status → Type 0
AfterRound shown plan before now d (Ok true) = Stands shown plan before now d
AfterRound shown plan before now d (Ok false) = KeepsPromise shown plan before now Done
AfterRound shown plan before now d (Err status) = KeepsPromise shown plan before now status

-- how a round answers the status at the end of the input
abbrev pub as_round : Status → Result Bool Status
as_round Done = Ok false
as_round (Message wrong) = Err (Message wrong)
as_round InputFault = Err InputFault
as_round OutputFault = Err OutputFault
as_round other = Err other

-- what OUT gains in a run whose configuration says this
abbrev pub GaveText : Shown → Result Plan ConfigFault → List ℕ → Option (List ℕ) → Option (List ℕ) → Status → Type 0
GaveText shown (Err fault) input before after status = Keeps before after
GaveText shown (Ok plan) input before after status = Gave (decoded shown plan input) before after status
