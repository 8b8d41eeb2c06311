-- What `answer` promises of WIRE and OUT, where the devices tell their content.
use Rattle.std.specs.Prelude.{◌≡◌, ℕ, Bool, true, false, List, [], ◌++◌, Some, Result, Ok, Err}
use Rattle.std.specs.Io.KnownBytes.{Consumes, Appends, Keeps}
use Rattle.fixp_shake.specs.declared.config.EndConfig.{EndConfig}
use Rattle.cmd_answer.specs.declared.acceptor.Acceptor.{Acceptor}
use Rattle.schema_toml.specs.declared.fault.ConfigFault.{ConfigFault}
use Rattle.cmd_config.specs.declared.settings.Settings.{Settings}
use Rattle.cmd_base.specs.declared.status.Status.{Status}
use Rattle.cmd_base.specs.declared.status.Status.TheVariants.{Done, InputFault, OutputFault, Message, Memory}
use Rattle.cmd_base.specs.Contents.{Content}
use Rattle.cmd_answer.specs.Answer.{Answer, IsAnswer, acceptor_of}
use Rattle.cmd_answer.specs.Progress.{IsOpen, Stands}

-- one list begins another
pub record Begins (front whole : List ℕ) : Type 0 where
  pub rest : List ℕ
  pub joins : whole ≡ front ++ rest

-- The whole answer was given: WIRE and OUT gained exactly what the answer to the input says, and the status
-- is the answer's.
pub record GaveWhole (cfg : EndConfig) (input : List ℕ) (before after : Content) (status : Status) : Type 0 where
  pub answer : Answer
  pub is : IsAnswer cfg input answer
  pub status_is : status ≡ answer.status
  pub wire : Appends before.wire after.wire answer.wire
  pub out : Appends before.out after.out answer.out

-- A front of the answer was given: what WIRE and OUT gained begins what the answer to the input says.
pub record GaveFront (cfg : EndConfig) (input : List ℕ) (before after : Content) : Type 0 where
  pub wire : List ℕ
  pub out : List ℕ
  pub wire_gained : Appends before.wire after.wire wire
  pub out_gained : Appends before.out after.out out
  pub wire_begins : (answer : Answer) → IsAnswer cfg input answer → Begins wire answer.wire
  pub out_begins : (answer : Answer) → IsAnswer cfg input answer → Begins out answer.out

-- what a status says of the answer to the input that was told
abbrev pub Gave : EndConfig → List ℕ → Content → Content → Status → Type 0
Gave cfg input before after Done = GaveWhole cfg input before after Done
Gave cfg input before after (Message b) = GaveWhole cfg input before after (Message b)
Gave cfg input before after InputFault = GaveFront cfg input before after
Gave cfg input before after OutputFault = GaveFront cfg input before after
Gave cfg input before after Memory = GaveFront cfg input before after
Gave cfg input before after _ = ⊥

-- the same where the input is told
abbrev pub KeepsPromise : EndConfig → Content → Content → Status → Type 0
KeepsPromise cfg before after status = (input : List ℕ) → before.input ≡ Some input → Gave cfg input before after status

-- the statuses that end a conversation
abbrev pub IsConversationEnd : Status → Type 0
IsConversationEnd Done = Unit {0}
IsConversationEnd (Message b) = Unit {0}
IsConversationEnd InputFault = Unit {0}
IsConversationEnd OutputFault = Unit {0}
IsConversationEnd Memory = Unit {0}
IsConversationEnd _ = ⊥

-- an acceptor between two rounds: its connection is open, and it has nothing to push
pub record IsIdle (a : Acceptor) : Type 0 where
  pub ready : IsOpen a
  pub unsent : a.end.unsent ≡ []
  pub lines : a.lines.items ≡ []

-- The bytes read and pushed so far are those that the acceptor stands for.
pub record Talks (cfg : EndConfig) (before now : Content) (a : Acceptor) : Type 0 where
  pub read : List ℕ
  pub wire : List ℕ
  pub out : List ℕ
  pub stands : Stands cfg read wire out a
  pub consumed : Consumes before.input now.input read
  pub wire_gained : Appends before.wire now.wire wire
  pub out_gained : Appends before.out now.out out

-- what a round leaves: the conversation goes on, or it kept its promise
abbrev pub AfterRound : EndConfig → Content → Content → Acceptor → Result Bool Status → Type 0
AfterRound cfg before now a (Ok true) = Talks cfg before now a
AfterRound cfg before now a (Ok false) = KeepsPromise cfg before now Done
AfterRound cfg before now a (Err status) = KeepsPromise cfg before now status

-- how a round answers a status
abbrev pub round_of : Status → Result Bool Status
round_of Done = Ok false
round_of status = Err status

-- WIRE and OUT gained nothing
pub record GaveNothing (before after : Content) : Type 0 where
  pub wire : Keeps before.wire after.wire
  pub out : Keeps before.out after.out

-- what is given by a run whose configuration says this
abbrev pub GaveBy : Result Settings ConfigFault → List ℕ → Content → Content → Status → Type 0
GaveBy (Err fault) input before after status = GaveNothing before after
GaveBy (Ok settings) input before after status = Gave (acceptor_of settings) input before after status
