-- What a run gives WIRE and OUT, and what its outcome says of CONFIG and INPUT, where the devices tell their content (this project's profile).
use Rattle.std.specs.Prelude.{◌≡◌, ℕ, List, codes, Result, Ok, Err, IsOk}
use Rattle.std.specs.Io.KnownBytes.{Appends}
use Rattle.schema_toml.specs.declared.fault.ConfigFault.{ConfigFault}
use Rattle.cmd_config.specs.declared.settings.Settings.{Settings}
use Rattle.cmd_base.specs.Contents.{Content}
use Rattle.cmd_answer.specs.Promise.{Begins, GaveNothing}
use Rattle.cmd_muxanswer.specs.Input.{Closing}
use Rattle.cmd_muxanswer.specs.Input as closings
use Rattle.cmd_muxanswer.specs.declared.unrouted.Unrouted.{Unrouted}
use Rattle.cmd_muxanswer.specs.declared.unrouted.Unrouted.TheVariants.{NoContext, OtherSession, BadFrame}
use Rattle.cmd_muxanswer.specs.declared.outcome.Outcome.{Outcome}
use Rattle.cmd_muxanswer.specs.declared.outcome.Outcome.TheVariants as outcomes
use Rattle.cmd_muxanswer.specs.Answer.{MuxAnswer, IsMuxAnswer}

-- the numbers and the words of outcomes, which are those of every command
abbrev pub code_of : Outcome → ℕ
code_of outcomes.Done = 0
code_of (outcomes.Config fault) = 2
code_of outcomes.InputFault = 3
code_of outcomes.OutputFault = 4
code_of (outcomes.Cut at) = 12
code_of (outcomes.Mux at why) = 12
code_of outcomes.Memory = 14

abbrev pub name_of : Outcome → List ℕ
name_of outcomes.Done = codes "done"
name_of (outcomes.Config fault) = codes "config"
name_of outcomes.InputFault = codes "input-fault"
name_of outcomes.OutputFault = codes "output-fault"
name_of (outcomes.Cut at) = codes "message"
name_of (outcomes.Mux at why) = codes "message"
name_of outcomes.Memory = codes "memory"

-- the numbers of the reasons for which a frame is given to no session
abbrev pub number_of : Unrouted → ℕ
number_of NoContext = 1
number_of OtherSession = 2
number_of BadFrame = 3

-- the outcome of an input that was read as far as it goes, by why no further frame was given out, and at which byte
abbrev pub outcome_of : ℕ → Closing → Outcome
outcome_of at closings.whole = outcomes.Done
outcome_of at closings.cut = outcomes.Cut at
outcome_of at (closings.unrouted why) = outcomes.Mux at why

-- The whole answer was given: WIRE and OUT gained exactly what the answer to the input says, and the outcome is the answer's.
pub record GaveWhole (sessions : List Settings) (input : List ℕ) (before after : Content) (outcome : Outcome) : Type 0 where
  pub answer : MuxAnswer
  pub is : IsMuxAnswer sessions input answer
  pub outcome_is : outcome ≡ outcome_of answer.at answer.closing
  pub wire : Appends before.wire after.wire answer.wire
  pub out : Appends before.out after.out answer.out

-- A front of the answer was given: what WIRE and OUT gained begins what the answer to the input says.
pub record GaveFront (sessions : List Settings) (input : List ℕ) (before after : Content) : Type 0 where
  pub wire : List ℕ
  pub out : List ℕ
  pub wire_gained : Appends before.wire after.wire wire
  pub out_gained : Appends before.out after.out out
  pub wire_begins : (answer : MuxAnswer) → IsMuxAnswer sessions input answer → Begins wire answer.wire
  pub out_begins : (answer : MuxAnswer) → IsMuxAnswer sessions input answer → Begins out answer.out

-- what an outcome says of the answer to the input that was told
abbrev pub Gave : List Settings → List ℕ → Content → Content → Outcome → Type 0
Gave sessions input before after outcomes.Done = GaveWhole sessions input before after outcomes.Done
Gave sessions input before after (outcomes.Cut at) = GaveWhole sessions input before after (outcomes.Cut at)
Gave sessions input before after (outcomes.Mux at why) = GaveWhole sessions input before after (outcomes.Mux at why)
Gave sessions input before after outcomes.InputFault = GaveFront sessions input before after
Gave sessions input before after outcomes.OutputFault = GaveFront sessions input before after
Gave sessions input before after outcomes.Memory = GaveFront sessions input before after
Gave sessions input before after (outcomes.Config fault) = ⊥

-- what is given by a run whose CONFIG says this
abbrev pub GaveBy : Result (List Settings) ConfigFault → List ℕ → Content → Content → Outcome → Type 0
GaveBy (Err fault) input before after outcome = GaveNothing before after
GaveBy (Ok sessions) input before after outcome = Gave sessions input before after outcome

-- CONFIG is refused with its fault exactly where it has one, unless a device or memory failed before
abbrev pub Judges : Outcome → Result (List Settings) ConfigFault → Type 0
Judges (outcomes.Config fault) told = told ≡ Err fault
Judges outcomes.Done told = IsOk told
Judges (outcomes.Cut at) told = IsOk told
Judges (outcomes.Mux at why) told = IsOk told
Judges outcomes.OutputFault told = IsOk told
Judges outcomes.InputFault told = Unit {0}
Judges outcomes.Memory told = Unit {0}

-- the outcomes of a text that configures no sessions
abbrev pub IsRefusal : Outcome → Type 0
IsRefusal (outcomes.Config fault) = Unit {0}
IsRefusal outcomes.InputFault = Unit {0}
IsRefusal outcomes.Memory = Unit {0}
IsRefusal _ = ⊥

-- the outcomes of sessions that were read
abbrev pub IsEnd : Outcome → Type 0
IsEnd (outcomes.Config fault) = ⊥
IsEnd _ = Unit {0}
