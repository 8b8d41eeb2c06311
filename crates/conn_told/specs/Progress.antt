-- How far lines are told. These are steps of the proof: nothing that a user relies on needs them.
use Rattle.std.specs.Prelude.{◌≡◌, ⊤, ◌⊎◌, ℕ, ◌+◌, ◌-◌, ◌^◌, ◌≤◌, min, Bool, false, Option, Some, List, [], ◌∷◌, ◌++◌, length, map, Result, Ok, Err}
use Rattle.std.specs.Io.KnownBytes.{Appends, Consumes, IsAtEnd}
use Rattle.gw_outside.specs.Faults.{TakesFront}
use Rattle.text_words.specs.Lines.{lines_in, unreturned}
use Rattle.sbe_grammar.specs.declared.fault.DecodeFault.{DecodeFault}
use Rattle.sbe_grammar.specs.Reading.{message_in}
use Rattle.sbe_value.specs.declared.message.Message.{Message}
use Rattle.sbe_layout.specs.declared.plan.Plan.{Plan}
use Rattle.sbe_text.specs.Written.{lines_of_message}
use Rattle.gw_lines.specs.Reading.{Reading, HasGiven}
use Rattle.conn_told.specs.declared.end.Wrong.{Wrong}
use Rattle.conn_told.specs.declared.end.Wrong.TheVariants as wrongs
use Rattle.conn_told.specs.declared.end.Stop.{Stop}
use Rattle.conn_told.specs.declared.end.Stop.TheVariants as stops
use Rattle.conn_told.specs.declared.end.ToldEnd.{ToldEnd}
use Rattle.conn_told.specs.declared.end.ToldEnd.TheVariants as ends
use Rattle.conn_told.specs.Lines.{Says}
use Rattle.conn_told.specs.Told.{Say, Gave}

-- ---- one line

-- the text of some bytes of a message was added
pub record AddedMessage (plan : Plan) (bytes old new : List ℕ) : Type 0 where
  pub message : Message
  pub read : message_in plan bytes ≡ Ok message
  pub added : new ≡ old ++ lines_of_message plan message

pub record Faulty (plan : Plan) (bytes : List ℕ) (fault : DecodeFault) (old new : List ℕ) : Type 0 where
  pub is : message_in plan bytes ≡ Err fault
  pub kept : new ≡ old

abbrev pub AddsMessage : {A : Type 0} → Plan → List ℕ → List ℕ → List ℕ → Result A Stop → Type 0
AddsMessage plan bytes old new (Ok _) = AddedMessage plan bytes old new
AddsMessage plan bytes old new (Err (stops.Wrong (wrongs.Message fault))) = Faulty plan bytes fault old new
AddsMessage plan bytes old new (Err (stops.Wrong _)) = ⊥
AddsMessage plan bytes old new (Err stops.Memory) = ⊤

-- the text that a line says was added
pub record AddedLine (plan : Plan) (line old new : List ℕ) : Type 0 where
  pub text : List ℕ
  pub says : Says plan line (Ok text)
  pub added : new ≡ old ++ text

pub record RefusedLine (plan : Plan) (line : List ℕ) (wrong : Wrong) (old new : List ℕ) : Type 0 where
  pub says : Says plan line (Err wrong)
  pub kept : new ≡ old

abbrev pub AddsLine : {A : Type 0} → Plan → List ℕ → List ℕ → List ℕ → Result A Stop → Type 0
AddsLine plan line old new (Ok _) = AddedLine plan line old new
AddsLine plan line old new (Err (stops.Wrong wrong)) = RefusedLine plan line wrong old new
AddsLine plan line old new (Err stops.Memory) = ⊤

-- ---- lines as they come

-- some lines say what was pushed, and what waits to be
abbrev pub HasSaid : Plan → List ℕ → List ℕ → List (List ℕ) → Type 0
HasSaid plan pushed waits lines = Say plan lines (pushed ++ waits)

-- the last of some lines is refused, and those before it say what was pushed and what waits
pub record StopsSo (plan : Plan) (pushed waits : List ℕ) (number : ℕ) (wrong : Wrong) (lines : List (List ℕ)) : Type 0 where
  pub first : List (List ℕ)
  pub here : List ℕ
  pub split : lines ≡ first ++ here ∷ []
  pub say : Say plan first (pushed ++ waits)
  pub refused : Says plan here (Err wrong)
  pub number_is : number ≡ min (length first + 1) (2 ^ 64 - 1)

-- all lines that a reader gave, as they read
abbrev pub said : List (List ℕ) → List (List ℕ)
said lines = map unreturned lines

-- a reader gave some lines, and this is so of them
pub record Reads (read : List ℕ) (reader : Reading) (IsSo : List (List ℕ) → Type 0) : Type 0 where
  pub raw : List (List ℕ)
  pub given : HasGiven read raw reader
  pub is : IsSo (said raw)

abbrev pub Stops : Plan → List ℕ → List ℕ → Reading → Reading → List ℕ → Stop → Type 0
Stops plan old new before after read (stops.Wrong wrong) =
    (pushed : List ℕ) → Reads read before (HasSaid plan pushed old) → Reads read after (StopsSo plan pushed new after.number wrong)
Stops plan old new before after read stops.Memory = ⊤

-- the last line of what was read is told, or stops it
abbrev pub StopsLast : Plan → List ℕ → List ℕ → Reading → ℕ → List ℕ → Stop → Type 0
StopsLast plan old new before number read (stops.Wrong wrong) =
    (pushed : List ℕ) → Reads read before (HasSaid plan pushed old) → StopsSo plan pushed new number wrong (lines_in read)
StopsLast plan old new before number read stops.Memory = ⊤

-- the content that a source has left, and that a sink has taken
pub record Streams : Type 0 where
  pub input : Option (List ℕ)
  pub out : Option (List ℕ)

-- the sink took what some lines say
pub record Told (plan : Plan) (before after : Option (List ℕ)) (lines : List (List ℕ)) : Type 0 where
  pub text : List ℕ
  pub say : Say plan lines text
  pub gave : Appends before after text

-- so far it was told what the source gave
pub record StandsSo (plan : Plan) (before now : Streams) (reader : Reading) : Type 0 where
  pub read : List ℕ
  pub consumed : Consumes before.input now.input read
  pub reads : Reads read reader (Told plan before.out now.out)

-- the promise, of a source that told its text
abbrev pub KeepsTo : Plan → Streams → Streams → ToldEnd → Type 0
KeepsTo plan before after end = (text : List ℕ) → before.input ≡ Some text → Gave plan (lines_in text) before.out after.out end

-- what a round leaves: it goes on, and at the end of the source nothing is left
pub record GoesOn (plan : Plan) (before now : Streams) (reader : Reading) (more : Bool) : Type 0 where
  pub stands : StandsSo plan before now reader
  pub at_end : more ≡ false → IsAtEnd now.input

abbrev pub AfterRound : Plan → Streams → Streams → Reading → Result Bool ToldEnd → Type 0
AfterRound plan before now reader (Ok more) = GoesOn plan before now reader more
AfterRound plan before now reader (Err end) = KeepsTo plan before now end

-- what waited behind some lines was pushed, and how these ended
pub record Refuses (line : ℕ) (wrong : Wrong) (told : ℕ) (told_wrong : Wrong) (waits : List ℕ) (before after : Option (List ℕ)) : Type 0 where
  pub line_is : told ≡ line
  pub wrong_is : told_wrong ≡ wrong
  pub gave : Appends before after waits

abbrev pub Pushes : {A B : Type 0} → Option (List ℕ) → Option (List ℕ) → List ℕ → ℕ → Result A Stop → Result B ToldEnd → Type 0
Pushes before after waits line (Ok _) (Ok _) = Appends before after waits
Pushes before after waits line (Ok _) (Err ends.Output) = TakesFront before after waits
Pushes before after waits line (Ok _) (Err _) = ⊥
Pushes before after waits line (Err (stops.Wrong wrong)) (Err (ends.Refused told told_wrong)) = Refuses line wrong told told_wrong waits before after
Pushes before after waits line (Err (stops.Wrong wrong)) (Err ends.Output) = TakesFront before after waits
Pushes before after waits line (Err (stops.Wrong wrong)) (Err _) = ⊥
Pushes before after waits line (Err (stops.Wrong wrong)) (Ok _) = ⊥
Pushes before after waits line (Err stops.Memory) (Err ends.Memory) = after ≡ before
Pushes before after waits line (Err stops.Memory) (Err _) = ⊥
Pushes before after waits line (Err stops.Memory) (Ok _) = ⊥
