-- How far a text is read. These are steps of the proof: nothing that a user relies on needs them.
use Rattle.std.specs.Prelude.{◌≡◌, ◌≢◌, ⊤, ◌⊎◌, ℕ, ◌+◌, ◌-◌, ◌^◌, ◌<◌, ◌≤◌, min, Bool, true, false, None, Option, Some, List, [], ◌∷◌, ◌++◌, length, map, slice_index, Result, Ok, Err, IsOk, All, decimal, codes}
use Rattle.std.specs.Borrow.{Bor}
use Rattle.std.specs.Io.KnownBytes.{Appends, Consumes, IsAtEnd}
use Rattle.gw_outside.specs.Faults.{TakesFront}
use Rattle.text_words.specs.Lines.{lines_in, unreturned}
use Rattle.jr_record.specs.Records.{IsSender}
use Rattle.gw_lines.specs.Lines.{IsFeedless}
use Rattle.gw_lines.specs.Reading.{Reading, HasGiven}
use Rattle.sbe_value.specs.declared.message.Message.{Message}
use Rattle.sbe_layout.specs.declared.plan.Plan.{Plan}
use Rattle.sbe_grammar.specs.Canonical.{canonical}
use Rattle.sbe_encode.specs.Faults.{encode_fault}
use Rattle.sbe_encode.specs.declared.fault.EncodeFault.{EncodeFault}
use Rattle.sbe_text.specs.declared.error.Refusal.{Refusal}
use Rattle.sbe_text.specs.Answers.{Fails}
use Rattle.text_names.specs.Fronts.{front_of}
use Rattle.sbe_from_text.specs.declared.front.Unwritten.{Unwritten}
use Rattle.sbe_from_text.specs.declared.front.Unwritten.TheVariants as unwritten
use Rattle.sbe_from_text.specs.Fronts.{IsFaulty}
use Rattle.fixp_msgs.specs.Numbering.{payload_of}
use Rattle.plan_lines.specs.declared.form.Form.{Form}
use Rattle.plan_lines.specs.declared.end.Wrong.{Wrong}
use Rattle.plan_lines.specs.declared.end.Wrong.TheVariants as wrongs
use Rattle.plan_lines.specs.declared.end.Stop.{Stop}
use Rattle.plan_lines.specs.declared.end.Stop.TheVariants as stops
use Rattle.plan_lines.specs.declared.end.PlanEnd.{PlanEnd}
use Rattle.plan_lines.specs.declared.end.PlanEnd.TheVariants as ends
use Rattle.plan_lines.specs.declared.numbers.Numbers.{Numbers}
use Rattle.plan_lines.specs.declared.place.Place.{Place}
use Rattle.plan_lines.specs.Entries.{AreEntries, Ends, Entry, IsOpen, IsRefused, MayStand, Refuses, StartsMessage, all_of, most_bytes}
use Rattle.plan_lines.specs.Lines.{first_of, gift_line, gift_of, gifts_of, lines_of, number_behind, sender_behind}
use Rattle.plan_lines.specs.Planned.{Gave}

-- ---- numbers

abbrev pub number_in : Numbers → ℕ → ℕ
number_in numbers sender = slice_index numbers.next (sender - 1)

-- one message of a sender was counted
pub record Counts (old new : Numbers) (sender : ℕ) : Type 0 where
  pub its : number_in new sender ≡ min (number_in old sender + 1) (2 ^ 64 - 1)
  pub others : (other : ℕ) → IsSender other → (other ≡ sender → ⊥) → number_in new other ≡ number_in old other

-- ---- one line

-- a line that begins as one that names a sender names this one
pub record Names (digits : List ℕ) (old new : Place) : Type 0 where
  pub sender : ℕ
  pub is : IsSender sender
  pub written : digits ≡ decimal sender
  pub placed : new ≡ record old { sender = sender }

pub record NamesNobody (digits : List ℕ) (line : ℕ) (old new : Place) (stop : Stop) : Type 0 where
  pub none : (sender : ℕ) → IsSender sender → digits ≡ decimal sender → ⊥
  pub stop_is : stop ≡ stops.Wrong line wrongs.Sender
  pub kept : new ≡ old

-- a line says that nothing more will be sent
pub record Finishes (old new : Place) : Type 0 where
  pub lines : new.lines.items ≡ old.lines.items ++ codes "finish\n"
  pub kept : new ≡ record old { lines = new.lines }

-- the lines of a text are those of a message that may be written, and these are its bytes
pub record HasBytes (plan : Plan) (lines : List (List ℕ)) (bytes : List ℕ) : Type 0 where
  pub message : Message
  pub read : front_of plan lines ≡ Ok (Some (message, []))
  pub faultless : encode_fault plan message ≡ None
  pub is : bytes ≡ canonical plan message

-- or what is wrong with them is told
abbrev pub MakesBytes : {A : Type 0} → Plan → List ℕ → List ℕ → Result A Unwritten → Type 0
MakesBytes plan text bytes (Ok _) = HasBytes plan (lines_in text) bytes
MakesBytes plan text bytes (Err (unwritten.Line at)) = all_of (front_of plan (lines_in text)) ≡ Err (length (lines_in at.now))
MakesBytes plan text bytes (Err (unwritten.Fault fault)) = IsFaulty plan text fault
MakesBytes plan text bytes (Err unwritten.Memory) = ⊤

-- all lines of a text are one message, or how many are left at the first that may not stand there
abbrev pub ReadsAll : {A : Type 0} → Plan → List ℕ → Result A Refusal → Type 0
ReadsAll plan text (Ok _) = IsOk (all_of (front_of plan (lines_in text)))
ReadsAll plan text (Err refusal) = Fails refusal (all_of (front_of plan (lines_in text)))

-- the first of some lines that is refused is the first of these that are left
pub record RefusedFrom (plan : Plan) (lines : List (List ℕ)) (left : ℕ) : Type 0 where
  pub some : 0 < left
  pub refused : Refuses plan lines left

-- or each may stand there
abbrev pub RefusesIn : Plan → List (List ℕ) → Option (Bor (List ℕ)) → Type 0
RefusesIn plan lines (Some left) = RefusedFrom plan lines (length (lines_in left.now))
RefusesIn plan lines None = MayStand plan lines

-- the number of the line of a message at which so many are left
abbrev pub line_of : Place → ℕ → ℕ
line_of p left = min (p.first + (length (lines_in p.text.items) - left)) (2 ^ 64 - 1)

-- one of the lines of a message that has not ended is refused
pub record RefusesEarlier (plan : Plan) (p : Place) (told : ℕ) (told_wrong : Wrong) : Type 0 where
  pub left : ℕ
  pub refused : RefusedFrom plan (lines_in p.text.items) left
  pub told_is : told ≡ line_of p left
  pub wrong_is : told_wrong ≡ wrongs.Line

-- or none of them, and the line behind them is
pub record RefusesHere (plan : Plan) (p : Place) (line : ℕ) (wrong : Wrong) (told : ℕ) (told_wrong : Wrong) : Type 0 where
  pub none : MayStand plan (lines_in p.text.items)
  pub told_is : told ≡ line
  pub wrong_is : told_wrong ≡ wrong

abbrev pub RefusesOne : Plan → Place → ℕ → Wrong → Stop → Type 0
RefusesOne plan p line wrong (stops.Wrong told told_wrong) = RefusesEarlier plan p told told_wrong ⊎ RefusesHere plan p line wrong told told_wrong
RefusesOne plan p line wrong stops.Memory = ⊤

-- a line was added to those of the message
pub record Adds (line : List ℕ) (old new : Place) : Type 0 where
  pub text : new.text.items ≡ old.text.items ++ (line ++ 13 ∷ 10 ∷ [])
  pub form : new.form ≡ old.form
  pub sender : new.sender ≡ old.sender
  pub numbers : new.numbers ≡ old.numbers
  pub first : new.first ≡ old.first
  pub lines : new.lines ≡ old.lines

-- the message of the text was given to its sender
pub record GivesMessage (plan : Plan) (old new : Place) : Type 0 where
  pub message : Message
  pub read : front_of plan (lines_in old.text.items) ≡ Ok (Some (message, []))
  pub faultless : encode_fault plan message ≡ None
  pub text : new.text.items ≡ []
  pub form : new.form ≡ old.form
  pub sender : new.sender ≡ old.sender
  pub numbers : Counts old.numbers new.numbers old.sender
  pub lines : new.lines.items ≡ old.lines.items ++ gift_line old.form (number_in old.numbers old.sender) (gift_of plan old.sender message)

pub record RefusesText (plan : Plan) (old new : Place) (told : ℕ) : Type 0 where
  pub left : ℕ
  pub read : all_of (front_of plan (lines_in old.text.items)) ≡ Err left
  pub told_is : told ≡ line_of old left
  pub form : new.form ≡ old.form
  pub lines : new.lines ≡ old.lines

pub record RefusesMessage (plan : Plan) (old new : Place) (told : ℕ) (fault : EncodeFault) : Type 0 where
  pub faulty : IsFaulty plan old.text.items fault
  pub told_is : told ≡ old.first
  pub form : new.form ≡ old.form
  pub lines : new.lines ≡ old.lines

abbrev pub Gives : {A : Type 0} → Plan → Place → Place → Result A Stop → Type 0
Gives plan old new (Ok _) = GivesMessage plan old new
Gives plan old new (Err (stops.Wrong told wrongs.Line)) = RefusesText plan old new told
Gives plan old new (Err (stops.Wrong told (wrongs.Message fault))) = RefusesMessage plan old new told fault
Gives plan old new (Err (stops.Wrong told _)) = ⊥
Gives plan old new (Err stops.Memory) = ⊤

-- a message of these bytes was given to the sender
pub record GivesBytes (plan : Plan) (message : List ℕ) (old new : Place) : Type 0 where
  pub text : new.text.items ≡ []
  pub form : new.form ≡ old.form
  pub sender : new.sender ≡ old.sender
  pub numbers : Counts old.numbers new.numbers old.sender
  pub lines : new.lines.items ≡ old.lines.items ++ gift_line old.form (number_in old.numbers old.sender) (record { sender = old.sender; payload = payload_of (record { order = plan.order; message = message }) })

-- the last line of a text, which is this, ends the message or does not
abbrev pub TellsEnd : Plan → List ℕ → List ℕ → Bool → Type 0
TellsEnd plan text line true = (front : List (List ℕ)) → lines_in text ≡ front ++ line ∷ [] → Ends plan front line
TellsEnd plan text line false = (front : List (List ℕ)) → lines_in text ≡ front ++ line ∷ [] → Ends plan front line → ⊥

-- a line goes on with the text of a message
pub record TextGoes (plan : Plan) (line : List ℕ) (old new : Place) : Type 0 where
  pub goes : TellsEnd plan new.text.items line false
  pub adds : Adds line old new
  pub small : length new.text.items ≤ most_bytes

-- or ends it, and the message was given or refused
pub record TextEnds {A : Type 0} (plan : Plan) (line : List ℕ) (old new : Place) (result : Result A Stop) : Type 0 where
  pub mid : Place
  pub ends : TellsEnd plan mid.text.items line true
  pub adds : Adds line old mid
  pub small : length mid.text.items ≤ most_bytes
  pub gives : Gives plan mid new result

-- or is too much for it
pub record TextPast (plan : Plan) (line : List ℕ) (number : ℕ) (old new : Place) (stop : Stop) : Type 0 where
  pub past : most_bytes < length old.text.items + (length line + 2)
  pub refuses : RefusesOne plan old number wrongs.Endless stop
  pub kept : new ≡ old

abbrev pub TakesText : {A : Type 0} → Plan → List ℕ → ℕ → Place → Place → Result A Stop → Type 0
TakesText plan line number old new (Ok x) = TextGoes plan line old new ⊎ TextEnds plan line old new (Ok x)
TakesText {A} plan line number old new (Err stop) = TextPast plan line number old new stop ⊎ (TextEnds {A = A} plan line old new (Err stop) ⊎ (stop ≡ stops.Memory))

-- a place where nothing was read
pub record Starts (form : Form) (p : Place) : Type 0 where
  pub form_is : p.form ≡ form
  pub sender_is : p.sender ≡ 1
  pub numbers_are : (sender : ℕ) → IsSender sender → number_in p.numbers sender ≡ first_of form sender
  pub small : (sender : ℕ) → IsSender sender → number_in p.numbers sender < 2 ^ 64
  pub text_is : p.text.items ≡ []
  pub lines_are : p.lines.items ≡ []

-- ---- lines as they come

-- lines with a carriage return and a line feed behind each
abbrev pub returned : List (List ℕ) → List ℕ
returned [] = []
returned (line ∷ lines) = line ++ 13 ∷ 10 ∷ returned lines

-- some lines are those of entries and the front of a message; what was pushed and what waits are the lines of the messages
pub record Stands (plan : Plan) (pushed : List ℕ) (p : Place) (lines : List (List ℕ)) : Type 0 where
  pub entries : List Entry
  pub front : List (List ℕ)
  pub are : AreEntries plan lines entries front
  pub starts : StartsMessage front
  pub is_open : IsOpen plan front
  pub feedless : All IsFeedless front
  pub text_is : p.text.items ≡ returned front
  pub small : length p.text.items ≤ most_bytes
  pub first_is : front ≢ [] → p.first ≡ min (length lines - length front + 1) (2 ^ 64 - 1)
  pub sender_is : p.sender ≡ sender_behind entries
  pub sender : IsSender p.sender
  pub numbers_are : (sender : ℕ) → IsSender sender → number_in p.numbers sender ≡ number_behind p.form (gifts_of plan entries) sender
  pub given : pushed ++ p.lines.items ≡ lines_of plan p.form entries

-- a line among some is refused, whatever stands behind them
pub record StopsSo (plan : Plan) (pushed : List ℕ) (p : Place) (lines : List (List ℕ)) (line : ℕ) (wrong : Wrong) : Type 0 where
  pub entries : List Entry
  pub behind : List (List ℕ)
  pub are : AreEntries plan lines entries behind
  pub number : ℕ
  pub refused : (more : List (List ℕ)) → IsRefused plan (behind ++ more) number wrong
  pub line_is : line ≡ min (length lines - length behind + number) (2 ^ 64 - 1)
  pub given : pushed ++ p.lines.items ≡ lines_of plan p.form entries

-- what a line more makes of what stands
abbrev pub Goes : Plan → Place → Place → List ℕ → ℕ → Type 0
Goes plan old new line number =
    (pushed : List ℕ) (lines : List (List ℕ)) → IsFeedless line → number ≡ min (length lines + 1) (2 ^ 64 - 1) → Stands plan pushed old lines → Stands plan pushed new (lines ++ line ∷ [])

abbrev pub Halts : Plan → Place → Place → List ℕ → ℕ → Stop → Type 0
Halts plan old new line number (stops.Wrong told wrong) =
    (pushed : List ℕ) (lines : List (List ℕ)) → IsFeedless line → number ≡ min (length lines + 1) (2 ^ 64 - 1) → Stands plan pushed old lines → StopsSo plan pushed new (lines ++ line ∷ []) told wrong
Halts plan old new line number stops.Memory = ⊤

-- ---- what a reader gave

-- all lines that a reader gave, as they read
abbrev pub said : List (List ℕ) → List (List ℕ)
said lines = map unreturned lines

-- a reader gave some lines, and this is so of them
pub record Reads (read : List ℕ) (reader : Reading) (IsSo : List (List ℕ) → Type 0) : Type 0 where
  pub raw : List (List ℕ)
  pub given : HasGiven read raw reader
  pub is : IsSo (said raw)

abbrev pub Stops : Plan → Place → Place → Reading → Reading → List ℕ → Stop → Type 0
Stops plan old new before after read (stops.Wrong line wrong) =
    (pushed : List ℕ) → Reads read before (Stands plan pushed old) → Reads read after (λ lines. StopsSo plan pushed new lines line wrong)
Stops plan old new before after read stops.Memory = ⊤

-- a line of a text that is read to its end is refused
pub record StopsAtEnd (plan : Plan) (pushed : List ℕ) (p : Place) (lines : List (List ℕ)) (line : ℕ) (wrong : Wrong) : Type 0 where
  pub entries : List Entry
  pub behind : List (List ℕ)
  pub are : AreEntries plan lines entries behind
  pub number : ℕ
  pub refused : IsRefused plan behind number wrong
  pub line_is : line ≡ min (length lines - length behind + number) (2 ^ 64 - 1)
  pub given : pushed ++ p.lines.items ≡ lines_of plan p.form entries

abbrev pub HaltsAtEnd : Plan → Place → Place → Stop → Type 0
HaltsAtEnd plan old new (stops.Wrong told wrong) =
    (pushed : List ℕ) (lines : List (List ℕ)) → Stands plan pushed old lines → StopsAtEnd plan pushed new lines told wrong
HaltsAtEnd plan old new stops.Memory = ⊤

-- all lines are those of entries, and what was pushed and what waits are the lines of the messages
pub record IsAll (plan : Plan) (pushed : List ℕ) (p : Place) (lines : List (List ℕ)) : Type 0 where
  pub entries : List Entry
  pub are : AreEntries plan lines entries []
  pub given : pushed ++ p.lines.items ≡ lines_of plan p.form entries

abbrev pub StopsLast : Plan → Place → Place → Reading → List ℕ → Stop → Type 0
StopsLast plan old new before read (stops.Wrong line wrong) =
    (pushed : List ℕ) → Reads read before (Stands plan pushed old) → StopsAtEnd plan pushed new (lines_in read) line wrong
StopsLast plan old new before read stops.Memory = ⊤

-- ---- what was pushed

-- the content that a source has left, and that a sink has taken
pub record Streams : Type 0 where
  pub input : Option (List ℕ)
  pub out : Option (List ℕ)

-- the sink took what was pushed, and the lines so far stand so
pub record Pushed (plan : Plan) (before after : Option (List ℕ)) (p : Place) (lines : List (List ℕ)) : Type 0 where
  pub text : List ℕ
  pub stands : Stands plan text p lines
  pub gave : Appends before after text

-- so far it was read what the source gave
pub record StandsSo (plan : Plan) (before now : Streams) (reader : Reading) (p : Place) : Type 0 where
  pub read : List ℕ
  pub consumed : Consumes before.input now.input read
  pub reads : Reads read reader (Pushed plan before.out now.out p)

-- the promise, of a source that told its text
abbrev pub KeepsTo : Plan → Form → Streams → Streams → PlanEnd → Type 0
KeepsTo plan form before after end = (text : List ℕ) → before.input ≡ Some text → Gave plan form (lines_in text) before.out after.out end

-- what a round leaves: it goes on, and at the end of the source nothing is left
pub record GoesFurther (plan : Plan) (before now : Streams) (reader : Reading) (p : Place) (more : Bool) : Type 0 where
  pub stands : StandsSo plan before now reader p
  pub at_end : more ≡ false → IsAtEnd now.input

abbrev pub AfterRound : Plan → Form → Streams → Streams → Reading → Place → Result Bool PlanEnd → Type 0
AfterRound plan form before now reader p (Ok more) = GoesFurther plan before now reader p more
AfterRound plan form before now reader p (Err end) = KeepsTo plan form before now end

-- what waited was pushed, and how the lines behind which it did ended
pub record PushedRefused (line : ℕ) (wrong : Wrong) (told : ℕ) (told_wrong : Wrong) (waits : List ℕ) (before after : Option (List ℕ)) : Type 0 where
  pub line_is : told ≡ line
  pub wrong_is : told_wrong ≡ wrong
  pub gave : Appends before after waits

abbrev pub Pushes : {A B : Type 0} → Option (List ℕ) → Option (List ℕ) → List ℕ → Result A Stop → Result B PlanEnd → Type 0
Pushes before after waits (Ok _) (Ok _) = Appends before after waits
Pushes before after waits (Ok _) (Err ends.Output) = TakesFront before after waits
Pushes before after waits (Ok _) (Err _) = ⊥
Pushes before after waits (Err (stops.Wrong line wrong)) (Err (ends.Refused told told_wrong)) = PushedRefused line wrong told told_wrong waits before after
Pushes before after waits (Err (stops.Wrong line wrong)) (Err ends.Output) = TakesFront before after waits
Pushes before after waits (Err (stops.Wrong line wrong)) (Err _) = ⊥
Pushes before after waits (Err (stops.Wrong line wrong)) (Ok _) = ⊥
Pushes before after waits (Err stops.Memory) (Err ends.Memory) = after ≡ before
Pushes before after waits (Err stops.Memory) (Err _) = ⊥
Pushes before after waits (Err stops.Memory) (Ok _) = ⊥
