-- What stands in a text of messages for senders (this project's profile): lines that name a sender, messages, and lines `finish`.
use Rattle.std.specs.Prelude.{◌≡◌, ◌≢◌, ⊤, ◌⊎◌, ℕ, ◌+◌, ◌-◌, ◌<◌, ◌≤◌, None, Some, Result, Ok, Err, List, [], ◌∷◌, ◌++◌, length, codes, decimal}
use Rattle.std.specs.List.{sum_by}
use Rattle.sbe_value.specs.declared.message.Message.{Message}
use Rattle.sbe_layout.specs.declared.plan.Plan.{Plan}
use Rattle.sbe_text.specs.Reading.{alone, read_message}
use Rattle.text_names.specs.Bare.{bare}
use Rattle.text_names.specs.Fronts.{Front, front_of}
use Rattle.sbe_encode.specs.declared.fault.EncodeFault.{EncodeFault}
use Rattle.sbe_encode.specs.Faults.{encode_fault}
use Rattle.jr_record.specs.Records.{IsSender}
use Rattle.gw_lines.specs.Lines.{longest}
use Rattle.plan_lines.specs.declared.end.Wrong.{Wrong}
use Rattle.plan_lines.specs.declared.end.Wrong.TheVariants as wrongs

-- what stands in a text: nothing, the sender of the messages behind it, a message, or that nothing more will be sent
pub data Entry : Type 0 where
  passes : Entry
  names : ℕ → Entry
  gives : Message → Entry
  finishes : Entry

-- the most bytes of one message's text
abbrev pub most_bytes : ℕ
most_bytes = 67108864

-- how many bytes lines have with a carriage return and a line feed behind each
abbrev pub size_of : List (List ℕ) → ℕ
size_of lines = sum_by (λ line. length line + 2) lines

-- ---- lines, each read without its indentation, its comment and the blanks at its end

pub record BeginsSender (line : List ℕ) : Type 0 where
  pub behind : List ℕ
  pub written : bare line ≡ codes "sender " ++ behind

pub record NamesSender (line : List ℕ) (sender : ℕ) : Type 0 where
  pub is : IsSender sender
  pub written : bare line ≡ codes "sender " ++ decimal sender

-- a line that stands for itself between messages
abbrev pub IsBetween : List ℕ → Type 0
IsBetween line = (bare line ≡ []) ⊎ (BeginsSender line ⊎ (bare line ≡ codes "finish"))

-- ---- the lines of one message

-- the first line of a message stands for nothing else
abbrev pub StartsMessage : List (List ℕ) → Type 0
StartsMessage [] = ⊤
StartsMessage (line ∷ lines) = IsBetween line → ⊥

-- behind these lines a message ends with this one: it says `end`, and the strict form asks for nothing more, as it would where the name of an element begins so
pub record Ends (plan : Plan) (front : List (List ℕ)) (line : List ℕ) : Type 0 where
  pub says : bare line ≡ codes "end"
  pub whole : read_message plan.messages (front ++ line ∷ []) ≡ Err 0 → ⊥

-- no line of these ends a message
abbrev pub IsOpen : Plan → List (List ℕ) → Type 0
IsOpen plan lines = (front behind : List (List ℕ)) (line : List ℕ) → lines ≡ front ++ line ∷ behind → Ends plan front line → ⊥

-- they are those of one message: the last of them ends it, and none before
pub record IsWhole (plan : Plan) (own : List (List ℕ)) : Type 0 where
  pub front : List (List ℕ)
  pub last : List ℕ
  pub split : own ≡ front ++ last ∷ []
  pub starts : StartsMessage own
  pub is_open : IsOpen plan front
  pub ends : Ends plan front last

-- what stands at the front of lines has all of them
abbrev pub all_of : Front → Result Message ℕ
all_of (Ok None) = Err 0
all_of (Ok (Some read)) = alone (Ok read)
all_of (Err left) = Err left

-- a line of these alone is refused, as `encode` tells it, at which so many are left; while the strict form asks for more, none is
pub record Refuses (plan : Plan) (own : List (List ℕ)) (left : ℕ) : Type 0 where
  pub settled : read_message plan.messages own ≡ Err 0 → ⊥
  pub read : all_of (front_of plan own) ≡ Err left

-- lines that may stand at the front of a message
abbrev pub MayStand : Plan → List (List ℕ) → Type 0
MayStand plan own = (left : ℕ) → 0 < left → Refuses plan own left → ⊥

-- ---- entries, one behind another

-- lines begin with those of a message as `encode` reads them, which may be written; these lines are behind
pub record BeginsMessage (plan : Plan) (lines : List (List ℕ)) (message : Message) (rest : List (List ℕ)) : Type 0 where
  pub own : List (List ℕ)
  pub split : lines ≡ own ++ rest
  pub whole : IsWhole plan own
  pub read : front_of plan own ≡ Ok (Some (message, []))
  pub faultless : encode_fault plan message ≡ None
  pub within : size_of own ≤ most_bytes

-- lines begin with those of an entry
abbrev pub Begins : Plan → List (List ℕ) → Entry → List (List ℕ) → Type 0
Begins plan lines passes rest = (line : List ℕ) × (lines ≡ line ∷ rest) × (bare line ≡ [])
Begins plan lines (names sender) rest = (line : List ℕ) × (lines ≡ line ∷ rest) × NamesSender line sender
Begins plan lines (gives message) rest = BeginsMessage plan lines message rest
Begins plan lines finishes rest = (line : List ℕ) × (lines ≡ line ∷ rest) × (bare line ≡ codes "finish")

-- and so much is known of the lines behind
pub record BeginsWith (plan : Plan) (lines : List (List ℕ)) (entry : Entry) (Known : List (List ℕ) → Type 0) : Type 0 where
  pub rest : List (List ℕ)
  pub begins : Begins plan lines entry rest
  pub behind : Known rest

-- lines are those of these entries, and then these
abbrev pub AreEntries : Plan → List (List ℕ) → List Entry → List (List ℕ) → Type 0
AreEntries plan lines [] behind = lines ≡ behind
AreEntries plan lines (entry ∷ entries) behind = BeginsWith plan lines entry (λ rest. AreEntries plan rest entries behind)

-- ---- what is wrong where an entry is awaited

-- the first line begins as one that names a sender, and names none
pub record NamesNone (lines : List (List ℕ)) (number : ℕ) : Type 0 where
  pub here : List ℕ
  pub behind : List (List ℕ)
  pub split : lines ≡ here ∷ behind
  pub begins : BeginsSender here
  pub none : (sender : ℕ) → NamesSender here sender → ⊥
  pub number_is : number ≡ 1

-- a message cannot go on behind these lines: nothing is behind, or a line that is too long, or makes the text of the message too long
abbrev pub IsStuck : List (List ℕ) → List (List ℕ) → Type 0
IsStuck own [] = ⊤
IsStuck own (here ∷ behind) = (longest ≤ length here) ⊎ (most_bytes < size_of (own ++ here ∷ []))

-- a message has to begin here, and the line of this number may not stand there, as `encode` tells it of the lines of the message alone
pub record HasOtherLine (plan : Plan) (lines : List (List ℕ)) (number : ℕ) : Type 0 where
  pub own : List (List ℕ)
  pub behind : List (List ℕ)
  pub split : lines ≡ own ++ behind
  pub starts : StartsMessage own
  pub left : ℕ
  pub reaches : IsWhole plan own ⊎ (IsOpen plan own × (IsStuck own behind × (0 < left)))
  pub refused : Refuses plan own left
  pub number_is : number ≡ length own - left + 1

-- or the text ends inside it: the line behind its last is awaited
pub record HasNoMore (plan : Plan) (lines : List (List ℕ)) (number : ℕ) : Type 0 where
  pub some : lines ≢ []
  pub starts : StartsMessage lines
  pub is_open : IsOpen plan lines
  pub may_stand : MayStand plan lines
  pub number_is : number ≡ length lines + 1

-- the message that begins here may not be written
pub record HasFault (plan : Plan) (lines : List (List ℕ)) (number : ℕ) (fault : EncodeFault) : Type 0 where
  pub own : List (List ℕ)
  pub behind : List (List ℕ)
  pub split : lines ≡ own ++ behind
  pub whole : IsWhole plan own
  pub message : Message
  pub rest : List (List ℕ)
  pub read : front_of plan own ≡ Ok (Some (message, rest))
  pub faulty : encode_fault plan message ≡ Some fault
  pub number_is : number ≡ 1

-- a message goes on as far as this line: none of those before it ends it, and each of them may stand there
pub record Reaches (plan : Plan) (lines front : List (List ℕ)) (here : List ℕ) (number : ℕ) : Type 0 where
  pub behind : List (List ℕ)
  pub split : lines ≡ front ++ here ∷ behind
  pub starts : StartsMessage front
  pub is_open : IsOpen plan front
  pub may_stand : MayStand plan front
  pub number_is : number ≡ length front + 1

-- the line of this number is too long
pub record HasLongLine (plan : Plan) (lines : List (List ℕ)) (number : ℕ) : Type 0 where
  pub front : List (List ℕ)
  pub here : List ℕ
  pub reaches : Reaches plan lines front here number
  pub long : longest ≤ length here

-- with the line of this number a message's text is too long
pub record HasNoEnd (plan : Plan) (lines : List (List ℕ)) (number : ℕ) : Type 0 where
  pub front : List (List ℕ)
  pub here : List ℕ
  pub reaches : Reaches plan lines front here number
  pub within : size_of front ≤ most_bytes
  pub past : most_bytes < size_of (front ++ here ∷ [])

-- the line of this number is the first of these that is refused, for this reason
abbrev pub IsRefused : Plan → List (List ℕ) → ℕ → Wrong → Type 0
IsRefused plan lines number wrongs.TooLong = HasLongLine plan lines number
IsRefused plan lines number wrongs.Sender = NamesNone lines number
IsRefused plan lines number wrongs.Line = HasOtherLine plan lines number ⊎ HasNoMore plan lines number
IsRefused plan lines number wrongs.Endless = HasNoEnd plan lines number
IsRefused plan lines number (wrongs.Message fault) = HasFault plan lines number fault
