-- What is written of a text of lines: the lines of its messages, up to the first line that is refused.
use Rattle.std.specs.Prelude.{◌≡◌, ℕ, ◌+◌, ◌-◌, ◌^◌, min, Option, Some, List, [], ◌∷◌, ◌++◌, length}
use Rattle.std.specs.Io.KnownBytes.{Appends}
use Rattle.gw_outside.specs.Faults.{TakesFront}
use Rattle.text_words.specs.Lines.{lines_in}
use Rattle.sbe_layout.specs.declared.plan.Plan.{Plan}
use Rattle.plan_lines.specs.declared.form.Form.{Form}
use Rattle.plan_lines.specs.declared.end.Wrong.{Wrong}
use Rattle.plan_lines.specs.declared.end.PlanEnd.{PlanEnd}
use Rattle.plan_lines.specs.declared.end.PlanEnd.TheVariants as ends
use Rattle.plan_lines.specs.Entries.{Entry, AreEntries, IsRefused}
use Rattle.plan_lines.specs.Lines.{lines_of}

-- a sink took all lines of all messages
pub record GaveAll (plan : Plan) (form : Form) (lines : List (List ℕ)) (before after : Option (List ℕ)) : Type 0 where
  pub entries : List Entry
  pub are : AreEntries plan lines entries []
  pub gave : Appends before after (lines_of plan form entries)

-- or those of the messages before a line that is refused, which has this number, from 1 on; what is past the greatest number of 64 bits is
-- given as that number
pub record GaveRefused (plan : Plan) (form : Form) (lines : List (List ℕ)) (line : ℕ) (wrong : Wrong) (before after : Option (List ℕ)) : Type 0 where
  pub entries : List Entry
  pub behind : List (List ℕ)
  pub are : AreEntries plan lines entries behind
  pub number : ℕ
  pub refused : IsRefused plan behind number wrong
  pub line_is : line ≡ min (length lines - length behind + number) (2 ^ 64 - 1)
  pub gave : Appends before after (lines_of plan form entries)

-- or those of the messages at the front
pub record GaveFirst (plan : Plan) (form : Form) (lines : List (List ℕ)) (before after : Option (List ℕ)) : Type 0 where
  pub entries : List Entry
  pub behind : List (List ℕ)
  pub are : AreEntries plan lines entries behind
  pub gave : Appends before after (lines_of plan form entries)

-- or a front of these
pub record GaveFront (plan : Plan) (form : Form) (lines : List (List ℕ)) (before after : Option (List ℕ)) : Type 0 where
  pub entries : List Entry
  pub behind : List (List ℕ)
  pub are : AreEntries plan lines entries behind
  pub gave : TakesFront before after (lines_of plan form entries)

-- what an end says of a text of lines
abbrev pub Gave : Plan → Form → List (List ℕ) → Option (List ℕ) → Option (List ℕ) → PlanEnd → Type 0
Gave plan form lines before after ends.Done = GaveAll plan form lines before after
Gave plan form lines before after (ends.Refused line wrong) = GaveRefused plan form lines line wrong before after
Gave plan form lines before after ends.Input = GaveFirst plan form lines before after
Gave plan form lines before after ends.Output = GaveFront plan form lines before after
Gave plan form lines before after ends.Memory = GaveFirst plan form lines before after

-- what it says of a source that told its text
abbrev pub GaveOf : Plan → Form → Option (List ℕ) → Option (List ℕ) → Option (List ℕ) → PlanEnd → Type 0
GaveOf plan form input before after end = (text : List ℕ) → input ≡ Some text → Gave plan form (lines_in text) before after end
