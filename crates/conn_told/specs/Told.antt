-- What is told of a text of lines: the texts of its messages, one behind another, up to the first line that is refused.
use Rattle.std.specs.Prelude.{◌≡◌, ⊤, ℕ, ◌+◌, ◌-◌, ◌^◌, min, Option, Some, List, [], ◌∷◌, ◌++◌, length, Ok, Err}
use Rattle.std.specs.Io.KnownBytes.{Appends}
use Rattle.gw_outside.specs.Faults.{TakesFront}
use Rattle.text_words.specs.Lines.{lines_in}
use Rattle.sbe_layout.specs.declared.plan.Plan.{Plan}
use Rattle.conn_told.specs.declared.end.Wrong.{Wrong}
use Rattle.conn_told.specs.declared.end.ToldEnd.{ToldEnd}
use Rattle.conn_told.specs.declared.end.ToldEnd.TheVariants as ends
use Rattle.conn_told.specs.Lines.{Says}

-- each of some lines says one of these texts, in order
abbrev pub AreSaid : Plan → List (List ℕ) → List (List ℕ) → Type 0
AreSaid plan [] [] = ⊤
AreSaid plan [] (text ∷ texts) = ⊥
AreSaid plan (line ∷ lines) [] = ⊥
AreSaid plan (line ∷ lines) (text ∷ texts) = Says plan line (Ok text) × AreSaid plan lines texts

abbrev pub joined : List (List ℕ) → List ℕ
joined [] = []
joined (text ∷ texts) = text ++ joined texts

-- these lines say this
pub record Say (plan : Plan) (lines : List (List ℕ)) (text : List ℕ) : Type 0 where
  pub texts : List (List ℕ)
  pub said : AreSaid plan lines texts
  pub joined_is : text ≡ joined texts

-- the first lines of a text say this
pub record Front (plan : Plan) (lines : List (List ℕ)) (text : List ℕ) : Type 0 where
  pub first : List (List ℕ)
  pub behind : List (List ℕ)
  pub split : lines ≡ first ++ behind
  pub say : Say plan first text

-- the line of this number, from 1 on, is the first that is refused; what is past the greatest number of 64 bits is given as that number
pub record RefusedAt (plan : Plan) (lines : List (List ℕ)) (line : ℕ) (wrong : Wrong) (text : List ℕ) : Type 0 where
  pub first : List (List ℕ)
  pub here : List ℕ
  pub behind : List (List ℕ)
  pub split : lines ≡ first ++ here ∷ behind
  pub say : Say plan first text
  pub refused : Says plan here (Err wrong)
  pub number : line ≡ min (length first + 1) (2 ^ 64 - 1)

-- a sink took all of what all lines say
pub record GaveAll (plan : Plan) (lines : List (List ℕ)) (before after : Option (List ℕ)) : Type 0 where
  pub text : List ℕ
  pub say : Say plan lines text
  pub gave : Appends before after text

-- or of what the lines say before the one that is refused
pub record GaveRefused (plan : Plan) (lines : List (List ℕ)) (line : ℕ) (wrong : Wrong) (before after : Option (List ℕ)) : Type 0 where
  pub text : List ℕ
  pub refused : RefusedAt plan lines line wrong text
  pub gave : Appends before after text

-- or of what the first lines say
pub record GaveFirst (plan : Plan) (lines : List (List ℕ)) (before after : Option (List ℕ)) : Type 0 where
  pub text : List ℕ
  pub front : Front plan lines text
  pub gave : Appends before after text

-- or a front of that
pub record GaveFront (plan : Plan) (lines : List (List ℕ)) (before after : Option (List ℕ)) : Type 0 where
  pub text : List ℕ
  pub front : Front plan lines text
  pub gave : TakesFront before after text

-- what an end says of a text of lines
abbrev pub Gave : Plan → List (List ℕ) → Option (List ℕ) → Option (List ℕ) → ToldEnd → Type 0
Gave plan lines before after ends.Done = GaveAll plan lines before after
Gave plan lines before after (ends.Refused line wrong) = GaveRefused plan lines line wrong before after
Gave plan lines before after ends.Input = GaveFirst plan lines before after
Gave plan lines before after ends.Output = GaveFront plan lines before after
Gave plan lines before after ends.Memory = GaveFirst plan lines before after

-- what it says of a source that told its text
abbrev pub GaveOf : Plan → Option (List ℕ) → Option (List ℕ) → Option (List ℕ) → ToldEnd → Type 0
GaveOf plan input before after end = (text : List ℕ) → input ≡ Some text → Gave plan (lines_in text) before after end
