-- The plans of a text (this project's profile): each line gives a payload to a sender.
use Rattle.std.specs.Prelude.{⊤, ◌≡◌, ℕ, zero, suc, ◌+◌, ◌≤◌, ◌==◌, if◌then◌else◌, List, [], ◌∷◌, ◌++◌, length, decimal, Ok}
use Rattle.hex.specs.Hex.{decode_of}
use Rattle.fixp_msgs.specs.Payload.{IsApplication}
use Rattle.text_words.specs.Lines.{lines_in}
use Rattle.plan_text.specs.declared.fault.PlanFault.{PlanFault}
use Rattle.plan_text.specs.declared.fault.PlanFault.TheVariants.{Line, Memory}

-- a payload, and the sender that it is given to
pub record Gift : Type 0 where
  pub sender : ℕ
  pub payload : List ℕ

-- A line: a sender from 1 on in decimal without a leading zero, a blank (32), and the payload of an application message in
-- hexadecimal of either case
pub record Gives (senders : ℕ) (line : List ℕ) (g : Gift) : Type 0 where
  pub least : 1 ≤ g.sender
  pub most : g.sender ≤ senders
  pub digits : List ℕ
  pub written : line ≡ decimal g.sender ++ 32 ∷ digits
  pub spelled : decode_of digits ≡ Ok g.payload
  pub application : IsApplication g.payload

-- each of some lines gives one of these, in order
abbrev pub AreGiven : ℕ → List (List ℕ) → List Gift → Type 0
AreGiven senders [] [] = ⊤
AreGiven senders [] (g ∷ gifts) = ⊥
AreGiven senders (line ∷ lines) [] = ⊥
AreGiven senders (line ∷ lines) (g ∷ gifts) = Gives senders line g × AreGiven senders lines gifts

-- the payloads of one sender, in order
abbrev pub payloads_of_sender : ℕ → List Gift → List (List ℕ)
payloads_of_sender sender [] = []
payloads_of_sender sender (g ∷ gifts) =
    if g.sender == sender then g.payload ∷ payloads_of_sender sender gifts else payloads_of_sender sender gifts

-- those of so many senders, of which the first has this number
abbrev pub payloads_of_senders : ℕ → ℕ → List Gift → List (List (List ℕ))
payloads_of_senders first zero gifts = []
payloads_of_senders first (suc n) gifts = payloads_of_sender first gifts ∷ payloads_of_senders (first + 1) n gifts

-- a text has these plans, one for each sender from 1 on
pub record HasPlans (senders : ℕ) (text : List ℕ) (plans : List (List (List ℕ))) : Type 0 where
  pub gifts : List Gift
  pub given : AreGiven senders (lines_in text) gifts
  pub plans_are : plans ≡ payloads_of_senders 1 senders gifts

-- the line of this number, from 1 on, is the first of a text that gives nothing
pub record IsRefusedAt (senders : ℕ) (text : List ℕ) (line : ℕ) : Type 0 where
  pub before : List (List ℕ)
  pub here : List ℕ
  pub behind : List (List ℕ)
  pub lines : lines_in text ≡ before ++ here ∷ behind
  pub gifts : List Gift
  pub given : AreGiven senders before gifts
  pub none : (g : Gift) → Gives senders here g → ⊥
  pub number : line ≡ length before + 1

-- what a fault tells of a text
abbrev pub IsFaultOf : ℕ → List ℕ → PlanFault → Type 0
IsFaultOf senders text (Line line) = IsRefusedAt senders text line
IsFaultOf senders text Memory = ⊤
