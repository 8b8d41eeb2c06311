-- Whether plans go on from what an outbox holds of their senders (this project's profile).
use Rattle.std.specs.Prelude.{◌≡◌, ◌⊎◌, ℕ, ◌+◌, ◌≤◌, Bool, false, List, [], ◌∷◌, ◌++◌, length, slice_get, slice_index_or, Some}
use Rattle.text_words.specs.Lines.{lines_in}
use Rattle.session_model.specs.Journal.{History}
use Rattle.session_model.specs.Plans.{sent_by}
use Rattle.plan_text.specs.Plans.{Gift, AreGiven, payloads_of_sender, HasPlans}

-- Of a sender that has sent these payloads, this one may stand at a place of its plan, from 0 on: it was sent at this place; or nothing was
-- sent there, and more may follow
abbrev pub MayStand : (sent : List (List ℕ)) → (finished : Bool) → (place : ℕ) → (payload : List ℕ) → Type 0
MayStand sent finished place payload = (slice_get sent place ≡ Some payload) ⊎ ((length sent ≤ place) × (finished ≡ false))

-- plans, that of sender 1 first, go on from a history: each payload of a sender's plan may stand at its place
abbrev pub GoesOnFrom : List (List (List ℕ)) → History → Type 0
GoesOnFrom plans h = (i place : ℕ) (payload : List ℕ) → slice_get (slice_index_or plans i []) place ≡ Some payload
    → MayStand (sent_by h.made (i + 1)) h.finished place payload

-- the payload of a line may stand in its sender's plan, behind those of the lines before it
abbrev pub StandsBehind : History → List Gift → Gift → Type 0
StandsBehind h before g = MayStand (sent_by h.made g.sender) h.finished (length (payloads_of_sender g.sender before)) g.payload

-- the line of this number, from 1 on, is the first of a text whose payload may not stand
pub record IsPastAt (h : History) (senders : ℕ) (text : List ℕ) (line : ℕ) : Type 0 where
  pub gifts : List Gift
  pub given : AreGiven senders (lines_in text) gifts
  pub before : List Gift
  pub here : Gift
  pub behind : List Gift
  pub gifts_are : gifts ≡ before ++ here ∷ behind
  pub stand : (first rest : List Gift) (g : Gift) → before ≡ first ++ g ∷ rest → StandsBehind h first g
  pub not : StandsBehind h before here → ⊥
  pub number : line ≡ length before + 1

-- a text of which a line is past has plans that do not go on
abbrev pub PastExcludes : Type 0
PastExcludes = (h : History) (senders line : ℕ) (text : List ℕ) → IsPastAt h senders text line
    → (plans : List (List (List ℕ))) × HasPlans senders text plans × (GoesOnFrom plans h → ⊥)
