-- The rule of the turn lock: what holds of its words, of the value where it is at home, and of all views, between any two steps.
-- The words are the next ticket and the ticket that is served, both modulo 2^64, the number of entries, and whether somebody may
-- sleep, of which the rule says nothing. The slot has the value.
use Rattle.std.specs.Prelude.{◌≡◌, ◌≢◌, ◌⊎◌, ℕ, zero, suc, ◌+◌, ◌%◌, ◌^◌, ◌<◌, ◌≤◌, Bool, true, List, [], ◌∷◌, ◌++◌, length, Option, Some, None}
use Rattle.std.specs.List.{AllByRecursion}
use mathlib.Core.Option.{none, some}
use lib.ListN.{get_elem?}
use Rattle.atomic_table.specs.Table.{State}
use Rattle.session_model.specs.Journal.{Entry, History, OutboxRecord, BeginsHistory, entries_of}
use Rattle.gate_turn.specs.Views.{Account, HasFailed, Part, View}

-- n is the number of a pass, where so many were made
pub record In (made n : ℕ) : Type 0 where
  pub from_one : 1 ≤ n
  pub up_to : n ≤ made

-- 1 with a ticket, and 0 without
abbrev pub waiting : Option ℕ → ℕ
waiting None = 0
waiting (Some _) = 1

-- how many of the passes up to n have a ticket
abbrev pub tickets : (ℕ → Part) → ℕ → ℕ
tickets part zero = 0
tickets part (suc n) = waiting (part (suc n)).ticket + tickets part n

-- the part p stands in the view of the seat i, at the place k: it is that of its number, which stands nowhere else
pub record Stands (part : ℕ → Part) (seat place : ℕ → ℕ) (made i k : ℕ) (p : Part) : Type 0 where
  pub inside : In made p.number
  pub is : part p.number ≡ p
  pub sits : seat p.number ≡ i
  pub lies : place p.number ≡ k

-- the numbers in the views are those from 1 to `made`, each once
pub record Seated (part : ℕ → Part) (seat place : ℕ → ℕ) (made : ℕ) (views : List View) : Type 0 where
  pub here : (i k : ℕ) (v : View) (p : Part) → get_elem? views i ≡ some v → get_elem? v k ≡ some p → Stands part seat place made i k p
  pub present : (n : ℕ) → In made n → (v : View) × (get_elem? views (seat n) ≡ some v) × (get_elem? v (place n) ≡ some (part n))

-- the tickets of the passes are the numbers from `now` to `next - 1`, each once
pub record Queued (part : ℕ → Part) (made next now : ℕ) : Type 0 where
  pub count : tickets part made + now ≡ next
  pub waits : (n t : ℕ) → In made n → (part n).ticket ≡ Some t → (now ≤ t) × (t < next)
  pub taken : (t : ℕ) → now ≤ t → t < next → (n : ℕ) × In made n × ((part n).ticket ≡ Some t)
  pub apart : (m n t : ℕ) → In made m → In made n → (part m).ticket ≡ Some t → (part n).ticket ≡ Some t → m ≡ n

-- what is broken stays so, and nothing more is refused then
abbrev pub StaysBroken : Bool → List OutboxRecord → Bool → List OutboxRecord → Type 0
StaysBroken was before now after = was ≡ true → (now ≡ true) × (after ≡ before)

-- What the pass of number n knows fits the history, and the count of faults of the value that was at home last, whether it was
-- broken, and what it had refused
pub record Fits (opening : Account) (log : History) (top : ℕ) (shut : Bool) (gone : List OutboxRecord) (n : ℕ) (p : Part) : Type 0 where
  pub number : p.number ≡ n
  pub opened : p.opening ≡ opening
  pub seen : BeginsHistory p.seen log
  pub looked_from : length p.seen.made ≤ p.looked
  pub looked : p.looked ≤ length log.made
  pub mine : p.mine ≡ entries_of log.made n
  pub ended : p.ended ≡ true → log.finished ≡ true
  pub faults_from : opening.faults ≤ p.faults
  pub faults : p.faults ≤ top
  pub shut_on : StaysBroken p.broken p.refused shut gone
  pub lost : (p.lost ≡ []) ⊎ (p.lost ≡ gone)

-- the history begins with the opening one; each entry behind that is a pass's; and it has the mark only where the opening one
-- has it or a pass added it, which one pass at most did
pub record Grown (part : ℕ → Part) (opening : Account) (made : ℕ) (log : History) : Type 0 where
  pub begins : BeginsHistory opening.history log
  pub more : List Entry
  pub behind : log.made ≡ opening.history.made ++ more
  pub authors : AllByRecursion (λ (e : Entry). In made e.sender) more
  pub marked : log.finished ≡ true → (opening.history.finished ≡ true) ⊎ ((n : ℕ) × In made n × ((part n).ended ≡ true))
  pub once : (m n : ℕ) → In made m → In made n → (part m).ended ≡ true → (part n).ended ≡ true → m ≡ n

-- what was refused is what one of the passes was to add
abbrev pub Author : (ℕ → Part) → ℕ → List OutboxRecord → Type 0
Author part made gone = (gone ≡ []) ⊎ ((n : ℕ) × In made n × ((part n).lost ≡ gone))

-- a value that may be at home: it has the opening's limits, a count of faults not below the opening's, and is broken only
-- where a call of its device failed since the opening
pub record Sound (opening now : Account) : Type 0 where
  pub limits : now.limits ≡ opening.limits
  pub faults : opening.faults ≤ now.faults
  pub broken : now.broken ≡ true → HasFailed opening.faults now.faults

module _ {T : Type 0} (tells : T → Account) where
  -- no pass has the turn, and the value is at home
  pub record Home (part : ℕ → Part) (opening : Account) (made : ℕ) (log : History) (top : ℕ) (shut : Bool) (gone : List OutboxRecord)
      (homes : List (mathlib.Core.Option.Option (Option T))) : Type 0 where
    pub value : T
    pub home : homes ≡ some (Some value) ∷ []
    pub history : (tells value).history ≡ log
    pub faults : (tells value).faults ≡ top
    pub broken : (tells value).broken ≡ shut
    pub refused : (tells value).refused ≡ gone
    pub sound : Sound opening (tells value)
    pub free : (n : ℕ) → In made n → (part n).held ≡ None

  -- one pass has the turn, by the ticket that is served, and the value is out with it
  pub record Out (part : ℕ → Part) (made : ℕ) (log : History) (top : ℕ) (shut : Bool) (gone : List OutboxRecord) (now : ℕ)
      (homes : List (mathlib.Core.Option.Option (Option T))) : Type 0 where
    pub holder : ℕ
    pub inside : In made holder
    pub held : (part holder).held ≡ Some log
    pub ticket : (part holder).ticket ≡ Some now
    pub faults : (part holder).faults ≡ top
    pub broken : (part holder).broken ≡ shut
    pub refused : (part holder).refused ≡ gone
    pub home : homes ≡ none ∷ []
    pub alone : (n : ℕ) → In made n → n ≢ holder → (part n).held ≡ None

  -- The rule. `next` and `now` count the tickets drawn and served. `log` is the history held, or that of the value at home;
  -- `top`, `shut`, `gone` what the holder, or the value at home, says of faults, of being broken, and of what was refused
  pub record Turns (opening : Account) (s : State (Option T) View) : Type 0 where
    pub part : ℕ → Part
    pub seat : ℕ → ℕ
    pub place : ℕ → ℕ
    pub made : ℕ
    pub log : History
    pub top : ℕ
    pub shut : Bool
    pub gone : List OutboxRecord
    pub next : ℕ
    pub now : ℕ
    pub asleep : ℕ
    pub words : s.words ≡ (next % 2 ^ 64) ∷ (now % 2 ^ 64) ∷ length log.made ∷ asleep ∷ []
    pub some_made : 1 ≤ made
    pub few : made ≤ 18
    pub first : (part 1).made ≡ made
    pub seated : Seated part seat place made s.views
    pub queued : Queued part made next now
    pub each : (n : ℕ) → In made n → Fits opening log top shut gone n (part n)
    pub grown : Grown part opening made log
    pub author : Author part made gone
    pub turn : Home part opening made log top shut gone s.homes ⊎ Out part made log top shut gone now s.homes
