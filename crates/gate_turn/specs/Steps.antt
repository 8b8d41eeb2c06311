-- What a pass finds where it gets the turn, what it may give back, and what is known once all are back; and what each kind of
-- step on the lock's words tells: of the step, the pass's view and slots before, the number found (at a store, the number
-- stored), and the view and slots after.
use Rattle.std.specs.Prelude.{◌≡◌, ◌≢◌, ◌⊎◌, ℕ, ◌%◌, ◌^◌, ◌≤◌, true, List, [], ◌∷◌, ◌++◌, length, map, Option, Some}
use Rattle.std.specs.List.{AllByRecursion}
use Rattle.atomic_table.specs.Table.{Me, Step}
use Rattle.session_model.specs.Journal.{Entry, History, OutboxRecord, entry, finish, BeginsHistory, entries_of}
use Rattle.gate_turn.specs.Views.{Account, Part, View, part_of, with_one_more, one_more, drawn, got, counted, gave, looked_at}
use Rattle.gate_turn.specs.Rule.{In, StaysBroken, Author, Sound}

-- what a pass that knows p finds where it gets the turn with a value that says this of itself
pub record Found (p : Part) (a : Account) : Type 0 where
  pub seen : BeginsHistory p.seen a.history
  pub looked : p.looked ≤ length a.history.made
  pub mine : p.mine ≡ entries_of a.history.made p.number
  pub ended : p.ended ≡ true → a.history.finished ≡ true
  pub faults : p.faults ≤ a.faults
  pub begins : BeginsHistory p.opening.history a.history
  pub shut_on : StaysBroken p.broken p.refused a.broken a.refused
  pub lost : (p.lost ≡ []) ⊎ (p.lost ≡ a.refused)
  pub sound : Sound p.opening a

-- entries of the sender n behind the history, all in one turn
pub record AddsEntries (n : ℕ) (was now : History) : Type 0 where
  pub entries : List Entry
  pub open_before : was.finished ≢ true
  pub open_after : now.finished ≢ true
  pub authors : AllByRecursion (λ (e : Entry). e.sender ≡ n) entries
  pub behind : now.made ≡ was.made ++ entries

-- the mark behind the history
pub record AddsMark (was now : History) : Type 0 where
  pub open_before : was.finished ≢ true
  pub marked : now.finished ≡ true
  pub same : now.made ≡ was.made

-- what a pass of number n may add while it has the turn: nothing, entries of its own, or the mark
pub data Adds (n : ℕ) (was now : History) : Type 0 where
  adds_nothing : now ≡ was → Adds n was now
  adds_entries : AddsEntries n was now → Adds n was now
  adds_mark : AddsMark was now → Adds n was now

-- the records of which one failed call may leave a beginning, where a pass of number n made it: entries of its own, or the mark
pub data OwnRecords (n : ℕ) : List OutboxRecord → Type 0 where
  own_entries : (es : List Entry) → AllByRecursion (λ (e : Entry). e.sender ≡ n) es → OwnRecords n (map (λ (e : Entry). entry e) es)
  own_mark : OwnRecords n (finish ∷ [])

-- What a pass that has the turn may leave refused: what was; or, where nothing was and it adds nothing, records of its own, and
-- then the value is broken
pub data Refuses (p : Part) (a : Account) : Type 0 where
  as_it_was : a.refused ≡ p.refused → Refuses p a
  its_own : p.refused ≡ [] → a.broken ≡ true → a.history ≡ p.seen → OwnRecords p.number a.refused → Refuses p a

-- what a pass that has the turn, and knows p, may give back
pub record Returns (p : Part) (a : Account) : Type 0 where
  pub adds : Adds p.number p.seen a.history
  pub faults : p.faults ≤ a.faults
  pub refuses : Refuses p a
  pub stays : StaysBroken p.broken p.refused a.broken a.refused
  pub sound : Sound p.opening a

-- a pass that knew p got the turn with a value that says this of itself, and knows q
pub record Entered (p q : Part) (a : Account) : Type 0 where
  pub ticket : ℕ
  pub found : Found p a
  pub after : q ≡ got a (drawn ticket p)

-- What is known where all passes are back, of which number n knows `known n`: each fits the value; the value's history begins
-- with the opening one; each entry behind that is one of a pass; it has the mark exactly where the opening one has it or a pass
-- added it, which one pass at most did; and what was refused is what one of the passes was to add
pub record Closed (known : ℕ → Part) (made : ℕ) (opening now : Account) : Type 0 where
  pub found : (n : ℕ) → In made n → Found (known n) now
  pub opened : (n : ℕ) → In made n → (known n).opening ≡ opening
  pub more : List Entry
  pub behind : now.history.made ≡ opening.history.made ++ more
  pub authors : AllByRecursion (λ (e : Entry). In made e.sender) more
  pub marked : now.history.finished ≡ true → (opening.history.finished ≡ true) ⊎ ((n : ℕ) × In made n × ((known n).ended ≡ true))
  pub once : (m n : ℕ) → In made m → In made n → (known m).ended ≡ true → (known n).ended ≡ true → m ≡ n
  pub lost : Author known made now.refused

-- the first pass is split: it counts one more, and the new one begins
abbrev pub split_left : View → View
split_left v = with_one_more (part_of v) ∷ []

abbrev pub split_right : View → View
split_right v = one_more (part_of v) ∷ []

-- the view and the slots of a pass
abbrev pub Mine : Type 0 → Type 0
Mine T = Me (Option T) View

module _ {T : Type 0} where
  -- a ticket was drawn: the word has its number modulo 2^64
  abbrev pub Drew : Step (Option T) → Mine T → ℕ → Mine T → Type 0
  Drew st m found w = (t : ℕ) × (found ≡ t % 2 ^ 64) × (w.0 ≡ drawn t (part_of m.0) ∷ []) × (w.1 ≡ m.1)

  -- it was noted whether somebody may sleep
  abbrev pub Noted : Step (Option T) → Mine T → ℕ → Mine T → Type 0
  Noted st m stored w = w ≡ m

  -- the number of entries was read
  abbrev pub LookedAt : Step (Option T) → Mine T → ℕ → Mine T → Type 0
  LookedAt st m found w = ((part_of m.0).looked ≤ found) × (w.0 ≡ looked_at found (part_of m.0) ∷ []) × (w.1 ≡ m.1)

module _ {T : Type 0} (tells : T → Account) where
  -- the pass has the turn, and the value with it
  pub record Gets (m w : Mine T) : Type 0 where
    pub value : T
    pub found : Found (part_of m.0) (tells value)
    pub view : w.0 ≡ got (tells value) (part_of m.0) ∷ []
    pub slot : w.1 ≡ (0, Some value) ∷ []

  -- the pass looked which ticket is served: where it is its own, it has the turn, and else nothing changed
  abbrev pub Served : Step (Option T) → Mine T → ℕ → Mine T → Type 0
  Served st m found w = (t : ℕ) → (part_of m.0).ticket ≡ Some t → (found ≢ t % 2 ^ 64 → w ≡ m) × (found ≡ t % 2 ^ 64 → Gets m w)

  -- what was added to the value is published
  abbrev pub Published : Step (Option T) → Mine T → ℕ → Mine T → Type 0
  Published st m stored w = (value : T) → m.1 ≡ (0, Some value) ∷ [] → (w.0 ≡ counted (tells value).history (part_of m.0) ∷ []) × (w.1 ≡ m.1)

  -- the value is at home again, and the next ticket is served
  abbrev pub GaveOn : Step (Option T) → Mine T → ℕ → Mine T → Type 0
  GaveOn st m found w = (value : T) → m.1 ≡ (0, Some value) ∷ [] → (w.0 ≡ gave (tells value) (part_of m.0) ∷ []) × (w.1 ≡ [])
