-- Desks, and what a call makes of them (this project's profile).
use Rattle.std.specs.Prelude.{◌≡◌, ◌⊎◌, ℕ, zero, suc, ◌+◌, ◌-◌, ◌%◌, ◌<◌, ◌≤◌, ℤ, Bool, true, false, List, [], All, flat_map, length, drop, slice_get, slice_index_or, Option, Some, None, Result, Ok, Err, OnOk}
use Rattle.sbe_layout.specs.declared.plan.Plan.{Plan}
use Rattle.atomic_table.specs.Seated.{TableId}
use Rattle.jr_dated.specs.declared.journal.Journal.{Ghosts}
use Rattle.jr_boxes.specs.declared.faults.SubmitFault.{SubmitFault}
use Rattle.jr_boxes.specs.declared.faults.SubmitFault.TheVariants as submit
use Rattle.gate_turn.specs.Views.{Part, new_part, nothing}
use Rattle.gate_turn.specs.Rule.{In}
use Rattle.gate_turn.specs.Places.{known}
use Rattle.gate_turn.specs.Listed.{known_if, known_at}
use Rattle.gate_turn.specs.Calls.{IsFree}
use Rattle.gate_turn.specs.declared.pass.Pass.{Pass}
use Rattle.gate_turn.specs.declared.passes.Passes.{Passes}
use Rattle.gate_senders.specs.Gate.{senders_of}
use Rattle.gate_senders.specs.declared.gate.Gate.{Gate}
use Rattle.gate_senders.specs.declared.kept.Kept.{Kept}
use Rattle.gate_staff.specs.Made.{SeesMark}
use Rattle.gate_staff.specs.Business.{lock_of}
use Rattle.order_desk.specs.Plans.{answers, share, desk_plan}
use Rattle.order_gate.specs.Reported.{Reported}
use Rattle.order_gate.specs.declared.desk.Desk.{Desk}
use Rattle.order_gate.specs.declared.hand.Hand.{Hand}
use Rattle.order_gate.specs.declared.terms.Terms.{Terms}
use Rattle.order_gate.specs.declared.desks.Desks.{Desks}

-- what desk s of d sends for its share of some messages, before which so many came, modulo d
abbrev pub due : Plan → (reference : ℤ) → (d turn : ℕ) → List (List ℕ) → (s : ℕ) → List (List ℕ)
due plan reference d turn payloads s = flat_map (answers plan s reference) (share d s (turn + 1) payloads)

-- what the refusal that a desk met, if it met one, is as an answer
abbrev pub answer_of : Option SubmitFault → Result (Unit {0}) SubmitFault
answer_of None = Ok tt
answer_of (Some f) = Err f

-- how many entries are counted, where they are
abbrev pub counted_if : Bool → ℕ → Option ℕ
counted_if true n = Some n
counted_if false n = None

module _ {J : Type 0} {G : Ghosts J} where
  -- what its pass knows
  abbrev pub known_of : Desk J G → Part
  known_of d = known_if d.pass

  -- it has its pass, which is of this lock and free
  pub record IsSeated (lock : TableId) (d : Desk J G) : Type 0 where
    pub pass : Pass (Kept J G)
    pub there : d.pass ≡ Some pass
    pub own : pass.seat.table_id ≡ lock
    pub free : IsFree pass
    pub number : (known pass).number ≡ d.number

  -- and counts the entries that it made
  pub record IsManned (lock : TableId) (d : Desk J G) : Type 0 where
    pub pass : Pass (Kept J G)
    pub there : d.pass ≡ Some pass
    pub own : pass.seat.table_id ≡ lock
    pub free : IsFree pass
    pub number : (known pass).number ≡ d.number
    pub made : length (known pass).mine ≡ d.made

  -- and it is one of so many senders
  pub record IsReadyAt (lock : TableId) (senders : ℕ) (d : Desk J G) : Type 0 where
    pub manned : IsManned lock d
    pub sender : d.number ≤ senders
    pub few : In 16 d.number

  abbrev pub IsReady : Gate J G → Desk J G → Type 0
  IsReady gate d = IsReadyAt (lock_of gate) (senders_of gate) d

  -- the desk sent what comes next of it, behind the reports that it owed no more
  pub record Ran (lock : TableId) (senders : ℕ) (next : List (List ℕ)) (s t : Desk J G) : Type 0 where
    pub ready : IsReadyAt lock senders t
    pub number : t.number ≡ s.number
    pub reported : Reported (known_of s) (known_of t) (drop s.owed next) (answer_of t.refused)
    pub owed : t.refused ≡ None → t.owed ≡ s.owed - length next

module _ {J : Type 0} {G : Ghosts J} {D : Type 0} where
  -- ---- a hand: a desk, and what it answers by

  -- it can work
  pub record IsAble (lock : TableId) (senders : ℕ) (h : Hand J D G) : Type 0 where
    pub ready : IsReadyAt lock senders h.desk
    pub some : 0 < h.desks

  -- it answered its share of these messages, and counts them
  pub record Worked (lock : TableId) (senders : ℕ) (payloads : List (List ℕ)) (h k : Hand J D G) : Type 0 where
    pub ran : Ran lock senders (due h.form.plan h.reference h.desks h.turn payloads h.desk.number) h.desk k.desk
    pub turn : k.turn ≡ (h.turn + length payloads) % h.desks
    pub version : k.form.version ≡ h.form.version
    pub reference : k.reference ≡ h.reference
    pub desks : k.desks ≡ h.desks

  -- it met no refusal
  abbrev pub HasNone : Hand J D G → Type 0
  HasNone h = h.desk.refused ≡ None

  -- or none but that the outbox is closed
  abbrev pub IsQuiet : Hand J D G → Type 0
  IsQuiet h = (h.desk.refused ≡ None) ⊎ (h.desk.refused ≡ Some submit.Closed)

  -- a hand met this refusal
  pub record HasMet (hands : List (Hand J D G)) (f : SubmitFault) : Type 0 where
    pub place : ℕ
    pub inside : place < length hands
    pub is : (h : Hand J D G) → (slice_index_or hands place h).desk.refused ≡ Some f

  -- the answer to all of them: that none met a refusal, or one that a hand met, which is that the outbox is closed only where no hand met another
  pub record IsAnswer (hands : List (Hand J D G)) (result : Result (Unit {0}) SubmitFault) : Type 0 where
    pub none : OnOk result (All HasNone hands)
    pub met : (f : SubmitFault) → result ≡ Err f → HasMet hands f
    pub quiet : result ≡ Err submit.Closed → All IsQuiet hands

  -- it counts the entries that the outbox has of it, and owes all of them
  pub record Counted (lock : TableId) (h k : Hand J D G) : Type 0 where
    pub manned : IsManned lock k.desk
    pub number : k.desk.number ≡ h.desk.number
    pub owed : k.desk.owed ≡ k.desk.made
    pub turn : k.turn ≡ 0
    pub reported : Reported (known_of h.desk) (known_of k.desk) [] (Ok tt)
    pub version : k.form.version ≡ h.form.version
    pub reference : k.reference ≡ h.reference
    pub desks : k.desks ≡ h.desks

  -- it is the desk of this number, and so is its pass, if it is there
  pub record HasNumber (n : ℕ) (h : Hand J D G) : Type 0 where
    pub number : h.desk.number ≡ n
    pub pass : (p : Pass (Kept J G)) → h.desk.pass ≡ Some p → p.number ≡ n

  -- the hands of new desks, in their order: they have no pass yet, and owe nothing
  pub record AreNew (terms : Terms) (hands : List (Hand J D G)) : Type 0 where
    pub number : (place : ℕ) (h : Hand J D G) → place < length hands → (slice_index_or hands place h).desk.number ≡ place + 1
    pub desks : (place : ℕ) (h : Hand J D G) → place < length hands → (slice_index_or hands place h).desks ≡ terms.desks
    pub version : (place : ℕ) (h : Hand J D G) → place < length hands → (slice_index_or hands place h).form.version ≡ terms.version
    pub reference : (place : ℕ) (h : Hand J D G) → place < length hands → (slice_index_or hands place h).reference ≡ terms.reference
    pub owed : (place : ℕ) (h : Hand J D G) → place < length hands → (slice_index_or hands place h).desk.owed ≡ 0
    pub made : (place : ℕ) (h : Hand J D G) → place < length hands → (slice_index_or hands place h).desk.made ≡ 0

  -- the same with another pass, or with none
  abbrev pub with_pass : Option (Pass (Kept J G)) → Hand J D G → Hand J D G
  with_pass pass h = record h { desk = record h.desk { pass = pass } }

  abbrev pub without_pass : Hand J D G → Hand J D G
  without_pass h = with_pass None h

  -- ---- the hands by their numbers, from 1 on

  abbrev pub hand_in : List (Hand J D G) → ℕ → Option (Hand J D G)
  hand_in hands zero = None
  hand_in hands (suc place) = slice_get hands place

  abbrev pub part_if : Option (Hand J D G) → Part
  part_if None = new_part 0 0 nothing
  part_if (Some h) = known_of h.desk

  abbrev pub made_if : Option (Hand J D G) → ℕ
  made_if None = 0
  made_if (Some h) = h.desk.made

  -- what the pass of desk n knows, and how many entries it made
  abbrev pub part_in : List (Hand J D G) → ℕ → Part
  part_in hands n = part_if (hand_in hands n)

  abbrev pub made_in : List (Hand J D G) → ℕ → ℕ
  made_in hands n = made_if (hand_in hands n)

  -- ---- all of them

  -- what each is to send over the applied messages
  abbrev pub plan_of : Desks J D G → ℕ → List (List ℕ) → List (List ℕ)
  plan_of d n applied = desk_plan d.desks d.version d.reference n applied

  -- the hand at a place, of so many desks
  pub record IsHandAt (d : Desks J D G) (place : ℕ) (h : Hand J D G) : Type 0 where
    pub number : h.desk.number ≡ place + 1
    pub desks : h.desks ≡ d.desks
    pub version : h.form.version ≡ d.version
    pub reference : h.reference ≡ d.reference

  -- it has a hand for each desk, in their order
  pub record HasHands (d : Desks J D G) : Type 0 where
    pub long : length d.hands.items ≡ d.desks
    pub few : d.desks ≤ 16
    pub each : (place : ℕ) (h : Hand J D G) → place < d.desks → IsHandAt d place (slice_index_or d.hands.items place h)

  -- each has its pass, and once they are counted, the count of its entries; and where the mark was met, one has seen it
  pub record HasPasses (lock : TableId) (d : Desks J D G) : Type 0 where
    pub hands : HasHands d
    pub seated : (place : ℕ) (h : Hand J D G) → place < d.desks → IsSeated lock (slice_index_or d.hands.items place h).desk
    pub made : d.counted ≡ true → (place : ℕ) (h : Hand J D G) → place < d.desks → IsManned lock (slice_index_or d.hands.items place h).desk
    pub met : d.met ≡ true → SeesMark d.desks (part_in d.hands.items)

  -- Desks as they are made: each has the pass of its number, and is to send what the plan of that number says; none has counted what the outbox has
  -- of it, or owes any
  pub record IsMadeOf (passes : Passes (Kept J G)) (terms : Terms) (d : Desks J D G) : Type 0 where
    pub desks : d.desks ≡ terms.desks
    pub plan : plan_of d ≡ desk_plan terms.desks terms.version terms.reference
    pub part : (n : ℕ) → In terms.desks n → part_in d.hands.items n ≡ known_at passes n
    pub uncounted : d.counted ≡ false
    pub unmet : d.met ≡ false
    pub owed : (place : ℕ) (h : Hand J D G) → place < terms.desks → (slice_index_or d.hands.items place h).desk.owed ≡ 0

  -- it has its hands, whose passes are lent
  pub record LacksPasses (d : Desks J D G) : Type 0 where
    pub hands : HasHands d
    pub none : (place : ℕ) (h : Hand J D G) → place < d.desks → (slice_index_or d.hands.items place h).desk.pass ≡ None

  -- of what a desk is to send over the applied messages, the outbox has all; what it has beyond is owed. The next message goes to the desk of
  -- this turn
  pub record StandsAt (plan : List (List ℕ)) (applied : ℕ) (h : Hand J D G) : Type 0 where
    pub least : length plan ≤ h.desk.made
    pub owed : h.desk.owed ≡ h.desk.made - length plan
    pub turn : h.turn ≡ applied % h.desks

  -- the desks are counted, and stand behind these messages, or have met the mark, behind which nothing is sent
  pub record StandBehind (d : Desks J D G) (applied : List (List ℕ)) : Type 0 where
    pub counted : d.counted ≡ true
    pub each : (d.met ≡ true)
        ⊎ ((place : ℕ) (h : Hand J D G) → place < d.desks → StandsAt (desk_plan d.desks d.version d.reference (place + 1) applied) (length applied) (slice_index_or d.hands.items place h))

  -- it has as many desks, of the same version and reference price, and they are counted as they were
  pub record SameTerms (d e : Desks J D G) : Type 0 where
    pub desks : e.desks ≡ d.desks
    pub version : e.version ≡ d.version
    pub reference : e.reference ≡ d.reference
    pub counted : e.counted ≡ d.counted

  -- all but its hands
  pub record SameBut (d e : Desks J D G) : Type 0 where
    pub desks : e.desks ≡ d.desks
    pub version : e.version ≡ d.version
    pub reference : e.reference ≡ d.reference
    pub counted : e.counted ≡ d.counted
    pub met : e.met ≡ d.met

  -- from d to e it gave these hands out, all or none; none is given out where the mark was met, or nothing was counted
  pub record GaveOut (d e : Desks J D G) (given : List (Hand J D G)) : Type 0 where
    pub same : SameBut d e
    pub which : ((d.counted ≡ true) × (d.met ≡ false) × (given ≡ d.hands.items) × (e.hands.items ≡ [])) ⊎ (((d.counted ≡ false) ⊎ (d.met ≡ true)) × (given ≡ []) × (e.hands.items ≡ d.hands.items))

  -- and took them back as those
  pub record TookBack (d e : Desks J D G) (given back : List (Hand J D G)) : Type 0 where
    pub same : SameBut d e
    pub which : ((d.counted ≡ true) × (d.met ≡ false) × (given ≡ d.hands.items) × (e.hands.items ≡ back))
        ⊎ (((d.counted ≡ false) ⊎ (d.met ≡ true)) × (e.hands.items ≡ d.hands.items))
