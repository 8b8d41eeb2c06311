-- What becomes of a sender while its plan is submitted: s before, t behind it. Plans are this project's profile.
use Rattle.std.specs.Prelude.{◌≡◌, ◌⊎◌, ℕ, ◌+◌, ◌-◌, ◌<◌, ◌≤◌, Bool, true, false, is_none, ◌||◌, List, All, Contains, length, take, drop, slice_get, slice_index_or, Some, None, Result, Ok, Err}
use Rattle.jr_dated.specs.declared.journal.Journal.{Ghosts}
use Rattle.jr_boxes.specs.declared.faults.SubmitFault.{SubmitFault}
use Rattle.jr_boxes.specs.declared.faults.SubmitFault.TheVariants as submit
use Rattle.gate_turn.specs.Places.{known}
use Rattle.gate_turn.specs.Calls.{IsFree}
use Rattle.gate_senders.specs.Gate.{IsSenderAt}
use Rattle.gate_senders.specs.Shown.{TakesTurn, SubmittedAll}
use Rattle.gate_senders.specs.declared.gate.Gate.{Gate}
use Rattle.plan_values.specs.Plans.{payloads_of}
use Rattle.gate_staff.specs.Sent.{GoesOn, Sent, IsShown, HasLost, refusals}
use Rattle.gate_staff.specs.declared.sender.Sender.{Sender}

module _ {J : Type 0} {G : Ghosts J} where
  -- the payloads that it is to send
  abbrev pub plan_of : Sender J G → List (List ℕ)
  plan_of s = payloads_of s.plan

  -- its pass is one of the gate's senders', and does not wait
  pub record IsReady (gate : Gate J G) (s : Sender J G) : Type 0 where
    pub own : IsSenderAt gate s.pass
    pub free : IsFree s.pass

  -- the refusal f was met at the message behind those done, which the plan has
  pub record WasRefused (s t : Sender J G) (f : SubmitFault) : Type 0 where
    pub payload : List ℕ
    pub next : slice_get (plan_of t) t.done ≡ Some payload
    pub shown : IsShown (known s.pass) (known t.pass) payload f
    pub lost : f ≡ submit.Fault → HasLost (known t.pass) (drop t.done (plan_of t))

  -- It submitted its plan from `done` on. The messages accepted are those of the plan from the old `done` to the new one; it took
  -- a turn at most for each of them and for a refusal; it stopped at the plan's end, or at a refusal, or before its next message where the door
  -- turned it away; and it lost nothing but at a failed call
  pub record Ran (gate : Gate J G) (s t : Sender J G) : Type 0 where
    pub ready : IsReady gate t
    pub plan : plan_of t ≡ plan_of s
    pub pass : GoesOn (known s.pass) (known t.pass)
    pub done : s.done ≤ t.done
    pub within : (t.done ≡ s.done) ⊎ (t.done ≤ length (plan_of s))
    pub numbers : List ℕ
    pub each : length numbers ≡ t.done - s.done
    pub sent : Sent (known s.pass) (known t.pass) (take (t.done - s.done) (drop s.done (plan_of s))) numbers
    pub turns : (known t.pass).turns ≤ (known s.pass).turns + (t.done - s.done) + refusals t.refused
    pub whole : t.refused ≡ None → t.turned ≡ false → length (plan_of s) ≤ t.done
    pub turned : t.turned ≡ true → (t.refused ≡ None) × (t.done < length (plan_of s))
    pub refused : (f : SubmitFault) → t.refused ≡ Some f → WasRefused s t f
    pub unlost : (t.refused ≡ Some submit.Fault → ⊥) → (known t.pass).lost ≡ (known s.pass).lost

  -- it counts the entries of its pass
  abbrev pub IsCounted : Sender J G → Type 0
  IsCounted s = s.done ≡ length (known s.pass).mine

  -- the messages that the outbox has of it were counted as done, and nothing else changed
  pub record Counted (gate : Gate J G) (s t : Sender J G) : Type 0 where
    pub ready : IsReady gate t
    pub plan : plan_of t ≡ plan_of s
    pub pass : GoesOn (known s.pass) (known t.pass)
    pub mine : (known t.pass).mine ≡ (known s.pass).mine
    pub lost : (known t.pass).lost ≡ (known s.pass).lost
    pub done : t.done ≡ length (known t.pass).mine

  -- each sender was counted so, in its place
  pub record CountedEach (gate : Gate J G) (before after : List (Sender J G)) : Type 0 where
    pub long : length after ≡ length before
    pub each : (i : ℕ) (d : Sender J G) → i < length before → Counted gate (slice_index_or before i d) (slice_index_or after i d)

  -- A piece of the plan was submitted, one message at least: so many were accepted in one turn, which are the first of it, all of
  -- them where none was refused
  pub record Pieced (gate : Gate J G) (s t : Sender J G) : Type 0 where
    pub ready : IsReady gate t
    pub plan : plan_of t ≡ plan_of s
    pub count : ℕ
    pub done : t.done ≡ s.done + count
    pub within : t.done ≤ length (plan_of s)
    pub turned : t.turned ≡ s.turned
    pub turn : TakesTurn (known s.pass) (known t.pass)
    pub ended : (known t.pass).ended ≡ (known s.pass).ended
    pub submitted : SubmittedAll (known s.pass) (known t.pass) (take count (drop s.done (plan_of s)))
    pub some : t.refused ≡ None → 0 < count
    pub refused : (f : SubmitFault) → t.refused ≡ Some f → WasRefused s t f
    pub unlost : (t.refused ≡ Some submit.Fault → ⊥) → (known t.pass).lost ≡ (known s.pass).lost

  -- each sender ran, in its place
  pub record RanEach (gate : Gate J G) (before after : List (Sender J G)) : Type 0 where
    pub long : length after ≡ length before
    pub each : (i : ℕ) (d : Sender J G) → i < length before → Ran gate (slice_index_or before i d) (slice_index_or after i d)

  -- it goes on in a run: no message of it was refused before, or a door turned it away since
  abbrev pub may_go_on : Sender J G → Bool
  may_go_on s = is_none s.refused || s.turned

  -- it ran where it goes on, and else it is as it was
  pub record Resumed (gate : Gate J G) (s t : Sender J G) : Type 0 where
    pub ran : may_go_on s ≡ true → Ran gate s t
    pub same : may_go_on s ≡ false → t ≡ s

  -- it met no refusal
  abbrev pub HasNone : Sender J G → Type 0
  HasNone t = t.refused ≡ None

  -- it was not turned away
  abbrev pub IsAdmitted : Sender J G → Type 0
  IsAdmitted t = t.turned ≡ false

  -- it met no refusal and was not turned away, so that it submitted all
  abbrev pub IsThrough : Sender J G → Type 0
  IsThrough t = HasNone t × IsAdmitted t

  -- all of its plan is done, or it was turned away
  abbrev pub IsWhole : Sender J G → Type 0
  IsWhole t = (length (plan_of t) ≤ t.done) ⊎ (t.turned ≡ true)

  -- where it met a refusal, its number is not below n
  abbrev pub IsNotBelow : ℕ → Sender J G → Type 0
  IsNotBelow n t = (f : SubmitFault) → t.refused ≡ Some f → n ≤ (known t.pass).number

  -- f is the refusal of a sender, and no other sender that met one has a lower number
  pub record IsLowestRefusal (senders : List (Sender J G)) (f : SubmitFault) : Type 0 where
    pub sender : Sender J G
    pub there : Contains senders sender
    pub refused : sender.refused ≡ Some f
    pub lowest : All (IsNotBelow (known sender.pass).number) senders

  -- the answer to all of them: that none met a refusal, or the lowest sender's
  abbrev pub IsLowest : List (Sender J G) → Result (Unit {0}) SubmitFault → Type 0
  IsLowest senders (Ok _) = All HasNone senders
  IsLowest senders (Err f) = IsLowestRefusal senders f
