-- What becomes of senders that submit plans, and of the Finish behind them. `of` says what a fault is to whom it is answered (this project's profile).
use Rattle.std.specs.Prelude.{◌≡◌, ◌≢◌, ◌⊎◌, ℕ, ◌<◌, true, All, Contains, List, [], ◌∷◌, length, slice_index_or, Option, Some, None, option_map}
use Rattle.session_model.specs.Journal.{finish}
use Rattle.jr_dated.specs.declared.journal.Journal.{Ghosts}
use Rattle.jr_boxes.specs.declared.faults.SubmitFault.{SubmitFault}
use Rattle.gate_turn.specs.Views.{HasFailed, Part}
use Rattle.gate_turn.specs.Places.{known}
use Rattle.gate_senders.specs.Shown.{TakesTurn}
use Rattle.gate_senders.specs.declared.gate.Gate.{Gate}
use Rattle.gate_staff.specs.Faults.{submit_fault}
use Rattle.gate_staff.specs.Hands.{WorkedEach}
use Rattle.gate_staff.specs.Runs.{IsReady, RanEach, Resumed, IsThrough}
use Rattle.gate_staff.specs.declared.fault.StaffFault.{StaffFault}
use Rattle.gate_staff.specs.declared.fault.StaffFault.TheVariants as faults
use Rattle.gate_staff.specs.declared.sender.Sender.{Sender}

module _ {F : Type 0} (of : StaffFault → F) where
  -- the mark was refused with a failed call, so a stop may leave it behind the history, which had none; a journal is to blame, and nothing
  -- is taken any more
  pub record LosesMark (p q : Part) (refused : Option F) : Type 0 where
    pub lost : q.lost ≡ finish ∷ []
    pub broken : q.broken ≡ true
    pub unmarked : q.seen.finished ≢ true
    pub unended : q.ended ≡ p.ended
    pub blamed : refused ≡ Some (of faults.Journal)

  -- The Finish was added, or refused so: the pass took one turn and made nothing, and it lost nothing but the mark. Where it was not refused, or
  -- only since the outbox is closed, the pass has seen the mark; a journal is to blame only where a call of its disk failed, in this turn
  -- or since its opening
  pub record Finishes (p q : Part) (refused : Option F) : Type 0 where
    pub turn : TakesTurn p q
    pub mine : q.mine ≡ p.mine
    pub lost : (q.lost ≡ p.lost) ⊎ LosesMark p q refused
    pub marked : refused ≡ None → q.seen.finished ≡ true
    pub journal : refused ≡ Some (of faults.Journal) → HasFailed p.faults q.faults ⊎ HasFailed q.opening.faults q.faults
    pub few : (fault : F) → refused ≡ Some fault → (fault ≡ of faults.Journal) ⊎ (fault ≡ of faults.Memory)

  -- what the refusal that a sender met, if it met one, is
  abbrev pub refusal_of : Option SubmitFault → Option F
  refusal_of None = None
  refusal_of (Some f) = option_map of (submit_fault f)

  module _ {J : Type 0} {G : Ghosts J} where
    -- a sender met no refusal, or only that the outbox is closed
    abbrev pub OnlyClosed : Sender J G → Type 0
    OnlyClosed s = refusal_of s.refused ≡ None

    -- a sender met this refusal
    pub record MetRefusal (senders : List (Sender J G)) (fault : F) : Type 0 where
      pub sender : Sender J G
      pub there : Contains senders sender
      pub is : refusal_of sender.refused ≡ Some fault

    -- the refusal of a sender other than that the outbox is closed, where one met such
    abbrev pub IsRefusal : List (Sender J G) → Option F → Type 0
    IsRefusal senders None = All OnlyClosed senders
    IsRefusal senders (Some fault) = MetRefusal senders fault

    -- the first sender's pass was used for the Finish, and nothing else of the senders changed
    pub record FinishedFirst (ran after : List (Sender J G)) (refused : Option F) : Type 0 where
      pub long : length after ≡ length ran
      pub first : (d : Sender J G) → Finishes (known (slice_index_or ran 0 d).pass) (known (slice_index_or after 0 d).pass) refused
      pub rest : (d : Sender J G) → slice_index_or after 0 d ≡ record (slice_index_or ran 0 d) { pass = (slice_index_or after 0 d).pass }
      pub others : (i : ℕ) (d : Sender J G) → 0 < i → slice_index_or after i d ≡ slice_index_or ran i d

    -- behind their plans: where all are submitted and there are senders, the Finish was added or refused; else, since one was refused or
    -- turned away, nothing more was done
    abbrev pub IsFinished : (ran after : List (Sender J G)) → Option F → Type 0
    IsFinished ran after refused =
        ((after ≡ ran) × IsRefusal ran refused × (0 < length ran → (All IsThrough ran → ⊥)))
        ⊎ (All IsThrough ran × (0 < length ran) × FinishedFirst ran after refused)

    -- the senders ran, each as it is said of all of them, and then came the Finish
    pub record Submitted (Each : List (Sender J G) → Type 0) (gate : Gate J G) (after : List (Sender J G)) (refused : Option F) : Type 0 where
      pub ran : List (Sender J G)
      pub each : Each ran
      pub finished : IsFinished ran after refused
      pub ready : All (IsReady gate) after

    -- each sender submitted its plan until it was done or refused, or was turned away
    abbrev pub SubmittedAll : (gate : Gate J G) (before after : List (Sender J G)) → Option F → Type 0
    SubmittedAll gate before after refused = Submitted (RanEach gate before) gate after refused

    -- each that goes on did, and the others are as they were
    abbrev pub WentOn : (gate : Gate J G) (before after : List (Sender J G)) → Option F → Type 0
    WentOn gate before after refused = Submitted (WorkedEach (Resumed gate) before) gate after refused

module _ {J : Type 0} {G : Ghosts J} where
  -- the pass of a sender has seen the mark
  pub record SomeMarked (senders : List (Sender J G)) : Type 0 where
    pub sender : Sender J G
    pub there : Contains senders sender
    pub marked : (known sender.pass).seen.finished ≡ true
