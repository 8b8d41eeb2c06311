-- What the outbox of an end holds of its senders behind any runs, over INPUTs that go on from run to run.
use Rattle.std.specs.Prelude.{◌≡◌, ℕ, true, Contains, List, [], slice_get, Some, Ok, IsSomeAnd, IsTrue, is_some}
use mathlib.Core.List.{IsPrefix}
use Rattle.session_model.specs.Journal.{History, InOrder}
use Rattle.session_model.specs.Plans.{sent_by}
use Rattle.fixp_shake.specs.declared.config.Role.{Role}
use Rattle.plan_text.specs.Plans.{HasPlans}
use Rattle.jr_dated.specs.declared.journal.Journal.{Ghosts}
use Rattle.cmd_session.specs.Journals.{IsJournal}
use Rattle.jr_boxes.specs.Outboxes.{records_of_history}
use Rattle.life_laws.specs.Plans.{plan_in}
use Rattle.cmd_config.specs.declared.configuration.Configuration.{Configuration}
use Rattle.cmd_session.specs.Inputs.{configuration_at}
use Rattle.cmd_session.specs.Outsides.{Sees}
use Rattle.run_laws.specs.Several.{Run, IsEmptyJournal, RunsOver, IsUnfed}

-- a CONFIG that spells a configuration for an end of this role spells one without desks
abbrev pub HasNoDesks : Role → List ℕ → Type 0
HasNoDesks role text = (c : Configuration) → configuration_at role text ≡ Ok c → c.trade.desks ≡ 0

-- whatever plans a text has, each is a beginning of the plan of its sender
abbrev pub IsPartOf : (ℕ → List (List ℕ)) → List ℕ → Type 0
IsPartOf plan text = (senders : ℕ) (plans : List (List (List ℕ))) → HasPlans senders text plans → (s : ℕ) → IsPrefix (plan_in plans s []) (plan s)

-- a text has plans, all of which were sent
pub record AllSent (h : History) (text : List ℕ) : Type 0 where
  pub senders : ℕ
  pub plans : List (List (List ℕ))
  pub has : HasPlans senders text plans
  pub sent : (s : ℕ) → IsPrefix (plan_in plans s []) (sent_by h.made s)

module _ {S K D N C : Type 0} where
  -- of one of some runs all of INPUT was sent
  pub record SomeSent (sees : Sees S K D N C) (runs : List (Run S K D N C)) (h : History) : Type 0 where
    pub run : Run S K D N C
    pub among : Contains runs run
    pub all : IsSomeAnd (sees.left run.before.input) (AllSent h)

  -- The outbox holds each sender's messages once and in order, as many of its plan as were submitted; and where it has its finish, all that
  -- the INPUT of one of the runs had
  pub record HoldsSent (sees : Sees S K D N C) (plan : ℕ → List (List ℕ)) (runs : List (Run S K D N C)) (h : History) : Type 0 where
    pub in_order : InOrder h.made
    pub planned : (s : ℕ) → IsPrefix (sent_by h.made s) (plan s)
    pub finished : h.finished ≡ true → SomeSent sees runs h

module _ {S K D N C J : Type 0} where
  -- a run that was not fed, that CONFIG gives no desks, and whose INPUT tells a part of this plan
  pub record SendsPart (G : Ghosts J) (sees : Sees S K D N C) (role : Role) (plan : ℕ → List (List ℕ)) (r : Run S K D N C) : Type 0 where
    pub config : IsSomeAnd (sees.left r.before.config) (HasNoDesks role)
    pub input : IsSomeAnd (sees.left r.before.input) (IsPartOf plan)
    pub steps : IsUnfed G sees role r

module _ {S K D N C J : Type 0} where
  -- So it is behind any such runs of one end, from journals without records on, whatever its peer does
  abbrev pub SendersHold : Ghosts J → Sees S K D N C → Type 0
  SendersHold G sees = (role : Role) (plan : ℕ → List (List ℕ)) (runs : List (Run S K D N C)) (outbox inbox : List ℕ) (h : History)
      → RunsOver sees (SendsPart G sees role plan) runs IsEmptyJournal IsEmptyJournal outbox inbox → IsJournal outbox (records_of_history h)
      → HoldsSent sees plan runs h

-- a text has plans, and this payload at a place of a sender, from 0 on
pub record GivesAt (sender place : ℕ) (payload text : List ℕ) : Type 0 where
  pub senders : ℕ
  pub plans : List (List (List ℕ))
  pub has : HasPlans senders text plans
  pub at : slice_get (plan_in plans sender []) place ≡ Some payload

module _ {S K D N C : Type 0} where
  -- INPUT of one of some runs gave it
  pub record SomeGave (sees : Sees S K D N C) (runs : List (Run S K D N C)) (sender place : ℕ) (payload : List ℕ) : Type 0 where
    pub run : Run S K D N C
    pub among : Contains runs run
    pub gave : IsSomeAnd (sees.left run.before.input) (GivesAt sender place payload)

  -- The outbox holds each sender's messages once and in order, each of which INPUT of one of the runs gave at its place; and where it has its
  -- finish, all that INPUT of one of them had
  pub record HoldsGiven (sees : Sees S K D N C) (runs : List (Run S K D N C)) (h : History) : Type 0 where
    pub in_order : InOrder h.made
    pub given : (sender place : ℕ) (payload : List ℕ) → slice_get (sent_by h.made sender) place ≡ Some payload → SomeGave sees runs sender place payload
    pub finished : h.finished ≡ true → SomeSent sees runs h

module _ {S K D N C J : Type 0} where
  -- a run that was not fed, that CONFIG gives no desks, and whose INPUT tells its text
  pub record TellsInput (G : Ghosts J) (sees : Sees S K D N C) (role : Role) (r : Run S K D N C) : Type 0 where
    pub config : IsSomeAnd (sees.left r.before.config) (HasNoDesks role)
    pub input : IsTrue (is_some (sees.left r.before.input))
    pub steps : IsUnfed G sees role r

  -- So it is behind any such runs of one end, from journals without records on, whatever INPUT each had
  abbrev pub InputsHold : Ghosts J → Sees S K D N C → Type 0
  InputsHold G sees = (role : Role) (runs : List (Run S K D N C)) (outbox inbox : List ℕ) (h : History)
      → RunsOver sees (TellsInput G sees role) runs IsEmptyJournal IsEmptyJournal outbox inbox → IsJournal outbox (records_of_history h)
      → HoldsGiven sees runs h
