-- What the outbox of an end holds of its desks behind any runs whose CONFIGs name the same ones.
use Rattle.std.specs.Prelude.{◌≡◌, ◌⊎◌, ℕ, ◌<◌, true, List, [], ◌∷◌, Ok, IsSomeAnd}
use mathlib.Core.List.{IsPrefix}
use Rattle.session_model.specs.Journal.{History, InOrder}
use Rattle.session_model.specs.Inbox.{InboxRecord, has_peer_finished}
use Rattle.session_model.specs.Plans.{sent_by}
use Rattle.fixp_shake.specs.declared.config.Role.{Role}
use Rattle.jr_dated.specs.declared.journal.Journal.{Ghosts}
use Rattle.jr_boxes.specs.Outboxes.{records_of_history}
use Rattle.jr_boxes.specs.Inboxes.{records_of_inbox}
use Rattle.conn_serve.specs.Answering.{messages_of}
use Rattle.cmd_config.specs.declared.configuration.Trade.{Trade}
use Rattle.cmd_config.specs.declared.configuration.Configuration.{Configuration}
use Rattle.cmd_session.specs.Journals.{IsJournal}
use Rattle.cmd_session.specs.Inputs.{configuration_at}
use Rattle.cmd_session.specs.Answers.{answerers}
use Rattle.cmd_feed.specs.Outsides.{FeedSees}
use Rattle.run_laws.specs.Completeness.{IsOfConnections}
use Rattle.run_laws.specs.Several.{Run, IsEmptyJournal, RunsOver, IsRun}

-- there are desks, the same as those of another: as many, with a book or without, of the same version and reference price
pub record HasSameDesks (trade other : Trade) : Type 0 where
  pub some : 0 < other.desks
  pub desks : other.desks ≡ trade.desks
  pub book : other.book ≡ trade.book
  pub version : other.order_version ≡ trade.order_version
  pub reference : other.reference ≡ trade.reference

-- a CONFIG that spells a configuration for an end of this role spells one with these desks
abbrev pub HasDesks : Role → Trade → List ℕ → Type 0
HasDesks role trade text = (c : Configuration) → configuration_at role text ≡ Ok c → HasSameDesks trade c.trade

-- what each desk, by its number, is to send over what these records apply
abbrev pub due : Trade → List InboxRecord → ℕ → List (List ℕ)
due trade inbox s = (answerers trade).plan s (messages_of inbox)

-- each desk sent all of that
abbrev pub IsAllSent : Trade → List InboxRecord → History → Type 0
IsAllSent trade inbox h = (s : ℕ) → sent_by h.made s ≡ due trade inbox s

-- each did over the first of these records, up to those that were there when the mark was added: the peer's finish is among them
pub record SentToFinish (trade : Trade) (inbox : List InboxRecord) (h : History) : Type 0 where
  pub answered : List InboxRecord
  pub first : IsPrefix answered inbox
  pub peer_done : has_peer_finished answered ≡ true
  pub all : IsAllSent trade answered h

-- none is left out: the mark stands, as it does where the inbox has the peer's finish, or each desk sent all of it
pub record LeavesNone (trade : Trade) (inbox : List InboxRecord) (h : History) : Type 0 where
  pub all : (h.finished ≡ true) ⊎ IsAllSent trade inbox h
  pub marked : has_peer_finished inbox ≡ true → h.finished ≡ true

module _ {S K D N C : Type 0} where
  -- the last of some runs ended by its connections, with status 0, 8, 9 or 11
  abbrev pub EndsByConnections : List (Run S K D N C) → Type 0
  EndsByConnections [] = ⊥
  EndsByConnections (r ∷ []) = IsOfConnections r.status
  EndsByConnections (r ∷ q ∷ later) = EndsByConnections (q ∷ later)

  -- The outbox holds each desk's messages once and in order: a beginning of what it is to send over the inbox; where it has its finish, all that it
  -- was to send by then; and where the last run ended by its connections, none is left out
  pub record HoldsAnswers (trade : Trade) (runs : List (Run S K D N C)) (inbox : List InboxRecord) (h : History) : Type 0 where
    pub in_order : InOrder h.made
    pub planned : (s : ℕ) → IsPrefix (sent_by h.made s) (due trade inbox s)
    pub finished : h.finished ≡ true → SentToFinish trade inbox h
    pub settled : EndsByConnections runs → LeavesNone trade inbox h

module _ {S I K A D N C J : Type 0} where
  -- a run that CONFIG gives these desks; one that is fed is refused there
  pub record RunsDesks (G : Ghosts J) (sees : FeedSees S I K A D N C) (role : Role) (trade : Trade) (r : Run S K D N C) : Type 0 where
    pub config : IsSomeAnd (sees.session.left r.before.config) (HasDesks role trade)
    pub steps : IsRun G sees role r

  -- So it is behind any runs of one end, from journals without records on, whatever its peer does: of each history that a stop may leave of the one
  -- disk, beside each list that it may leave of the other. Each disk is one that tells its content
  abbrev pub DesksHold : Ghosts J → FeedSees S I K A D N C → Type 0
  DesksHold G sees = G.tells → (role : Role) (trade : Trade) (runs : List (Run S K D N C)) (outbox inbox : List ℕ) (h : History) (i : List InboxRecord)
      → RunsOver sees.session (RunsDesks G sees role trade) runs IsEmptyJournal IsEmptyJournal outbox inbox
      → IsJournal outbox (records_of_history h) → IsJournal inbox (records_of_inbox i)
      → HoldsAnswers trade runs i h
