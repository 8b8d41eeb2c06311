-- What OUT tells behind several fed runs of one end, whatever front of it was left between two of them (this project's profile).
use Rattle.std.specs.Prelude.{◌≡◌, ℕ, true, All, List, [], ◌∷◌, take, Option, Some, IsSomeAnd}
use Rattle.hex.specs.Hex.{IsBytes}
use Rattle.session_model.specs.Inbox.{Numbered, InboxRecord, applied}
use Rattle.fixp_shake.specs.declared.config.Role.{Role}
use Rattle.jr_dated.specs.declared.journal.Journal.{Ghosts}
use Rattle.jr_boxes.specs.Inboxes.{records_of_inbox}
use Rattle.conn_out.specs.Projections.{Projects}
use Rattle.cmd_session.specs.Journals.{IsJournal}
use Rattle.cmd_feed.specs.Outsides.{FeedSees}
use Rattle.run_laws.specs.Several.{Run, IsEmptyJournal, RunsOver, IsFed}

-- a content tells of the first of these messages, each once and in order
pub record TellsFirst (content : List ℕ) (ms : List Numbered) : Type 0 where
  pub count : ℕ
  pub projects : Projects content (take count ms)

-- what an output tells now is a front of what it told
abbrev pub IsFrontOf : (told now : Option (List ℕ)) → Type 0
IsFrontOf told now = IsSomeAnd told (λ content. (n : ℕ) × (now ≡ Some (take n content)))

module _ {S I K A D N C : Type 0} where
  -- OUT of the first of some runs tells one of these contents, that of each later one a front of what the run before left, and so does this content
  -- behind the last
  abbrev pub OutsOver : FeedSees S I K A D N C → List (Run S K D N C) → (Option (List ℕ) → Type 0) → List ℕ → Type 0
  OutsOver sees [] outs out = outs (Some out)
  OutsOver sees (r ∷ later) outs out = outs (sees.session.taken r.before.out) × OutsOver sees later (IsFrontOf (sees.session.taken r.after.out)) out

module _ {S I K A D N C J : Type 0} where
  -- Behind any fed runs of one end, from journals without records and an empty OUT on, over an OUT that keeps what it takes: it tells of the first messages
  -- that INBOX applied, each once and in order, whatever list a stop leaves of that. Payloads are bytes, as all are that an inbox was given
  abbrev pub OutTells : Ghosts J → FeedSees S I K A D N C → Type 0
  OutTells G sees = sees.keeps ≡ true → (role : Role) (runs : List (Run S K D N C)) (outbox inbox out : List ℕ) (i : List InboxRecord)
      → RunsOver sees.session (IsFed G sees role) runs IsEmptyJournal IsEmptyJournal outbox inbox → IsJournal inbox (records_of_inbox i)
      → All (λ (m : Numbered). IsBytes m.payload) (applied i)
      → OutsOver sees runs (λ told. told ≡ Some []) out
      → TellsFirst out (applied i)
