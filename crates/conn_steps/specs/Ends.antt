-- What an end is as it takes a frame (this project's profile).
use Rattle.std.specs.Prelude.{List, ℕ}
use Rattle.session_model.specs.Inbox.{Numbered}
use Rattle.fixp_machine.specs.Machine.{State}
use Rattle.jr_dated.specs.declared.journal.Journal.{Ghosts}
use Rattle.jr_kept.specs.declared.inbox.Inbox.{Inbox}
use Rattle.jr_kept.specs.Inbox.{next_of}
use Rattle.conn_turns.specs.declared.news.NewsItem.{NewsItem}
use Rattle.conn_turns.specs.Lines.{Line}
use Rattle.conn_turns.specs.Gathering.{numbered_from}

-- what takes messages: its inbox, the news of its turn, and the payloads that are gathered, neither stable in the inbox nor told yet
pub record Intake (J : Type 0) (G : Ghosts J) : Type 0 where
  pub box : Inbox J G
  pub news : List NewsItem
  pub gathered : List (List ℕ)

-- as it answers a frame: its machine, and what takes messages
pub record AnsweringEnd (J : Type 0) (G : Ghosts J) : Type 0 where
  pub machine : State
  pub intake : Intake J G

-- as it takes one frame of those that it holds: its connection, and what takes messages
pub record GatheringEnd (J : Type 0) (G : Ghosts J) : Type 0 where
  pub line : Line
  pub intake : Intake J G

-- as it takes all frames of a turn, when nothing is gathered: its connection, its inbox, and the news of its turn
pub record TakingEnd (J : Type 0) (G : Ghosts J) : Type 0 where
  pub line : Line
  pub box : Inbox J G
  pub news : List NewsItem

module _ {J : Type 0} {G : Ghosts J} where
  abbrev pub intake : Inbox J G → List NewsItem → List (List ℕ) → Intake J G
  intake box news gathered = record { box = box; news = news; gathered = gathered }

  -- the messages that wait: the first is the next one of the inbox
  abbrev pub waiting_in : Intake J G → List Numbered
  waiting_in s = numbered_from (next_of s.box) s.gathered

  abbrev pub answering_end : State → Intake J G → AnsweringEnd J G
  answering_end machine s = record { machine = machine; intake = s }

  abbrev pub gathering_end : Line → Intake J G → GatheringEnd J G
  gathering_end line s = record { line = line; intake = s }

  abbrev pub taking_end : Line → Inbox J G → List NewsItem → TakingEnd J G
  taking_end line box news = record { line = line; box = box; news = news }
