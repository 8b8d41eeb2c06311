-- What a live end is at a moment of a turn (this project's profile).
use Rattle.std.specs.Prelude.{List, Option}
use Rattle.gw_links.specs.Links.{LinkTold, Carried}
use Rattle.session_model.specs.Journal.{History}
use Rattle.jr_dated.specs.declared.journal.Journal.{Ghosts}
use Rattle.jr_kept.specs.declared.inbox.Inbox.{Inbox}
use Rattle.conn_turns.specs.declared.news.NewsItem.{NewsItem}
use Rattle.conn_turns.specs.Lines.{Line}

-- what its link tells, and tells that it had carried; what its pass has seen of the outbox; its connection; its inbox; and the
-- news of its turn
pub record EndAt (J : Type 0) (G : Ghosts J) : Type 0 where
  pub told : Option LinkTold
  pub carried : Option Carried
  pub seen : History
  pub line : Line
  pub box : Inbox J G
  pub news : List NewsItem

module _ {J : Type 0} {G : Ghosts J} where
  abbrev pub live_end : Option LinkTold → Option Carried → History → Line → Inbox J G → List NewsItem → EndAt J G
  live_end told carried seen line box news = record { told = told; carried = carried; seen = seen; line = line; box = box; news = news }
