-- What the connections of a life are to the laws over turns.
use Rattle.std.specs.Prelude.{Bool, List}
use Rattle.session_model.specs.Inbox.{InboxRecord}
use Rattle.conn_turns.specs.declared.news.NewsItem.{NewsItem}
use Rattle.conn_turns.specs.Turns.{Turn}
use Rattle.turn_laws.specs.Legs.{AreTurns}
use Rattle.turn_laws.specs.Made.{TurnAt}
use Rattle.conn_serve.specs.Connections.{WereTurns}

-- the whole turns of a connection are turns one behind another, as the laws over turns speak of them
abbrev pub WereAreTurns : Type 0
WereAreTurns = (eager : Bool) (old new : TurnAt) (turns : List Turn) (news : List NewsItem) (adds : List InboxRecord)
    → WereTurns eager old new turns news adds → AreTurns old.seen new.seen old.line new.line turns
