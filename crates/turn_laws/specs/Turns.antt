-- What a turn made of a line, as far as the machine, the bytes held and what was seen of the outbox go (this project's profile).
use Rattle.conn_turns.specs.Refusals.{IsRefused, stood_of}
use Rattle.std.specs.Prelude.{◌≡◌, ℕ, ◌||◌, Bool, List, [], ◌∷◌, ◌++◌, Option, IfSome}
use mathlib.Core.List.{IsPrefix}
use Rattle.session_model.specs.Journal.{History}
use Rattle.session_model.specs.Inbox.{InboxRecord}
use Rattle.fixp_machine.specs.Machine.{link_end, run}
use Rattle.gw_links.specs.declared.link.Got.{Got}
use Rattle.conn_turns.specs.Lines.{Line, TakenFrame, AreTaken, lines_after}
use Rattle.conn_turns.specs.declared.news.NewsItem.{NewsItem}
use Rattle.conn_turns.specs.Frames.{added, told}
use Rattle.conn_turns.specs.Turns.{Work, Turn, only_sends, works, link_lost, cut_short, not_begun, is_end, Refusal}
use Rattle.conn_turns.specs.Exact.{Served, line_ticked, line_sent}

-- a front of what was unsent was sent
pub record Sends (sent : List ℕ) (lost : Bool) (old new : Line) : Type 0 where
  pub front : IsPrefix sent old.machine.unsent
  pub line : new ≡ line_sent old sent lost

-- the line behind a tick and a receive: these bytes stand behind those held, and it is known whether the link has given its end
abbrev pub line_received : Line → ℕ → List ℕ → Option Got → Line
line_received old now received got = record (line_ticked old now) { held = old.held ++ received; over = old.over || is_end got }

-- behind its tick a turn received, served the frames and the outbox, and sent
pub record Works (before after : History) (old new : Line) (w : Work) : Type 0 where
  pub behind : Line
  pub served : Served before after (line_received old w.now w.received w.got) behind w
  pub sends : Sends w.sent w.lost behind new

-- a whole turn: it only sent, it worked, or its link failed as it received. What was seen of the outbox changes by its work alone
abbrev pub IsTurn : (before after : History) (old new : Line) → Turn → Type 0
IsTurn before after old new (only_sends now sent lost) = Sends sent lost (line_ticked old now) new × (after ≡ before)
IsTurn before after old new (works w) = Works before after old new w
IsTurn before after old new (link_lost now) = (new ≡ record (line_ticked old now) { machine = run (line_ticked old now).machine (link_end ∷ []) })
    × (after ≡ before)
IsTurn before after old new (cut_short now received frames refused) = ⊥
IsTurn before after old new not_begun = ⊥

-- behind its receive a turn was cut short behind frames, and behind them by what was refused of the next one, if something was
pub record IsCutShort (now : ℕ) (received : List ℕ) (frames : List TakenFrame) (refusal : Option Refusal) (old : Line) : Type 0 where
  pub got : Option Got
  pub taken : AreTaken now (line_received old now received got) frames
  pub is : IfSome refusal (IsRefused now (lines_after now (line_received old now received got) frames))

abbrev pub IsCut : Line → Turn → Type 0
IsCut old (only_sends now sent lost) = ⊥
IsCut old (works w) = ⊥
IsCut old (link_lost now) = ⊥
IsCut old (cut_short now received frames refused) = IsCutShort now received frames refused old
IsCut old not_begun = ⊥

-- the records that a whole turn adds to the inbox: those of the frames that it took
abbrev pub adds_in : Line → Turn → List InboxRecord
adds_in old (only_sends now sent lost) = []
adds_in old (works w) = added w.now (line_received old w.now w.received w.got) w.frames
adds_in old (link_lost now) = []
adds_in old (cut_short now received frames refused) = []
adds_in old not_begun = []

-- the records that one that was cut short adds, which took frames of this line: those of the frames, and what stood before the refusal
abbrev pub adds_cut : ℕ → Line → List TakenFrame → Option Refusal → List InboxRecord
adds_cut now l frames refusal = added now l frames ++ stood_of now (lines_after now l frames) refusal

-- what a whole turn tells: what the frames that it took tell
abbrev pub tells_in : Line → Turn → List NewsItem
tells_in old (only_sends now sent lost) = []
tells_in old (works w) = told w.now (line_received old w.now w.received w.got) w.frames
tells_in old (link_lost now) = []
tells_in old (cut_short now received frames refused) = []
tells_in old not_begun = []
