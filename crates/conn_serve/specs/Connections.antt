-- Connections of a life, one behind another: what they did, told, recorded and carried, and how they came to their end (this
-- project's profile).
use Rattle.std.specs.Prelude.{◌≡◌, ℕ, ◌-◌, ◌≤◌, max, Bool, List, [], ◌∷◌, ◌++◌, map, length, Option, Some, None, IfSome, option_to_list}
use Rattle.std.specs.List.{AllByRecursion, flat_map}
use Rattle.session_model.specs.Journal.{History, BeginsHistory}
use Rattle.session_model.specs.Inbox.{InboxRecord}
use Rattle.fixp_replies.specs.declared.act.Ending.{Ending}
use Rattle.fixp_replies.specs.declared.act.Ending.TheVariants as endings
use Rattle.fixp_machine.specs.Machine.{State}
use Rattle.gw_outside.specs.Faults.{HasRisen}
use Rattle.gw_links.specs.Links.{Carried, Moved, HasCarried}
use Rattle.gw_links.specs.Dialers.{DialerTold}
use Rattle.gw_links.specs.declared.link.Link.{Ghosts as LinkGhosts}
use Rattle.conn_lines.specs.declared.close.Close.{Close}
use Rattle.conn_lines.specs.declared.close.Close.TheVariants as closes
use Rattle.conn_turns.specs.declared.news.NewsItem.{NewsItem}
use Rattle.conn_turns.specs.declared.answer.TurnFault.{TurnFault}
use Rattle.conn_turns.specs.Lines.{Line, TakenFrame, lines_after}
use Rattle.conn_turns.specs.Frames.{told}
use Rattle.conn_turns.specs.Turns.{Turn, Refusal, IsFaithful, cut_short}
use Rattle.conn_turns.specs.Refusals.{IsTried, wanted_of, told_of}
use Rattle.conn_steps.specs.Taking.{refused_by}
use Rattle.turn_laws.specs.Turns.{line_received, adds_in, adds_cut, tells_in}
use Rattle.turn_laws.specs.Made.{TurnAt, MadeTurn, MadeCut}
use Rattle.turn_laws.specs.Legs.{TurnedLeg, first_line, given_on, sent_on}

-- What is known of the link of a connection, and of its clock: whether its receives give all that fits; what its first turn found, and
-- what its last left; and how often its calls had failed before and behind them
pub record LinkSeen : Type 0 where
  pub eager : Bool
  pub first : TurnAt
  pub end : TurnAt
  pub faults_before : ℕ
  pub faults_behind : ℕ

-- A connection: its link; its turns; what they told, in order; the records that the inbox gained; those that a failed call of its
-- disk tried, which a stop may leave, all or none; the record that was refused, if one was; how it came to its end, None where it was
-- given up; and what its link tells that it had carried
pub record Connection : Type 0 where
  pub link : LinkSeen
  pub leg : TurnedLeg
  pub news : List NewsItem
  pub adds : List InboxRecord
  pub refused : List InboxRecord
  pub wanted : List InboxRecord
  pub close : Option Close
  pub carried : Option Carried

-- each whole turn of a connection sent of the outbox what it had seen of it
abbrev pub IsFaithfulLeg : TurnedLeg → Type 0
IsFaithfulLeg leg = AllByRecursion IsFaithful leg.turns

-- connections, by their turns
abbrev pub turned : List Connection → List TurnedLeg
turned cs = map (λ (c : Connection). c.leg) cs

-- the connections that ended, and the one that was given up, if one was
abbrev pub all_of : List Connection → Option Connection → List Connection
all_of ended given_up = ended ++ option_to_list given_up

-- whole turns, one behind another, each from where the one before left all, with what they told and the records that the inbox gained
abbrev pub WereTurns : (eager : Bool) (old new : TurnAt) → List Turn → List NewsItem → List InboxRecord → Type 0
WereTurns eager old new [] news adds = (new ≡ old) × (news ≡ []) × (adds ≡ [])
WereTurns eager old new (t ∷ later) news adds =
    (old.line.machine.ending ≡ None) × (mid : TurnAt) × MadeTurn eager old mid t
    × (more : List NewsItem) × (rest : List InboxRecord) × (news ≡ tells_in old.line t ++ more) × (adds ≡ adds_in old.line t ++ rest)
    × WereTurns eager mid new later more rest

-- a turn was cut short by a fault: what it told, the records that the inbox gained, those that a stop may leave all together, which a failed
-- call of its disk tried, and the record that was refused
pub record WasCutAt (eager : Bool) (old new : TurnAt) (t : Turn) (news : List NewsItem) (adds refused wanted : List InboxRecord) : Type 0 where
  pub now : ℕ
  pub received : List ℕ
  pub frames : List TakenFrame
  pub refusal : Option Refusal
  pub fault : TurnFault
  pub is : t ≡ cut_short now received frames refusal
  pub made : MadeCut eager old new now received frames refusal
  pub news_are : news
      ≡ told now (line_received old.line now received made.cut.got) frames ++ told_of now (lines_after now (line_received old.line now received made.cut.got) frames) refusal
  pub adds_are : adds ≡ adds_cut now (line_received old.line now received made.cut.got) frames refusal
  pub tried : List InboxRecord
  pub is_tried : IsTried now (line_received old.line now received made.cut.got) frames refusal tried
  pub refused_are : refused ≡ refused_by fault tried
  pub wanted_are : wanted ≡ wanted_of now (lines_after now (line_received old.line now received made.cut.got) frames) refusal

-- no turn was cut short: the link moved nothing more, and the clock did not fall
pub record MadeNoMore (old new : TurnAt) : Type 0 where
  pub moved : Moved old.told new.told old.carried new.carried [] []
  pub clock : old.clock ≤ new.clock

-- a turn was cut short, if one was; where none was, nothing more was told, gained, refused, wanted or moved
abbrev pub CutAt : (eager : Bool) (old new : TurnAt) → Option Turn → List NewsItem → (adds refused wanted : List InboxRecord) → Type 0
CutAt eager old new None news adds refused wanted = (news ≡ []) × (adds ≡ []) × (refused ≡ []) × (wanted ≡ []) × MadeNoMore old new
CutAt eager old new (Some t) news adds refused wanted = WasCutAt eager old new t news adds refused wanted

-- a connection whose turns take so many frames at most, from 1 to 256, began at its moment in the state m, by a pass that had seen so much of
-- the outbox
pub record BeganAt (seen : History) (m : State) (per_turn moment : ℕ) (first : TurnAt) : Type 0 where
  pub seen_is : first.seen ≡ seen
  pub line : first.line ≡ first_line per_turn m moment
  pub number : (1 ≤ per_turn) × (per_turn ≤ 256)
  pub time : moment ≡ max first.clock m.moment

-- A connection began at its moment in the state m; its whole turns led to the line `last`, and behind them one was cut short, if one was. What
-- was seen of the outbox begins with what was seen behind the whole turns
pub record IsConnection (before after : History) (m : State) (last : Line) (c : Connection) : Type 0 where
  pub began : BeganAt before m c.leg.per_turn c.leg.moment c.link.first
  pub behind : TurnAt
  pub line : behind.line ≡ last
  pub told : List NewsItem
  pub added : List InboxRecord
  pub turns : WereTurns c.link.eager c.link.first behind c.leg.turns told added
  pub grows : BeginsHistory behind.seen after
  pub cut_told : List NewsItem
  pub cut_added : List InboxRecord
  pub cut : CutAt c.link.eager behind c.link.end c.leg.cut cut_told cut_added c.refused c.wanted
  pub news : c.news ≡ told ++ cut_told
  pub adds : c.adds ≡ added ++ cut_added

-- a connection came to its end so: by the machine's ending, or its link failed, and it has ended as one whose link has ended: before
-- both finishes were exchanged
abbrev pub ClosesAs : Close → Option Ending → Type 0
ClosesAs (closes.Ended e) ending = ending ≡ Some e
ClosesAs closes.LinkFault ending = ending ≡ Some endings.LinkEnded

-- a connection ended: none of its turns was cut short, and its link carried exactly the bytes that were given and sent in them
pub record HasEnded (before after : History) (m new : State) (c : Connection) : Type 0 where
  pub last : Line
  pub is : IsConnection before after m last c
  pub machine : new ≡ last.machine
  pub whole : c.leg.cut ≡ None
  pub close : Close
  pub closed : c.close ≡ Some close
  pub ending : ClosesAs close new.ending
  pub lost : close ≡ closes.LinkFault → HasRisen c.link.faults_before c.link.faults_behind
  pub carried : HasCarried c.carried (given_on c.leg) (sent_on c.leg)

-- connections that ended, one behind another, from the state m on
abbrev pub AllEnded : (before after : History) (m new : State) → List Connection → Type 0
AllEnded before after m new [] = (new ≡ m) × (after ≡ before)
AllEnded before after m new (c ∷ later) = (between : History) × (mid : State) × HasEnded before between m mid c × AllEnded between after mid new later

-- behind a connection that came to its end so the next one follows: the session was neither finished nor rejected
abbrev pub FollowsEnd : Ending → Type 0
FollowsEnd endings.Finished = ⊥
FollowsEnd (endings.PeerTerminated code) = Unit {0}
FollowsEnd endings.LinkEnded = Unit {0}
FollowsEnd (endings.Rejected template code) = ⊥
FollowsEnd (endings.Violation violation) = Unit {0}

abbrev pub Follows : Close → Type 0
Follows (closes.Ended e) = FollowsEnd e
Follows closes.LinkFault = Unit {0}

abbrev pub IsFollowed : Connection → Type 0
IsFollowed c = IfSome c.close Follows

-- each of some connections but the last was followed by the next
abbrev pub AreFollowed : List Connection → Type 0
AreFollowed [] = Unit {0}
AreFollowed (c ∷ []) = Unit {0}
AreFollowed (c ∷ d ∷ later) = IsFollowed c × AreFollowed (d ∷ later)

-- what the inbox gained over connections, what a stop may leave beside it, and what those frames would have added that were refused
abbrev pub adds_of : List Connection → List InboxRecord
adds_of = flat_map (λ (c : Connection). c.adds)

abbrev pub refused_of_all : List Connection → List InboxRecord
refused_of_all = flat_map (λ (c : Connection). c.refused)

abbrev pub wanted_of_all : List Connection → List InboxRecord
wanted_of_all = flat_map (λ (c : Connection). c.wanted)

-- what a dialer tells once their links came back, each in its place
abbrev pub came_back : List Connection → DialerTold → DialerTold
came_back cs t = record { left = t.left - length cs; back = t.back ++ map (λ (c : Connection). c.carried) cs }

-- the link of a connection was this one of a dialer, as the contracts of its links have it
pub record IsOver {L : Type 0} (G : LinkGhosts L) (s : LinkSeen) : Type 0 where
  pub before : L
  pub behind : L
  pub eager : s.eager ≡ G.eager
  pub told_before : s.first.told ≡ G.told before
  pub told_behind : s.end.told ≡ G.told behind
  pub carried_before : s.first.carried ≡ G.carried before
  pub carried_behind : s.end.carried ≡ G.carried behind
  pub failed_before : s.faults_before ≡ G.faults before
  pub failed_behind : s.faults_behind ≡ G.faults behind

-- connections, one behind another, between what their clock gave last before and behind them
abbrev pub ByClock : (before behind : ℕ) → List Connection → Type 0
ByClock before behind [] = before ≤ behind
ByClock before behind (c ∷ later) = (before ≤ c.link.first.clock) × ByClock c.link.end.clock behind later
