-- Runs of one end, as the connections that came of them (this project's profile).
use Rattle.std.specs.Prelude.{◌≡◌, ◌⊎◌, ℕ, ◌≤◌, ◌^◌, List, [], ◌∷◌, ◌++◌, length, Option, Some, None, Result, Ok, IsSomeAnd}
use Rattle.std.specs.List.{AllByRecursion, flat_map}
use Rattle.std.proofs.Common.{inl, inr}
use Rattle.session_model.specs.Journal.{History}
use Rattle.session_model.specs.Inbox.{InboxRecord}
use Rattle.fixp_shake.specs.declared.config.EndConfig.{EndConfig}
use Rattle.fixp_shake.specs.declared.config.Role.{Role}
use Rattle.fixp_machine.specs.Machine.{State}
use Rattle.conn_turns.specs.Lines.{Line}
use Rattle.turn_laws.specs.Legs.{TurnedLeg}
use Rattle.jr_dated.specs.declared.journal.Journal.{Ghosts}
use Rattle.cmd_base.specs.declared.status.Status.{Status}
use Rattle.cmd_config.specs.declared.configuration.Link.{Link}
use Rattle.cmd_config.specs.declared.configuration.Configuration.{Configuration}
use Rattle.conn_door.specs.declared.answer.ServeFault.{ServeFault}
use Rattle.conn_door.specs.declared.answer.LifeEnd.{LifeEnd}
use Rattle.conn_serve.specs.Connections.{Connection, turned, all_of}
use Rattle.conn_serve.specs.Moments.{LifeAt}
use Rattle.conn_serve.specs.Served.{WasGivenUp, ServedLife}
use Rattle.life_laws.specs.Plans.{Senders, submitting}
use Rattle.cmd_session.specs.Answers.{answerers}
use Rattle.cmd_session.specs.Inputs.{configuration_at, end_of}
use Rattle.cmd_session.specs.Lived.{LeftAll, HasLivedOver, Lived}
use Rattle.cmd_session.specs.Outsides.{Sees}
use Rattle.cmd_feed.specs.declared.outside.FeedOutside.{FeedOutside}
use Rattle.cmd_feed.specs.Outsides.{FeedSees}
use Rattle.cmd_session.specs.Steps.{StopsAtInput, EndsBehindConfig, Steps}
use Rattle.cmd_session.specs.declared.outside.SessionOutside.{SessionOutside}
use Rattle.run_laws.specs.Pieces.{LinkFits}
use Rattle.run_laws.specs.Several.{Run, Flows, IsEmptyJournal, RunsOver, IsRun, WasRun, HasRun}
use Rattle.run_laws.specs.FedLives.{FedLife, fed_life}

-- the connections of a life: those that ended, and the one that was given up, if one was, with the line that its whole turns left; and the machine
-- behind the last of them, if there is one
pub record Served : Type 0 where
  pub ended : List Connection
  pub given_up : Option Connection
  pub line : Option Line
  pub machine : Option State

abbrev pub line_given : (before after : History) (m : State) (c : Option Connection) → WasGivenUp before after m c → Option Line
line_given before after m None given = None
line_given before after m (Some c) given = Some given.0

abbrev pub machine_left : (ended : List Connection) (mid : State) → Option Line → Option State
machine_left ended mid (Some l) = Some l.machine
machine_left [] mid None = None
machine_left (c ∷ cs) mid None = Some mid

module _ {J : Type 0} {G : Ghosts J} {tells : Type 0} where
  abbrev pub served_of : (old new : LifeAt J G) (m : State) (result : Result LifeEnd ServeFault) → ServedLife tells old new m result → Served
  served_of old new m result k = record {
    ended = k.ended;
    given_up = k.given_up;
    line = line_given k.behind new.seen k.mid k.given_up k.gave_up;
    machine = machine_left k.ended k.mid (line_given k.behind new.seen k.mid k.given_up k.gave_up);
  }

module _ {S K D N C J : Type 0} (G : Ghosts J) (sees : Sees S K D N C) (role : Role) (before after : SessionOutside S K D N C) (status : Status) where
  -- those of the life that a run which was not fed lived, if it lived one
  abbrev pub served_in_life : (config : EndConfig) (senders : Senders)
      → LeftAll sees before after status ⊎ HasLivedOver G sees config senders before after status → List Served
  served_in_life config senders (inl left) = []
  served_in_life config senders (inr lived) = served_of _ _ _ _ lived.over.served.life ∷ []

  abbrev pub served_behind_input : (c : Configuration)
      → StopsAtInput sees c.trade.senders before after status ⊎ Lived G sees c.trade.senders (end_of role c.link) before after status → List Served
  served_behind_input c (inl refused) = []
  served_behind_input c (inr life) = served_in_life (end_of role c.link) (submitting life.plans) life.lived

  abbrev pub served_behind_config : (c : Configuration) → EndsBehindConfig G sees role c before after status → List Served
  served_behind_config c (inl refused) = []
  served_behind_config c (inr (inl on)) = served_behind_input c on.1.ended
  served_behind_config c (inr (inr on)) = served_in_life (end_of role c.link) (answerers c.trade) on.1.lived.lived

  abbrev pub served_in : Steps G sees role before after status → List Served
  served_in (inl stopped) = []
  served_in (inr was) = served_behind_config was.configuration was.ended

module _ {S I K A D N C J : Type 0} (G : Ghosts J) (sees : FeedSees S I K A D N C) (role : Role) where
  -- those of the life that was fed, if one was
  abbrev pub served_fed : (before after : FeedOutside S I K A D N C) (status : Status) → Option (FedLife G sees role before after status) → List Served
  served_fed before after status None = []
  served_fed before after status (Some l) = served_of _ _ _ _ l.lived.over.served.life ∷ []

  -- and so of a run
  abbrev pub served_of_run : (r : Run S K D N C) → IsRun G sees role r → List Served
  served_of_run r (inl steps) = served_in G sees.session role r.before r.after r.status steps
  served_of_run r (inr fed) = served_fed fed.before fed.after r.status (fed_life G sees role fed.before fed.after r.status fed.steps)

module _ {S I K A D N C J : Type 0} (G : Ghosts J) (sees : FeedSees S I K A D N C) (role : Role) (flows : Flows) (outbox inbox : List ℕ) where
  -- and of the lives of several runs, in order
  abbrev pub served_over : (runs : List (Run S K D N C)) (outboxes inboxes : List ℕ → Type 0)
      → RunsOver sees.session (WasRun G sees role flows) runs outboxes inboxes outbox inbox → List Served
  served_over [] outboxes inboxes over = []
  served_over (r ∷ later) outboxes inboxes over =
      served_of_run G sees role r over.2.steps
      ++ served_over later (sees.session.may_leave r.after.out_disk) (sees.session.may_leave r.after.in_disk) over.3

-- their connections, by their turns, and those that ended
abbrev pub legs_of : List Served → List TurnedLeg
legs_of lives = flat_map (λ (s : Served). turned (all_of s.ended s.given_up)) lives

abbrev pub ended_of : List Served → List Connection
ended_of lives = flat_map (λ (s : Served). s.ended) lives

-- the line of the connection that the last of them gave up, if it gave one up
abbrev pub last_line : List Served → Option Line
last_line [] = None
last_line (s ∷ []) = s.line
last_line (s ∷ t ∷ later) = last_line (t ∷ later)

-- and the machine behind its connections, if it had one
abbrev pub last_machine : List Served → Option State
last_machine [] = None
last_machine (s ∷ []) = s.machine
last_machine (s ∷ t ∷ later) = last_machine (t ∷ later)

-- the flows of a link
abbrev pub flows_in : Link → Flows
flows_in link = record { client = link.client_flow; server = link.server_flow }

-- two links of one session: its identifier, its credentials and its flows are the same. How often an end is to hear and to be heard, and the version of the session
-- schema that it speaks, are its own
pub record Matching (i a : Link) : Type 0 where
  pub session : a.session ≡ i.session
  pub credentials : a.credentials ≡ i.credentials
  pub client : a.client_flow ≡ i.client_flow
  pub server : a.server_flow ≡ i.server_flow

-- a CONFIG that spells a configuration for an end of this role spells one with a link of the session of this one
abbrev pub HasLink : Role → Link → List ℕ → Type 0
HasLink role link text = (c : Configuration) → configuration_at role text ≡ Ok c → Matching link c.link

module _ {S K D N C : Type 0} where
  abbrev pub ConfiguresLink : Sees S K D N C → Role → Link → Run S K D N C → Type 0
  ConfiguresLink sees role link r = IsSomeAnd (sees.left r.before.config) (HasLink role link)

module _ {S I K A D N C J : Type 0} where
  -- All runs of an end, from two journals without records on, each by a CONFIG with a link of the session of this one, which CONFIG may spell; behind them a
  -- stop may leave, or leaves, a journal of this history, of no more entries than an end takes, and one of this list
  pub record EndRan (G : Ghosts J) (sees : FeedSees S I K A D N C) (role : Role) (link : Link) : Type 0 where
    pub runs : List (Run S K D N C)
    pub outbox : History
    pub inbox : List InboxRecord
    pub ran : HasRun G sees role (flows_in link) runs outbox inbox
    pub fits : LinkFits link
    pub configured : AllByRecursion (ConfiguresLink sees.session role link) runs
    pub few : length outbox.made ≤ 2 ^ 26

  -- the lives of its runs
  abbrev pub lives : (G : Ghosts J) (sees : FeedSees S I K A D N C) (role : Role) (link : Link) → EndRan G sees role link → List Served
  lives G sees role link e = served_over G sees role (flows_in link) e.ran.outbox e.ran.inbox e.runs IsEmptyJournal IsEmptyJournal e.ran.over
