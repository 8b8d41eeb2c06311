-- A session in the order of time: what both ends do, step by step, and the lives and connections that this makes.
-- That the steps of two ends have one order is this project's profile.
use Rattle.std.specs.Prelude.{◌≡◌, ℕ, ◌+◌, ◌<◌, ◌==◌, if◌then◌else◌, Bool, false, List, [], ◌∷◌, ◌++◌, length, ⊤}
use Rattle.std.specs.List.{AllByRecursion}
use mathlib.Core.List.{IsPrefix}
use Rattle.session_model.specs.Journal.{OutboxRecord}
use Rattle.session_model.specs.Inbox.{Range, InboxRecord}
use Rattle.session_model.specs.Events.{Event}
use Rattle.session_model.specs.Growth.{Flow}
use Rattle.session_model.specs.Lives.{Connection, Life, IsImage, KeepsContract, TakenFrom, connections_of}
use Rattle.session_model.specs.Guarantee.{OneEnd, Session}

-- What one end does: it takes up the link of this number; its outbox gains a record, or the append of some fails; it writes an
-- event on its connection, or reports a range there; all of its output is taken there, or no longer is; it processes a frame
-- or more, with their events and the records that it adds to its inbox, or the append of these records fails; it stops, and
-- its next life opens on these journals. Links are numbered in the order in which they were made
pub data Deed : Type 0 where
  connect : ℕ → Deed
  keep : OutboxRecord → Deed
  lose_outbox : List OutboxRecord → Deed
  write : Event → Deed
  report : Range → Deed
  drain : Bool → Deed
  process : List Event → List InboxRecord → Deed
  lose_inbox : List Event → List InboxRecord → Deed
  stop : List OutboxRecord → List InboxRecord → Deed

-- one end so far: its past lives, the one that runs, with all lists as they stand, and the links of all its connections
pub record End : Type 0 where
  pub past : List Life
  pub now : Life
  pub links : List ℕ

abbrev pub lives_of : End → List Life
lives_of e = e.past ++ e.now ∷ []

-- a life that has only opened its journals, and a connection on which nothing has passed
abbrev pub opened_on : List OutboxRecord → List InboxRecord → Life
opened_on outbox inbox = record {
  opening_outbox = outbox;
  closing_outbox = outbox;
  refused_outbox = [];
  served = record { opening_inbox = inbox; closing_inbox = inbox; refused_inbox = []; processed = 0; connections = [] };
}

abbrev pub fresh : Connection
fresh = record { accepted = []; written = []; added = []; reported = []; drained = false }

-- the last connection, changed
abbrev pub at_last : (Connection → Connection) → List Connection → List Connection
at_last change [] = []
at_last change (c ∷ []) = change c ∷ []
at_last change (c ∷ d ∷ cs) = c ∷ at_last change (d ∷ cs)

abbrev pub on_connections : (List Connection → List Connection) → Life → Life
on_connections change life = record life { served = record life.served { connections = change life.served.connections } }

-- what a deed makes of the life that runs
abbrev pub lived : Deed → Life → Life
lived (connect n) life = on_connections (λ cs. cs ++ fresh ∷ []) life
lived (keep r) life = record life { closing_outbox = life.closing_outbox ++ r ∷ [] }
lived (lose_outbox rs) life = record life { refused_outbox = rs }
lived (write e) life = on_connections (at_last (λ c. record c { written = c.written ++ e ∷ [] })) life
lived (report r) life = on_connections (at_last (λ c. record c { reported = c.reported ++ r ∷ [] })) life
lived (drain taken) life = on_connections (at_last (λ c. record c { drained = taken })) life
lived (process es rs) life = record life {
  served = record life.served {
    closing_inbox = life.served.closing_inbox ++ rs;
    processed = life.served.processed + length es;
    connections = at_last (λ c. record c { accepted = c.accepted ++ es; added = c.added ++ rs }) life.served.connections;
  };
}
lived (lose_inbox es rs) life = record life {
  served = record life.served {
    refused_inbox = rs;
    connections = at_last (λ c. record c { accepted = c.accepted ++ es }) life.served.connections;
  };
}
lived (stop outbox inbox) life = opened_on outbox inbox

-- and of the end
abbrev pub past_behind : Deed → End → List Life
past_behind (stop outbox inbox) e = lives_of e
past_behind deed e = e.past

abbrev pub links_behind : Deed → List ℕ → List ℕ
links_behind (connect n) links = links ++ n ∷ []
links_behind deed links = links

abbrev pub does : Deed → End → End
does deed e = record { past = past_behind deed e; now = lived deed e.now; links = links_behind deed e.links }

-- what was written on the link of this number by an end that took up these links; nothing, where it did not take it up
abbrev pub written_on : ℕ → List ℕ → List Connection → List Event
written_on n [] cs = []
written_on n (m ∷ links) [] = []
written_on n (m ∷ links) (c ∷ cs) = if m == n then c.written else written_on n links cs

-- the connection that an end has now, and the number of its link
pub record HasNow (e : End) (n : ℕ) (c : Connection) : Type 0 where
  pub earlier : List Connection
  pub before : List ℕ
  pub connection : e.now.served.connections ≡ earlier ++ c ∷ []
  pub link : e.links ≡ before ++ n ∷ []

-- what it may accept there: of what the other end has written on that link by now
pub record MayAccept (e other : End) (es : List Event) : Type 0 where
  pub n : ℕ
  pub c : Connection
  pub has : HasNow e n c
  pub comes : TakenFrom (written_on n other.links (connections_of (lives_of other))) (c.accepted ++ es)

-- What an end may do. It takes up links of rising numbers; a stop leaves one of the images of its journals. Whether it keeps
-- its contract is another matter
abbrev pub May : Deed → End → End → Type 0
May (connect n) e other = AllByRecursion (λ m. m < n) e.links
May (process es rs) e other = MayAccept e other es
May (lose_inbox es rs) e other = MayAccept e other es
May (stop outbox inbox) e other =
    IsImage e.now.closing_outbox e.now.refused_outbox outbox × IsImage e.now.served.closing_inbox e.now.served.refused_inbox inbox
May deed e other = ⊤

-- both ends, and a step of one of them
pub record Ends : Type 0 where
  pub a : End
  pub b : End

pub data Step : Type 0 where
  of_a of_b : Deed → Step

abbrev pub step : Step → Ends → Ends
step (of_a deed) w = record { a = does deed w.a; b = w.b }
step (of_b deed) w = record { a = w.a; b = does deed w.b }

abbrev pub MayStep : Step → Ends → Type 0
MayStep (of_a deed) w = May deed w.a w.b
MayStep (of_b deed) w = May deed w.b w.a

-- what some steps make of both ends, and that each may be taken where it is
abbrev pub after : List Step → Ends → Ends
after [] w = w
after (s ∷ steps) w = after steps (step s w)

abbrev pub Happens : List Step → Ends → Type 0
Happens [] w = ⊤
Happens (s ∷ steps) w = MayStep s w × Happens steps (step s w)

-- two ends on empty journals
abbrev pub newborn : End
newborn = record { past = []; now = opened_on [] []; links = [] }

abbrev pub beginning : Ends
beginning = record { a = newborn; b = newborn }

-- A session history
abbrev pub SessionHistory : List Step → Type 0
SessionHistory steps = Happens steps beginning

-- one connection begins another, and the connections of a life at one moment begin those at a later one: all but the last
-- have stayed as they were
pub record BeginsConnection (early late : Connection) : Type 0 where
  pub accepted : IsPrefix early.accepted late.accepted
  pub written : IsPrefix early.written late.written
  pub added : IsPrefix early.added late.added
  pub reported : IsPrefix early.reported late.reported

abbrev pub ConnectionsBegin : List Connection → List Connection → Type 0
ConnectionsBegin [] late = ⊤
ConnectionsBegin (c ∷ early) [] = ⊥
ConnectionsBegin (c ∷ []) (d ∷ late) = BeginsConnection c d
ConnectionsBegin (c ∷ c' ∷ early) (d ∷ late) = (c ≡ d) × ConnectionsBegin (c' ∷ early) late

-- a life at one moment begins it at a later one
pub record BeginsLife (early late : Life) : Type 0 where
  pub same_outbox : early.opening_outbox ≡ late.opening_outbox
  pub same_inbox : early.served.opening_inbox ≡ late.served.opening_inbox
  pub outbox : IsPrefix early.closing_outbox late.closing_outbox
  pub inbox : IsPrefix early.served.closing_inbox late.served.closing_inbox
  pub connections : ConnectionsBegin early.served.connections late.served.connections

-- the lives of an end at one moment are its lives later, but that the last has gone on and others have followed
pub record LivesGoOn (early late : End) : Type 0 where
  pub going : Life
  pub later : List Life
  pub lives : lives_of late ≡ early.past ++ going ∷ later
  pub begins : BeginsLife early.now going

-- Every beginning of a session history is one; the lives of both ends at that moment go on in the whole
abbrev pub HistoryBegins : Type 0
HistoryBegins = (first second : List Step) → SessionHistory (first ++ second)
    → SessionHistory first
    × LivesGoOn (after first beginning).a (after (first ++ second) beginning).a
    × LivesGoOn (after first beginning).b (after (first ++ second) beginning).b

-- The lives and connections that a history comes to are chained and linked: where each life keeps its contract as far as it
-- has come, they are a session, whatever a stop may leave now
abbrev pub HistoryIsSession : Type 0
HistoryIsSession = (steps : List Step) (a b : OneEnd Flow Life) → SessionHistory steps
    → a.lives ≡ lives_of (after steps beginning).a → b.lives ≡ lives_of (after steps beginning).b
    → May (stop a.outbox a.inbox) (after steps beginning).a (after steps beginning).b
    → May (stop b.outbox b.inbox) (after steps beginning).b (after steps beginning).a
    → AllByRecursion (KeepsContract a.flow b.flow a.plan) a.lives → AllByRecursion (KeepsContract b.flow a.flow b.plan) b.lives
    → Session a b
