-- What the values of the plain program mean: the lists of the definitions.
use Rattle.std.specs.Prelude.{◌≡◌, ℕ, ◌+◌, List, map, Option, Some, IfSome, IsSome, ⊤}
use Rattle.session_model.specs.Journal
use Rattle.session_model.specs.Inbox
use Rattle.session_model.specs.Events
use Rattle.session_model.specs.Growth
use Rattle.session_model.specs.declared.event.Announcer.{Announcer}
use Rattle.session_model.specs.declared.event.Announcer.TheVariants.{Handshake, InFlow}
use Rattle.session_model.specs.declared.event.Event.{Event}
use Rattle.session_model.specs.declared.event.Event.TheVariants.{Announce, Message}
use Rattle.session_model.specs.declared.event.Entry.{Entry}
use Rattle.session_model.specs.declared.event.Numbered.{Numbered}
use Rattle.session_model.specs.declared.event.Range.{Range}
use Rattle.session_model.specs.declared.event.Record.{Record}
use Rattle.session_model.specs.declared.event.Record.TheVariants.{Apply, Skip}
use Rattle.session_model.specs.declared.event.Flow.{Flow}
use Rattle.session_model.specs.declared.event.Flow.TheVariants.{Recoverable, Idempotent, Unsequenced, NoFlow}

abbrev pub announcer_of : Announcer → Events.Announcer
announcer_of Handshake = Events.Announcer.handshake
announcer_of InFlow = Events.Announcer.in_flow

abbrev pub event_of : Event → Events.Event
event_of (Announce who number) = Events.Event.announce (announcer_of who) number
event_of (Message payload) = Events.Event.message payload.now

abbrev pub events_of : List Event → List Events.Event
events_of es = map event_of es

abbrev pub entry_of : Entry → Journal.Entry
entry_of e = record { sender = e.sender; own_number = e.own_number; payload = e.payload.now }

abbrev pub journal_of : List Entry → List Journal.Entry
journal_of h = map entry_of h

abbrev pub numbered_of : Numbered → Inbox.Numbered
numbered_of m = record { number = m.number; payload = m.payload.now }

abbrev pub range_of : Range → Inbox.Range
range_of r = record { first = r.first; count = r.count }

abbrev pub record_of : Record → Inbox.InboxRecord
record_of (Apply m) = Inbox.InboxRecord.apply (numbered_of m)
record_of (Skip r) = Inbox.InboxRecord.skip (range_of r)

abbrev pub records_of : List Record → List Inbox.InboxRecord
records_of rs = map record_of rs

abbrev pub flow_of : Flow → Growth.Flow
flow_of Recoverable = Growth.Flow.recoverable
flow_of Idempotent = Growth.Flow.idempotent
flow_of Unsequenced = Growth.Flow.unsequenced
flow_of NoFlow = Growth.Flow.no_flow

-- the first number of a record, and the one past its last
abbrev pub first_in : Record → ℕ
first_in (Apply m) = m.number
first_in (Skip r) = r.first

abbrev pub end_of : Record → ℕ
end_of (Apply m) = m.number + 1
end_of (Skip r) = r.first + r.count

-- what growth asks of the events: on an idempotent flow, that no announcement goes back behind the number reached
abbrev pub MayGrow : Flow → ℕ → Option ℕ → List Events.Event → Type 0
MayGrow Idempotent next c es = IfSome c (λ n. n ≡ next) × Growth.NeverBack next c es
MayGrow Recoverable next c es = ⊤
MayGrow Unsequenced next c es = ⊤
MayGrow NoFlow next c es = ⊤

-- when a message is applied, where a number stands announced: on a recoverable flow if it is the next one, on an idempotent
-- flow if there is one, and on an unsequenced flow always
abbrev pub Takes : Flow → ℕ → Option ℕ → Type 0
Takes Recoverable next c = c ≡ Some next
Takes Idempotent next c = IsSome c
Takes Unsequenced next c = ⊤
Takes NoFlow next c = ⊥
