-- What a datagram that is delivered has its receiver report, and what the receiver is then.
use Rattle.std.specs.Prelude.{ℕ, List, [], ◌∷◌, ◌++◌, Option}
use Rattle.std.specs.List.{flat_map}
use Rattle.session_model.specs.Inbox.{Numbered, InboxRecord, apply}
use Rattle.fixp_msgs.specs.declared.numbering.Range.{Range}
use Rattle.flow_idem.specs.Laws.{skipped}
use Rattle.fixp_datagram.specs.declared.receiver.Start.{Start}
use Rattle.fixp_datagram.specs.declared.receiver.Start.TheVariants as starts
use Rattle.fixp_datagram.specs.declared.receiver.DgSeen.{DgSeen}
use Rattle.fixp_datagram.specs.declared.receiver.DgSeen.TheVariants as messages
use Rattle.fixp_datagram.specs.Datagrams.{Contents}
use Rattle.fixp_datagram.specs.Receiving.{Receiver, start_of, started, seen, counted, ask}

-- one thing that a receiver reports: numbers that an idempotent flow gives up, a message that is delivered, or the number of
-- one that came late
pub data Report : Type 0 where
  missing : Range → Report
  deliver : Numbered → Report
  late : ℕ → Report

-- what the answer to a message reports. A message past a gap is dropped: it is asked for, and comes again
abbrev pub told : DgSeen → List ℕ → List Report
told (messages.Deliver n) payload = deliver (record { number = n; payload = payload }) ∷ []
told (messages.Late n) payload = late n ∷ []
told (messages.Gap n) payload = []
told (messages.TooLarge n) payload = []

-- over messages, one behind another
abbrev pub told_all : Receiver → List (List ℕ) → List Report
told_all r [] = []
told_all r (payload ∷ later) = told (seen r) payload ++ told_all (counted r) later

abbrev pub counted_all : Receiver → List (List ℕ) → Receiver
counted_all r [] = r
counted_all r (_ ∷ later) = counted_all (counted r) later

-- behind the answer to its first number: one that is too large has the whole datagram dropped
abbrev pub reports_behind : Start → Receiver → List (List ℕ) → List Report
reports_behind starts.Plain r payloads = told_all r payloads
reports_behind (starts.Missing range) r payloads = missing range ∷ told_all r payloads
reports_behind starts.TooLarge r payloads = []

abbrev pub received_behind : Start → Receiver → List (List ℕ) → Receiver
received_behind starts.Plain r payloads = counted_all r payloads
received_behind (starts.Missing _) r payloads = counted_all r payloads
received_behind starts.TooLarge r payloads = r

-- what a datagram has the receiver report, in order
abbrev pub reports : Receiver → Contents → List Report
reports r d = reports_behind (start_of r d.first) (started r d.first) d.payloads

-- and the receiver behind it
abbrev pub received : Receiver → Contents → Receiver
received r d = received_behind (start_of r d.first) (started r d.first) d.payloads

-- what an inbox records of a report
abbrev pub records_of : Report → List InboxRecord
records_of (missing range) = skipped range ∷ []
records_of (deliver m) = apply m ∷ []
records_of (late n) = []

abbrev pub recorded : List Report → List InboxRecord
recorded reports = flat_map records_of reports

-- what a delivery makes: its reports, and then what is to be asked for
pub record Delivery : Type 0 where
  pub reports : List Report
  pub ask : Option Range

-- over datagrams, one behind another
abbrev pub deliveries : Receiver → List Contents → List Delivery
deliveries r [] = []
deliveries r (d ∷ ds) = record { reports = reports r d; ask = ask (received r d) } ∷ deliveries (received r d) ds

abbrev pub received_all : Receiver → List Contents → Receiver
received_all r [] = r
received_all r (d ∷ ds) = received_all (received r d) ds
