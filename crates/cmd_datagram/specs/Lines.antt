-- The lines of a world of datagrams (this project's profile).
use Rattle.std.specs.Prelude.{ℕ, List, [], ◌∷◌, ◌++◌, codes, decimal, Option, Some, None, slice_get}
use Rattle.std.specs.List.{flat_map}
use Rattle.fixp_msgs.specs.declared.numbering.Range.{Range}
use Rattle.fixp_datagram.specs.Datagrams.{Contents}
use Rattle.fixp_datagram.specs.Receiving.{Receiver, ask}
use Rattle.fixp_datagram.specs.Delivering.{Report, missing, late, Delivery, reports, received}
use Rattle.fixp_datagram.specs.Delivering as delivering
use Rattle.fixp_datagram.specs.World.{World, Event, accept, write, restart, happens}
use Rattle.fixp_datagram.specs.World as events
use Rattle.cmd_datagram.specs.declared.script.Script.{Script}
use Rattle.cmd_datagram.specs.Messages.{begins, events_of}

-- a word and a range: `WORD FROM COUNT`
abbrev pub range_line : List ℕ → Range → List ℕ
range_line word range = (word ++ decimal range.from) ++ (codes " " ++ decimal range.count) ++ codes "\n"

-- a word and a number: `WORD N`
abbrev pub number_line : List ℕ → ℕ → List ℕ
number_line word n = (word ++ decimal n) ++ codes "\n"

-- what a receiver reports
abbrev pub report_line : Report → List ℕ
report_line (missing range) = range_line (codes "missing ") range
report_line (delivering.deliver m) = number_line (codes "deliver ") m.number
report_line (late n) = number_line (codes "late ") n

-- what is to be asked for, if there is something
abbrev pub ask_line : Option Range → List ℕ
ask_line None = []
ask_line (Some range) = range_line (codes "ask ") range

-- a delivery: what it reports, then what is to be asked for behind it
abbrev pub delivery_lines : Delivery → List ℕ
delivery_lines d = flat_map report_line d.reports ++ ask_line d.ask

-- a receiver to which a datagram is delivered
abbrev pub lines_at : Receiver → Option Contents → List ℕ
lines_at r None = []
lines_at r (Some d) = delivery_lines (record { reports = reports r d; ask = ask (received r d) })

-- an event: a delivery is printed, and nothing else
abbrev pub event_lines : World → Event → List ℕ
event_lines w (accept e) = []
event_lines w (write first count) = []
event_lines w (events.deliver place) = lines_at w.receiver (slice_get w.written place)
event_lines w restart = []

-- events one behind another, and at the end the number that the receiver waits for
abbrev pub run_lines : World → List Event → List ℕ
run_lines w [] = number_line (codes "next ") w.receiver.next
run_lines w (e ∷ es) = event_lines w e ++ run_lines (happens w e) es

-- a script
abbrev pub script_lines : Script → List ℕ
script_lines s = run_lines (begins s) (events_of s)
