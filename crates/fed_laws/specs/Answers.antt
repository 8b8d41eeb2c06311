-- What a feeding that ended so is to the laws on senders (this project's profile).
use Rattle.std.specs.Prelude.{Option, Some, None}
use Rattle.conn_door.specs.declared.answer.ServeFault.{ServeFault}
use Rattle.conn_door.specs.declared.answer.ServeFault.TheVariants as faults
use Rattle.conn_feed.specs.declared.end.FeedEnd.{FeedEnd}
use Rattle.conn_feed.specs.declared.end.FeedEnd.TheVariants as ends

-- The refusal of a sender, or that of the mark, with which a feeding ended, if there was one; that the outbox is closed is none. Where INPUT or ACCEPTED
-- failed, or the connections were over first, there was none, but nothing is to be concluded of the mark, as where a sender wanted memory
abbrev pub fed_refusal : FeedEnd → Option ServeFault → Option ServeFault
fed_refusal ends.Ended mark = mark
fed_refusal ends.Closed mark = None
fed_refusal ends.Stopped mark = Some faults.Memory
fed_refusal ends.Input mark = Some faults.Memory
fed_refusal ends.Accepted mark = Some faults.Memory
fed_refusal ends.Journal mark = Some faults.Journal
fed_refusal (ends.Full entries bytes) mark = Some (faults.Full entries bytes)
fed_refusal ends.Memory mark = Some faults.Memory
