-- What the answer of a turn is to a connection, and how one that ended is to a life (this project's profile).
use Rattle.std.specs.Prelude.{⊤, Option, Some, None, Result, Ok, Err}
use Rattle.fixp_replies.specs.declared.act.Ending.TheVariants as endings
use Rattle.jr_boxes.specs.declared.faults.Which.TheVariants as boxes
use Rattle.conn_lines.specs.declared.close.Close.{Close}
use Rattle.conn_lines.specs.declared.close.Close.TheVariants as closes
use Rattle.conn_turns.specs.declared.answer.TurnEnd.{TurnEnd}
use Rattle.conn_turns.specs.declared.answer.TurnEnd.TheVariants as turn_ends
use Rattle.conn_turns.specs.declared.answer.TurnFault.{TurnFault}
use Rattle.conn_turns.specs.declared.answer.TurnFault.TheVariants as turn_faults
use Rattle.conn_door.specs.declared.answer.ServeFault.{ServeFault}
use Rattle.conn_door.specs.declared.answer.ServeFault.TheVariants as faults
use Rattle.conn_door.specs.declared.answer.LifeEnd.{LifeEnd}
use Rattle.conn_door.specs.declared.answer.LifeEnd.TheVariants as ends

-- how a connection came to its end by a turn that answered so, if it did; a fault of the link is an end
abbrev pub close_of : Result TurnEnd TurnFault → Result (Option Close) ServeFault
close_of (Ok turn_ends.Go) = Ok None
close_of (Ok (turn_ends.Ended e)) = Ok (Some (closes.Ended e))
close_of (Err turn_faults.Link) = Ok (Some closes.LinkFault)
close_of (Err turn_faults.Inbox) = Err faults.Journal
close_of (Err turn_faults.Outbox) = Err faults.Journal
close_of (Err turn_faults.Broken) = Err faults.Journal
close_of (Err (turn_faults.Changed at)) = Err (faults.Changed boxes.Outbox at)
close_of (Err (turn_faults.Full entries bytes)) = Err (faults.Full entries bytes)
close_of (Err turn_faults.Memory) = Err faults.Memory

-- how a life ends behind a connection that came to its end so, if it does
abbrev pub end_behind : Close → Result (Option LifeEnd) ServeFault
end_behind (closes.Ended endings.Finished) = Ok (Some ends.Finished)
end_behind (closes.Ended (endings.PeerTerminated code)) = Ok None
end_behind (closes.Ended endings.LinkEnded) = Ok None
end_behind (closes.Ended (endings.Rejected template code)) = Err (faults.Rejected template code)
end_behind (closes.Ended (endings.Violation violation)) = Ok None
end_behind closes.LinkFault = Ok None

-- the faults of a turn and its lines, and those of a connection
abbrev pub IsOfTurn : ServeFault → Type 0
IsOfTurn faults.Output = ⊤
IsOfTurn faults.Journal = ⊤
IsOfTurn (faults.Changed which at) = ⊤
IsOfTurn faults.Dial = ⊥
IsOfTurn (faults.Unfinished phase) = ⊥
IsOfTurn (faults.Rejected template code) = ⊥
IsOfTurn (faults.Full entries bytes) = ⊤
IsOfTurn faults.Turns = ⊥
IsOfTurn faults.Memory = ⊤

abbrev pub IsOfConnection : ServeFault → Type 0
IsOfConnection faults.Output = ⊤
IsOfConnection faults.Journal = ⊤
IsOfConnection (faults.Changed which at) = ⊤
IsOfConnection faults.Dial = ⊥
IsOfConnection (faults.Unfinished phase) = ⊥
IsOfConnection (faults.Rejected template code) = ⊥
IsOfConnection (faults.Full entries bytes) = ⊤
IsOfConnection faults.Turns = ⊤
IsOfConnection faults.Memory = ⊤
