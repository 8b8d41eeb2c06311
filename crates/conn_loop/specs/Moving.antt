-- What a turn receives and sends over its link (this project's profile).
use Rattle.std.specs.Prelude.{◌≡◌, ℕ, ◌+◌, ◌/◌, ◌<◌, ◌==◌, ◌||◌, min, if◌then◌else◌, Bool, false, List, [], ◌++◌, length, Option, Some, None, is_some, IfSome, Result, Ok, Err, true}
use mathlib.Core.List.{IsPrefix}
use Rattle.sofh_frame.specs.Framing.{IsBytes, first_of}
use Rattle.gw_outside.specs.Faults.{HasRisen}
use Rattle.gw_links.specs.declared.link.Got.{Got}
use Rattle.gw_links.specs.Links.{LinkTold, Carried, Moved}
use Rattle.fixp_replies.specs.declared.act.Ending.TheVariants as endings
use Rattle.fixp_machine.specs.Machine.{State}
use Rattle.conn_turns.specs.declared.answer.TurnEnd.{TurnEnd}
use Rattle.conn_turns.specs.declared.answer.TurnFault.{TurnFault}
use Rattle.conn_turns.specs.declared.answer.TurnFault.TheVariants as faults
use Rattle.conn_turns.specs.Lines.{Line}
use Rattle.conn_turns.specs.Frames.{is_whole, is_bad}
use Rattle.conn_turns.specs.Turns.{is_end}
use Rattle.conn_turns.specs.Exact.{Received, line_sent, most_held}
use Rattle.conn_loop.specs.Conn.{answer_of}

-- the shorter of both ends' intervals, in milliseconds; this end's, until the peer has told its own, which is not 0
abbrev pub interval_of : State → ℕ
interval_of m =
    if m.facts.connection.peer_interval == 0
    then m.config.keepalive
    else min m.config.keepalive m.facts.connection.peer_interval

-- how long the receive of a turn may wait where nothing is there, in milliseconds: not at all where the turn before took frames, whose
-- answers the outbox may have, nor where output is unsent, a whole frame is held, or bytes that no frame begins with, or a range is served; and else the
-- lesser of 100 and a tenth of the shorter interval
abbrev pub patience_of : (took : Bool) → Line → ℕ
patience_of took l =
    if took || l.waits || is_whole (first_of l.held) || is_bad (first_of l.held) || is_some l.machine.facts.connection.serving
    then 0
    else min 100 (interval_of l.machine / 10)

-- bytes that were received stand behind what was held, and it is known whether the link has given its end
pub record ReceivedOnce (eager : Bool) (told told' : Option LinkTold) (carried carried' : Option Carried) (old new : Line) (got : Option Got) : Type 0 where
  pub received : List ℕ
  pub bytes : IsBytes received
  pub line : new ≡ record old { held = old.held ++ received; over = old.over || is_end got }
  pub found : (room : ℕ) → room + length old.held ≡ most_held → Received eager told room received got
  pub moved : Moved told told' carried carried' received []

-- a turn answers so of a machine whose link failed in this state: the fault, where the connection had not ended before and ends as one
-- whose link has ended; and else, as where both finishes were exchanged, how it ended
abbrev pub IsLossOf : State → State → Result TurnEnd TurnFault → Type 0
IsLossOf old new (Ok end) = (end ≡ answer_of new.ending) × (old.ending ≡ None → new.ending ≡ Some endings.LinkEnded → ⊥)
IsLossOf old new (Err fault) = (fault ≡ faults.Link) × (old.ending ≡ None) × (new.ending ≡ Some endings.LinkEnded)

-- what a link shows at a moment: how often its calls have failed, what it tells, and what it tells that it had carried
pub record LinkAt : Type 0 where
  pub faults : ℕ
  pub told : Option LinkTold
  pub carried : Option Carried

abbrev pub link_at : (faults : ℕ) → Option LinkTold → Option Carried → LinkAt
link_at faults told carried = record { faults = faults; told = told; carried = carried }

-- a front of what was unsent was sent: as much as the link took, or, where it failed, some front. Where it failed, its count of faults rose, and the
-- answer is that of a loss; and else it is how the connection then stands
pub record SentOnce (before behind : LinkAt) (old new : Line) (result : Result TurnEnd TurnFault) : Type 0 where
  pub sent : List ℕ
  pub lost : Bool
  pub front : IsPrefix sent old.machine.unsent
  pub line : new ≡ line_sent old sent lost
  pub whole : lost ≡ false → old.machine.unsent ≡ sent ++ new.machine.unsent
  pub full : lost ≡ false → 0 < length new.machine.unsent → IfSome behind.told (λ t. t.room ≡ 0)
  pub answer : lost ≡ true → IsLossOf old.machine new.machine result
  pub cause : lost ≡ true → HasRisen before.faults behind.faults
  pub kept : lost ≡ false → result ≡ Ok (answer_of new.machine.ending)
  pub moved : Moved before.told behind.told before.carried behind.carried [] sent
