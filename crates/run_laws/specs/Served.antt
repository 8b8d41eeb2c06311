-- What the connections of two lives that were served came to, where their links are linked in time.
use Rattle.std.specs.Prelude.{◌≡◌, Some, Result}
use Rattle.std.specs.List.{AllByRecursion}
use Rattle.session_model.specs.Journal.{BeginsHistory}
use Rattle.fixp_shake.specs.declared.violation.Violation.{Violation}
use Rattle.fixp_replies.specs.declared.act.Ending.TheVariants as endings
use Rattle.jr_dated.specs.declared.journal.Journal.{Ghosts}
use Rattle.jr_kept.specs.declared.inbox.Inbox.{Inbox}
use Rattle.honest_ends.specs.PhaseLaws.{IsOfTime}
use Rattle.conn_lines.specs.declared.close.Close.TheVariants as closes
use Rattle.conn_door.specs.declared.answer.ServeFault.{ServeFault}
use Rattle.conn_door.specs.declared.answer.LifeEnd.{LifeEnd}
use Rattle.conn_serve.specs.Connections.{Connection, turned, all_of}
use Rattle.conn_serve.specs.Moments.{LifeAt}
use Rattle.conn_serve.specs.Served.{ServedLife}
use Rattle.honest_turns.specs.Lives.{InTime, End, end_after, AgreeAt}

-- where a connection is told to have ended by a violation, it is one of time
abbrev pub ClosesInTime : Connection → Type 0
ClosesInTime c = (v : Violation) → c.close ≡ Some (closes.Ended (endings.Violation v)) → IsOfTime v

module _ {J : Type 0} {G : Ghosts J} where
  -- A life of each end was served, over outboxes whose disks tell their content, and which begin with what their passes came to see. Where its
  -- connections are linked in time, also those that were given up, and the ends knew no more of each other than was sent: none that ended closed
  -- by a violation but one of time, and the ends know no more of each other behind them all
  abbrev pub ServedHolds : (tells : Type 0) → Inbox J G → Type 0
  ServedHolds tells box =
      (old_i new_i old_a new_a : LifeAt J G) (i a : End) (result_i result_a : Result LifeEnd ServeFault)
      → (k_i : ServedLife tells old_i new_i i.state result_i) → (k_a : ServedLife tells old_a new_a a.state result_a) → tells
      → BeginsHistory new_i.seen i.outbox → BeginsHistory new_a.seen a.outbox → AgreeAt i a
      → InTime (turned (all_of k_i.ended k_i.given_up)) (turned (all_of k_a.ended k_a.given_up))
      → AllByRecursion ClosesInTime k_i.ended × AllByRecursion ClosesInTime k_a.ended
      × AgreeAt (end_after i (turned (all_of k_i.ended k_i.given_up))) (end_after a (turned (all_of k_a.ended k_a.given_up)))
