-- What an end keeps to between its calls.
use Rattle.std.specs.Prelude.{◌≡◌, ⊤, ℕ, ◌+◌, ◌≤◌, true, if◌then◌else◌, List, [], Option, Some, None, IfSome, IsSome, is_some}
use Rattle.std.specs.List.{AllByRecursion}
use Rattle.session_model.specs.Inbox.{Numbered}
use Rattle.fixp_msgs.specs.Payload.{IsApplication}
use Rattle.flow_window.specs.Window.{Holding, front}
use Rattle.fixp_shake.specs.Flows.{is_idempotent, is_recoverable}
use Rattle.fixp_replies.specs.Outcomes.{Outcome}
use Rattle.fixp_replies.specs.Outgoing.{outcome_of}
use Rattle.fixp_machine.specs.Sound.{Sound, KeepsSound, GoesByOne}
use Rattle.fixp_machine.specs.Machine.{held_until, Windowed}
use Rattle.fixp_end.specs.Doing.{Serves}
use Rattle.fixp_end.specs.declared.machine.End.TheInside.{Inside}

-- a pending outcome may still take room for one announcement
abbrev pub announcing : Option Outcome → ℕ
announcing None = 0
announcing (Some outcome) = 1

-- the outcome that is pending: a reply, and the facts from it on
abbrev pub pending_in : Inside → Option Outcome
pending_in e = if e.pending then Some (outcome_of e.config e.reply e.next) else None

-- what is held, where there is a window
abbrev pub held_in : Option Holding → List Numbered
held_in None = []
held_in (Some w) = w.held

-- and the inbox waits for this number
abbrev pub Awaits : Option Holding → ℕ → Type 0
Awaits w next = IfSome w (λ held. held.next ≡ next)

-- a pending outcome moves the inbox by one message at most, as it does where there is a window
abbrev pub Steps : ℕ → Option Outcome → Type 0
Steps next None = ⊤
Steps next (Some o) = GoesByOne next o.next.recorded.inbox_next

-- Sound facts, and a pending outcome that keeps them so; a range that is served was sent, now and from the outcome on; on an
-- idempotent flow the receiver waits for the inbox's next number, and has room for the announcements of the frames that there is
-- room for; no moment lies ahead; and there is a window exactly on a recoverable flow, which waits for the inbox's next number too and
-- holds application messages, now and from the outcome on
pub record Keeps (e : Inside) : Type 0 where
  pub most : e.most ≤ 67108864
  pub facts : Sound e.config e.facts
  pub pending : IfSome (pending_in e) (λ o. KeepsSound e.config e.most e.facts o)
  pub serves : Serves e.facts
  pub serves_then : IfSome (pending_in e) (λ o. Serves o.next)
  pub applied : is_idempotent e.config.peer_flow ≡ true → e.applied.next ≡ e.facts.recorded.inbox_next
  pub room : e.room + announcing (pending_in e) ≤ e.applied.room
  pub start : e.start ≤ e.moment
  pub sent : e.last_sent ≤ e.moment
  pub received : e.last_received ≤ e.moment
  pub made : is_some e.window ≡ is_recoverable e.config.peer_flow
  pub awaits : Awaits e.window e.facts.recorded.inbox_next
  pub windowed : Windowed e.config e.most e.facts e.ending (held_in e.window)
  pub windowed_then : IfSome (pending_in e) (λ o. Windowed e.config e.most o.next o.ending (held_until o.ending (held_in e.window)))
  pub steps : IsSome e.window → Steps e.facts.recorded.inbox_next (pending_in e)
  pub free : IsSome (pending_in e) → front e.facts.recorded.inbox_next (held_in e.window) ≡ None
  pub messages : AllByRecursion (λ (m : Numbered). IsApplication m.payload) (held_in e.window)
