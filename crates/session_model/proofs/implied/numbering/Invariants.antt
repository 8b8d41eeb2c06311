use Rattle.std.proofs.Common.{◌≡◌, ◌+◌, ◌^◌, ◌<◌, map, take, None, IfSome}
use Rattle.session_model.specs.Events.{numbered, standing}
use Rattle.session_model.specs.Views.{events_of, numbered_of}
use Rattle.session_model.proofs.implied.numbering.Given as goal

abbrev pub invariant-loop-event : goal.invariant-loop-event
invariant-loop-event l = record {
  so_far : map numbered_of l.messages.items ≡ numbered None (events_of (take l.event-index l.events));
  stands : l.standing ≡ standing None (events_of (take l.event-index l.events));
  fits : IfSome l.standing (λ n. n < 2 ^ 64 + l.event-index);
}
