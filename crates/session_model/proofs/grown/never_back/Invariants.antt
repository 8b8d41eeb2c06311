use Rattle.std.proofs.Common.{◌≡◌, ◌+◌, ◌^◌, ◌<◌, take, None, IfSome}
use Rattle.session_model.specs.Events.{standing}
use Rattle.session_model.specs.Growth.{NeverBack}
use Rattle.session_model.specs.Views.{events_of}
use Rattle.session_model.proofs.grown.never_back.Given as goal

abbrev pub invariant-loop-event : goal.invariant-loop-event
invariant-loop-event l = record {
  so_far : NeverBack l.next None (events_of (take l.event-index l.events));
  stands : l.standing ≡ standing None (events_of (take l.event-index l.events));
  fits : IfSome l.standing (λ n. n < 2 ^ 64 + l.event-index);
}
