use Rattle.std.proofs.Common.{◌≡◌, ◌+◌, ◌^◌, ◌<◌, take, None, IfSome}
use Rattle.session_model.specs.Events.{standing}
use Rattle.session_model.specs.Growth.{Grown}
use Rattle.session_model.specs.Views.{events_of, records_of, flow_of}
use Rattle.session_model.proofs.grown.Inbox.grow.Given as goal

abbrev pub invariant-loop-event : goal.invariant-loop-event
invariant-loop-event l = record {
  grown : Grown (flow_of l.flow) None (events_of (take l.event-index l.events)) (records_of l.fn.self.records.items) (records_of l.self.records.items);
  stands : l.standing ≡ standing None (events_of (take l.event-index l.events));
  fits : IfSome l.standing (λ n. n < 2 ^ 64 + l.event-index);
}
