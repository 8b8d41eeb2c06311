use Rattle.std.proofs.Common.{◌≡◌, ◌+◌, ◌^◌, ◌<◌, take, None, IfSome}
use Rattle.session_model.specs.Events.{standing}
use Rattle.session_model.specs.Events.{TrueOfJournal}
use Rattle.session_model.specs.Views.{events_of, journal_of}
use Rattle.session_model.proofs.written.is_true.Given as goal

abbrev pub invariant-loop-event : goal.invariant-loop-event
invariant-loop-event l = record {
  so_far : TrueOfJournal (journal_of l.journal) None (events_of (take l.event-index l.events));
  stands : l.standing ≡ standing None (events_of (take l.event-index l.events));
  fits : IfSome l.standing (λ n. n < 2 ^ 64 + l.event-index);
}
