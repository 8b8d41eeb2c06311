use Rattle.std.proofs.Common.{inl, inr, ap}
use Rattle.conn_feed.specs.Fed.{parts_of}
use Rattle.conn_feed.specs.Course.{point_of}
use Rattle.conn_feed.proofs.Nothing.{none_fed}
use Rattle.conn_fed.proofs.feeding.tell_and_feed.Goals as goal

pub returns-in-Ok-clause-fed : goal.returns-in-Ok-clause-fed
returns-in-Ok-clause-fed g c = record {
  counted = point_of g.A.Sink.taken c.tell_counts.new.self;
  same = ap (λ s. parts_of s.items) c.tell_counts.ensures.senders;
  feeding = c.feed.ensures.fed;
  counts = inl c.in-Ok.ensures.told;
}

pub returns-in-Err-clause-fed : goal.returns-in-Err-clause-fed
returns-in-Err-clause-fed g c =
    let f = c.tell_counts.new.self in
    let none = none_fed (parts_of f.senders.items) (g.A.Sink.taken f.accepted) (g.S.Source.left c.args.input.now) c.in-Err.end c.in-Err.ensures.told.1 in
    record {
      counted = point_of g.A.Sink.taken f;
      same = ap (λ s. parts_of s.items) c.tell_counts.ensures.senders;
      feeding = none.0;
      counts = inr (record { front = c.in-Err.ensures.told.0; read_none = none.1; why = c.in-Err.ensures.told.1 });
    }
