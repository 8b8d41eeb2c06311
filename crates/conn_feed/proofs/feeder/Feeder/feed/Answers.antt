use Rattle.std.proofs.Common.{ap}
use Rattle.conn_feed.specs.declared.end.FeedEnd.TheVariants as ends
use Rattle.conn_feed.proofs.Feeds.{nothing_fed, fed_since}
use Rattle.conn_feed.proofs.feeder.Feeder.feed.Goals as goal

pub returns-in_default-clause-fed : goal.returns-in_default-clause-fed
returns-in_default-clause-fed g c =
    let b = c.begin.ensures in
    nothing_fed g.K.Sink.taken c.args.self.now c.begin.new.self (g.S.Source.left c.args.input.now) (ap (λ v. v.items) b.senders) b.accepted b.empty

pub returns-in-Ok-feed_from-clause-fed : goal.returns-in-Ok-feed_from-clause-fed
returns-in-Ok-feed_from-clause-fed g c =
    let b = c.begin.ensures in
    fed_since g.K.Sink.taken c.args.self.now c.begin.new.self c.feed_from.new.self (g.S.Source.left c.args.input.now) (g.S.Source.left c.feed_from.new.input) ends.Ended
    (ap (λ v. v.items) b.senders) b.accepted c.in-Ok-feed_from.ensures.whole

pub returns-in-Err-clause-fed : goal.returns-in-Err-clause-fed
returns-in-Err-clause-fed g c =
    let b = c.begin.ensures in
    fed_since g.K.Sink.taken c.args.self.now c.begin.new.self c.feed_from.new.self (g.S.Source.left c.args.input.now) (g.S.Source.left c.feed_from.new.input) c.in-Err.end
    (ap (λ v. v.items) b.senders) b.accepted c.in-Err.ensures.over
