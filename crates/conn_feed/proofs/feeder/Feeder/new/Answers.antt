use Rattle.conn_feed.proofs.Seats.{seated_at}
use Rattle.conn_feed.proofs.feeder.Feeder.new.Goals as goal

pub returns-clause-seats : goal.returns-clause-seats
returns-clause-seats g c =
    let e = c.count_done.ensures in
    let senders = c.count_done.new.senders in
    seated_at c.args.gate.now c.args.senders.items senders.items _ _ senders.ok.0 c.args.senders.ok.0 e.count c.requires.few e.seated e.each
