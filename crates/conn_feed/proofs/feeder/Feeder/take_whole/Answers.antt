use Rattle.std.proofs.Common.{◌≡◌, length, arith}
use Rattle.conn_accepted.specs.declared.why.Why.TheVariants as whys
use Rattle.conn_feed.specs.declared.end.FeedEnd.TheVariants as ends
use Rattle.conn_feed.proofs.Feeders.{memory_at, ends_at_line, given_goes, line_over, wrong_goes, wrong_over}
use Rattle.conn_feed.proofs.feeder.Feeder.take_whole.Goals as goal

pub returns-in-Ok-Payload-clause-goes : goal.returns-in-Ok-Payload-clause-goes
returns-in-Ok-Payload-clause-goes g c =
    let f = c.args.self.now in
    let count : c.len-senders.result ≡ length f.senders.items = omega (arith, c.len-senders.ensures, f.senders.ok.0) in
    given_goes g.K.Sink.taken f c.add.new.self c.args.number c.len-senders.result c.in-Ok-Payload.sender c.in-Ok-Payload.payload c.args.line.now c.add.result count (rw c.in-Ok-Payload.field-0-is at c.in-Ok-Payload.ensures.exact)
    c.add.ensures.goes

pub returns-in-Ok-Payload-clause-over : goal.returns-in-Ok-Payload-clause-over
returns-in-Ok-Payload-clause-over g c = line_over g.K.Sink.taken c.args.self.now c.add.new.self c.args.number c.args.line.now c.add.result c.add.ensures.over

pub returns-in-Ok-Wrong-clause-goes : goal.returns-in-Ok-Wrong-clause-goes
returns-in-Ok-Wrong-clause-goes g c =
    let f = c.args.self.now in
    let count : c.len-senders.result ≡ length f.senders.items = omega (arith, c.len-senders.ensures, f.senders.ok.0) in
    wrong_goes g.K.Sink.taken f c.pass_over.new.self c.args.number c.len-senders.result (whys.Wrong c.in-Ok-Wrong.wrong) c.args.line.now c.pass_over.result count (rw c.in-Ok-Wrong.field-0-is at c.in-Ok-Wrong.ensures.exact)
    c.pass_over.ensures.goes

pub returns-in-Ok-Wrong-clause-over : goal.returns-in-Ok-Wrong-clause-over
returns-in-Ok-Wrong-clause-over g c =
    let f = c.args.self.now in
    let count : c.len-senders.result ≡ length f.senders.items = omega (arith, c.len-senders.ensures, f.senders.ok.0) in
    wrong_over g.K.Sink.taken f c.pass_over.new.self c.args.number c.len-senders.result (whys.Wrong c.in-Ok-Wrong.wrong) c.args.line.now c.pass_over.result count (rw c.in-Ok-Wrong.field-0-is at c.in-Ok-Wrong.ensures.exact)
    c.pass_over.ensures.over

pub returns-in-Err-clause-over : goal.returns-in-Err-clause-over
returns-in-Err-clause-over g c =
    let f = c.args.self.now in
    ends_at_line g.K.Sink.taken f f ends.Memory c.args.number c.args.line.now (memory_at g.K.Sink.taken f)
