use Rattle.std.proofs.Common.{ap}
use Rattle.conn_feed.proofs.Feeders.{memory_at, send_goes, send_over}
use Rattle.conn_feed.proofs.feeder.Feeder.send.Goals as goal

pub returns-then-own-gt-MOST_OWN-clause-over : goal.returns-then-own-gt-MOST_OWN-clause-over
returns-then-own-gt-MOST_OWN-clause-over g c = memory_at g.K.Sink.taken c.args.self.now

pub returns-clause-goes : goal.returns-clause-goes
returns-clause-goes g c =
    let s = c.submit-submission.ensures in
    let t = c.tell_piece-told.ensures in
    send_goes g.K.Sink.taken c.args.gate.now c.args.self.now c.submit-submission.new.self (record c.tell_piece-told.new.self { piece = c.clear.new.self }) c.own-own.result c.submit-submission.result
    c.tell_piece-told.result c.requires.sound c.requires.some c.own-own.ensures.own s.went s.few s.piece s.line s.accepted (ap (λ v. v.items) t.senders) t.told c.ended_by.result c.ended_by.ensures.value c.clear.ensures

pub returns-clause-over : goal.returns-clause-over
returns-clause-over g c =
    let s = c.submit-submission.ensures in
    let t = c.tell_piece-told.ensures in
    send_over g.K.Sink.taken c.args.gate.now c.args.self.now c.submit-submission.new.self (record c.tell_piece-told.new.self { piece = c.clear.new.self }) c.own-own.result c.submit-submission.result
    c.tell_piece-told.result c.requires.sound c.requires.some c.own-own.ensures.own s.went s.few s.piece s.line s.accepted (ap (λ v. v.items) t.senders) t.told c.ended_by.result c.ended_by.ensures.value
