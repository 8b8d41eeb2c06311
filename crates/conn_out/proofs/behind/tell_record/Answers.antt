use Rattle.conn_out.proofs.Telling.{record_told, record_begun}
use Rattle.conn_out.proofs.behind.tell_record.Goals as goal

pub returns-in-Apply-clause-ok : goal.returns-in-Apply-clause-ok
returns-in-Apply-clause-ok g c =
    record_told c.tell_message.result (g.K.Sink.taken c.args.out.now)
    (g.K.Sink.taken c.tell_message.new.out) c.args.lines.now.items c.tell_message.new.lines.items c.args.record.now c.in-Apply.number c.in-Apply.payload
    c.as_slice.result.now c.in-Apply.is c.as_slice.ensures c.tell_message.ensures.ok

pub returns-in-Apply-clause-err : goal.returns-in-Apply-clause-err
returns-in-Apply-clause-err g c =
    record_begun c.tell_message.result (g.K.Sink.taken c.args.out.now)
    (g.K.Sink.taken c.tell_message.new.out) c.args.lines.now.items c.args.record.now c.in-Apply.number c.in-Apply.payload
    c.as_slice.result.now c.in-Apply.is c.as_slice.ensures c.tell_message.ensures.err
