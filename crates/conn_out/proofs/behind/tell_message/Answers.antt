use Rattle.conn_lines.specs.Lines.{deliver_line}
use Rattle.conn_out.proofs.Telling.{front_longer, written_front, line_told, line_begun}
use Rattle.conn_out.proofs.behind.tell_message.Goals as goal

pub returns-in_default-clause-err : goal.returns-in_default-clause-err
returns-in_default-clause-err g c = λ base text written.
    front_longer base (g.K.Sink.taken c.args.out.now) text (deliver_line c.args.number c.args.payload.now)
    (written_front base (g.K.Sink.taken c.args.out.now) c.args.lines.now.items text written)

pub returns-clause-ok : goal.returns-clause-ok
returns-clause-ok g c =
    line_told c.tell_held.result (g.K.Sink.taken c.args.out.now)
    (g.K.Sink.taken c.tell_held.new.out) c.args.lines.now.items c.push_deliver_line.new.lines.items c.tell_held.new.lines.items
    (deliver_line c.args.number c.args.payload.now) c.in-Ok.ensures.added c.tell_held.ensures.ok c.tell_held.ensures.emptied

pub returns-clause-err : goal.returns-clause-err
returns-clause-err g c =
    line_begun c.tell_held.result (g.K.Sink.taken c.args.out.now)
    (g.K.Sink.taken c.tell_held.new.out) c.args.lines.now.items c.push_deliver_line.new.lines.items
    (deliver_line c.args.number c.args.payload.now) c.in-Ok.ensures.added c.tell_held.ensures.err
