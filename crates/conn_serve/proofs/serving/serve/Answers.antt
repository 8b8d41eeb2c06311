use Rattle.conn_serve.specs.Hears.{hears}
use Rattle.conn_serve.specs.Lives.{serving_in}
use Rattle.conn_serve.proofs.Opened.{served_by}
use Rattle.conn_serve.proofs.Marking.{marked_by, seated_by, went_on, all_admitted}
use Rattle.conn_serve.proofs.serving.serve.Goals as goal

pub returns-clause-through : goal.returns-clause-through
returns-clause-through g c =
    let late = c.submit_behind.ensures in
    went_on c.args.gate.now (serving_in (hears g.K.Sink g.N.Dialer g.N.Link.Link g.C.Clock) c.args.life.now c.args.senders.now.senders.items) (serving_in (hears g.K.Sink g.N.Dialer g.N.Link.Link g.C.Clock) c.serve_beside-answer.new.life c.serve_beside-answer.new.senders.senders.items) c.submit_behind.new.senders.senders.items _ c.serve_beside-answer.result c.submit_behind.result
    c.serve_beside-answer.ensures.served late.same late.kept (late.behind c.args.senders.now.senders.items)

pub returns-clause-served : goal.returns-clause-served
returns-clause-served g c =
    served_by g.N.Link.Link _ _ c.args.gate.now (serving_in (hears g.K.Sink g.N.Dialer g.N.Link.Link g.C.Clock) c.args.life.now c.args.senders.now.senders.items) (serving_in (hears g.K.Sink g.N.Dialer g.N.Link.Link g.C.Clock) c.serve_beside-answer.new.life c.submit_behind.new.senders.senders.items) _ _
    (returns-clause-through g c)

pub returns-clause-admitted : goal.returns-clause-admitted
returns-clause-admitted g c =
    let late = c.submit_behind.ensures in
    all_admitted c.args.gate.now (serving_in (hears g.K.Sink g.N.Dialer g.N.Link.Link g.C.Clock) c.args.life.now c.args.senders.now.senders.items) (serving_in (hears g.K.Sink g.N.Dialer g.N.Link.Link g.C.Clock) c.serve_beside-answer.new.life c.serve_beside-answer.new.senders.senders.items) c.submit_behind.new.senders.senders.items _ c.serve_beside-answer.result c.submit_behind.result
    c.serve_beside-answer.ensures.served late.kept (late.behind c.args.senders.now.senders.items)

pub returns-clause-marked : goal.returns-clause-marked
returns-clause-marked g c = λ u many.
    marked_by c.args.gate.now (serving_in (hears g.K.Sink g.N.Dialer g.N.Link.Link g.C.Clock) c.args.life.now c.args.senders.now.senders.items) (serving_in (hears g.K.Sink g.N.Dialer g.N.Link.Link g.C.Clock) c.serve_beside-answer.new.life c.submit_behind.new.senders.senders.items) _ _
    (returns-clause-served g c) (returns-clause-admitted g c) u many

pub returns-clause-seated : goal.returns-clause-seated
returns-clause-seated g c = λ made h.
    seated_by c.args.gate.now (serving_in (hears g.K.Sink g.N.Dialer g.N.Link.Link g.C.Clock) c.args.life.now c.args.senders.now.senders.items) (serving_in (hears g.K.Sink g.N.Dialer g.N.Link.Link g.C.Clock) c.serve_beside-answer.new.life c.submit_behind.new.senders.senders.items) _ _
    (returns-clause-served g c) made h
