use Rattle.std.proofs.Common.{sym, ap, subst}
use Rattle.gate_senders.specs.Gate.{IsPassAt, opening_of}
use Rattle.conn_turns.specs.Lines.{Line}
use Rattle.conn_loop.specs.Conn.{line_of}
use Rattle.conn_serve.proofs.Opened.{may_begin_new}
use Rattle.conn_serve.proofs.life.Life.new.Goals as goal

pub returns-clause-may : goal.returns-clause-may
returns-clause-may g c =
    let r = c.requires.may in
    let made = c.new.ensures in
    record {
      idle = record { own = subst (λ p. IsPassAt c.args.opening.gate.now p) (sym made.pass) r.own; unlent = r.unlent };
      begins = may_begin_new c.args.opening.config c.args.opening.most (opening_of c.args.opening.gate.now).history (line_of c.in-Ok.conn) c.args.lent.pass c.args.lent.inbox c.new.result made.conn made.pass made.inbox
          (ap (λ (l : Line). l.machine) c.in-Ok.ensures) r.opened r.sent r.credentials r.flow r.within;
    }
