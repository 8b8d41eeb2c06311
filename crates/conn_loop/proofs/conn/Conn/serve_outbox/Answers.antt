use Rattle.std.proofs.Common.{ℕ, Bool, if◌then◌else◌, Option, None, length, sym, ap, subst, ◌∙◌, ◌≡◌, true}
use Rattle.std.specs.Prelude.{IfSome}
use Rattle.gate_turn.specs.Places.{known}
use Rattle.fixp_machine.specs.Machine.{run}
use Rattle.conn_turns.specs.Lines.{Line}
use Rattle.conn_turns.specs.Turns.{finish_calls, live_calls, live_of}
use Rattle.conn_loop.specs.Conn.{line_of}
use Rattle.conn_loop.specs.Serving.{SentDue}
use Rattle.conn_loop.proofs.Machine.{finish_seen}
use Rattle.conn_loop.proofs.Serving.{none_served, served_outbox}
use Rattle.conn_loop.proofs.Working.{looks_on}
use Rattle.conn_loop.proofs.conn.Conn.serve_outbox.Goals as goal

pub returns-in-Ok-send_beside-clause-served : goal.returns-in-Ok-send_beside-clause-served
returns-in-Ok-send_beside-clause-served g c =
    let again = c.in-Ok.ensures in
    let live = c.in-Ok-send_beside.ensures in
    let between : Line = line_of c.send_beside.new.self in
    served_outbox _ c.args.now (known c.args.pass.now).seen (known c.send_again.new.pass).seen (known c.send_beside.new.pass).seen
    (line_of c.args.self.now) (line_of c.send_again.new.self) (line_of c.send_beside.new.self) (line_of c.tell_finish.new.self)
    again.looks.seen live.looks.seen again.again (subst (λ (b : Bool). SentDue g.J.Journal.tells (if b then None else live_of (line_of c.send_again.new.self).per_turn (line_of c.send_again.new.self).machine (known c.send_beside.new.pass).seen) (live_calls c.args.now) (line_of c.send_again.new.self) (line_of c.send_beside.new.self)) again.some live.live)
    (c.tell_finish.ensures.finish ∙ ap (λ (o : Option ℕ). record between { machine = run between.machine (finish_calls c.args.now o) }) live.mark) again.same.config (cc)

pub returns-in-Ok-send_beside-clause-serve : goal.returns-in-Ok-send_beside-clause-serve
returns-in-Ok-send_beside-clause-serve g c =
    let h = (known c.send_beside.new.pass).seen in
    c.tell_finish.ensures.serve (known c.send_beside.new.pass)
    (subst (λ (o : Option ℕ). IfSome o (λ n. (h.finished ≡ true) × (length h.made ≡ n))) (sym c.in-Ok-send_beside.ensures.mark) (finish_seen c.send_again.new.self.end h))
    c.in-Ok-send_beside.ensures.serve

pub returns-in-Ok-send_beside-clause-looks : goal.returns-in-Ok-send_beside-clause-looks
returns-in-Ok-send_beside-clause-looks g c =
    looks_on (known c.args.pass.now) (known c.send_again.new.pass) (known c.send_beside.new.pass) c.send_again.ensures.looks c.send_beside.ensures.looks

pub returns-in-Err-send_beside-clause-looks : goal.returns-in-Err-send_beside-clause-looks
returns-in-Err-send_beside-clause-looks g c =
    looks_on (known c.args.pass.now) (known c.send_again.new.pass) (known c.send_beside.new.pass) c.send_again.ensures.looks c.send_beside.ensures.looks

pub returns-then-self-clause-served : goal.returns-then-self-clause-served
returns-then-self-clause-served g c = none_served _ c.args.now (known c.args.pass.now).seen (line_of c.args.self.now) (cc)
