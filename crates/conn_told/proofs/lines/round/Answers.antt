use Rattle.std.proofs.Common.{◌≡◌, ℕ, [], List}
use Rattle.std.specs.Prelude.{nat_lt}
use Rattle.conn_told.specs.Progress.{HasSaid, Reads, Streams}
use Rattle.conn_told.proofs.Rounds.{unread, round_goes, round_ends, pushed_ok, none_read}
use Rattle.conn_told.proofs.lines.round.Goals as goal

pub returns-in_default-clause-after : goal.returns-in_default-clause-after
returns-in_default-clause-after g c = λ before s.
    unread c.args.plan.now before (record { input = g.S.Source.left c.args.input.now; out = g.K.Sink.taken c.args.out.now }) c.args.reader.now c.read.new.self (g.S.Source.left c.read.new.source)
    c.in_default.ensures.kept s

pub returns-in-Ok-push_told-clause-waiting : goal.returns-in-Ok-push_told-clause-waiting
returns-in-Ok-push_told-clause-waiting g c =
    (pushed_ok (c.add_read-added.new.reader.waiting ≡ []) (g.K.Sink.taken c.args.out.now) (g.K.Sink.taken c.push_told.new.out) c.add_read-added.new.text.items c.add_read-added.new.reader.number c.add_read-added.result c.add_read-added.ensures.waiting
    (rw (c.in-Ok-push_told.is, c.number.ensures) at c.push_told.ensures.pushes)).0

pub returns-in-Ok-push_told-clause-after : goal.returns-in-Ok-push_told-clause-after
returns-in-Ok-push_told-clause-after g c = λ before s.
    let plan = c.args.plan.now in
    let goes = (pushed read : List ℕ) → Reads read c.read.new.self (HasSaid plan pushed c.args.text.now.items) → Reads read c.add_read-added.new.reader (HasSaid plan pushed c.add_read-added.new.text.items) in
    let p = pushed_ok goes (g.K.Sink.taken c.args.out.now) (g.K.Sink.taken c.push_told.new.out) c.add_read-added.new.text.items c.add_read-added.new.reader.number c.add_read-added.result c.add_read-added.ensures.goes (rw (c.in-Ok-push_told.is, c.number.ensures) at c.push_told.ensures.pushes) in
    round_goes plan before (record { input = g.S.Source.left c.args.input.now; out = g.K.Sink.taken c.args.out.now }) c.args.reader.now c.read.new.self c.add_read-added.new.reader
    (g.S.Source.left c.read.new.source) (g.K.Sink.taken c.push_told.new.out) c.args.text.now.items c.add_read-added.new.text.items (nat_lt 0 c.in-Ok.count) c.requires.empty c.in-Ok.ensures.bytes c.in-Ok.ensures.given
    (λ e. c.in-Ok.ensures.end (none_read c.in-Ok.count e)) p.0 p.1 s

pub returns-in-Err-clause-after : goal.returns-in-Err-clause-after
returns-in-Err-clause-after g c = λ before s.
    round_ends c.args.plan.now before (record { input = g.S.Source.left c.args.input.now; out = g.K.Sink.taken c.args.out.now }) c.args.reader.now c.read.new.self c.add_read-added.new.reader
    (g.S.Source.left c.read.new.source) (g.K.Sink.taken c.push_told.new.out) c.args.text.now.items c.add_read-added.new.text.items c.add_read-added.result c.in-Err.end c.requires.empty c.in-Ok.ensures.bytes
    c.in-Ok.ensures.given c.add_read-added.ensures.goes c.add_read-added.ensures.stops (rw (c.in-Err.is, c.number.ensures) at c.push_told.ensures.pushes) s
