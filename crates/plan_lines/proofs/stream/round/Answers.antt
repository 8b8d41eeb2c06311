use Rattle.std.proofs.Common.{◌≡◌, ℕ, [], List, refl}
use Rattle.std.specs.Prelude.{nat_lt}
use Rattle.plan_lines.specs.Progress.{Reads, Stands, Streams}
use Rattle.plan_lines.proofs.Rounds.{unread, round_goes, round_ends, pushed_ok, none_read}
use Rattle.plan_lines.proofs.stream.round.Goals as goal

pub returns-in_default-clause-after : goal.returns-in_default-clause-after
returns-in_default-clause-after g c = λ before s.
    unread c.args.plan.now before (record { input = g.S.Source.left c.args.input.now; out = g.K.Sink.taken c.args.out.now }) c.args.reader.now c.read.new.self c.args.place.now c.args.place.now
    (g.S.Source.left c.read.new.source) c.requires.empty c.in_default.ensures.kept s

pub returns-in-Ok-push_taken-clause-waiting : goal.returns-in-Ok-push_taken-clause-waiting
returns-in-Ok-push_taken-clause-waiting g c =
    (pushed_ok (c.take_read-taken.new.reader.waiting ≡ []) (g.K.Sink.taken c.args.out.now) (g.K.Sink.taken c.push_taken.new.out) c.take_read-taken.new.place.lines.items c.take_read-taken.result
    c.take_read-taken.ensures.waiting (rw c.in-Ok-push_taken.is at c.push_taken.ensures.pushes)).0

pub returns-in-Ok-push_taken-clause-after : goal.returns-in-Ok-push_taken-clause-after
returns-in-Ok-push_taken-clause-after g c = λ before s.
    let plan = c.args.plan.now in
    let q = c.take_read-taken.new.place in
    let goes = (pushed read : List ℕ) → Reads read c.read.new.self (Stands plan pushed c.args.place.now) → Reads read c.take_read-taken.new.reader (Stands plan pushed q) in
    let p = pushed_ok goes (g.K.Sink.taken c.args.out.now) (g.K.Sink.taken c.push_taken.new.out) q.lines.items c.take_read-taken.result c.take_read-taken.ensures.goes
    (rw c.in-Ok-push_taken.is at c.push_taken.ensures.pushes) in
    round_goes plan before (record { input = g.S.Source.left c.args.input.now; out = g.K.Sink.taken c.args.out.now }) c.args.reader.now c.read.new.self c.take_read-taken.new.reader c.args.place.now q
    (record q { lines = c.push_taken.new.lines }) (g.S.Source.left c.read.new.source) (g.K.Sink.taken c.push_taken.new.out) (nat_lt 0 c.in-Ok.count) c.in-Ok.ensures.bytes c.in-Ok.ensures.given
    (λ e. c.in-Ok.ensures.end (none_read c.in-Ok.count e)) p.0 p.1 refl c.in-Ok-push_taken.ensures.emptied s

pub returns-in-Err-clause-after : goal.returns-in-Err-clause-after
returns-in-Err-clause-after g c = λ before s.
    let q = c.take_read-taken.new.place in
    round_ends c.args.plan.now before (record { input = g.S.Source.left c.args.input.now; out = g.K.Sink.taken c.args.out.now }) c.args.reader.now c.read.new.self c.take_read-taken.new.reader
    c.args.place.now q (record q { lines = c.push_taken.new.lines }) (g.S.Source.left c.read.new.source) (g.K.Sink.taken c.push_taken.new.out) c.take_read-taken.result c.in-Err.end c.requires.empty
    c.take_read-taken.ensures.form c.in-Ok.ensures.bytes c.in-Ok.ensures.given c.take_read-taken.ensures.goes c.take_read-taken.ensures.stops (rw c.in-Err.is at c.push_taken.ensures.pushes) s
