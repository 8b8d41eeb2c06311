use Rattle.std.proofs.Common.{◌≤◌, length, ◌∙◌, arith}
use Rattle.jr_dated.specs.Dated.{stamped}
use Rattle.conn_out.proofs.Places.{read_told, same_on}
use Rattle.conn_out.proofs.Telling.{reached_next, front_next, reached_front, reached_all, reached_some, on_ok, on_err, on_any_err}
use Rattle.conn_out.proofs.behind.tell_from.Goals as goal

pub returns-in-Err-clause-err : goal.returns-in-Err-clause-err
returns-in-Err-clause-err g c = λ h told st.
    reached_front h c.args.from c.loop-at.at (g.K.Sink.taken c.args.out.now) (g.K.Sink.taken c.loop-at.out) c.loop-at.lines.items
    (c.loop-at.invariant.reached h told st)

pub returns-in_err-tell_record-clause-err : goal.returns-in_err-tell_record-clause-err
returns-in_err-tell_record-clause-err g c = on_any_err c.from_residual-in_err-tell_record.result (λ h told st.
    front_next h c.args.from c.loop-at.at (g.K.Sink.taken c.args.out.now) (g.K.Sink.taken c.loop-at.out)
    (g.K.Sink.taken c.tell_record.new.out) c.loop-at.lines.items c.in-Ok.r
    (read_told g.J.Journal.stands c.loop-at.journal h c.loop-at.at (stamped c.in-Ok._moment c.in-Ok.r)
    (λ k is_k. g.met.J.Journal.one c.loop-at.journal k h (c.loop-at.invariant.is_told told) c.loop-at.invariant.sound is_k
    ((c.loop-at.invariant.unchanged.records h).0 st)) c.in-Ok.ensures.found)
    (λ seen written. c.in_err-tell_record.ensures.err (g.K.Sink.taken c.args.out.now) seen written) (c.loop-at.invariant.reached h told st))

pub loop-at-preserved : goal.loop-at-preserved
loop-at-preserved g c = record {
  sound = c.in-Ok.ensures.breaks;
  is_told = λ told. c.in-Ok.ensures.told (c.loop-at.invariant.is_told told);
  unchanged = same_on g.J.Journal.stands g.J.Journal.leaves c.args.journal.now c.loop-at.journal c.read.new.self
      c.loop-at.invariant.unchanged c.in-Ok.ensures.unchanged;
  count = c.in-Ok.ensures.sizes.0 ∙ c.loop-at.invariant.count;
  size = c.in-Ok.ensures.sizes.1 ∙ c.loop-at.invariant.size;
  moment = c.in-Ok.ensures.moment ∙ c.loop-at.invariant.moment;
  limits = c.in-Ok.ensures.limits ∙ c.loop-at.invariant.limits;
  reached = λ h told st.
      reached_next h c.args.from c.loop-at.at (g.K.Sink.taken c.args.out.now) (g.K.Sink.taken c.loop-at.out)
      (g.K.Sink.taken c.tell_record.new.out) c.loop-at.lines.items c.tell_record.new.lines.items c.in-Ok.r
      (read_told g.J.Journal.stands c.loop-at.journal h c.loop-at.at (stamped c.in-Ok._moment c.in-Ok.r)
      (λ k is_k. g.met.J.Journal.one c.loop-at.journal k h (c.loop-at.invariant.is_told told) c.loop-at.invariant.sound is_k
      ((c.loop-at.invariant.unchanged.records h).0 st)) c.in-Ok.ensures.found)
      (λ seen written. c.in_ok-tell_record.ensures.ok (g.K.Sink.taken c.args.out.now) seen written) (c.loop-at.invariant.reached h told st);
  counted = omega (arith, c.loop-at.invariant.counted, c.in-Ok.ensures.never_falls);
  out_counted = omega (arith, c.loop-at.invariant.out_counted, c.tell_record.ensures.counted);
}

pub returns-clause-ok : goal.returns-clause-ok
returns-clause-ok g c = on_ok c.tell_held.result
    (λ a h told st.
    let counted = (g.met.J.Journal.counted c.loop-at.journal h ((c.loop-at.invariant.unchanged.records h).0 st)).0 in
    let past : length h ≤ c.loop-at.at = omega (arith, counted, c.loop-at.invariant.count, c.len-count.ensures.value, c.loop-at-test.false) in
    reached_all h c.args.from c.loop-at.at (g.K.Sink.taken c.args.out.now) (g.K.Sink.taken c.loop-at.out)
    (g.K.Sink.taken c.tell_held.new.out) c.loop-at.lines.items past a (c.loop-at.invariant.reached h told st))
    c.tell_held.ensures.ok

pub returns-clause-err : goal.returns-clause-err
returns-clause-err g c = on_err c.tell_held.result
    (λ a h told st.
    let counted = (g.met.J.Journal.counted c.loop-at.journal h ((c.loop-at.invariant.unchanged.records h).0 st)).0 in
    let past : length h ≤ c.loop-at.at = omega (arith, counted, c.loop-at.invariant.count, c.len-count.ensures.value, c.loop-at-test.false) in
    reached_some h c.args.from c.loop-at.at (g.K.Sink.taken c.args.out.now) (g.K.Sink.taken c.loop-at.out)
    (g.K.Sink.taken c.tell_held.new.out) c.loop-at.lines.items past a (c.loop-at.invariant.reached h told st))
    c.tell_held.ensures.err
