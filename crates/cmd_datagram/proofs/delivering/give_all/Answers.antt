use Rattle.std.proofs.Common.{◌≡◌, ◌∙◌, ◌<◌, ◌+◌, length, ap, subst, arith}
use Rattle.std.proofs.lemmas.Result.{on_ok_weaker, on_err_weaker}
use Rattle.std.specs.Io.KnownBytes.{Appends}
use Rattle.gw_outside.specs.Faults.{TakesFront}
use Rattle.fixp_datagram.specs.Receiving.{Receiver}
use Rattle.cmd_datagram.specs.Delivered.{Wrote}
use Rattle.cmd_datagram.proofs.Listed.{next_of, lines_so_far, lines_go_on, receiver_goes_on, front_of_all, all_came, below_count, found_is_packed, on_any_err}
use Rattle.cmd_datagram.proofs.Writing.{wrote_whole}
use Rattle.cmd_datagram.proofs.delivering.give_all.Goals as goal

pub bounds-as_slice-number : goal.bounds-as_slice-number
bounds-as_slice-number g c =
    let below : c.loop-number.number-index < length c.as_slice-number-items.result.now = omega arith in
    below_count c.args.script.now c.args.datagrams.now c.as_slice.result.now c.as_slice-number-items.result.now c.loop-number.number-index
    c.requires.legal c.loop-number.invariant.listed c.as_slice.ensures c.requires.packed below

pub give-requires : goal.give-requires
give-requires g c =
    let below : c.loop-number.number-index < length c.as_slice-number-items.result.now = omega arith in
    record {
      packed = (
        next_of c.args.script.now c.loop-number.number-index,
        found_is_packed c.args.script.now c.args.datagrams.now c.as_slice.result.now c.as_slice-number-items.result.now c.loop-number.number-index
            c.index-as_slice-number.result c.as_slice-in-loop-number.result.now
            c.requires.legal c.loop-number.invariant.listed c.as_slice.ensures c.requires.packed below c.index-as_slice-number.is c.as_slice-in-loop-number.ensures,
      );
    }

pub returns-in_err-give-clause-err : goal.returns-in_err-give-clause-err
returns-in_err-give-clause-err g c =
    let below : c.loop-number.number-index < length c.as_slice-number-items.result.now = omega arith in
    let listed : c.loop-number.number-index < length c.args.script.now.deliver = omega (arith, below, ap length c.loop-number.invariant.listed) in
    let is = found_is_packed c.args.script.now c.args.datagrams.now c.as_slice.result.now c.as_slice-number-items.result.now c.loop-number.number-index
    c.index-as_slice-number.result c.as_slice-in-loop-number.result.now
    c.requires.legal c.loop-number.invariant.listed c.as_slice.ensures c.requires.packed below c.index-as_slice-number.is c.as_slice-in-loop-number.ensures in
    let front = c.in_err-give.ensures.err (next_of c.args.script.now c.loop-number.number-index) is (g.K.Sink.taken c.args.out.now) (lines_so_far c.args.script.now c.loop-number.number-index) c.loop-number.invariant.wrote in
    on_any_err c.from_residual.result
    (front_of_all c.args.script.now (c.loop-number.number-index + 1) (g.K.Sink.taken c.args.out.now) (g.K.Sink.taken c.give.new.out)
    (subst (TakesFront (g.K.Sink.taken c.args.out.now) (g.K.Sink.taken c.give.new.out)) (lines_go_on c.args.script.now c.loop-number.number-index c.loop-number.receiver c.loop-number.invariant.receiver listed) front))

pub loop-number-preserved : goal.loop-number-preserved
loop-number-preserved g c =
    let below : c.loop-number.number-index < length c.as_slice-number-items.result.now = omega arith in
    let listed : c.loop-number.number-index < length c.args.script.now.deliver = omega (arith, below, ap length c.loop-number.invariant.listed) in
    let is = found_is_packed c.args.script.now c.args.datagrams.now c.as_slice.result.now c.as_slice-number-items.result.now c.loop-number.number-index
    c.index-as_slice-number.result c.as_slice-in-loop-number.result.now
    c.requires.legal c.loop-number.invariant.listed c.as_slice.ensures c.requires.packed below c.index-as_slice-number.is c.as_slice-in-loop-number.ensures in
    let more = c.in_ok-give.ensures.ok (next_of c.args.script.now c.loop-number.number-index) is (g.K.Sink.taken c.args.out.now) (lines_so_far c.args.script.now c.loop-number.number-index) c.loop-number.invariant.wrote in
    record {
      wrote =
          subst (λ text. Wrote (g.K.Sink.taken c.args.out.now) text (g.K.Sink.taken c.give.new.out) c.give.new.lines.items)
          (lines_go_on c.args.script.now c.loop-number.number-index c.loop-number.receiver c.loop-number.invariant.receiver listed) more;
      receiver =
          c.in_ok-give.ensures.after (next_of c.args.script.now c.loop-number.number-index) is
          ∙ receiver_goes_on c.args.script.now c.loop-number.number-index c.loop-number.receiver c.loop-number.invariant.receiver listed;
      listed = c.loop-number.invariant.listed;
      counted = omega (arith, c.loop-number.invariant.counted, c.in_ok-give.ensures.counted);
    }

pub returns-clause-ok : goal.returns-clause-ok
returns-clause-ok g c =
    let end : c.loop-number.number-index ≡ length c.as_slice-number-items.result.now = omega arith in
    let all = all_came c.args.script.now c.next.result c.loop-number.number-index (end ∙ ap length c.loop-number.invariant.listed)
    (c.next.ensures ∙ ap (λ (r : Receiver). r.next) c.loop-number.invariant.receiver) in
    on_ok_weaker c.give_next.result (λ more.
    subst (Appends (g.K.Sink.taken c.args.out.now) (g.K.Sink.taken c.give_next.new.out)) all
    (wrote_whole (g.K.Sink.taken c.args.out.now) _ (g.K.Sink.taken c.give_next.new.out) (more (g.K.Sink.taken c.args.out.now) (lines_so_far c.args.script.now c.loop-number.number-index) c.loop-number.invariant.wrote)))
    c.give_next.ensures.ok

pub returns-clause-err : goal.returns-clause-err
returns-clause-err g c =
    let end : c.loop-number.number-index ≡ length c.as_slice-number-items.result.now = omega arith in
    let all = all_came c.args.script.now c.next.result c.loop-number.number-index (end ∙ ap length c.loop-number.invariant.listed)
    (c.next.ensures ∙ ap (λ (r : Receiver). r.next) c.loop-number.invariant.receiver) in
    on_err_weaker c.give_next.result (λ front.
    subst (TakesFront (g.K.Sink.taken c.args.out.now) (g.K.Sink.taken c.give_next.new.out)) all
    (front (g.K.Sink.taken c.args.out.now) (lines_so_far c.args.script.now c.loop-number.number-index) c.loop-number.invariant.wrote))
    c.give_next.ensures.err
