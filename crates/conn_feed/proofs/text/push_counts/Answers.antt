use Rattle.std.proofs.Common.{arith}
use Rattle.conn_feed.proofs.Counts.{one_more, all_told}
use Rattle.conn_feed.proofs.text.push_counts.Goals as goal

pub loop-place-preserved : goal.loop-place-preserved
loop-place-preserved g c =
    let at = c.loop-place.invariant in
    record {
      text = one_more c.args.text.now.items c.loop-place.text.items c.push_has_line.new.lines.items c.args.senders.now c.loop-place.place c.index-senders-place.result
          (omega (arith, c.loop-place-test.true)) at.text c.in_ok-push_has_line.ensures.added;
      within = omega (arith, c.loop-place-test.true);
    }

pub returns : goal.returns
returns g c = record {
  added = all_told c.args.text.now.items c.loop-place.text.items c.args.senders.now c.loop-place.place (omega (arith, c.loop-place-test.false)) c.loop-place.invariant.within c.loop-place.invariant.text;
}
