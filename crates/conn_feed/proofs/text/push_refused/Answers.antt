use Rattle.std.proofs.Common.{◌++◌, ap, ◌∙◌, arith}
use Rattle.conn_accepted.specs.Lines.{refused_line}
use Rattle.conn_feed.proofs.Texts.{refused_more}
use Rattle.conn_feed.proofs.text.push_refused.Goals as goal

pub loop-done-preserved : goal.loop-done-preserved
loop-done-preserved c =
    let a = c.args in
    record {
      text = refused_more a.text.now.items c.loop-done.text.items c.push_refused_line.new.lines.items a.senders a.line a.why c.loop-done.done c.loop-done.invariant.text
          (c.in_ok-push_refused_line.ensures.added ∙ ap (λ k. c.loop-done.text.items ++ refused_line a.senders k a.why) c.saturating_add.ensures);
      within = omega (arith, c.loop-done-test.true);
    }
