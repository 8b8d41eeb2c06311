use Rattle.std.proofs.Common.{◌∙◌, sym}
use Rattle.sofh_frame.specs.Framing.{frame}
use Rattle.conn_keys.proofs.Standing.{short_verdict}
use Rattle.conn_keys.proofs.judging.judge.Goals as goal

pub returns-in-Frame : goal.returns-in-Frame
returns-in-Frame c =
    record {
      exact = c.on_frame.ensures c.in-Frame.size
          ∙ sym (short_verdict c.args.keys.now c.args.front.now (frame c.in-Frame.order c.in-Frame.message.now c.in-Frame.size) (sym c.is_too_long.ensures ∙ c.if-is_too_long.false)
          (sym c.in-Frame.ensures.exact));
    }
