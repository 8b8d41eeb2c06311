use Rattle.std.proofs.Common.{sym, ap, ◌∙◌}
use Rattle.fixp_msgs.specs.Numbering.{payload_of}
use Rattle.fixp_replies.specs.Incoming.{incoming_of}
use Rattle.fixp_replies.specs.Facts.{around_of}
use Rattle.fixp_replies.specs.Replies.{answer_of}
use Rattle.fixp_replies.proofs.replies.answer.Goals as goal

pub returns-in-Application-clause-reply : goal.returns-in-Application-clause-reply
returns-in-Application-clause-reply c =
    c.on_application.ensures.reply (payload_of (record { order = c.in-Application.order; message = c.in-Application.message.now }))
    ∙ ap (λ i. answer_of (around_of c.args.around.now) c.args.facts.now (incoming_of i)) (sym c.in-Application.is)
