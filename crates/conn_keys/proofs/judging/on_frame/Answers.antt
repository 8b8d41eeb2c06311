use Rattle.std.proofs.Common.{◌∙◌, sym}
use Rattle.fixp_replies.specs.Incoming.{incoming_of}
use Rattle.conn_keys.proofs.Classes.{classified}
use Rattle.conn_keys.proofs.judging.on_frame.Goals as goal

pub returns : goal.returns
returns c = λ size. c.on_incoming.ensures ∙ sym (classified c.args.keys.now c.args.order c.args.message.now (incoming_of c.classify.result) c.classify.ensures)
