use Rattle.fixp_msgs.specs.declared.flow.Flow.TheVariants as flows
use Rattle.jr_boxes.proofs.Kept.{nothing_noted}
use Rattle.jr_judge.proofs.counted.Counted.new.Goals as goal

pub returns-in-Inbox-clause-none : goal.returns-in-Inbox-clause-none
returns-in-Inbox-clause-none c = rw c.in-Inbox.is (nothing_noted flows.Idempotent c.new-in-Inbox.result c.new-in-Inbox.ensures.notices)
