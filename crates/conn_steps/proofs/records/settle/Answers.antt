use Rattle.conn_turns.specs.News.{items_of}
use Rattle.conn_steps.specs.Gathered.{payloads_in}
use Rattle.conn_steps.proofs.Batches.{done_apply}
use Rattle.conn_steps.proofs.records.settle.Goals as goal

pub returns-in_default-clause-ok : goal.returns-in_default-clause-ok
returns-in_default-clause-ok g c =
    done_apply c.args.inbox.now (items_of c.args.news.now) (payloads_in c.args.gathered.now) (payloads_in c.gather.new.self) c.args.act c.in-Apply.number c.args.order c.args.message.now c.in-Apply.is c.requires.takes
    c.in_default.ensures.ok
