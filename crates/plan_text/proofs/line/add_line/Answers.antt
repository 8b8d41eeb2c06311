use Rattle.plan_text.specs.Plans.{Gift}
use Rattle.plan_text.proofs.Adding.{added_at}
use Rattle.plan_text.proofs.line.add_line.Goals as goal

pub returns-clause-added : goal.returns-clause-added
returns-clause-added c is =
    let g : Gift = record { sender = c.in-Some.sender; payload = c.in-Some-2.bytes } in
    let grown = c.in_ok-is_added.ensures.added is in (
      g,
      record {
        least = c.in-Some.ensures.range.0;
        most = c.in-Some.ensures.range.1;
        digits = c.in-Some.digits.now;
        written = c.in-Some.ensures.found;
        spelled = rw c.in-Some-2.is at c.in_ok-bytes.ensures.found;
        application = grown.1;
      },
      added_at c.in-Some.sender c.in-Some-2.bytes c.args.plans.now c.add.new.self c.index-plans-sender.result c.in-Some.ensures.range.0 c.in-Some.ensures.range.1 grown.0,
    )
