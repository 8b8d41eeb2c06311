use Rattle.order_desk.proofs.Written.{report_may_be_written}
use Rattle.order_desk.proofs.laws.report_may_be_written.Goals as goal

pub returns : goal.returns
returns c = record { law = report_may_be_written }
