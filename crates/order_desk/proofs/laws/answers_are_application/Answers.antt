use Rattle.order_desk.proofs.Written.{answers_are_application}
use Rattle.order_desk.proofs.laws.answers_are_application.Goals as goal

pub returns : goal.returns
returns c = record { law = answers_are_application }
