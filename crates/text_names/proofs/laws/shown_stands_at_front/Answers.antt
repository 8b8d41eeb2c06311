use Rattle.text_names.proofs.AtFront.{shown_at_front}
use Rattle.text_names.proofs.laws.shown_stands_at_front.Goals as goal

pub returns : goal.returns
returns c = record { law = shown_at_front }
