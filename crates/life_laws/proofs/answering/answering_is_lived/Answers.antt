use Rattle.life_laws.proofs.BusinessBoxes.{business_boxes}
use Rattle.life_laws.proofs.answering.answering_is_lived.Goals as goal

pub returns : goal.returns
returns g c = record {
  law = λ old new before behind config result gate passes in_sound held used goes limits s outbox closed o sound k few.
      business_boxes _ gate passes config _ _ result in_sound held used goes limits s outbox closed o sound k few;
}
