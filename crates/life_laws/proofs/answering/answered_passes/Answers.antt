use Rattle.life_laws.proofs.BusinessPasses.{know_answered}
use Rattle.life_laws.proofs.answering.answered_passes.Goals as goal

pub returns : goal.returns
returns g c = record {
  law = λ old new before behind m result opening known inbox tells holds used s. know_answered _ _ opening known used inbox _ tells holds _ _ s.business;
}
