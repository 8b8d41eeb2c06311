use Rattle.life_laws.proofs.BusinessPasses.{know_answered, know_keeps}
use Rattle.life_laws.proofs.answering.answering_keeps_outbox.Goals as goal

pub returns : goal.returns
returns g c = record {
  law = λ old new before behind m result opening now known inbox life tells holds used s goes closed order is.
      know_keeps opening now _ _ known inbox _ life (know_answered _ _ opening known used inbox _ tells holds _ _ s.business) goes closed order is;
}
