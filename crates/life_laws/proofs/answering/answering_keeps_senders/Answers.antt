use Rattle.life_laws.proofs.BusinessPasses.{know_answered, know_whole}
use Rattle.life_laws.proofs.answering.answering_keeps_senders.Goals as goal

pub returns : goal.returns
returns g c = record {
  law = λ old new before behind m result opening now known inbox tells holds used s closed.
      know_whole opening now _ _ known inbox _ (know_answered _ _ opening known used inbox _ tells holds _ _ s.business) closed;
}
