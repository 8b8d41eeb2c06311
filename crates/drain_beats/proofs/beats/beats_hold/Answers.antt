use Rattle.drain_beats.proofs.Holding.{beats_hold}
use Rattle.drain_beats.proofs.beats.beats_hold.Goals as goal

pub returns : goal.returns
returns c = record { law = beats_hold }
