use Rattle.jr_summed.proofs.Changes.{short_changes}
use Rattle.jr_summed.proofs.laws.short_changes_show.Goals as goal

pub returns : goal.returns
returns c = record { law = short_changes }
