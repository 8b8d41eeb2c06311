use Rattle.crc32c.proofs.Bursts.{short_changes}
use Rattle.crc32c.proofs.laws.short_changes_show.Goals as goal

pub returns : goal.returns
returns c = record { law = short_changes }
