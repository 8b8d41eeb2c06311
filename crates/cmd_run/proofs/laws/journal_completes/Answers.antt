use Rattle.cmd_run.proofs.Journals.{journal_completes}
use Rattle.cmd_journal.specs.Prints.{journal_devices}
use Rattle.cmd_run.proofs.laws.journal_completes.Goals as goal

pub returns : goal.returns
returns g c = journal_completes (journal_devices g.K.Sink g.D.Disk)
