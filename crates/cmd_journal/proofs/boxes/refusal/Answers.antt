use Rattle.std.proofs.Common.{refl}
use Rattle.cmd_journal.proofs.boxes.refusal.Goals as goal

pub unformatted-status-requires : goal.unformatted-status-requires
unformatted-status-requires g c = record { none = rw c.in-NotFormatted.is at c.requires.refused }

pub returns-in-Damaged-clause-refused : goal.returns-in-Damaged-clause-refused
returns-in-Damaged-clause-refused g c = (refl, rw c.in-Damaged.is at c.requires.refused)
