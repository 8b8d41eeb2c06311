use Rattle.std.proofs.Common.{arith}
use Rattle.crc32c.proofs.Tables.{table_entry}
use Rattle.crc32c.proofs.table.steps_on.Goals as goal

pub returns : goal.returns
returns c = record { value = table_entry c.args.behind c.args.byte c.requires.within (omega arith) }
