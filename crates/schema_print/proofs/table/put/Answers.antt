use Rattle.schema_print.proofs.Puts.{entries_put}
use Rattle.schema_print.proofs.table.put.Goals as goal

pub returns-in-Ok : goal.returns-in-Ok
returns-in-Ok c =
    rw c.in-Ok.ensures.entries (entries_put c.in_ok-from_str.field-0 c.args.key.now c.args.value c.args.table.entries c.in_ok-from_str.ensures.ok)
