use Rattle.session_model.proofs.Growing.{entry_decided}
use Rattle.session_model.proofs.written.is_entry.Goals as goal

-- the slices are compared by their bytes
pub returns : goal.returns
returns c =
    record { exact = entry_decided c.args.journal.now c.args.number _ c.args.payload.now c.eq.result c.if-number-lt1.false c.if-number-journal.false c.eq.ensures }
