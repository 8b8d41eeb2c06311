-- The worked rows are computed.
use Rattle.std.proofs.Common.{refl}
use Rattle.sofh_frame.specs.Framing.{header_of}
use Rattle.fixp_datagram.specs.Samples.{RecoverableRow, IdempotentRow, RestartedRow, EdgesRow, PackedRow}

pub recoverable_row : RecoverableRow
recoverable_row = (refl, refl)

pub idempotent_row : IdempotentRow
idempotent_row = (refl, refl)

pub restarted_row : RestartedRow
restarted_row = (refl, refl)

pub edges_row : EdgesRow
edges_row = (refl, refl, refl, refl, refl, refl, refl, refl, refl, refl, refl, refl)

pub packed_row : PackedRow
unfolding header_of
packed_row = refl
