use Rattle.sofh_frame.proofs.FramingLemmas.{IsBytes-slice}
use Rattle.conn_loop.proofs.receiving.receive_into.Goals as goal

pub returns-clause-bytes : goal.returns-clause-bytes
returns-clause-bytes g c = IsBytes-slice _ c.type_inv.into
