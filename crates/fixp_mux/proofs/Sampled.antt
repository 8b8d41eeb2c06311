-- The worked rows are computed.
use Rattle.std.proofs.Common.{refl}
use Rattle.sofh_frame.specs.Framing.{header_of}
use Rattle.fixp_mux.specs.Context.{says}
use Rattle.fixp_mux.specs.Samples.{ContextRow, OneSessionRow, TwoSessionsRow, SaysRow, WithContextRow}

pub context_row : ContextRow
unfolding header_of
context_row = refl

pub one_session_row : OneSessionRow
unfolding header_of says
one_session_row = (refl, refl, refl)

pub two_sessions_row : TwoSessionsRow
unfolding says
two_sessions_row = (refl, refl, refl)

pub says_row : SaysRow
unfolding says
says_row = (refl, refl, refl, refl, refl, refl)

pub with_context_row : WithContextRow
with_context_row = (refl, refl, refl)
