-- Where no Sequence is found, none is spelled.
use Rattle.std.proofs.Common.{sym, subst}
use Rattle.sofh_frame.specs.Framing.{First}
use Rattle.sofh_frame.specs.Splits.{IsNoFrame}
use Rattle.fixp_datagram.proofs.Reading.{no_sequence, other_message, not_frame}
use Rattle.fixp_datagram.proofs.datagram.any_sequence.Goals as goal

pub returns-in_default : goal.returns-in_default
returns-in_default c =
    let P : First → Type 0 = IsNoFrame in
    record { found = tt; none = no_sequence c.args.bytes.now (subst P c.next.ensures.exact (not_frame c.next.result c.in_default.not-Frame)) }

pub returns-in_default-sequence_number-clause-none : goal.returns-in_default-sequence_number-clause-none
returns-in_default-sequence_number-clause-none c =
    other_message c.args.bytes.now c.in-Frame.order c.in-Frame.message.now c.in-Frame.size (sym c.in-Frame.ensures.exact)
    c.in_default-sequence_number.ensures.none
