-- The samples, computed.
use Rattle.std.proofs.Common.{refl, arith}
use Rattle.drain_laws.specs.Samples.{LoadSample, GapSample}
use Rattle.drain_laws.specs.Rows.{InitiatorCounted, ReaderCounted, FallsCounted, NegotiationCounted}

pub load_sample : LoadSample
load_sample = (refl, refl, refl, refl, refl, refl, refl, refl, refl, refl, refl)

pub gap_sample : GapSample
gap_sample = (refl, refl, refl, refl, refl, refl, refl, refl)

pub initiator_counted : InitiatorCounted
initiator_counted = (refl, refl, refl, refl, refl, refl, refl, refl, refl, refl)

pub reader_counted : ReaderCounted
reader_counted = (refl, refl, (refl, omega arith), refl, refl, (refl, omega arith), (refl, omega arith), refl, refl, refl)

pub falls_counted : FallsCounted
falls_counted = (refl, refl, refl, refl, (refl, refl), (λ h. absurd (omega (arith, h.0))), refl, refl)

pub negotiation_counted : NegotiationCounted
negotiation_counted = ((refl, refl, refl, (omega arith, omega arith), refl), (tt, tt), λ h. h.0)
