-- The sample of two ends at rest, computed.
use Rattle.std.proofs.Common.{refl}
use Rattle.honest_ends.specs.RestSamples.{RestSample}

pub rest_sample : RestSample
rest_sample = (
  λ _. tt,
  λ _. tt,
  record {
    initiator = record { going = refl; established = refl; unasked = refl; sent = refl };
    acceptor = record { going = refl; established = refl; unasked = refl; sent = refl };
    outward = refl;
    homeward = refl;
  },
  record { initiator = refl; acceptor = refl },
)
