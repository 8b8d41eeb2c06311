-- The samples of inboxes that go on, computed.
use Rattle.std.proofs.Common.{[], ◌∷◌, refl, arith}
use Rattle.session_model.specs.Inbox.{skip}
use Rattle.session_model.proofs.Lists.{times-append}
use Rattle.two_ends.specs.GoingOnSamples.{message_of, GoingOnSample}

pub going_on_sample : GoingOnSample
going_on_sample = (
  record { added = message_of 2 20 ∷ []; behind = refl; counted = refl; entries = (record { from_one = omega arith; found = refl }, tt); whole = refl },
  record {
    added = skip (record { first = 2; count = 1 }) ∷ message_of 3 30 ∷ [];
    behind = refl;
    grows = omega arith;
    once = λ n. omega (arith, times-append n (3 ∷ []) (2 ∷ []), times-append n (2 ∷ []) (3 ∷ []));
    entries = (record { from_one = omega arith; found = refl }, tt);
    within = omega arith;
  },
  record { added = message_of 2 30 ∷ []; behind = refl; rising = (3, omega arith, record { from_one = omega arith; found = refl }, tt); counted = refl; whole = refl },
)
