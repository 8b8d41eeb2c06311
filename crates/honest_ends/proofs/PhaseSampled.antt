-- The sample of two ends, computed.
use Rattle.std.proofs.Common.{refl, arith, []}
use Rattle.honest_ends.specs.Worlds.{Starts, AllMayStep, world_after}
use Rattle.honest_ends.specs.PhaseSamples.{outbox, beginning, lost, again_sent, begun_anew, finished, after_loss, after_repair, versioned, newer_lost, SessionSample, VersionsSample}

starts : Starts beginning
starts = record {
  matches = record { initiates = refl; accepts = refl; session = refl; credentials = refl; outward = refl; homeward = refl; keepalive = (omega arith, omega arith) };
  initiator = refl;
  acceptor = refl;
  outward = refl;
  homeward = refl;
}

may_lose : AllMayStep outbox [] beginning lost
may_lose = (
  tt,
  (
    (record { begun = refl; going = refl; done = refl }, refl),
    (
      (record { begun = refl; going = refl; done = refl }, refl),
      (
        (
          tt,
          record {
            may_call = (refl, omega arith);
            comes = record {
              is_open = record { begun = refl; going = refl; done = refl };
              established = refl;
              flow = refl;
              free = refl;
              entries = (record { from_one = omega arith; found = refl }, tt);
            };
          },
        ),
        tt,
      ),
    ),
  ),
)

may_repair : AllMayStep outbox [] after_loss again_sent
may_repair = (
  tt,
  (
    (record { begun = refl; going = refl; done = refl }, refl),
    (
      (record { begun = refl; going = refl; done = refl }, refl),
      (
        (record { begun = refl; going = refl; done = refl }, refl),
        (
          (
            tt,
            record {
              may_call = refl;
              comes = record {
                is_open = record { begun = refl; going = refl; done = refl };
                range = record { from = 1; count = 1 };
                serves = refl;
                within = omega arith;
                entries = (record { from_one = omega arith; found = refl }, tt);
              };
            },
          ),
          (
            (record { begun = refl; going = refl; done = refl }, refl),
            ((record { begun = refl; going = refl; done = refl }, refl), ((record { begun = refl; going = refl; done = refl }, refl), tt)),
          ),
        ),
      ),
    ),
  ),
)

may_finish : AllMayStep outbox [] after_repair finished
may_finish = (
  (refl, record { may_call = (refl, refl); comes = tt }),
  (
    (record { begun = refl; going = refl; done = refl }, refl),
    (
      (record { begun = refl; going = refl; done = refl }, refl),
      (
        (refl, record { may_call = (refl, refl); comes = tt }),
        (
          (record { begun = refl; going = refl; done = refl }, refl),
          (
            (record { begun = refl; going = refl; done = refl }, refl),
            (
              (tt, record { may_call = (refl, refl); comes = tt }),
              ((record { begun = refl; going = refl; done = refl }, refl), ((record { begun = refl; going = refl; done = refl }, refl), tt)),
            ),
          ),
        ),
      ),
    ),
  ),
)

pub session_sample : SessionSample
session_sample = (starts, may_lose, may_repair, may_finish, refl, refl, refl)

newer_starts : Starts (versioned 1 1)
newer_starts = record {
  matches = record { initiates = refl; accepts = refl; session = refl; credentials = refl; outward = refl; homeward = refl; keepalive = (omega arith, omega arith) };
  initiator = refl;
  acceptor = refl;
  outward = refl;
  homeward = refl;
}

newer_loses : AllMayStep outbox [] (versioned 1 1) lost
newer_loses = (
  tt,
  (
    (record { begun = refl; going = refl; done = refl }, refl),
    (
      (record { begun = refl; going = refl; done = refl }, refl),
      (
        (
          tt,
          record {
            may_call = (refl, omega arith);
            comes = record {
              is_open = record { begun = refl; going = refl; done = refl };
              established = refl;
              flow = refl;
              free = refl;
              entries = (record { from_one = omega arith; found = refl }, tt);
            };
          },
        ),
        tt,
      ),
    ),
  ),
)

may_begin_anew : AllMayStep outbox [] newer_lost begun_anew
may_begin_anew = (
  tt,
  (
    (record { begun = refl; going = refl; done = refl }, refl),
    (
      (record { begun = refl; going = refl; done = refl }, refl),
      (
        (
          tt,
          record {
            may_call = (refl, omega arith);
            comes = record {
              is_open = record { begun = refl; going = refl; done = refl };
              established = refl;
              flow = refl;
              free = refl;
              entries = (record { from_one = omega arith; found = refl }, tt);
            };
          },
        ),
        ((record { begun = refl; going = refl; done = refl }, refl), ((record { begun = refl; going = refl; done = refl }, refl), tt)),
      ),
    ),
  ),
)

-- the steps of a repair by request
initiator_newer : AllMayStep outbox [] (world_after (versioned 1 0) lost) again_sent
initiator_newer = (
  tt,
  (
    (record { begun = refl; going = refl; done = refl }, refl),
    (
      (record { begun = refl; going = refl; done = refl }, refl),
      (
        (record { begun = refl; going = refl; done = refl }, refl),
        (
          (
            tt,
            record {
              may_call = refl;
              comes = record {
                is_open = record { begun = refl; going = refl; done = refl };
                range = record { from = 1; count = 1 };
                serves = refl;
                within = omega arith;
                entries = (record { from_one = omega arith; found = refl }, tt);
              };
            },
          ),
          (
            (record { begun = refl; going = refl; done = refl }, refl),
            ((record { begun = refl; going = refl; done = refl }, refl), ((record { begun = refl; going = refl; done = refl }, refl), tt)),
          ),
        ),
      ),
    ),
  ),
)

acceptor_newer : AllMayStep outbox [] (world_after (versioned 0 1) lost) again_sent
acceptor_newer = (
  tt,
  (
    (record { begun = refl; going = refl; done = refl }, refl),
    (
      (record { begun = refl; going = refl; done = refl }, refl),
      (
        (record { begun = refl; going = refl; done = refl }, refl),
        (
          (
            tt,
            record {
              may_call = refl;
              comes = record {
                is_open = record { begun = refl; going = refl; done = refl };
                range = record { from = 1; count = 1 };
                serves = refl;
                within = omega arith;
                entries = (record { from_one = omega arith; found = refl }, tt);
              };
            },
          ),
          (
            (record { begun = refl; going = refl; done = refl }, refl),
            ((record { begun = refl; going = refl; done = refl }, refl), ((record { begun = refl; going = refl; done = refl }, refl), tt)),
          ),
        ),
      ),
    ),
  ),
)

pub versions_sample : VersionsSample
versions_sample = (newer_starts, newer_loses, may_begin_anew, refl, refl, refl, refl, refl, initiator_newer, refl, acceptor_newer, refl)
