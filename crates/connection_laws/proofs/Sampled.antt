-- The sample of a connection, computed.
use Rattle.std.proofs.Common.{refl, arith}
use Rattle.connection_laws.specs.Samples.{CourseSample}

pub course_sample : CourseSample
course_sample = (
  refl,
  refl,
  refl,
  refl,
  (
    record { may_call = (refl, refl); comes = record { begun = refl; going = refl; done = refl } },
    (
      record { may_call = tt; comes = refl },
      (
        record {
          may_call = (refl, omega arith);
          comes = record {
            is_open = record { begun = refl; going = refl; done = refl };
            established = refl;
            flow = refl;
            free = refl;
            entries = (record { from_one = omega arith; found = refl }, tt);
          };
        },
        (
          record { may_call = (refl, refl); comes = record { begun = refl; going = refl; done = refl } },
          (
            record { may_call = tt; comes = refl },
            (
              record { may_call = (refl, refl); comes = record { begun = refl; going = refl; done = refl } },
              (
                record {
                  may_call = refl;
                  comes = record {
                    is_open = record { begun = refl; going = refl; done = refl };
                    range = record { from = 2; count = 1 };
                    serves = refl;
                    within = omega arith;
                    entries = (record { from_one = omega arith; found = refl }, tt);
                  };
                },
                (record { may_call = (refl, refl); comes = tt }, tt),
              ),
            ),
          ),
        ),
      ),
    ),
  ),
)
