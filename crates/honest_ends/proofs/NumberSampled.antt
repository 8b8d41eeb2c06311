-- The samples, computed.
use Rattle.std.proofs.Common.{refl, arith}
use Rattle.honest_ends.specs.NumberSamples.{NumbersSample}

pub numbers_sample : NumbersSample
numbers_sample = (
  ((omega arith, tt), (tt, (tt, (refl, refl)))),
  (tt, ((tt, refl), (omega arith, ((refl, refl), (refl, refl))))),
  (omega arith, (refl, refl)),
  ((omega arith, tt), (refl, refl)),
  ((refl, tt), (refl, refl)),
  λ r. let e = r.0.0 in omega (arith, e),
  (tt, ((tt, tt), (omega arith, refl))),
  ((omega arith, tt), (tt, (refl, refl))),
  (tt, (refl, refl)),
  λ r. let e = r.0.1 in omega (arith, e),
)
