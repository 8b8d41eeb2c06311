-- Identifiers that stand once.
use Rattle.std.proofs.Common.{◌≡◌, ◌<◌, ⊎_elim}
use Rattle.std.proofs.lemmas.Bool.{cases_order}
use Rattle.routes.specs.Identifiers.{StandsOnce, FirstIsOne}

pub stands_once : StandsOnce
stands_once ids id p q once at_p at_q =
    ⊎_elim (λ (e : p ≡ q). e) (⊎_elim
    (λ (lt : p < q). absurd (once q (record { id = id; earlier = p; before = lt; here = at_q; there = at_p })))
    (λ (lt : q < p). absurd (once p (record { id = id; earlier = q; before = lt; here = at_p; there = at_q }))))
    (cases_order p q)

pub first_is_one : FirstIsOne
first_is_one ids p q one other =
    ⊎_elim (λ (e : p ≡ q). e) (⊎_elim
    (λ (lt : p < q). absurd (other.least p lt one.repeated))
    (λ (lt : q < p). absurd (one.least q lt other.repeated)))
    (cases_order p q)
