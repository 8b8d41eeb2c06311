-- A pair over several calls, the last of which may give it up.
use Rattle.std.proofs.Common.{Result, Ok, Err}
use Rattle.std.specs.Prelude.{IfOk}
use Rattle.gw_rehearse.specs.Together.{PairNow, StaysSound}
use Rattle.gw_rehearse.proofs.Together.{stays_on}

pub stays_if : {E : Type 0} (p q : PairNow) (r : Result PairNow E) → StaysSound p q → IfOk r (StaysSound q) → IfOk r (StaysSound p)
stays_if p q (Ok x) s t = stays_on p q x s t
stays_if p q (Err e) s t = tt
