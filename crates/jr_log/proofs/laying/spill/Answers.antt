use Rattle.std.proofs.Common.{◌≡◌, ◌++◌, List, ℕ, length, ap, ◌∙◌, arith, append-nil, length-append}
use Rattle.jr_log.proofs.laying.spill.Goals as goal

pub returns-clause-spills : goal.returns-clause-spills
returns-clause-spills g c = λ done place laid.
    let s = c.as_slice.result.now in
    record {
      done' = done ++ s;
      place = omega (arith, place, length-append done s, c.len-2.ensures, ap length c.as_slice.ensures);
      laid = c.in_ok-write_on.ensures.laid done place laid;
      same = ap (λ (xs : List ℕ). (done ++ s) ++ xs) c.emptied.ensures.none ∙ append-nil (done ++ s) ∙ ap (λ (xs : List ℕ). done ++ xs) c.as_slice.ensures;
    }
