-- What the answer of an append says of its journal.
use Rattle.std.proofs.Common.{◌≡◌, ◌⊎◌, Bool, true, false, Result, Ok, Err, inl, inr, sym, ap, ◌∙◌}
use Rattle.std.proofs.lemmas.Bool.{false≢true, cases_Bool}
use Rattle.jr_record.specs.declared.faults.AppendFault.{AppendFault}
use Rattle.jr_record.specs.declared.faults.AppendFault.TheVariants as append
use Rattle.jr_record.specs.Appending.{OnRefused, is_broken_after}

-- what was refused before it was written changes nothing; else the journal is broken
pub on_refused : (T : Type 0) {P : Type 0} (fault : AppendFault) → OnRefused {T = T} (Err fault) P → (broken : Bool) → broken ≡ is_broken_after {T = T} (Err fault) → broken ≡ false → P
on_refused T append.Broken p broken is sound = p
on_refused T (append.Full _) p broken is sound = p
on_refused T append.Memory p broken is sound = p
on_refused T append.Fault p broken is sound = absurd (false≢true (sym sound ∙ is))

-- answers of an append
abbrev pub refusal : AppendFault → Result (Unit {0}) AppendFault
refusal fault = Err fault

abbrev pub success : Unit {0} → Result (Unit {0}) AppendFault
success done = Ok done

-- a journal that is sound behind an append was so before it
pub append_sound : (T : Type 0) (old new : Bool) (result : Result T AppendFault) → (old ≡ true → result ≡ Err append.Broken) → new ≡ is_broken_after result → new ≡ false → old ≡ false
append_sound T old new result broken is sound = by_old (cases_Bool old)
  where
    by_old : (old ≡ true) ⊎ (old ≡ false) → old ≡ false
    by_old (inl was) = absurd (false≢true (sym sound ∙ is ∙ ap (λ (r : Result T AppendFault). is_broken_after r) (broken was)))
    by_old (inr was) = was
