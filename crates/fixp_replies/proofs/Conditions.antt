-- Rows behind a condition, and behind the session of their message.
use Rattle.std.proofs.Common.{◌≡◌, ℕ, Bool, true, false, not, if◌then◌else◌, List, [], ◌∷◌, Some, None, unwrap_or, refl, sym, ap}
use Rattle.fixp_shake.specs.declared.violation.Violation.{Violation}
use Rattle.fixp_shake.specs.declared.violation.Violation.TheVariants.{OtherSession, NotInPhase}
use Rattle.fixp_replies.specs.declared.facts.Facts.{Facts}
use Rattle.fixp_replies.specs.Facts.{Around, is_own}
use Rattle.fixp_replies.specs.Outcomes.{Outcome, Row, row, first_row, within, breaks, not_in_phase}
use Rattle.fixp_replies.specs.Replies.{misplaced, of_session}

pub within_holds : (b : Bool) (o : Outcome) (rows : List Row) → b ≡ true → first_row o rows ≡ first_row o (within b rows)
within_holds true o rows e = refl
within_holds false o rows e = absurd cc

some_is : (v w : Violation) → Some v ≡ Some w → v ≡ w
some_is v w e = ap (λ o. unwrap_or o v) e

looked_at : (own awaited : Bool) (x : Around) (f : Facts) (t : ℕ) (v : Violation) (rows : List Row)
    → (if not own then Some (OtherSession t) else if not awaited then Some (NotInPhase t f.connection.phase) else None) ≡ Some v
    → breaks x f v ≡ first_row (not_in_phase x f t) (row (not own) (breaks x f (OtherSession t)) ∷ within awaited rows)
looked_at false awaited x f t v rows e = ap (λ w. breaks x f w) (sym (some_is (OtherSession t) v e))
looked_at true false x f t v rows e = ap (λ w. breaks x f w) (sym (some_is (NotInPhase t f.connection.phase) v e))
looked_at true true x f t v rows e = absurd cc

-- a message that is out of place breaks the rule that tells it
pub guarded : (x : Around) (f : Facts) (t : ℕ) (id : List ℕ) (awaited : Bool) (v : Violation) (rows : List Row)
    → misplaced x f t id awaited ≡ Some v → breaks x f v ≡ first_row (not_in_phase x f t) (of_session x f t id (within awaited rows))
guarded x f t id awaited v rows e = looked_at (is_own x id) awaited x f t v rows e

-- of two lists behind conditions
pub first_of_two : (a b : Bool) (o : Outcome) (first second : List Row) → a ≡ true
    → first_row o first ≡ first_row o (if a then first else if b then second else [])
first_of_two true b o first second e = refl
first_of_two false b o first second e = absurd cc

pub second_of_two : (a b : Bool) (o : Outcome) (first second : List Row) → a ≡ false → b ≡ true
    → first_row o second ≡ first_row o (if a then first else if b then second else [])
second_of_two false true o first second e h = refl
second_of_two false false o first second e h = absurd cc
second_of_two true b o first second e h = absurd cc
