-- The row that decides: there is one, and what holds of each that may is what holds of the reply.
use Rattle.std.proofs.Common.{◌≡◌, ℕ, not, Bool, true, false, if◌then◌else◌, List, [], ◌∷◌, Option, Some, sym, subst, true≢false}
use Rattle.std.specs.Prelude.{is_some}
use Rattle.std.specs.Str.{bytes_eq}
use Rattle.std.proofs.lemmas.Slice.Eq.{bytes_eq-Decides}
use Rattle.fixp_shake.specs.declared.violation.Violation.{Violation}
use Rattle.fixp_replies.specs.declared.act.Ending.{Ending}
use Rattle.fixp_replies.specs.declared.act.Ending.TheVariants as endings
use Rattle.fixp_replies.specs.declared.facts.Facts.{Facts}
use Rattle.fixp_replies.specs.Facts.{Around}
use Rattle.fixp_replies.specs.Outcomes.{Outcome, Row, first_row, within}
use Rattle.fixp_replies.specs.Announcing.{Announced, announced, announcement_fault, announcement_rows, refuses}
use Rattle.fixp_machine.proofs.Rows.{AllRows, by_row}

abbrev pub Decides : (Outcome → Type 0) → List Row → Type 0
Decides P [] = ⊥
Decides P (row ∷ rows) = (row.applies ≡ true → P row.outcome) × (row.applies ≡ false → Decides P rows)

pub decided : (P : Outcome → Type 0) (otherwise : Outcome) (rows : List Row) → Decides P rows → P (first_row otherwise rows)
decided P otherwise [] d = absurd d
decided P otherwise (row ∷ rows) d = by_row P row.applies row.outcome (first_row otherwise rows) d.0 (λ e. decided P otherwise rows (d.1 e))

pub decides_within : (P : Outcome → Type 0) (condition : Bool) (rows : List Row) → condition ≡ true → Decides P rows → Decides P (within condition rows)
decides_within P true rows e d = d
decides_within P false rows e d = absurd (true≢false (sym e))

-- an announcement that breaks a rule is refused, and any other is taken
pub announced_all : (P : Outcome → Type 0) (x : Around) (f : Facts) (t : ℕ) (next : Option ℕ) (follows : Announced → Outcome)
    → (is_some (announcement_fault x f t next) ≡ true → P (refuses x f (announcement_fault x f t next))) → P (follows (announced x f next)) → AllRows P (announcement_rows x f t next follows)
announced_all P x f t next follows refuse takes = (refuse, λ _. (λ _. takes, λ _. tt))

pub same_bytes : (xs ys : List ℕ) → xs ≡ ys → bytes_eq xs ys ≡ true
same_bytes xs ys e = (bytes_eq-Decides xs ys).1 e

-- a connection that ends by a violation, where it would end so, would end by that one
pub ended_so : (b : Bool) (e : Ending) (v : Violation) → Some (if b then endings.Finished else e) ≡ Some (endings.Violation v) → e ≡ endings.Violation v
ended_so true e v same = absurd cc
ended_so false e v same = cc same

pub ended_by : (P : Violation → Type 0) (b : Bool) (v w : Violation) → Some (if b then endings.Finished else endings.Violation v) ≡ Some (endings.Violation w) → P v → P w
ended_by P b v w e h = let same : v ≡ w = cc (ended_so b (endings.Violation v) w e) in subst P same h

pub never : (b : Bool) {A : Type 0} → b ≡ true → not b ≡ true → A
never true e n = absurd (true≢false (sym n))
never false e n = absurd (true≢false (sym e))
