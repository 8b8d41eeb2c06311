-- What holds of the outcome of each row that may decide holds of the reply.
use Rattle.std.proofs.Common.{◌≡◌, ℕ, Bool, true, false, if◌then◌else◌, List, [], ◌∷◌, Option, None, refl}
use Rattle.std.specs.Prelude.{⊤}
use Rattle.fixp_shake.specs.declared.violation.Violation.{Violation}
use Rattle.fixp_replies.specs.declared.act.Ending.{Ending}
use Rattle.fixp_replies.specs.declared.facts.Facts.{Facts}
use Rattle.fixp_replies.specs.Facts.{Around}
use Rattle.fixp_replies.specs.Outcomes.{Outcome, Row, first_row, within, ends}
use Rattle.fixp_replies.specs.Announcing.{Announced, announced, announcement_fault, refuses, announcement_rows}
use Rattle.fixp_replies.specs.Replies.{of_session}
use Rattle.fixp_machine.proofs.Tests.{some-none}

abbrev pub AllRows : (Outcome → Type 0) → List Row → Type 0
AllRows P [] = ⊤
AllRows P (row ∷ rows) = (row.applies ≡ true → P row.outcome) × (row.applies ≡ false → AllRows P rows)

pub by_row : (P : Outcome → Type 0) (b : Bool) (first later : Outcome) → (b ≡ true → P first) → (b ≡ false → P later) → P (if b then first else later)
by_row P true first later f g = f refl
by_row P false first later f g = g refl

pub all_rows : (P : Outcome → Type 0) (otherwise : Outcome) (rows : List Row) → P otherwise → AllRows P rows → P (first_row otherwise rows)
all_rows P otherwise [] base all = base
all_rows P otherwise (row ∷ rows) base all = by_row P row.applies row.outcome (first_row otherwise rows) all.0 (λ e. all_rows P otherwise rows base (all.1 e))

pub all_within : (P : Outcome → Type 0) (condition : Bool) (rows : List Row) → (condition ≡ true → AllRows P rows) → AllRows P (within condition rows)
all_within P true rows f = f refl
all_within P false rows f = tt

-- an announcement that breaks a rule is refused, and any other is taken
pub announced_rows : (P : Outcome → Type 0) (x : Around) (f : Facts) (template : ℕ) (next : Option ℕ) (follows : Announced → Outcome)
    → ((v : Option Violation) → P (refuses x f v))
    → (announcement_fault x f template next ≡ None → P (follows (announced x f next)))
    → AllRows P (announcement_rows x f template next follows)
announced_rows P x f template next follows refuse takes =
    (λ _. refuse (announcement_fault x f template next), λ none. (λ _. takes (some-none (announcement_fault x f template next) none), λ _. tt))

-- a message of another session ends the connection
pub own_rows : (P : Outcome → Type 0) (x : Around) (f : Facts) (template : ℕ) (id : List ℕ) (rows : List Row) → ((e : Ending) → P (ends x f 2 e)) → AllRows P rows → AllRows P (of_session x f template id rows)
own_rows P x f template id rows out all = (λ _. out _, λ _. all)
