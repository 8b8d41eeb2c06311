-- How many of some numbers in a row fall to a sender.
use Rattle.std.proofs.Common.{◌≡◌, ◌≢◌, ◌⊎◌, inl, inr, ⊎_elim, ap, ℕ, zero, suc, ◌+◌, ◌-◌, ◌*◌, ◌/◌, ◌%◌, ◌==◌, ◌<◌, ◌≤◌, Bool, true, false, List, [], ◌∷◌, refl, sym, subst, arith, cond, Result, Ok, Err, IfOk}
use Rattle.std.proofs.lemmas.Bool.{cases_lt}
use Rattle.std.proofs.lemmas.Bool.Decides.{eqb_tells}
use Rattle.std.specs.List.{All, count_by}
use Rattle.std.proofs.lemmas.List.Elements.{All-from_recursion}
use Rattle.std.proofs.lemmas.List.Sums.{sum_by-cons}
use Rattle.session_model.specs.Journal.{counts_from}
use Rattle.cmd_script.specs.Script.{IsCount}
use Rattle.cmd_soak.specs.Soak.{dealt, soak_messages}

abbrev falls : ℕ → ℕ → Bool
falls sender i = i % 4 == sender % 4

abbrev one_if : Bool → ℕ
one_if t = cond t 1 0

-- one number makes one more where it falls to the sender
one_more : (sender a : ℕ) → 1 ≤ sender → sender ≤ 4 → 1 ≤ a → one_if (falls sender a) + (a + 3 - sender) / 4 ≡ (a + 4 - sender) / 4
one_more sender a some few first = by_test (eqb_tells (a % 4) (sender % 4))
  where
    apart : one_if (falls sender a) ≡ 0 → (a % 4 < sender % 4) ⊎ (sender % 4 < a % 4) → one_if (falls sender a) + (a + 3 - sender) / 4 ≡ (a + 4 - sender) / 4
    apart none (inl less) = omega (arith, none, less, some, few, first)
    apart none (inr more) = omega (arith, none, more, some, few, first)

    differ : (x y : ℕ) → x ≢ y → (x < y) ⊎ (y < x)
    differ x y other = ⊎_elim (λ less. inl less) (λ least. ⊎_elim (λ more. inr more) (λ most. absurd (other (omega (arith, least, most)))) (cases_lt y x)) (cases_lt x y)

    by_test : (((a % 4 == sender % 4) ≡ true) × (a % 4 ≡ sender % 4)) ⊎ (((a % 4 == sender % 4) ≡ false) × (a % 4 ≢ sender % 4)) → one_if (falls sender a) + (a + 3 - sender) / 4 ≡ (a + 4 - sender) / 4
    by_test (inl (is, same)) =
        let one : one_if (falls sender a) ≡ 1 = ap (λ (t : Bool). one_if t) is in
        omega (arith, one, same, some, few, first)
    by_test (inr (is, other)) =
        let none : one_if (falls sender a) ≡ 0 = ap (λ (t : Bool). one_if t) is in
        apart none (differ (a % 4) (sender % 4) other)

pub deals : (sender a k : ℕ) → 1 ≤ sender → sender ≤ 4 → 1 ≤ a → count_by (λ i. falls sender i) (counts_from a k) + (a + 3 - sender) / 4 ≡ (a + k + 3 - sender) / 4
deals sender a zero some few first = omega arith
deals sender a (suc k) some few first =
    let later = deals sender (a + 1) k some few (omega (arith, first)) in
    let now = one_more sender a some few first in
    let step : count_by (λ i. falls sender i) (counts_from a (suc k)) ≡ one_if (falls sender a) + count_by (λ i. falls sender i) (counts_from (a + 1) k) = sum_by-cons (λ i. cond (falls sender i) 1 0) a (counts_from (a + 1) k) in
    omega (arith, step, later, now)

pub dealt_is : (messages sender : ℕ) → 1 ≤ sender → sender ≤ 4 → dealt messages sender ≡ (messages + 4 - sender) / 4
dealt_is messages sender some few = let d = deals sender 1 messages some few (omega arith) in omega (arith, d, some, few)

pub each_once : (messages : ℕ) → dealt messages 1 + dealt messages 2 + dealt messages 3 + dealt messages 4 ≡ messages
each_once messages =
    omega (arith, dealt_is messages 1 (omega arith) (omega arith), dealt_is messages 2 (omega arith) (omega arith), dealt_is messages 3 (omega arith) (omega arith), dealt_is messages 4 (omega arith) (omega arith))

pub enough : (messages sender : ℕ) → 1 ≤ sender → sender ≤ 4 → dealt messages sender ≤ (messages + 4999) / 5000 * 1250
enough messages sender some few = omega (arith, dealt_is messages sender some few, some)

few_dealt : (messages sender : ℕ) → 1 ≤ sender → sender ≤ 4 → messages ≤ 100000 → IsCount (dealt messages sender)
few_dealt messages sender some few most = omega (arith, dealt_is messages sender some few, some, most)

all_counts : (messages : ℕ) → messages ≤ 100000 → All IsCount (soak_messages messages)
all_counts messages most = All-from_recursion IsCount (soak_messages messages) (
  few_dealt messages 1 (omega arith) (omega arith) most,
  (
    few_dealt messages 2 (omega arith) (omega arith) most,
    (few_dealt messages 3 (omega arith) (omega arith) most, (few_dealt messages 4 (omega arith) (omega arith) most, tt)),
  ),
)

-- so do those that a list was made of, where memory sufficed
pub made_counts : {E : Type 0} (messages : ℕ) (given : List ℕ) (r : Result (List ℕ) E) → messages ≤ 100000 → given ≡ soak_messages messages → IfOk r (λ l. l ≡ given)
    → IfOk r (λ counts. All IsCount counts)
made_counts messages given (Ok counts) most is made = subst (λ (ns : List ℕ). All IsCount ns) (sym made) (subst (λ (ns : List ℕ). All IsCount ns) (sym is) (all_counts messages most))
made_counts messages given (Err e) most is made = tt
