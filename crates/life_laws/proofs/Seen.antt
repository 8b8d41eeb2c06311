-- The entries that a sender made, and those of them that stand in what its pass has seen.
use Rattle.std.proofs.Common.{◌≡◌, ℕ, zero, suc, ◌+◌, ◌-◌, ◌<◌, Bool, true, false, cond, ◌==◌, List, [], ◌∷◌, ◌++◌, map, length, slice_get, Some, refl, sym, ap, subst, ◌∙◌, arith, append-nil}
use Rattle.std.specs.List.{AllByRecursion}
use Rattle.std.proofs.lemmas.Bool.{eqb-true, eqb-false}
use Rattle.std.proofs.lemmas.Option.{none-some, same_Some}
use mathlib.Core.List.{IsPrefix, is_set as List-set}
use native.Mathlib.Nat.{ℕ_set}
use Rattle.session_model.specs.Journal.{Entry, entries_of, counts_from, InOrder}
use Rattle.session_model.proofs.Lists.{all_weaker, all_second}
use Rattle.gate_turn.proofs.Histories.{entries_of-append}
use Rattle.gate_staff.specs.Made.{IsAmong}

pub order_prop : (es : List Entry) → IsProp (InOrder es)
order_prop es = hlevel (ℕ_set, List-set)

-- those of one sender are among all
pub own_among : (es : List Entry) (n : ℕ) → AllByRecursion (IsAmong es) (entries_of es n)
own_among [] n = tt
own_among (e ∷ es) n = by_test (e.sender == n) (all_weaker (IsAmong es) (IsAmong (e ∷ es)) (λ d a. (suc a.0, a.1)) (entries_of es n) (own_among es n))
  where
    by_test : (b : Bool) → AllByRecursion (IsAmong (e ∷ es)) (entries_of es n) → AllByRecursion (IsAmong (e ∷ es)) (cond b (e ∷ entries_of es n) (entries_of es n))
    by_test true rest = ((0, refl), rest)
    by_test false rest = rest

of_sender : (es : List Entry) (n : ℕ) → AllByRecursion (λ (d : Entry). d.sender ≡ n) (entries_of es n)
of_sender [] n = tt
of_sender (e ∷ es) n = by_test (e.sender == n) refl (of_sender es n)
  where
    by_test : (b : Bool) → (e.sender == n) ≡ b → AllByRecursion (λ (d : Entry). d.sender ≡ n) (entries_of es n) → AllByRecursion (λ (d : Entry). d.sender ≡ n) (cond b (e ∷ entries_of es n) (entries_of es n))
    by_test true is rest = (eqb-true e.sender n is, rest)
    by_test false is rest = rest

-- what holds of each holds of that at a place
all_get : {A : Type 0} (P : A → Type 0) (xs : List A) (k : ℕ) (x : A) → AllByRecursion P xs → slice_get xs k ≡ Some x → P x
all_get P [] k x all there = absurd (none-some x there)
all_get P (y ∷ ys) zero x all there = subst P (same_Some y x there) all.0
all_get P (y ∷ ys) (suc k) x all there = all_get P ys k x all.1 there

-- a bound on a sender's own numbers holds of each entry that is its
abbrev IsBelow : ℕ → Entry → Type 0
IsBelow k d = d.own_number < k

of_all : (es : List Entry) (n k : ℕ) → AllByRecursion (IsBelow k) (entries_of es n) → AllByRecursion (λ (d : Entry). d.sender ≡ n → IsBelow k d) es
of_all [] n k all = tt
of_all (e ∷ es) n k all = by_test (e.sender == n) refl (of_all es n k) all
  where
    by_test : (b : Bool) → (e.sender == n) ≡ b → (AllByRecursion (IsBelow k) (entries_of es n) → AllByRecursion (λ (d : Entry). d.sender ≡ n → IsBelow k d) es) → AllByRecursion (IsBelow k) (cond b (e ∷ entries_of es n) (entries_of es n))
        → AllByRecursion (λ (d : Entry). d.sender ≡ n → IsBelow k d) (e ∷ es)
    by_test true is rest a = (λ s. a.0, rest a.1)
    by_test false is rest a = (λ s. absurd (eqb-false e.sender n is s), rest a)

-- in entries whose own numbers count up, those before one have lower numbers
number_at : (es : List Entry) (e : Entry) (more : List Entry) (n : ℕ) → map (λ (d : Entry). d.own_number) (es ++ e ∷ more) ≡ counts_from n (length (es ++ e ∷ more)) → e.own_number ≡ n + length es
number_at [] e more n is = let same : e.own_number ≡ n = cc in omega (arith, same)
number_at (x ∷ es) e more n is =
    let rest : map (λ (d : Entry). d.own_number) (es ++ e ∷ more) ≡ counts_from (n + 1) (length (es ++ e ∷ more)) = cc in
    omega (arith, number_at es e more (n + 1) rest)

lower : (es : List Entry) (e : Entry) (more : List Entry) (n : ℕ) → map (λ (d : Entry). d.own_number) (es ++ e ∷ more) ≡ counts_from n (length (es ++ e ∷ more))
    → AllByRecursion (IsBelow e.own_number) es
lower [] e more n is = tt
lower (x ∷ es) e more n is =
    let here : x.own_number ≡ n = cc in
    let rest : map (λ (d : Entry). d.own_number) (es ++ e ∷ more) ≡ counts_from (n + 1) (length (es ++ e ∷ more)) = cc in
    (omega (arith, here, number_at es e more (n + 1) rest), lower es e more (n + 1) rest)

-- Where all that a sender made stands in a beginning of what is there now, it made nothing behind that
pub none_behind : (seen now mine : List Entry) (n : ℕ) → IsPrefix seen now → InOrder now → mine ≡ entries_of now n → AllByRecursion (IsAmong seen) mine → entries_of now n ≡ entries_of seen n
none_behind seen now mine n begins order is all = by_rest (entries_of begins.0 n) refl
  where
    parts : entries_of now n ≡ entries_of seen n ++ entries_of begins.0 n
    parts = ap (λ (es : List Entry). entries_of es n) (sym begins.1) ∙ entries_of-append seen begins.0 n

    by_rest : (rest : List Entry) → entries_of begins.0 n ≡ rest → entries_of now n ≡ entries_of seen n
    by_rest [] none = parts ∙ ap (λ (es : List Entry). entries_of seen n ++ es) none ∙ append-nil (entries_of seen n)
    by_rest (e ∷ more) some =
        let whole : entries_of now n ≡ entries_of seen n ++ e ∷ more = parts ∙ ap (λ (es : List Entry). entries_of seen n ++ es) some in
        let counted : map (λ (d : Entry). d.own_number) (entries_of seen n ++ e ∷ more) ≡ counts_from 1 (length (entries_of seen n ++ e ∷ more)) =
        subst (λ (es : List Entry). map (λ (d : Entry). d.own_number) es ≡ counts_from 1 (length es)) whole (order n) in
        let its : e.sender ≡ n = (subst (λ (es : List Entry). AllByRecursion (λ (d : Entry). d.sender ≡ n) es) some (of_sender begins.0 n)).0 in
        let among : IsAmong seen e = (all_second (IsAmong seen) (entries_of seen n) (e ∷ more) (subst (λ (es : List Entry). AllByRecursion (IsAmong seen) es) (is ∙ whole) all)).0 in
        let less : e.own_number < e.own_number =
        all_get (λ (d : Entry). d.sender ≡ n → IsBelow e.own_number d) seen among.0 e (of_all seen n e.own_number (lower (entries_of seen n) e more 1 counted)) among.1 its in
        absurd (omega (arith, less))
