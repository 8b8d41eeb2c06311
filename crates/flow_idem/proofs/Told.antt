-- Runs of consecutive numbers: the numbers in them, that they are whole, and that they are the only ones.
use Rattle.std.proofs.Common.{◌≡◌, ℕ, zero, suc, ◌+◌, ◌-◌, ◌<◌, ◌≤◌, ◌==◌, nat_lt, ◌||◌, Bool, true, false, if◌then◌else◌, List, [], ◌∷◌, ◌++◌, take, drop, length, slice_get, get_or, Some, refl, sym, ap, ◌∙◌, arith, append_assoc, append-nil, eq-eqb, eqb-true, ltb-true, ltb-false, lt-ltb, le-ltb, length-append, take-append-drop}
use Rattle.std.specs.List.{list_any}
use Rattle.std.proofs.lemmas.Bool.{eqb-false}
use Rattle.std.proofs.lemmas.List.{take_more}
use Rattle.std.proofs.lemmas.List.Folds.{list_any-append}
use Rattle.std.proofs.lemmas.Option.{slice_get-get_or}
use Rattle.std.proofs.lemmas.Grind.{flat_map-append}
use Rattle.fixp_msgs.specs.declared.numbering.Range.{Range}
use Rattle.session_model.specs.Journal.{counts_from}
use Rattle.session_model.proofs.Lists.{counts_from-add}
use Rattle.flow_idem.specs.Runs.{joined, runs_of, numbers_in, GoesOn, AreRuns, AreApart, open_run}
use Rattle.flow_idem.specs.Laws.{RunsAreWhole, RunsAreOne}

pub numbers_in-append : (first second : List Range) → numbers_in (first ++ second) ≡ numbers_in first ++ numbers_in second
numbers_in-append first second = flat_map-append _ first second

-- counting to the end, and one further
pub counts_none : (f e : ℕ) → e ≤ f → counts_from f (e - f) ≡ []
counts_none f e le = let none : 0 ≡ e - f = omega arith in ap (λ k. counts_from f k) (sym none)

pub counts_more : (f e : ℕ) → f ≤ e → counts_from f (e + 1 - f) ≡ counts_from f (e - f) ++ e ∷ []
counts_more f e le =
    let parts : e + 1 - f ≡ (e - f) + 1 = omega arith in
    let last : f + (e - f) ≡ e = omega arith in
    ap (λ k. counts_from f k) parts ∙ (counts_from-add f (e - f) 1 ∙ ap (λ m. counts_from f (e - f) ++ m ∷ []) last)

-- a number in front of runs
joined_apart : (n : ℕ) (rs : List Range) → (GoesOn (record { from = n; count = 1 }) rs → ⊥) → joined n rs ≡ record { from = n; count = 1 } ∷ rs
joined_apart n [] apart = refl
joined_apart n (r ∷ rs) apart = by_test (r.from == n + 1) refl
  where
    by_test : (b : Bool) → (r.from == n + 1) ≡ b
        → (if b then record { from = n; count = r.count + 1 } ∷ rs else record { from = n; count = 1 } ∷ r ∷ rs) ≡ record { from = n; count = 1 } ∷ r ∷ rs
    by_test true t = absurd (apart (sym (eqb-true r.from (n + 1) t)))
    by_test false t = refl

joined_on : (n k : ℕ) (rs : List Range) → joined n (record { from = n + 1; count = k } ∷ rs) ≡ record { from = n; count = k + 1 } ∷ rs
joined_on n k rs = by_test (n + 1 == n + 1) (eq-eqb (n + 1) (n + 1) refl)
  where
    by_test : (b : Bool) → b ≡ true
        → (if b then record { from = n; count = k + 1 } ∷ rs else record { from = n; count = 1 } ∷ record { from = n + 1; count = k } ∷ rs) ≡ record { from = n; count = k + 1 } ∷ rs
    by_test true t = refl
    by_test false t = absurd (cc t)

pub joined_numbers : (n : ℕ) (rs : List Range) → numbers_in (joined n rs) ≡ n ∷ numbers_in rs
joined_numbers n [] = refl
joined_numbers n (r ∷ rs) = by_test (r.from == n + 1) refl
  where
    by_test : (b : Bool) → (r.from == n + 1) ≡ b
        → numbers_in (if b then record { from = n; count = r.count + 1 } ∷ rs else record { from = n; count = 1 } ∷ r ∷ rs) ≡ n ∷ numbers_in (r ∷ rs)
    by_test true t =
        let more : r.count + 1 ≡ suc r.count = omega arith in
        ap (λ k. counts_from n k ++ numbers_in rs) more ∙ ap (λ m. n ∷ counts_from m r.count ++ numbers_in rs) (sym (eqb-true r.from (n + 1) t))
    by_test false t = refl

-- a run goes on where its end does
goes_on_as : (r s : Range) (rs : List Range) → r.from + r.count ≡ s.from + s.count → GoesOn r rs → GoesOn s rs
goes_on_as r s [] e g = g
goes_on_as r s (q ∷ rs) e g = sym e ∙ g

joined_runs : (n : ℕ) (rs : List Range) → AreRuns rs → AreRuns (joined n rs)
joined_runs n [] a = (omega arith, (λ g. g), tt)
joined_runs n (r ∷ rs) a = by_test (r.from == n + 1) refl
  where
    by_test : (b : Bool) → (r.from == n + 1) ≡ b
        → AreRuns (if b then record { from = n; count = r.count + 1 } ∷ rs else record { from = n; count = 1 } ∷ r ∷ rs)
    by_test true t = (omega arith, (λ g. a.1 (goes_on_as (record { from = n; count = r.count + 1 }) r rs (omega (arith, eqb-true r.from (n + 1) t)) g)), a.2)
    by_test false t = (omega arith, (λ g. eqb-false r.from (n + 1) t (sym g)), a)

pub runs_are_whole : RunsAreWhole
runs_are_whole [] = (refl, tt)
runs_are_whole (n ∷ ns) =
    let rest = runs_are_whole ns in
    (joined_numbers n (runs_of ns) ∙ ap (λ ms. n ∷ ms) rest.0, joined_runs n (runs_of ns) rest.1)

-- a run in front of others is one of the runs
one_run : (f k : ℕ) (rs : List Range) → 1 ≤ k → (GoesOn (record { from = f; count = k }) rs → ⊥) → rs ≡ runs_of (numbers_in rs)
    → runs_of (counts_from f k ++ numbers_in rs) ≡ record { from = f; count = k } ∷ rs
one_run f zero rs some apart e = absurd (omega arith)
one_run f (suc zero) rs some apart e = ap (λ qs. joined f qs) (sym e) ∙ joined_apart f rs apart
one_run f (suc (suc k)) rs some apart e =
    let end : f + 1 + suc k ≡ f + suc (suc k) = omega arith in
    let more : suc k + 1 ≡ suc (suc k) = omega arith in
    let on = one_run (f + 1) (suc k) rs (omega arith)
    (λ g. apart (goes_on_as (record { from = f + 1; count = suc k }) (record { from = f; count = suc (suc k) }) rs end g)) e in
    ap (λ qs. joined f qs) on ∙ (joined_on f (suc k) rs ∙ ap (λ m. record { from = f; count = m } ∷ rs) more)

pub runs_are_one : RunsAreOne
runs_are_one [] a = refl
runs_are_one (r ∷ rs) a = sym (one_run r.from r.count rs a.0 a.1 (runs_are_one rs a.2))

-- runs that rise, and the one behind them
apart_runs : (rs : List Range) (f e : ℕ) → AreApart rs f → AreRuns (rs ++ open_run f e)
apart_runs [] f e a = by_test (nat_lt f e) refl
  where
    by_test : (b : Bool) → nat_lt f e ≡ b → AreRuns (if b then record { from = f; count = e - f } ∷ [] else [])
    by_test true t = (omega (arith, ltb-true f e t), (λ g. g), tt)
    by_test false t = tt
apart_runs (r ∷ []) f e a = by_test (nat_lt f e) refl
  where
    by_test : (b : Bool) → nat_lt f e ≡ b → AreRuns (r ∷ (if b then record { from = f; count = e - f } ∷ [] else []))
    by_test true t = (a.0, (λ g. omega (arith, g, a.1)), (omega (arith, ltb-true f e t), (λ g. g), tt))
    by_test false t = (a.0, (λ g. g), tt)
apart_runs (r ∷ q ∷ rs) f e a = (a.0, (λ g. omega (arith, g, a.1)), apart_runs (q ∷ rs) f e a.2)

open_numbers : (f e : ℕ) → numbers_in (open_run f e) ≡ counts_from f (e - f)
open_numbers f e = by_test (nat_lt f e) refl
  where
    by_test : (b : Bool) → nat_lt f e ≡ b → numbers_in (if b then record { from = f; count = e - f } ∷ [] else []) ≡ counts_from f (e - f)
    by_test true t = append-nil _
    by_test false t = sym (counts_none f e (ltb-false f e t))

-- the runs of the numbers that are kept
pub runs_kept : (rs : List Range) (f e : ℕ) → AreApart rs f → runs_of (numbers_in rs ++ counts_from f (e - f)) ≡ rs ++ open_run f e
runs_kept rs f e a =
    ap (λ ns. runs_of (numbers_in rs ++ ns)) (sym (open_numbers f e))
    ∙ (ap (λ ns. runs_of ns) (sym (numbers_in-append rs (open_run f e))) ∙ sym (runs_are_one (rs ++ open_run f e) (apart_runs rs f e a)))

-- how many there are, and which stands at a place
pub count_open : (rs : List Range) (f e : ℕ) → AreApart rs f → f < e → length (runs_of (numbers_in rs ++ counts_from f (e - f))) ≡ length rs + 1
count_open rs f e a some =
    let one : open_run f e ≡ record { from = f; count = e - f } ∷ [] = rw (lt-ltb f e some) refl in
    ap length (runs_kept rs f e a) ∙ (length-append rs (open_run f e) ∙ ap (λ qs. length rs + length qs) one)

pub count_whole : (rs : List Range) (f e : ℕ) → AreApart rs f → e ≤ f → length (runs_of (numbers_in rs ++ counts_from f (e - f))) ≡ length rs
count_whole rs f e a none =
    let no : open_run f e ≡ [] = rw (le-ltb f e none) refl in
    ap length (runs_kept rs f e a) ∙ (length-append rs (open_run f e) ∙ (ap (λ qs. length rs + length qs) no ∙ omega arith))

get_front : (xs ys : List Range) (i : ℕ) → i < length xs → slice_get (xs ++ ys) i ≡ slice_get xs i
get_front [] ys i within = absurd (omega arith)
get_front (x ∷ xs) ys zero within = refl
get_front (x ∷ xs) ys (suc i) within = get_front xs ys i (omega arith)

get_behind : (xs : List Range) (y : Range) → slice_get (xs ++ y ∷ []) (length xs) ≡ Some y
get_behind [] y = refl
get_behind (x ∷ xs) y = get_behind xs y

pub run_whole : (rs : List Range) (f e i : ℕ) (d : Range) → AreApart rs f → i < length rs
    → slice_get (runs_of (numbers_in rs ++ counts_from f (e - f))) i ≡ Some (get_or rs i d)
run_whole rs f e i d a within =
    ap (λ qs. slice_get qs i) (runs_kept rs f e a) ∙ (get_front rs (open_run f e) i within ∙ slice_get-get_or rs i d within)

pub run_open : (rs : List Range) (f e i : ℕ) → AreApart rs f → length rs ≤ i → i < length (runs_of (numbers_in rs ++ counts_from f (e - f)))
    → slice_get (runs_of (numbers_in rs ++ counts_from f (e - f))) i ≡ Some (record { from = f; count = e - f })
run_open rs f e i a behind within = by_test (nat_lt f e) refl
  where
    by_test : (b : Bool) → nat_lt f e ≡ b → slice_get (runs_of (numbers_in rs ++ counts_from f (e - f))) i ≡ Some (record { from = f; count = e - f })
    by_test true t =
        let some : f < e = ltb-true f e t in
        let one : open_run f e ≡ record { from = f; count = e - f } ∷ [] = rw t refl in
        let here : i ≡ length rs = omega (arith, within, behind, count_open rs f e a some) in
        ap (λ qs. slice_get qs i) (runs_kept rs f e a ∙ ap (λ qs. rs ++ qs) one)
        ∙ (ap (λ k. slice_get (rs ++ record { from = f; count = e - f } ∷ []) k) here ∙ get_behind rs (record { from = f; count = e - f }))
    by_test false t = absurd (omega (arith, within, behind, count_whole rs f e a (ltb-false f e t)))

-- one number more
pub numbers_more : (rs : List Range) (f e : ℕ) → f ≤ e → numbers_in rs ++ counts_from f (e + 1 - f) ≡ (numbers_in rs ++ counts_from f (e - f)) ++ e ∷ []
numbers_more rs f e le = ap (λ ns. numbers_in rs ++ ns) (counts_more f e le) ∙ sym (append_assoc (numbers_in rs) (counts_from f (e - f)) (e ∷ []))

-- a jump: the run behind the others is whole
pub apart_more : (rs : List Range) (f k n : ℕ) → AreApart rs f → 1 ≤ k → f + k < n → AreApart (rs ++ record { from = f; count = k } ∷ []) n
apart_more [] f k n a some less = (some, less, tt)
apart_more (r ∷ []) f k n a some less = (a.0, a.1, (some, less, tt))
apart_more (r ∷ q ∷ rs) f k n a some less = (a.0, a.1, apart_more (q ∷ rs) f k n a.2 some less)

pub apart_later : (rs : List Range) (f n : ℕ) → AreApart rs f → f ≤ n → AreApart rs n
apart_later [] f n a le = tt
apart_later (r ∷ []) f n a le = (a.0, omega (arith, a.1), tt)
apart_later (r ∷ q ∷ rs) f n a le = (a.0, a.1, apart_later (q ∷ rs) f n a.2 le)

pub numbers_whole : (rs : List Range) (f k n : ℕ) → numbers_in (rs ++ record { from = f; count = k } ∷ []) ++ counts_from n (n - n) ≡ numbers_in rs ++ counts_from f k
numbers_whole rs f k n =
    ap (λ ns. numbers_in (rs ++ record { from = f; count = k } ∷ []) ++ ns) (counts_none n n (omega arith))
    ∙ (append-nil _ ∙ (numbers_in-append rs (record { from = f; count = k } ∷ []) ∙ ap (λ ns. numbers_in rs ++ ns) (append-nil _)))

-- whether a number is among consecutive ones
pub any_counts : (n f k : ℕ) → f ≤ n → n < f + k → list_any (λ m. m == n) (counts_from f k) ≡ true
any_counts n f zero low high = absurd (omega arith)
any_counts n f (suc k) low high = by_test (f == n) refl (λ more. any_counts n (f + 1) k more (omega arith))
  where
    by_test : (b : Bool) → (f == n) ≡ b → (f + 1 ≤ n → list_any (λ m. m == n) (counts_from (f + 1) k) ≡ true) → (b || list_any (λ m. m == n) (counts_from (f + 1) k)) ≡ true
    by_test true t later = refl
    by_test false t later = later (omega (arith, eqb-false f n t))

pub any_below : (n f k : ℕ) → n < f → list_any (λ m. m == n) (counts_from f k) ≡ false
any_below n f zero low = refl
any_below n f (suc k) low = by_test (f == n) refl (any_below n (f + 1) k (omega arith))
  where
    by_test : (b : Bool) → (f == n) ≡ b → list_any (λ m. m == n) (counts_from (f + 1) k) ≡ false → (b || list_any (λ m. m == n) (counts_from (f + 1) k)) ≡ false
    by_test true t later = absurd (omega (arith, eqb-true f n t))
    by_test false t later = later

pub any_past : (n f k : ℕ) → f + k ≤ n → list_any (λ m. m == n) (counts_from f k) ≡ false
any_past n f zero high = refl
any_past n f (suc k) high = by_test (f == n) refl (any_past n (f + 1) k (omega arith))
  where
    by_test : (b : Bool) → (f == n) ≡ b → list_any (λ m. m == n) (counts_from (f + 1) k) ≡ false → (b || list_any (λ m. m == n) (counts_from (f + 1) k)) ≡ false
    by_test true t later = absurd (omega (arith, eqb-true f n t))
    by_test false t later = later

-- and among those of some runs
pub any_in_run : (n : ℕ) (r : Range) → (r.from ≤ n) × (n - r.from < r.count) → list_any (λ m. m == n) (counts_from r.from r.count) ≡ true
any_in_run n r within = any_counts n r.from r.count within.0 (omega (arith, within.0, within.1))

any_either : (n : ℕ) (xs ys : List ℕ) (b d : Bool) → list_any (λ m. m == n) xs ≡ b → list_any (λ m. m == n) ys ≡ d → list_any (λ m. m == n) (xs ++ ys) ≡ (b || d)
any_either n xs ys b d e f = list_any-append (λ m. m == n) xs ys ∙ (ap (λ x. x || list_any (λ m. m == n) ys) e ∙ ap (λ y. b || y) f)

-- the numbers of runs, with one run more
runs_more : (rs : List Range) (i : ℕ) (d : Range) → i < length rs
    → numbers_in (take (i + 1) rs) ≡ numbers_in (take i rs) ++ counts_from (get_or rs i d).from (get_or rs i d).count
runs_more rs i d within =
    ap (λ qs. numbers_in qs) (take_more rs i d within)
    ∙ (numbers_in-append (take i rs) (get_or rs i d ∷ []) ∙ ap (λ ns. numbers_in (take i rs) ++ ns) (append-nil _))

pub any_not_yet : (n : ℕ) (rs : List Range) (i : ℕ) (d : Range) → i < length rs → list_any (λ m. m == n) (numbers_in (take i rs)) ≡ false
    → list_any (λ m. m == n) (counts_from (get_or rs i d).from (get_or rs i d).count) ≡ false → list_any (λ m. m == n) (numbers_in (take (i + 1) rs)) ≡ false
any_not_yet n rs i d within before here =
    ap (λ ns. list_any (λ m. m == n) ns) (runs_more rs i d within)
    ∙ any_either n (numbers_in (take i rs)) (counts_from (get_or rs i d).from (get_or rs i d).count) false false before here

pub any_found : (n : ℕ) (rs : List Range) (i : ℕ) (d : Range) (more : List ℕ) → i < length rs
    → list_any (λ m. m == n) (counts_from (get_or rs i d).from (get_or rs i d).count) ≡ true → list_any (λ m. m == n) (numbers_in rs ++ more) ≡ true
any_found n rs i d more within here =
    let whole : numbers_in (take (i + 1) rs) ++ numbers_in (drop (i + 1) rs) ≡ numbers_in rs =
    sym (numbers_in-append (take (i + 1) rs) (drop (i + 1) rs)) ∙ ap (λ qs. numbers_in qs) (take-append-drop (i + 1) rs) in
    let last : list_any (λ m. m == n) (numbers_in (take (i + 1) rs)) ≡ (list_any (λ m. m == n) (numbers_in (take i rs)) || true) =
    ap (λ ns. list_any (λ m. m == n) ns) (runs_more rs i d within)
    ∙ any_either n (numbers_in (take i rs)) _ _ true refl here in
    let front : list_any (λ m. m == n) (numbers_in (take (i + 1) rs)) ≡ true = last ∙ or_true (list_any (λ m. m == n) (numbers_in (take i rs))) in
    let all : list_any (λ m. m == n) (numbers_in rs) ≡ true =
    ap (λ ns. list_any (λ m. m == n) ns) (sym whole) ∙ any_either n (numbers_in (take (i + 1) rs)) (numbers_in (drop (i + 1) rs)) true _ front refl in
    any_either n (numbers_in rs) more true _ all refl
  where
    or_true : (b : Bool) → (b || true) ≡ true
    or_true true = refl
    or_true false = refl

pub any_behind : (n : ℕ) (rs : List Range) (f e : ℕ) (b : Bool) → list_any (λ m. m == n) (numbers_in rs) ≡ false
    → list_any (λ m. m == n) (counts_from f (e - f)) ≡ b → list_any (λ m. m == n) (numbers_in rs ++ counts_from f (e - f)) ≡ b
any_behind n rs f e b before here = any_either n (numbers_in rs) (counts_from f (e - f)) false b before here
