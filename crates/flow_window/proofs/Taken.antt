-- What a window takes of numbered messages: consecutive numbers, no fewer than their chain, and nothing that did not come.
use Rattle.std.proofs.Common.{◌≡◌, ℕ, ◌+◌, ◌≤◌, ◌==◌, nat_lt, nat_le, Bool, true, false, if◌then◌else◌, List, [], ◌∷◌, ◌++◌, map, length, Contains, Some, None, unwrap_or, refl, sym, ap, subst, ◌∙◌, arith, length-append, eqb-true}
use Rattle.std.proofs.lemmas.Option.{none-some}
use Rattle.std.proofs.lemmas.Bool.{eqb-false}
use Rattle.std.proofs.lemmas.List.{map-append}
use Rattle.std.proofs.lemmas.List.Elements.{Contains-append_right, Contains-append_left}
use Rattle.std.specs.List.{AllByRecursion}
use Rattle.session_model.specs.Journal.{counts_from}
use Rattle.session_model.specs.Inbox.{Numbered, apply, applied, skips, numbers_of, next_number}
use Rattle.session_model.specs.Growth.{chain}
use Rattle.session_model.proofs.Lists.{all_weaker, all_append, counts_from-add}
use Rattle.flow_recover.specs.declared.numbers.Seen.TheVariants.{Deliver, Hold, Gap, Repeat}
use Rattle.flow_window.specs.Window.{Holding, holding, front}
use Rattle.flow_recover.specs.Receiving.{reach, seen_as}
use Rattle.flow_recover.specs.Laws.{given}
use Rattle.flow_window.specs.Gathering.{held_as, ready, waiting, drained}
use Rattle.flow_window.specs.Laws.{met, taken, kept, TakesInOrder, TakesChain, HoldsWhatCame, GrowsWithWindow, FrontByFront}

-- messages whose numbers count on from n, and others that count on behind them, count on together
counts_joined : (n : ℕ) (xs ys : List Numbered) → numbers_of xs ≡ counts_from n (length xs)
    → numbers_of ys ≡ counts_from (n + length xs) (length ys) → numbers_of (xs ++ ys) ≡ counts_from n (length (xs ++ ys))
counts_joined n xs ys front behind =
    map-append (λ (m : Numbered). m.number) xs ys
    ∙ (ap (λ ns. ns ++ numbers_of ys) front
    ∙ (ap (λ ns. counts_from n (length xs) ++ ns) behind
    ∙ (sym (counts_from-add n (length xs) (length ys)) ∙ ap (λ k. counts_from n k) (sym (length-append xs ys)))))

-- what is ready counts on from the next number
ready_counts : (n : ℕ) (ms : List Numbered) → numbers_of (ready n ms) ≡ counts_from n (length (ready n ms))
ready_counts n [] = refl
ready_counts n (m ∷ ms) = by_test (m.number == n) refl (ready_counts (n + 1) ms)
  where
    by_test : (b : Bool) → (m.number == n) ≡ b → numbers_of (ready (n + 1) ms) ≡ counts_from (n + 1) (length (ready (n + 1) ms))
        → numbers_of (if b then m ∷ ready (n + 1) ms else []) ≡ counts_from n (length (if b then m ∷ ready (n + 1) ms else []))
    by_test true same later = ap (λ k. k ∷ numbers_of (ready (n + 1) ms)) (eqb-true m.number n same) ∙ ap (λ ks. n ∷ ks) later
    by_test false same later = refl

-- what is delivered as it comes is the next number, and the window goes on behind it
given_counts : (next n : ℕ) (p : List ℕ) → numbers_of (given (seen_as next n) p) ≡ counts_from next (length (given (seen_as next n) p))
given_counts next n p = by_tests (n == next) refl (nat_lt n next) (nat_le n (next + reach))
  where
    by_tests : (same : Bool) → (n == next) ≡ same → (below near : Bool)
        → numbers_of (given (if same then Deliver n else if below then Repeat n else if near then Hold n else Gap n) p)
        ≡ counts_from next (length (given (if same then Deliver n else if below then Repeat n else if near then Hold n else Gap n) p))
    by_tests true same below near = ap (λ k. k ∷ []) (eqb-true n next same)
    by_tests false same true near = refl
    by_tests false same false true = refl
    by_tests false same false false = refl

given_next : (next n : ℕ) (p : List ℕ) → (if n == next then next + 1 else next) ≡ next + length (given (seen_as next n) p)
given_next next n p = by_tests (n == next) (nat_lt n next) (nat_le n (next + reach))
  where
    by_tests : (same below near : Bool) → (if same then next + 1 else next)
        ≡ next + length (given (if same then Deliver n else if below then Repeat n else if near then Hold n else Gap n) p)
    by_tests true below near = refl
    by_tests false true near = omega arith
    by_tests false false true = omega arith
    by_tests false false false = omega arith

pub takes_in_order : TakesInOrder
takes_in_order w [] = refl
takes_in_order w (m ∷ ms) =
    let v = met w m in
    let first = given (seen_as w.next m.number) m.payload in
    let then_ready = ready v.next v.held in
    let rest = taken (drained v) ms in
    let on : v.next ≡ w.next + length first = given_next w.next m.number m.payload in
    let tail : numbers_of (then_ready ++ rest) ≡ counts_from v.next (length (then_ready ++ rest)) =
    counts_joined v.next then_ready rest (ready_counts v.next v.held) (takes_in_order (drained v) ms) in
    counts_joined w.next first (then_ready ++ rest) (given_counts w.next m.number m.payload)
    (subst (λ k. numbers_of (then_ready ++ rest) ≡ counts_from k (length (then_ready ++ rest))) on tail)

-- how far the chain from any number up to the next one comes, at most
reaches : (k : ℕ) (w : Holding) (ms : List Numbered) → k ≤ w.next → k + length (chain k ms) ≤ w.next + length (taken w ms)
reaches k w [] below = omega arith
reaches k w (m ∷ ms) below =
    let v = met w m in
    let first = given (seen_as w.next m.number) m.payload in
    let then_ready = ready v.next v.held in
    let rest = taken (drained v) ms in
    let on : v.next ≡ w.next + length first = given_next w.next m.number m.payload in
    let long : length (first ++ (then_ready ++ rest)) ≡ length first + (length then_ready + length rest) =
    length-append first (then_ready ++ rest) ∙ ap (λ k. length first + k) (length-append then_ready rest) in
    by_test (m.number == k) refl on long
    (λ here. reaches (k + 1) (drained v) ms (omega (arith, here))) (reaches k (drained v) ms (omega (arith, on)))
  where
    passes : (b : Bool) → (m.number == w.next) ≡ b → (m.number == k) ≡ true → k + 1 ≤ (if b then w.next + 1 else w.next)
    passes true next same = omega (arith, below)
    passes false other same = omega (arith, below, eqb-true m.number k same, eqb-false m.number w.next other)

    by_test : (b : Bool) → (m.number == k) ≡ b
        → (met w m).next ≡ w.next + length (given (seen_as w.next m.number) m.payload)
        → length (taken w (m ∷ ms)) ≡ length (given (seen_as w.next m.number) m.payload)
        + (length (ready (met w m).next (met w m).held) + length (taken (drained (met w m)) ms))
        → (k + 1 ≤ (met w m).next → k + 1 + length (chain (k + 1) ms) ≤ (drained (met w m)).next + length (taken (drained (met w m)) ms))
        → k + length (chain k ms) ≤ (drained (met w m)).next + length (taken (drained (met w m)) ms)
        → k + length (if b then m ∷ chain (k + 1) ms else chain k ms) ≤ w.next + length (taken w (m ∷ ms))
    by_test true same on long goes_on stays =
        let past : k + 1 ≤ (met w m).next = passes (m.number == w.next) refl same in
        let later = goes_on past in
        omega (arith, later, on, long)
    by_test false same on long goes_on stays = omega (arith, stays, on, long)

pub takes_chain : TakesChain
takes_chain w ms = let most = reaches w.next w ms (omega arith) in omega (arith, most)

-- what holds of all that is held, and of a message with this payload, holds of what is held behind it
all_holding : (P : Numbered → Type 0) (n : ℕ) (p : List ℕ) (ms : List Numbered) → P (record { number = n; payload = p })
    → AllByRecursion P ms → AllByRecursion P (holding n p ms)
all_holding P n p [] new all = (new, tt)
all_holding P n p (m ∷ ms) new all = by_tests (m.number == n) (nat_lt n m.number) (all_holding P n p ms new all.1)
  where
    by_tests : (same below : Bool) → AllByRecursion P (holding n p ms)
        → AllByRecursion P (if same then m ∷ ms else if below then record { number = n; payload = p } ∷ m ∷ ms else m ∷ holding n p ms)
    by_tests true below later = all
    by_tests false true later = (new, all)
    by_tests false false later = (all.0, later)

all_given : (P : Numbered → Type 0) (next n : ℕ) (p : List ℕ) → P (record { number = n; payload = p }) → AllByRecursion P (given (seen_as next n) p)
all_given P next n p new = by_tests (n == next) (nat_lt n next) (nat_le n (next + reach))
  where
    by_tests : (same below near : Bool)
        → AllByRecursion P (given (if same then Deliver n else if below then Repeat n else if near then Hold n else Gap n) p)
    by_tests true below near = (new, tt)
    by_tests false true near = tt
    by_tests false false true = tt
    by_tests false false false = tt

all_met : (P : Numbered → Type 0) (next n : ℕ) (p : List ℕ) (ms : List Numbered) → P (record { number = n; payload = p })
    → AllByRecursion P ms → AllByRecursion P (held_as (seen_as next n) p ms)
all_met P next n p ms new all = by_tests (n == next) (nat_lt n next) (nat_le n (next + reach))
  where
    by_tests : (same below near : Bool)
        → AllByRecursion P (held_as (if same then Deliver n else if below then Repeat n else if near then Hold n else Gap n) p ms)
    by_tests true below near = all
    by_tests false true near = all
    by_tests false false true = all_holding P n p ms new all
    by_tests false false false = all

all_ready : (P : Numbered → Type 0) (n : ℕ) (ms : List Numbered) → AllByRecursion P ms → AllByRecursion P (ready n ms) × AllByRecursion P (waiting n ms)
all_ready P n [] all = (tt, tt)
all_ready P n (m ∷ ms) all = by_test (m.number == n) (all_ready P (n + 1) ms all.1)
  where
    by_test : (b : Bool) → AllByRecursion P (ready (n + 1) ms) × AllByRecursion P (waiting (n + 1) ms)
        → AllByRecursion P (if b then m ∷ ready (n + 1) ms else []) × AllByRecursion P (if b then waiting (n + 1) ms else m ∷ ms)
    by_test true later = ((all.0, later.0), later.1)
    by_test false later = (tt, all)

-- what holds of all that is held and of all that comes holds of what is taken, and of what is held behind it
all_taken : (P : Numbered → Type 0) (w : Holding) (ms : List Numbered) → AllByRecursion P w.held → AllByRecursion P ms
    → AllByRecursion P (taken w ms) × AllByRecursion P (kept w ms).held
all_taken P w [] held came = (tt, held)
all_taken P w (m ∷ ms) held came =
    let v = met w m in
    let still = all_met P w.next m.number m.payload w.held came.0 held in
    let parts = all_ready P v.next v.held still in
    let later = all_taken P (drained v) ms parts.1 came.1 in
    (all_append P _ _ (all_given P w.next m.number m.payload came.0) (all_append P _ _ parts.0 later.0), later.1)

all_themselves : (ms : List Numbered) → AllByRecursion (λ m. Contains ms m) ms
all_themselves [] = tt
all_themselves (m ∷ ms) =
    let later = all_weaker (λ x. Contains ms x) (λ x. Contains (m ∷ ms) x) (λ x c. Contains-append_right (m ∷ []) ms x c) ms (all_themselves ms) in
    ((0, omega arith, refl), later)

pub holds_what_came : HoldsWhatCame
holds_what_came w earlier ms held =
    let P = λ (m : Numbered). Contains (earlier ++ ms) m in
    let before = all_weaker (λ x. Contains earlier x) P (λ x c. Contains-append_left earlier ms x c) w.held held in
    let now = all_weaker (λ x. Contains ms x) P (λ x c. Contains-append_right earlier ms x c) ms (all_themselves ms) in
    all_taken P w ms before now

-- what is applied of a list of messages, and that nothing of it is skipped
applied_all : (ms : List Numbered) → applied (map apply ms) ≡ ms
applied_all [] = refl
applied_all (m ∷ ms) = ap (λ xs. m ∷ xs) (applied_all ms)

skips_none : (ms : List Numbered) → skips (map apply ms) ≡ []
skips_none [] = refl
skips_none (m ∷ ms) = skips_none ms

pub grows_with_window : GrowsWithWindow
grows_with_window w earlier ms inbox waits held =
    let got = taken w ms in
    let n = next_number inbox in
    let all : applied (map apply got) ≡ got = applied_all got in
    let counted : numbers_of got ≡ counts_from n (length got) =
    subst (λ k. numbers_of got ≡ counts_from k (length got)) (sym waits) (takes_in_order w ms) in
    let long : length (chain n ms) ≤ length got = subst (λ k. length (chain k ms) ≤ length got) (sym waits) (takes_chain w ms) in
    record {
      added = map apply got;
      behind = refl;
      none_skipped = skips_none got;
      consecutive = subst (λ xs. numbers_of xs ≡ counts_from n (length xs)) (sym all) counted;
      from_carried = subst (AllByRecursion (λ m. Contains (earlier ++ ms) m)) (sym all) (holds_what_came w earlier ms held).0;
      reaches = subst (λ xs. length (chain n ms) ≤ length xs) (sym all) long;
    }

-- the fronts, one after another
pub front_by_front : FrontByFront
front_by_front n [] = record { none = λ e. (refl, refl); some = λ m e. absurd (none-some m e); left = refl }
front_by_front n (m ∷ ms) = record { none = by_none (m.number == n); some = by_some (m.number == n); left = by_left (m.number == n) refl (front_by_front (n + 1) ms).left }
  where
    by_none : (b : Bool) → (if b then Some m else None) ≡ None
        → ((if b then m ∷ ready (n + 1) ms else []) ≡ []) × ((if b then waiting (n + 1) ms else m ∷ ms) ≡ m ∷ ms)
    by_none true e = absurd (none-some m (sym e))
    by_none false e = (refl, refl)

    by_some : (b : Bool) (x : Numbered) → (if b then Some m else None) ≡ Some x
        → ((if b then m ∷ ready (n + 1) ms else []) ≡ x ∷ ready (n + 1) ms) × ((if b then waiting (n + 1) ms else m ∷ ms) ≡ waiting (n + 1) ms)
    by_some true x e = (ap (λ o. unwrap_or o m ∷ ready (n + 1) ms) e, refl)
    by_some false x e = absurd (none-some x e)

    by_left : (b : Bool) → (m.number == n) ≡ b → front (n + 1 + length (ready (n + 1) ms)) (waiting (n + 1) ms) ≡ None
        → front (n + length (if b then m ∷ ready (n + 1) ms else [])) (if b then waiting (n + 1) ms else m ∷ ms) ≡ None
    by_left true same later = let far : n + 1 + length (ready (n + 1) ms) ≡ n + length (m ∷ ready (n + 1) ms) = omega arith in
        subst (λ k. front k (waiting (n + 1) ms) ≡ None) far later
    by_left false same later = let here : n ≡ n + 0 = omega arith in
        let none : front n (m ∷ ms) ≡ None = rw same refl in
        subst (λ k. front k (m ∷ ms) ≡ None) here none
