-- Beginnings of lists, lists of numbers, and what holds of each element.
use Rattle.std.proofs.Common.{◌≡◌, ℕ, zero, suc, ◌+◌, ◌≤◌, max, List, [], ◌∷◌, ◌++◌, map, filter, length, take, drop, slice_get, Some, Bool, refl, sym, ap, ◌∙◌, arith, append_assoc, append-nil, length-append, take-append-drop, Contains, add-zero, zero-add, suc-add}
use Rattle.std.proofs.lemmas.List.{map-append}
use Rattle.std.proofs.lemmas.List.Elements.{filter-append, All-contains, All-from_recursion}
use Rattle.std.proofs.lemmas.List.Sums.{sum_by-append}
use Rattle.std.specs.List.{AllByRecursion}
use mathlib.Core.List.{IsPrefix}
use Rattle.session_model.specs.Journal.{counts_from}
use Rattle.session_model.specs.Inbox.{past_greatest, times}

pub prefix_self : {A : Type 0} (xs : List A) → IsPrefix xs xs
prefix_self xs = ([], append-nil xs)

pub prefix_of_append : {A : Type 0} (xs ys : List A) → IsPrefix xs (xs ++ ys)
prefix_of_append xs ys = (ys, refl)

pub prefix_equal : {A : Type 0} (xs ys : List A) → xs ≡ ys → IsPrefix xs ys
prefix_equal xs ys e = ([], append-nil xs ∙ e)

pub prefix_trans : {A : Type 0} (xs ys zs : List A) → IsPrefix xs ys → IsPrefix ys zs → IsPrefix xs zs
prefix_trans xs ys zs p q = (p.0 ++ q.0, sym (append_assoc xs p.0 q.0) ∙ (ap (λ w. w ++ q.0) p.1 ∙ q.1))

pub prefix_length : {A : Type 0} (xs ys : List A) → IsPrefix xs ys → length xs ≤ length ys
prefix_length xs ys p = omega (arith, sym (ap length p.1) ∙ length-append xs p.0)

pub prefix_get : {A : Type 0} (xs ys : List A) (k : ℕ) (x : A) → IsPrefix xs ys → slice_get xs k ≡ Some x → slice_get ys k ≡ Some x
prefix_get [] ys k x p h = absurd cc
prefix_get (y ∷ xs) [] k x p h = absurd (cc (p.1))
prefix_get (y ∷ xs) (z ∷ ys) zero x p h = cc (p.1, h)
prefix_get (y ∷ xs) (z ∷ ys) (suc k) x p h = prefix_get xs ys k x (p.0, cc (p.1)) h

pub prefix_map : {A B : Type 0} (f : A → B) (xs ys : List A) → IsPrefix xs ys → IsPrefix (map f xs) (map f ys)
prefix_map f xs ys p = (map f p.0, sym (map-append f xs p.0) ∙ ap (λ zs. map f zs) p.1)

pub prefix_filter : {A : Type 0} (test : A → Bool) (xs ys : List A) → IsPrefix xs ys → IsPrefix (filter test xs) (filter test ys)
prefix_filter test xs ys p = (filter test p.0, sym (filter-append test xs p.0) ∙ ap (λ zs. filter test zs) p.1)

pub prefix_take : {A : Type 0} (n : ℕ) (xs : List A) → IsPrefix (take n xs) xs
prefix_take n xs = (drop n xs, take-append-drop n xs)

-- a beginning, continued by a beginning of what is left, is a beginning
pub prefix_continued : {A : Type 0} (xs more ys : List A) → IsPrefix xs ys → IsPrefix more (drop (length xs) ys) → IsPrefix (xs ++ more) ys
prefix_continued [] more ys p q = q
prefix_continued (x ∷ xs) more [] p q = absurd (cc (p.1))
prefix_continued (x ∷ xs) more (y ∷ ys) p q =
    let r = prefix_continued xs more ys (p.0, cc (p.1)) q in
    (r.0, cc (p.1, r.1))

pub drop_length : {A : Type 0} (xs ys : List A) → drop (length xs) (xs ++ ys) ≡ ys
drop_length [] ys = refl
drop_length (x ∷ xs) ys = drop_length xs ys

pub all_weaker : {A : Type 0} (P Q : A → Type 0) → ((x : A) → P x → Q x) → (xs : List A) → AllByRecursion P xs → AllByRecursion Q xs
all_weaker P Q f [] a = tt
all_weaker P Q f (x ∷ xs) a = (f x a.0, all_weaker P Q f xs a.1)

pub all_append : {A : Type 0} (P : A → Type 0) (xs ys : List A) → AllByRecursion P xs → AllByRecursion P ys → AllByRecursion P (xs ++ ys)
all_append P [] ys a b = b
all_append P (x ∷ xs) ys a b = (a.0, all_append P xs ys a.1 b)

pub all_first : {A : Type 0} (P : A → Type 0) (xs ys : List A) → AllByRecursion P (xs ++ ys) → AllByRecursion P xs
all_first P [] ys a = tt
all_first P (x ∷ xs) ys a = (a.0, all_first P xs ys a.1)

pub all_second : {A : Type 0} (P : A → Type 0) (xs ys : List A) → AllByRecursion P (xs ++ ys) → AllByRecursion P ys
all_second P [] ys a = a
all_second P (x ∷ xs) ys a = all_second P xs ys a.1

pub all_contains : {A : Type 0} (P : A → Type 0) (xs : List A) (x : A) → AllByRecursion P xs → Contains xs x → P x
all_contains P xs x a c = All-contains P xs x (All-from_recursion P xs a) c

pub length-counts_from : (n k : ℕ) → length (counts_from n k) ≡ k
length-counts_from n zero = refl
length-counts_from n (suc k) = ap suc (length-counts_from (n + 1) k)

pub counts_from-add : (n j k : ℕ) → counts_from n (j + k) ≡ counts_from n j ++ counts_from (n + j) k
counts_from-add n zero k = ap (λ m. counts_from n m) (zero-add k) ∙ ap (λ m. counts_from m k) (sym (add-zero n))
counts_from-add n (suc j) k =
    let front : counts_from n (suc j + k) ≡ n ∷ counts_from (n + 1) (j + k) = ap (λ m. counts_from n m) (suc-add j k) in
    let same : n + 1 + j ≡ n + suc j = omega arith in
    front ∙ ap (λ ms. n ∷ ms) (counts_from-add (n + 1) j k ∙ ap (λ m. counts_from (n + 1) j ++ counts_from m k) same)

pub times-append : (n : ℕ) (xs ys : List ℕ) → times n (xs ++ ys) ≡ times n xs + times n ys
times-append n xs ys = sum_by-append _ xs ys

pub past_greatest-pos : (ns : List ℕ) → 1 ≤ past_greatest ns
past_greatest-pos [] = omega arith
past_greatest-pos (n ∷ ns) = omega (arith, past_greatest-pos ns)

pub past_greatest-append : (ms ns : List ℕ) → past_greatest (ms ++ ns) ≡ max (past_greatest ms) (past_greatest ns)
past_greatest-append [] ns = omega (arith, past_greatest-pos ns)
past_greatest-append (m ∷ ms) ns = omega (arith, past_greatest-append ms ns)

-- k numbers from n on lead to n + k
pub past_greatest-counts_from : (n k : ℕ) → 1 ≤ n → max n (past_greatest (counts_from n k)) ≡ n + k
past_greatest-counts_from n zero h = omega arith
past_greatest-counts_from n (suc k) h = omega (arith, past_greatest-counts_from (n + 1) k (omega arith))
