-- What lines give that were answered.
use Rattle.std.proofs.Common.{◌≡◌, ◌⊎◌, inl, inr, ℕ, zero, suc, ◌+◌, ◌<◌, ◌≤◌, ◌^◌, ◌==◌, Bool, true, false, cond, if◌then◌else◌, List, [], ◌∷◌, ◌++◌, length, drop, map, slice_index_or, refl, sym, ap, subst, ◌∙◌, arith}
use Rattle.std.specs.Prelude.{All}
use Rattle.std.proofs.lemmas.Bool.Decides.{nat_tests}
use Rattle.std.proofs.lemmas.List.Elements.{All-head, All-tail}
use Rattle.session_model.specs.Journal.{Entry, payloads, entries_of, counts_from}
use Rattle.plan_text.specs.Plans.{Gift, Gives, AreGiven, payloads_of_sender}
use Rattle.plan_feed.proofs.Lines.{wrong_gives_nothing, givers_are_short, gives_once}
use Rattle.conn_accepted.specs.declared.why.Why.{Why}
use Rattle.conn_accepted.specs.declared.why.Why.TheVariants.{Wrong, TooLong, Full, Closed, Failed, Memory}
use Rattle.conn_feed.specs.Words.{Word, accepted, refused, alike, entries_in, CameOfEach, IsClear}
use Rattle.conn_feed.specs.Fed.{gifts_to}
use Rattle.fed_laws.specs.Given.{GivesNone, GiveThese, fed_plan, fed_plans}

-- what they give
abbrev pub gifts_of : (n : ℕ) (lines : List (List ℕ)) (ws : List Word) → CameOfEach n lines ws → List Gift
gifts_of n [] [] c = []
gifts_of n [] (w ∷ ws) c = absurd c
gifts_of n (line ∷ lines) [] c = absurd c
gifts_of n (line ∷ lines) (accepted k e ∷ ws) c = record { sender = e.sender; payload = e.payload } ∷ gifts_of n lines ws c.1
gifts_of n (line ∷ lines) (refused (Wrong wrong) ∷ ws) c = gifts_of n lines ws c.1
gifts_of n (line ∷ lines) (refused TooLong ∷ ws) c = gifts_of n lines ws c.1
gifts_of n (line ∷ lines) (refused Full ∷ ws) c = c.0.0 ∷ gifts_of n lines ws c.1
gifts_of n (line ∷ lines) (refused Closed ∷ ws) c = c.0.0 ∷ gifts_of n lines ws c.1
gifts_of n (line ∷ lines) (refused Failed ∷ ws) c = c.0.0 ∷ gifts_of n lines ws c.1
gifts_of n (line ∷ lines) (refused Memory ∷ ws) c = c.0.0 ∷ gifts_of n lines ws c.1

none_more : (n : ℕ) (line : List ℕ) (lines : List (List ℕ)) (gs : List Gift) → GivesNone n line → GiveThese n lines gs → GiveThese n (line ∷ lines) gs
none_more n line lines [] none g = (none, g)
none_more n line lines (x ∷ gs) none g = inl (none, g)

too_long : (n : ℕ) → 65536 ≤ n → n ≤ 32778 → ⊥
too_long n least most = omega (arith, least, most)

pub give_these : (n : ℕ) (lines : List (List ℕ)) (ws : List Word) (c : CameOfEach n lines ws) → n < 2 ^ 16 → GiveThese n lines (gifts_of n lines ws c)
give_these n [] [] c few = tt
give_these n [] (w ∷ ws) c few = absurd c
give_these n (line ∷ lines) [] c few = absurd c
give_these n (line ∷ lines) (accepted k e ∷ ws) c few = inr (c.0, give_these n lines ws c.1 few)
give_these n (line ∷ lines) (refused (Wrong wrong) ∷ ws) c few =
    none_more n line lines (gifts_of n lines ws c.1) (λ g gives. wrong_gives_nothing n line wrong g few c.0 gives) (give_these n lines ws c.1 few)
give_these n (line ∷ lines) (refused TooLong ∷ ws) c few =
    none_more n line lines (gifts_of n lines ws c.1) (λ g gives. too_long (length line) c.0 (givers_are_short n line g few gives)) (give_these n lines ws c.1 few)
give_these n (line ∷ lines) (refused Full ∷ ws) c few = inr (c.0.1, give_these n lines ws c.1 few)
give_these n (line ∷ lines) (refused Closed ∷ ws) c few = inr (c.0.1, give_these n lines ws c.1 few)
give_these n (line ∷ lines) (refused Failed ∷ ws) c few = inr (c.0.1, give_these n lines ws c.1 few)
give_these n (line ∷ lines) (refused Memory ∷ ws) c few = inr (c.0.1, give_these n lines ws c.1 few)

-- ---- accepted ones first

-- what came of the lines behind the first ones
abbrev pub came_behind : (n : ℕ) (before tail : List Word) (lines : List (List ℕ)) → CameOfEach n lines (before ++ tail) → CameOfEach n (drop (length before) lines) tail
came_behind n [] tail lines c = c
came_behind n (w ∷ ws) tail [] c = absurd c
came_behind n (w ∷ ws) tail (line ∷ lines) c = came_behind n ws tail lines c.1

one_gift : (b : Bool) (e : Entry) (ps : List (List ℕ)) (es : List Entry) (rest : List (List ℕ)) → ps ≡ payloads es ++ rest → (if b then e.payload ∷ ps else ps) ≡ payloads (cond b (e ∷ es) es) ++ rest
one_gift true e ps es rest h = ap (λ (qs : List (List ℕ)). e.payload ∷ qs) h
one_gift false e ps es rest h = h

-- a sender is given what was accepted of it, and then what the lines behind give it
pub parted : (n s : ℕ) (before tail : List Word) (lines : List (List ℕ)) (c : CameOfEach n lines (before ++ tail)) → All IsClear before
    → payloads_of_sender s (gifts_of n lines (before ++ tail) c)
    ≡ payloads (entries_of (entries_in before) s) ++ payloads_of_sender s (gifts_of n (drop (length before) lines) tail (came_behind n before tail lines c))
parted n s [] tail lines c clear = refl
parted n s (w ∷ ws) tail [] c clear = absurd c
parted n s (accepted k e ∷ ws) tail (line ∷ lines) c clear =
    one_gift (e.sender == s) e (payloads_of_sender s (gifts_of n lines (ws ++ tail) c.1)) (entries_of (entries_in ws) s)
    (payloads_of_sender s (gifts_of n (drop (length ws) lines) tail (came_behind n ws tail lines c.1))) (parted n s ws tail lines c.1 (All-tail IsClear (accepted k e) ws clear))
parted n s (refused (Wrong wrong) ∷ ws) tail (line ∷ lines) c clear = parted n s ws tail lines c.1 (All-tail IsClear (refused (Wrong wrong)) ws clear)
parted n s (refused TooLong ∷ ws) tail (line ∷ lines) c clear = parted n s ws tail lines c.1 (All-tail IsClear (refused TooLong) ws clear)
parted n s (refused Full ∷ ws) tail (line ∷ lines) c clear = absurd (All-head IsClear (refused Full) ws clear)
parted n s (refused Closed ∷ ws) tail (line ∷ lines) c clear = absurd (All-head IsClear (refused Closed) ws clear)
parted n s (refused Failed ∷ ws) tail (line ∷ lines) c clear = absurd (All-head IsClear (refused Failed) ws clear)
parted n s (refused Memory ∷ ws) tail (line ∷ lines) c clear = absurd (All-head IsClear (refused Memory) ws clear)

-- ---- what was refused behind them

-- none was
pub none_given : (n : ℕ) (lines : List (List ℕ)) (c : CameOfEach n lines []) → gifts_of n lines [] c ≡ []
none_given n [] c = refl
none_given n (line ∷ lines) c = absurd c

none_failed : (n s : ℕ) (lines ps : List (List ℕ)) (c : CameOfEach n lines []) → AreGiven n lines (gifts_to s ps) → gifts_of n lines [] c ≡ gifts_to s ps
none_failed n s [] [] c given = refl
none_failed n s [] (p ∷ ps) c given = absurd given
none_failed n s (line ∷ lines) ps c given = absurd c

-- lines that give payloads to one sender give these, whatever was said of them
pub alike_given : (n s : ℕ) (why : Why) (count : ℕ) (lines ps : List (List ℕ)) (c : CameOfEach n lines (alike why count)) → n < 2 ^ 16 → AreGiven n lines (gifts_to s ps)
    → gifts_of n lines (alike why count) c ≡ gifts_to s ps
alike_given n s why zero lines ps c few given = none_failed n s lines ps c given
alike_given n s why (suc count) [] ps c few given = absurd c
alike_given n s why (suc count) (line ∷ lines) [] c few given = absurd given
alike_given n s (Wrong wrong) (suc count) (line ∷ lines) (p ∷ ps) c few given = absurd (wrong_gives_nothing n line wrong (record { sender = s; payload = p }) few c.0 given.0)
alike_given n s TooLong (suc count) (line ∷ lines) (p ∷ ps) c few given = absurd (too_long (length line) c.0 (givers_are_short n line (record { sender = s; payload = p }) few given.0))
alike_given n s Full (suc count) (line ∷ lines) (p ∷ ps) c few given =
    let one : c.0.0 ≡ record { sender = s; payload = p } = gives_once n line c.0.0 (record { sender = s; payload = p }) few c.0.1 given.0 in
    ap (λ (g : Gift). g ∷ gifts_of n lines (alike Full count) c.1) one
    ∙ ap (λ (gs : List Gift). record { sender = s; payload = p } ∷ gs) (alike_given n s Full count lines ps c.1 few given.1)
alike_given n s Closed (suc count) (line ∷ lines) (p ∷ ps) c few given =
    let one : c.0.0 ≡ record { sender = s; payload = p } = gives_once n line c.0.0 (record { sender = s; payload = p }) few c.0.1 given.0 in
    ap (λ (g : Gift). g ∷ gifts_of n lines (alike Closed count) c.1) one
    ∙ ap (λ (gs : List Gift). record { sender = s; payload = p } ∷ gs) (alike_given n s Closed count lines ps c.1 few given.1)
alike_given n s Failed (suc count) (line ∷ lines) (p ∷ ps) c few given =
    let one : c.0.0 ≡ record { sender = s; payload = p } = gives_once n line c.0.0 (record { sender = s; payload = p }) few c.0.1 given.0 in
    ap (λ (g : Gift). g ∷ gifts_of n lines (alike Failed count) c.1) one
    ∙ ap (λ (gs : List Gift). record { sender = s; payload = p } ∷ gs) (alike_given n s Failed count lines ps c.1 few given.1)
alike_given n s Memory (suc count) (line ∷ lines) (p ∷ ps) c few given =
    let one : c.0.0 ≡ record { sender = s; payload = p } = gives_once n line c.0.0 (record { sender = s; payload = p }) few c.0.1 given.0 in
    ap (λ (g : Gift). g ∷ gifts_of n lines (alike Memory count) c.1) one
    ∙ ap (λ (gs : List Gift). record { sender = s; payload = p } ∷ gs) (alike_given n s Memory count lines ps c.1 few given.1)

same_number : (s : ℕ) → (s == s) ≡ true
same_number s = grind (arith, nat_tests)

pub gifts_own : (s : ℕ) (ps : List (List ℕ)) → payloads_of_sender s (gifts_to s ps) ≡ ps
gifts_own s [] = refl
gifts_own s (p ∷ ps) = rw (same_number s) (ap (λ (qs : List (List ℕ)). p ∷ qs) (gifts_own s ps))

-- ---- plans

counted : (f : ℕ → List (List ℕ)) (m n k : ℕ) → k < n → slice_index_or (map f (counts_from m n)) k [] ≡ f (m + k)
counted f m zero k lt = absurd (omega (arith, lt))
counted f m (suc n) zero lt = let e : m ≡ m + 0 = omega arith in ap f e
counted f m (suc n) (suc k) lt = let e : m + 1 + k ≡ m + suc k = omega arith in counted f (m + 1) n k (omega (arith, lt)) ∙ ap f e

pub plan_at : (count : ℕ) (made : List Entry) (gifts : List Gift) (k : ℕ) → k < count → slice_index_or (fed_plans count made gifts) k [] ≡ fed_plan made gifts (suc k)
plan_at count made gifts k lt = let e : 1 + k ≡ suc k = omega arith in counted (λ (s : ℕ). fed_plan made gifts s) 1 count k lt ∙ ap (λ (s : ℕ). fed_plan made gifts s) e

counts_long : (m n : ℕ) → length (counts_from m n) ≡ n
counts_long m zero = refl
counts_long m (suc n) = ap suc (counts_long (m + 1) n)

map_long : (f : ℕ → List (List ℕ)) (xs : List ℕ) → length (map f xs) ≡ length xs
map_long f [] = refl
map_long f (x ∷ xs) = ap suc (map_long f xs)

pub plans_long : (count : ℕ) (made : List Entry) (gifts : List Gift) → length (fed_plans count made gifts) ≡ count
plans_long count made gifts = map_long (λ (s : ℕ). fed_plan made gifts s) (counts_from 1 count) ∙ counts_long 1 count
