-- The laws of recoverable growth.
use Rattle.std.proofs.Common.{◌≡◌, ℕ, zero, suc, ◌+◌, ◌-◌, ◌≤◌, max, ◌==◌, Bool, true, false, if◌then◌else◌, List, [], ◌∷◌, ◌++◌, flat_map, length, drop, slice_get, Contains, Option, Some, None, refl, sym, ap, subst, ◌∙◌, arith, append_assoc, append-nil, length-append, eqb-true, eq-eqb, add-one, true≢false}
use Rattle.std.proofs.lemmas.List.Elements.{Contains-append_left, Contains-append_right}
use Rattle.std.specs.List.{AllByRecursion}
use mathlib.Core.List.{IsPrefix}
use Rattle.session_model.specs.Journal.{Entry, IsEntry, payloads, counts_from}
use Rattle.session_model.specs.Inbox.{Numbered, InboxRecord, applied, skips, settled, next_number, past_greatest, numbers_of, payloads_of, numbers_in}
use Rattle.session_model.specs.Events.{Event, standing, numbered}
use Rattle.session_model.specs.Growth.{chain, GrownInOrder, GrownRecoverable}
use Rattle.session_model.specs.Laws.{RecoverableConnections, RecoverableCounts, RecoverableKeepsPrefix}
use Rattle.session_model.proofs.Lists.{prefix_continued, all_weaker, all_append, all_contains, counts_from-add, past_greatest-pos, past_greatest-counts_from}
use Rattle.session_model.proofs.Inboxes.{applied-append, skips-append, numbers_of-append, payloads_of-append, length-payloads_of, next_number-append}
use Rattle.session_model.proofs.Numbering.{numbered-append}

-- how long the chain is over two parts: the second goes on where the first came to
reach-append : (n : ℕ) (first second : List Numbered)
    → length (chain n (first ++ second)) ≡ length (chain n first) + length (chain (n + length (chain n first)) second)
reach-append n [] second = omega (arith, ap (λ k. length (chain k second)) (add_zero' n))
  where
    add_zero' : (k : ℕ) → k + 0 ≡ k
    add_zero' k = omega arith
reach-append n (m ∷ first) second = by_test (m.number == n) (reach-append (n + 1) first second) (reach-append n first second)
  where
    by_test : (b : Bool)
        → length (chain (n + 1) (first ++ second)) ≡ length (chain (n + 1) first) + length (chain (n + 1 + length (chain (n + 1) first)) second)
        → length (chain n (first ++ second)) ≡ length (chain n first) + length (chain (n + length (chain n first)) second)
        → length (if b then m ∷ chain (n + 1) (first ++ second) else chain n (first ++ second))
        ≡ length (if b then m ∷ chain (n + 1) first else chain n first)
        + length (chain (n + length (if b then m ∷ chain (n + 1) first else chain n first)) second)
    by_test true there here =
        let same : n + 1 + length (chain (n + 1) first) ≡ n + suc (length (chain (n + 1) first)) = omega arith in
        omega (arith, there, ap (λ k. length (chain k second)) same)
    by_test false there here = here

-- a chain that begins d numbers further on is at most d shorter
reach_ahead : (n k d : ℕ) (ms : List Numbered) → k ≡ n + d → length (chain n ms) ≤ length (chain k ms) + d
reach_ahead n k d [] e = omega arith
reach_ahead n k d (m ∷ ms) e =
    by_tests d refl (m.number == n) (m.number == k) refl refl (reach_ahead (n + 1) (k + 1) d ms (omega arith)) (reach_ahead n (k + 1) (d + 1) ms (omega arith))
    (reach_ahead n k d ms e) (λ d' e'. reach_ahead (n + 1) k d' ms (omega arith))
  where
    by_tests : (j : ℕ) → d ≡ j → (b b' : Bool) → (m.number == n) ≡ b → (m.number == k) ≡ b'
        → length (chain (n + 1) ms) ≤ length (chain (k + 1) ms) + d
        → length (chain n ms) ≤ length (chain (k + 1) ms) + (d + 1)
        → length (chain n ms) ≤ length (chain k ms) + d
        → ((d' : ℕ) → d ≡ d' + 1 → length (chain (n + 1) ms) ≤ length (chain k ms) + d')
        → length (if b then m ∷ chain (n + 1) ms else chain n ms) ≤ length (if b' then m ∷ chain (k + 1) ms else chain k ms) + d
    by_tests zero z true false t t' both second neither first =
        let here : m.number ≡ n = eqb-true m.number n t in
        let there : m.number ≡ k = omega arith in
        absurd (true≢false (sym (eq-eqb m.number k there) ∙ t'))
    by_tests (suc d') z true false t t' both second neither first = omega (arith, first d' (omega arith))
    by_tests j z true true t t' both second neither first = omega arith
    by_tests j z false true t t' both second neither first = omega arith
    by_tests j z false false t t' both second neither first = neither

-- what consecutive numbers behind an inbox lead to
pub next_behind : (before after added : List InboxRecord) → after ≡ before ++ added → skips added ≡ []
    → numbers_of (applied added) ≡ counts_from (next_number before) (length (applied added)) → next_number after ≡ next_number before + length (applied added)
next_behind before after added e none consecutive =
    let n = next_number before in
    let k = length (applied added) in
    let own : settled added ≡ counts_from n k = ap (λ rs. numbers_of (applied added) ++ numbers_in rs) none ∙ (append-nil _ ∙ consecutive) in
    ap (λ i. next_number i) e ∙ (next_number-append before added ∙ (ap (λ ns. max n (past_greatest ns)) own ∙ past_greatest-counts_from n k (past_greatest-pos (settled before))))

-- an inbox that counts 1, 2, 3 and misses nothing waits for the number behind
pub next_of_counted : (inbox : List InboxRecord) → numbers_of (applied inbox) ≡ counts_from 1 (length (applied inbox)) → skips inbox ≡ []
    → next_number inbox ≡ length (applied inbox) + 1
next_of_counted inbox counted none =
    let k = length (applied inbox) in
    let own : settled inbox ≡ counts_from 1 k = ap (λ rs. numbers_of (applied inbox) ++ numbers_in rs) none ∙ (append-nil _ ∙ counted) in
    let least : 1 ≤ past_greatest (counts_from 1 k) = past_greatest-pos (counts_from 1 k) in
    let most : max 1 (past_greatest (counts_from 1 k)) ≡ 1 + k = past_greatest-counts_from 1 k (omega arith) in
    ap (λ ns. past_greatest ns) own ∙ omega arith

pub counted_behind : (before after added : List InboxRecord) → after ≡ before ++ added → skips added ≡ []
    → numbers_of (applied added) ≡ counts_from (next_number before) (length (applied added))
    → numbers_of (applied before) ≡ counts_from 1 (length (applied before)) → skips before ≡ []
    → (numbers_of (applied after) ≡ counts_from 1 (length (applied after))) × (skips after ≡ [])
counted_behind before after added e none consecutive counted whole =
    let a = length (applied before) in
    let b = length (applied added) in
    let both : applied after ≡ applied before ++ applied added = ap (λ i. applied i) e ∙ applied-append before added in
    let len : length (applied after) ≡ a + b = ap (λ ms. length ms) both ∙ length-append (applied before) (applied added) in
    let next : next_number before ≡ 1 + a = next_of_counted before counted whole ∙ omega arith in (
      ap (λ ms. numbers_of ms) both ∙ (numbers_of-append (applied before) (applied added)
          ∙ (ap (λ ns. ns ++ numbers_of (applied added)) counted ∙ (ap (λ ns. counts_from 1 a ++ ns) (consecutive ∙ ap (λ n. counts_from n b) next)
          ∙ (sym (counts_from-add 1 a b) ∙ ap (λ k. counts_from 1 k) (sym len))))),
      ap (λ i. skips i) e ∙ (skips-append before added ∙ (ap (λ rs. rs ++ skips added) whole ∙ none)),
    )

-- who holds nothing applies of what it carries now
pub in_order_held : (p q : List Numbered) (before after : List InboxRecord) → GrownInOrder [] q before after → GrownInOrder p q before after
in_order_held p q before after g = record {
  added = g.added;
  behind = g.behind;
  none_skipped = g.none_skipped;
  consecutive = g.consecutive;
  from_carried = all_weaker (λ m. Contains q m) (λ m. Contains (p ++ q) m) (λ m. Contains-append_right p q m) (applied g.added) g.from_carried;
  reaches = g.reaches;
}

in_order_goes_on : (p q : List Numbered) (before between after : List InboxRecord) → GrownInOrder [] p before between → GrownInOrder p q between after → GrownInOrder [] (p ++ q) before after
in_order_goes_on p q before between after g f =
    let n = next_number before in
    let a = length (applied g.added) in
    let b = length (applied f.added) in
    let next : next_number between ≡ n + a = next_behind before between g.added g.behind g.none_skipped g.consecutive in
    let both = applied-append g.added f.added in
    let len : length (applied (g.added ++ f.added)) ≡ a + b = ap (λ ms. length ms) both ∙ length-append (applied g.added) (applied f.added) in
    let reach : length (chain (n + length (chain n p)) q) ≤ length (chain (n + a) q) + (a - length (chain n p)) =
    reach_ahead (n + length (chain n p)) (n + a) (a - length (chain n p)) q (omega (arith, g.reaches)) in
    let second : length (chain (n + a) q) ≤ b = subst (λ k. length (chain k q) ≤ b) next f.reaches in
    record {
      added = g.added ++ f.added;
      behind = f.behind ∙ (ap (λ i. i ++ f.added) g.behind ∙ append_assoc before g.added f.added);
      none_skipped = skips-append g.added f.added ∙ (ap (λ rs. rs ++ skips f.added) g.none_skipped ∙ f.none_skipped);
      consecutive = ap (λ ms. numbers_of ms) both ∙ (numbers_of-append (applied g.added) (applied f.added)
          ∙ (ap (λ ns. ns ++ numbers_of (applied f.added)) g.consecutive ∙ (ap (λ ns. counts_from n a ++ ns) (f.consecutive ∙ ap (λ m. counts_from m b) next)
          ∙ (sym (counts_from-add n a b) ∙ ap (λ k. counts_from n k) (sym len)))));
      from_carried = subst (AllByRecursion (λ m. Contains (p ++ q) m)) (sym both)
          (all_append (λ m. Contains (p ++ q) m) (applied g.added) (applied f.added)
          (all_weaker (λ m. Contains p m) (λ m. Contains (p ++ q) m) (λ m. Contains-append_left p q m) (applied g.added) g.from_carried)
          f.from_carried);
      reaches = omega (arith, reach-append n p q, reach, second, len, g.reaches);
    }

pub recoverable_goes_on : (c : Option ℕ) (first second : List Event) (before between after : List InboxRecord)
    → GrownRecoverable c first before between → GrownInOrder (numbered c first) (numbered (standing c first) second) between after
    → GrownRecoverable c (first ++ second) before after
recoverable_goes_on c first second before between after g f =
    subst (λ ms. GrownInOrder [] ms before after) (sym (numbered-append c first second))
    (in_order_goes_on (numbered c first) (numbered (standing c first) second) before between after g f)

in_order_nothing : (before after : List InboxRecord) → after ≡ before → GrownInOrder [] [] before after
in_order_nothing before after e = record { added = []; behind = e ∙ sym (append-nil before); none_skipped = refl; consecutive = refl; from_carried = tt; reaches = omega arith }

pub recoverable_connections : RecoverableConnections
recoverable_connections [] before after g = in_order_nothing before after g
recoverable_connections (es ∷ later) before after g =
    in_order_goes_on (numbered None es) (flat_map (numbered None) later) before g.0 after g.1
    (in_order_held (numbered None es) (flat_map (numbered None) later) g.0 after (recoverable_connections later g.0 after g.2))

pub recoverable_counts : RecoverableCounts
recoverable_counts carried inbox through =
    let g = recoverable_connections carried [] inbox through in
    let c = counted_behind [] inbox g.added g.behind g.none_skipped g.consecutive refl refl in
    (c.0, next_of_counted inbox c.0 c.1)

-- consecutive messages that are entries of the journal are those that stand there
drop_get : {A : Type 0} (xs : List A) (k : ℕ) (x : A) → slice_get xs k ≡ Some x → drop k xs ≡ x ∷ drop (suc k) xs
drop_get [] k x h = absurd cc
drop_get (y ∷ ys) zero x h = cc h
drop_get (y ∷ ys) (suc k) x h = drop_get ys k x h

consecutive_entries : (h : List Entry) (k : ℕ) (ms : List Numbered) → numbers_of ms ≡ counts_from (k + 1) (length ms)
    → AllByRecursion (λ (m : Numbered). IsEntry h m.number m.payload) ms → IsPrefix (payloads_of ms) (drop k (payloads h))
consecutive_entries h k [] e all = (drop k (payloads h), refl)
consecutive_entries h k (m ∷ ms) e all =
    let number : m.number ≡ k + 1 = cc e in
    let rest = consecutive_entries h (k + 1) ms (cc e) all.1 in
    let place : m.number - 1 ≡ k = omega arith in
    let here : slice_get (payloads h) k ≡ Some m.payload = subst (λ j. slice_get (payloads h) j ≡ Some m.payload) place all.0.found in
    (rest.0, ap (λ ps. m.payload ∷ ps) (rest.1 ∙ ap (λ j. drop j (payloads h)) (add-one k)) ∙ sym (drop_get (payloads h) k m.payload here))

pub recoverable_keeps_prefix : RecoverableKeepsPrefix
recoverable_keeps_prefix h c es before after t g kept =
    let P : Numbered → Type 0 = λ m. IsEntry h m.number m.payload in
    let a = length (applied before) in
    let next = next_of_counted before kept.counted kept.whole in
    let all : AllByRecursion P (applied g.added) =
    all_weaker (λ m. Contains (numbered c es) m) P (λ m i. all_contains P (numbered c es) m t.entries i) (applied g.added) g.from_carried in
    let more = consecutive_entries h a (applied g.added) (g.consecutive ∙ ap (λ n. counts_from n (length (applied g.added))) next) all in
    let both : applied after ≡ applied before ++ applied g.added = ap (λ i. applied i) g.behind ∙ applied-append before g.added in
    let c' = counted_behind before after g.added g.behind g.none_skipped g.consecutive kept.counted kept.whole in
    record {
      prefix = subst (λ ps. IsPrefix ps (payloads h)) (sym (ap (λ ms. payloads_of ms) both ∙ payloads_of-append (applied before) (applied g.added)))
          (prefix_continued (payloads_of (applied before)) (payloads_of (applied g.added)) (payloads h) kept.prefix
          (subst (λ n. IsPrefix (payloads_of (applied g.added)) (drop n (payloads h))) (sym (length-payloads_of (applied before))) more));
      counted = c'.0;
      whole = c'.1;
    }
