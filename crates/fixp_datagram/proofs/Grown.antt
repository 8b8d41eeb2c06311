-- A datagram that is delivered grows an inbox as the session model has it.
use Rattle.std.proofs.Common.{◌≡◌, ℕ, zero, suc, ◌+◌, ◌-◌, ◌<◌, ◌≤◌, ◌==◌, max, nat_lt, nat_le, Bool, true, false, if◌then◌else◌, List, [], ◌∷◌, ◌++◌, map, length, take, drop, Contains, Some, None, unwrap_or, refl, sym, ap, subst, ◌∙◌, arith, eqb-true, append-nil, length-drop}
use Rattle.std.specs.List.{AllByRecursion}
use Rattle.std.proofs.lemmas.Bool.Decides.{nat_tests}
use Rattle.std.proofs.lemmas.List.{drop-drop, length-take}
use Rattle.std.proofs.lemmas.List.Elements.{Contains-append_right}
use Rattle.session_model.specs.Journal.{Entry, payloads, counts_from}
use Rattle.session_model.specs.Inbox.{Numbered, InboxRecord, apply, applied, skips, numbers_of, next_number}
use Rattle.session_model.specs.Events.{announce, in_flow, message, standing, TrueOfJournal}
use Rattle.session_model.specs.Growth.{recoverable, idempotent, chain, jump, jumps, NeverBack, Grown}
use Rattle.session_model.proofs.Lists.{all_weaker}
use Rattle.session_model.proofs.Inboxes.{applied-append, skips-append}
use Rattle.session_model.proofs.Numbering.{numbering_looks_back}
use Rattle.session_model.proofs.Recoverable.{next_behind}
use Rattle.session_model.proofs.Idempotent.{idempotent_settles}
use Rattle.session_model.proofs.Truth.{announced_entries_are_true}
use Rattle.flow_idem.specs.Applying.{jump_of}
use Rattle.fixp_datagram.specs.Datagrams.{Contents}
use Rattle.fixp_datagram.specs.Laws.{events_of, news}
use Rattle.fixp_datagram.proofs.Chained.{messages_from, chain_from, chain_none}
use Rattle.fixp_datagram.proofs.Started.{jump_records}

-- what is applied of messages, and that they skip nothing
pub applied_all : (ms : List Numbered) → applied (map apply ms) ≡ ms
applied_all [] = refl
applied_all (m ∷ ms) = ap (λ xs. m ∷ xs) (applied_all ms)

pub skips_none : (ms : List Numbered) → skips (map apply ms) ≡ []
skips_none [] = refl
skips_none (m ∷ ms) = skips_none ms

pub length-messages_from : (n : ℕ) (ps : List (List ℕ)) → length (messages_from n ps) ≡ length ps
length-messages_from n [] = refl
length-messages_from n (p ∷ ps) = ap suc (length-messages_from (n + 1) ps)

-- a chain has consecutive numbers
chain_counts : (n : ℕ) (ms : List Numbered) → numbers_of (chain n ms) ≡ counts_from n (length (chain n ms))
chain_counts n [] = refl
chain_counts n (m ∷ ms) = by_test (m.number == n) refl (chain_counts (n + 1) ms) (chain_counts n ms)
  where
    by_test : (b : Bool) → (m.number == n) ≡ b
        → numbers_of (chain (n + 1) ms) ≡ counts_from (n + 1) (length (chain (n + 1) ms)) → numbers_of (chain n ms) ≡ counts_from n (length (chain n ms))
        → numbers_of (if b then m ∷ chain (n + 1) ms else chain n ms) ≡ counts_from n (length (if b then m ∷ chain (n + 1) ms else chain n ms))
    by_test true t goes_on stays = ap (λ k. k ∷ numbers_of (chain (n + 1) ms)) (eqb-true m.number n t) ∙ ap (λ ks. n ∷ ks) goes_on
    by_test false t goes_on stays = stays

-- and is made of the messages that came
chain_contained : (n : ℕ) (ms : List Numbered) → AllByRecursion (λ m. Contains ms m) (chain n ms)
chain_contained n [] = tt
chain_contained n (m ∷ ms) = by_test (m.number == n) (later (n + 1) (chain_contained (n + 1) ms)) (later n (chain_contained n ms))
  where
    later : (k : ℕ) → AllByRecursion (λ x. Contains ms x) (chain k ms) → AllByRecursion (λ x. Contains (m ∷ ms) x) (chain k ms)
    later k all = all_weaker (λ x. Contains ms x) (λ x. Contains (m ∷ ms) x) (λ x c. Contains-append_right (m ∷ []) ms x c) (chain k ms) all

    by_test : (b : Bool) → AllByRecursion (λ x. Contains (m ∷ ms) x) (chain (n + 1) ms) → AllByRecursion (λ x. Contains (m ∷ ms) x) (chain n ms)
        → AllByRecursion (λ x. Contains (m ∷ ms) x) (if b then m ∷ chain (n + 1) ms else chain n ms)
    by_test true goes_on stays = ((0, omega arith, refl), goes_on)
    by_test false goes_on stays = stays

-- one place at most is reached: the chain's end is not past the datagram's
pub chain_reach : (next n : ℕ) (ps : List (List ℕ)) → next + length (chain next (messages_from n ps)) ≤ max next (n + length ps)
chain_reach next n ps = by_test (nat_le n next) refl
  where
    by_test : (b : Bool) → nat_le n next ≡ b → next + length (chain next (messages_from n ps)) ≤ max next (n + length ps)
    by_test true t =
        let within : n ≤ next = grind (arith, nat_tests) in
        omega (arith, within, ap length (chain_from next n ps within), length-messages_from next (drop (next - n) ps), length-drop (next - n) ps)
    by_test false t =
        let past : next < n = grind (arith, nat_tests) in
        omega (arith, past, ap length (chain_none next n ps past))

-- the records that a recoverable inbox adds
abbrev pub in_order : ℕ → Contents → List InboxRecord
in_order next d = map apply (chain next (messages_from d.first d.payloads))

consecutive_in : (next : ℕ) (d : Contents) → numbers_of (applied (in_order next d)) ≡ counts_from next (length (applied (in_order next d)))
consecutive_in next d =
    let ms = chain next (messages_from d.first d.payloads) in
    subst (λ xs. numbers_of xs ≡ counts_from next (length xs)) (sym (applied_all ms)) (chain_counts next (messages_from d.first d.payloads))

pub recoverable_step : (before : List InboxRecord) (d : Contents) → Grown recoverable None (events_of d) before (before ++ in_order (next_number before) d)
recoverable_step before d =
    let next = next_number before in
    let ms = messages_from d.first d.payloads in
    let all : applied (in_order next d) ≡ chain next ms = applied_all (chain next ms) in
    record {
      added = in_order next d;
      behind = refl;
      none_skipped = skips_none (chain next ms);
      consecutive = consecutive_in next d;
      from_carried = subst (AllByRecursion (λ m. Contains ms m)) (sym all) (chain_contained next ms);
      reaches = subst (λ xs. length (chain next ms) ≤ length xs) (sym all) (omega arith);
    }

pub recoverable_next : (before : List InboxRecord) (d : Contents)
    → next_number (before ++ in_order (next_number before) d) ≡ next_number before + length (chain (next_number before) (messages_from d.first d.payloads))
recoverable_next before d =
    let next = next_number before in
    let ms = chain next (messages_from d.first d.payloads) in
    next_behind before (before ++ in_order next d) (in_order next d) refl (skips_none ms) (consecutive_in next d)
    ∙ ap (λ xs. next + length xs) (applied_all ms)

-- the records that an idempotent inbox adds: what is jumped over, and the messages that are not behind the number reached
abbrev pub with_jump : ℕ → Contents → List InboxRecord
with_jump next d = jump_records (jump_of next d.first) ++ map apply (messages_from (max next d.first) (drop (next - d.first) d.payloads))

pub jump_applies : (next n : ℕ) → applied (jump_records (jump_of next n)) ≡ []
jump_applies next n = by_test (nat_lt next n)
  where
    by_test : (b : Bool) → applied (jump_records (if b then Some (record { from = next; count = n - next }) else None)) ≡ []
    by_test true = refl
    by_test false = refl

pub jump_skips : (next n : ℕ) → skips (jump_records (jump_of next n)) ≡ jump next (Some n)
jump_skips next n = by_test (nat_lt next n)
  where
    by_test : (b : Bool) → skips (jump_records (if b then Some (record { from = next; count = n - next }) else None))
        ≡ (if b then record { first = next; count = n - next } ∷ [] else [])
    by_test true = refl
    by_test false = refl

-- the jump to the greater of two numbers is that to the second
pub jump_to_greater : (next n : ℕ) → jump next (Some (max next n)) ≡ jump next (Some n)
jump_to_greater next n = by_test (nat_lt next n) refl
  where
    by_test : (b : Bool) → nat_lt next n ≡ b → jump next (Some (max next n)) ≡ jump next (Some n)
    by_test true t =
        let greater : max next n ≡ n = grind (arith, nat_tests) in
        ap (λ k. jump next (Some k)) greater
    by_test false t =
        let none : nat_lt next (max next n) ≡ false = grind (arith, nat_tests) in
        ap (λ b. if b then record { first = next; count = max next n - next } ∷ [] else []) none
        ∙ ap (λ b. if b then record { first = next; count = n - next } ∷ [] else []) (sym t)

messages_jump_nothing : (next n : ℕ) (ps : List (List ℕ)) → jumps next (Some n) (map message ps) ≡ []
messages_jump_nothing next n [] = refl
messages_jump_nothing next n (p ∷ ps) = messages_jump_nothing next (n + 1) ps

messages_never_back : (next n : ℕ) (ps : List (List ℕ)) → NeverBack next (Some n) (map message ps)
messages_never_back next n [] = tt
messages_never_back next n (p ∷ ps) = messages_never_back next (n + 1) ps

pub news_jumps : (next : ℕ) (d : Contents) → jumps next None (events_of (news next d)) ≡ jump next (Some d.first)
news_jumps next d =
    ap (λ rs. jump next (Some (max next d.first)) ++ rs) (messages_jump_nothing next (max next d.first) (drop (next - d.first) d.payloads))
    ∙ (append-nil (jump next (Some (max next d.first))) ∙ jump_to_greater next d.first)

pub idempotent_step : (before : List InboxRecord) (d : Contents)
    → Grown idempotent None (events_of (news (next_number before) d)) before (before ++ with_jump (next_number before) d)
idempotent_step before d =
    let next = next_number before in
    let ms = messages_from (max next d.first) (drop (next - d.first) d.payloads) in
    let jumped = jump_records (jump_of next d.first) in
    record {
      added = with_jump next d;
      behind = refl;
      agrees = tt;
      never_back = (omega arith, messages_never_back next (max next d.first) (drop (next - d.first) d.payloads));
      applies = applied-append jumped (map apply ms) ∙ (ap (λ xs. xs ++ applied (map apply ms)) (jump_applies next d.first) ∙ applied_all ms);
      skips_jumps = skips-append jumped (map apply ms)
          ∙ (ap (λ xs. skips jumped ++ xs) (skips_none ms)
          ∙ (append-nil (skips jumped) ∙ (jump_skips next d.first ∙ sym (news_jumps next d))));
    }

-- where the messages that are not behind lead
pub news_reach : (next n : ℕ) (ps : List (List ℕ)) → max next n + length (drop (next - n) ps) ≡ max next (n + length ps)
news_reach next n ps = omega (arith, length-drop (next - n) ps)

pub news_standing : (next : ℕ) (d : Contents) → standing None (events_of (news next d)) ≡ Some (max next (d.first + length d.payloads))
news_standing next d =
    numbering_looks_back None (Some (max next d.first)) in_flow [] (drop (next - d.first) d.payloads)
    ∙ ap (λ k. Some k) (news_reach next d.first d.payloads)

pub idempotent_next : (before : List InboxRecord) (d : Contents)
    → next_number (before ++ with_jump (next_number before) d) ≡ max (next_number before) (d.first + length d.payloads)
idempotent_next before d =
    let next = next_number before in
    let settled = idempotent_settles None (events_of (news next d)) before (before ++ with_jump next d) (idempotent_step before d) in
    settled.0 ∙ ap (λ o. unwrap_or o next) (news_standing next d)

-- a datagram of entries: so many from its first number on
pub record IsOf (h : List Entry) (d : Contents) : Type 0 where
  pub count : ℕ
  pub from_one : 1 ≤ d.first
  pub to_last : d.first + count ≤ length h + 1
  pub entries : d.payloads ≡ take count (drop (d.first - 1) (payloads h))

take_none : (k : ℕ) → let none : List (List ℕ) = [] in take k none ≡ none
take_none zero = refl
take_none (suc k) = refl

-- what is dropped of a beginning
drop_taken : (j k : ℕ) (xs : List (List ℕ)) → drop j (take k xs) ≡ take (k - j) (drop j xs)
drop_taken zero k xs = let same : k ≡ k - 0 = omega arith in ap (λ n. take n xs) same
drop_taken (suc j) zero xs = let none : 0 - suc j ≡ 0 = omega arith in sym (ap (λ n. take n (drop (suc j) xs)) none)
drop_taken (suc j) (suc k) [] = sym (take_none (suc k - suc j))
drop_taken (suc j) (suc k) (x ∷ xs) =
    let one : suc k - suc j ≡ k - j = omega arith in
    drop_taken j k xs ∙ ap (λ n. take n (drop j xs)) (sym one)

pub datagram_true : (h : List Entry) (d : Contents) → IsOf h d → TrueOfJournal h None (events_of d)
datagram_true h d of =
    subst (λ ps. TrueOfJournal h None (announce in_flow (Some d.first) ∷ map message ps)) (sym of.entries)
    (announced_entries_are_true h None in_flow d.first of.count of.from_one (omega (arith, of.to_last)))

-- what is not behind a number that the journal reaches is one of entries too
pub news_of : (h : List Entry) (next : ℕ) (d : Contents) → next ≤ length h + 1 → IsOf h d → IsOf h (news next d)
news_of h next d reach of =
    let j = next - d.first in
    let place : d.first - 1 + j ≡ max next d.first - 1 = omega (arith, of.from_one) in
    record {
      count = of.count - j;
      from_one = omega (arith, of.from_one);
      to_last = omega (arith, of.to_last, reach);
      entries = ap (drop j) of.entries
          ∙ (drop_taken j of.count (drop (d.first - 1) (payloads h))
          ∙ (ap (take (of.count - j)) (drop-drop j (d.first - 1) (payloads h))
          ∙ ap (λ k. take (of.count - j) (drop k (payloads h))) place));
    }

pub within_of : (h : List Entry) (d : Contents) → IsOf h d → d.first + length d.payloads ≤ length h + 1
within_of h d of = omega (arith, of.to_last, ap length of.entries, length-take of.count (drop (d.first - 1) (payloads h)))
