-- What a receiver delivers is the chain of the numbered messages, and an inbox that applies it grows as a recoverable one.
use Rattle.std.proofs.Common.{◌≡◌, ℕ, ◌+◌, ◌≤◌, ◌==◌, nat_lt, nat_le, Bool, true, false, if◌then◌else◌, List, [], ◌∷◌, ◌++◌, map, length, Contains, Option, Some, None, refl, sym, ap, subst, ◌∙◌, arith, eqb-true}
use Rattle.std.proofs.lemmas.List.Elements.{Contains-append_right}
use Rattle.std.specs.List.{AllByRecursion}
use Rattle.session_model.specs.Journal.{counts_from}
use Rattle.session_model.specs.Inbox.{Numbered, apply, applied, skips, numbers_of, next_number}
use Rattle.session_model.specs.Events.{numbered}
use Rattle.session_model.specs.Growth.{chain}
use Rattle.session_model.proofs.Lists.{all_weaker}
use Rattle.flow_recover.specs.declared.numbers.Seen.TheVariants.{Deliver, Hold, Gap, Repeat}
use Rattle.flow_recover.specs.Receiving.{reach, announced, retransmitted, number, seen_as, after_message}
use Rattle.flow_recover.specs.Laws.{announcement, retransmission, message, event_of, given, delivered, DeliversChain, GrowsRecoverable}

-- one message more: it is delivered exactly where the chain goes on with it
delivers_one : (next n : ℕ) (payload : List ℕ) (later rest : List Numbered)
    → rest ≡ chain (if n == next then next + 1 else next) later
    → given (seen_as next n) payload ++ rest ≡ chain next (record { number = n; payload = payload } ∷ later)
delivers_one next n payload later rest e = by_tests (n == next) (nat_lt n next) (nat_le n (next + reach)) e
  where
    by_tests : (same below near : Bool) → rest ≡ chain (if same then next + 1 else next) later
        → given (if same then Deliver n else if below then Repeat n else if near then Hold n else Gap n) payload ++ rest
        ≡ (if same then record { number = n; payload = payload } ∷ chain (next + 1) later else chain next later)
    by_tests true below near e = ap (λ ms. record { number = n; payload = payload } ∷ ms) e
    by_tests false true near e = e
    by_tests false false true e = e
    by_tests false false false e = e

-- a message takes one number
pub number_counted : (next live : ℕ) (again : Option ℕ)
    → number (after_message (record { next = next; live = live; again = again })) ≡ number (record { next = next; live = live; again = again }) + 1
number_counted next live None = refl
number_counted next live (Some n) = refl

pub next_counted : (next live : ℕ) (again : Option ℕ)
    → (after_message (record { next = next; live = live; again = again })).next
    ≡ (if number (record { next = next; live = live; again = again }) == next then next + 1 else next)
next_counted next live None = refl
next_counted next live (Some n) = refl

pub delivers_chain : DeliversChain
delivers_chain r [] = refl
delivers_chain r (announcement who n ∷ later) = delivers_chain (announced r n) later
delivers_chain r (retransmission n ∷ later) = delivers_chain (retransmitted r n) later
delivers_chain r (message payload ∷ later) =
    let behind = after_message r in
    let es = map event_of later in
    let rest : delivered behind later ≡ chain (if number r == r.next then r.next + 1 else r.next) (numbered (Some (number r + 1)) es) =
    delivers_chain behind later ∙ (ap (λ n. chain n (numbered (Some (number behind)) es)) (next_counted r.next r.live r.again)
    ∙ ap (λ k. chain (if number r == r.next then r.next + 1 else r.next) (numbered (Some k) es)) (number_counted r.next r.live r.again)) in
    delivers_one r.next (number r) payload (numbered (Some (number r + 1)) es) (delivered behind later) rest

-- what is applied of a list of messages, and that nothing of it is skipped
applied_all : (ms : List Numbered) → applied (map apply ms) ≡ ms
applied_all [] = refl
applied_all (m ∷ ms) = ap (λ xs. m ∷ xs) (applied_all ms)

skips_none : (ms : List Numbered) → skips (map apply ms) ≡ []
skips_none [] = refl
skips_none (m ∷ ms) = skips_none ms

-- a chain has consecutive numbers
chain_counts : (n : ℕ) (ms : List Numbered) → numbers_of (chain n ms) ≡ counts_from n (length (chain n ms))
chain_counts n [] = refl
chain_counts n (m ∷ ms) = by_test (m.number == n) refl (chain_counts (n + 1) ms) (chain_counts n ms)
  where
    by_test : (b : Bool) → (m.number == n) ≡ b
        → numbers_of (chain (n + 1) ms) ≡ counts_from (n + 1) (length (chain (n + 1) ms)) → numbers_of (chain n ms) ≡ counts_from n (length (chain n ms))
        → numbers_of (if b then m ∷ chain (n + 1) ms else chain n ms) ≡ counts_from n (length (if b then m ∷ chain (n + 1) ms else chain n ms))
    by_test true t goes_on stays = ap (λ k. k ∷ numbers_of (chain (n + 1) ms)) (eqb-true m.number n t) ∙ ap (λ ks. n ∷ ks) goes_on
    by_test false t goes_on stays = stays

-- and is made of the messages that came
chain_contained : (n : ℕ) (ms : List Numbered) → AllByRecursion (λ m. Contains ms m) (chain n ms)
chain_contained n [] = tt
chain_contained n (m ∷ ms) = by_test (m.number == n) (later (n + 1) (chain_contained (n + 1) ms)) (later n (chain_contained n ms))
  where
    later : (k : ℕ) → AllByRecursion (λ x. Contains ms x) (chain k ms) → AllByRecursion (λ x. Contains (m ∷ ms) x) (chain k ms)
    later k all = all_weaker (λ x. Contains ms x) (λ x. Contains (m ∷ ms) x) (λ x c. Contains-append_right (m ∷ []) ms x c) (chain k ms) all

    by_test : (b : Bool) → AllByRecursion (λ x. Contains (m ∷ ms) x) (chain (n + 1) ms) → AllByRecursion (λ x. Contains (m ∷ ms) x) (chain n ms)
        → AllByRecursion (λ x. Contains (m ∷ ms) x) (if b then m ∷ chain (n + 1) ms else chain n ms)
    by_test true goes_on stays = ((0, omega arith, refl), goes_on)
    by_test false goes_on stays = stays

-- what is applied of an inbox that is grown by messages alone
pub grows_recoverable : GrowsRecoverable
grows_recoverable r arrivals inbox waits =
    let ms = numbered (Some (number r)) (map event_of arrivals) in
    let n = next_number inbox in
    let all : applied (map apply (delivered r arrivals)) ≡ chain n ms =
    applied_all (delivered r arrivals) ∙ (delivers_chain r arrivals ∙ ap (λ k. chain k ms) (sym waits)) in
    record {
      added = map apply (delivered r arrivals);
      behind = refl;
      none_skipped = skips_none (delivered r arrivals);
      consecutive = subst (λ xs. numbers_of xs ≡ counts_from n (length xs)) (sym all) (chain_counts n ms);
      from_carried = subst (AllByRecursion (λ m. Contains ms m)) (sym all) (chain_contained n ms);
      reaches = subst (λ xs. length (chain n ms) ≤ length xs) (sym all) (omega arith);
    }
