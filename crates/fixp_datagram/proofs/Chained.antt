-- What the messages of a datagram have delivered is the chain of its numbered messages from the number waited for.
use Rattle.std.proofs.Common.{◌≡◌, ℕ, zero, suc, ◌+◌, ◌-◌, ◌<◌, ◌≤◌, ◌==◌, max, nat_lt, Bool, true, false, if◌then◌else◌, List, [], ◌∷◌, ◌++◌, map, length, drop, Some, refl, sym, ap, ◌∙◌, arith, eqb-true}
use Rattle.std.proofs.lemmas.Bool.Decides.{nat_tests}
use Rattle.std.proofs.lemmas.Grind.{flat_map-append}
use Rattle.session_model.specs.Inbox.{Numbered, apply}
use Rattle.session_model.specs.Events.{message, numbered}
use Rattle.session_model.specs.Growth.{chain}
use Rattle.fixp_msgs.specs.declared.flow.Flow.{Flow}
use Rattle.fixp_datagram.specs.declared.receiver.DgSeen.TheVariants.{Deliver, Late, Gap, TooLarge}
use Rattle.fixp_datagram.specs.Receiving.{Receiver, seen, seen_as, counted}
use Rattle.fixp_datagram.specs.Delivering.{Report, told, told_all, counted_all, records_of, recorded}

-- a receiver inside a datagram, whose next message has the number n
abbrev pub inside : Flow → (next most known n : ℕ) → Receiver
inside flow next most known n = record { flow = flow; next = next; most = most; known = known; counting = Some n }

-- the messages of a datagram, numbered from n on
abbrev pub messages_from : ℕ → List (List ℕ) → List Numbered
messages_from n ps = numbered (Some n) (map message ps)

-- the number waited for behind a message
abbrev next_after : (next n : ℕ) → ℕ
next_after next n = if n == next then next + 1 else next

-- a message that is not too large
not_larger : (most n : ℕ) → n ≤ most → nat_lt most n ≡ false
not_larger most n h = grind (arith, nat_tests)

counted_inside : (flow : Flow) (next most known n : ℕ) → n ≤ most
    → counted (inside flow next most known n) ≡ inside flow (next_after next n) most (max known (n + 1)) (n + 1)
counted_inside flow next most known n h =
    ap (λ (b : Bool). if b then inside flow next most known n else inside flow (next_after next n) most (max known (n + 1)) (n + 1)) (not_larger most n h)

seen_inside : (most next n : ℕ) → n ≤ most
    → seen_as most next n ≡ (if n == next then Deliver n else if nat_lt n next then Late n else Gap n)
seen_inside most next n h =
    ap (λ (b : Bool). if b then TooLarge n else if n == next then Deliver n else if nat_lt n next then Late n else Gap n) (not_larger most n h)

-- one message more: it is delivered exactly where the chain goes on with it
one_more : (next n : ℕ) (p : List ℕ) (later : List Numbered)
    → recorded (told (if n == next then Deliver n else if nat_lt n next then Late n else Gap n) p) ++ map apply (chain (next_after next n) later)
    ≡ map apply (chain next (record { number = n; payload = p } ∷ later))
one_more next n p later = by_tests (n == next) (nat_lt n next)
  where
    by_tests : (same below : Bool)
        → recorded (told (if same then Deliver n else if below then Late n else Gap n) p) ++ map apply (chain (if same then next + 1 else next) later)
        ≡ map apply (if same then record { number = n; payload = p } ∷ chain (next + 1) later else chain next later)
    by_tests true below = refl
    by_tests false true = refl
    by_tests false false = refl

pub recorded-append : (first second : List Report) → recorded (first ++ second) ≡ recorded first ++ recorded second
recorded-append first second = flat_map-append records_of first second

-- over the messages of a datagram, none of which is too large
pub told_chain : (flow : Flow) (next most known n : ℕ) (ps : List (List ℕ)) → n + length ps ≤ most + 1
    → recorded (told_all (inside flow next most known n) ps) ≡ map apply (chain next (messages_from n ps))
told_chain flow next most known n [] h = refl
told_chain flow next most known n (p ∷ ps) h =
    let here : n ≤ most = omega arith in
    let r : Receiver = inside flow next most known n in
    let behind : Receiver = inside flow (next_after next n) most (max known (n + 1)) (n + 1) in
    recorded-append (told (seen r) p) (told_all (counted r) ps)
    ∙ (ap (λ s. recorded (told s p) ++ recorded (told_all (counted r) ps)) (seen_inside most next n here)
    ∙ (ap (λ r'. recorded (told (if n == next then Deliver n else if nat_lt n next then Late n else Gap n) p) ++ recorded (told_all r' ps)) (counted_inside flow next most known n here)
    ∙ (ap (λ rs. recorded (told (if n == next then Deliver n else if nat_lt n next then Late n else Gap n) p) ++ rs) (told_chain flow (next_after next n) most (max known (n + 1)) (n + 1) ps (omega arith))
    ∙ one_more next n p (messages_from (n + 1) ps))))

-- the receiver behind them: the same but for its numbers, and waiting behind the chain
pub record Behind (flow : Flow) (next most : ℕ) (ms : List Numbered) (r : Receiver) : Type 0 where
  pub same_flow : r.flow ≡ flow
  pub same_most : r.most ≡ most
  pub waits : r.next ≡ next + length (chain next ms)

chain_longer : (next n : ℕ) (p : List ℕ) (later : List Numbered)
    → next_after next n + length (chain (next_after next n) later) ≡ next + length (chain next (record { number = n; payload = p } ∷ later))
chain_longer next n p later = by_test (n == next)
  where
    by_test : (same : Bool)
        → (if same then next + 1 else next) + length (chain (if same then next + 1 else next) later)
        ≡ next + length (if same then record { number = n; payload = p } ∷ chain (next + 1) later else chain next later)
    by_test true = omega arith
    by_test false = refl

pub counted_behind : (flow : Flow) (next most known n : ℕ) (ps : List (List ℕ)) → n + length ps ≤ most + 1
    → Behind flow next most (messages_from n ps) (counted_all (inside flow next most known n) ps)
counted_behind flow next most known n [] h = record { same_flow = refl; same_most = refl; waits = omega arith }
counted_behind flow next most known n (p ∷ ps) h =
    let here : n ≤ most = omega arith in
    let r : Receiver = inside flow next most known n in
    let later = counted_behind flow (next_after next n) most (max known (n + 1)) (n + 1) ps (omega arith) in
    let same : counted_all (counted r) ps ≡ counted_all (inside flow (next_after next n) most (max known (n + 1)) (n + 1)) ps =
    ap (λ r'. counted_all r' ps) (counted_inside flow next most known n here) in
    record {
      same_flow = ap (λ (r' : Receiver). r'.flow) same ∙ later.same_flow;
      same_most = ap (λ (r' : Receiver). r'.most) same ∙ later.same_most;
      waits = ap (λ (r' : Receiver). r'.next) same ∙ (later.waits ∙ chain_longer next n p (messages_from (n + 1) ps));
    }

drop_none : (k : ℕ) → let none : List (List ℕ) = [] in drop k none ≡ none
drop_none zero = refl
drop_none (suc k) = refl

-- a chain whose first number is passed already or is the one waited for: it begins where that one stands
pub chain_from : (next n : ℕ) (ps : List (List ℕ)) → n ≤ next → chain next (messages_from n ps) ≡ messages_from next (drop (next - n) ps)
chain_from next n [] h = ap (λ qs. messages_from next qs) (sym (drop_none (next - n)))
chain_from next n (p ∷ ps) h = by_test (n == next) refl (λ k m. chain_from k m ps)
  where
    by_test : (same : Bool) → (n == next) ≡ same
        → ((k m : ℕ) → m ≤ k → chain k (messages_from m ps) ≡ messages_from k (drop (k - m) ps))
        → (if same then record { number = n; payload = p } ∷ chain (next + 1) (messages_from (n + 1) ps) else chain next (messages_from (n + 1) ps))
        ≡ messages_from next (drop (next - n) (p ∷ ps))
    by_test true t again =
        let e : n ≡ next = eqb-true n next t in
        let none : next - n ≡ 0 = omega arith in
        let one : next + 1 - (n + 1) ≡ 0 = omega arith in
        ap (λ k. record { number = k; payload = p } ∷ chain (next + 1) (messages_from (n + 1) ps)) e
        ∙ (ap (λ ms. record { number = next; payload = p } ∷ ms) (again (next + 1) (n + 1) (omega arith))
        ∙ (ap (λ k. record { number = next; payload = p } ∷ messages_from (next + 1) (drop k ps)) one
        ∙ ap (λ k. messages_from next (drop k (p ∷ ps))) (sym none)))
    by_test false t again =
        let below : n < next = grind (arith, nat_tests) in
        let one : next - n ≡ suc (next - (n + 1)) = omega arith in
        again next (n + 1) (omega arith) ∙ ap (λ k. messages_from next (drop k (p ∷ ps))) (sym one)

-- one whose first number is past the one waited for has none
pub chain_none : (next n : ℕ) (ps : List (List ℕ)) → next < n → chain next (messages_from n ps) ≡ []
chain_none next n [] h = refl
chain_none next n (p ∷ ps) h =
    let other : (n == next) ≡ false = grind (arith, nat_tests) in
    ap (λ (b : Bool). if b then record { number = n; payload = p } ∷ chain (next + 1) (messages_from (n + 1) ps) else chain next (messages_from (n + 1) ps)) other
    ∙ chain_none next (n + 1) ps (omega arith)
