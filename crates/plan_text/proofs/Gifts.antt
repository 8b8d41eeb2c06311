-- Payloads of senders, one more at a time.
use Rattle.std.proofs.Common.{◌≡◌, ℕ, suc, ◌+◌, ◌<◌, ◌==◌, Bool, true, false, if◌then◌else◌, List, [], ◌∷◌, ◌++◌, length, get_or, refl, ap, ◌∙◌, arith}
use Rattle.std.specs.Prelude.{map}
use Rattle.plan_values.specs.Plans.{payloads_of}
use Rattle.plan_values.specs.declared.plan.Plan.{Plan}
use Rattle.plan_text.specs.Plans.{Gift, Gives, AreGiven, payloads_of_sender, payloads_of_senders}

-- one gift more, of the sender or of another
behind : (t u : Bool) (p q : List ℕ) (rest all : List (List ℕ)) → all ≡ (if u then rest ++ q ∷ [] else rest)
    → (if t then p ∷ all else all) ≡ (if u then (if t then p ∷ rest else rest) ++ q ∷ [] else (if t then p ∷ rest else rest))
behind true true p q rest all e = ap (λ (ps : List (List ℕ)). p ∷ ps) e
behind true false p q rest all e = ap (λ (ps : List (List ℕ)). p ∷ ps) e
behind false true p q rest all e = e
behind false false p q rest all e = e

pub of_sender_more : (sender : ℕ) (gifts : List Gift) (g : Gift)
    → payloads_of_sender sender (gifts ++ g ∷ []) ≡ (if g.sender == sender then payloads_of_sender sender gifts ++ g.payload ∷ [] else payloads_of_sender sender gifts)
of_sender_more sender [] g = refl
of_sender_more sender (x ∷ gifts) g =
    behind (x.sender == sender) (g.sender == sender) x.payload g.payload (payloads_of_sender sender gifts) (payloads_of_sender sender (gifts ++ g ∷ [])) (of_sender_more sender gifts g)

pub given_more : (senders : ℕ) (ls : List (List ℕ)) (gifts : List Gift) (line : List ℕ) (g : Gift) → AreGiven senders ls gifts → Gives senders line g → AreGiven senders (ls ++ line ∷ []) (gifts ++ g ∷ [])
given_more senders [] [] line g all one = (one, tt)
given_more senders [] (x ∷ gifts) line g all one = absurd all
given_more senders (l ∷ ls) [] line g all one = absurd all
given_more senders (l ∷ ls) (x ∷ gifts) line g all one = (all.0, given_more senders ls gifts line g all.1 one)

-- plans that have the payloads of their senders, by place, are those of all senders
pub all_senders : (plans : List Plan) (first : ℕ) (gifts : List Gift) → ((i : ℕ) (d : Plan) → i < length plans → payloads_of (get_or plans i d) ≡ payloads_of_sender (first + i) gifts)
    → map payloads_of plans ≡ payloads_of_senders first (length plans) gifts
all_senders [] first gifts each = refl
all_senders (p ∷ plans) first gifts each =
    let here : payloads_of p ≡ payloads_of_sender (first + 0) gifts = each 0 p (omega arith) in
    let same : first + 0 ≡ first = omega arith in
    let rest : map payloads_of plans ≡ payloads_of_senders (first + 1) (length plans) gifts =
    all_senders plans (first + 1) gifts (λ i d l. each (suc i) d (omega arith) ∙ ap (λ (n : ℕ). payloads_of_sender n gifts) (next first i)) in
    let head : payloads_of p ≡ payloads_of_sender first gifts = here ∙ ap (λ (n : ℕ). payloads_of_sender n gifts) same in
    cc
  where
    next : (first i : ℕ) → first + suc i ≡ first + 1 + i
    next first i = omega arith
