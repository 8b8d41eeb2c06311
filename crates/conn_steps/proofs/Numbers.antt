-- Messages that are numbered one behind another.
use Rattle.std.proofs.Common.{◌≡◌, ℕ, zero, suc, ◌+◌, ◌==◌, Bool, true, false, if◌then◌else◌, ◌<◌, ◌≤◌, ◌⊎◌, inl, inr, ⊎_elim, List, [], ◌∷◌, ◌++◌, length, take, drop, refl, sym, ap, ◌∙◌, arith, add-zero}
use Rattle.std.proofs.Common.{min}
use Rattle.std.proofs.lemmas.Bool.Decides.{nat_tests}
use Rattle.session_model.specs.Inbox.{InboxRecord, Numbered, payloads_of}
use Rattle.flow_window.specs.Gathering.{ready}
use Rattle.fixp_machine.specs.Machine.{State}
use Rattle.jr_kept.specs.Notes.{applies as applied_from}
use Rattle.conn_turns.specs.Lines.{ready_in}
use Rattle.conn_turns.specs.Frames.{applies}
use Rattle.conn_turns.specs.Gathering.{numbered_from}

pub length-numbered : (n : ℕ) (ps : List (List ℕ)) → length (numbered_from n ps) ≡ length ps
length-numbered n [] = refl
length-numbered n (p ∷ ps) = ap suc (length-numbered (n + 1) ps)

-- the first so many
pub take-numbered : (k n : ℕ) (ps : List (List ℕ)) → take k (numbered_from n ps) ≡ numbered_from n (take k ps)
take-numbered zero n ps = refl
take-numbered (suc k) n [] = refl
take-numbered (suc k) n (p ∷ ps) = ap (λ (ms : List Numbered). record { number = n; payload = p } ∷ ms) (take-numbered k (n + 1) ps)

-- no more than there are
pub take-most : {A : Type 0} (k : ℕ) (xs : List A) → take (min k (length xs)) xs ≡ take k xs
take-most zero xs = let least : min zero (length xs) ≡ zero = omega arith in ap (λ (n : ℕ). take n xs) least
take-most {A = A} (suc k) [] = let least : min (suc k) 0 ≡ 0 = omega arith in ap (λ (n : ℕ). take n xs) least
  where
    xs : List A
    xs = []
take-most {A = A} (suc k) (x ∷ xs) =
    let more : min (suc k) (length (x ∷ xs)) ≡ suc (min k (length xs)) = omega arith in
    ap (λ (n : ℕ). take n (x ∷ xs)) more ∙ ap (λ (ys : List A). x ∷ ys) (take-most k xs)

-- some behind others
pub numbered-append : (n : ℕ) (ps more : List (List ℕ)) → numbered_from n (ps ++ more) ≡ numbered_from n ps ++ numbered_from (n + length ps) more
numbered-append n [] more = ap (λ (k : ℕ). numbered_from k more) (sym (add-zero n))
numbered-append n (p ∷ ps) more =
    let behind : (n + 1) + length ps ≡ n + length (p ∷ ps) = omega arith in
    ap (λ (ms : List Numbered). record { number = n; payload = p } ∷ ms)
    (numbered-append (n + 1) ps more ∙ ap (λ (k : ℕ). numbered_from (n + 1) ps ++ numbered_from k more) behind)

-- the records of these messages
pub applied-numbered : (n : ℕ) (ps : List (List ℕ)) → applied_from n ps ≡ applies (numbered_from n ps)
applied-numbered n [] = refl
applied-numbered n (p ∷ ps) = ap (λ (rs : List InboxRecord). InboxRecord.apply (record { number = n; payload = p }) ∷ rs) (applied-numbered (n + 1) ps)

pub applies-take : (k : ℕ) (ms : List Numbered) → take k (applies ms) ≡ applies (take k ms)
applies-take zero ms = refl
applies-take (suc k) [] = refl
applies-take (suc k) (m ∷ ms) = ap (λ (rs : List InboxRecord). InboxRecord.apply m ∷ rs) (applies-take k ms)

pub applies-drop : (k : ℕ) (ms : List Numbered) → drop k (applies ms) ≡ applies (drop k ms)
applies-drop zero ms = refl
applies-drop (suc k) [] = refl
applies-drop (suc k) (m ∷ ms) = applies-drop k ms

pub length-applies : (ms : List Numbered) → length (applies ms) ≡ length ms
length-applies [] = refl
length-applies (m ∷ ms) = ap suc (length-applies ms)

-- held messages that are ready are numbered from the next number on
pub ready-numbered : (n : ℕ) (held : List Numbered) → ready n held ≡ numbered_from n (payloads_of (ready n held))
ready-numbered n [] = refl
ready-numbered n (m ∷ ms) = by_test (m.number == n) refl (ready-numbered (n + 1) ms)
  where
    by_test : (b : Bool) → (m.number == n) ≡ b → ready (n + 1) ms ≡ numbered_from (n + 1) (payloads_of (ready (n + 1) ms))
        → (if b then m ∷ ready (n + 1) ms else []) ≡ numbered_from n (payloads_of (if b then m ∷ ready (n + 1) ms else []))
    by_test false t later = refl
    by_test true t later =
        let is : m.number ≡ n = grind (arith, nat_tests) in
        ap (λ (k : ℕ). record { number = k; payload = m.payload } ∷ ready (n + 1) ms) is
        ∙ ap (λ (l : List Numbered). record { number = n; payload = m.payload } ∷ l) later

pub ready-in : (m : State) → ready_in m ≡ numbered_from m.facts.recorded.inbox_next (payloads_of (ready_in m))
ready-in m = ready-numbered m.facts.recorded.inbox_next m.held

-- one number is below another, or not
pub within : (k n : ℕ) → (k < n) ⊎ (n ≤ k)
within zero zero = inr (omega arith)
within zero (suc n) = inl (omega arith)
within (suc k) zero = inr (omega arith)
within (suc k) (suc n) = ⊎_elim (λ less. inl (omega (arith, less))) (λ more. inr (omega (arith, more))) (within k n)
