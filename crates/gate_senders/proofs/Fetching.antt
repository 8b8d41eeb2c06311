-- The messages of a history, one after the other.
use Rattle.std.proofs.Common.{◌≡◌, ◌⊎◌, inl, inr, ⊎_elim, min, ◌^◌, ◌<◌, ℕ, zero, suc, ◌+◌, ◌-◌, ◌≤◌, true, List, [], ◌∷◌, ◌++◌, map, length, take, drop, slice_get, Some, Result, Ok, Err, IfOk, refl, sym, ap, ◌∙◌, arith}
use Rattle.std.proofs.Math.Logic.{∥∥₁_elim}
use denote.Struct.Props.{≡_prop}
use Rattle.std.proofs.lemmas.Bool.{cases_lt}
use Rattle.std.proofs.lemmas.List.{take_all, length-drop, map-append}
use Rattle.std.specs.Coded.{coded_option, coded_list, coded_ℕ}
use Rattle.session_model.specs.Journal.{Entry, History, IsEntry, payloads}
use Rattle.session_model.specs.Inbox.{Numbered}
use Rattle.jr_dated.specs.declared.journal.Journal.{Ghosts}
use Rattle.jr_dated.specs.declared.faults.FetchFault.{FetchFault}
use Rattle.jr_kept.specs.declared.outbox.Outbox.{Outbox}
use Rattle.jr_kept.specs.Outbox.{StandsFor}
use Rattle.gate_turn.specs.Views.{Account}
use Rattle.gate_turn.proofs.Failing.{failed_before}
use Rattle.gate_senders.specs.Kept.{numbered_from, StaysSound}

-- the entry that an outbox gives is that of the history told of it, where its disk tells its content
pub entry_of : {J : Type 0} {G : Ghosts J} (box : Outbox J G) (h : History) (n : ℕ) (answer : Result Numbered FetchFault) → ∥ StandsFor box h ∥₁
    → IfOk answer (λ s. G.tells → (k : History) → StandsFor box k → IsEntry k.made n s.payload)
    → IfOk answer (λ s. G.tells → slice_get (payloads h.made) (n - 1) ≡ Some s.payload)
entry_of box h n (Ok s) stands found = λ tells. ∥∥₁_elim stands (≡_prop (coded_option (coded_list coded_ℕ)) _ _) (λ x. (found tells h x).found)
entry_of box h n (Err _) stands found = tt

-- one more message
pub message_on : (n k : ℕ) (es : List Entry) (s : Numbered) → s.number ≡ n + k → slice_get (payloads es) k ≡ Some s.payload
    → numbered_from n (take (suc k) es) ≡ numbered_from n (take k es) ++ s ∷ []
message_on n zero [] s number there = absurd (cc)
message_on n zero (e ∷ es) s number there =
    let payload : e.payload ≡ s.payload = cc in
    let first : n ≡ s.number = omega (arith, number) in
    ap (λ (m : ℕ). (record { number = m; payload = e.payload }) ∷ []) first ∙ ap (λ (p : List ℕ). (record { number = s.number; payload = p }) ∷ []) payload
message_on n (suc k) [] s number there = absurd (cc)
message_on n (suc k) (e ∷ es) s number there = ap (λ (ms : List Numbered). (record { number = n; payload = e.payload }) ∷ ms) (message_on (n + 1) k es s (omega (arith, number)) there)

pub in_rest : (d k m : ℕ) (es : List Entry) (p : List ℕ) → m ≡ d + k → slice_get (payloads es) m ≡ Some p → slice_get (payloads (drop d es)) k ≡ Some p
in_rest zero k m es p is there = ap (λ j. slice_get (payloads es) j) (omega (arith, is)) ∙ there
in_rest (suc d) k m [] p is there = absurd (cc)
in_rest (suc d) k zero (e ∷ es) p is there = absurd (omega (arith, is))
in_rest (suc d) k (suc m) (e ∷ es) p is there = in_rest d k m es p (omega (arith, is)) there

-- what is left out at the end is behind the last entry
pub all_taken : (from most n : ℕ) (es : List Entry) → 1 ≤ from → from ≤ n → (n ≡ from + most) ⊎ ((length es + 1 ≤ n) × (length es + 1 ≤ from + most))
    → take (n - from) (drop (from - 1) es) ≡ take most (drop (from - 1) es)
all_taken from most n es least past (inl is) = ap (λ k. take k (drop (from - 1) es)) (omega (arith, is))
all_taken from most n es least past (inr ends) =
    let rest = length-drop (from - 1) es in
    take_all (n - from) (drop (from - 1) es) (omega (arith, rest, ends.0, least, past)) ∙ sym (take_all most (drop (from - 1) es) (omega (arith, rest, ends.1, least)))

-- where the numbers that are asked for end: behind so many, or behind the last one of all
pub ends : (from most n end sum count : ℕ) → from ≤ n → (from ≤ end → n ≤ end) → end ≤ n → end ≡ min sum (count + 1) → sum ≡ min (from + most) (2 ^ 64 - 1) → count < 2 ^ 40
    → (n ≡ from + most) ⊎ ((count + 1 ≤ n) × (count + 1 ≤ from + most))
ends from most n end sum count past within least is sums few = ⊎_elim
    (λ long. inr (omega (arith, is, sums, few, long, least), omega (arith, long)))
    (λ short.
    let here : end ≡ from + most = omega (arith, is, sums, few, short) in
    let most_is : n ≤ end = within (omega (arith, here)) in
    inl (omega (arith, here, least, most_is)))
    (cases_lt (count + 1) (from + most))

pub stays : (a b d : Account) → StaysSound a b → (b.broken ≡ true → a.broken ≡ true) → StaysSound b d → StaysSound a d
stays a b d first back second = record {
  limits = second.limits ∙ first.limits;
  faults = omega (arith, first.faults, second.faults);
  broken = λ now was. failed_before a.faults b.faults d.faults first.faults (second.broken now (λ e. was (back e)));
  stays = λ was. let x = first.stays was in let y = second.stays x.0 in (y.0, y.1 ∙ x.1);
}

-- the numbers of messages
abbrev pub numbers_of : List Numbered → List ℕ
numbers_of ms = map (λ (m : Numbered). m.number) ms

number_more : (n k : ℕ) (es : List Entry) → k < length es → numbers_of (numbered_from n (take (suc k) es)) ≡ numbers_of (numbered_from n (take k es)) ++ (n + k) ∷ []
number_more n k [] within = absurd (omega arith)
number_more n zero (e ∷ es) within = let same : n ≡ n + 0 = omega arith in ap (λ (m : ℕ). m ∷ []) same
number_more n (suc k) (e ∷ es) within =
    let same : n + 1 + k ≡ n + suc k = omega arith in
    ap (λ (ns : List ℕ). n ∷ ns) (number_more (n + 1) k es (omega arith) ∙ ap (λ (m : ℕ). numbers_of (numbered_from (n + 1) (take k es)) ++ m ∷ []) same)

-- one message more that was read
pub number_on : (from k : ℕ) (es : List Entry) (list : List Numbered) (s : Numbered) → k < length es → s.number ≡ from + k → numbers_of list ≡ numbers_of (numbered_from from (take k es))
    → numbers_of (list ++ s ∷ []) ≡ numbers_of (numbered_from from (take (suc k) es))
number_on from k es list s within is so_far =
    map-append (λ (m : Numbered). m.number) list (s ∷ [])
    ∙ ap (λ (ns : List ℕ). ns ++ s.number ∷ []) so_far
    ∙ ap (λ (m : ℕ). numbers_of (numbered_from from (take k es)) ++ m ∷ []) is
    ∙ sym (number_more from k es within)
