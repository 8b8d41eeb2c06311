-- What one pass knows behind a feeding, of a plan that goes on with what the lines gave it.
use Rattle.std.proofs.Common.{◌≡◌, ◌≢◌, ℕ, zero, suc, ◌+◌, ◌≤◌, false, List, [], ◌∷◌, ◌++◌, length, take, drop, slice_get, Some, refl, sym, ap, subst, ◌∙◌, arith, append-nil, length-append}
use Rattle.session_model.specs.Journal.{Entry, History, BeginsHistory, payloads, entries_of}
use Rattle.jr_kept.specs.Entries.{entries_made}
use Rattle.gate_turn.specs.Views.{Account, Part}
use Rattle.gate_turn.proofs.Histories.{begins_on}
use Rattle.gate_senders.specs.Shown.{LosesAll, entries_after}
use Rattle.gate_staff.specs.Sent.{entries_behind}
use Rattle.conn_feed.specs.Fed.{Made}
use Rattle.gate_staff.specs.Made.{IsAllMade, LosesMessages}
use Rattle.life_laws.proofs.Senders.{PartMade}

-- what a pass knew that was made with a value that said this, and had made nothing
pub record PartOpened (a : Account) (n : ℕ) (p : Part) : Type 0 where
  pub number : p.number ≡ n
  pub opening : p.opening ≡ a
  pub behind : BeginsHistory a.history p.seen
  pub faults : a.faults ≤ p.faults
  pub mine : p.mine ≡ entries_of a.history.made n
  pub lost : p.lost ≡ []
  pub unended : p.ended ≡ false

drop_past : (xs ys : List (List ℕ)) → drop (length xs) (xs ++ ys) ≡ ys
drop_past [] ys = refl
drop_past (x ∷ xs) ys = drop_past xs ys

take_front : (xs ys : List (List ℕ)) → take (length xs) (xs ++ ys) ≡ xs
take_front [] ys = refl
take_front (x ∷ xs) ys = ap (λ (zs : List (List ℕ)). x ∷ zs) (take_front xs ys)

payloads_long : (es : List Entry) → length (payloads es) ≡ length es
payloads_long [] = refl
payloads_long (e ∷ es) = ap suc (payloads_long es)

assoc : (xs ys zs : List (List ℕ)) → (xs ++ ys) ++ zs ≡ xs ++ (ys ++ zs)
assoc [] ys zs = refl
assoc (x ∷ xs) ys zs = ap (λ (qs : List (List ℕ)). x ∷ qs) (assoc xs ys zs)

-- the first element behind so many
first_of : (n : ℕ) (xs : List (List ℕ)) (x : List ℕ) (ys : List (List ℕ)) → drop n xs ≡ x ∷ ys → slice_get xs n ≡ Some x
first_of zero [] x ys e = absurd (cc e)
first_of zero (z ∷ zs) x ys e = let same : z ≡ x = cc e in ap Some same
first_of (suc n) [] x ys e = absurd (cc e)
first_of (suc n) (z ∷ zs) x ys e = first_of n zs x ys e

module _ (a : Account) (n : ℕ) (plan : List (List ℕ)) (p q : Part) (es : List Entry) (rest : List (List ℕ)) (o : PartOpened a n p) (m : Made p q es)
    (plan_is : plan ≡ payloads (entries_of a.history.made n) ++ (payloads es ++ rest)) where
  abbrev had : List Entry
  had = entries_of a.history.made n

  -- the plan behind what was there
  left_is : drop (length had) plan ≡ payloads es ++ rest
  left_is = ap (λ (ps : List (List ℕ)). drop (length had) ps) plan_is ∙ ap (λ (k : ℕ). drop k (payloads had ++ (payloads es ++ rest))) (sym (payloads_long had)) ∙ drop_past (payloads had) (payloads es ++ rest)

  front_is : take (length es) (drop (length had) plan) ≡ payloads es
  front_is = ap (λ (ps : List (List ℕ)). take (length es) ps) left_is ∙ ap (λ (k : ℕ). take k (payloads es ++ rest)) (sym (payloads_long es)) ∙ take_front (payloads es) rest

  number_is : q.number ≡ n
  number_is = m.goes_on.number ∙ o.number

  entries_are : es ≡ entries_behind n (length had) (payloads es)
  entries_are =
      m.counted ∙ ap (λ (k : ℕ). entries_behind k (length p.mine) (payloads es)) o.number ∙ ap (λ (hs : List Entry). entries_behind n (length hs) (payloads es)) o.mine

  mine_is : q.mine ≡ had ++ entries_behind n (length had) (payloads es)
  mine_is = m.mine ∙ ap (λ (hs : List Entry). hs ++ es) o.mine ∙ ap (λ (xs : List Entry). had ++ xs) entries_are

  pub part_made : PartMade a n plan q
  part_made = record {
    number = number_is;
    opening = m.goes_on.opening ∙ o.opening;
    behind = begins_on a.history p.seen q.seen o.behind m.goes_on.seen;
    faults = omega (arith, o.faults, m.goes_on.faults);
    of = record { count = length es; are = mine_is ∙ ap (λ (ps : List (List ℕ)). had ++ entries_behind n (length had) ps) (sym front_is) };
  }

  -- it made all of its plan where no line was refused that gives it something
  pub all_made : rest ≡ [] → IsAllMade had n plan q.mine
  all_made none = mine_is ∙ ap (λ (ps : List (List ℕ)). had ++ entries_behind n (length had) ps)
      (sym (left_is ∙ ap (λ (ps : List (List ℕ)). payloads es ++ ps) none ∙ append-nil (payloads es)))

  pub unended_on : q.ended ≡ false
  unended_on = m.goes_on.ended ∙ o.unended

  -- what it was to add with a failed call is next of its plan
  long_is : length q.mine ≡ length (payloads had ++ payloads es)
  long_is =
      ap length m.mine ∙ ap (λ (hs : List Entry). length (hs ++ es)) o.mine ∙ length-append had es ∙ ap (λ (k : ℕ). k + length es) (sym (payloads_long had))
      ∙ ap (λ (k : ℕ). length (payloads had) + k) (sym (payloads_long es)) ∙ sym (length-append (payloads had) (payloads es))

  next_is : drop (length q.mine) plan ≡ rest
  next_is =
      ap (λ (ps : List (List ℕ)). drop (length q.mine) ps) (plan_is ∙ sym (assoc (payloads had) (payloads es) rest)) ∙ ap (λ (k : ℕ). drop k ((payloads had ++ payloads es) ++ rest)) long_is
      ∙ drop_past (payloads had ++ payloads es) rest

  pub next_at : (payload : List ℕ) (behind : List (List ℕ)) → rest ≡ payload ∷ behind → slice_get plan (length q.mine) ≡ Some payload
  next_at payload behind are = first_of (length q.mine) plan payload behind (next_is ∙ are)

  pub loses_next : (ps : List (List ℕ)) → rest ≡ ps → length ps ≤ 64 → LosesAll q ps → LosesMessages plan q
  loses_next ps are few l =
      let left : drop (length q.mine) plan ≡ ps = next_is ∙ are in
      record {
        count = l.count;
        within = subst (λ (qs : List (List ℕ)). l.count ≤ length qs) (sym left) l.within;
        few = omega (arith, few, l.within);
        is = l.lost ∙ ap (λ (qs : List (List ℕ)). entries_made (entries_after q (take l.count qs))) (sym left);
      }
