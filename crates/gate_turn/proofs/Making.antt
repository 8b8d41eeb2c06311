-- The list of passes while they are made, and the seat that they are joined into.
use Rattle.std.proofs.Common.{◌≡◌, ◌≢◌, ℕ, ◌+◌, ◌<◌, ◌≤◌, List, [], ◌∷◌, ◌++◌, length, Option, Some, None, refl, sym, ap, ◌∙◌, subst, arith, le_refl, cond, eq-eqb, ne_eqb}
use Rattle.std.proofs.lemmas.Option.{none-some}
use mathlib.Core.Logic.{dite}
use mathlib.Core.Option.{some, some-injective}
use native.Mathlib.Decide.{ℕ_discrete}
use lib.ListN.{get_elem?}
use Rattle.atomic_table.proofs.Lists.{at_longer}
use Rattle.gate_turn.specs.Views.{Account, Part, View, new_part, part_of}
use Rattle.gate_turn.specs.Rule.{In}
use Rattle.gate_turn.specs.Places.{known}
use Rattle.gate_turn.specs.Listed.{pass_at, known_if, known_at}
use Rattle.gate_turn.specs.Calls.{IsFree, IsPassOf, HasBack, MadeWith, AllBack, opened_with}
use Rattle.gate_turn.specs.declared.pass.Pass.{Pass}
use Rattle.gate_turn.specs.declared.passes.Passes.{Passes}
use Rattle.gate_turn.specs.declared.lock.TurnLock.{TurnLock}
use Rattle.atomic_table.specs.Table.{Splits, Final, Seen}
use Rattle.atomic_table.specs.declared.shared.Seat.{Seat}
use Rattle.gate_turn.specs.Rule.{Turns}
use Rattle.gate_turn.specs.Steps.{Mine, Closed, split_left, split_right}
use Rattle.gate_turn.proofs.Puts.{one_view}
use Rattle.gate_turn.proofs.Ends.{at_beyond, splits, all_home, closes}

-- the view of the first pass and that of the new one, after a split where so many were made
pub left_of : (v w : View) (made more : ℕ) (a : Account) → w ≡ split_left v → v ≡ new_part 1 made a ∷ [] → more ≡ made + 1 → w ≡ new_part 1 more a ∷ []
left_of v w made more a is e m = is ∙ (ap split_left e ∙ ap (λ k. new_part 1 k a ∷ []) (sym m))

pub right_of : (v w : View) (made number : ℕ) (a : Account) → w ≡ split_right v → v ≡ new_part 1 made a ∷ [] → number ≡ made + 1 → w ≡ new_part number 0 a ∷ []
right_of v w made number a is e m = is ∙ (ap split_right e ∙ ap (λ k. new_part k 0 a ∷ []) (sym m))

pub splits_new : {T : Type 0} (tells : T → Account) (opened : Account) (id : ℕ) (v : View) (made : ℕ) (a : Account) → v ≡ new_part 1 made a ∷ [] → made < 18 → Splits (Turns tells opened) id v (split_left v) (split_right v)
splits_new tells opened id v made a e room = splits tells opened id v (one_view v (new_part 1 made a) e) (ap (λ (u : View). (part_of u).number) e) (subst (λ (u : View). (part_of u).made < 18) (sym e) room)

pub view_of : {T : Type 0} (m n : Mine T) → Path (Mine T) m n → Path View m.0 n.0
view_of m n e = λ i. (e i).0

pub slot_of : {T : Type 0} (m n : Mine T) → Path (Mine T) m n → Path (List (ℕ × Option T)) m.1 n.1
slot_of m n e = λ i. (e i).1

-- a pass that was made of a seat
pub new_pass : {T : Type 0} (lock : TurnLock T) (p : Pass T) (seat : Seat (Option T) View) (q : Part) → p.seat ≡ seat → seat.table_id ≡ lock.table.shared.table_id
    → seat.me.0 ≡ q ∷ [] → seat.me.1 ≡ [] → q.ticket ≡ None → q.held ≡ None → IsPassOf lock p × IsFree p × (known p ≡ q)
new_pass {T} lock p seat q is own view slot idle out = (
  ap (λ (s : Seat (Option T) View). s.table_id) is ∙ own,
  record {
    slot = ap (λ (s : Seat (Option T) View). s.me.1) is ∙ slot;
    ticket = ap (λ (s : Seat (Option T) View). (part_of s.me.0).ticket) is ∙ (ap (λ (v : View). (part_of v).ticket) view ∙ idle);
    held = ap (λ (s : Seat (Option T) View). (part_of s.me.0).held) is ∙ (ap (λ (v : View). (part_of v).held) view ∙ out);
  },
  ap (λ (s : Seat (Option T) View). part_of s.me.0) is ∙ ap part_of view,
)

module _ {T : Type 0} (lock : TurnLock T) (a : Account) where
  -- those of the numbers from 2 up to below `number` are in the list, and no others
  pub record Making (list : Passes T) (number : ℕ) : Type 0 where
    pub each : (n : ℕ) → 2 ≤ n → n < number → HasBack lock list n × (known_at list n ≡ new_part n 0 a)
    pub others : (n : ℕ) → (2 ≤ n → n < number → ⊥) → pass_at list n ≡ None

  pub makes_none : (list : Passes T) → ((n : ℕ) → pass_at list n ≡ None) → Making list 2
  makes_none list empty = record { each = λ n h l. absurd (omega arith); others = λ n _. empty n }

  -- where a pass was put into the list
  pub put_back : (list list' : Passes T) (p : Pass T) → pass_at list' p.number ≡ Some p → ((n : ℕ) → n ≢ p.number → pass_at list' n ≡ pass_at list n)
      → (n : ℕ) → n ≢ p.number → HasBack lock list n → HasBack lock list' n
  put_back list list' p there same n ne h = record { pass = h.pass; there = same n ne ∙ h.there; own = h.own; free = h.free }

  pub makes_one : (list list' : Passes T) (number : ℕ) (p : Pass T) → Making list number → 2 ≤ number → p.number ≡ number → IsPassOf lock p → IsFree p → known p ≡ new_part number 0 a
      → pass_at list' p.number ≡ Some p → ((n : ℕ) → n ≢ p.number → pass_at list' n ≡ pass_at list n) → Making list' (number + 1)
  makes_one list list' number p m from is own free knows there same = record {
    each = λ n h l. dite (ℕ_discrete n number)
        (λ e. let at : pass_at list' n ≡ Some p = ap (pass_at list') (e ∙ sym is) ∙ there in (
          record { pass = p; there = at; own = own; free = free },
          ap known_if at ∙ (knows ∙ ap (λ k. new_part k 0 a) (sym e)),
        ))
        (λ ne. let apart : n ≢ p.number = λ e. ne (e ∙ is) in let it = m.each n h (omega arith) in
        (put_back list list' p there same n apart it.0, ap known_if (same n apart) ∙ it.1));
    others = λ n out. let apart : n ≢ p.number = λ e. let f = e ∙ is in out (omega arith) (omega arith) in
        same n apart ∙ m.others n (λ h l. out h (omega arith));
  }

  -- the first pass comes last, which knows how many were made
  pub makes_all : (list list' : Passes T) (made : ℕ) (p : Pass T) → Making list (made + 1) → 1 ≤ made → p.number ≡ 1 → IsPassOf lock p → IsFree p → known p ≡ new_part 1 made a
      → pass_at list' p.number ≡ Some p → ((n : ℕ) → n ≢ p.number → pass_at list' n ≡ pass_at list n) → MadeWith lock list' made a
  makes_all list list' made p m some_made is own free knows there same = record {
    each = λ n h. dite (ℕ_discrete n 1)
        (λ e. let at : pass_at list' n ≡ Some p = ap (pass_at list') (e ∙ sym is) ∙ there in (
          record { pass = p; there = at; own = own; free = free },
          ap known_if at ∙ (knows ∙ (ap (λ k. new_part k made a) (sym e) ∙ ap (λ b. new_part n (cond b made 0) a) (sym (eq-eqb n 1 e)))),
        ))
        (λ ne. let apart : n ≢ p.number = λ e. ne (e ∙ is) in let it = m.each n (omega (arith, h.from_one)) (omega (arith, h.up_to)) in
        (put_back list list' p there same n apart it.0, ap known_if (same n apart) ∙ (it.1 ∙ ap (λ b. new_part n (cond b made 0) a) (sym (ne_eqb n 1 ne)))));
    others = λ n out. let apart : n ≢ p.number = λ e. out (record { from_one = let f = e ∙ is in omega arith; up_to = let f = e ∙ is in omega arith }) in
        same n apart ∙ m.others n (λ h l. out (record { from_one = omega arith; up_to = omega arith }));
  }

-- the passes below `number` are joined into the view, and the others are in the list still
pub record Joining {T : Type 0} (all list : Passes T) (view : View) (number : ℕ) : Type 0 where
  pub joined : (n : ℕ) (p : Pass T) → n < number → pass_at all n ≡ Some p → (k : ℕ) × (get_elem? view k ≡ some (known p))
  pub kept : (n : ℕ) → number ≤ n → pass_at list n ≡ pass_at all n

-- a pass that stands in the list still
pub still_back : {T : Type 0} (lock : TurnLock T) (all list : Passes T) (view : View) (number : ℕ) (o : Option (Pass T)) (p : Pass T) → AllBack lock all → Joining all list view number
    → o ≡ pass_at list number → o ≡ Some p → IsPassOf lock p × IsFree p
still_back lock all list view number o p back j is there = back.others number p (sym (is ∙ j.kept number (le_refl number)) ∙ there)

module _ {T : Type 0} (all : Passes T) where
  pub joins_first : (list list' : Passes T) (p : Pass T) → pass_at all 1 ≡ Some p → p.seat.me.0 ≡ known p ∷ [] → ((n : ℕ) → n ≢ 1 → pass_at list' n ≡ pass_at all n) → pass_at all 0 ≡ None → Joining all list' p.seat.me.0 2
  joins_first list list' p there one same none_at = record {
    joined = λ n q l e. dite (ℕ_discrete n 1)
        (λ is. (0, ap (λ v. get_elem? v 0) one ∙ ap (λ (o : Option (Pass T)). some (known_if o)) (sym there ∙ (ap (pass_at all) (sym is) ∙ e))))
        (λ ne. absurd (none-some q (sym none_at ∙ (ap (pass_at all) (let z : 0 ≡ n = omega arith in z) ∙ e))));
    kept = λ n h. same n (omega arith);
  }

  pub joins_one : (list list' : Passes T) (view : View) (number : ℕ) (p : Pass T) → Joining all list view number → pass_at list number ≡ Some p → p.seat.me.0 ≡ known p ∷ []
      → ((n : ℕ) → n ≢ number → pass_at list' n ≡ pass_at list n) → Joining all list' (view ++ p.seat.me.0) (number + 1)
  joins_one list list' view number p j there one same = record {
    joined = λ n q l e. dite (ℕ_discrete n number)
        (λ is. (
          length view + 0,
          at_beyond view p.seat.me.0 0 (known q)
              (ap (λ v. get_elem? v 0) one ∙ ap (λ (o : Option (Pass T)). some (known_if o)) (sym there ∙ (j.kept number (omega arith) ∙ (ap (pass_at all) (sym is) ∙ e)))),
        ))
        (λ ne. let it = j.joined n q (omega arith) e in (it.0, at_longer view p.seat.me.0 it.0 (known q) it.1));
    kept = λ n h. same n (omega arith) ∙ j.kept n (omega arith);
  }

  pub joins_none : (list list' : Passes T) (view : View) (number : ℕ) → Joining all list view number → pass_at list number ≡ None
      → ((n : ℕ) → n ≢ number → pass_at list' n ≡ pass_at list n) → Joining all list' view (number + 1)
  joins_none list list' view number j gone same = record {
    joined = λ n q l e. dite (ℕ_discrete n number)
        (λ is. absurd (none-some q (sym gone ∙ (j.kept number (omega arith) ∙ (ap (pass_at all) (sym is) ∙ e)))))
        (λ ne. j.joined n q (omega arith) e);
    kept = λ n h. same n (omega arith) ∙ j.kept n (omega arith);
  }

-- every pass that was made stands in the view, where all were joined
pub all_joined : {T : Type 0} (lock : TurnLock T) (all list : Passes T) (view : View) (number : ℕ) → AllBack lock all → Joining all list view number → 19 ≤ number
    → (n : ℕ) → In (known_at all 1).made n → (k : ℕ) × (get_elem? view k ≡ some (known_at all n))
all_joined {T} lock all list view number back j far n h =
    let b = back.each n h in
    let it = j.joined n b.pass (omega (arith, h.up_to, back.few)) b.there in
    (it.0, it.1 ∙ ap (λ (o : Option (Pass T)). some (known_if o)) (sym b.there))

-- What is known of the value that comes out of the slot, where all passes were joined into one seat
pub comes_out : {T : Type 0} (tells : T → Account) (lock : TurnLock T) (all : Passes T) (id : ℕ) (view : View) (words : List ℕ) (slots : List (Option T)) (out : Option T)
    → AllBack lock all → ((n : ℕ) → In (known_at all 1).made n → (k : ℕ) × (get_elem? view k ≡ some (known_at all n)))
    → Final (Seen (Turns tells (tells (opened_with lock))) id view) words slots → get_elem? slots 0 ≡ some out
    → (value : T) × (out ≡ Some value) × Closed (known_at all) (known_at all 1).made (tells (opened_with lock)) (tells value)
comes_out {T} tells lock all id view words slots out back joined final taken =
    let made = (known_at all 1).made in
    let numbers : (n : ℕ) → In made n → (known_at all n).number ≡ n = λ n h. let b = back.each n h in
    ap (λ (o : Option (Pass T)). (known_if o).number) b.there ∙ (b.pass.numbered ∙ all.in_place n b.pass b.there) in
    let free : (n : ℕ) → In made n → (known_at all n).held ≡ None = λ n h. let b = back.each n h in ap (λ (o : Option (Pass T)). (known_if o).held) b.there ∙ b.free.held in
    let home = all_home tells (tells (opened_with lock)) final.0 final.1.0 id view final.1.1 made (known_at all) back.some_made numbers refl free joined in (
      home.value,
      some-injective out (Some home.value) (sym taken ∙ final.4 0 (Some home.value) (ap (λ hs. get_elem? hs 0) home.home)),
      closes tells (tells (opened_with lock)) final.0 final.1.0 id view final.1.1 made (known_at all) back.some_made numbers refl free joined,
    )
