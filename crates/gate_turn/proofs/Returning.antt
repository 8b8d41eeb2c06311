-- Both passes of a lock, taken out of the list, used and given back: all are back.
use Rattle.std.proofs.Common.{◌≡◌, ◌≢◌, ℕ, Option, Some, None, sym, ap, ◌∙◌, subst, arith, le_refl}
use Rattle.std.proofs.lemmas.Option.{none-some, same_Some}
use mathlib.Core.Logic.{dite}
use native.Mathlib.Decide.{ℕ_discrete}
use Rattle.gate_turn.specs.Views.{Account, Part}
use Rattle.gate_turn.specs.Places.{known}
use Rattle.gate_turn.specs.Listed.{pass_at, known_if, known_at}
use Rattle.gate_turn.specs.Calls.{IsFree, IsPassOf, MadeWith, AllBack}
use Rattle.gate_turn.specs.declared.pass.Pass.{Pass}
use Rattle.gate_turn.specs.declared.passes.Passes.{Passes}
use Rattle.gate_turn.specs.declared.lock.TurnLock.{TurnLock}

-- the number of a pass that came back in place of the one taken out
pub number_of : {T : Type 0} (list : Passes T) (k : ℕ) (p q : Pass T) → Some p ≡ pass_at list k → (known q).number ≡ (known p).number → q.number ≡ k
number_of list k p q there same = sym q.numbered ∙ (same ∙ (p.numbered ∙ list.in_place k p (sym there)))

module _ {T : Type 0} (lock : TurnLock T) (a : Account) (all l1 l2 l3 l4 : Passes T) (p1 p2 q1 q2 : Pass T) (made : MadeWith lock all 2 a)
    (t1 : Some p1 ≡ pass_at all 1) (o1 : (n : ℕ) → n ≢ 1 → pass_at l1 n ≡ pass_at all n)
    (t2 : Some p2 ≡ pass_at l1 2) (o2 : (n : ℕ) → n ≢ 2 → pass_at l2 n ≡ pass_at l1 n)
    (f1 : IsPassOf lock q1 × IsFree q1 × ((known q1).number ≡ (known p1).number) × ((known q1).made ≡ (known p1).made))
    (f2 : IsPassOf lock q2 × IsFree q2 × ((known q2).number ≡ (known p2).number) × ((known q2).made ≡ (known p2).made))
    (g1 : pass_at l3 q1.number ≡ Some q1) (u1 : (n : ℕ) → n ≢ q1.number → pass_at l3 n ≡ pass_at l2 n)
    (g2 : pass_at l4 q2.number ≡ Some q2) (u2 : (n : ℕ) → n ≢ q2.number → pass_at l4 n ≡ pass_at l3 n) where
  one : q1.number ≡ 1
  one = number_of all 1 p1 q1 t1 f1.2

  two : q2.number ≡ 2
  two = number_of l1 2 p2 q2 t2 f2.2

  at_one : pass_at l4 1 ≡ Some q1
  at_one = u2 1 (λ e. let f = e ∙ two in omega arith) ∙ (ap (pass_at l3) (sym one) ∙ g1)

  at_two : pass_at l4 2 ≡ Some q2
  at_two = ap (pass_at l4) (sym two) ∙ g2

  nowhere : (n : ℕ) → n ≢ 1 → n ≢ 2 → pass_at l4 n ≡ None
  nowhere n ne1 ne2 = u2 n (λ e. ne2 (e ∙ two)) ∙ (u1 n (λ e. ne1 (e ∙ one)) ∙ (o2 n ne2 ∙ (o1 n ne1 ∙ made.others n (λ h. omega (arith, h.from_one, h.up_to)))))

  counted : (known_at l4 1).made ≡ 2
  counted = ap (λ (o : Option (Pass T)). (known_if o).made) at_one
      ∙ (f1.3 ∙ (ap (λ (o : Option (Pass T)). (known_if o).made) t1 ∙ ap (λ (p : Part). p.made) (made.each 1 (record { from_one = le_refl 1; up_to = omega arith })).1))

  pub back_again : AllBack lock l4
  back_again = record {
    some_made = let e = counted in omega arith;
    few = let e = counted in omega arith;
    each = λ n h. dite (ℕ_discrete n 1)
        (λ e. record { pass = q1; there = ap (pass_at l4) e ∙ at_one; own = f1.0; free = f1.1 })
        (λ ne. let e : n ≡ 2 = omega (arith, h.from_one, h.up_to, counted) in record { pass = q2; there = ap (pass_at l4) e ∙ at_two; own = f2.0; free = f2.1 });
    others = λ n p there. dite (ℕ_discrete n 1)
        (λ e. subst (λ q. IsPassOf lock q × IsFree q) (same_Some q1 p (sym at_one ∙ (ap (pass_at l4) (sym e) ∙ there))) (f1.0, f1.1))
        (λ ne1. dite (ℕ_discrete n 2)
        (λ e. subst (λ q. IsPassOf lock q × IsFree q) (same_Some q2 p (sym at_two ∙ (ap (pass_at l4) (sym e) ∙ there))) (f2.0, f2.1))
        (λ ne2. absurd (none-some p (sym (nowhere n ne1 ne2) ∙ there))));
  }
