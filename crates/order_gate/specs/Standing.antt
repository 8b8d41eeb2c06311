-- Desks by their numbers.
use Rattle.std.proofs.Common.{◌≡◌, ℕ, zero, suc, ◌+◌, ◌<◌, List, [], ◌∷◌, length, slice_get, slice_index_or, Bool, true, false, Option, Some, None, refl, sym, ap, subst, ◌∙◌, arith}
use Rattle.atomic_table.specs.Seated.{TableId}
use Rattle.session_model.specs.Plans.{GoesOn}
use Rattle.jr_dated.specs.declared.journal.Journal.{Ghosts}
use Rattle.gate_turn.specs.Views.{Part}
use Rattle.gate_turn.specs.Rule.{In}
use Rattle.gate_turn.specs.Listed.{known_if}
use Rattle.gate_staff.specs.Made.{SeesMark}
use Rattle.order_desk.specs.Plans.{desk_plan}
use Rattle.order_desk.proofs.Shares.{desk_plan_goes_on}
use Rattle.order_gate.specs.declared.hand.Hand.{Hand}
use Rattle.order_gate.specs.declared.desks.Desks.{Desks}
use Rattle.order_gate.specs.Desks.{known_of, IsSeated, IsManned, IsHandAt, HasHands, HasPasses, hand_in, part_if, part_in, made_if, made_in, counted_if}

-- what stands at a place
pub record StandsThere {A : Type 0} (xs : List A) (k : ℕ) : Type 0 where
  pub it : A
  pub found : slice_get xs k ≡ Some it
  pub at : (d : A) → slice_index_or xs k d ≡ it

pub at_place : {A : Type 0} (xs : List A) (k : ℕ) → k < length xs → StandsThere xs k
at_place [] k few = absurd (omega (arith, few))
at_place (x ∷ xs) zero few = record { it = x; found = refl; at = λ d. refl }
at_place (x ∷ xs) (suc k) few = let r = at_place xs k (omega (arith, few)) in record { it = r.it; found = r.found; at = r.at }

counted_is : (counted : Bool) (n k : ℕ) → counted_if counted n ≡ Some k → (counted ≡ true) × (n ≡ k)
counted_is true n k e = (refl, cc e)
counted_is false n k e = absurd (cc e)

module _ {J : Type 0} {G : Ghosts J} {D : Type 0} where
  pub goes_on : (d : Desks J D G) → GoesOn (λ n applied. desk_plan d.desks d.version d.reference n applied)
  goes_on d = desk_plan_goes_on d.desks d.version d.reference

  -- the hand of a number
  pub record HandOf (d : Desks J D G) (n : ℕ) : Type 0 where
    pub place : ℕ
    pub is_next : n ≡ place + 1
    pub inside : place < d.desks
    pub hand : Hand J D G
    pub at : (h : Hand J D G) → slice_index_or d.hands.items place h ≡ hand
    pub part : part_in d.hands.items n ≡ known_of hand.desk
    pub made : made_in d.hands.items n ≡ hand.desk.made

  pub hand_of : (d : Desks J D G) → HasHands d → (n : ℕ) → In d.desks n → HandOf d n
  hand_of d has zero inside = absurd (omega (arith, inside.from_one))
  hand_of d has (suc k) inside =
      let few : k < length d.hands.items = omega (arith, inside.up_to, has.long) in
      let r = at_place d.hands.items k few in
      record {
        place = k;
        is_next = omega arith;
        inside = omega (arith, inside.up_to);
        hand = r.it;
        at = r.at;
        part = ap part_if r.found;
        made = ap made_if r.found;
      }

  pub known_there : (lock : TableId) (h : Hand J D G) → (s : IsSeated lock h.desk) → (known_of h.desk).number ≡ h.desk.number
  known_there lock h s = ap (λ p. (known_if p).number) s.there ∙ s.number

  pub long_there : (lock : TableId) (h : Hand J D G) → (m : IsManned lock h.desk) → length (known_of h.desk).mine ≡ h.desk.made
  long_there lock h m = ap (λ p. length (known_if p).mine) m.there ∙ m.made

  pub seated_of : (d : Desks J D G) (lock : TableId) (has : HasPasses lock d) (n : ℕ) → (o : HandOf d n) → IsSeated lock o.hand.desk
  seated_of d lock has n o = subst (λ h. IsSeated lock h.desk) (o.at o.hand) (has.seated o.place o.hand o.inside)

  pub manned_of : (d : Desks J D G) (lock : TableId) (has : HasPasses lock d) → d.counted ≡ true → (n : ℕ) → (o : HandOf d n) → IsManned lock o.hand.desk
  manned_of d lock has counted n o = subst (λ h. IsManned lock h.desk) (o.at o.hand) (has.made counted o.place o.hand o.inside)

  pub terms_of : (d : Desks J D G) (has : HasHands d) (n : ℕ) → (o : HandOf d n) → IsHandAt d o.place o.hand
  terms_of d has n o = subst (λ h. IsHandAt d o.place h) (o.at o.hand) (has.each o.place o.hand o.inside)

  pub numbered : (d : Desks J D G) (lock : TableId) → HasPasses lock d → (n : ℕ) → In d.desks n → (part_in d.hands.items n).number ≡ n
  numbered d lock has n inside =
      let o = hand_of d has.hands n inside in
      let e = ap (λ (p : Part). p.number) o.part ∙ known_there lock o.hand (seated_of d lock has n o) in
      let terms = terms_of d has.hands n o in
      omega (arith, e, terms.number, o.is_next)

  pub owns : (d : Desks J D G) (lock : TableId) → HasPasses lock d → (n k : ℕ) → In d.desks n → counted_if d.counted (made_in d.hands.items n) ≡ Some k → length (part_in d.hands.items n).mine ≡ k
  owns d lock has n k inside e =
      let c = counted_is d.counted (made_in d.hands.items n) k e in
      let o = hand_of d has.hands n inside in
      ap (λ (p : Part). length p.mine) o.part ∙ long_there lock o.hand (manned_of d lock has c.0 n o) ∙ sym o.made ∙ c.1

  pub meets : (d : Desks J D G) (lock : TableId) → HasPasses lock d → d.met ≡ true → SeesMark d.desks (part_in d.hands.items)
  meets d lock has met = has.met met
