-- Passes that are lent, and given back.
use Rattle.std.proofs.Common.{◌≡◌, ◌≢◌, ◌⊎◌, ◌↔◌, ℕ, zero, suc, ◌+◌, ◌<◌, ◌≤◌, true, List, [], ◌∷◌, ◌++◌, length, length-append, slice_get, slice_index_or, Option, Some, None, inl, inr, refl, sym, ap, subst, ◌∙◌, arith}
use Rattle.std.proofs.lemmas.List.{with_items_is, get_or_append_left}
use Rattle.std.proofs.Math.Seq.{get_or-append_seam}
use Rattle.std.specs.Vec.{with_items}
use Rattle.atomic_table.specs.Seated.{TableId}
use Rattle.jr_dated.specs.declared.journal.Journal.{Ghosts}
use Rattle.gate_turn.specs.Views.{Part}
use Rattle.gate_turn.specs.Rule.{In}
use Rattle.gate_turn.specs.Places.{known}
use Rattle.gate_turn.specs.Listed.{pass_at, known_if, known_at}
use Rattle.gate_turn.specs.declared.pass.Pass.{Pass}
use Rattle.gate_turn.specs.declared.passes.Passes.{Passes}
use Rattle.gate_senders.specs.declared.kept.Kept.{Kept}
use Rattle.gate_staff.specs.Made.{SeesMark}
use Rattle.gate_staff.specs.Business.{HasThese}
use Rattle.order_desk.specs.Plans.{desk_plan}
use Rattle.order_gate.specs.declared.hand.Hand.{Hand}
use Rattle.order_gate.specs.declared.terms.Terms.{Terms}
use Rattle.order_gate.specs.declared.desks.Desks.{Desks}
use Rattle.order_gate.specs.Desks.{known_of, counted_if, IsSeated, IsManned, IsHandAt, HasHands, HasPasses, LacksPasses, HasNumber, AreNew, StandsAt, StandBehind, hand_in, part_if, part_in, made_if, made_in, plan_of, with_pass, without_pass}
use Rattle.order_gate.specs.Standing.{at_place, HandOf, hand_of, seated_of}
use Rattle.order_gate.proofs.Places.{lt_or_eq}

-- ---- one more hand lends its pass: p before, q behind it

module _ {J : Type 0} {G : Ghosts J} {D : Type 0} (hands : List (Hand J D G)) (p q : Passes (Kept J G)) (place : ℕ) (x : Hand J D G) (is : (h : Hand J D G) → slice_index_or hands place h ≡ x)
    (number : x.desk.number ≡ place + 1) (others : (n : ℕ) → n ≢ x.desk.number → pass_at q n ≡ pass_at p n) where
  pub one_lent : ((i : ℕ) (h : Hand J D G) → i < place → pass_at p (i + 1) ≡ (slice_index_or hands i h).desk.pass) → pass_at q x.desk.number ≡ x.desk.pass
      → (i : ℕ) (h : Hand J D G) → i < place + 1 → pass_at q (i + 1) ≡ (slice_index_or hands i h).desk.pass
  one_lent done this i h few = of (lt_or_eq i place few)
    where
      of : (i < place) ⊎ (i ≡ place) → pass_at q (i + 1) ≡ (slice_index_or hands i h).desk.pass
      of (inl less) = others (i + 1) (λ e. omega (arith, e, number, less)) ∙ done i h less
      of (inr e) = subst (λ k. pass_at q (k + 1) ≡ (slice_index_or hands k h).desk.pass) (sym e) (ap (λ k. pass_at q k) (sym number) ∙ this ∙ ap (λ (z : Hand J D G). z.desk.pass) (sym (is h)))

  pub rest_empty : ((n : ℕ) → ¬ In place n → pass_at p n ≡ None) → (n : ℕ) → ¬ In (place + 1) n → pass_at q n ≡ None
  rest_empty empty n out =
      others n (λ e. out (record { from_one = omega (arith, e, number); up_to = omega (arith, e, number) }))
      ∙ empty n (λ i. let from_one = i.from_one in let up_to = i.up_to in out (record { from_one = from_one; up_to = omega (arith, up_to) }))

  pub rest_there : (given : Passes (Kept J G)) → ((n : ℕ) → place < n → pass_at p n ≡ pass_at given n) → (n : ℕ) → place + 1 < n → pass_at q n ≡ pass_at given n
  rest_there given there n more = others n (λ e. omega (arith, e, number, more)) ∙ there n (omega (arith, more))

-- ---- all hands with another pass each, or none: d before, e behind it

past : {A : Type 0} (xs : List A) (i : ℕ) → (i < length xs → ⊥) → slice_get xs i ≡ None
past [] zero out = refl
past [] (suc i) out = refl
past (x ∷ xs) zero out = absurd (out (omega arith))
past (x ∷ xs) (suc i) out = past xs i (λ few. out (omega (arith, few)))

in_or_past : (i n : ℕ) → (i < n) ⊎ (i < n → ⊥)
in_or_past i zero = inr (λ few. omega (arith, few))
in_or_past zero (suc n) = inl (omega arith)
in_or_past (suc i) (suc n) = lift (in_or_past i n)
  where
    lift : (i < n) ⊎ (i < n → ⊥) → (suc i < suc n) ⊎ (suc i < suc n → ⊥)
    lift (inl few) = inl (omega (arith, few))
    lift (inr out) = inr (λ few. out (omega (arith, few)))

module _ {J : Type 0} {G : Ghosts J} {D : Type 0} (d : Desks J D G) (hands : List (Hand J D G)) (pass : ℕ → Option (Pass (Kept J G))) (long : length hands ≡ length d.hands.items)
    (each : (i : ℕ) (h : Hand J D G) → i < length d.hands.items → slice_index_or hands i h ≡ with_pass (pass i) (slice_index_or d.hands.items i h)) where
  got : (place : ℕ) → place < length d.hands.items → (it : Hand J D G) → ((h : Hand J D G) → slice_index_or d.hands.items place h ≡ it) → slice_get hands place ≡ Some (with_pass (pass place) it)
  got place few it is =
      let y = at_place hands place (omega (arith, few, long)) in
      y.found ∙ ap Some (sym (y.at it) ∙ each place it few ∙ ap (λ (h : Hand J D G). with_pass (pass place) h) (is it))

  pub made_still : (n : ℕ) → made_in hands n ≡ made_in d.hands.items n
  made_still zero = refl
  made_still (suc place) = of (in_or_past place (length d.hands.items))
    where
      of : (place < length d.hands.items) ⊎ (place < length d.hands.items → ⊥) → made_in hands (suc place) ≡ made_in d.hands.items (suc place)
      of (inl few) = let x = at_place d.hands.items place few in ap (λ o. made_if o) (got place few x.it x.at) ∙ sym (ap (λ o. made_if o) x.found)
      of (inr out) = ap (λ o. made_if o) (past hands place (λ few. out (omega (arith, few, long))) ∙ sym (past d.hands.items place out))

  pub hands_again : (e : Desks J D G) → e.hands.items ≡ hands → e.desks ≡ d.desks → e.version ≡ d.version → e.reference ≡ d.reference → HasHands d → HasHands e
  hands_again e is desks version reference has = record {
    long = ap length is ∙ long ∙ has.long ∙ sym desks;
    few = let few = has.few in omega (arith, few, desks);
    each = λ place h few.
        let inside : place < d.desks = omega (arith, few, desks) in
        let count = has.long in
        let t = has.each place h inside in
        let y : slice_index_or e.hands.items place h ≡ with_pass (pass place) (slice_index_or d.hands.items place h) = ap (λ xs. slice_index_or xs place h) is ∙ each place h (omega (arith, inside, count)) in
        record {
          number = ap (λ (z : Hand J D G). z.desk.number) y ∙ t.number;
          desks = ap (λ (z : Hand J D G). z.desks) y ∙ t.desks ∙ sym desks;
          version = ap (λ (z : Hand J D G). z.form.version) y ∙ t.version ∙ sym version;
          reference = ap (λ (z : Hand J D G). z.reference) y ∙ t.reference ∙ sym reference;
        };
  }

  pub stands_at : (plan : List (List ℕ)) (applied place : ℕ) (h : Hand J D G) → place < length d.hands.items → StandsAt plan applied (slice_index_or d.hands.items place h) → StandsAt plan applied (slice_index_or hands place h)
  stands_at plan applied place h few st =
      subst (λ z. StandsAt plan applied z) (sym (each place h few)) (record { least = st.least; owed = st.owed; turn = st.turn })

  pub stands_back : (plan : List (List ℕ)) (applied place : ℕ) (h : Hand J D G) → place < length d.hands.items → StandsAt plan applied (slice_index_or hands place h) → StandsAt plan applied (slice_index_or d.hands.items place h)
  stands_back plan applied place h few at =
      let st = subst (λ z. StandsAt plan applied z) (each place h few) at in
      record { least = st.least; owed = st.owed; turn = st.turn }

-- ---- the passes are lent: d before, e behind it

module _ {J : Type 0} {G : Ghosts J} {D : Type 0} (d e : Desks J D G) (desks : e.desks ≡ d.desks) (version : e.version ≡ d.version) (reference : e.reference ≡ d.reference) (counted : e.counted ≡ d.counted) (met : e.met ≡ d.met)
    (pass : ℕ → Option (Pass (Kept J G))) (long : length e.hands.items ≡ length d.hands.items)
    (each : (i : ℕ) (h : Hand J D G) → i < length d.hands.items → slice_index_or e.hands.items i h ≡ with_pass (pass i) (slice_index_or d.hands.items i h)) where
  pub own_still : ◌≡◌ {A = ℕ → Option ℕ} (λ n. counted_if e.counted (made_in e.hands.items n)) (λ n. counted_if d.counted (made_in d.hands.items n))
  own_still = λ i n. counted_if (counted i) (made_still d e.hands.items pass long each n i)

  pub plan_still : plan_of e ≡ plan_of d
  plan_still = λ i n applied. desk_plan (desks i) (version i) (reference i) n applied

  pub have_hands : HasHands d → HasHands e
  have_hands has = hands_again d e.hands.items pass long each e refl desks version reference has

  pub behind_still : HasHands d → (l : List (List ℕ)) → StandBehind d l → StandBehind e l
  behind_still has l st = record { counted = counted ∙ st.counted; each = of st.each }
    where
      of : (d.met ≡ true) ⊎ ((place : ℕ) (h : Hand J D G) → place < d.desks → StandsAt (desk_plan d.desks d.version d.reference (place + 1) l) (length l) (slice_index_or d.hands.items place h))
          → (e.met ≡ true) ⊎ ((place : ℕ) (h : Hand J D G) → place < e.desks → StandsAt (desk_plan e.desks e.version e.reference (place + 1) l) (length l) (slice_index_or e.hands.items place h))
      of (inl m) = inl (met ∙ m)
      of (inr at) = inr (λ place h few.
          let inside : place < d.desks = omega (arith, few, desks) in
          let count = has.long in
          subst (λ p. StandsAt p (length l) (slice_index_or e.hands.items place h)) (sym (ap (λ (p : ℕ → List (List ℕ) → List (List ℕ)). p (place + 1) l) plan_still))
          (stands_at d e.hands.items pass long each (desk_plan d.desks d.version d.reference (place + 1) l) (length l) place h (omega (arith, inside, count)) (at place h inside)))

  pub behind_back : HasHands d → (l : List (List ℕ)) → StandBehind e l → StandBehind d l
  behind_back has l st = record { counted = sym counted ∙ st.counted; each = of st.each }
    where
      of : (e.met ≡ true) ⊎ ((place : ℕ) (h : Hand J D G) → place < e.desks → StandsAt (desk_plan e.desks e.version e.reference (place + 1) l) (length l) (slice_index_or e.hands.items place h))
          → (d.met ≡ true) ⊎ ((place : ℕ) (h : Hand J D G) → place < d.desks → StandsAt (desk_plan d.desks d.version d.reference (place + 1) l) (length l) (slice_index_or d.hands.items place h))
      of (inl m) = inl (sym met ∙ m)
      of (inr at) = inr (λ place h few.
          let inside : place < e.desks = omega (arith, few, desks) in
          let count = has.long in
          stands_back d e.hands.items pass long each (desk_plan d.desks d.version d.reference (place + 1) l) (length l) place h (omega (arith, few, count))
          (subst (λ p. StandsAt p (length l) (slice_index_or e.hands.items place h)) (ap (λ (p : ℕ → List (List ℕ) → List (List ℕ)). p (place + 1) l) plan_still) (at place h inside)))

  -- with no pass each
  pub lacks_them : HasHands d → ((i : ℕ) → pass i ≡ None) → LacksPasses e
  lacks_them has none = record {
    hands = have_hands has;
    none = λ place h few. let count = has.long in ap (λ (z : Hand J D G). z.desk.pass) (each place h (omega (arith, few, desks, count))) ∙ none place;
  }

-- ---- what was lent

module _ {J : Type 0} {G : Ghosts J} {D : Type 0} (lock : TableId) (d : Desks J D G) (has : HasPasses lock d) (passes : Passes (Kept J G))
    (lent : (i : ℕ) (h : Hand J D G) → i < length d.hands.items → pass_at passes (i + 1) ≡ (slice_index_or d.hands.items i h).desk.pass) where
  pass_of : (n : ℕ) → (o : HandOf d n) → pass_at passes n ≡ o.hand.desk.pass
  pass_of n o =
      let long = has.hands.long in
      let inside = o.inside in
      ap (λ k. pass_at passes k) o.is_next ∙ lent o.place o.hand (omega (arith, inside, long)) ∙ ap (λ (z : Hand J D G). z.desk.pass) (o.at o.hand)

  pub all_lent : ((n : ℕ) → ¬ In (length d.hands.items) n → pass_at passes n ≡ None) → HasThese lock passes d.desks
  all_lent others = record {
    each = λ n inside.
        let o = hand_of d has.hands n inside in
        let s = seated_of d lock has n o in
        (s.pass, pass_of n o ∙ s.there, s.own, s.free);
    others = λ n out. others n (λ i. out (subst (λ k. In k n) has.hands.long i));
  }

  pub known_lent : (n : ℕ) → In d.desks n → known_at passes n ≡ part_in d.hands.items n
  known_lent n inside =
      let o = hand_of d has.hands n inside in
      ap (λ p. known_if p) (pass_of n o) ∙ sym o.part

-- ---- what each is

module _ {J : Type 0} {G : Ghosts J} {D : Type 0} where
  pub number_there : (lock : TableId) (d : Desks J D G) (has : HasPasses lock d) (place : ℕ) (h : Hand J D G) → place < length d.hands.items → HasNumber (place + 1) (slice_index_or d.hands.items place h)
  number_there lock d has place h few =
      let long = has.hands.long in
      let inside : place < d.desks = omega (arith, few, long) in
      let t = has.hands.each place h inside in
      let s = has.seated place h inside in
      record { number = t.number; pass = λ p is. sym p.numbered ∙ ap (λ (o : Option (Pass (Kept J G))). (known_if o).number) (sym is ∙ s.there) ∙ s.number ∙ t.number }

-- ---- passes are given to all: d before, e behind it

module _ {J : Type 0} {G : Ghosts J} {D : Type 0} (d e : Desks J D G) (desks : e.desks ≡ d.desks) (version : e.version ≡ d.version) (reference : e.reference ≡ d.reference) (counted : e.counted ≡ d.counted) (met : e.met ≡ d.met)
    (passes : Passes (Kept J G)) (long : length e.hands.items ≡ length d.hands.items)
    (each : (i : ℕ) (h : Hand J D G) → i < length d.hands.items → slice_index_or e.hands.items i h ≡ with_pass (pass_at passes (i + 1)) (slice_index_or d.hands.items i h)) (has : HasHands d) where
  pub part_given : (n : ℕ) → In d.desks n → part_in e.hands.items n ≡ known_at passes n
  part_given n inside =
      let count = has.long in
      let o = hand_of d has n inside in
      let few : o.place < length e.hands.items = let within = o.inside in omega (arith, within, count, long) in
      let y = at_place e.hands.items o.place few in
      let here : hand_in e.hands.items n ≡ slice_get e.hands.items o.place = let next : n ≡ suc o.place = let e = o.is_next in omega (arith, e) in ap (λ k. hand_in e.hands.items k) next in
      let z : y.it ≡ with_pass (pass_at passes (o.place + 1)) (slice_index_or d.hands.items o.place y.it) = sym (y.at y.it) ∙ each o.place y.it (omega (arith, few, long)) in
      ap (λ p. part_if p) (here ∙ y.found) ∙ ap (λ (h : Hand J D G). known_of h.desk) z ∙ ap (λ k. known_at passes k) (sym o.is_next)

  module _ (lock : TableId) (these : HasThese lock passes d.desks) where
    seated_given : (place : ℕ) (h : Hand J D G) → place < d.desks → IsSeated lock (slice_index_or e.hands.items place h).desk
    seated_given place h few =
        let count = has.long in
        let inside : In d.desks (place + 1) = record { from_one = omega arith; up_to = omega (arith, few) } in
        let p = these.each (place + 1) inside in
        let z = each place h (omega (arith, few, count)) in
        let number = has.each place h few in
        record {
          pass = p.0;
          there = ap (λ (x : Hand J D G). x.desk.pass) z ∙ p.1;
          own = p.2;
          free = p.3;
          number = p.0.numbered ∙ passes.in_place (place + 1) p.0 p.1 ∙ sym number.number ∙ sym (ap (λ (x : Hand J D G). x.desk.number) z);
        }

    pub given_all : ((n k : ℕ) → In d.desks n → counted_if d.counted (made_in d.hands.items n) ≡ Some k → length (known_at passes n).mine ≡ k) → (d.met ≡ true → SeesMark d.desks (known_at passes)) → HasPasses lock e
    given_all again mark = record {
      hands = hands_again d e.hands.items (λ i. pass_at passes (i + 1)) long each e refl desks version reference has;
      seated = λ place h few. seated_given place h (omega (arith, few, desks));
      made = λ c place h few.
          let within : place < d.desks = omega (arith, few, desks) in
          let s = seated_given place h within in
          record { pass = s.pass; there = s.there; own = s.own; free = s.free; number = s.number; made = made_given (sym counted ∙ c) place h within s };
      met = λ m. let s = mark (sym met ∙ m) in let inside = s.inside in
          record { number = s.number; inside = record { from_one = inside.from_one; up_to = let up_to = inside.up_to in omega (arith, up_to, desks) }; marked = ap (λ (p : Part). p.seen.finished) (part_given s.number inside) ∙ s.marked };
    }
      where
        made_given : d.counted ≡ true → (place : ℕ) (h : Hand J D G) → place < d.desks → (s : IsSeated lock (slice_index_or e.hands.items place h).desk) → length (known s.pass).mine ≡ (slice_index_or e.hands.items place h).desk.made
        made_given c place h few s =
            let count = has.long in
            let inside : In d.desks (place + 1) = record { from_one = omega arith; up_to = omega (arith, few) } in
            let o = hand_of d has (place + 1) inside in
            let same : o.place ≡ place = let e = o.is_next in omega (arith, e) in
            let z = each place h (omega (arith, few, count)) in
            let there : pass_at passes (place + 1) ≡ Some s.pass = sym (ap (λ (x : Hand J D G). x.desk.pass) z) ∙ s.there in
            ap (λ p. length (known_if p).mine) (sym there)
            ∙ again (place + 1) (made_in d.hands.items (place + 1)) inside (ap (λ b. counted_if b (made_in d.hands.items (place + 1))) c)
            ∙ o.made ∙ ap (λ (x : Hand J D G). x.desk.made) (sym (o.at h) ∙ ap (λ k. slice_index_or d.hands.items k h) same) ∙ sym (ap (λ (x : Hand J D G). x.desk.made) z)

-- ---- behind a call on the hands of all: d before, xs the hands behind it

module _ {J : Type 0} {G : Ghosts J} {D : Type 0} (d : Desks J D G) (given xs : List (Hand J D G)) (same : given ≡ d.hands.items) (long : length xs ≡ length given) (pass : ℕ → Option (Pass (Kept J G)))
    (each : (i : ℕ) (h : Hand J D G) → i < length given → slice_index_or xs i h ≡ with_pass (pass i) (slice_index_or given i h)) where
  pub items_of : (with_items d.hands xs).items ≡ xs
  items_of = with_items_is d.hands xs (long ∙ ap length same ∙ sym d.hands.ok.0)

  pub long_of : length (with_items d.hands xs).items ≡ length d.hands.items
  long_of = ap length items_of ∙ long ∙ ap length same

  pub each_of : (i : ℕ) (h : Hand J D G) → i < length d.hands.items → slice_index_or (with_items d.hands xs).items i h ≡ with_pass (pass i) (slice_index_or d.hands.items i h)
  each_of i h few =
      let count = ap length same in
      ap (λ ys. slice_index_or ys i h) items_of ∙ each i h (omega (arith, few, count)) ∙ ap (λ (ys : List (Hand J D G)). with_pass (pass i) (slice_index_or ys i h)) same

  pub lent_of : (passes : Passes (Kept J G)) → ((i : ℕ) (h : Hand J D G) → i < length given → pass_at passes (i + 1) ≡ (slice_index_or given i h).desk.pass)
      → (i : ℕ) (h : Hand J D G) → i < length d.hands.items → pass_at passes (i + 1) ≡ (slice_index_or d.hands.items i h).desk.pass
  lent_of passes lent i h few = let count = ap length same in lent i h (omega (arith, few, count)) ∙ ap (λ (ys : List (Hand J D G)). (slice_index_or ys i h).desk.pass) same

  pub others_of : (passes : Passes (Kept J G)) → ((n : ℕ) → ¬ In (length given) n → pass_at passes n ≡ None) → (n : ℕ) → ¬ In (length d.hands.items) n → pass_at passes n ≡ None
  others_of passes others n out = others n (λ i. out (subst (λ ys. In (length ys) n) same i))

-- ---- desks that are made

-- one more in a list, behind the others
pub one_behind : {A : Type 0} (P : ℕ → A → Type 0) (xs : List A) (x : A) → ((i : ℕ) (d : A) → i < length xs → P i (slice_index_or xs i d)) → P (length xs) x
    → (i : ℕ) (d : A) → i < length (xs ++ x ∷ []) → P i (slice_index_or (xs ++ x ∷ []) i d)
one_behind P xs x before this i d few = of (lt_or_eq i (length xs) (let long = length-append xs (x ∷ []) in omega (arith, few, long)))
  where
    of : (i < length xs) ⊎ (i ≡ length xs) → P i (slice_index_or (xs ++ x ∷ []) i d)
    of (inl less) = subst (λ z. P i z) (sym (get_or_append_left xs (x ∷ []) d i less)) (before i d less)
    of (inr e) = subst (λ k. P k (slice_index_or (xs ++ x ∷ []) k d)) (sym e) (subst (λ z. P (length xs) z) (sym (get_or-append_seam xs x [] d)) this)

module _ {J : Type 0} {G : Ghosts J} {D : Type 0} (terms : Terms) where
  pub one_new : (xs ys : List (Hand J D G)) (x : Hand J D G) → ys ≡ xs ++ x ∷ [] → AreNew terms xs → x.desk.number ≡ length xs + 1 → x.desks ≡ terms.desks → x.form.version ≡ terms.version → x.reference ≡ terms.reference
      → x.desk.owed ≡ 0 → x.desk.made ≡ 0 → AreNew terms ys
  one_new xs ys x is are number desks version reference owed made = subst (λ zs. AreNew terms zs) (sym is) (record {
    number = one_behind (λ (i : ℕ) (h : Hand J D G). h.desk.number ≡ i + 1) xs x are.number number;
    desks = one_behind (λ (i : ℕ) (h : Hand J D G). h.desks ≡ terms.desks) xs x are.desks desks;
    version = one_behind (λ (i : ℕ) (h : Hand J D G). h.form.version ≡ terms.version) xs x are.version version;
    reference = one_behind (λ (i : ℕ) (h : Hand J D G). h.reference ≡ terms.reference) xs x are.reference reference;
    owed = one_behind (λ (i : ℕ) (h : Hand J D G). h.desk.owed ≡ 0) xs x are.owed owed;
    made = one_behind (λ (i : ℕ) (h : Hand J D G). h.desk.made ≡ 0) xs x are.made made;
  })

  pub hands_new : (d : Desks J D G) → AreNew terms d.hands.items → length d.hands.items ≡ terms.desks → terms.desks ≤ 16 → d.desks ≡ terms.desks → d.version ≡ terms.version → d.reference ≡ terms.reference → HasHands d
  hands_new d are long few desks version reference = record {
    long = long ∙ sym desks;
    few = omega (arith, few, desks);
    each = λ place h less.
        let inside : place < length d.hands.items = omega (arith, less, desks, long) in
        record {
          number = are.number place h inside;
          desks = are.desks place h inside ∙ sym desks;
          version = are.version place h inside ∙ sym version;
          reference = are.reference place h inside ∙ sym reference;
        };
  }
