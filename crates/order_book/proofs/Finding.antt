-- The maps of a shelf stay tied to one another where an order is added, changed or taken out.
use Rattle.std.proofs.Common.{◌≡◌, ℕ, ◌+◌, ◌-◌, ◌^◌, ◌<◌, negsuc, ◌≤ℤ◌, Bool, true, false, cond, ◌⊎◌, inl, inr, Option, Some, None, option_map, refl, sym, ap, subst, ◌∙◌, arith, nat_cmp, is_eq}
use Rattle.std.specs.Cmp.{Equal-is}
use Rattle.order_book.specs.declared.entries.BookOrder.{BookOrder}
use Rattle.order_book.specs.declared.place.Place.{Place}
use Rattle.order_book.specs.Index.{place_cmp, rank_of, place_of, Finds}
use Rattle.order_book.proofs.Lookups.{at_same, at_other, same_at, not_true, both}
use Rattle.order_book.proofs.Walk.{cond_true, cond_false}
use Rattle.order_book.proofs.Queue.{place_self, place_exact}

-- ---- a function with another value at one place

pub record Changes {X : Type 0} (f g : ℕ → Option X) (k : ℕ) (w : Option X) : Type 0 where
  pub here : g k ≡ w
  pub apart : (q : ℕ) → (k ≡ q → ⊥) → g q ≡ f q

pub changes : {X : Type 0} (f g : ℕ → Option X) (k : ℕ) (w : Option X) → ((q : ℕ) → g q ≡ cond (is_eq (nat_cmp k q)) w (f q)) → Changes f g k w
changes f g k w h = record {
  here = h k ∙ cond_true (is_eq (nat_cmp k k)) w (f k) (at_same k k refl);
  apart = λ q ne. h q ∙ cond_false (is_eq (nat_cmp k q)) w (f q) (at_other k q ne);
}

pub record Sets (s t : Place → Bool) (p : Place) (b : Bool) : Type 0 where
  pub here : t p ≡ b
  pub apart : (q : Place) → (p ≡ q → ⊥) → t q ≡ s q

pub place_other : (p q : Place) → (p ≡ q → ⊥) → is_eq (place_cmp p q) ≡ false
place_other p q ne = not_true (is_eq (place_cmp p q)) (λ t. ne (place_exact p q ((Equal-is (place_cmp p q)).0 t)))

pub sets : (s t : Place → Bool) (p : Place) (b : Bool) → ((q : Place) → t q ≡ cond (is_eq (place_cmp p q)) b (s q)) → Sets s t p b
sets s t p b h = record {
  here = h p ∙ cond_true (is_eq (place_cmp p p)) b (s p) ((Equal-is (place_cmp p p)).1 (place_self p));
  apart = λ q ne. h q ∙ cond_false (is_eq (place_cmp p q)) b (s q) (place_other p q ne);
}

either_by : (a b : ℕ) (t : Bool) → is_eq (nat_cmp a b) ≡ t → (a ≡ b) ⊎ (a ≡ b → ⊥)
either_by a b true e = inl (same_at a b e)
either_by a b false e = inr (λ is. both (is_eq (nat_cmp a b)) (at_same a b is) e)

pub either : (a b : ℕ) → (a ≡ b) ⊎ (a ≡ b → ⊥)
either a b = either_by a b (is_eq (nat_cmp a b)) refl

place_by : (p q : Place) (t : Bool) → is_eq (place_cmp p q) ≡ t → (p ≡ q) ⊎ (p ≡ q → ⊥)
place_by p q true e = inl (place_exact p q ((Equal-is (place_cmp p q)).0 e))
place_by p q false e = inr (λ is. both (is_eq (place_cmp p q)) ((Equal-is (place_cmp p q)).1 (ap (λ z. place_cmp p z) (sym is) ∙ place_self p)) e)

place_either : (p q : Place) → (p ≡ q) ⊎ (p ≡ q → ⊥)
place_either p q = place_by p q (is_eq (place_cmp p q)) refl

pub none_some : {X : Type 0} (o : Option X) (x : X) → o ≡ None → o ≡ Some x → ⊥
none_some o x p q = let e : None ≡ Some x = sym p ∙ q in cc

pub some_is : {X : Type 0} (o : Option X) (x y : X) → o ≡ Some x → o ≡ Some y → x ≡ y
some_is o x y p q = let e : Some x ≡ Some y = sym p ∙ q in cc

-- what a look-up finds behind the change: the new value, or what it found before
behind : {X : Type 0} (f g : ℕ → Option X) (k : ℕ) (w : Option X) (b : ℕ) (x : X) → Changes f g k w → g b ≡ Some x
    → ((k ≡ b) × (w ≡ Some x)) ⊎ ((k ≡ b → ⊥) × (f b ≡ Some x))
behind f g k w b x ch h = by_case (either k b)
  where
    by_case : (k ≡ b) ⊎ (k ≡ b → ⊥) → ((k ≡ b) × (w ≡ Some x)) ⊎ ((k ≡ b → ⊥) × (f b ≡ Some x))
    by_case (inl is) = inl (is, sym ch.here ∙ (ap g is ∙ h))
    by_case (inr ne) = inr (ne, sym (ch.apart b ne) ∙ h)

-- where the new value is none
left_behind : {X : Type 0} (f g : ℕ → Option X) (k b : ℕ) (x : X) → Changes f g k None → g b ≡ Some x → (k ≡ b → ⊥) × (f b ≡ Some x)
left_behind f g k b x ch h = by_case (behind f g k None b x ch h)
  where
    by_case : ((k ≡ b) × (None ≡ Some x)) ⊎ ((k ≡ b → ⊥) × (f b ≡ Some x)) → (k ≡ b → ⊥) × (f b ≡ Some x)
    by_case (inl h) = absurd (let e : None ≡ Some x = h.1 in cc)
    by_case (inr h) = h

stays_taken : (s t : Place → Bool) (p q : Place) → Sets s t p false → t q ≡ true → (p ≡ q → ⊥) × (s q ≡ true)
stays_taken s t p q ch h = by_case (place_either p q)
  where
    by_case : (p ≡ q) ⊎ (p ≡ q → ⊥) → (p ≡ q → ⊥) × (s q ≡ true)
    by_case (inl is) = absurd (both (t q) h (ap t (sym is) ∙ ch.here))
    by_case (inr ne) = (ne, sym (ch.apart q ne) ∙ h)

module _ (look : ℕ → Option BookOrder) (id : ℕ → Option ℕ) (taken : Place → Bool) (next : ℕ) (f : Finds look id taken next) where
  -- ---- one order is taken out

  module _ (look' : ℕ → Option BookOrder) (id' : ℕ → Option ℕ) (taken' : Place → Bool) (a : ℕ) (r : BookOrder) (there : look a ≡ Some r)
      (orders : Changes look look' a None) (ids : Changes id id' r.cl_id None) (places : Sets taken taken' (place_of a r) false) where
    without_named : (c b : ℕ) → id' c ≡ Some b → option_map (λ (x : BookOrder). x.cl_id) (look' b) ≡ Some c
    without_named c b h =
        let k = left_behind id id' r.cl_id c b ids h in
        let ne : a ≡ b → ⊥ = λ is. k.0 (some_is (option_map (λ (x : BookOrder). x.cl_id) (look b)) r.cl_id c (ap (λ z. option_map (λ (x : BookOrder). x.cl_id) (look z)) (sym is) ∙ ap (λ z. option_map (λ (x : BookOrder). x.cl_id) z) there) (f.named c b k.1)) in
        ap (λ z. option_map (λ (x : BookOrder). x.cl_id) z) (orders.apart b ne) ∙ f.named c b k.1

    without_names : (b : ℕ) (x : BookOrder) → look' b ≡ Some x → id' x.cl_id ≡ Some b
    without_names b x h =
        let k = left_behind look look' a b x orders h in
        let ne : r.cl_id ≡ x.cl_id → ⊥ = λ same. k.0 (some_is (id x.cl_id) a b (ap id (sym same) ∙ f.names a r there) (f.names b x k.1)) in
        ids.apart x.cl_id ne ∙ f.names b x k.1

    without_placed : (p : Place) → taken' p ≡ true → option_map (place_of p.arrival) (look' p.arrival) ≡ Some p
    without_placed p h =
        let k = stays_taken taken taken' (place_of a r) p places h in
        let ne : a ≡ p.arrival → ⊥ = λ is. k.0 (some_is (option_map (place_of p.arrival) (look p.arrival)) (place_of a r) p (ap (λ z. option_map (place_of z) (look z)) (sym is) ∙ ap (λ z. option_map (place_of a) z) there) (f.placed p k.1)) in
        ap (λ z. option_map (place_of p.arrival) z) (orders.apart p.arrival ne) ∙ f.placed p k.1

    pub finds_without : Finds look' id' taken' next
    finds_without = record {
      few = f.few;
      earlier = λ b x h. f.earlier b x (left_behind look look' a b x orders h).1;
      ranked = λ b x h. f.ranked b x (left_behind look look' a b x orders h).1;
      named = without_named;
      names = without_names;
      placed = without_placed;
      places = λ b x h. let k = left_behind look look' a b x orders h in places.apart (place_of b x) (λ is. k.0 (ap (λ (z : Place). z.arrival) is)) ∙ f.places b x k.1;
    }

  -- ---- another quantity is left of one order

  module _ (look' : ℕ → Option BookOrder) (a left : ℕ) (r : BookOrder) (there : look a ≡ Some r)
      (orders : Changes look look' a (Some (record r { quantity = left }))) where
    abbrev less : BookOrder
    less = record r { quantity = left }

    -- what is true of the order as it was and says nothing of its quantity is true of it now
    changed_order : (P : ℕ → BookOrder → Type 0) → (P a r → P a less) → ((b : ℕ) (x : BookOrder) → look b ≡ Some x → P b x) → (b : ℕ) (x : BookOrder) → look' b ≡ Some x → P b x
    changed_order P same all b x h = by_case (behind look look' a (Some less) b x orders h)
      where
        by_case : ((a ≡ b) × (Some less ≡ Some x)) ⊎ ((a ≡ b → ⊥) × (look b ≡ Some x)) → P b x
        by_case (inl k) = subst (λ z. P z x) k.0 (subst (λ z. P a z) (let e : Some less ≡ Some x = k.1 in some_is (Some less) less x refl e) (same (all a r there)))
        by_case (inr k) = all b x k.1

    changed_read : {Y : Type 0} (g : BookOrder → Y) (y : Y) (b : ℕ) → g less ≡ g r → option_map g (look b) ≡ Some y → option_map g (look' b) ≡ Some y
    changed_read g y b same h = by_case (either a b)
      where
        by_case : (a ≡ b) ⊎ (a ≡ b → ⊥) → option_map g (look' b) ≡ Some y
        by_case (inl is) =
            ap (λ z. option_map g (look' z)) (sym is) ∙ (ap (λ z. option_map g z) orders.here ∙ (ap Some same
            ∙ (sym (ap (λ z. option_map g z) there) ∙ (ap (λ z. option_map g (look z)) is ∙ h))))
        by_case (inr ne) = ap (λ z. option_map g z) (orders.apart b ne) ∙ h

    pub finds_changed : Finds look' id taken next
    finds_changed = record {
      few = f.few;
      earlier = changed_order (λ b x. b < next) (λ h. h) f.earlier;
      ranked = changed_order (λ b x. negsuc (2 ^ 63 - 1) ≤ℤ rank_of x.side x.price) (λ h. h) f.ranked;
      named = λ c b h. changed_read (λ x. x.cl_id) c b refl (f.named c b h);
      names = changed_order (λ b x. id x.cl_id ≡ Some b) (λ h. h) f.names;
      placed = λ p h. changed_read (place_of p.arrival) p p.arrival refl (f.placed p h);
      places = changed_order (λ b x. taken (place_of b x) ≡ true) (λ h. h) f.places;
    }

  -- ---- one order is added

  option_none : (o : Option BookOrder) → ((x : BookOrder) → o ≡ Some x → ⊥) → o ≡ None
  option_none None h = refl
  option_none (Some x) h = absurd (h x refl)

  pub none_at_next : look next ≡ None
  none_at_next = option_none (look next) (λ x h. let lt : next < next = f.earlier next x h in omega (arith, lt))

  module _ (look' : ℕ → Option BookOrder) (id' : ℕ → Option ℕ) (taken' : Place → Bool) (o : BookOrder) (fresh : id o.cl_id ≡ None) (room : next + 1 < 2 ^ 64)
      (fits : negsuc (2 ^ 63 - 1) ≤ℤ rank_of o.side o.price)
      (orders : Changes look look' next (Some o)) (ids : Changes id id' o.cl_id (Some next)) (places : Sets taken taken' (place_of next o) true) where
    added_order : (P : ℕ → BookOrder → Type 0) → P next o → ((b : ℕ) (x : BookOrder) → (next ≡ b → ⊥) → look b ≡ Some x → P b x) → (b : ℕ) (x : BookOrder) → look' b ≡ Some x → P b x
    added_order P one all b x h = by_case (behind look look' next (Some o) b x orders h)
      where
        by_case : ((next ≡ b) × (Some o ≡ Some x)) ⊎ ((next ≡ b → ⊥) × (look b ≡ Some x)) → P b x
        by_case (inl k) = subst (λ z. P z x) k.0 (subst (λ z. P next z) (let e : Some o ≡ Some x = k.1 in some_is (Some o) o x refl e) one)
        by_case (inr k) = all b x k.0 k.1

    -- another order is where it was
    read_other : {Y : Type 0} (g : BookOrder → Y) (y : Y) (b : ℕ) → option_map g (look b) ≡ Some y → option_map g (look' b) ≡ Some y
    read_other g y b h =
        let ne : next ≡ b → ⊥ = λ is. none_some (option_map g (look b)) y (ap (λ z. option_map g (look z)) (sym is) ∙ ap (λ z. option_map g z) none_at_next) h in
        ap (λ z. option_map g z) (orders.apart b ne) ∙ h

    added_named : (c b : ℕ) → id' c ≡ Some b → option_map (λ (x : BookOrder). x.cl_id) (look' b) ≡ Some c
    added_named c b h = by_case (behind id id' o.cl_id (Some next) c b ids h)
      where
        by_case : ((o.cl_id ≡ c) × (Some next ≡ Some b)) ⊎ ((o.cl_id ≡ c → ⊥) × (id c ≡ Some b)) → option_map (λ (x : BookOrder). x.cl_id) (look' b) ≡ Some c
        by_case (inl k) =
            let is : next ≡ b = some_is (Some next) next b refl k.1 in
            ap (λ z. option_map (λ (x : BookOrder). x.cl_id) (look' z)) (sym is) ∙ (ap (λ z. option_map (λ (x : BookOrder). x.cl_id) z) orders.here ∙ ap Some k.0)
        by_case (inr k) = read_other (λ x. x.cl_id) c b (f.named c b k.1)

    other_names : (b : ℕ) (x : BookOrder) → look b ≡ Some x → id' x.cl_id ≡ Some b
    other_names b x h =
        let old = f.names b x h in
        ids.apart x.cl_id (λ same. none_some (id x.cl_id) b (ap id (sym same) ∙ fresh) old) ∙ old

    added_placed : (p : Place) → taken' p ≡ true → option_map (place_of p.arrival) (look' p.arrival) ≡ Some p
    added_placed p h = by_case (place_either (place_of next o) p)
      where
        by_case : (place_of next o ≡ p) ⊎ (place_of next o ≡ p → ⊥) → option_map (place_of p.arrival) (look' p.arrival) ≡ Some p
        by_case (inl is) = subst (λ (z : Place). option_map (place_of z.arrival) (look' z.arrival) ≡ Some z) is (ap (λ z. option_map (place_of next) z) orders.here)
        by_case (inr ne) = read_other (place_of p.arrival) p p.arrival (f.placed p (sym (places.apart p ne) ∙ h))

    pub finds_with : Finds look' id' taken' (next + 1)
    finds_with = record {
      few = room;
      earlier = added_order (λ b x. b < next + 1) (omega arith) (λ b x ne h. let lt : b < next = f.earlier b x h in omega (arith, lt));
      ranked = added_order (λ b x. negsuc (2 ^ 63 - 1) ≤ℤ rank_of x.side x.price) fits (λ b x ne h. f.ranked b x h);
      named = added_named;
      names = added_order (λ b x. id' x.cl_id ≡ Some b) ids.here (λ b x ne h. other_names b x h);
      placed = added_placed;
      places = added_order (λ b x. taken' (place_of b x) ≡ true) places.here (λ b x ne h. places.apart (place_of b x) (λ is. ne (ap (λ (z : Place). z.arrival) is)) ∙ f.places b x h);
    }

  -- ---- nothing is changed

  pub finds_same : (look' : ℕ → Option BookOrder) (id' : ℕ → Option ℕ) (taken' : Place → Bool) → ((q : ℕ) → look' q ≡ look q) → ((q : ℕ) → id' q ≡ id q) → ((q : Place) → taken' q ≡ taken q) → Finds look' id' taken' next
  finds_same look' id' taken' l i t = record {
    few = f.few;
    earlier = λ b x h. f.earlier b x (sym (l b) ∙ h);
    ranked = λ b x h. f.ranked b x (sym (l b) ∙ h);
    named = λ c b h. ap (λ z. option_map (λ (x : BookOrder). x.cl_id) z) (l b) ∙ f.named c b (sym (i c) ∙ h);
    names = λ b x h. i x.cl_id ∙ f.names b x (sym (l b) ∙ h);
    placed = λ p h. ap (λ z. option_map (place_of p.arrival) z) (l p.arrival) ∙ f.placed p (sym (t p) ∙ h);
    places = λ b x h. t (place_of b x) ∙ f.places b x (sym (l b) ∙ h);
  }

-- what is added where nothing was, and taken out again, is as if it had not come
pub undone : {X : Type 0} (f g h : ℕ → Option X) (k : ℕ) (w : Option X) → f k ≡ None → Changes f g k w → Changes g h k None → (q : ℕ) → h q ≡ f q
undone f g h k w none on off q = by_case (either k q)
  where
    by_case : (k ≡ q) ⊎ (k ≡ q → ⊥) → h q ≡ f q
    by_case (inl is) = ap h (sym is) ∙ (off.here ∙ (sym none ∙ ap f is))
    by_case (inr ne) = off.apart q ne ∙ on.apart q ne

pub unset : (s t u : Place → Bool) (p : Place) → s p ≡ false → Sets s t p true → Sets t u p false → (q : Place) → u q ≡ s q
unset s t u p none on off q = by_case (place_either p q)
  where
    by_case : (p ≡ q) ⊎ (p ≡ q → ⊥) → u q ≡ s q
    by_case (inl is) = ap u (sym is) ∙ (off.here ∙ (sym none ∙ ap s is))
    by_case (inr ne) = off.apart q ne ∙ on.apart q ne
