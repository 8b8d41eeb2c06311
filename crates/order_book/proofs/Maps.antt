-- The maps of a shelf: what they find, and that they stay tied where an order is put, changed or taken out.
use Rattle.std.proofs.Common.{◌≡◌, ℕ, ◌+◌, ◌-◌, ◌^◌, ◌<◌, ◌≤◌, negsuc, ◌≤ℤ◌, true, false, cond, List, [], ◌∷◌, ◌++◌, length, filter, Option, Some, None, Result, Ok, Err, IfOk, OnOk, OnErr, is_err, option_map, refl, sym, ap, subst, ◌∙◌, arith, nat_cmp, is_eq}
use Rattle.std.specs.List.{list_any}
use Rattle.std.specs.List.Sorted.{IsStrictlySortedBy}
use Rattle.std.specs.Map.{keys_of, values_of, lookup}
use Rattle.std.specs.BTreeMap.{BTreeMap, get, values, is_at, insert_entry}
use Rattle.std.specs.BTreeMap as tree
use Rattle.std.specs.BTreeSet.{BTreeSet, contains}
use Rattle.std.specs.BTreeSet as sorted
use Rattle.order_book.specs.declared.entries.BookOrder.{BookOrder}
use Rattle.order_book.specs.declared.place.Place.{Place}
use Rattle.order_book.specs.Book.{order_with, without, fills_of}
use Rattle.order_book.specs.Index.{place_cmp, rank_of, place_of, is_met, met, walked, replaced, Finds, Indexed}
use Rattle.order_book.proofs.Lookups.{Has, Ascending, Single, ascending, has_from_look, look_from_has, cut, not_true}
use Rattle.order_book.proofs.Changes.{order_none, order_is, without_cut, replaced_put, put_behind}
use Rattle.order_book.proofs.Finding.{Changes, changes, sets, none_some, some_is, finds_without, finds_changed, finds_with, finds_same, none_at_next, undone, unset}
use Rattle.order_book.proofs.Walk.{walk_is}
use Rattle.order_book.proofs.Queue.{queued_met}

pub ok_by : {T E : Type 0} (r : Result T E) (P : Type 0) → OnOk r P → is_err r ≡ false → P
ok_by (Ok x) P h e = h
ok_by (Err x) P h e = absurd (let k : true ≡ false = e in cc)

pub err_by : {T E : Type 0} (r : Result T E) (P : Type 0) → OnErr r P → is_err r ≡ true → P
err_by (Ok x) P h e = absurd (let k : false ≡ true = e in cc)
err_by (Err x) P h e = h

pub ok_then : {T E : Type 0} (r : Result T E) (P Q : T → Type 0) → ((x : T) → P x → Q x) → IfOk r P → IfOk r Q
ok_then (Ok x) P Q f h = f x h
ok_then (Err e) P Q f h = h

-- an order and the number under which it stands
pub record Known (order_at : ℕ → Option BookOrder) (c a : ℕ) : Type 0 where
  pub entry : BookOrder
  pub order : order_at a ≡ Some entry
  pub id : entry.cl_id ≡ c

known_by : (order_at : ℕ → Option BookOrder) (c a : ℕ) (o : Option BookOrder) → order_at a ≡ o → option_map (λ (r : BookOrder). r.cl_id) o ≡ Some c → Known order_at c a
known_by order_at c a None is h = absurd (let e : None ≡ Some c = h in cc)
known_by order_at c a (Some r) is h = record { entry = r; order = is; id = (let e : Some r.cl_id ≡ Some c = h in cc) }

abbrev Orders : Type 0
Orders = BTreeMap ℕ BookOrder

abbrev Numbers : Type 0
Numbers = BTreeMap ℕ ℕ

abbrev Queue : Type 0
Queue = BTreeSet Place

module _ (orders : Orders) (arrivals : Numbers) (queue : Queue) (next : ℕ) (i : Indexed orders arrivals queue next) where
  pub up : Ascending orders.entries
  up = ascending orders.entries i.ascend

  found : (a : ℕ) (r : BookOrder) → Has orders.entries a r → get nat_cmp orders a ≡ Some r
  found a r h = look_from_has orders.entries a r up h

  pub single : Single orders.entries
  single a b r q h k same =
      some_is (get nat_cmp arrivals q.cl_id) a b (ap (λ c. get nat_cmp arrivals c) (sym same) ∙ i.finds.names a r (found a r h)) (i.finds.names b q (found b q k))

  pub no_order : (c : ℕ) → get nat_cmp arrivals c ≡ None → order_with c (values orders) ≡ None
  no_order c none =
      order_none orders.entries c (λ a r h same. none_some (get nat_cmp arrivals r.cl_id) a (ap (λ z. get nat_cmp arrivals z) same ∙ none) (i.finds.names a r (found a r h)))

  known : (c a : ℕ) → get nat_cmp arrivals c ≡ Some a → Known (get nat_cmp orders) c a
  known c a h = known_by (get nat_cmp orders) c a (get nat_cmp orders a) refl (i.finds.named c a h)

  pub an_order : (c a : ℕ) → get nat_cmp arrivals c ≡ Some a → get nat_cmp orders a ≡ order_with c (values orders)
  an_order c a h =
      let k = known c a h in
      k.order ∙ sym (order_is orders.entries c a k.entry up single (has_from_look orders.entries a k.entry k.order) k.id)

  id_of : (c a : ℕ) (r : BookOrder) → get nat_cmp arrivals c ≡ Some a → get nat_cmp orders a ≡ Some r → r.cl_id ≡ c
  id_of c a r h there =
      let k = known c a h in
      ap (λ (x : BookOrder). x.cl_id) (some_is (get nat_cmp orders a) r k.entry there k.order) ∙ k.id

  no_number : (c : ℕ) → order_with c (values orders) ≡ None → get nat_cmp arrivals c ≡ None
  no_number c none = by_found (get nat_cmp arrivals c) refl
    where
      by_found : (f : Option ℕ) → get nat_cmp arrivals c ≡ f → f ≡ None
      by_found None is = refl
      by_found (Some a) is = absurd (none_some (order_with c (values orders)) (known c a is).entry none (sym (an_order c a is) ∙ (known c a is).order))

  -- ---- taken out

  pub taken_values : (c a : ℕ) (r : BookOrder) (es : List (ℕ × BookOrder)) → get nat_cmp arrivals c ≡ Some a → get nat_cmp orders a ≡ Some r → es ≡ cut a orders.entries
      → values_of es ≡ without c (values orders)
  taken_values c a r es h there is =
      ap (λ l. values_of l) is ∙ without_cut orders.entries c a r up single (has_from_look orders.entries a r there) (id_of c a r h there)

  pub taken_indexed : (c a : ℕ) (r : BookOrder) (orders' : Orders) (arrivals' : Numbers) (queue' : Queue) → get nat_cmp arrivals c ≡ Some a → get nat_cmp orders a ≡ Some r
      → tree.IsOrdered nat_cmp orders'
      → ((q : ℕ) → get nat_cmp orders' q ≡ cond (is_eq (nat_cmp a q)) None (get nat_cmp orders q))
      → ((q : ℕ) → get nat_cmp arrivals' q ≡ cond (is_eq (nat_cmp c q)) None (get nat_cmp arrivals q))
      → ((q : Place) → contains place_cmp queue' q ≡ cond (is_eq (place_cmp (place_of a r) q)) false (contains place_cmp queue q))
      → Indexed orders' arrivals' queue' next
  taken_indexed c a r orders' arrivals' queue' h there s o n p =
      let id = id_of c a r h there in
      let ids : Changes (get nat_cmp arrivals) (get nat_cmp arrivals') r.cl_id None = subst (λ z. Changes (get nat_cmp arrivals) (get nat_cmp arrivals') z None) (sym id)
      (changes (get nat_cmp arrivals) (get nat_cmp arrivals') c None n) in
      record {
        ascend = s;
        finds = finds_without (get nat_cmp orders) (get nat_cmp arrivals) (contains place_cmp queue) next i.finds (get nat_cmp orders') (get nat_cmp arrivals') (contains place_cmp queue') a r there
            (changes (get nat_cmp orders) (get nat_cmp orders') a None o) ids
            (sets (contains place_cmp queue) (contains place_cmp queue') (place_of a r) false p);
      }

  -- ---- changed

  pub changed_values : (c a left : ℕ) (r : BookOrder) (es : List (ℕ × BookOrder)) → get nat_cmp arrivals c ≡ Some a → get nat_cmp orders a ≡ Some r
      → es ≡ insert_entry nat_cmp orders.entries a (record r { quantity = left }) → values_of es ≡ replaced c left (values orders)
  changed_values c a left r es h there is =
      ap (λ l. values_of l) is ∙ replaced_put orders.entries c a left r up single (has_from_look orders.entries a r there) (id_of c a r h there)

  pub changed_indexed : (a left : ℕ) (r : BookOrder) (orders' : Orders) → get nat_cmp orders a ≡ Some r → tree.IsOrdered nat_cmp orders'
      → ((q : ℕ) → get nat_cmp orders' q ≡ cond (is_eq (nat_cmp a q)) (Some (record r { quantity = left })) (get nat_cmp orders q)) → Indexed orders' arrivals queue next
  changed_indexed a left r orders' there s o = record {
    ascend = s;
    finds = finds_changed (get nat_cmp orders) (get nat_cmp arrivals) (contains place_cmp queue) next i.finds (get nat_cmp orders') a left r there
        (changes (get nat_cmp orders) (get nat_cmp orders') a (Some (record r { quantity = left })) o);
  }

  -- ---- put

  pub put_values : (o : BookOrder) (es : List (ℕ × BookOrder)) → es ≡ insert_entry nat_cmp orders.entries next o → values_of es ≡ values orders ++ o ∷ []
  put_values o es is = ap (λ l. values_of l) is ∙ put_behind orders.entries next o (λ b x h. i.finds.earlier b x (found b x h))

  pub put_indexed : (o : BookOrder) (orders' : Orders) (arrivals' : Numbers) (queue' : Queue) (further : ℕ) → order_with o.cl_id (values orders) ≡ None → further ≡ next + 1 → further < 2 ^ 64
      → negsuc (2 ^ 63 - 1) ≤ℤ rank_of o.side o.price → tree.IsOrdered nat_cmp orders'
      → ((q : ℕ) → get nat_cmp orders' q ≡ cond (is_eq (nat_cmp next q)) (Some o) (get nat_cmp orders q))
      → ((q : ℕ) → get nat_cmp arrivals' q ≡ cond (is_eq (nat_cmp o.cl_id q)) (Some next) (get nat_cmp arrivals q))
      → ((q : Place) → contains place_cmp queue' q ≡ cond (is_eq (place_cmp (place_of next o) q)) true (contains place_cmp queue q))
      → Indexed orders' arrivals' queue' further
  put_indexed o orders' arrivals' queue' further fresh is room low s l n p = record {
    ascend = s;
    finds = subst (λ z. Finds (get nat_cmp orders') (get nat_cmp arrivals') (contains place_cmp queue') z) (sym is)
        (finds_with (get nat_cmp orders) (get nat_cmp arrivals) (contains place_cmp queue) next i.finds (get nat_cmp orders') (get nat_cmp arrivals') (contains place_cmp queue') o
        (no_number o.cl_id fresh) (omega (arith, is, room)) low
        (changes (get nat_cmp orders) (get nat_cmp orders') next (Some o) l)
        (changes (get nat_cmp arrivals) (get nat_cmp arrivals') o.cl_id (Some next) n)
        (sets (contains place_cmp queue) (contains place_cmp queue') (place_of next o) true p));
  }

  free_place : (o : BookOrder) → contains place_cmp queue (place_of next o) ≡ false
  free_place o =
      not_true (contains place_cmp queue (place_of next o)) (λ t. none_some (option_map (place_of next) (get nat_cmp orders next)) (place_of next o)
      (ap (λ z. option_map (place_of next) z) (none_at_next (get nat_cmp orders) (get nat_cmp arrivals) (contains place_cmp queue) next i.finds))
      (i.finds.placed (place_of next o) t))

  number_undone : (o : BookOrder) (with_it without_it : Numbers) → order_with o.cl_id (values orders) ≡ None
      → ((q : ℕ) → get nat_cmp with_it q ≡ cond (is_eq (nat_cmp o.cl_id q)) (Some next) (get nat_cmp arrivals q))
      → ((q : ℕ) → get nat_cmp without_it q ≡ cond (is_eq (nat_cmp o.cl_id q)) None (get nat_cmp with_it q))
      → (q : ℕ) → get nat_cmp without_it q ≡ get nat_cmp arrivals q
  number_undone o with_it without_it fresh on off =
      undone (get nat_cmp arrivals) (get nat_cmp with_it) (get nat_cmp without_it) o.cl_id (Some next) (no_number o.cl_id fresh)
      (changes (get nat_cmp arrivals) (get nat_cmp with_it) o.cl_id (Some next) on) (changes (get nat_cmp with_it) (get nat_cmp without_it) o.cl_id None off)

  -- a number is taken back, where no place could be had
  pub undone_number : (o : BookOrder) (with_it without_it : Numbers) (queue' : Queue) → order_with o.cl_id (values orders) ≡ None → queue'.keys ≡ queue.keys
      → ((q : ℕ) → get nat_cmp with_it q ≡ cond (is_eq (nat_cmp o.cl_id q)) (Some next) (get nat_cmp arrivals q))
      → ((q : ℕ) → get nat_cmp without_it q ≡ cond (is_eq (nat_cmp o.cl_id q)) None (get nat_cmp with_it q))
      → Indexed orders without_it queue' next
  undone_number o with_it without_it queue' fresh same on off = record {
    ascend = i.ascend;
    finds = finds_same (get nat_cmp orders) (get nat_cmp arrivals) (contains place_cmp queue) next i.finds (get nat_cmp orders) (get nat_cmp without_it) (contains place_cmp queue')
        (λ q. refl) (number_undone o with_it without_it fresh on off) (λ q. ap (λ ks. list_any (is_at (place_cmp q)) ks) same);
  }

  -- a number and a place are taken back, where the order could not be put
  pub undone_place : (o : BookOrder) (orders' : Orders) (with_it without_it : Numbers) (with_place without_place : Queue) → order_with o.cl_id (values orders) ≡ None → orders'.entries ≡ orders.entries
      → ((q : ℕ) → get nat_cmp with_it q ≡ cond (is_eq (nat_cmp o.cl_id q)) (Some next) (get nat_cmp arrivals q))
      → ((q : ℕ) → get nat_cmp without_it q ≡ cond (is_eq (nat_cmp o.cl_id q)) None (get nat_cmp with_it q))
      → ((q : Place) → contains place_cmp with_place q ≡ cond (is_eq (place_cmp (place_of next o) q)) true (contains place_cmp queue q))
      → ((q : Place) → contains place_cmp without_place q ≡ cond (is_eq (place_cmp (place_of next o) q)) false (contains place_cmp with_place q))
      → Indexed orders' without_it without_place next
  undone_place o orders' with_it without_it with_place without_place fresh same on off put back = record {
    ascend = subst (λ es. IsStrictlySortedBy nat_cmp (keys_of es)) (sym same) i.ascend;
    finds = finds_same (get nat_cmp orders) (get nat_cmp arrivals) (contains place_cmp queue) next i.finds (get nat_cmp orders') (get nat_cmp without_it) (contains place_cmp without_place)
        (λ q. ap (λ es. lookup (is_at (nat_cmp q)) es) same) (number_undone o with_it without_it fresh on off)
        (unset (contains place_cmp queue) (contains place_cmp with_place) (contains place_cmp without_place) (place_of next o) (free_place o)
        (sets (contains place_cmp queue) (contains place_cmp with_place) (place_of next o) true put)
        (sets (contains place_cmp with_place) (contains place_cmp without_place) (place_of next o) false back));
  }

  -- ---- met

  pub met_fills : (o : BookOrder) → sorted.IsOrdered place_cmp queue
      → walked o.quantity (met (get nat_cmp orders) (filter (is_met o) queue.keys)) ≡ fills_of o (values orders)
  met_fills o s =
      sym (walk_is (met (get nat_cmp orders) (filter (is_met o) queue.keys)) (length (values orders)) o o.quantity orders.entries up single (few orders.entries)
      (queued_met o orders.entries queue.keys (get nat_cmp arrivals) next up i.finds s))
    where
      few : (es : List (ℕ × BookOrder)) → length es ≤ length (values_of es)
      few [] = omega arith
      few (e ∷ es) = let k = few es in omega (arith, k)
