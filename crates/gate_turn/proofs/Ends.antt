-- The rule where the lock is made, where passes are made and joined, and where the lock is closed.
use Rattle.std.proofs.Common.{◌≡◌, ◌≢◌, ◌⊎◌, ℕ, zero, suc, ◌+◌, ◌<◌, ◌≤◌, eqb, cond, eq-eqb, ne_eqb, Bool, true, false, true≢false, List, [], ◌∷◌, ◌++◌, length, set, Option, Some, None, inl, inr, ⊎_elim, refl, sym, ap, ◌∙◌, subst, arith, le_refl, add-one, append-nil}
use Rattle.std.proofs.lemmas.Option.{none-some}
use Rattle.std.specs.List.{AllByRecursion}
use mathlib.Core.Logic.{dite}
use mathlib.Core.Option.{none, some, some-injective, some-ne-none}
use native.Mathlib.Decide.{ℕ_discrete}
use lib.ListN.{get_elem?}
use Rattle.atomic_table.specs.Table.{State, Splits, Joins, opening}
use Rattle.atomic_table.proofs.Lists.{at_set, set_here, set_else, at_longer, at_last}
use Rattle.session_model.specs.Journal.{Entry, History, OutboxRecord, entries_of}
use Rattle.session_model.proofs.Lists.{all_weaker}
use Rattle.gate_turn.specs.Views.{Account, Part, View, part_of, new_part, with_one_more, one_more}
use Rattle.gate_turn.specs.Rule.{In, waiting, tickets, Seated, Queued, Fits, Grown, Author, Home, Out, Turns}
use Rattle.gate_turn.proofs.Puts.{put, put_here, put_else, put_each, within, only_part, tickets_alike, seated_put}
use Rattle.gate_turn.proofs.Histories.{begins_self, none_beyond, entries_of-append}
use Rattle.gate_turn.proofs.Layers.{refits, turn_put}
use Rattle.gate_turn.specs.Steps.{Closed, split_left, split_right}
use Rattle.gate_turn.proofs.Moves.{mine, fits_mine, grown_same, author_same, same_ticket, found_in}

one_of : (n : ℕ) → In 1 n → n ≡ 1
one_of n h = omega (arith, h.from_one, h.up_to)

-- a lock with its first pass alone
pub begins : {T : Type 0} (tells : T → Account) (value : T) (stored : ℕ) → stored ≡ length (tells value).history.made → (tells value).broken ≢ true → (tells value).refused ≡ []
    → Turns tells (tells value) (opening (0 ∷ 0 ∷ stored ∷ 0 ∷ []) (Some value ∷ []) (new_part 1 1 (tells value) ∷ []))
begins tells value stored count whole clean = let a = tells value in record {
  part = λ _. new_part 1 1 a;
  seat = λ _. 0;
  place = λ _. 0;
  made = 1;
  log = a.history;
  top = a.faults;
  shut = a.broken;
  gone = a.refused;
  next = 0;
  now = 0;
  asleep = 0;
  words = ap (λ k. 0 ∷ 0 ∷ k ∷ 0 ∷ []) count;
  some_made = le_refl 1;
  few = omega arith;
  first = refl;
  seated = record {
    here = λ i k v p e f. ⊎_elim
        (λ (t : (i ≡ 0) × (new_part 1 1 a ∷ [] ≡ v)).
        let alone = only_part (new_part 1 1 a) p k (subst (λ u. get_elem? u k ≡ some p) (sym t.1) f) in
        let number : p.number ≡ 1 = ap (λ (y : Part). y.number) (sym alone.1) in
        record { inside = record { from_one = omega arith; up_to = omega arith }; is = alone.1; sits = sym t.0; lies = sym alone.0 })
        (λ (t : (i ≢ 0) × (get_elem? {A = View} [] i ≡ some v)). absurd (some-ne-none v (sym t.1)))
        (first_view i v e);
    present = λ n h. (new_part 1 1 a ∷ [], refl, refl);
  };
  queued = record {
    count = refl;
    waits = λ n t h e. absurd (none-some t e);
    taken = λ t x y. absurd (omega arith);
    apart = λ m n t h k e f. absurd (none-some t e);
  };
  each = λ n h. let one = one_of n h in record {
    number = sym one;
    opened = refl;
    seen = begins_self a.history;
    looked_from = le_refl (length a.history.made);
    looked = le_refl (length a.history.made);
    mine = ap (entries_of a.history.made) (sym one);
    ended = λ e. absurd (true≢false (sym e));
    faults_from = le_refl a.faults;
    faults = le_refl a.faults;
    shut_on = λ e. (e, refl);
    lost = inl refl;
  };
  grown = record {
    begins = begins_self a.history;
    more = [];
    behind = sym (append-nil a.history.made);
    authors = tt;
    marked = λ e. inl e;
    once = λ m n h k e f. absurd (true≢false (sym e));
  };
  author = inl clean;
  turn = inl (record {
    value = value;
    home = refl;
    history = refl;
    faults = refl;
    broken = refl;
    refused = refl;
    sound = record { limits = refl; faults = le_refl a.faults; broken = λ e. absurd (whole e) };
    free = λ n h. refl;
  });
}
  where
    first_view : (i : ℕ) (v : View) → get_elem? ((new_part 1 1 (tells value) ∷ []) ∷ []) i ≡ some v → ((i ≡ 0) × (new_part 1 1 (tells value) ∷ [] ≡ v)) ⊎ ((i ≢ 0) × (get_elem? {A = View} [] i ≡ some v))
    first_view zero v e = inl (refl, some-injective _ _ e)
    first_view (suc i) v e = absurd (some-ne-none v (sym e))

-- where an element of a list with one more stands
at_snoc_place : {A : Type 0} (l : List A) (a b : A) (j : ℕ) → get_elem? (l ++ a ∷ []) j ≡ some b → (get_elem? l j ≡ some b) ⊎ ((j ≡ length l) × (a ≡ b))
at_snoc_place [] a b zero e = inr (refl, some-injective a b e)
at_snoc_place [] a b (suc j) e = absurd (some-ne-none b (sym e))
at_snoc_place (x ∷ xs) a b zero e = inl e
at_snoc_place (x ∷ xs) a b (suc j) e = ⊎_elim (λ f. inl f) (λ (t : (j ≡ length xs) × (a ≡ b)). inr (ap suc t.0, t.1)) (at_snoc_place xs a b j e)

at_append : {A : Type 0} (v w : List A) (k : ℕ) (x : A) → get_elem? (v ++ w) k ≡ some x → (get_elem? v k ≡ some x) ⊎ ((j : ℕ) × (k ≡ length v + j) × (get_elem? w j ≡ some x))
at_append [] w k x e = inr (k, omega arith, e)
at_append (y ∷ v) w zero x e = inl e
at_append (y ∷ v) w (suc k) x e = ⊎_elim (λ f. inl f) (λ t. let g = t.1 in inr (t.0, omega arith, t.2)) (at_append v w k x e)

pub at_beyond : {A : Type 0} (v w : List A) (j : ℕ) (x : A) → get_elem? w j ≡ some x → get_elem? (v ++ w) (length v + j) ≡ some x
at_beyond [] w j x e = subst (λ k. get_elem? w k ≡ some x) (let g : j ≡ 0 + j = omega arith in g) e
at_beyond (y ∷ v) w j x e = subst (λ k. get_elem? (y ∷ (v ++ w)) k ≡ some x) (let g : suc (length v + j) ≡ suc (length v) + j = omega arith in g) (at_beyond v w j x e)

module _ {T : Type 0} (tells : T → Account) (opened : Account) where
  abbrev St : Type 0
  St = State (Option T) View

  -- The seats, where the first pass is split
  seated_split : (part : ℕ → Part) (seat place : ℕ → ℕ) (made : ℕ) (views : List View) (new : Part) → Seated part seat place made views → new.number ≡ made + 1
      → Seated (put part (made + 1) new) (put seat (made + 1) (length views)) (put place (made + 1) 0) (made + 1) (views ++ (new ∷ []) ∷ [])
  seated_split part seat place made views new s number = record {
    here = λ i k v x e f. ⊎_elim
        (λ old. let it = s.here i k v x old f in
        let other : x.number ≢ made + 1 = λ n. omega (arith, it.inside.up_to) in
        record {
          inside = record { from_one = it.inside.from_one; up_to = omega (arith, it.inside.up_to) };
          is = put_else part (made + 1) new x.number other ∙ it.is;
          sits = put_else seat (made + 1) (length views) x.number other ∙ it.sits;
          lies = put_else place (made + 1) 0 x.number other ∙ it.lies;
        })
        (λ (t : (i ≡ length views) × (new ∷ [] ≡ v)).
        let alone = only_part new x k (subst (λ u. get_elem? u k ≡ some x) (sym t.1) f) in
        let same : x.number ≡ made + 1 = ap (λ (y : Part). y.number) (sym alone.1) ∙ number in
        record {
          inside = record { from_one = omega arith; up_to = omega arith };
          is = put_here part (made + 1) new x.number same ∙ alone.1;
          sits = put_here seat (made + 1) (length views) x.number same ∙ sym t.0;
          lies = put_here place (made + 1) 0 x.number same ∙ sym alone.0;
        })
        (at_snoc_place views (new ∷ []) v i e);
    present = λ n h. dite (ℕ_discrete n (made + 1))
        (λ e. (
          new ∷ [],
          at_last views (new ∷ []) (put seat (made + 1) (length views) n) (sym (put_here seat (made + 1) (length views) n e)),
          subst (λ j. get_elem? (new ∷ []) j ≡ some (put part (made + 1) new n)) (sym (put_here place (made + 1) 0 n e)) (ap some (sym (put_here part (made + 1) new n e))),
        ))
        (λ ne. let there = s.present n (record { from_one = h.from_one; up_to = omega (arith, h.up_to) }) in (
          there.0,
          subst (λ j. get_elem? (views ++ (new ∷ []) ∷ []) j ≡ some there.0) (sym (put_else seat (made + 1) (length views) n ne)) (at_longer views ((new ∷ []) ∷ []) (seat n) there.0 there.1),
          subst (λ j. get_elem? there.0 j ≡ some (put part (made + 1) new n)) (sym (put_else place (made + 1) 0 n ne)) (there.2 ∙ ap some (sym (put_else part (made + 1) new n ne))),
        ));
  }

  queued_split : (part : ℕ → Part) (made next now : ℕ) (new : Part) → new.ticket ≡ None → Queued part made next now → Queued (put part (made + 1) new) (made + 1) next now
  queued_split part made next now new idle q = record {
    count =
        let a : tickets (put part (made + 1) new) (suc made) ≡ tickets part made =
        (let b : waiting (put part (made + 1) new (suc made)).ticket ≡ 0 = ap (λ (x : Part). waiting x.ticket) (put_here part (made + 1) new (suc made) (sym (add-one made))) ∙ ap waiting idle in
        let c = tickets_alike part (put part (made + 1) new) made (λ m l. ap (λ (x : Part). x.ticket) (put_else part (made + 1) new m (λ e. omega arith))) in
        omega arith) in
        ap (λ k. k + now) (ap (tickets (put part (made + 1) new)) (add-one made) ∙ a) ∙ q.count;
    waits = λ n t. put_each part (made + 1) new (λ k x. In (made + 1) k → x.ticket ≡ Some t → (now ≤ t) × (t < next))
        (λ _ e. absurd (none-some t (sym idle ∙ e))) (λ k ne h e. q.waits k t (older k ne h) e) n;
    taken = λ t a b. let it = q.taken t a b in (
      it.0,
      record { from_one = it.1.from_one; up_to = omega (arith, it.1.up_to) },
      ap (λ (x : Part). x.ticket) (put_else part (made + 1) new it.0 (λ e. omega (arith, it.1.up_to))) ∙ it.2,
    );
    apart = λ m k t h i. put_each part (made + 1) new (λ j x. In (made + 1) j → x.ticket ≡ Some t → (put part (made + 1) new k).ticket ≡ Some t → j ≡ k)
        (λ _ e. absurd (none-some t (sym idle ∙ e)))
        (λ j nj hj e. put_each part (made + 1) new (λ l x. In (made + 1) l → x.ticket ≡ Some t → j ≡ l)
        (λ _ f. absurd (none-some t (sym idle ∙ f)))
        (λ l nl hl f. q.apart j l t (older j nj hj) (older l nl hl) e f) k i) m h;
  }
    where
      older : (k : ℕ) → k ≢ made + 1 → In (made + 1) k → In made k
      older k ne h = record { from_one = h.from_one; up_to = omega (arith, h.up_to) }

  -- one more pass, which has not done anything: the rest of the rule
  module _ (part : ℕ → Part) (made : ℕ) (log : History) (top : ℕ) (shut : Bool) (gone : List OutboxRecord) (now : ℕ) (new : Part)
      (homes : List (mathlib.Core.Option.Option (Option T))) where
    older : (k : ℕ) → k ≢ made + 1 → In (made + 1) k → In made k
    older k ne h = record { from_one = h.from_one; up_to = omega (arith, h.up_to) }

    younger : (k : ℕ) → In made k → In (made + 1) k
    younger k h = record { from_one = h.from_one; up_to = omega (arith, h.up_to) }

    not_new : (k : ℕ) → In made k → k ≢ made + 1
    not_new k h e = omega (arith, h.up_to)

    grown_split : new.ended ≡ false → Grown part opened made log → Grown (put part (made + 1) new) opened (made + 1) log
    grown_split idle g = record {
      begins = g.begins;
      more = g.more;
      behind = g.behind;
      authors = all_weaker (λ (e : Entry). In made e.sender) (λ (e : Entry). In (made + 1) e.sender) (λ e h. younger e.sender h) g.more g.authors;
      marked = λ e. ⊎_elim (λ a. inl a) (λ a. inr (a.0, younger a.0 a.1, ap (λ (x : Part). x.ended) (put_else part (made + 1) new a.0 (not_new a.0 a.1)) ∙ a.2)) (g.marked e);
      once = λ m k h i. put_each part (made + 1) new (λ j x. In (made + 1) j → x.ended ≡ true → (put part (made + 1) new k).ended ≡ true → j ≡ k)
          (λ _ e. absurd (true≢false (sym e ∙ idle)))
          (λ j nj hj e. put_each part (made + 1) new (λ l x. In (made + 1) l → x.ended ≡ true → j ≡ l)
          (λ _ f. absurd (true≢false (sym f ∙ idle)))
          (λ l nl hl f. g.once j l (older j nj hj) (older l nl hl) e f) k i) m h;
    }

    author_split : Author part made gone → Author (put part (made + 1) new) (made + 1) gone
    author_split = ⊎_elim (λ e. inl e)
        (λ (a : (n : ℕ) × In made n × ((part n).lost ≡ gone)). inr (a.0, younger a.0 a.1, ap (λ (x : Part). x.lost) (put_else part (made + 1) new a.0 (not_new a.0 a.1)) ∙ a.2))

    turn_split : new.held ≡ None → Home tells part opened made log top shut gone homes ⊎ Out tells part made log top shut gone now homes
        → Home tells (put part (made + 1) new) opened (made + 1) log top shut gone homes ⊎ Out tells (put part (made + 1) new) (made + 1) log top shut gone now homes
    turn_split idle (inl h) = inl (record {
      value = h.value;
      home = h.home;
      history = h.history;
      faults = h.faults;
      broken = h.broken;
      refused = h.refused;
      sound = h.sound;
      free = λ n. put_each part (made + 1) new (λ k x. In (made + 1) k → x.held ≡ None) (λ _. idle) (λ k ne i. h.free k (older k ne i)) n;
    })
    turn_split idle (inr o) = let same = put_else part (made + 1) new o.holder (not_new o.holder o.inside) in inr (record {
      holder = o.holder;
      inside = younger o.holder o.inside;
      held = ap (λ (x : Part). x.held) same ∙ o.held;
      ticket = ap (λ (x : Part). x.ticket) same ∙ o.ticket;
      faults = ap (λ (x : Part). x.faults) same ∙ o.faults;
      broken = ap (λ (x : Part). x.broken) same ∙ o.broken;
      refused = ap (λ (x : Part). x.refused) same ∙ o.refused;
      home = o.home;
      alone = λ n. put_each part (made + 1) new (λ k x. In (made + 1) k → k ≢ o.holder → x.held ≡ None) (λ _ _. idle) (λ k ne i apart. o.alone k (older k ne i) apart) n;
    })

  fits_new : (log : History) (top : ℕ) (shut : Bool) (gone : List OutboxRecord) (made : ℕ) (part : ℕ → Part) (p : Part) → p.made ≡ made → Fits opened log top shut gone p.number p
      → Grown part opened made log → Fits opened log top shut gone (made + 1) (one_more p)
  fits_new log top shut gone made part p count f g = record {
    number = ap (λ k. k + 1) count;
    opened = f.opened;
    seen = f.seen;
    looked_from = f.looked_from;
    looked = f.looked;
    mine =
        ap (λ (a : Account). entries_of a.history.made (p.made + 1)) f.opened
        ∙ (ap (λ k. entries_of opened.history.made (k + 1)) count
        ∙ (sym (append-nil (entries_of opened.history.made (made + 1)))
        ∙ (ap (λ es. entries_of opened.history.made (made + 1) ++ es) (sym (none_beyond made (made + 1) g.more g.authors (omega arith)))
        ∙ (sym (entries_of-append opened.history.made g.more (made + 1)) ∙ ap (λ es. entries_of es (made + 1)) (sym g.behind)))));
    ended = λ e. absurd (true≢false (sym e));
    faults_from = f.faults_from;
    faults = f.faults;
    shut_on = f.shut_on;
    lost = inl refl;
  }

  pub splits : (id : ℕ) (v : View) → v ≡ part_of v ∷ [] → (part_of v).number ≡ 1 → (part_of v).made < 18 → Splits (Turns tells opened) id v (split_left v) (split_right v)
  splits id v one number room s r there =
      let p : Part = part_of v in
      let at : get_elem? s.views id ≡ some (p ∷ []) = there ∙ ap some one in
      let sits = mine tells opened s r id p at in
      let is : r.part p.number ≡ p = sits.is in
      let f = fits_mine tells opened s r id p at in
      let q : Part = with_one_more p in
      let part1 : ℕ → Part = put r.part p.number q in
      let views1 : List View = set s.views id (q ∷ []) in
      let new : Part = one_more p in
      let count : p.made ≡ r.made = ap (λ (x : Part). x.made) (sym is) ∙ (ap (λ k. (r.part k).made) number ∙ r.first) in
      let grown1 = grown_same tells opened s r id p q at refl in
      let few = r.few in
      let some_made = r.some_made in
      record {
        part = put part1 (r.made + 1) new;
        seat = put r.seat (r.made + 1) (length views1);
        place = put r.place (r.made + 1) 0;
        made = r.made + 1;
        log = r.log;
        top = r.top;
        shut = r.shut;
        gone = r.gone;
        next = r.next;
        now = r.now;
        asleep = r.asleep;
        words = r.words;
        some_made = omega arith;
        few = omega arith;
        first = ap (λ (x : Part). x.made) (put_else part1 (r.made + 1) new 1 (λ e. omega arith) ∙ put_here r.part p.number q 1 (sym number)) ∙ ap (λ k. k + 1) count;
        seated = seated_split part1 r.seat r.place r.made views1 new (seated_put r.part r.seat r.place r.made s.views id p q r.seated at refl (λ k h. (r.each k h).number)) (ap (λ k. k + 1) count);
        queued = queued_split part1 r.made r.next r.now new refl (same_ticket tells opened s r id p q at refl);
        each = λ n. put_each part1 (r.made + 1) new (λ k x. In (r.made + 1) k → Fits opened r.log r.top r.shut r.gone k x)
            (λ _. fits_new r.log r.top r.shut r.gone r.made part1 p count f grown1)
            (λ k ne h. put_each r.part p.number q (λ j x. In r.made j → Fits opened r.log r.top r.shut r.gone j x)
            (λ _. refits opened r.log r.top r.shut r.gone p.number p q f refl refl refl refl refl refl refl refl (le_refl p.looked) f.looked (le_refl p.faults) f.faults)
            (λ j _ i. r.each j i) k (older part1 r.made r.log r.top r.shut r.gone r.now new s.homes k ne h)) n;
        grown = grown_split part1 r.made r.log r.top r.shut r.gone r.now new s.homes refl grown1;
        author = author_split part1 r.made r.log r.top r.shut r.gone r.now new s.homes (author_same tells opened s r id p q at refl);
        turn = turn_split part1 r.made r.log r.top r.shut r.gone r.now new s.homes refl
            (turn_put tells r.part opened r.made r.log r.top r.shut r.gone r.now p.number s.homes q (ap (λ (x : Part). x.held) (sym is)) (ap (λ (x : Part). x.faults) (sym is))
            (ap (λ (x : Part). x.broken) (sym is)) (ap (λ (x : Part). x.refused) (sym is)) (λ _. ap (λ (x : Part). x.ticket) (sym is)) r.turn);
      }

  -- where the parts of the seat `other` stand once they are joined behind those of the seat `id`, which are so many
  moved_seat : (ℕ → ℕ) → ℕ → ℕ → ℕ → ℕ
  moved_seat seat id other n = cond (eqb (seat n) other) id (seat n)

  moved_place : (ℕ → ℕ) → (ℕ → ℕ) → ℕ → ℕ → ℕ → ℕ
  moved_place seat place other many n = cond (eqb (seat n) other) (many + place n) (place n)

  module _ (seat place : ℕ → ℕ) (id other many n : ℕ) where
    seat_of_other : seat n ≡ other → moved_seat seat id other n ≡ id
    unfolding moved_seat
    seat_of_other e = ap (λ b. cond b id (seat n)) (eq-eqb (seat n) other e)

    seat_kept : seat n ≢ other → moved_seat seat id other n ≡ seat n
    unfolding moved_seat
    seat_kept ne = ap (λ b. cond b id (seat n)) (ne_eqb (seat n) other ne)

  module _ (seat place : ℕ → ℕ) (other many n : ℕ) where
    place_of_other : seat n ≡ other → moved_place seat place other many n ≡ many + place n
    unfolding moved_place
    place_of_other e = ap (λ b. cond b (many + place n) (place n)) (eq-eqb (seat n) other e)

    place_kept : seat n ≢ other → moved_place seat place other many n ≡ place n
    unfolding moved_place
    place_kept ne = ap (λ b. cond b (many + place n) (place n)) (ne_eqb (seat n) other ne)

  seated_join : (part : ℕ → Part) (seat place : ℕ → ℕ) (made : ℕ) (views : List View) (id other : ℕ) (v w : View) → Seated part seat place made views
      → get_elem? views id ≡ some v → other ≢ id → get_elem? views other ≡ some w
      → Seated part (moved_seat seat id other) (moved_place seat place other (length v)) made (set (set views id (v ++ w)) other [])
  seated_join part seat place made views id other v w s at apart there = record {
    here = λ i k u x e f. ⊎_elim
        (λ (t : (i ≡ other) × ([] ≡ u)). absurd (some-ne-none x (sym (subst (λ y. get_elem? y k ≡ some x) (sym t.1) f))))
        (λ (t : (i ≢ other) × (get_elem? (set views id (v ++ w)) i ≡ some u)). ⊎_elim
        (λ (z : (i ≡ id) × (v ++ w ≡ u)). ⊎_elim
        (λ g. let it = s.here id k v x at g in
        let ne : seat x.number ≢ other = λ o. apart (sym o ∙ it.sits) in
        record { inside = it.inside; is = it.is; sits = seat_kept seat place id other 0 x.number ne ∙ (it.sits ∙ sym z.0); lies = place_kept seat place other (length v) x.number ne ∙ it.lies })
        (λ g. let it = s.here other g.0 w x there g.2 in
        record {
          inside = it.inside;
          is = it.is;
          sits = seat_of_other seat place id other 0 x.number it.sits ∙ sym z.0;
          lies = place_of_other seat place other (length v) x.number it.sits ∙ (ap (λ j. length v + j) it.lies ∙ sym g.1);
        })
        (at_append v w k x (subst (λ y. get_elem? y k ≡ some x) (sym z.1) f)))
        (λ (z : (i ≢ id) × (get_elem? views i ≡ some u)).
        let it = s.here i k u x z.1 f in
        let ne : seat x.number ≢ other = λ o. t.0 (sym it.sits ∙ o) in
        record { inside = it.inside; is = it.is; sits = seat_kept seat place id other 0 x.number ne ∙ it.sits; lies = place_kept seat place other (length v) x.number ne ∙ it.lies })
        (at_set views id i (v ++ w) u t.1))
        (at_set (set views id (v ++ w)) other i [] u e);
    present = λ n h. let it = s.present n h in dite (ℕ_discrete (seat n) other)
        (λ o. (
          v ++ w,
          ap (get_elem? both) (seat_of_other seat place id other 0 n o) ∙ joined,
          ap (get_elem? (v ++ w)) (place_of_other seat place other (length v) n o)
              ∙ at_beyond v w (place n) (part n) (subst (λ y. get_elem? y (place n) ≡ some (part n)) (some-injective it.0 w (sym it.1 ∙ (ap (get_elem? views) o ∙ there))) it.2),
        ))
        (λ no. dite (ℕ_discrete (seat n) id)
        (λ yes. (
          v ++ w,
          ap (get_elem? both) (seat_kept seat place id other 0 n no ∙ yes) ∙ joined,
          ap (get_elem? (v ++ w)) (place_kept seat place other (length v) n no)
              ∙ at_longer v w (place n) (part n) (subst (λ y. get_elem? y (place n) ≡ some (part n)) (some-injective it.0 v (sym it.1 ∙ (ap (get_elem? views) yes ∙ at))) it.2),
        ))
        (λ ne. (
          it.0,
          ap (get_elem? both) (seat_kept seat place id other 0 n no) ∙ (set_else (set views id (v ++ w)) other (seat n) [] no ∙ (set_else views id (seat n) (v ++ w) ne ∙ it.1)),
          ap (get_elem? it.0) (place_kept seat place other (length v) n no) ∙ it.2,
        )));
  }
    where
      both : List View
      both = set (set views id (v ++ w)) other []

      joined : get_elem? (set (set views id (v ++ w)) other []) id ≡ some (v ++ w)
      joined = set_else (set views id (v ++ w)) other id [] (λ e. apart (sym e)) ∙ set_here views id (v ++ w) (within views id v at)

  pub joins : (id : ℕ) (v : View) (other : ℕ) (w : View) → Joins (Turns tells opened) id v other w (v ++ w) []
  joins id v other w s r at apart there =
      let found : get_elem? s.views other ≡ some w = sym (set_else s.views id other (v ++ w) apart) ∙ there in
      record {
        part = r.part;
        seat = moved_seat r.seat id other;
        place = moved_place r.seat r.place other (length v);
        made = r.made;
        log = r.log;
        top = r.top;
        shut = r.shut;
        gone = r.gone;
        next = r.next;
        now = r.now;
        asleep = r.asleep;
        words = r.words;
        some_made = r.some_made;
        few = r.few;
        first = r.first;
        seated = seated_join r.part r.seat r.place r.made s.views id other v w r.seated at apart found;
        queued = r.queued;
        each = r.each;
        grown = r.grown;
        author = r.author;
        turn = r.turn;
      }

  -- The rule where one seat has the parts of all passes, none of which has the turn
  module _ (s : St) (r : Turns tells opened s) (id : ℕ) (v : View) (there : get_elem? s.views id ≡ some v) (made : ℕ) (known : ℕ → Part)
      (some_made : 1 ≤ made) (numbers : (n : ℕ) → In made n → (known n).number ≡ n) (counts : (known 1).made ≡ made)
      (free : (n : ℕ) → In made n → (known n).held ≡ None) (lies : (n : ℕ) → In made n → (k : ℕ) × (get_elem? v k ≡ some (known n))) where
    part_is : (n : ℕ) → In made n → r.part n ≡ known n
    part_is n h = let k = lies n h in let it = r.seated.here id k.0 v (known n) there k.1 in ap r.part (sym (numbers n h)) ∙ it.is

    all_made : r.made ≡ made
    all_made = sym r.first ∙ (ap (λ (p : Part). p.made) (part_is 1 (record { from_one = le_refl 1; up_to = some_made })) ∙ counts)

    same_in : (n : ℕ) → In r.made n → In made n
    same_in n h = subst (λ m. In m n) all_made h

    same_back : (n : ℕ) → In made n → In r.made n
    same_back n h = subst (λ m. In m n) (sym all_made) h

    pub all_home : Home tells r.part opened r.made r.log r.top r.shut r.gone s.homes
    all_home = ⊎_elim (λ h. h)
        (λ (o : Out tells r.part r.made r.log r.top r.shut r.gone r.now s.homes).
        let i = same_in o.holder o.inside in
        absurd (none-some r.log (sym (free o.holder i) ∙ (ap (λ (p : Part). p.held) (sym (part_is o.holder i)) ∙ o.held)))) r.turn

    fits : (n : ℕ) → In made n → Fits opened r.log r.top r.shut r.gone n (known n)
    fits n i = subst (Fits opened r.log r.top r.shut r.gone n) (part_is n i) (r.each n (same_back n i))

    pub closes : Closed known made opened (tells all_home.value)
    closes = let h = all_home in let g = r.grown in
        let now : History = (tells h.value).history in
        let log : r.log ≡ now = sym h.history in
        record {
          found = λ n i. found_in tells opened s r n (known n) (fits n i) h;
          opened = λ n i. (fits n i).opened;
          more = g.more;
          behind = ap (λ (l : History). l.made) (sym log) ∙ g.behind;
          authors = subst (λ m. AllByRecursion (λ (e : Entry). In m e.sender) g.more) all_made g.authors;
          marked = λ e. ⊎_elim (λ a. inl a) (λ a. let i = same_in a.0 a.1 in inr (a.0, i, ap (λ (p : Part). p.ended) (sym (part_is a.0 i)) ∙ a.2))
              (g.marked (ap (λ (l : History). l.finished) log ∙ e));
          once = λ m n i j e f. g.once m n (same_back m i) (same_back n j) (ap (λ (p : Part). p.ended) (part_is m i) ∙ e) (ap (λ (p : Part). p.ended) (part_is n j) ∙ f);
          lost = ⊎_elim (λ e. inl (h.refused ∙ e))
              (λ a. let i = same_in a.0 a.1 in inr (a.0, i, ap (λ (p : Part). p.lost) (sym (part_is a.0 i)) ∙ (a.2 ∙ sym h.refused))) r.author;
        }
