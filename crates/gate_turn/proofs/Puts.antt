-- One pass's part is put in place of what it was: what stays true of the seats, the tickets and the number of tickets.
use Rattle.std.proofs.Common.{◌≡◌, ◌≢◌, ℕ, zero, suc, ◌+◌, ◌<◌, ◌≤◌, eqb, cond, List, [], ◌∷◌, length, set, Option, Some, None, ⊎_elim, refl, sym, ap, ◌∙◌, subst, arith, eq-eqb, ne_eqb}
use Rattle.std.proofs.lemmas.Option.{none-some, same_Some}
use mathlib.Core.Logic.{dite}
use mathlib.Core.Option.{some, some-injective, some-ne-none}
use native.Mathlib.Decide.{ℕ_discrete}
use lib.ListN.{get_elem?}
use Rattle.atomic_table.proofs.Lists.{at_set, set_here, set_else}
use Rattle.gate_turn.specs.Views.{Part, View, part_of}
use Rattle.gate_turn.specs.Rule.{In, waiting, tickets, Stands, Seated, Queued}

-- the function with q at n
pub put : {A : Type 0} → (ℕ → A) → ℕ → A → ℕ → A
put f n q m = cond (eqb m n) q (f m)

pub put_here : {A : Type 0} (f : ℕ → A) (n : ℕ) (q : A) (m : ℕ) → m ≡ n → put f n q m ≡ q
unfolding put
put_here f n q m e = ap (λ b. cond b q (f m)) (eq-eqb m n e)

pub put_else : {A : Type 0} (f : ℕ → A) (n : ℕ) (q : A) (m : ℕ) → m ≢ n → put f n q m ≡ f m
unfolding put
put_else f n q m ne = ap (λ b. cond b q (f m)) (ne_eqb m n ne)

-- a fact at each number, by cases
pub put_each : {A : Type 0} (part : ℕ → A) (n : ℕ) (q : A) (F : ℕ → A → Type 0) → F n q → ((m : ℕ) → m ≢ n → F m (part m)) → (m : ℕ) → F m (put part n q m)
put_each part n q F mine others m = dite (ℕ_discrete m n)
    (λ e. subst (F m) (sym (put_here part n q m e)) (subst (λ k. F k q) (sym e) mine))
    (λ ne. subst (F m) (sym (put_else part n q m ne)) (others m ne))

pub within : {A : Type 0} (l : List A) (i : ℕ) (a : A) → get_elem? l i ≡ some a → i < length l
within [] i a e = absurd (some-ne-none a (sym e))
within (x ∷ xs) zero a e = omega arith
within (x ∷ xs) (suc i) a e = omega (arith, within xs i a e)

-- a view of one part has it alone
pub only_part : (p q : Part) (k : ℕ) → get_elem? (p ∷ []) k ≡ some q → (k ≡ 0) × (p ≡ q)
only_part p q zero e = (refl, some-injective p q e)
only_part p q (suc k) e = absurd (some-ne-none q (sym e))

waiting_small : (o : Option ℕ) → waiting o ≤ 1
waiting_small None = omega arith
waiting_small (Some t) = omega arith

-- no more tickets than passes
pub tickets_few : (part : ℕ → Part) (n : ℕ) → tickets part n ≤ n
tickets_few part zero = omega arith
tickets_few part (suc n) = omega (arith, tickets_few part n, waiting_small (part (suc n)).ticket)

pub tickets_alike : (part part' : ℕ → Part) (n : ℕ) → ((m : ℕ) → m ≤ n → (part' m).ticket ≡ (part m).ticket) → tickets part' n ≡ tickets part n
tickets_alike part part' zero same = refl
tickets_alike part part' (suc n) same =
    let a : waiting (part' (suc n)).ticket ≡ waiting (part (suc n)).ticket = ap waiting (same (suc n) (omega arith)) in
    let b = tickets_alike part part' n (λ m h. same m (omega arith)) in
    omega arith

pub tickets_put : (part : ℕ → Part) (n : ℕ) (q : Part) (made : ℕ) → In made n → tickets (put part n q) made + waiting (part n).ticket ≡ tickets part made + waiting q.ticket
tickets_put part n q zero h = absurd (omega (arith, h.from_one, h.up_to))
tickets_put part n q (suc k) h = dite (ℕ_discrete (suc k) n)
    (λ e.
    let a : waiting (put part n q (suc k)).ticket ≡ waiting q.ticket = ap (λ (x : Part). waiting x.ticket) (put_here part n q (suc k) e) in
    let b : waiting (part (suc k)).ticket ≡ waiting (part n).ticket = ap (λ x. waiting (part x).ticket) e in
    let c = tickets_alike part (put part n q) k (λ m l. ap (λ (x : Part). x.ticket) (put_else part n q m (λ f. omega arith))) in
    omega arith)
    (λ ne.
    let a : waiting (put part n q (suc k)).ticket ≡ waiting (part (suc k)).ticket = ap (λ (x : Part). waiting x.ticket) (put_else part n q (suc k) ne) in
    let c = tickets_put part n q k (record { from_one = h.from_one; up_to = omega (arith, h.up_to) }) in
    omega arith)

-- The seats stay where they are
pub seated_put : (part : ℕ → Part) (seat place : ℕ → ℕ) (made : ℕ) (views : List View) (id : ℕ) (p q : Part)
    → Seated part seat place made views → get_elem? views id ≡ some (p ∷ []) → q.number ≡ p.number → ((m : ℕ) → In made m → (part m).number ≡ m)
    → Seated (put part p.number q) seat place made (set views id (q ∷ []))
seated_put part seat place made views id p q s at same numbers = record {
  here = λ i k v x e f. ⊎_elim
      (λ (t : (i ≡ id) × (q ∷ [] ≡ v)).
      let alone = only_part q x k (subst (λ u. get_elem? u k ≡ some x) (sym t.1) f) in
      let number : x.number ≡ p.number = ap (λ (y : Part). y.number) (sym alone.1) ∙ same in
      record {
        inside = subst (In made) (sym number) mine.inside;
        is = put_here part p.number q x.number number ∙ alone.1;
        sits = ap seat number ∙ (mine.sits ∙ sym t.0);
        lies = ap place number ∙ (mine.lies ∙ sym alone.0);
      })
      (λ (t : (i ≢ id) × (get_elem? views i ≡ some v)).
      let other = s.here i k v x t.1 f in
      record {
        inside = other.inside;
        is = put_else part p.number q x.number (λ n. t.0 (sym other.sits ∙ (ap seat n ∙ mine.sits))) ∙ other.is;
        sits = other.sits;
        lies = other.lies;
      })
      (at_set views id i (q ∷ []) v e);
  present = λ m h. dite (ℕ_discrete m p.number)
      (λ e. (
        q ∷ [],
        subst (λ j. get_elem? (set views id (q ∷ [])) j ≡ some (q ∷ [])) (sym mine.sits ∙ ap seat (sym e)) (set_here views id (q ∷ []) (within views id (p ∷ []) at)),
        subst (λ j. get_elem? (q ∷ []) j ≡ some (put part p.number q m)) (sym mine.lies ∙ ap place (sym e)) (ap some (sym (put_here part p.number q m e))),
      ))
      (λ ne. let there = s.present m h in (
        there.0,
        set_else views id (seat m) (q ∷ [])
            (λ j. ne (sym (numbers m h) ∙ ap (λ (y : Part). y.number) (sym (only_part p (part m) (place m)
            (subst (λ u. get_elem? u (place m) ≡ some (part m)) (some-injective there.0 (p ∷ []) (sym there.1 ∙ (ap (get_elem? views) j ∙ at))) there.2)).1)))
            ∙ there.1,
        there.2 ∙ ap some (sym (put_else part p.number q m ne)),
      ));
}
  where
    mine : Stands part seat place made id 0 p
    mine = s.here id 0 (p ∷ []) p at refl

-- The tickets, where none changes
pub queued_alike : (part part' : ℕ → Part) (made next now : ℕ) → ((m : ℕ) → (part' m).ticket ≡ (part m).ticket) → Queued part made next now → Queued part' made next now
queued_alike part part' made next now same q = record {
  count = ap (λ k. k + now) (tickets_alike part part' made (λ m _. same m)) ∙ q.count;
  waits = λ m t h e. q.waits m t h (sym (same m) ∙ e);
  taken = λ t a b. let it = q.taken t a b in (it.0, it.1, same it.0 ∙ it.2);
  apart = λ m n t h k e f. q.apart m n t h k (sym (same m) ∙ e) (sym (same n) ∙ f);
}

put_ticket : (part : ℕ → Part) (n : ℕ) (q : Part) → q.ticket ≡ (part n).ticket → (m : ℕ) → (put part n q m).ticket ≡ (part m).ticket
put_ticket part n q same = put_each part n q (λ m x. x.ticket ≡ (part m).ticket) same (λ m _. refl)

pub queued_same : (part : ℕ → Part) (n : ℕ) (q : Part) (made next now : ℕ) → q.ticket ≡ (part n).ticket → Queued part made next now → Queued (put part n q) made next now
queued_same part n q made next now same = queued_alike part (put part n q) made next now (put_ticket part n q same)

-- one is drawn
pub queued_draws : (part : ℕ → Part) (n : ℕ) (q : Part) (made next now : ℕ) → In made n → (part n).ticket ≡ None → q.ticket ≡ Some next
    → Queued part made next now → Queued (put part n q) made (next + 1) now
queued_draws part n q made next now inside none_before drew r = record {
  count =
      let a = tickets_put part n q made inside in
      let b : waiting (part n).ticket ≡ 0 = ap waiting none_before in
      let c : waiting q.ticket ≡ 1 = ap waiting drew in
      let d = r.count in
      omega arith;
  waits = λ m t. put_each part n q (λ k x. In made k → x.ticket ≡ Some t → (now ≤ t) × (t < next + 1))
      (λ _ e. let f : next ≡ t = same_Some next t (sym drew ∙ e) in let d = r.count in (omega arith, omega arith))
      (λ k _ h e. let w = r.waits k t h e in (w.0, omega (arith, w.1))) m;
  taken = λ t a b. dite (ℕ_discrete t next)
      (λ e. (n, inside, ap (λ (x : Part). x.ticket) (put_here part n q n refl) ∙ (drew ∙ ap Some (sym e))))
      (λ ne. let it = r.taken t a (omega arith) in
      (it.0, it.1, ap (λ (x : Part). x.ticket) (put_else part n q it.0 (λ e. none-some t (sym none_before ∙ (ap (λ k. (part k).ticket) (sym e) ∙ it.2)))) ∙ it.2));
  apart = λ m k t h i. put_each part n q (λ j x. In made j → x.ticket ≡ Some t → (put part n q k).ticket ≡ Some t → j ≡ k)
      (λ _ e. put_each part n q (λ j x. In made j → x.ticket ≡ Some t → n ≡ j) (λ _ _. refl)
      (λ j _ hj f. absurd (omega (arith, (r.waits j t hj f).1, same_Some next t (sym drew ∙ e)))) k i)
      (λ j _ hj e. put_each part n q (λ l x. In made l → x.ticket ≡ Some t → j ≡ l)
      (λ _ f. absurd (omega (arith, (r.waits j t hj e).1, same_Some next t (sym drew ∙ f))))
      (λ l _ hl f. r.apart j l t hj hl e f) k i) m h;
}

-- the one that is served is given up
pub queued_leaves : (part : ℕ → Part) (n : ℕ) (q : Part) (made next now : ℕ) → In made n → (part n).ticket ≡ Some now → q.ticket ≡ None
    → Queued part made next now → Queued (put part n q) made next (now + 1)
queued_leaves part n q made next now inside served gone r = record {
  count =
      let a = tickets_put part n q made inside in
      let b : waiting (part n).ticket ≡ 1 = ap waiting served in
      let c : waiting q.ticket ≡ 0 = ap waiting gone in
      let d = r.count in
      omega arith;
  waits = λ m t. put_each part n q (λ k x. In made k → x.ticket ≡ Some t → (now + 1 ≤ t) × (t < next))
      (λ _ e. absurd (none-some t (sym gone ∙ e)))
      (λ k ne h e. let w = r.waits k t h e in
      let other : t ≢ now = λ f. ne (r.apart k n now h inside (e ∙ ap Some f) served) in
      (omega (arith, w.0), w.1)) m;
  taken = λ t a b. let it = r.taken t (omega arith) b in (
    it.0,
    it.1,
    ap (λ (x : Part). x.ticket) (put_else part n q it.0
        (λ e. let f : now ≡ t = same_Some now t (sym served ∙ (ap (λ k. (part k).ticket) (sym e) ∙ it.2)) in absurd (omega arith))) ∙ it.2,
  );
  apart = λ m k t h i. put_each part n q (λ j x. In made j → x.ticket ≡ Some t → (put part n q k).ticket ≡ Some t → j ≡ k)
      (λ _ e. absurd (none-some t (sym gone ∙ e)))
      (λ j _ hj e. put_each part n q (λ l x. In made l → x.ticket ≡ Some t → j ≡ l)
      (λ _ f. absurd (none-some t (sym gone ∙ f)))
      (λ l _ hl f. r.apart j l t hj hl e f) k i) m h;
}

-- a view of one part
pub one_view : (v : View) (q : Part) → v ≡ q ∷ [] → v ≡ part_of v ∷ []
one_view v q e = e ∙ ap (λ u. part_of u ∷ []) (sym e)
