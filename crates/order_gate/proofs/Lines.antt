-- Each move on a line keeps its rule.
use Rattle.std.proofs.Common.{◌≡◌, ◌≢◌, ℕ, zero, suc, Bool, true, false, true≢false, List, [], ◌∷◌, ◌++◌, length, set, sym, refl, ap, subst, ◌∙◌, ⊎_elim, append_assoc}
use mathlib.Core.Option.{some, some-ne-none}
use lib.ListN.{get_elem?}
use Rattle.crossbeam_queue.specs.Fifo.{Pushes, Pops, Forks, Merges, Learns}
use Rattle.crossbeam_queue.proofs.Lists.{at_set, at_snoc}
use Rattle.order_gate.specs.declared.line.Log.{Log}
use Rattle.order_gate.specs.Line.{log, InOrder}

-- who has a role is this one, and has done this
abbrev Has : (role : Log → Bool) (done : Log → List ℕ) (who : ℕ) (list : List ℕ) → ℕ → Log → Type 0
Has role done who list at v = role v ≡ true → (at ≡ who) × (done v ≡ list)

abbrev All : (ℕ → Log → Type 0) → List Log → Type 0
All P views = (at : ℕ) (v : Log) → get_elem? views at ≡ some v → P at v

-- where one view is set, what is so of it and of the others is so of all
set_one : (P : ℕ → Log → Type 0) (views : List Log) (port : ℕ) (w : Log) → P port w → ((j : ℕ) (u : Log) → j ≢ port → get_elem? views j ≡ some u → P j u) → All P (set views port w)
set_one P views port w mine others j u e =
    ⊎_elim (λ (x : (j ≡ port) × (w ≡ u)). subst (λ (y : ℕ × Log). P y.0 y.1) (λ i. (sym x.0 i, x.1 i)) mine) (λ (x : (j ≢ port) × (get_elem? views j ≡ some u)). others j u x.0 x.1) (at_set views port j w u e)

-- what stands in a list with one more, and not in the list, stands at the end
at_end : (views : List Log) (last v : Log) (j : ℕ) → get_elem? views j ≢ some v → get_elem? (views ++ last ∷ []) j ≡ some v → j ≡ length views
at_end [] last v zero not e = refl
at_end [] last v (suc j) not e = absurd (some-ne-none v (sym e))
at_end (u ∷ views) last v zero not e = absurd (not e)
at_end (u ∷ views) last v (suc j) not e = ap suc (at_end views last v j not e)

pub begins : InOrder [] (log true true [] [] ∷ [])
begins = record {
  writer = 0;
  reader = 0;
  pushed = [];
  popped = [];
  order = refl;
  writes = λ at v e p. (first at v e, ap (λ (u : Log). u.pushed) (sym (one at v e)));
  reads = λ at v e p. (first at v e, ap (λ (u : Log). u.popped) (sym (one at v e)));
}
  where
    first : (at : ℕ) (v : Log) → get_elem? (log true true [] [] ∷ []) at ≡ some v → at ≡ 0
    first at v e = at_end [] (log true true [] []) v at (λ x. some-ne-none v (sym x)) e

    one : (at : ℕ) (v : Log) → get_elem? (log true true [] [] ∷ []) at ≡ some v → log true true [] [] ≡ v
    one at v e = ⊎_elim (λ x. absurd (some-ne-none v (sym x))) (λ x. x) (at_snoc [] (log true true [] []) v at e)

pub pushes : (n port : ℕ) (v : Log) (x : ℕ) → v.pushes ≡ true → Pushes InOrder n port v x (λ w. w ≡ log v.pushes v.pops (v.pushed ++ x ∷ []) v.popped)
pushes n port v x may items views _ h at =
    let w : Log = log v.pushes v.pops (v.pushed ++ x ∷ []) v.popped in
    let own = h.writes port v at may in
    let pushed = h.pushed ++ x ∷ [] in (
      w,
      record {
        writer = h.writer;
        reader = h.reader;
        pushed = pushed;
        popped = h.popped;
        order = ap (λ l. l ++ x ∷ []) h.order ∙ append_assoc h.popped items (x ∷ []);
        writes = set_one (Has (λ (u : Log). u.pushes) (λ (u : Log). u.pushed) h.writer pushed) views port w (λ _. (own.0, ap (λ l. l ++ x ∷ []) own.1))
            (λ j u other e p. absurd (other ((h.writes j u e p).0 ∙ sym own.0)));
        reads = set_one (Has (λ (u : Log). u.pops) (λ (u : Log). u.popped) h.reader h.popped) views port w (h.reads port v at) (λ j u other e p. h.reads j u e p);
      },
      refl,
    )

pub pops : (port : ℕ) (v : Log) → v.pops ≡ true → Pops InOrder port v (λ x w. w ≡ log v.pushes v.pops v.pushed (v.popped ++ x ∷ []))
pops port v may x items views h at =
    let w : Log = log v.pushes v.pops v.pushed (v.popped ++ x ∷ []) in
    let own = h.reads port v at may in
    let popped = h.popped ++ x ∷ [] in (
      w,
      record {
        writer = h.writer;
        reader = h.reader;
        pushed = h.pushed;
        popped = popped;
        order = h.order ∙ sym (append_assoc h.popped (x ∷ []) items);
        writes = set_one (Has (λ (u : Log). u.pushes) (λ (u : Log). u.pushed) h.writer h.pushed) views port w (h.writes port v at) (λ j u other e p. h.writes j u e p);
        reads = set_one (Has (λ (u : Log). u.pops) (λ (u : Log). u.popped) h.reader popped) views port w (λ _. (own.0, ap (λ l. l ++ x ∷ []) own.1))
            (λ j u other e p. absurd (other ((h.reads j u e p).0 ∙ sym own.0)));
      },
      refl,
    )

pub forks : (port : ℕ) (v : Log) → v.pushes ≡ true → v.pops ≡ true → Forks InOrder port v (log true false v.pushed []) (log false true [] v.popped)
forks port v a b items views h at =
    let left : Log = log true false v.pushed [] in
    let right : Log = log false true [] v.popped in
    let writer = h.writes port v at a in
    let reader = h.reads port v at b in
    let vs : List Log = set views port left in
    let Writes : ℕ → Log → Type 0 = Has (λ (u : Log). u.pushes) (λ (u : Log). u.pushed) h.writer h.pushed in
    let None : ℕ → Log → Type 0 = λ j u. u.pops ≢ true in
    let writes : All Writes vs = set_one Writes views port left (λ _. writer) (λ j u other e p. h.writes j u e p) in
    let none : All None vs = set_one None views port left (λ p. true≢false (sym p)) (λ j u other e p. other ((h.reads j u e p).0 ∙ sym reader.0)) in
    record {
      writer = h.writer;
      reader = length vs;
      pushed = h.pushed;
      popped = h.popped;
      order = h.order;
      writes = λ j u e p. ⊎_elim (λ x. writes j u x p) (λ (is : right ≡ u). absurd (true≢false (sym (ap (λ (y : Log). y.pushes) is ∙ p)))) (at_snoc vs right u j e);
      reads = λ j u e p. (
        at_end vs right u j (λ x. none j u x p) e,
        ⊎_elim (λ x. absurd (none j u x p)) (λ (is : right ≡ u). ap (λ (y : Log). y.popped) (sym is) ∙ reader.1) (at_snoc vs right u j e),
      );
    }

pub merges : (port : ℕ) (v : Log) (other : ℕ) (u : Log) → v.pushes ≡ true → u.pops ≡ true → Merges InOrder port v other u (log true true v.pushed u.popped) (log false false [] [])
merges port v other u a b items views h at two at' =
    let both : Log = log true true v.pushed u.popped in
    let spent : Log = log false false [] [] in
    let vs : List Log = set views port both in
    let was : get_elem? views other ≡ some u = ⊎_elim (λ x. absurd (two x.0)) (λ x. x.1) (at_set views port other both u at') in
    let writer = h.writes port v at a in
    let reader = h.reads other u was b in
    let Writes : ℕ → Log → Type 0 = Has (λ (y : Log). y.pushes) (λ (y : Log). y.pushed) h.writer h.pushed in
    let Reads : ℕ → Log → Type 0 = Has (λ (y : Log). y.pops) (λ (y : Log). y.popped) port h.popped in
    let writes : All Writes vs = set_one Writes views port both (λ _. writer) (λ j y apart e p. h.writes j y e p) in
    let Others : ℕ → Log → Type 0 = λ j y. j ≢ other → Reads j y in
    let reads : All Others vs = set_one Others views port both (λ _ _. (refl, reader.1)) (λ j y apart e far p. absurd (far ((h.reads j y e p).0 ∙ sym reader.0))) in
    record {
      writer = h.writer;
      reader = port;
      pushed = h.pushed;
      popped = h.popped;
      order = h.order;
      writes = set_one Writes vs other spent (λ p. absurd (true≢false (sym p))) (λ j y far e p. writes j y e p);
      reads = set_one Reads vs other spent (λ p. absurd (true≢false (sym p))) (λ j y far e p. reads j y e far p);
    }

pub passed : (port : ℕ) (v : Log) → v.pushes ≡ true → v.pops ≡ true → Learns InOrder port v (λ items. v.pushed ≡ v.popped ++ items)
passed port v a b items views h at = (h.writes port v at a).1 ∙ h.order ∙ ap (λ l. l ++ items) (sym (h.reads port v at b).1)
