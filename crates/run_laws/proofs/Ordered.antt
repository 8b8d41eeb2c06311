-- Beginnings of the records of a history, and what they keep of it.
use Rattle.std.proofs.Common.{◌≡◌, ℕ, suc, ◌+◌, Bool, true, false, true≢false, List, [], ◌∷◌, ◌++◌, map, length, refl, sym, ap, ◌∙◌, arith, append-nil, append_assoc, length-append}
use mathlib.Core.List.{IsPrefix}
use Rattle.session_model.specs.Journal.{Entry, OutboxRecord, entry, finish, History, is_finished, history_of, BeginsHistory, InOrder, entries_of, counts_from}
use Rattle.session_model.proofs.Lists.{prefix_map, length-counts_from, counts_from-add}
use Rattle.session_model.proofs.Journals.{prefix_entries, prefix_entries_of}
use Rattle.jr_boxes.specs.Outboxes.{mark_of, outbox_of}
use Rattle.life_laws.proofs.Outboxes.{entries-outbox_of}

-- nothing stands behind the mark of a history
behind_mark : (es : List Entry) (b : Bool) (a more : List OutboxRecord) → a ++ more ≡ map (λ (e : Entry). entry e) es ++ mark_of b → is_finished a ≡ true → more ≡ []
behind_mark es b [] more e is = absurd (true≢false (sym is))
behind_mark [] false (x ∷ a) more e is = absurd cc
behind_mark [] true (x ∷ a) [] e is = refl
behind_mark [] true (x ∷ []) (y ∷ more) e is = absurd cc
behind_mark [] true (x ∷ z ∷ a) (y ∷ more) e is = absurd cc
behind_mark (d ∷ es) b (entry c ∷ a) more e is =
    let tails : a ++ more ≡ map (λ (e : Entry). entry e) es ++ mark_of b = cc in
    behind_mark es b a more tails is
behind_mark (d ∷ es) b (finish ∷ a) more e is = absurd cc

-- so of two beginnings of the records of a history the shorter is of a history that begins that of the longer
pub begins_within : (a b : List OutboxRecord) (w : History) → IsPrefix a b → IsPrefix b (outbox_of w) → BeginsHistory (history_of a) (history_of b)
begins_within a b w p q = record {
  made = prefix_entries a b p;
  alone = λ is.
      let behind : (a ++ p.0) ++ q.0 ≡ outbox_of w = ap (λ (rs : List OutboxRecord). rs ++ q.0) p.1 ∙ q.1 in
      let none : p.0 ++ q.0 ≡ [] = behind_mark w.made w.finished a (p.0 ++ q.0) (sym (append_assoc a p.0 q.0) ∙ behind) is in
      let first : p.0 ≡ [] = first_nothing p.0 q.0 none in
      ap (λ (rs : List OutboxRecord). history_of rs) (sym (append-nil a) ∙ (ap (λ (rs : List OutboxRecord). a ++ rs) (sym first) ∙ p.1));
}
  where
    first_nothing : (xs ys : List OutboxRecord) → xs ++ ys ≡ [] → xs ≡ []
    first_nothing [] ys e = refl
    first_nothing (x ∷ xs) ys e = absurd cc

-- beginnings of one list that are as long are the same
same_beginnings : (xs ys more rest : List ℕ) → xs ++ more ≡ ys ++ rest → length xs ≡ length ys → xs ≡ ys
same_beginnings [] [] more rest e n = refl
same_beginnings [] (y ∷ ys) more rest e n = absurd (omega (arith, n))
same_beginnings (x ∷ xs) [] more rest e n = absurd (omega (arith, n))
same_beginnings (x ∷ xs) (y ∷ ys) more rest e n =
    let head : x ≡ y = cc in
    let tails : xs ++ more ≡ ys ++ rest = cc in
    ap (λ (z : ℕ). z ∷ xs) head ∙ ap (λ (zs : List ℕ). y ∷ zs) (same_beginnings xs ys more rest tails (omega (arith, n)))

length-numbers : (es : List Entry) → length (map (λ (e : Entry). e.own_number) es) ≡ length es
length-numbers [] = refl
length-numbers (e ∷ es) = ap suc (length-numbers es)

-- a beginning of entries in order is in order
pub order_of_first : (es longer : List Entry) → IsPrefix es longer → InOrder longer → InOrder es
order_of_first es longer p order s =
    let mine : List Entry = entries_of es s in
    let q : IsPrefix mine (entries_of longer s) = prefix_entries_of es longer s p in
    let r : IsPrefix (map (λ (e : Entry). e.own_number) mine) (map (λ (e : Entry). e.own_number) (entries_of longer s)) = prefix_map (λ (e : Entry). e.own_number) mine (entries_of longer s) q in
    let sizes : length (entries_of longer s) ≡ length mine + length q.0 = ap length (sym q.1) ∙ length-append mine q.0 in
    same_beginnings (map (λ (e : Entry). e.own_number) mine) (counts_from 1 (length mine)) r.0 (counts_from (1 + length mine) (length q.0))
    (r.1 ∙ (order s ∙ (ap (λ (k : ℕ). counts_from 1 k) sizes ∙ counts_from-add 1 (length mine) (length q.0))))
    (length-numbers mine ∙ sym (length-counts_from 1 (length mine)))

-- the records of a history are those of it alone
marked_records : (es : List Entry) (b : Bool) → is_finished (map (λ (e : Entry). entry e) es ++ mark_of b) ≡ b
marked_records [] true = refl
marked_records [] false = refl
marked_records (e ∷ es) b = marked_records es b

pub history_of-records : (h : History) → history_of (outbox_of h) ≡ h
history_of-records h =
    ap (λ (es : List Entry). record { made = es; finished = is_finished (outbox_of h) }) (entries-outbox_of h) ∙ ap (λ (b : Bool). record { made = h.made; finished = b }) (marked_records h.made h.finished)
