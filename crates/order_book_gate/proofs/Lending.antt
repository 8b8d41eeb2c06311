-- The pass of a book desk, lent and taken back, and the desk as it begins.
use Rattle.std.proofs.Common.{◌≡◌, ◌≢◌, ◌⊎◌, ℕ, true, false, List, [], ◌∷◌, ◌++◌, length, Option, Some, None, Ok, inl, inr, refl, sym, ap, subst, ◌∙◌, arith, append-nil}
use Rattle.std.specs.List.{AllByRecursion}
use Rattle.atomic_table.specs.Seated.{TableId}
use Rattle.jr_dated.specs.declared.journal.Journal.{Ghosts}
use Rattle.session_model.specs.Journal.{Entry}
use Rattle.gate_turn.specs.Rule.{In}
use Rattle.gate_turn.specs.Places.{known}
use Rattle.gate_turn.specs.Listed.{pass_at, known_if, known_at}
use Rattle.gate_turn.specs.Calls.{IsFree}
use Rattle.gate_turn.specs.declared.pass.Pass.{Pass}
use Rattle.gate_turn.specs.declared.passes.Passes.{Passes}
use Rattle.gate_senders.specs.declared.kept.Kept.{Kept}
use Rattle.gate_staff.specs.Sent.{entries_behind}
use Rattle.gate_staff.specs.Made.{SeesMark}
use Rattle.gate_staff.specs.Business.{HasThese, StaysPass, SendNothing}
use Rattle.order_book.specs.declared.entries.BookOrder.{BookOrder}
use Rattle.order_book.specs.Laws.{IsRested}
use Rattle.order_gate.specs.declared.desk.Desk.{Desk}
use Rattle.order_gate.specs.Reported.{Reported}
use Rattle.order_gate.specs.Desks.{known_of, counted_if, IsSeated, IsManned}
use Rattle.order_gate.proofs.Answering.{stays}
use Rattle.order_book_gate.specs.declared.book_desk.BookDesk.{BookDesk}
use Rattle.order_book_gate.specs.Desk.{part_of, own_of, HasPass, LacksPass, StandsAt, StandsBehind}
use Rattle.order_book_gate.proofs.Calls.{one, only, seated_still}

module _ {J : Type 0} {G : Ghosts J} (lock : TableId) where
  -- a list that has its pass alone
  pub these_of : (k : Desk J G) → IsSeated lock k → (passes : Passes (Kept J G)) → pass_at passes 1 ≡ k.pass → ((n : ℕ) → n ≢ 1 → pass_at passes n ≡ None) → HasThese lock passes 1
  these_of k s passes there others = record {
    each = only (λ n. (p : Pass (Kept J G)) × (pass_at passes n ≡ Some p) × (p.seat.table_id ≡ lock) × IsFree p) (s.pass, there ∙ s.there, s.own, s.free);
    others = λ n out. others n (λ e. out (subst (λ k. In 1 k) (sym e) one));
  }

  pub known_there : (k : Desk J G) (passes : Passes (Kept J G)) → pass_at passes 1 ≡ k.pass → (n : ℕ) → In 1 n → known_at passes n ≡ known_if k.pass
  known_there k passes there = only (λ n. known_at passes n ≡ known_if k.pass) (ap known_if there)

  -- a desk with the first pass of a list
  module _ (passes : Passes (Kept J G)) (has : HasThese lock passes 1) (k : Desk J G) (is : k.pass ≡ pass_at passes 1) (number : k.number ≡ 1) where
    first : (p : Pass (Kept J G)) × (pass_at passes 1 ≡ Some p) × (p.seat.table_id ≡ lock) × IsFree p
    first = has.each 1 one

    its_number : (known first.0).number ≡ k.number
    its_number = first.0.numbered ∙ passes.in_place 1 first.0 first.1 ∙ sym number

    pub seated_first : IsSeated lock k
    seated_first = record { pass = first.0; there = is ∙ first.1; own = first.2; free = first.3; number = its_number }

    pub manned_first : length (known_at passes 1).mine ≡ k.made → IsManned lock k
    manned_first made = record {
      pass = first.0;
      there = is ∙ first.1;
      own = first.2;
      free = first.3;
      number = its_number;
      made = ap (λ o. length (known_if o).mine) (sym first.1) ∙ made;
    }

    pub sees_first : SeesMark 1 (known_at passes) → (known_of k).seen.finished ≡ true
    sees_first s = ap (λ o. (known_if o).seen.finished) is ∙ only (λ n. (known_at passes n).seen.finished ≡ true → (known_at passes 1).seen.finished ≡ true) (λ e. e) s.number s.inside s.marked

  -- the same desk with the first pass of a list
  module _ (passes : Passes (Kept J G)) (has : HasThese lock passes 1) (b : BookDesk J G) (lent : LacksPass b) (pass : Option (Pass (Kept J G))) (is : pass ≡ pass_at passes 1) where
    abbrev pub given : BookDesk J G
    given = record b { desk = record b.desk { pass = pass } }

    pub regained : ((n k : ℕ) → In 1 n → own_of b n ≡ Some k → length (known_at passes n).mine ≡ k) → (b.met ≡ true → SeesMark 1 (known_at passes)) → HasPass lock given
    regained again met = record {
      seated = seated_first passes has given.desk is lent.number;
      number = lent.number;
      made = λ counted. manned_first passes has given.desk is lent.number (again 1 b.desk.made one (ap (λ t. counted_if t b.desk.made) counted));
      met = λ e. sees_first passes has given.desk is lent.number (met e);
      rested = lent.rested;
    }

  pub stands_given : (b : BookDesk J G) (pass : Option (Pass (Kept J G))) (l : List (List ℕ)) → StandsBehind b l → StandsBehind (record b { desk = record b.desk { pass = pass } }) l
  stands_given b pass l st = record { counted = st.counted; there = of st.there }
    where
      of : (b.met ≡ true) ⊎ StandsAt b l → (b.met ≡ true) ⊎ StandsAt (record b { desk = record b.desk { pass = pass } }) l
      of (inl met) = inl met
      of (inr at) = inr (record { resting = at.resting; least = at.least; owed = at.owed })

  -- the desk that counted its entries, with an empty book
  module _ (b : BookDesk J G) (has : HasPass lock b) (k : Desk J G) (manned : IsManned lock k) (number : k.number ≡ b.desk.number) (counted : Reported (known_of b.desk) (known_of k) [] (Ok tt)) (rs : List BookOrder) (empty : rs ≡ []) where
    abbrev pub begun : BookDesk J G
    begun = record b { desk = k; book = rs; counted = true }

    pub begun_own : HasPass lock begun
    begun_own = record {
      seated = seated_still lock k manned;
      number = number ∙ has.number;
      made = λ e. manned;
      met = λ e. let marked = has.met e in ap (λ h. h.finished) (sym (counted.pass.seen.alone marked)) ∙ marked;
      rested = subst (λ os. AllByRecursion IsRested os) (sym empty) tt;
    }

    pub begun_stands : k.owed ≡ k.made → StandsBehind begun []
    begun_stands owed = record { counted = refl; there = inr (record { resting = empty; least = omega arith; owed = omega (arith, owed) }) }

    nothing_sent : (mine : List Entry) (sender : ℕ) (sent rest : List (List ℕ)) → [] ≡ sent ++ rest → mine ++ entries_behind sender (length mine) sent ≡ mine
    nothing_sent mine sender [] rest e = append-nil mine
    nothing_sent mine sender (x ∷ sent) rest e = absurd (cc e)

    pub begun_silent : SendNothing 1 (part_of b) (part_of begun)
    begun_silent = record {
      same = only (λ n. StaysPass (part_of b n) (part_of begun n)) (stays (known_of b.desk) (known_of k) [] (Ok tt) counted);
      mine = only (λ n. (part_of begun n).mine ≡ (part_of b n).mine) (counted.mine ∙ nothing_sent (known_of b.desk).mine (known_of b.desk).number counted.sent counted.rest counted.are);
      ended = only (λ n. (part_of begun n).ended ≡ (part_of b n).ended) counted.pass.ended;
      unlost = only (λ n. (part_of begun n).lost ≡ (part_of b n).lost) (counted.unlost (λ x. cc x));
    }

  -- a desk that has counted nothing, with an empty book
  pub made_new : (b : BookDesk J G) (passes : Passes (Kept J G)) → HasThese lock passes 1 → b.desk.pass ≡ pass_at passes 1 → b.desk.number ≡ 1 → b.counted ≡ false → b.met ≡ false → b.book ≡ [] → HasPass lock b
  made_new b passes has is number uncounted unmet empty = record {
    seated = seated_first passes has b.desk is number;
    number = number;
    made = λ e. absurd (cc (e, uncounted));
    met = λ e. absurd (cc (e, unmet));
    rested = subst (λ os. AllByRecursion IsRested os) (sym empty) tt;
  }
