-- What a book desk keeps as a business.
use Rattle.std.proofs.Common.{◌≡◌, ℕ, zero, suc, List, [], ◌∷◌, ◌++◌, length, map, Bool, true, false, if◌then◌else◌, Some, refl, sym, ap, ◌∙◌, arith, append_assoc}
use Rattle.std.specs.Prelude.{◌==◌}
use Rattle.std.proofs.lemmas.List.{map-append}
use mathlib.Core.List.{IsPrefix}
use Rattle.atomic_table.specs.Seated.{TableId}
use Rattle.session_model.specs.Plans.{GoesOn}
use Rattle.jr_dated.specs.declared.journal.Journal.{Ghosts}
use Rattle.gate_turn.specs.Rule.{In}
use Rattle.gate_turn.specs.Listed.{known_if}
use Rattle.gate_staff.specs.Made.{SeesMark}
use Rattle.sbe_layout.specs.declared.plan.Plan.{Plan}
use Rattle.order_desk.specs.Schema.{order_plan}
use Rattle.order_desk.specs.Orders.{order_in}
use Rattle.order_desk.specs.Reports.{report_bytes}
use Rattle.order_book.specs.declared.entries.BookOrder.{BookOrder}
use Rattle.order_book.specs.Book.{reports_of, reports_behind, book_after}
use Rattle.order_gate.specs.Desks.{counted_if}
use Rattle.order_book_gate.specs.declared.book_desk.BookDesk.{BookDesk}
use Rattle.order_book_gate.specs.Plan.{answers, resting_behind, book_plan}
use Rattle.order_book_gate.specs.Desk.{part_of, plan_of, own_of, HasPass}

-- what is reported of more messages comes behind
pub answers_on : (p : Plan) (rs : List BookOrder) (xs ys : List (List ℕ)) → answers p rs (xs ++ ys) ≡ answers p rs xs ++ answers p (resting_behind p rs xs) ys
answers_on p rs [] ys = refl
answers_on p rs (x ∷ xs) ys =
    let first = reports_of rs (order_in p x) in
    let after = book_after rs (order_in p x) in
    map-append (report_bytes p) first (reports_behind after (map (order_in p) (xs ++ ys)))
    ∙ ap (λ l. map (report_bytes p) first ++ l) (answers_on p after xs ys)
    ∙ sym (append_assoc (map (report_bytes p) first) (answers p after xs) (answers p (resting_behind p after xs) ys))
    ∙ ap (λ l. l ++ answers p (resting_behind p after xs) ys) (sym (map-append (report_bytes p) first (reports_behind after (map (order_in p) xs))))

pub resting_on : (p : Plan) (rs : List BookOrder) (xs ys : List (List ℕ)) → resting_behind p rs (xs ++ ys) ≡ resting_behind p (resting_behind p rs xs) ys
resting_on p rs [] ys = refl
resting_on p rs (x ∷ xs) ys = resting_on p (book_after rs (order_in p x)) xs ys

-- a list that is sent, or none
sent_on : (b : Bool) (first more whole : List (List ℕ)) → first ++ more ≡ whole → IsPrefix (if b then first else []) (if b then whole else [])
sent_on true first more whole e = (more, e)
sent_on false first more whole e = ([], refl)

pub book_plan_goes_on : (version : ℕ) → GoesOn (book_plan version)
book_plan_goes_on version s earlier later longer =
    let p = order_plan version in
    let more = answers p (resting_behind p [] earlier) longer.0 in
    sent_on (s == 1) (answers p [] earlier) more (answers p [] later) (sym (answers_on p [] earlier longer.0) ∙ ap (λ l. answers p [] l) longer.1)

counted_is : (counted : Bool) (n k : ℕ) → counted_if counted n ≡ Some k → (counted ≡ true) × (n ≡ k)
counted_is true n k e = (refl, cc e)
counted_is false n k e = absurd (cc e)

module _ {J : Type 0} {G : Ghosts J} where
  pub goes_on : (b : BookDesk J G) → GoesOn (plan_of b)
  goes_on b = book_plan_goes_on b.form.version

  pub numbered : (b : BookDesk J G) (lock : TableId) → HasPass lock b → (n : ℕ) → In 1 n → (part_of b n).number ≡ n
  numbered b lock has zero inside = absurd (omega (arith, inside.from_one))
  numbered b lock has (suc zero) inside = ap (λ p. (known_if p).number) has.seated.there ∙ has.seated.number ∙ has.number
  numbered b lock has (suc (suc k)) inside = absurd (omega (arith, inside.up_to))

  pub owns : (b : BookDesk J G) (lock : TableId) → HasPass lock b → (n k : ℕ) → In 1 n → own_of b n ≡ Some k → length (part_of b n).mine ≡ k
  owns b lock has zero k inside e = absurd (omega (arith, inside.from_one))
  owns b lock has (suc zero) k inside e =
      let c = counted_is b.counted b.desk.made k e in
      let m = has.made c.0 in
      ap (λ p. length (known_if p).mine) m.there ∙ m.made ∙ c.1
  owns b lock has (suc (suc n)) k inside e = absurd (omega (arith, inside.up_to))

  pub meets : (b : BookDesk J G) (lock : TableId) → HasPass lock b → b.met ≡ true → SeesMark 1 (part_of b)
  meets b lock has met = record { number = 1; inside = record { from_one = omega arith; up_to = omega arith }; marked = has.met met }
