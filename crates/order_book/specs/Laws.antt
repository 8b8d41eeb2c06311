-- What the book keeps over any list of orders.
use Rattle.std.specs.Prelude.{◌≡◌, ℕ, ◌+◌, ◌==◌, Bool, true, false, ◌&&◌, if◌then◌else◌, Option, Some, None, Ok, List, [], ◌∷◌, ◌++◌, ⊤, MatchOption}
use Rattle.std.specs.List.{All, AllByRecursion, Contains}
use Rattle.sbe_layout.specs.declared.plan.Plan.{Plan}
use Rattle.order_desk.specs.declared.order.Order.{Order}
use Rattle.order_desk.specs.declared.order.Order.TheVariants.{New}
use Rattle.order_desk.specs.declared.order.NewOrder.{NewOrder}
use Rattle.order_desk.specs.declared.report.Report.{Report}
use Rattle.order_desk.specs.declared.report.ReportKind.{ReportKind}
use Rattle.order_desk.specs.declared.report.ReportKind.TheVariants.{Accepted, Filled, Expired, Rejected}
use Rattle.order_desk.specs.Orders.{order_in}
use Rattle.order_desk.specs.Reports.{InRange}
use Rattle.order_book.specs.declared.entries.BookOrder.{BookOrder}
use Rattle.order_book.specs.Book.{meets, beats, best, order_with, told, admitted, reports_of, book_after, book_behind, reports_behind}

-- ---- the best order

-- of the orders that one that comes in may meet, r is better than each that came before it, and no worse than each that came behind it
pub record IsUnbeaten (o : BookOrder) (rs : List BookOrder) (r : BookOrder) : Type 0 where
  pub before : List BookOrder
  pub behind : List BookOrder
  pub stands : rs ≡ before ++ r ∷ behind
  pub may : meets o r ≡ true
  pub better : All (λ x. meets o x ≡ true → beats r x ≡ true) before
  pub no_worse : All (λ x. meets o x ≡ true → beats x r ≡ false) behind

-- the best order is unbeaten, and where there is none, no order may be met
abbrev pub BestIsUnbeaten : Type 0
BestIsUnbeaten = (o : BookOrder) (rs : List BookOrder) → MatchOption (best o rs) (All (λ r. meets o r ≡ false) rs) (IsUnbeaten o rs)

-- ---- the book is never crossed

-- no order that rests meets another: no buyer's price is at a seller's of the same symbol or above
abbrev pub IsUncrossed : List BookOrder → Type 0
IsUncrossed rs = (a b : BookOrder) → Contains rs a → Contains rs b → meets a b ≡ false

-- no two orders rest under one identifier
abbrev pub AreDistinct : List BookOrder → Type 0
AreDistinct [] = ⊤
AreDistinct (r ∷ rs) = (order_with r.cl_id rs ≡ None) × AreDistinct rs

pub record IsBook (rs : List BookOrder) : Type 0 where
  pub distinct : AreDistinct rs
  pub uncrossed : IsUncrossed rs

abbrev pub BookStaysUncrossed : Type 0
BookStaysUncrossed = (os : List (Option Order)) → IsBook (book_behind [] os)

-- ---- both sides of a match

pub record IsMatch (cl_id : ℕ) (own resting : Report) : Type 0 where
  pub own_kind : own.kind ≡ Filled
  pub resting_kind : resting.kind ≡ Filled
  pub own_id : own.cl_id ≡ cl_id
  pub quantity : own.quantity ≡ resting.quantity
  pub price : own.price ≡ resting.price

-- matches of an order: two reports each
abbrev pub AreMatches : ℕ → List Report → Type 0
AreMatches cl_id [] = ⊤
AreMatches cl_id (own ∷ []) = ⊥
AreMatches cl_id (own ∷ resting ∷ later) = IsMatch cl_id own resting × AreMatches cl_id later

-- an order that is accepted is told so, and then its matches, both sides of each
abbrev pub MatchesAreEven : Type 0
MatchesAreEven = (rs : List BookOrder) (new : NewOrder) (o : BookOrder) → admitted rs new ≡ Ok o
    → (later : List Report) × (reports_of rs (Some (New new)) ≡ told Accepted o ∷ later) × AreMatches o.cl_id later

-- ---- no quantity is made or lost

abbrev pub is_accepted : ReportKind → Bool
is_accepted Accepted = true
is_accepted Filled = false
is_accepted Expired = false
is_accepted (Rejected why) = false

abbrev pub is_filled : ReportKind → Bool
is_filled Accepted = false
is_filled Filled = true
is_filled Expired = false
is_filled (Rejected why) = false

abbrev pub is_expired : ReportKind → Bool
is_expired Accepted = false
is_expired Filled = false
is_expired Expired = true
is_expired (Rejected why) = false

-- the quantity that reports of a kind tell of an identifier
abbrev pub told_of : (ReportKind → Bool) → ℕ → List Report → ℕ
told_of is_kind cl_id [] = 0
told_of is_kind cl_id (r ∷ rs) = (if is_kind r.kind && r.cl_id == cl_id then r.quantity else 0) + told_of is_kind cl_id rs

-- how many rest under an identifier
abbrev pub quantity_in : Option BookOrder → ℕ
quantity_in None = 0
quantity_in (Some r) = r.quantity

abbrev pub resting_of : ℕ → List BookOrder → ℕ
resting_of cl_id rs = quantity_in (order_with cl_id rs)

-- what rested under an identifier, and what was accepted under it, was filled, expired, or rests
pub record IsKept (cl_id : ℕ) (before : List BookOrder) (told : List Report) (behind : List BookOrder) : Type 0 where
  pub kept : resting_of cl_id before + told_of is_accepted cl_id told ≡ told_of is_filled cl_id told + told_of is_expired cl_id told + resting_of cl_id behind

-- over any list of orders; and an order is accepted only where nothing rests under its identifier, so this speaks of one acceptance
-- where the list begins with it and has no other of its identifier
abbrev pub QuantitiesAreKept : Type 0
QuantitiesAreKept = (cl_id : ℕ) (rs : List BookOrder) (os : List (Option Order)) → IsBook rs → IsKept cl_id rs (reports_behind rs os) (book_behind rs os)

abbrev pub AcceptedIsNew : Type 0
AcceptedIsNew = (rs : List BookOrder) (new : NewOrder) (o : BookOrder) → admitted rs new ≡ Ok o → order_with o.cl_id rs ≡ None

-- ---- more orders

-- the reports of more orders begin with those of the first ones
abbrev pub ReportsGoOn : Type 0
ReportsGoOn = (rs : List BookOrder) (earlier more : List (Option Order))
    → reports_behind rs (earlier ++ more) ≡ reports_behind rs earlier ++ reports_behind (book_behind rs earlier) more

-- ---- ranges

-- an order that rests lies within the ranges of a report on it
abbrev pub IsRested : BookOrder → Type 0
IsRested r = InRange (told Accepted r)

-- where that is so of all that rest, it is so of them behind a payload too, and all that is reported of the payload lies within its ranges, whatever
-- the payload and the plan by which it is read
abbrev pub BookInRange : Type 0
BookInRange = (p : Plan) (payload : List ℕ) (rs : List BookOrder) → AllByRecursion IsRested rs
    → AllByRecursion InRange (reports_of rs (order_in p payload)) × AllByRecursion IsRested (book_after rs (order_in p payload))
