-- A price-time order book (this project's profile): the orders that rest are one list, in the order in which they came, and each order
-- that comes in is answered from that list. An incoming order meets, one after another, the best order of the other side.
use Rattle.std.specs.Prelude.{ℕ, ◌-◌, nat_eq, min, ◌==◌, ℤ, int_lt, Bool, true, false, ◌&&◌, is_some, if◌then◌else◌, Option, Some, None, Result, Ok, Err, List, [], ◌∷◌, ◌++◌, length, zero, suc, option_map}
use Rattle.std.specs.List.{find, flat_map}
use Rattle.std.specs.Cmp.Lexicographic.{pointwise}
use Rattle.order_desk.specs.declared.order.Order.{Order}
use Rattle.order_desk.specs.declared.order.Order.TheVariants.{New, Cancel}
use Rattle.order_desk.specs.declared.order.NewOrder.{NewOrder}
use Rattle.order_desk.specs.declared.order.Side.{Side}
use Rattle.order_desk.specs.declared.order.Side.TheVariants.{Buy, Sell}
use Rattle.order_desk.specs.declared.order.Symbol.{Symbol}
use Rattle.order_desk.specs.declared.report.Report.{Report}
use Rattle.order_desk.specs.declared.report.ReportKind.{ReportKind}
use Rattle.order_desk.specs.declared.report.ReportKind.TheVariants.{Accepted, Filled, Expired}
use Rattle.order_desk.specs.declared.report.RejectCode.{RejectCode}
use Rattle.order_desk.specs.declared.report.RejectCode.TheVariants as code
use Rattle.order_desk.specs.Reports.{refusal_of, refused, crosses}
use Rattle.order_book.specs.declared.entries.BookOrder.{BookOrder}
use Rattle.order_book.specs.declared.entries.Fill.{Fill}

-- ---- the best order for one that comes in

abbrev pub is_opposite : Side → Side → Bool
is_opposite Buy Buy = false
is_opposite Buy Sell = true
is_opposite Sell Buy = true
is_opposite Sell Sell = false

abbrev pub is_same : Symbol → Symbol → Bool
is_same a b = pointwise nat_eq a.text b.text

-- an order that comes in may meet one that rests: that is of the other side and the same symbol, and the prices cross
abbrev pub meets : BookOrder → BookOrder → Bool
meets o r = is_opposite o.side r.side && (is_same o.symbol r.symbol && crosses (Some o.side) o.price r.price)

-- of two prices of a side that rests, the better one for who meets it: a seller's lesser, a buyer's greater
abbrev pub is_better : Side → ℤ → ℤ → Bool
is_better Sell price other = int_lt price other
is_better Buy price other = int_lt other price

-- an order beats one that came before it by its price alone
abbrev pub beats : BookOrder → BookOrder → Bool
beats later earlier = is_better later.side later.price earlier.price

abbrev pub better_of : BookOrder → Option BookOrder → BookOrder
better_of r None = r
better_of r (Some later) = if beats later r then later else r

-- of the orders that one that comes in may meet, the one that no other beats
abbrev pub best : BookOrder → List BookOrder → Option BookOrder
best o [] = None
best o (r ∷ rs) = if meets o r then Some (better_of r (best o rs)) else best o rs

-- ---- what rests

-- the order that rests under an identifier
abbrev pub order_with : ℕ → List BookOrder → Option BookOrder
order_with cl_id rs = find (λ r. r.cl_id == cl_id) rs

-- an order with so much left: it rests where that is more than none
abbrev pub with_left : BookOrder → ℕ → List BookOrder
with_left o left = if left == 0 then [] else record o { quantity = left } ∷ []

-- behind a match: the order that was met has so much less left
abbrev pub settled : Fill → List BookOrder → List BookOrder
settled f [] = []
settled f (r ∷ rs) = if r.cl_id == f.cl_id then with_left r (r.quantity - f.quantity) ++ rs else r ∷ settled f rs

abbrev pub all_settled : List Fill → List BookOrder → List BookOrder
all_settled [] rs = rs
all_settled (f ∷ fs) rs = all_settled fs (settled f rs)

-- without the order of an identifier
abbrev pub without : ℕ → List BookOrder → List BookOrder
without cl_id [] = []
without cl_id (r ∷ rs) = if r.cl_id == cl_id then rs else r ∷ without cl_id rs

-- ---- matches

-- a match with an order that rests, where so much is left of the one that comes in: the lesser quantity, at the price of the one that rests
abbrev pub fill_of : ℕ → BookOrder → Fill
fill_of left r = record { cl_id = r.cl_id; quantity = min left r.quantity; price = r.price }

-- the next match of an order that comes in, of which so much is left: while something is, and it may meet one that rests, with the best
abbrev pub next_fill : BookOrder → ℕ → List BookOrder → Option Fill
next_fill o left rs = if left == 0 then None else option_map (fill_of left) (best o rs)

abbrev pub in_front : Option Fill → (Fill → List Fill) → List Fill
in_front None later = []
in_front (Some f) later = f ∷ later f

-- its matches, one after another, in at most so many rounds
abbrev pub fills : ℕ → BookOrder → ℕ → List BookOrder → List Fill
fills zero o left rs = []
fills (suc rounds) o left rs = in_front (next_fill o left rs) (λ f. fills rounds o (left - f.quantity) (settled f rs))

-- the matches of an order that comes in: each but the last takes an order off the book, so there are at most as many as rest
abbrev pub fills_of : BookOrder → List BookOrder → List Fill
fills_of o rs = fills (length rs) o o.quantity rs

-- what is left of a quantity behind matches
abbrev pub left_of : ℕ → List Fill → ℕ
left_of left [] = left
left_of left (f ∷ fs) = left_of (left - f.quantity) fs

-- the book behind an order that was accepted: what it met has less left, and what is left of it rests
abbrev pub entered : BookOrder → List Fill → List BookOrder → List BookOrder
entered o fs rs = all_settled fs rs ++ with_left o (left_of o.quantity fs)

-- ---- reports

-- a report of what an order has left; the book is desk 1
abbrev pub told : ReportKind → BookOrder → Report
told kind o = record { cl_id = o.cl_id; kind = kind; desk = 1; quantity = o.quantity; price = o.price }

abbrev pub filled : ℕ → Fill → Report
filled cl_id f = record { cl_id = cl_id; kind = Filled; desk = 1; quantity = f.quantity; price = f.price }

-- both sides of a match, the order that came in first
abbrev pub both_filled : ℕ → Fill → List Report
both_filled cl_id f = filled cl_id f ∷ filled f.cl_id f ∷ []

-- of an order that was accepted
abbrev pub entry_reports : BookOrder → List Fill → List Report
entry_reports o fs = told Accepted o ∷ flat_map (both_filled o.cl_id) fs

-- ---- one order

abbrev pub on_side : NewOrder → Option Side → Result BookOrder RejectCode
on_side o None = Err code.Side
on_side o (Some side) = Ok (record { cl_id = o.cl_id; side = side; symbol = o.symbol; quantity = o.quantity; price = o.price })

abbrev pub unless_refused : Option RejectCode → Result BookOrder RejectCode → Result BookOrder RejectCode
unless_refused (Some why) otherwise = Err why
unless_refused None otherwise = otherwise

-- an order as the book takes it, or the first rule that it breaks: those of a desk, and then that no order of its identifier rests
abbrev pub admitted : List BookOrder → NewOrder → Result BookOrder RejectCode
admitted rs o = unless_refused (refusal_of o) (if is_some (order_with o.cl_id rs) then Err code.Duplicate else on_side o o.side)

abbrev pub reports_of_new : List BookOrder → ℕ → Result BookOrder RejectCode → List Report
reports_of_new rs cl_id (Err why) = refused 1 cl_id why ∷ []
reports_of_new rs cl_id (Ok o) = entry_reports o (fills_of o rs)

abbrev pub reports_of_cancel : ℕ → Option BookOrder → List Report
reports_of_cancel cl_id None = refused 1 cl_id code.NotResting ∷ []
reports_of_cancel cl_id (Some r) = told Expired r ∷ []

-- what the book reports of an order, or of what is none
abbrev pub reports_of : List BookOrder → Option Order → List Report
reports_of rs None = refused 1 0 code.NotAnOrder ∷ []
reports_of rs (Some (New o)) = reports_of_new rs o.cl_id (admitted rs o)
reports_of rs (Some (Cancel cl_id orig)) = reports_of_cancel cl_id (order_with orig rs)

abbrev pub book_with : List BookOrder → Result BookOrder RejectCode → List BookOrder
book_with rs (Err why) = rs
book_with rs (Ok o) = entered o (fills_of o rs) rs

-- and the book behind it
abbrev pub book_after : List BookOrder → Option Order → List BookOrder
book_after rs None = rs
book_after rs (Some (New o)) = book_with rs (admitted rs o)
book_after rs (Some (Cancel cl_id orig)) = without orig rs

-- ---- any list of orders

abbrev pub book_behind : List BookOrder → List (Option Order) → List BookOrder
book_behind rs [] = rs
book_behind rs (o ∷ os) = book_behind (book_after rs o) os

abbrev pub reports_behind : List BookOrder → List (Option Order) → List Report
reports_behind rs [] = []
reports_behind rs (o ∷ os) = reports_of rs o ++ reports_behind (book_after rs o) os
