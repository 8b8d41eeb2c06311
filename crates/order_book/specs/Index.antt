-- How the orders that rest are found: by the number under which each came, by identifier, and by symbol, side, price and arrival. No promise
-- speaks of it; what is kept here is what ties the maps to one another.
use Rattle.std.specs.Prelude.{◌≡◌, ℕ, ◌-◌, ◌^◌, ◌<◌, ◌==◌, ℤ, negsuc, ◌-ℤ◌, ◌≤ℤ◌, Bool, true, if◌then◌else◌, option_map, Option, Some, None, List, [], ◌∷◌, ◌++◌}
use Rattle.std.specs.declared.cmp.Ordering.{Ordering}
use Rattle.std.specs.Ordering.{nat_cmp}
use Rattle.std.specs.BTreeMap.{BTreeMap, get, IsOrdered}
use Rattle.std.specs.BTreeMap.Range.{range_contains}
use Rattle.std.specs.declared.ops.Bound.TheVariants.{Included}
use Rattle.std.specs.BTreeSet.{BTreeSet, contains}
use Rattle.order_desk.specs.declared.order.Side.{Side}
use Rattle.order_desk.specs.declared.order.Side.TheVariants.{Buy, Sell}
use Rattle.order_book.specs.declared.entries.BookOrder.{BookOrder}
use Rattle.order_book.specs.declared.entries.Fill.{Fill}
use Rattle.order_book.specs.declared.place.Place.{Place}
use Rattle.order_book.specs.contracts.place.PlaceOrd.TheImpl as place_ord
use Rattle.order_book.specs.Book.{fill_of}

abbrev pub place_cmp : Place → Place → Ordering
place_cmp = (place_ord.ghosts).cmp

-- a price as a number that is less where the price is better for who meets it
abbrev pub rank_of : Side → ℤ → ℤ
rank_of Sell price = price
rank_of Buy price = negsuc 0 -ℤ price

abbrev pub place_of : ℕ → BookOrder → Place
place_of arrival r = record { symbol = r.symbol; side = r.side; rank = rank_of r.side r.price; arrival = arrival }

abbrev pub other : Side → Side
other Buy = Sell
other Sell = Buy

-- the first and the last place at which an order may rest that this one meets
abbrev pub front_of : BookOrder → Place
front_of o = record { symbol = o.symbol; side = other o.side; rank = negsuc (2 ^ 63 - 1); arrival = 0 }

abbrev pub end_of : BookOrder → Place
end_of o = record { symbol = o.symbol; side = other o.side; rank = rank_of (other o.side) o.price; arrival = 2 ^ 64 - 1 }

-- what ties the maps to one another, each as the function that it is: an order by its number, a number by an identifier, and which places
-- are taken; numbers from `next` on are free
pub record Finds (order_at : ℕ → Option BookOrder) (arrival_of : ℕ → Option ℕ) (is_taken : Place → Bool) (next : ℕ) : Type 0 where
  pub few : next < 2 ^ 64
  pub earlier : (a : ℕ) (r : BookOrder) → order_at a ≡ Some r → a < next
  pub ranked : (a : ℕ) (r : BookOrder) → order_at a ≡ Some r → negsuc (2 ^ 63 - 1) ≤ℤ rank_of r.side r.price
  pub named : (c a : ℕ) → arrival_of c ≡ Some a → option_map (λ (r : BookOrder). r.cl_id) (order_at a) ≡ Some c
  pub names : (a : ℕ) (r : BookOrder) → order_at a ≡ Some r → arrival_of r.cl_id ≡ Some a
  pub placed : (p : Place) → is_taken p ≡ true → option_map (place_of p.arrival) (order_at p.arrival) ≡ Some p
  pub places : (a : ℕ) (r : BookOrder) → order_at a ≡ Some r → is_taken (place_of a r) ≡ true

-- the maps of a shelf
pub record Indexed (orders : BTreeMap ℕ BookOrder) (arrivals : BTreeMap ℕ ℕ) (queue : BTreeSet Place) (next : ℕ) : Type 0 where
  pub ascend : IsOrdered nat_cmp orders
  pub finds : Finds (get nat_cmp orders) (get nat_cmp arrivals) (contains place_cmp queue) next

-- whether an order at this place may be met
abbrev pub is_met : BookOrder → Place → Bool
is_met o = range_contains place_cmp (Included (front_of o)) (Included (end_of o))

-- the orders at some places, each under its number
abbrev pub under : ℕ → Option BookOrder → List (ℕ × BookOrder)
under a None = []
under a (Some r) = (a, r) ∷ []

abbrev pub met : (ℕ → Option BookOrder) → List Place → List (ℕ × BookOrder)
met order_at [] = []
met order_at (p ∷ ps) = under p.arrival (order_at p.arrival) ++ met order_at ps

-- the matches with orders in turn, while something is left
abbrev pub walked : ℕ → List (ℕ × BookOrder) → List Fill
walked left [] = []
walked left (w ∷ ws) = if left == 0 then [] else fill_of left w.1 ∷ walked (left - w.1.quantity) ws

-- with so much left of the order of an identifier
abbrev pub replaced : ℕ → ℕ → List BookOrder → List BookOrder
replaced cl_id left [] = []
replaced cl_id left (r ∷ rs) = if r.cl_id == cl_id then record r { quantity = left } ∷ rs else r ∷ replaced cl_id left rs
