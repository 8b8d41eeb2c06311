-- The order that a message is, and the order in a payload (this project's profile): by the message's template and the places of its items.
use Rattle.std.specs.Prelude.{ℕ, ◌-◌, ◌^◌, nat_le, ℤ, pos, negsuc, ◌==◌, ◌&&◌, if◌then◌else◌, Option, Some, None, Result, Ok, Err, List, [], ◌∷◌, ◌++◌, take, slice_get, unwrap_or, option_and_then, option_map, ok_or}
use Rattle.std.specs.Ordering.{int_eq}
use Rattle.sbe_prim.specs.declared.Primitive.TheVariants.{Int64}
use Rattle.sbe_prim.specs.Primitives.{holds}
use Rattle.sbe_value.specs.declared.item.Item.{Item}
use Rattle.sbe_value.specs.declared.item.Item.TheVariants.{Num, Null, Absent, Text, Raw}
use Rattle.sbe_value.specs.declared.message.Message.{Message}
use Rattle.sbe_layout.specs.declared.plan.Plan.{Plan}
use Rattle.sbe_grammar.specs.declared.fault.DecodeFault.{DecodeFault}
use Rattle.sbe_grammar.specs.Canonical.{zeros}
use Rattle.sbe_grammar.specs.Reading.{message_in}
use Rattle.order_desk.specs.declared.order.Order.{Order}
use Rattle.order_desk.specs.declared.order.Order.TheVariants.{New, Cancel}
use Rattle.order_desk.specs.declared.order.NewOrder.{NewOrder}
use Rattle.order_desk.specs.declared.order.Side.{Side}
use Rattle.order_desk.specs.declared.order.Side.TheVariants.{Buy, Sell}
use Rattle.order_desk.specs.declared.order.Symbol.{Symbol}
use Rattle.order_desk.specs.declared.order.OrderFault.{OrderFault}
use Rattle.order_desk.specs.declared.order.OrderFault.TheVariants.{NotAnOrder}

-- ---- what an item says

-- an item that is not there is absent
abbrev pub item_at : List Item → ℕ → Item
item_at items at = unwrap_or (slice_get items at) Absent

-- a number from 0 to a greatest one
abbrev pub natural_to : ℕ → ℤ → Option ℕ
natural_to most (pos n) = if nat_le n most then Some n else None
natural_to most (negsuc n) = None

abbrev pub natural_in : ℕ → Item → Option ℕ
natural_in most (Num z) = natural_to most z
natural_in most Null = None
natural_in most Absent = None
natural_in most (Text text) = None
natural_in most (Raw bytes) = None

-- an identifier: the greatest number of 64 bits stands for none
abbrev pub id_in : Item → Option ℕ
id_in i = natural_in (2 ^ 64 - 2) i

-- a number of 64 bits with a sign
abbrev pub price_of : ℤ → Option ℤ
price_of z = if holds Int64 z then Some z else None

abbrev pub price_in : Item → Option ℤ
price_in (Num z) = price_of z
price_in Null = None
price_in Absent = None
price_in (Text text) = None
price_in (Raw bytes) = None

-- 1 buys and 2 sells; another number is no side
abbrev pub side_of : ℤ → Option Side
side_of z = if int_eq z (pos 1) then Some Buy else (if int_eq z (pos 2) then Some Sell else None)

abbrev pub side_in : Item → Option Side
side_in (Num z) = side_of z
side_in Null = None
side_in Absent = None
side_in (Text text) = None
side_in (Raw bytes) = None

-- a text with NUL behind it to eight bytes
abbrev pub symbol_of : List ℕ → Symbol
symbol_of text = record { text = take 8 (text ++ zeros 8) }

abbrev pub symbol_in : Item → Option Symbol
symbol_in (Text text) = Some (symbol_of text)
symbol_in (Raw bytes) = Some (symbol_of bytes)
symbol_in (Num z) = None
symbol_in Null = None
symbol_in Absent = None

-- ---- the order of a message

abbrev pub new_order_in : List Item → Option NewOrder
new_order_in items =
    option_and_then (λ cl_id. option_and_then (λ symbol. option_and_then (λ quantity. option_map
    (λ price. record { cl_id = cl_id; side = side_in (item_at items 1); symbol = symbol; quantity = quantity; price = price })
    (price_in (item_at items 4))) (natural_in (2 ^ 32 - 1) (item_at items 3))) (symbol_in (item_at items 2))) (id_in (item_at items 0))

abbrev pub cancel_in : List Item → Option Order
cancel_in items =
    option_and_then (λ cl_id. option_map (λ orig. Cancel cl_id orig) (natural_in (2 ^ 64 - 1) (item_at items 1))) (id_in (item_at items 0))

-- template 1 buys or sells, template 2 cancels, and another is no order
abbrev pub order_of : Message → Option Order
order_of m =
    if m.template == 1 then option_map New (new_order_in m.root.items) else (if m.template == 2 then cancel_in m.root.items else None)

abbrev pub order_read : Result Message DecodeFault → Option Order
order_read (Ok m) = order_of m
order_read (Err fault) = None

-- ---- the order in a payload: 0xEB50, and a message of the order schema that is one

abbrev pub order_in : Plan → List ℕ → Option Order
order_in plan [] = None
order_in plan (a ∷ []) = None
order_in plan (a ∷ b ∷ message) = if a == 0xEB && b == 0x50 then order_read (message_in plan message) else None

-- what a reader answers: the order, or that there is none
abbrev pub answer_of : Option Order → Result Order OrderFault
answer_of found = ok_or found NotAnOrder
