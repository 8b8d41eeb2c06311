-- The numbers of an order that was read, and of what is reported of it, lie within their ranges.
use Rattle.std.proofs.Common.{◌≡◌, ℕ, ◌-◌, ◌<◌, ◌≤◌, ◌^◌, pos, negsuc, ℤ, Bool, true, false, Option, Some, None, List, [], ◌∷◌, if◌then◌else◌, refl, arith}
use Rattle.std.specs.Prelude.{◌<ℤ◌, nat_le, nat_lt, int_le, ◌==◌, ◌&&◌, ◌||◌, IfSome, Result, Ok, Err, option_and_then, option_map}
use Rattle.std.specs.List.{AllByRecursion}
use Rattle.std.proofs.lemmas.Bool.Decides.{nat_tests}
use Rattle.std.proofs.lemmas.Int.{ints}
use Rattle.sbe_prim.specs.declared.Primitive.TheVariants.{Int64}
use Rattle.sbe_prim.specs.Primitives.{holds}
use Rattle.sbe_value.specs.declared.item.Item.{Item}
use Rattle.sbe_value.specs.declared.item.Item.TheVariants.{Num, Null, Absent, Text, Raw}
use Rattle.sbe_value.specs.declared.message.Message.{Message}
use Rattle.sbe_layout.specs.declared.plan.Plan.{Plan}
use Rattle.sbe_grammar.specs.declared.fault.DecodeFault.{DecodeFault}
use Rattle.sbe_grammar.specs.Reading.{message_in}
use Rattle.order_desk.specs.declared.order.Order.{Order}
use Rattle.order_desk.specs.declared.order.Order.TheVariants.{New, Cancel}
use Rattle.order_desk.specs.declared.order.NewOrder.{NewOrder}
use Rattle.order_desk.specs.declared.order.Side.{Side}
use Rattle.order_desk.specs.declared.order.Symbol.{Symbol}
use Rattle.order_desk.specs.declared.report.ReportKind.{ReportKind}
use Rattle.order_desk.specs.declared.report.ReportKind.TheVariants.{Accepted, Filled, Expired}
use Rattle.order_desk.specs.declared.report.RejectCode.{RejectCode}
use Rattle.order_desk.specs.declared.report.RejectCode.TheVariants as code
use Rattle.std.specs.Result.{result_ok}
use Rattle.order_desk.specs.Orders.{item_at, natural_in, id_in, price_in, side_in, symbol_in, order_of, order_read, order_in, answer_of}
use Rattle.order_desk.specs.Reports.{InRange, refusal_of_side, refusal_of, crosses, refused, report_of, reports_by, reports_of}
use Rattle.order_desk.specs.Laws.{ReportsInRange}

abbrev IsId : ℕ → Type 0
IsId n = n < 2 ^ 64 - 1

abbrev IsLow : ℤ → Type 0
IsLow z = z <ℤ pos (2 ^ 63)

-- ---- what is read

id_by : (b : Bool) (n : ℕ) → nat_le n (2 ^ 64 - 2) ≡ b → IfSome (if b then Some n else None) IsId
id_by true n e = grind (arith, nat_tests)
id_by false n e = tt

id_ranged : (i : Item) → IfSome (id_in i) IsId
id_ranged (Num (pos n)) = id_by (nat_le n (2 ^ 64 - 2)) n refl
id_ranged (Num (negsuc n)) = tt
id_ranged Null = tt
id_ranged Absent = tt
id_ranged (Text text) = tt
id_ranged (Raw bytes) = tt

price_by : (b : Bool) (z : ℤ) → holds Int64 z ≡ b → IfSome (if b then Some z else None) IsLow
price_by true z e = grind (arith, ints, nat_tests)
price_by false z e = tt

price_ranged : (i : Item) → IfSome (price_in i) IsLow
price_ranged (Num z) = price_by (holds Int64 z) z refl
price_ranged Null = tt
price_ranged Absent = tt
price_ranged (Text text) = tt
price_ranged (Raw bytes) = tt

-- an order whose identifier and price lie within their ranges
abbrev IsRanged : Order → Type 0
IsRanged (New o) = IsId o.cl_id × IsLow o.price
IsRanged (Cancel cl_id orig) = IsId cl_id

new_ranged : (side : Option Side) (id quantity : Option ℕ) (symbol : Option Symbol) (price : Option ℤ) → IfSome id IsId → IfSome price IsLow
    → IfSome (option_map New (option_and_then (λ cl_id. option_and_then (λ sym. option_and_then (λ many. option_map (λ p. record { cl_id = cl_id; side = side; symbol = sym; quantity = many; price = p }) price) quantity) symbol) id)) IsRanged
new_ranged side None quantity symbol price i p = tt
new_ranged side (Some n) quantity None price i p = tt
new_ranged side (Some n) None (Some s) price i p = tt
new_ranged side (Some n) (Some q) (Some s) None i p = tt
new_ranged side (Some n) (Some q) (Some s) (Some z) i p = (i, p)

cancel_ranged : (id orig : Option ℕ) → IfSome id IsId → IfSome (option_and_then (λ cl_id. option_map (λ other. Cancel cl_id other) orig) id) IsRanged
cancel_ranged None orig i = tt
cancel_ranged (Some n) None i = tt
cancel_ranged (Some n) (Some k) i = i

chosen : (a b : Bool) (x y : Option Order) → IfSome x IsRanged → IfSome y IsRanged → IfSome (if a then x else (if b then y else None)) IsRanged
chosen true b x y p q = p
chosen false true x y p q = q
chosen false false x y p q = tt

message_ranged : (m : Message) → IfSome (order_of m) IsRanged
message_ranged m =
    let is = m.root.items in
    chosen (m.template == 1) (m.template == 2) _ _
    (new_ranged (side_in (item_at is 1)) (id_in (item_at is 0)) (natural_in (2 ^ 32 - 1) (item_at is 3)) (symbol_in (item_at is 2)) (price_in (item_at is 4)) (id_ranged (item_at is 0)) (price_ranged (item_at is 4)))
    (cancel_ranged (id_in (item_at is 0)) (natural_in (2 ^ 64 - 1) (item_at is 1)) (id_ranged (item_at is 0)))

read_ranged : (r : Result Message DecodeFault) → IfSome (order_read r) IsRanged
read_ranged (Ok m) = message_ranged m
read_ranged (Err fault) = tt

begun : (b : Bool) (x : Option Order) → IfSome x IsRanged → IfSome (if b then x else None) IsRanged
begun true x p = p
begun false x p = tt

order_ranged : (p : Plan) (payload : List ℕ) → IfSome (order_in p payload) IsRanged
order_ranged p [] = tt
order_ranged p (a ∷ []) = tt
order_ranged p (a ∷ b ∷ message) = begun (a == 0xEB && b == 0x50) _ (read_ranged (message_in p message))

-- ---- what is reported

-- what an order that breaks no rule keeps
record KeepsRules (o : NewOrder) : Type 0 where
  quantity : o.quantity ≤ 1000000
  price : pos 0 <ℤ o.price

keeps_by : (a b : Bool) (o : NewOrder) → (o.quantity == 0 || nat_lt 1000000 o.quantity) ≡ a → int_le o.price (pos 0) ≡ b
    → (if a then Some code.Quantity else (if b then Some code.Price else refusal_of_side o.side)) ≡ None → KeepsRules o
keeps_by true b o e f none = absurd (cc)
keeps_by false true o e f none = absurd (cc)
keeps_by false false o e f none = record { quantity = grind (arith, nat_tests); price = grind (arith, ints) }

keeps_rules : (o : NewOrder) → refusal_of o ≡ None → KeepsRules o
keeps_rules o none = keeps_by _ _ o refl refl none

refused_ranged : (desk id : ℕ) (why : RejectCode) → desk < 255 → IsId id → InRange (refused desk id why)
refused_ranged desk id why d i = record { id = i; number = d; count = omega arith; least = omega (arith, ints); most = omega (arith, ints) }

report_ranged : (desk : ℕ) (kind : ReportKind) (o : NewOrder) → desk < 255 → IsRanged (New o) → KeepsRules o → InRange (report_of desk kind o)
report_ranged desk kind o d (i, p) keeps = record { id = i; number = d; count = omega (arith, keeps.quantity); least = omega (arith, ints, keeps.price); most = p }

by_ranged : (desk : ℕ) (reference : ℤ) (o : NewOrder) (why : Option RejectCode) → desk < 255 → IsRanged (New o) → refusal_of o ≡ why → AllByRecursion InRange (reports_by desk reference o why)
by_ranged desk reference o (Some why) d r e = (refused_ranged desk o.cl_id why d r.0, tt)
by_ranged desk reference o None d r e =
    let keeps = keeps_rules o e in
    (report_ranged desk Accepted o d r keeps, (report_ranged desk (if crosses o.side o.price reference then Filled else Expired) o d r keeps, tt))

of_order : (desk : ℕ) (reference : ℤ) (found : Option Order) → desk < 255 → IfSome found IsRanged → AllByRecursion InRange (reports_of desk reference found)
of_order desk reference None d r = (refused_ranged desk 0 code.NotAnOrder d (omega arith), tt)
of_order desk reference (Some (New o)) d r = by_ranged desk reference o (refusal_of o) d r refl
of_order desk reference (Some (Cancel cl_id orig)) d r = (refused_ranged desk cl_id code.NothingKept d r, tt)

pub reports_in_range : ReportsInRange
reports_in_range p desk reference payload d = of_order desk reference (order_in p payload) d (order_ranged p payload)

-- ---- what is reported of a payload that was read

pub read_back : (found : Option Order) → result_ok (answer_of found) ≡ found
read_back None = refl
read_back (Some o) = refl
