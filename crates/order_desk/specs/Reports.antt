-- What a desk reports of an order, and a report as a message (this project's profile). A desk is immediate-or-cancel: an order trades
-- at once, all of it, against a reference price, or expires.
use Rattle.std.specs.Prelude.{ℕ, ◌-◌, ◌^◌, ◌<◌, nat_lt, ◌==◌, ℤ, pos, negsuc, ◌<ℤ◌, int_le, Bool, false, ◌||◌, if◌then◌else◌, Option, Some, None, List, [], ◌∷◌, option_to_list}
use Rattle.sbe_value.specs.declared.item.Item.TheVariants.{Num}
use Rattle.sbe_value.specs.declared.message.Message.{Message}
use Rattle.sbe_value.specs.Trees.{no_groups}
use Rattle.sbe_layout.specs.declared.plan.Plan.{Plan}
use Rattle.sbe_grammar.specs.Canonical.{canonical}
use Rattle.order_desk.specs.declared.order.Order.{Order}
use Rattle.order_desk.specs.declared.order.Order.TheVariants.{New, Cancel}
use Rattle.order_desk.specs.declared.order.NewOrder.{NewOrder}
use Rattle.order_desk.specs.declared.order.Side.{Side}
use Rattle.order_desk.specs.declared.order.Side.TheVariants.{Buy, Sell}
use Rattle.order_desk.specs.declared.report.Report.{Report}
use Rattle.order_desk.specs.declared.report.ReportKind.{ReportKind}
use Rattle.order_desk.specs.declared.report.ReportKind.TheVariants.{Accepted, Filled, Expired, Rejected}
use Rattle.order_desk.specs.declared.report.RejectCode.{RejectCode}
use Rattle.order_desk.specs.declared.report.RejectCode.TheVariants as code
use Rattle.order_desk.specs.declared.report.ReportList.{ReportList}

-- ---- the rules, in their order

-- some side, or none
abbrev pub refusal_of_side : Option Side → Option RejectCode
refusal_of_side None = Some code.Side
refusal_of_side (Some side) = None

-- the first rule that an order breaks
abbrev pub refusal_of : NewOrder → Option RejectCode
refusal_of o =
    if o.quantity == 0 || nat_lt 1000000 o.quantity then Some code.Quantity
    else (if int_le o.price (pos 0) then Some code.Price else refusal_of_side o.side)

-- a buy at the reference or above, a sell at the reference or below
abbrev pub crosses : Option Side → ℤ → ℤ → Bool
crosses None price reference = false
crosses (Some Buy) price reference = int_le reference price
crosses (Some Sell) price reference = int_le price reference

abbrev pub refused : ℕ → ℕ → RejectCode → Report
refused desk cl_id why = record { cl_id = cl_id; kind = Rejected why; desk = desk; quantity = 0; price = pos 0 }

abbrev pub report_of : ℕ → ReportKind → NewOrder → Report
report_of desk kind o = record { cl_id = o.cl_id; kind = kind; desk = desk; quantity = o.quantity; price = o.price }

-- an order that breaks a rule is refused; another is accepted, and then filled where it crosses, and else it expires
abbrev pub reports_by : ℕ → ℤ → NewOrder → Option RejectCode → List Report
reports_by desk reference o (Some why) = refused desk o.cl_id why ∷ []
reports_by desk reference o None =
    report_of desk Accepted o ∷ report_of desk (if crosses o.side o.price reference then Filled else Expired) o ∷ []

-- of a desk by its number and its reference price; what is no order has the identifier 0
abbrev pub reports_of : ℕ → ℤ → Option Order → List Report
reports_of desk reference None = refused desk 0 code.NotAnOrder ∷ []
reports_of desk reference (Some (New o)) = reports_by desk reference o (refusal_of o)
reports_of desk reference (Some (Cancel cl_id orig)) = refused desk cl_id code.NothingKept ∷ []

abbrev pub list_of : ReportList → List Report
list_of l = l.first ∷ option_to_list l.second

-- ---- a report as a message, and its payload

abbrev pub kind_number : ReportKind → ℕ
kind_number Accepted = 1
kind_number Filled = 2
kind_number Expired = 3
kind_number (Rejected why) = 4

abbrev pub number_of_code : RejectCode → ℕ
number_of_code code.Quantity = 1
number_of_code code.Price = 2
number_of_code code.NothingKept = 3
number_of_code code.NotAnOrder = 4
number_of_code code.Side = 5
number_of_code code.Duplicate = 6
number_of_code code.NotResting = 7

-- 0 where nothing is refused
abbrev pub code_number : ReportKind → ℕ
code_number Accepted = 0
code_number Filled = 0
code_number Expired = 0
code_number (Rejected why) = number_of_code why

abbrev pub tree_of_report : Report → Message
tree_of_report r = record {
  template = 3;
  root = record {
    items =
        Num (pos r.cl_id) ∷ Num (pos (kind_number r.kind)) ∷ Num (pos (code_number r.kind))
        ∷ Num (pos r.desk) ∷ Num (pos r.quantity) ∷ Num r.price ∷ [];
    groups = no_groups;
    vars = [];
  };
}

-- 0xEB50, and the message
abbrev pub report_bytes : Plan → Report → List ℕ
report_bytes plan r = 0xEB ∷ 0x50 ∷ canonical plan (tree_of_report r)

-- ---- ranges: the greatest number of an unsigned type and the least of a signed one stand for no value

pub record InRange (r : Report) : Type 0 where
  pub id : r.cl_id < 2 ^ 64 - 1
  pub number : r.desk < 255
  pub count : r.quantity < 2 ^ 32 - 1
  pub least : negsuc (2 ^ 63 - 1) <ℤ r.price
  pub most : r.price <ℤ pos (2 ^ 63)
