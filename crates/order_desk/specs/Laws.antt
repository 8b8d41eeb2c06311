-- What the definitions of this crate keep, each the law of a function with an empty body.
use Rattle.std.specs.Prelude.{◌≡◌, ◌≢◌, ◌⊎◌, ◌↔◌, ℕ, ◌+◌, ◌-◌, ◌^◌, ◌<◌, ℤ, pos, IsTrue, IsSome, None, Ok, List, ◌∷◌, ◌++◌, length}
use Rattle.std.specs.List.{AllByRecursion}
use Rattle.sbe_layout.specs.declared.plan.Plan.{Plan}
use Rattle.sbe_value.specs.declared.item.Item.TheVariants.{Num}
use Rattle.sbe_value.specs.declared.message.Message.{Message}
use Rattle.sbe_grammar.specs.Reading.{message_in}
use Rattle.sofh_frame.specs.Framing.{IsBytes}
use Rattle.sbe_schema.specs.Checked.{is_checked}
use Rattle.sbe_encode.specs.Faults.{encode_fault}
use Rattle.fixp_msgs.specs.Payload.{IsApplication}
use Rattle.session_model.specs.Plans.{GoesOn}
use Rattle.order_desk.specs.declared.report.Report.{Report}
use Rattle.order_desk.specs.Schema.{IsVersion, order_schema, order_plan}
use Rattle.order_desk.specs.Orders.{item_at, order_in}
use Rattle.order_desk.specs.Reports.{InRange, reports_of, tree_of_report}
use Rattle.order_desk.specs.Plans.{answers, share, desk_plan}

-- the schema is a checked one at both versions
abbrev pub SchemaIsChecked : Type 0
SchemaIsChecked = (version : ℕ) → IsVersion version → IsTrue (is_checked (order_schema version))

-- a message that asks for something under an identifier: NewOrder or Cancel, with a cl_id that is not the number for none
pub record IsOrderMessage (p : Plan) (bytes : List ℕ) : Type 0 where
  pub read : Message
  pub decoded : message_in p bytes ≡ Ok read
  pub asks : (read.template ≡ 1) ⊎ (read.template ≡ 2)
  pub named : item_at read.root.items 0 ≢ Num (pos (2 ^ 64 - 1))

-- 0xEB50, and such a message
pub record IsOrderPayload (p : Plan) (payload : List ℕ) : Type 0 where
  pub message : List ℕ
  pub begins : payload ≡ 0xEB ∷ 0x50 ∷ message
  pub asks : IsOrderMessage p message

-- by a plan of the order schema, these payloads and no others are orders
abbrev pub OrdersAreThese : Type 0
OrdersAreThese =
    (version : ℕ) (payload : List ℕ) → IsBytes payload → IsSome (order_in (order_plan version) payload) ↔ IsOrderPayload (order_plan version) payload

-- a report within its ranges may be written, at any version
abbrev pub ReportMayBeWritten : Type 0
ReportMayBeWritten = (version : ℕ) (r : Report) → InRange r → encode_fault (order_plan version) (tree_of_report r) ≡ None

-- what a desk reports of a payload lies within its ranges, whatever the payload and the plan by which it is read
abbrev pub ReportsInRange : Type 0
ReportsInRange =
    (p : Plan) (desk : ℕ) (reference : ℤ) (payload : List ℕ) → desk < 255 → AllByRecursion InRange (reports_of desk reference (order_in p payload))

-- what a desk sends are payloads of application messages
abbrev pub AnswersAreApplication : Type 0
AnswersAreApplication =
    (version desk : ℕ) (reference : ℤ) (payload : List ℕ) → AllByRecursion IsApplication (answers (order_plan version) desk reference payload)

-- the share of more messages goes on behind that of the first ones
abbrev pub ShareGoesOn : Type 0
ShareGoesOn = (d s n : ℕ) (earlier more : List (List ℕ)) → share d s n (earlier ++ more) ≡ share d s n earlier ++ share d s (n + length earlier) more

-- over more messages, what a desk is to send begins with what it was
abbrev pub DeskPlanGoesOn : Type 0
DeskPlanGoesOn = (d version : ℕ) (reference : ℤ) → GoesOn (desk_plan d version reference)
