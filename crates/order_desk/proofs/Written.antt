-- A report that lies within its ranges may be written, and its bytes are the payload of an application message.
use Rattle.std.proofs.Common.{◌≡◌, ℕ, ◌-◌, ◌^◌, pos, negsuc, ℤ, Bool, true, false, not, Option, Some, None, List, [], ◌∷◌, ◌++◌, length, map, if◌then◌else◌, refl, sym, ap, ◌∙◌, subst, arith}
use Rattle.std.specs.Prelude.{◌≤ℤ◌, ◌&&◌, codes}
use Rattle.std.specs.List.{AllByRecursion}
use Rattle.std.proofs.lemmas.Bool.{false≢true}
use Rattle.std.proofs.lemmas.Bool.Decides.{nat_tests}
use Rattle.std.proofs.lemmas.Int.{ints}
use Rattle.sbe_prim.specs.declared.Order.TheVariants.{Little}
use Rattle.sbe_prim.specs.declared.Primitive.TheVariants.{UInt8, UInt32, UInt64, Int64}
use Rattle.sbe_prim.specs.Primitives.{lies_within}
use Rattle.sbe_prim.specs.Names.{primitive_named}
use Rattle.schema_types.specs.declared.types.Presence.TheVariants.{Required}
use Rattle.sbe_layout.specs.declared.items.ItemKind.TheVariants.{Number, Enum}
use Rattle.sbe_layout.specs.declared.items.ItemPlan.{ItemPlan}
use Rattle.sbe_value.specs.declared.message.Message.{Message}
use Rattle.sbe_layout.specs.declared.plan.MessagePlan.{MessagePlan}
use Rattle.sbe_layout.specs.declared.plan.Plan.{Plan}
use Rattle.sbe_layout.specs.Trees.{no_plans}
use Rattle.sbe_layout.specs.Plans.{item, marks_of, listings_of, message_of}
use Rattle.sbe_grammar.specs.Canonical.{canonical, canonical_by}
use Rattle.sbe_encode.specs.declared.fault.EncodeFault.{EncodeFault}
use Rattle.sbe_value.specs.declared.item.Item.TheVariants.{Num}
use Rattle.sbe_encode.specs.Faults.{or_else, item_fault, items_fault, layout_fault, length_fault, fault_by, encode_fault}
use Rattle.fixp_msgs.specs.Header.{kind_of}
use Rattle.fixp_msgs.specs.Payload.{IsApplication}
use Rattle.order_desk.specs.declared.report.Report.{Report}
use Rattle.order_desk.specs.declared.report.ReportKind.{ReportKind}
use Rattle.order_desk.specs.declared.report.ReportKind.TheVariants.{Accepted, Filled, Expired, Rejected}
use Rattle.order_desk.specs.declared.report.RejectCode.TheVariants as code
use Rattle.order_desk.specs.Schema.{IsOrderPlan, order_types, report_fields, order_plan}
use Rattle.order_desk.specs.Reports.{InRange, kind_number, code_number, tree_of_report, report_bytes, reports_of}
use Rattle.order_desk.specs.Orders.{order_in}
use Rattle.order_desk.specs.Laws.{ReportMayBeWritten, AnswersAreApplication}

-- ---- the layout of a report, whatever the version

abbrev report_items : List ItemPlan
report_items =
    item (codes "cl_id") 0 8 (pos 0) Required (Number UInt64 1 None None None)
    ∷ item (codes "kind") 8 1 (pos 0) Required (Enum UInt8 1)
    ∷ item (codes "code") 9 1 (pos 0) Required (Number UInt8 1 None None None)
    ∷ item (codes "desk") 10 1 (pos 0) Required (Number UInt8 1 None None None)
    ∷ item (codes "quantity") 11 4 (pos 0) Required (Number UInt32 1 None None None)
    ∷ item (codes "price.mantissa") 15 8 (pos 0) Required (Number Int64 1 None None None)
    ∷ []

abbrev report_layout : MessagePlan
report_layout = record {
  name = codes "Report";
  template = 3;
  since = pos 0;
  root = record { block_length = 23; items = report_items; marks = marks_of order_types 0 report_fields; groups = no_plans; vars = [] };
}

found : (version : ℕ) → message_of 3 (order_plan version).messages ≡ Some report_layout
unfolding primitive_named
found version = refl

-- ---- each item of a report may be written

both : (a b : Bool) → a ≡ true → b ≡ true → (a && b) ≡ true
both true true p q = refl
both true false p q = absurd (false≢true q)
both false b p q = absurd (false≢true p)

no_range : (b : Bool) (f : Option EncodeFault) → b ≡ true → (if not b then f else None) ≡ None
no_range true f e = refl
no_range false f e = absurd (false≢true e)

then_none : (a b : Option EncodeFault) → a ≡ None → b ≡ None → or_else a b ≡ None
then_none None b p q = q
then_none (Some f) b p q = absurd (cc)

within : (low high z : ℤ) → low ≤ℤ z → z ≤ℤ high → lies_within low high z ≡ true
within low high z p q = grind (arith, ints, nat_tests)

kind_written : (kind : ReportKind) → item_fault (listings_of order_types) (item (codes "kind") 8 1 (pos 0) Required (Enum UInt8 1)) (Num (pos (kind_number kind))) ≡ None
kind_written Accepted = refl
kind_written Filled = refl
kind_written Expired = refl
kind_written (Rejected why) = refl

code_written : (kind : ReportKind) → item_fault (listings_of order_types) (item (codes "code") 9 1 (pos 0) Required (Number UInt8 1 None None None)) (Num (pos (code_number kind))) ≡ None
code_written Accepted = refl
code_written Filled = refl
code_written Expired = refl
code_written (Rejected code.Quantity) = refl
code_written (Rejected code.Price) = refl
code_written (Rejected code.NothingKept) = refl
code_written (Rejected code.NotAnOrder) = refl
code_written (Rejected code.Side) = refl
code_written (Rejected code.Duplicate) = refl
code_written (Rejected code.NotResting) = refl

items_written : (r : Report) → InRange r → items_fault (listings_of order_types) report_items (tree_of_report r).root.items ≡ None
items_written r range =
    then_none _ _ (no_range _ _ (both _ _ (within (pos 0) (pos (2 ^ 64 - 1)) (pos r.cl_id) (omega (arith, ints, range.id)) (omega (arith, ints, range.id))) (within (pos 0) (pos (2 ^ 64 - 2)) (pos r.cl_id) (omega (arith, ints, range.id)) (omega (arith, ints, range.id)))))
    (then_none _ _ (kind_written r.kind)
    (then_none _ _ (code_written r.kind)
    (then_none _ _ (no_range _ _ (both _ _ (within (pos 0) (pos 255) (pos r.desk) (omega (arith, ints, range.number)) (omega (arith, ints, range.number))) (within (pos 0) (pos 254) (pos r.desk) (omega (arith, ints, range.number)) (omega (arith, ints, range.number)))))
    (then_none _ _ (no_range _ _ (both _ _ (within (pos 0) (pos (2 ^ 32 - 1)) (pos r.quantity) (omega (arith, ints, range.count)) (omega (arith, ints, range.count))) (within (pos 0) (pos (2 ^ 32 - 2)) (pos r.quantity) (omega (arith, ints, range.count)) (omega (arith, ints, range.count)))))
    (then_none _ None (no_range _ _ (both _ _ (within (negsuc (2 ^ 63 - 1)) (pos (2 ^ 63 - 1)) r.price (omega (arith, ints, range.least)) (omega (arith, ints, range.most))) (within (negsuc (2 ^ 63 - 2)) (pos (2 ^ 63 - 1)) r.price (omega (arith, ints, range.least)) (omega (arith, ints, range.most))))) refl)))))

-- ---- the whole message

pub length_is : (version : ℕ) (r : Report) → length (canonical (order_plan version) (tree_of_report r)) ≡ 31
length_is version r = ap (λ (f : Option MessagePlan). length (canonical_by (order_plan version) f (tree_of_report r))) (found version)

pub report_may_be_written : ReportMayBeWritten
report_may_be_written version r range =
    ap (λ (f : Option MessagePlan). fault_by (order_plan version) f (tree_of_report r)) (found version)
    ∙ then_none (layout_fault (listings_of order_types) report_layout (tree_of_report r)) (length_fault (length (canonical (order_plan version) (tree_of_report r))))
    (then_none _ None (items_written r range) refl) (ap length_fault (length_is version r))

-- ---- its payload

pub is_application : (version : ℕ) (r : Report) → IsApplication (report_bytes (order_plan version) r)
is_application version r =
    let message = canonical (order_plan version) (tree_of_report r) in
    let long = length_is version r in
    record {
      frame = record { order = Little; message = message };
      admissible = record { least = omega (arith, long); most = omega (arith, long) };
      application = ap (λ (f : Option MessagePlan). kind_of Little (canonical_by (order_plan version) f (tree_of_report r))) (found version);
      spelled = refl;
    }

each : (version : ℕ) (rs : List Report) → AllByRecursion IsApplication (map (report_bytes (order_plan version)) rs)
each version [] = tt
each version (r ∷ rs) = (is_application version r, each version rs)

pub answers_are_application : AnswersAreApplication
answers_are_application version desk reference payload = each version (reports_of desk reference (order_in (order_plan version) payload))

-- ---- by any plan of the order schema

pub application_by : (p : Plan) (r : Report) (bytes : List ℕ) → IsOrderPlan p → bytes ≡ report_bytes p r → IsApplication bytes
application_by p r bytes o e =
    subst IsApplication (sym e) (subst (λ (q : Plan). IsApplication (report_bytes q r)) (sym o.planned) (is_application o.version r))

pub bytes_are : (p : Plan) (r : Report) (m : Message) (front out : List ℕ) → out ≡ front ++ canonical p m → front ≡ 0xEB ∷ 0x50 ∷ [] → m ≡ tree_of_report r → out ≡ report_bytes p r
bytes_are p r m front out e f g = e ∙ (λ i. f i ++ canonical p (g i))

pub no_fault : (p : Plan) (r : Report) (m : Message) (f : EncodeFault) → IsOrderPlan p → InRange r → m ≡ tree_of_report r → encode_fault p m ≡ Some f → ⊥
no_fault p r m f o range e told =
    let none : encode_fault p m ≡ None =
    ap (encode_fault p) e ∙ ap (λ (q : Plan). encode_fault q (tree_of_report r)) o.planned ∙ report_may_be_written o.version r range in
    none_some f (sym none ∙ told)
  where
    none_some : (f : EncodeFault) → None ≡ Some f → ⊥
    none_some f e = cc
