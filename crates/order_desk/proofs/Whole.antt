-- A payload is an order exactly where it is 0xEB50 and a message that asks for something, under an identifier.
use Rattle.std.proofs.Common.{◌≡◌, ◌≢◌, ℕ, ◌+◌, ◌-◌, ◌<◌, ◌≤◌, ◌^◌, max, pos, ℤ, Bool, true, false, Option, Some, None, List, [], ◌∷◌, length, take, drop, get_or, if◌then◌else◌, refl, sym, ap, ◌∙◌, subst, inl, inr, arith}
use Rattle.std.specs.Prelude.{◌⊎◌, Result, Ok, Err, IsSome, nat_le, nat_lt, ◌==◌, ◌&&◌, codes, option_map, option_and_then}
use Rattle.std.specs.Int.{w32, w64, from_le_bytes, cast_signed}
use Rattle.std.proofs.lemmas.Bool.{false≢true, ltb-true, ltb-false}
use Rattle.std.proofs.lemmas.Bool.Decides.{nat_tests}
use Rattle.std.proofs.lemmas.Int.{ints}
use Rattle.std.proofs.lemmas.List.{get_or_past, length-take, length-drop}
use Rattle.std.proofs.lemmas.List.Elements.{All-get_or, All-take, All-drop}
use Rattle.sbe_prim.specs.declared.Order.TheVariants.{Little}
use Rattle.sbe_prim.specs.declared.Primitive.TheVariants.{Char, UInt8, UInt32, UInt64, Int64}
use Rattle.sbe_prim.specs.Names.{primitive_named}
use Rattle.sbe_prim.specs.Primitives.{holds}
use Rattle.schema_types.specs.declared.types.Presence.TheVariants.{Required}
use Rattle.schema_types.specs.declared.messages.FieldDef.{FieldDef}
use Rattle.sbe_value.specs.declared.item.Item.{Item}
use Rattle.sbe_value.specs.declared.item.Item.TheVariants.{Num, Absent, Text, Raw}
use Rattle.sbe_value.specs.declared.datum.Datum.{Datum}
use Rattle.sbe_value.specs.Trees.{GroupList}
use Rattle.sbe_value.specs.declared.message.Message.{Message}
use Rattle.sbe_layout.specs.declared.items.ItemKind.TheVariants.{Number, Enum}
use Rattle.sbe_layout.specs.declared.items.ItemPlan.{ItemPlan}
use Rattle.sbe_layout.specs.declared.items.Mark.{Mark}
use Rattle.sbe_layout.specs.declared.plan.MessagePlan.{MessagePlan}
use Rattle.sbe_layout.specs.declared.plan.Plan.{Plan}
use Rattle.sbe_layout.specs.Plans.{item, items_of_fields, marks_of, message_plan, message_of}
use Rattle.sbe_grammar.specs.declared.fault.DecodeFault.{DecodeFault}
use Rattle.sbe_grammar.specs.declared.fault.DecodeFault.TheVariants.{Truncated, OtherSchema, ShortBlock}
use Rattle.sbe_grammar.specs.Values.{is_in, item_in, items_in, text_in}
use Rattle.sbe_grammar.specs.Reading.{Read, next, read_bytes, needed_by, read_whole, read_block, read_data, read_groups, Header, header_in, read_body, read_by, read_headed, alone, message_in}
use Rattle.sofh_frame.specs.Framing.{IsBytes}
use Rattle.order_desk.specs.declared.order.Order.TheVariants.{New, Cancel}
use Rattle.order_desk.specs.declared.order.Side.{Side}
use Rattle.order_desk.specs.declared.order.Symbol.{Symbol}
use Rattle.order_desk.specs.Schema.{order_types, order_fields, cancel_fields, account, new_order, cancel, order_plan}
use Rattle.order_desk.specs.Orders.{item_at, natural_to, natural_in, id_in, price_in, side_in, symbol_in, new_order_in, cancel_in, order_of, order_read, order_in}
use Rattle.order_desk.specs.Laws.{IsOrderMessage, IsOrderPayload, OrdersAreThese}

-- ---- what a message that was read is made of, by any plan

record Got {A B : Type 0} (r : Read A) (more : A → List ℕ → Read B) (b : B × List ℕ) : Type 0 where
  value : A
  rest : List ℕ
  was : r ≡ Ok (value, rest)
  gave : more value rest ≡ Ok b

got : {A B : Type 0} (r : Read A) (more : A → List ℕ → Read B) (b : B × List ℕ) → next r more ≡ Ok b → Got r more b
got (Ok x) more b e = record { value = x.0; rest = x.1; was = refl; gave = e }
got (Err fault) more b e = absurd (cc)

record GotBytes (n : ℕ) (left part rest : List ℕ) : Type 0 where
  there : n ≤ length left
  part_is : part ≡ take n left
  rest_is : rest ≡ drop n left

abbrev done : {A : Type 0} → A → Result A DecodeFault
done x = Ok x

same_done : {A : Type 0} (x y : A) → done x ≡ done y → x ≡ y
same_done x y e = cc

abbrev parts : ℕ → List ℕ → Read (List ℕ)
parts n left = Ok (take n left, drop n left)

got_bytes : (total n : ℕ) (left part rest : List ℕ) → read_bytes total n left ≡ Ok (part, rest) → GotBytes n left part rest
got_bytes total n left part rest e = by_test (nat_lt (length left) n) refl e
  where
    by_test : (b : Bool) → nat_lt (length left) n ≡ b → (if b then Err (Truncated (total - length left)) else parts n left) ≡ Ok (part, rest) → GotBytes n left part rest
    by_test true t f = absurd (cc)
    by_test false t f =
        let same = same_done (take n left, drop n left) (part, rest) f in
        record { there = ltb-false (length left) n t; part_is = ap (λ (x : List ℕ × List ℕ). x.0) (sym same); rest_is = ap (λ (x : List ℕ × List ℕ). x.1) (sym same) }

record GotWhole (version size : ℕ) (marks : List Mark) (left part : List ℕ) : Type 0 where
  needed : needed_by version marks ≤ length part
  part_is : part ≡ take size left

got_whole : (version total size : ℕ) (marks : List Mark) (left part rest : List ℕ) → read_whole version total size marks left ≡ Ok (part, rest) → GotWhole version size marks left part
got_whole version total size marks left part rest e = by_test (nat_lt size (needed_by version marks)) refl e
  where
    by_test : (b : Bool) → nat_lt size (needed_by version marks) ≡ b
        → (if b then Err (ShortBlock (total - length left) size (needed_by version marks)) else read_bytes total size left) ≡ Ok (part, rest) → GotWhole version size marks left part
    by_test true t f = absurd (cc)
    by_test false t f =
        let g = got_bytes total size left part rest f in
        record { needed = omega (arith, ltb-false size (needed_by version marks) t, g.there, ap length g.part_is, length-take size left); part_is = g.part_is }

-- the layout of its template, and the block of its items
record IsRead (p : Plan) (bytes : List ℕ) (m : Message) : Type 0 where
  version : ℕ
  layout : MessagePlan
  part : List ℕ
  found : message_of m.template p.messages ≡ Some layout
  items : m.root.items ≡ items_in p.order version part layout.root.items
  needed : needed_by version layout.root.marks ≤ length part
  bytewise : IsBytes bytes → IsBytes part

same_first : {A B : Type 0} (a : A) (b : B) (x : A × B) → done (a, b) ≡ done x → a ≡ x.0
same_first {A} {B} a b x e = ap (λ (y : A × B). y.0) (same_done (a, b) x e)

record GotItems (p : Plan) (version size : ℕ) (layout : MessagePlan) (left : List ℕ) (items : List Item) : Type 0 where
  part : List ℕ
  items_are : items ≡ items_in p.order version part layout.root.items
  needed : needed_by version layout.root.marks ≤ length part
  part_is : part ≡ take size left

got_items : (p : Plan) (version total size : ℕ) (layout : MessagePlan) (left : List ℕ) (x : List Item × List ℕ) → read_block p.order version total size layout.root.marks layout.root.items left ≡ Ok x → GotItems p version size layout left x.0
got_items p version total size layout left x e =
    let whole = got (read_whole version total size layout.root.marks left) (λ part rest. Ok (items_in p.order version part layout.root.items, rest)) x e in
    let w = got_whole version total size layout.root.marks left whole.value whole.rest whole.was in
    record { part = whole.value; items_are = sym (same_first _ _ x whole.gave); needed = w.needed; part_is = w.part_is }

made_read : (p : Plan) (bytes left : List ℕ) (version size template : ℕ) (layout : MessagePlan) (items : List Item) (gs : GroupList) (vs : List Datum) → message_of template p.messages ≡ Some layout
    → left ≡ drop 8 bytes → GotItems p version size layout left items → IsRead p bytes (record { template = template; root = record { items = items; groups = gs; vars = vs } })
made_read p bytes left version size template layout items gs vs found drops g = record {
  version = version;
  layout = layout;
  part = g.part;
  found = found;
  items = g.items_are;
  needed = g.needed;
  bytewise = λ small. subst IsBytes (sym g.part_is) (All-take (λ (x : ℕ). x < 256) size left (subst IsBytes (sym drops) (All-drop (λ (x : ℕ). x < 256) 8 bytes small)));
}

body_read : (p : Plan) (bytes left : List ℕ) (version total size template : ℕ) (layout : MessagePlan) (b : Message × List ℕ) → message_of template p.messages ≡ Some layout → left ≡ drop 8 bytes
    → read_body p.order version total size layout.root template left ≡ Ok b → IsRead p bytes b.0
body_read p bytes left version total size template layout b found drops e =
    let block = got (read_block p.order version total size layout.root.marks layout.root.items left) _ b e in
    let groups = got (read_groups p.order version total layout.root.groups block.rest) _ b block.gave in
    let vars = got (read_data p.order version total layout.root.vars groups.rest) _ b groups.gave in
    subst (IsRead p bytes) (same_first _ _ b vars.gave)
    (made_read p bytes left version size template layout block.value groups.value vars.value found drops (got_items p version total size layout left (block.value, block.rest) block.was))

by_layout : (p : Plan) (bytes left : List ℕ) (total : ℕ) (h : Header) (found : Option MessagePlan) (b : Message × List ℕ) → message_of h.template p.messages ≡ found → left ≡ drop 8 bytes
    → read_by p.order total h found left ≡ Ok b → IsRead p bytes b.0
by_layout p bytes left total h None b f drops e = absurd (cc)
by_layout p bytes left total h (Some layout) b f drops e = body_read p bytes left h.version total h.size h.template layout b f drops e

by_id : (p : Plan) (bytes left : List ℕ) (total : ℕ) (h : Header) (same : Bool) (b : Message × List ℕ) → left ≡ drop 8 bytes
    → (if same then read_by p.order total h (message_of h.template p.messages) left else Err (OtherSchema h.id)) ≡ Ok b → IsRead p bytes b.0
by_id p bytes left total h true b drops e = by_layout p bytes left total h (message_of h.template p.messages) b refl drops e
by_id p bytes left total h false b drops e = absurd (cc)

alone_got : {A : Type 0} (r : Read A) (a : A) → alone r ≡ Ok a → (rest : List ℕ) × (r ≡ Ok (a, rest))
alone_got (Ok x) a e = (x.1, λ i. Ok (same_done x.0 a e i, x.1))
alone_got (Err fault) a e = absurd (cc)

is_read : (p : Plan) (bytes : List ℕ) (m : Message) → message_in p bytes ≡ Ok m → IsRead p bytes m
is_read p bytes m e =
    let whole = alone_got (next (read_bytes (length bytes) 8 bytes) (λ header left. read_headed p (length bytes) (header_in p.order header) left)) m e in
    let head = got (read_bytes (length bytes) 8 bytes) (λ header left. read_headed p (length bytes) (header_in p.order header) left) (m, whole.0) whole.1 in
    let g = got_bytes (length bytes) 8 bytes head.value head.rest head.was in
    let h = header_in p.order head.value in
    by_id p bytes head.rest (length bytes) h (h.id == p.id) (m, whole.0) g.rest_is head.gave

-- ---- the items of a block that is long enough

in_every : (version : ℕ) → is_in version (pos 0) ≡ true
in_every version = grind (arith, nat_tests)

if_true : {A : Type 0} (b : Bool) (x y : A) → b ≡ true → (if b then x else y) ≡ x
if_true true x y e = refl
if_true false x y e = absurd (false≢true e)

same_number : (a b : ℕ) → a ≡ b → (a == b) ≡ true
same_number a b e = grind (arith, nat_tests)

all_there : (n place : ℕ) (xs : List ℕ) → place + n ≤ length xs → length (take n (drop place xs)) ≡ n
all_there n place xs long = simp (length-take, length-drop) (omega (arith, long))

u64_at : (version place : ℕ) (block name : List ℕ) → place + 8 ≤ length block
    → item_in Little version block (item name place 8 (pos 0) Required (Number UInt64 1 None None None)) ≡ Num (pos (from_le_bytes w64 (take 8 (drop place block))))
u64_at version place block name long =
    if_true (is_in version (pos 0)) _ Absent (in_every version) ∙ if_true (length (take 8 (drop place block)) == 8) _ (Raw (take 8 (drop place block))) (same_number _ _ (all_there 8 place block long))

u32_at : (version place : ℕ) (block name : List ℕ) → place + 4 ≤ length block
    → item_in Little version block (item name place 4 (pos 0) Required (Number UInt32 1 None None None)) ≡ Num (pos (from_le_bytes w32 (take 4 (drop place block))))
u32_at version place block name long =
    if_true (is_in version (pos 0)) _ Absent (in_every version) ∙ if_true (length (take 4 (drop place block)) == 4) _ (Raw (take 4 (drop place block))) (same_number _ _ (all_there 4 place block long))

i64_at : (version place : ℕ) (block name : List ℕ) → place + 8 ≤ length block
    → item_in Little version block (item name place 8 (pos 0) Required (Number Int64 1 None None None)) ≡ Num (cast_signed w64 (from_le_bytes w64 (take 8 (drop place block))))
i64_at version place block name long =
    if_true (is_in version (pos 0)) _ Absent (in_every version) ∙ if_true (length (take 8 (drop place block)) == 8) _ (Raw (take 8 (drop place block))) (same_number _ _ (all_there 8 place block long))

text_at : (version place : ℕ) (block name : List ℕ) → item_in Little version block (item name place 8 (pos 0) Required (Number Char 8 None None None)) ≡ Text (text_in (take 8 (drop place block)))
text_at version place block name = if_true (is_in version (pos 0)) _ Absent (in_every version)

-- each byte is one, also behind the last
small_at : (bs : List ℕ) → IsBytes bs → (i : ℕ) → get_or bs i 0 < 256
small_at bs all i = by_place (nat_lt i (length bs)) refl
  where
    by_place : (b : Bool) → nat_lt i (length bs) ≡ b → get_or bs i 0 < 256
    by_place true e = All-get_or (λ (b : ℕ). b < 256) bs i 0 (ltb-true i (length bs) e) all
    by_place false e = omega (arith, get_or_past bs i 0 (ltb-false i (length bs) e))

small_4 : (bs : List ℕ) → IsBytes bs → from_le_bytes w32 bs < 2 ^ 32
small_4 bs all = omega (arith, small_at bs all 0, small_at bs all 1, small_at bs all 2, small_at bs all 3)

small_8 : (bs : List ℕ) → IsBytes bs → from_le_bytes w64 bs < 2 ^ 64
small_8 bs all =
    omega (arith, small_at bs all 0, small_at bs all 1, small_at bs all 2, small_at bs all 3, small_at bs all 4, small_at bs all 5, small_at bs all 6, small_at bs all 7)

part_small : (n place : ℕ) (block : List ℕ) → IsBytes block → IsBytes (take n (drop place block))
part_small n place block all = All-take (λ (x : ℕ). x < 256) n (drop place block) (All-drop (λ (x : ℕ). x < 256) place block all)

-- ---- they are numbers of their ranges

natural_there : (most n : ℕ) → n ≤ most → IsSome (natural_to most (pos n))
natural_there most n low = by_test (nat_le n most) refl
  where
    by_test : (b : Bool) → nat_le n most ≡ b → IsSome (if b then Some n else None)
    by_test true e = refl
    by_test false e = absurd (grind (arith, nat_tests))

id_there : (i : Item) (n : ℕ) → i ≡ Num (pos n) → n < 2 ^ 64 → i ≢ Num (pos (2 ^ 64 - 1)) → IsSome (id_in i)
id_there i n is small other = subst (λ (x : Item). IsSome (id_in x)) (sym is) (natural_there (2 ^ 64 - 2) n (below n small (λ same. other (is ∙ ap (λ (k : ℕ). Num (pos k)) same))))
  where
    below : (k : ℕ) → k < 2 ^ 64 → (k ≡ 2 ^ 64 - 1 → ⊥) → k ≤ 2 ^ 64 - 2
    below k small other = omega (arith, small, other)

natural_item : (most : ℕ) (i : Item) (n : ℕ) → i ≡ Num (pos n) → n ≤ most → IsSome (natural_in most i)
natural_item most i n is low = subst (λ (x : Item). IsSome (natural_in most x)) (sym is) (natural_there most n low)

held : (n : ℕ) → n < 2 ^ 64 → holds Int64 (cast_signed w64 n) ≡ true
held n small = grind (arith, ints, nat_tests)

price_item : (i : Item) (n : ℕ) → i ≡ Num (cast_signed w64 n) → n < 2 ^ 64 → IsSome (price_in i)
price_item i n is small = subst (λ (x : Item). IsSome (price_in x)) (sym is) (subst (λ (b : Bool). IsSome (if b then Some (cast_signed w64 n) else None)) (sym (held n small)) refl)

symbol_item : (i : Item) (text : List ℕ) → i ≡ Text text → IsSome (symbol_in i)
symbol_item i text is = subst (λ (x : Item). IsSome (symbol_in x)) (sym is) refl

-- ---- the items of both messages, whatever the version

abbrev id_plan : ItemPlan
id_plan = item (codes "cl_id") 0 8 (pos 0) Required (Number UInt64 1 None None None)

abbrev orig_plan : ItemPlan
orig_plan = item (codes "orig") 8 8 (pos 0) Required (Number UInt64 1 None None None)

abbrev side_plan : ItemPlan
side_plan = item (codes "side") 8 1 (pos 0) Required (Enum UInt8 0)

abbrev symbol_plan : ItemPlan
symbol_plan = item (codes "symbol") 9 8 (pos 0) Required (Number Char 8 None None None)

abbrev quantity_plan : ItemPlan
quantity_plan = item (codes "quantity") 17 4 (pos 0) Required (Number UInt32 1 None None None)

abbrev price_plan : ItemPlan
price_plan = item (codes "price.mantissa") 21 8 (pos 0) Required (Number Int64 1 None None None)

abbrev mark : ℕ → Mark
mark end = record { since = pos 0; end = end }

-- what version 2 adds
abbrev added : ℕ → List FieldDef
added version = if nat_le 2 version then account ∷ [] else []

abbrev new_items : ℕ → List ItemPlan
new_items version = id_plan ∷ side_plan ∷ symbol_plan ∷ quantity_plan ∷ price_plan ∷ items_of_fields order_types 29 (added version)

abbrev new_marks : ℕ → List Mark
new_marks version = mark 8 ∷ mark 9 ∷ mark 17 ∷ mark 21 ∷ mark 29 ∷ marks_of order_types 29 (added version)

new_items_are : (version : ℕ) → items_of_fields order_types 0 (order_fields version) ≡ new_items version
unfolding primitive_named
new_items_are version = refl

new_marks_are : (version : ℕ) → marks_of order_types 0 (order_fields version) ≡ new_marks version
unfolding primitive_named
new_marks_are version = refl

cancel_items_are : items_of_fields order_types 0 cancel_fields ≡ id_plan ∷ orig_plan ∷ []
unfolding primitive_named
cancel_items_are = refl

cancel_marks_are : marks_of order_types 0 cancel_fields ≡ mark 8 ∷ mark 16 ∷ []
unfolding primitive_named
cancel_marks_are = refl

-- a field that every version has ends within the block
ends_within : (version end : ℕ) (ms : List Mark) → needed_by version (mark end ∷ ms) ≡ max end (needed_by version ms)
ends_within version end ms = if_true (is_in version (pos 0)) _ (needed_by version ms) (in_every version)

new_long : (version asked : ℕ) → 29 ≤ needed_by asked (new_marks version)
new_long version asked =
    let more = marks_of order_types 29 (added version) in
    omega (arith, ends_within asked 8 (mark 9 ∷ mark 17 ∷ mark 21 ∷ mark 29 ∷ more), ends_within asked 9 (mark 17 ∷ mark 21 ∷ mark 29 ∷ more), ends_within asked 17 (mark 21 ∷ mark 29 ∷ more), ends_within asked 21 (mark 29 ∷ more), ends_within asked 29 more)

cancel_long : (asked : ℕ) → 16 ≤ needed_by asked (mark 8 ∷ mark 16 ∷ [])
cancel_long asked = omega (arith, ends_within asked 8 (mark 16 ∷ []), ends_within asked 16 [])

-- ---- all items there make an order

all_new : (side : Option Side) (id quantity : Option ℕ) (symbol : Option Symbol) (price : Option ℤ) → IsSome id → IsSome symbol → IsSome quantity → IsSome price
    → IsSome (option_map New (option_and_then (λ cl_id. option_and_then (λ sym. option_and_then (λ many. option_map (λ p. record { cl_id = cl_id; side = side; symbol = sym; quantity = many; price = p }) price) quantity) symbol) id))
all_new side None quantity symbol price i s q p = absurd (false≢true i)
all_new side (Some n) quantity None price i s q p = absurd (false≢true s)
all_new side (Some n) None (Some t) price i s q p = absurd (false≢true q)
all_new side (Some n) (Some k) (Some t) None i s q p = absurd (false≢true p)
all_new side (Some n) (Some k) (Some t) (Some z) i s q p = refl

all_cancel : (id orig : Option ℕ) → IsSome id → IsSome orig → IsSome (option_and_then (λ cl_id. option_map (λ other. Cancel cl_id other) orig) id)
all_cancel None orig i o = absurd (false≢true i)
all_cancel (Some n) None i o = absurd (false≢true o)
all_cancel (Some n) (Some k) i o = refl

abbrev IsNamed : Message → Type 0
IsNamed m = item_at m.root.items 0 ≢ Num (pos (2 ^ 64 - 1))

-- of items that stand in a block
new_whole : (version asked : ℕ) (part : List ℕ) (items : List Item) → items ≡ items_in Little asked part (new_items version) → needed_by asked (new_marks version) ≤ length part → IsBytes part
    → item_at items 0 ≢ Num (pos (2 ^ 64 - 1)) → IsSome (option_map New (new_order_in items))
new_whole version asked part items is long all named =
    let there : 29 ≤ length part = omega (arith, new_long version asked, long) in
    let at = λ (k : ℕ). ap (λ (xs : List Item). item_at xs k) is in
    all_new (side_in (item_at items 1)) (id_in (item_at items 0)) (natural_in (2 ^ 32 - 1) (item_at items 3)) (symbol_in (item_at items 2)) (price_in (item_at items 4))
    (id_there (item_at items 0) _ (at 0 ∙ u64_at asked 0 part (codes "cl_id") (omega (arith, there))) (small_8 _ (part_small 8 0 part all)) named)
    (symbol_item (item_at items 2) _ (at 2 ∙ text_at asked 9 part (codes "symbol")))
    (natural_item (2 ^ 32 - 1) (item_at items 3) _ (at 3 ∙ u32_at asked 17 part (codes "quantity") (omega (arith, there))) (omega (arith, small_4 (take 4 (drop 17 part)) (part_small 4 17 part all))))
    (price_item (item_at items 4) _ (at 4 ∙ i64_at asked 21 part (codes "price.mantissa") (omega (arith, there))) (small_8 _ (part_small 8 21 part all)))

cancel_whole : (asked : ℕ) (part : List ℕ) (items : List Item) → items ≡ items_in Little asked part (id_plan ∷ orig_plan ∷ []) → needed_by asked (mark 8 ∷ mark 16 ∷ []) ≤ length part → IsBytes part
    → item_at items 0 ≢ Num (pos (2 ^ 64 - 1)) → IsSome (cancel_in items)
cancel_whole asked part items is long all named =
    let there : 16 ≤ length part = omega (arith, cancel_long asked, long) in
    let at = λ (k : ℕ). ap (λ (xs : List Item). item_at xs k) is in
    all_cancel (id_in (item_at items 0)) (natural_in (2 ^ 64 - 1) (item_at items 1))
    (id_there (item_at items 0) _ (at 0 ∙ u64_at asked 0 part (codes "cl_id") (omega (arith, there))) (small_8 _ (part_small 8 0 part all)) named)
    (natural_item (2 ^ 64 - 1) (item_at items 1) _ (at 1 ∙ u64_at asked 8 part (codes "orig") (omega (arith, there))) (omega (arith, small_8 (take 8 (drop 8 part)) (part_small 8 8 part all))))

-- ---- both directions

found_new : (version : ℕ) → message_of 1 (order_plan version).messages ≡ Some (message_plan order_types (new_order version))
found_new version = refl

found_cancel : (version : ℕ) → message_of 2 (order_plan version).messages ≡ Some (message_plan order_types cancel)
found_cancel version = refl

same_layout : (a b : MessagePlan) → Some a ≡ Some b → a ≡ b
same_layout a b e = cc

new_there : (version : ℕ) (message : List ℕ) (m : Message) → IsBytes message → IsRead (order_plan version) message m → m.template ≡ 1 → IsNamed m → IsSome (option_map New (new_order_in m.root.items))
new_there version message m all r one named =
    let layout : r.layout ≡ message_plan order_types (new_order version) = same_layout _ _ (sym r.found ∙ ap (λ (t : ℕ). message_of t (order_plan version).messages) one ∙ found_new version) in
    new_whole version r.version r.part m.root.items (r.items ∙ ap (λ (l : MessagePlan). items_in Little r.version r.part l.root.items) layout ∙ ap (items_in Little r.version r.part) (new_items_are version))
    (subst (λ (ms : List Mark). needed_by r.version ms ≤ length r.part) (ap (λ (l : MessagePlan). l.root.marks) layout ∙ new_marks_are version) r.needed) (r.bytewise all) named

cancel_there : (version : ℕ) (message : List ℕ) (m : Message) → IsBytes message → IsRead (order_plan version) message m → m.template ≡ 2 → IsNamed m → IsSome (cancel_in m.root.items)
cancel_there version message m all r two named =
    let layout : r.layout ≡ message_plan order_types cancel = same_layout _ _ (sym r.found ∙ ap (λ (t : ℕ). message_of t (order_plan version).messages) two ∙ found_cancel version) in
    cancel_whole r.version r.part m.root.items (r.items ∙ ap (λ (l : MessagePlan). items_in Little r.version r.part l.root.items) layout ∙ ap (items_in Little r.version r.part) cancel_items_are)
    (subst (λ (ms : List Mark). needed_by r.version ms ≤ length r.part) (ap (λ (l : MessagePlan). l.root.marks) layout ∙ cancel_marks_are) r.needed) (r.bytewise all) named

order_there : (version : ℕ) (message : List ℕ) (m : Message) → IsBytes message → IsRead (order_plan version) message m → (m.template ≡ 1) ⊎ (m.template ≡ 2) → IsNamed m → IsSome (order_of m)
order_there version message m all r (inl one) named =
    subst (λ (t : ℕ). IsSome (if t == 1 then option_map New (new_order_in m.root.items) else (if t == 2 then cancel_in m.root.items else None))) (sym one) (new_there version message m all r one named)
order_there version message m all r (inr two) named =
    subst (λ (t : ℕ). IsSome (if t == 1 then option_map New (new_order_in m.root.items) else (if t == 2 then cancel_in m.root.items else None))) (sym two) (cancel_there version message m all r two named)

is_order : (version : ℕ) (payload : List ℕ) → IsBytes payload → IsOrderPayload (order_plan version) payload → IsSome (order_in (order_plan version) payload)
is_order version payload all o =
    let p = order_plan version in
    let message = o.message in
    let a = o.asks in
    let small : IsBytes message = All-drop (λ (x : ℕ). x < 256) 2 (0xEB ∷ 0x50 ∷ message) (subst IsBytes o.begins all) in
    subst (λ (xs : List ℕ). IsSome (order_in p xs)) (sym o.begins) (subst (λ (r : Result Message DecodeFault). IsSome (order_read r)) (sym a.decoded)
    (order_there version message a.read small (is_read p message a.read a.decoded) a.asks a.named))

-- ---- the other direction

id_named : (i : Item) → IsSome (id_in i) → i ≢ Num (pos (2 ^ 64 - 1))
id_named i some same = false≢true (subst (λ (x : Item). IsSome (id_in x)) same some)

new_has_id : (side : Option Side) (id quantity : Option ℕ) (symbol : Option Symbol) (price : Option ℤ)
    → IsSome (option_map New (option_and_then (λ cl_id. option_and_then (λ sym. option_and_then (λ many. option_map (λ p. record { cl_id = cl_id; side = side; symbol = sym; quantity = many; price = p }) price) quantity) symbol) id)) → IsSome id
new_has_id side None quantity symbol price some = some
new_has_id side (Some n) quantity symbol price some = refl

cancel_has_id : (id orig : Option ℕ) → IsSome (option_and_then (λ cl_id. option_map (λ other. Cancel cl_id other) orig) id) → IsSome id
cancel_has_id None orig some = some
cancel_has_id (Some n) orig some = refl

record Asks (m : Message) : Type 0 where
  template : (m.template ≡ 1) ⊎ (m.template ≡ 2)
  named : IsNamed m

asks : (m : Message) → IsSome (order_of m) → Asks m
asks m some = by_test (m.template == 1) (m.template == 2) refl refl some
  where
    by_test : (a b : Bool) → (m.template == 1) ≡ a → (m.template == 2) ≡ b → IsSome (if a then option_map New (new_order_in m.root.items) else (if b then cancel_in m.root.items else None)) → Asks m
    by_test true b e f s = record { template = inl (grind (arith, nat_tests)); named = id_named _ (new_has_id (side_in (item_at m.root.items 1)) _ _ _ _ s) }
    by_test false true e f s = record { template = inr (grind (arith, nat_tests)); named = id_named _ (cancel_has_id _ _ s) }
    by_test false false e f s = absurd (false≢true s)

read_asks : (p : Plan) (message : List ℕ) (r : Result Message DecodeFault) → message_in p message ≡ r → IsSome (order_read r) → IsOrderMessage p message
read_asks p message (Ok m) e some = let a = asks m some in record { read = m; decoded = e; asks = a.template; named = a.named }
read_asks p message (Err fault) e some = absurd (false≢true some)

has_order : (p : Plan) (payload : List ℕ) → IsSome (order_in p payload) → IsOrderPayload p payload
has_order p [] some = absurd (false≢true some)
has_order p (a ∷ []) some = absurd (false≢true some)
has_order p (a ∷ b ∷ message) some = by_test (a == 0xEB) (b == 0x50) refl refl some
  where
    by_test : (x y : Bool) → (a == 0xEB) ≡ x → (b == 0x50) ≡ y → IsSome (if x && y then order_read (message_in p message) else None) → IsOrderPayload p (a ∷ b ∷ message)
    by_test true true e f s =
        let first : a ≡ 0xEB = grind (arith, nat_tests) in
        let second : b ≡ 0x50 = grind (arith, nat_tests) in
        record { message = message; begins = λ i. first i ∷ second i ∷ message; asks = read_asks p message (message_in p message) refl s }
    by_test true false e f s = absurd (false≢true s)
    by_test false y e f s = absurd (false≢true s)

pub orders_are_these : OrdersAreThese
orders_are_these version payload all = (has_order (order_plan version) payload, is_order version payload all)
