-- What bytes spell by a legal plan fits that plan.
use Rattle.std.proofs.Common.{◌≡◌, inl, inr, ℕ, suc, ℤ, ◌+◌, ◌*◌, ◌≤◌, max, Bool, true, false, ◌&&◌, ◌||◌, Option, Some, None, is_some, List, [], ◌∷◌, length, take, drop, refl, sym, ◌∙◌, ap, subst, if◌then◌else◌, ◌==◌, arith, eq-eqb}
use Rattle.std.specs.Prelude.{nat_le}
use Rattle.std.specs.Ordering.{int_eq}
use Rattle.std.specs.List.{AllByRecursion}
use Rattle.std.proofs.lemmas.List.{length-take, length-drop}
use Rattle.std.proofs.lemmas.Bool.{and_from, true≢false}
use Rattle.std.proofs.lemmas.Bool.Decides.{nat_tests}
use Rattle.sbe_prim.specs.declared.Primitive.{Primitive}
use Rattle.sbe_prim.specs.declared.Primitive.TheVariants.{Char, Int8, Int16, Int32, Int64, UInt8, UInt16, UInt32, UInt64, Float, Double}
use Rattle.sbe_prim.specs.declared.Order.{Order}
use Rattle.sbe_prim.specs.Primitives.{is_integer, size_of}
use Rattle.sbe_prim.specs.Numbers.{number_of}
use Rattle.schema_types.specs.declared.types.Presence.{Presence}
use Rattle.schema_types.specs.declared.types.Presence.TheVariants.{Required, Optional, Constant}
use Rattle.sbe_schema.specs.Kinds.{is_char, is_uint8, is_uint16, is_uint32, is_uint64}
use Rattle.sbe_value.specs.declared.item.Item.{Item}
use Rattle.sbe_value.specs.declared.item.Item.TheVariants.{Num, Null}
use Rattle.sbe_value.specs.declared.datum.Datum.{Datum}
use Rattle.sbe_value.specs.declared.datum.Datum.TheVariants as datum
use Rattle.sbe_value.specs.declared.message.Message.{Message}
use Rattle.sbe_value.specs.Trees.{GroupList, BlockList, no_groups, absent, entries, no_blocks, block}
use Rattle.sbe_layout.specs.declared.items.ItemKind.{ItemKind}
use Rattle.sbe_layout.specs.declared.items.ItemKind.TheVariants.{Number, Enum, Set}
use Rattle.sbe_layout.specs.declared.items.ItemPlan.{ItemPlan}
use Rattle.sbe_layout.specs.declared.items.Mark.{Mark}
use Rattle.sbe_layout.specs.declared.items.DataPlan.{DataPlan}
use Rattle.sbe_layout.specs.declared.listings.Listing.{Listing}
use Rattle.sbe_layout.specs.declared.plan.MessagePlan.{MessagePlan}
use Rattle.sbe_layout.specs.declared.plan.Plan.{Plan}
use Rattle.sbe_layout.specs.Trees.{PlanHead, PlanTree, no_plans, plan}
use Rattle.sbe_layout.specs.Plans.{message_of}
use Rattle.sbe_layout.specs.Legal.{size_of_item, is_legal_kind, SomeFieldEnds, IsLegalItem, AreLegalGroups, IsLegalMessage, LegalPlan}
use Rattle.sbe_grammar.specs.Values.{is_in, null_by, number_or_null, of_integer, text_in, array_value, value_by, item_in, items_in}
use Rattle.sbe_grammar.specs.Spelling.{AllWithin, IsBlock, SpellsData, SpellsGroups, SpellsEntries, Spells}
use Rattle.sbe_grammar.specs.Fits.{number, text, raw, is_optional, form_by, form_of, has_form, fit_items, fit_data, fit_groups, fit_entries, Fits}

-- ---- values

text_fits : (size : ℕ) (bytes : List ℕ) → length bytes ≡ size → nat_le (length (text_in bytes)) size ≡ true
text_fits size bytes long =
    let short : length (text_in bytes) ≤ size = simp length-take (omega (arith, long)) in
    grind (arith, nat_tests)

array_fits : (p : Primitive) (size : ℕ) (bytes : List ℕ) → length bytes ≡ size → has_form (if is_char p then text size else raw size) (array_value p bytes) ≡ true
array_fits Char size bytes long = text_fits size bytes long
array_fits Int8 size bytes long = eq-eqb (length bytes) size long
array_fits Int16 size bytes long = eq-eqb (length bytes) size long
array_fits Int32 size bytes long = eq-eqb (length bytes) size long
array_fits Int64 size bytes long = eq-eqb (length bytes) size long
array_fits UInt8 size bytes long = eq-eqb (length bytes) size long
array_fits UInt16 size bytes long = eq-eqb (length bytes) size long
array_fits UInt32 size bytes long = eq-eqb (length bytes) size long
array_fits UInt64 size bytes long = eq-eqb (length bytes) size long
array_fits Float size bytes long = eq-eqb (length bytes) size long
array_fits Double size bytes long = eq-eqb (length bytes) size long

made_fits : (presence : Presence) (null z : ℤ) → has_form (number (is_optional presence)) (number_or_null presence null z) ≡ true
made_fits Required null z = refl
made_fits Optional null z =
    elim (int_eq z null) as (λ b. has_form (number true) (if b then Null else Num z) ≡ true) [ true ↦ refl | false ↦ refl ]
made_fits Constant null z = refl

-- the bytes of a number are as many as its primitive has
integer_fits : (b : Bool) (order : Order) (p : Primitive) (presence : Presence) (null : ℤ) (size : ℕ) (bytes : List ℕ) → is_integer p ≡ b → length bytes ≡ size → size ≡ size_of p
    → has_form (if is_integer p then number (is_optional presence) else raw size) (of_integer order p (number_or_null presence null) bytes) ≡ true
integer_fits true order p presence null size bytes is long sized =
    let whole : (length bytes == size_of p) ≡ true = eq-eqb (length bytes) (size_of p) (long ∙ sized) in
    rw (is, whole) (made_fits presence null (number_of p order bytes))
integer_fits false order p presence null size bytes is long sized = rw is (eq-eqb (length bytes) size long)

-- a length below two is the primitive itself
single : (p : Primitive) (count : ℕ) → nat_le 2 count ≡ false → size_of p * max count 1 ≡ size_of p
single p count one =
    let low : max count 1 ≡ 1 = grind (arith, nat_tests) in
    ap (λ (k : ℕ). size_of p * k) low ∙ omega arith

number_fits : (b : Bool) (order : Order) (p : Primitive) (count : ℕ) (presence : Presence) (null : ℤ) (size : ℕ) (bytes : List ℕ) → nat_le 2 count ≡ b → length bytes ≡ size → size ≡ size_of p * max count 1
    → has_form (if nat_le 2 count then (if is_char p then text size else raw size) else (if is_integer p then number (is_optional presence) else raw size)) (if nat_le 2 count then array_value p bytes else of_integer order p (number_or_null presence null) bytes) ≡ true
number_fits true order p count presence null size bytes is long sized = rw is (array_fits p size bytes long)
number_fits false order p count presence null size bytes is long sized =
    rw is (integer_fits (is_integer p) order p presence null size bytes refl long (sized ∙ single p count is))

enum_is_integer : (p : Primitive) → (is_char p || (is_uint8 p || is_uint16 p)) ≡ true → is_integer p ≡ true
enum_is_integer Float e = absurd (true≢false (sym e))
enum_is_integer Double e = absurd (true≢false (sym e))
enum_is_integer Char e = refl
enum_is_integer Int8 e = refl
enum_is_integer Int16 e = refl
enum_is_integer Int32 e = refl
enum_is_integer Int64 e = refl
enum_is_integer UInt8 e = refl
enum_is_integer UInt16 e = refl
enum_is_integer UInt32 e = refl
enum_is_integer UInt64 e = refl

set_is_integer : (p : Primitive) → ((is_uint8 p || is_uint16 p) || (is_uint32 p || is_uint64 p)) ≡ true → is_integer p ≡ true
set_is_integer Float e = absurd (true≢false (sym e))
set_is_integer Double e = absurd (true≢false (sym e))
set_is_integer Char e = refl
set_is_integer Int8 e = refl
set_is_integer Int16 e = refl
set_is_integer Int32 e = refl
set_is_integer Int64 e = refl
set_is_integer UInt8 e = refl
set_is_integer UInt16 e = refl
set_is_integer UInt32 e = refl
set_is_integer UInt64 e = refl

-- the bytes of an enum or a set
code_fits : (order : Order) (p : Primitive) (size : ℕ) (bytes : List ℕ) → is_integer p ≡ true → length bytes ≡ size → size ≡ size_of p → has_form (number false) (of_integer order p Num bytes) ≡ true
code_fits order p size bytes is long sized =
    let whole : (length bytes == size_of p) ≡ true = eq-eqb (length bytes) (size_of p) (long ∙ sized) in
    rw (is, whole) refl

value_fits : (order : Order) (presence : Presence) (kind : ItemKind) (size : ℕ) (bytes : List ℕ) → length bytes ≡ size → size ≡ size_of_item kind → is_legal_kind kind ≡ true → has_form (form_by kind presence size) (value_by order presence kind bytes) ≡ true
value_fits order presence (Number p count null low high) size bytes long sized legal =
    number_fits (nat_le 2 count) order p count presence (null_by p null) size bytes refl long sized
value_fits order presence (Enum p at) size bytes long sized legal = code_fits order p size bytes (enum_is_integer p legal) long sized
value_fits order presence (Set p at) size bytes long sized legal = code_fits order p size bytes (set_is_integer p legal) long sized

-- ---- blocks

-- a block that is long enough for the fields of its version reaches behind each of them
reaches : (version size : ℕ) (since : ℤ) (place : ℕ) (marks : List Mark) → is_in version since ≡ true → SomeFieldEnds since place marks → AllWithin version size marks → place ≤ size
reaches version size since place [] there h within = absurd h
reaches version size since place (m ∷ ms) there (inl (same, ends)) within =
    let end : m.end ≤ size = within.0 (ap (is_in version) same ∙ there) in
    omega (arith, ends, end)
reaches version size since place (m ∷ ms) there (inr later) within = reaches version size since place ms there later within.1

item_fits : (b : Bool) (order : Order) (version size : ℕ) (newest : ℕ) (listings : List Listing) (length_of_block : ℕ) (marks : List Mark) (bytes : List ℕ) (i : ItemPlan) → is_in version i.since ≡ b → IsLegalItem newest listings length_of_block marks i → length bytes ≡ size → AllWithin version size marks → has_form (form_of i) (item_in order version bytes i) ≡ true
item_fits true order version size newest listings length_of_block marks bytes i there legal long within =
    let room : i.offset + i.size ≤ size = reaches version size i.since (i.offset + i.size) marks there legal.in_field within in
    let whole : length (take i.size (drop i.offset bytes)) ≡ i.size = simp (length-take, length-drop) (omega (arith, room, long)) in
    rw there (value_fits order i.presence i.kind i.size (take i.size (drop i.offset bytes)) whole legal.sized legal.kind)
item_fits false order version size newest listings length_of_block marks bytes i gone legal long within = rw gone refl

items_fit : (order : Order) (version size : ℕ) (newest : ℕ) (listings : List Listing) (length_of_block : ℕ) (marks : List Mark) (bytes : List ℕ) (plans : List ItemPlan) → AllByRecursion (IsLegalItem newest listings length_of_block marks) plans → length bytes ≡ size → AllWithin version size marks → fit_items (items_in order version bytes plans) plans ≡ true
items_fit order version size newest listings length_of_block marks bytes [] legal long within = refl
items_fit order version size newest listings length_of_block marks bytes (i ∷ is) legal long within =
    and_from (has_form (form_of i) (item_in order version bytes i)) (fit_items (items_in order version bytes is) is) (item_fits (is_in version i.since) order version size newest listings length_of_block marks bytes i refl legal.0 long within) (items_fit order version size newest listings length_of_block marks bytes is legal.1 long within)

block_fits : (order : Order) (version size : ℕ) (newest : ℕ) (listings : List Listing) (length_of_block : ℕ) (marks : List Mark) (plans : List ItemPlan) (items : List Item) (bytes : List ℕ) → AllByRecursion (IsLegalItem newest listings length_of_block marks) plans → IsBlock order version size marks plans items bytes → fit_items items plans ≡ true
block_fits order version size newest listings length_of_block marks plans items bytes legal s =
    ap (λ (is : List Item). fit_items is plans) s.values ∙ items_fit order version size newest listings length_of_block marks bytes plans legal s.whole s.fields_within

-- ---- data and groups

as_many : (order : Order) (version : ℕ) (vs : List Datum) (ds : List DataPlan) (bytes : List ℕ) → SpellsData order version vs ds bytes → length vs ≡ length ds
as_many order version [] [] bytes s = refl
as_many order version [] (d ∷ ds) bytes s = absurd s
as_many order version (v ∷ vs) [] bytes s = absurd s
as_many order version (datum.Absent ∷ vs) (d ∷ ds) bytes s = ap suc (as_many order version vs ds bytes s.1)
as_many order version (datum.Present t ∷ vs) (d ∷ ds) bytes s =
    ap suc (as_many order version vs ds s.1.is_behind.behind s.1.is_behind.is_behind)

data_fit : (order : Order) (version : ℕ) (vs : List Datum) (ds : List DataPlan) (bytes : List ℕ) → SpellsData order version vs ds bytes → fit_data vs ds ≡ true
data_fit order version vs ds bytes s = eq-eqb (length vs) (length ds) (as_many order version vs ds bytes s)

mutual
  groups_fit : (gs : GroupList) (order : Order) (version newest : ℕ) (listings : List Listing) (plans : PlanTree) (bytes : List ℕ) → AreLegalGroups newest listings plans → SpellsGroups order version gs plans bytes → fit_groups gs plans ≡ true
  groups_fit no_groups order version newest listings no_plans bytes legal s = refl
  groups_fit no_groups order version newest listings (plan head inner others) bytes legal s = absurd s
  groups_fit (absent gs) order version newest listings no_plans bytes legal s = absurd s
  groups_fit (absent gs) order version newest listings (plan head inner others) bytes legal s = groups_fit gs order version newest listings others bytes legal.1.1 s.1
  groups_fit (entries bs gs) order version newest listings no_plans bytes legal s = absurd s
  groups_fit (entries bs gs) order version newest listings (plan head inner others) bytes legal s =
      let body = s.1.1.is_behind.is_behind in
      and_from (fit_entries bs head inner) (fit_groups gs others) (entries_fit bs order version newest listings head inner s.1.0 body.front (legal.0.block.each_item) legal.1.0 body.is_front) (groups_fit gs order version newest listings others body.behind legal.1.1 body.is_behind)

  entries_fit : (bs : BlockList) (order : Order) (version newest : ℕ) (listings : List Listing) (head : PlanHead) (inner : PlanTree) (size : ℕ) (bytes : List ℕ) → AllByRecursion (IsLegalItem newest listings head.block_length head.marks) head.items → AreLegalGroups newest listings inner → SpellsEntries order version bs head inner size bytes → fit_entries bs head inner ≡ true
  entries_fit no_blocks order version newest listings head inner size bytes items legal s = refl
  entries_fit (block is gs vars bs) order version newest listings head inner size bytes items legal s =
      let groups = s.is_behind in
      let datums = groups.is_behind in
      and_from (fit_items is head.items) (fit_groups gs inner && (fit_data vars head.vars && fit_entries bs head inner)) (block_fits order version size newest listings head.block_length head.marks head.items is s.front items s.is_front) (and_from (fit_groups gs inner) (fit_data vars head.vars && fit_entries bs head inner) (groups_fit gs order version newest listings inner groups.front legal groups.is_front) (and_from (fit_data vars head.vars) (fit_entries bs head inner) (data_fit order version vars head.vars datums.front datums.is_front) (entries_fit bs order version newest listings head inner size datums.behind items legal datums.is_behind)))

-- ---- messages

-- the message of a template is legal where all are
found_legal : (newest : ℕ) (listings : List Listing) (template : ℕ) (ms : List MessagePlan) (layout : MessagePlan) → AllByRecursion (IsLegalMessage newest listings) ms → Some layout ≡ message_of template ms → IsLegalMessage newest listings layout
found_legal newest listings template [] layout legal found = absurd (true≢false (ap is_some found))
found_legal newest listings template (m ∷ ms) layout legal found =
    elim (m.template == template) as (λ b. Some layout ≡ (if b then Some m else message_of template ms) → IsLegalMessage newest listings layout) [
      | true ↦ λ is. let P : Option MessagePlan → Type 0 = Holds newest listings in subst P (sym is) legal.0
      | false ↦ λ is. found_legal newest listings template ms layout legal.1 is
    ] found
  where
    Holds : ℕ → List Listing → Option MessagePlan → Type 0
    Holds newest listings None = Unit {0}
    Holds newest listings (Some x) = IsLegalMessage newest listings x

pub fits : (schema : Plan) (bytes : List ℕ) (m : Message) → LegalPlan schema → Spells schema bytes m → Fits schema m
fits schema bytes m legal s =
    let layout = s.0 in
    let by = s.1 in
    let root = layout.root in
    let body = by.joined.is_behind.is_behind.is_behind.is_behind in
    let groups = body.is_behind in
    let datums = groups.is_behind in
    let own = found_legal schema.version schema.listings m.template schema.messages layout legal.messages by.found in
    record {
      layout = layout;
      found = by.found;
      fits = and_from (fit_items m.root.items root.items) (fit_groups m.root.groups root.groups && fit_data m.root.vars root.vars) (block_fits schema.order by.version by.size schema.version schema.listings root.block_length root.marks root.items m.root.items body.front own.block.each_item body.is_front) (and_from (fit_groups m.root.groups root.groups) (fit_data m.root.vars root.vars) (groups_fit m.root.groups schema.order by.version schema.version schema.listings root.groups groups.front own.groups groups.is_front) (data_fit schema.order by.version m.root.vars root.vars datums.front datums.is_front));
    }
