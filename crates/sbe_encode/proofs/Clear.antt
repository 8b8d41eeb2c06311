-- A message has no fault exactly where all of its elements may be written.
use Rattle.std.proofs.Common.{◌≡◌, ℕ, suc, ◌+◌, ◌≤◌, pos, Bool, true, false, not, ◌&&◌, ◌==◌, if◌then◌else◌, Option, Some, None, List, [], ◌∷◌, length, refl, sym, ap, ◌∙◌, arith}
use Rattle.std.specs.Prelude.{nat_lt}
use Rattle.std.proofs.lemmas.Bool.{false≢true, ltb-false}
use Rattle.std.proofs.lemmas.Bool.Decides.{nat_tests}
use Rattle.sbe_prim.specs.declared.Primitive.TheVariants.{UInt16}
use Rattle.sbe_value.specs.declared.item.Item.{Item}
use Rattle.sbe_value.specs.declared.datum.Datum.{Datum}
use Rattle.sbe_value.specs.declared.datum.Datum.TheVariants as datum
use Rattle.sbe_value.specs.declared.message.Message.{Message}
use Rattle.sbe_value.specs.Trees.{GroupList, BlockList, no_groups, absent, entries, no_blocks, block, count_of_blocks, count_of_groups}
use Rattle.sbe_layout.specs.declared.items.ItemPlan.{ItemPlan}
use Rattle.sbe_layout.specs.declared.items.DataPlan.{DataPlan}
use Rattle.sbe_layout.specs.declared.listings.Listing.{Listing}
use Rattle.sbe_layout.specs.declared.plan.MessagePlan.{MessagePlan}
use Rattle.sbe_layout.specs.declared.plan.Plan.{Plan}
use Rattle.sbe_layout.specs.Trees.{PlanHead, PlanTree, no_plans, plan}
use Rattle.sbe_layout.specs.Plans.{message_of}
use Rattle.sbe_grammar.specs.Canonical.{canonical, can_write, holds_dimension, is_admitted, admits_items, admits_data, admits_groups, admits_entries, admits}
use Rattle.sbe_encode.specs.declared.fault.EncodeFault.{EncodeFault}
use Rattle.sbe_encode.specs.declared.fault.EncodeFault.TheVariants.{Shape, TooLong}
use Rattle.sbe_encode.specs.Faults.{or_else, is_shaped, item_fault, items_fault, datum_fault, data_fault, under, count_of_plans, has_counts, first_fault, entered_fault, groups_fault, entries_fault, header_fault, layout_fault, length_fault, fault_by, encode_fault}
use Rattle.sbe_encode.specs.Laws.{IsWritable, FaultlessWhereWritable}

-- there is no fault
abbrev clear : Option EncodeFault → Bool
clear None = true
clear (Some f) = false

clear_none : (a : Option EncodeFault) → clear a ≡ true → a ≡ None
clear_none None h = refl
clear_none (Some f) h = absurd (false≢true h)

-- ---- truth values

and_true : (a : Bool) → (a && true) ≡ a
and_true true = refl
and_true false = refl

and_false : (a : Bool) → (a && false) ≡ false
and_false true = refl
and_false false = refl

and_assoc : (a b c : Bool) → ((a && b) && c) ≡ (a && (b && c))
and_assoc true b c = refl
and_assoc false b c = refl

and_split : (a b : Bool) → (a && b) ≡ true → (a ≡ true) × (b ≡ true)
and_split true b h = (refl, h)
and_split false b h = absurd (false≢true h)

and_join : (a b : Bool) → a ≡ true → b ≡ true → (a && b) ≡ true
and_join a b g h = (λ i. g i && h i)

-- the numbers of three lists, and what stands in them
regroup : (x y z a b c : Bool) → ((x && (y && z)) && (a && (b && c))) ≡ ((a && x) && ((b && y) && (c && z)))
regroup x y z true true true = and_true (x && (y && z))
regroup x y z true true false = and_false (x && (y && z)) ∙ sym (ap (λ t. x && t) (and_false y) ∙ and_false x)
regroup x y z true false c = and_false (x && (y && z)) ∙ sym (and_false x)
regroup x y z false b c = and_false (x && (y && z))

clear_or : (a b : Option EncodeFault) → clear (or_else a b) ≡ (clear a && clear b)
clear_or None b = refl
clear_or (Some f) b = refl

clear_unless : (t : Bool) (f : EncodeFault) (b : Option EncodeFault) → clear (if not t then Some f else b) ≡ (t && clear b)
clear_unless true f b = refl
clear_unless false f b = refl

clear_under : (name : List ℕ) (at : ℕ) (a : Option EncodeFault) → clear (under name at a) ≡ clear a
clear_under name at None = refl
clear_under name at (Some f) = refl

one_more : (a b : ℕ) → (1 + a == 1 + b) ≡ (a == b)
one_more a b = grind (arith, nat_tests)

none_more : (n : ℕ) → (1 + n == 0) ≡ false
none_more n = grind (arith, nat_tests)

more_none : (n : ℕ) → (0 == 1 + n) ≡ false
more_none n = grind (arith, nat_tests)

suc_none : (n : ℕ) → (suc n == 0) ≡ false
suc_none n = grind (arith, nat_tests)

none_suc : (n : ℕ) → (0 == suc n) ≡ false
none_suc n = grind (arith, nat_tests)

one_suc : (a b : ℕ) → (suc a == suc b) ≡ (a == b)
one_suc a b = grind (arith, nat_tests)

-- ---- elements

item_clear : (ls : List Listing) (p : ItemPlan) (i : Item) → clear (item_fault ls p i) ≡ (is_shaped p i && is_admitted ls p.kind i)
item_clear ls p i = clear_unless (is_shaped p i) _ _ ∙ ap (λ t. is_shaped p i && t) (clear_unless (is_admitted ls p.kind i) _ None ∙ and_true (is_admitted ls p.kind i))

-- one more element of each list, given what is said of one and of the others
step : (f : Option EncodeFault) (fs : Option EncodeFault) (a as_ : Bool) (more same : Bool) → clear f ≡ a → more ≡ same → (clear fs && same) ≡ as_ → (clear (or_else f fs) && more) ≡ (a && as_)
step f fs a as_ more same one e others =
    (λ i. clear_or f fs i && e i) ∙ and_assoc (clear f) (clear fs) same ∙ (λ i. one i && others i)

items_clear : (ls : List Listing) (ps : List ItemPlan) (is : List Item) → (clear (items_fault ls ps is) && (length is == length ps)) ≡ admits_items ls ps is
items_clear ls [] [] = refl
items_clear ls [] (i ∷ is) = suc_none (length is)
items_clear ls (p ∷ ps) [] = none_suc (length ps)
items_clear ls (p ∷ ps) (i ∷ is) =
    step (item_fault ls p i) (items_fault ls ps is) _ _ _ _ (item_clear ls p i) (one_suc (length is) (length ps)) (items_clear ls ps is)

data_clear : (ds : List DataPlan) (vs : List Datum) → (clear (data_fault ds vs) && (length vs == length ds)) ≡ admits_data ds vs
data_clear [] [] = refl
data_clear [] (v ∷ vs) = suc_none (length vs)
data_clear (d ∷ ds) [] = none_suc (length ds)
data_clear (d ∷ ds) (datum.Absent ∷ vs) = refl
data_clear (d ∷ ds) (datum.Present text ∷ vs) =
    step (datum_fault d (datum.Present text)) (data_fault ds vs) _ _ _ _ (clear_unless (can_write d.length (pos (length text))) _ None ∙ and_true _) (one_suc (length vs) (length ds)) (data_clear ds vs)

-- a block, given its items, groups and data
block_clear : (ps : List ItemPlan) (inner : PlanTree) (ds : List DataPlan) (is : List Item) (gs : GroupList) (vs : List Datum) (f g h : Option EncodeFault) (a b c : Bool) → (clear f && (length is == length ps)) ≡ a → (clear g && (count_of_groups gs == count_of_plans inner)) ≡ b → (clear h && (length vs == length ds)) ≡ c → clear (first_fault (has_counts ps inner ds is gs vs) f g h) ≡ (a && (b && c))
block_clear ps inner ds is gs vs f g h a b c x y z =
    clear_unless (has_counts ps inner ds is gs vs) _ _
    ∙ ap (λ t. has_counts ps inner ds is gs vs && t) (clear_or f (or_else g h) ∙ ap (λ t. clear f && t) (clear_or g h))
    ∙ regroup (length is == length ps) (count_of_groups gs == count_of_plans inner) (length vs == length ds) (clear f) (clear g) (clear h)
    ∙ (λ i. x i && (y i && z i))

mutual
  groups_clear : (ls : List Listing) (t : PlanTree) (gs : GroupList) → (clear (groups_fault ls t gs) && (count_of_groups gs == count_of_plans t)) ≡ admits_groups ls t gs
  groups_clear ls no_plans no_groups = refl
  groups_clear ls no_plans (absent gs) = none_more (count_of_groups gs)
  groups_clear ls no_plans (entries bs gs) = none_more (count_of_groups gs)
  groups_clear ls (plan head inner rest) no_groups = more_none (count_of_plans rest)
  groups_clear ls (plan head inner rest) (absent gs) = refl
  groups_clear ls (plan head inner rest) (entries bs gs) =
      step (entered_fault head (count_of_blocks bs) (entries_fault ls head inner 0 bs)) (groups_fault ls rest gs) _ _ _ _ (clear_unless (holds_dimension head (count_of_blocks bs)) _ _ ∙ ap (λ t. holds_dimension head (count_of_blocks bs) && t) (entries_clear ls head inner 0 bs)) (one_more (count_of_groups gs) (count_of_plans rest)) (groups_clear ls rest gs)
      ∙ and_assoc (holds_dimension head (count_of_blocks bs)) (admits_entries ls head inner bs) (admits_groups ls rest gs)

  entries_clear : (ls : List Listing) (head : PlanHead) (inner : PlanTree) (at : ℕ) (bs : BlockList) → clear (entries_fault ls head inner at bs) ≡ admits_entries ls head inner bs
  entries_clear ls head inner at no_blocks = refl
  entries_clear ls head inner at (block is gs vs bs) =
      clear_or _ (entries_fault ls head inner (at + 1) bs)
      ∙ (λ i. (clear_under head.name at _ ∙ block_clear head.items inner head.vars is gs vs (items_fault ls head.items is) (groups_fault ls inner gs) (data_fault head.vars vs) _ _ _ (items_clear ls head.items is) (groups_clear ls inner gs) (data_clear head.vars vs)) i && entries_clear ls head inner (at + 1) bs i)
      ∙ and_assoc (admits_items ls head.items is) (admits_groups ls inner gs && admits_data head.vars vs) (admits_entries ls head inner bs)
      ∙ ap (λ t. admits_items ls head.items is && t) (and_assoc (admits_groups ls inner gs) (admits_data head.vars vs) (admits_entries ls head inner bs))

-- ---- a message

layout_clear : (ls : List Listing) (layout : MessagePlan) (m : Message) → clear (layout_fault ls layout m) ≡ (can_write UInt16 (pos layout.root.block_length) && admits ls layout m)
layout_clear ls layout m =
    clear_or (header_fault layout) _
    ∙ (λ i. (clear_unless (can_write UInt16 (pos layout.root.block_length)) (Shape []) None ∙ and_true _) i && block_clear layout.root.items layout.root.groups layout.root.vars m.root.items m.root.groups m.root.vars _ _ _ _ _ _ (items_clear ls layout.root.items m.root.items) (groups_clear ls layout.root.groups m.root.groups) (data_clear layout.root.vars m.root.vars) i)

clear_if : (t : Bool) (f : EncodeFault) → clear (if t then Some f else None) ≡ not t
clear_if true f = refl
clear_if false f = refl

not_true : (b : Bool) → not b ≡ true → b ≡ false
not_true true h = absurd (false≢true h)
not_true false h = refl

within : (n : ℕ) → n ≤ 16384 → nat_lt 16384 n ≡ false
within n h = grind (arith, nat_tests)

from_none : (schema : Plan) (m : Message) (found : Option MessagePlan) → found ≡ message_of m.template schema.messages → fault_by schema found m ≡ None → IsWritable schema m
from_none schema m None e h = absurd (false≢true (ap clear h))
from_none schema m (Some layout) e h =
    let n : ℕ = length (canonical schema m) in
    let both = and_split _ _ (sym (clear_or (layout_fault schema.listings layout m) (length_fault n)) ∙ ap clear h) in
    let parts = and_split _ _ (sym (layout_clear schema.listings layout m) ∙ both.0) in
    let short = not_true (nat_lt 16384 n) (sym (clear_if (nat_lt 16384 n) (TooLong n)) ∙ both.1) in
    record {
      admitted = record { layout = layout; found = e; headed = parts.0; admitted = parts.1 };
      short = ltb-false 16384 n short;
    }

to_none : (schema : Plan) (m : Message) → IsWritable schema m → encode_fault schema m ≡ None
to_none schema m w =
    let layout : MessagePlan = w.admitted.layout in
    let n : ℕ = length (canonical schema m) in
    let parts : clear (layout_fault schema.listings layout m) ≡ true =
    layout_clear schema.listings layout m ∙ and_join _ _ w.admitted.headed w.admitted.admitted in
    let short : clear (length_fault n) ≡ true = clear_if (nat_lt 16384 n) (TooLong n) ∙ ap not (within n w.short) in
    ap (λ found. fault_by schema found m) (sym w.admitted.found)
    ∙ clear_none _ (clear_or (layout_fault schema.listings layout m) (length_fault n) ∙ and_join _ _ parts short)

pub faultless_where_writable : (schema : Plan) (m : Message) → FaultlessWhereWritable schema m
faultless_where_writable schema m = (from_none schema m (message_of m.template schema.messages) refl, to_none schema m)
