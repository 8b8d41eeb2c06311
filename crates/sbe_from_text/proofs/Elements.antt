-- The bytes of the groups and the entries that are read so far, and those of what is left; and of a whole block.
use Rattle.std.proofs.Common.{◌≡◌, ℕ, zero, suc, ◌+◌, ◌-◌, ◌<◌, ◌≤◌, ◌==◌, Bool, true, false, not, ◌&&◌, if◌then◌else◌, Option, Some, None, Ok, Err, List, [], ◌∷◌, ◌++◌, length, drop, get_or, refl, ap, sym, ◌∙◌, arith, append_assoc, append-nil, eq-eqb}
use Rattle.sbe_prim.specs.declared.Order.{Order}
use Rattle.sbe_value.specs.declared.item.Item.{Item}
use Rattle.sbe_value.specs.declared.datum.Datum.{Datum}
use Rattle.sbe_value.specs.declared.tree.Group.{Group}
use Rattle.sbe_value.specs.declared.tree.Group.TheVariants.{Absent, Entries}
use Rattle.sbe_value.specs.Trees.{GroupList, BlockList, no_groups, absent, entries, no_blocks, block, count_of_blocks, count_of_groups}
use Rattle.sbe_layout.specs.declared.blocks.BlockPlan.{BlockPlan}
use Rattle.sbe_layout.specs.declared.blocks.GroupPlan.{GroupPlan}
use Rattle.sbe_layout.specs.declared.listings.Listing.{Listing}
use Rattle.sbe_layout.specs.Trees.{PlanHead, PlanTree, no_plans, plan}
use Rattle.sbe_layout.specs.Views.{head_of, plans_of}
use Rattle.sbe_grammar.specs.Reading.{Entry, group_before}
use Rattle.sbe_grammar.specs.Canonical.{holds_dimension, count_bytes, block_bytes, groups_bytes, entries_bytes, data_bytes}
use Rattle.sbe_encode.specs.declared.fault.EncodeFault.{EncodeFault}
use Rattle.sbe_encode.specs.Faults.{or_else, shape_of, under, has_counts, count_of_plans, first_fault, entered_fault, items_fault, groups_fault, entries_fault, data_fault}
use Rattle.sbe_encode.specs.Blocks.{dimension_bytes, group_bytes, group_fault}
use Rattle.text_words.specs.Lines.{lines_in}
use Rattle.sbe_text.specs.declared.token.Count.TheVariants as count
use Rattle.sbe_text.specs.Read.{Read, next, read_each}
use Rattle.sbe_text.specs.Tokens.{count_of}
use Rattle.sbe_text.specs.Written.{before_in}
use Rattle.sbe_text.specs.Reading.{read_item, read_datum, read_element, read_elements, repeated, entry_at, read_counted, read_group, read_groups}
use Rattle.sbe_from_text.specs.Written.{written, entry_fault, entry_bytes}
use Rattle.sbe_from_text.proofs.Parts.{made, written_ok, one_more, at_place, none_left}

-- ---- groups

-- a group by its plan
abbrev pub one_group : List ℕ → GroupPlan → List (List ℕ) → Read Group
one_group before p left = read_group before (head_of p) (λ path. read_groups path p.block.groups) left

-- the bytes of the groups that are left
abbrev pub groups_left : List Listing → Order → List ℕ → List ℕ → List GroupPlan → List (List ℕ) → Read (Option EncodeFault × List ℕ)
groups_left listings order before out ps left =
    written out (groups_fault listings (plans_of ps)) (groups_bytes order (plans_of ps)) (read_groups before (plans_of ps) left)

fault_of_first : (listings : List Listing) (head : PlanHead) (inner rest : PlanTree) (x : Group) (gs : GroupList) → group_fault listings head inner x ≡ None → groups_fault listings (plan head inner rest) (group_before x gs) ≡ groups_fault listings rest gs
fault_of_first listings head inner rest Absent gs clear = absurd (cc)
fault_of_first listings head inner rest (Entries bs) gs clear = ap (λ t. or_else t (groups_fault listings rest gs)) clear

bytes_of_first : (order : Order) (head : PlanHead) (inner rest : PlanTree) (x : Group) (gs : GroupList) → groups_bytes order (plan head inner rest) (group_before x gs) ≡ group_bytes order head inner x ++ groups_bytes order rest gs
bytes_of_first order head inner rest Absent gs = refl
bytes_of_first order head inner rest (Entries bs) gs =
    let size = count_bytes order head.block_prim head.block_length in
    let number = count_bytes order head.count_prim (count_of_blocks bs) in
    let inside = entries_bytes order head inner bs in
    let behind = groups_bytes order rest gs in
    sym (append_assoc size number (inside ++ behind)) ∙ sym (append_assoc (size ++ number) inside behind)

group_first : (listings : List Listing) (order : Order) (old new : List ℕ) (head : PlanHead) (inner rest : PlanTree) (x : Group) → group_fault listings head inner x ≡ None → old ++ group_bytes order head inner x ≡ new → (gs : GroupList) → (groups_fault listings (plan head inner rest) (group_before x gs) ≡ groups_fault listings rest gs) × (old ++ groups_bytes order (plan head inner rest) (group_before x gs) ≡ new ++ groups_bytes order rest gs)
group_first listings order old new head inner rest x clear is gs = (
  fault_of_first listings head inner rest x gs clear,
  ap (λ z. old ++ z) (bytes_of_first order head inner rest x gs) ∙ sym (append_assoc old (group_bytes order head inner x) (groups_bytes order rest gs)) ∙ ap (λ z. z ++ groups_bytes order rest gs) is,
)

pub groups_step : (listings : List Listing) (order : Order) (before old new : List ℕ) (ps : List GroupPlan) (i : ℕ) (p : GroupPlan) (left after : List (List ℕ)) (whole : Read (Option EncodeFault × List ℕ)) → i < length ps → p ≡ get_or ps i p → written old (group_fault listings (head_of p) p.block.groups) (group_bytes order (head_of p) p.block.groups) (one_group before p left) ≡ Ok ((None, new), after) → groups_left listings order before old (drop i ps) left ≡ whole → groups_left listings order before new (drop (i + 1) ps) after ≡ whole
groups_step listings order before old new ps i p left after whole h is e inv =
    let others = plans_of (drop (i + 1) ps) in
    one_more old old new (group_fault listings (head_of p) p.block.groups) (group_bytes order (head_of p) p.block.groups) (groups_fault listings others) (groups_fault listings (plan (head_of p) p.block.groups others)) (groups_bytes order others) (groups_bytes order (plan (head_of p) p.block.groups others)) group_before (group_first listings order old new (head_of p) p.block.groups others) (one_group before p left) after (read_groups before others) e
    ∙ ap (λ z. groups_left listings order before old z left) (sym (at_place ps i p h is))
    ∙ inv

pub groups_end : (listings : List Listing) (order : Order) (before out : List ℕ) (ps : List GroupPlan) (i : ℕ) (left : List (List ℕ)) (whole : Read (Option EncodeFault × List ℕ)) → length ps ≤ i → groups_left listings order before out (drop i ps) left ≡ whole → whole ≡ Ok ((None, out), left)
groups_end listings order before out ps i left whole h inv =
    sym inv ∙ ap (λ z. groups_left listings order before out z left) (none_left ps i h) ∙ ap (λ z. Ok ((None, z), left)) (append-nil out)

-- ---- entries

-- the bytes of the entries that are left, the first of them at the place `at`
abbrev pub entries_left : List Listing → Order → List ℕ → GroupPlan → ℕ → List ℕ → ℕ → List (List ℕ) → Read (Option EncodeFault × List ℕ)
entries_left listings order before p at out n left =
    written out (entries_fault listings (head_of p) p.block.groups at) (entries_bytes order (head_of p) p.block.groups)
    (repeated n at (entry_at before (head_of p) (λ path. read_groups path p.block.groups)) left)

count_less : (count i : ℕ) → i < count → count - i ≡ suc (count - (i + 1))
count_less count i h = omega arith

entry_first : (listings : List Listing) (order : Order) (old new : List ℕ) (p : GroupPlan) (at : ℕ) (x : Entry) → entry_fault listings p.block x ≡ None → old ++ entry_bytes order p.block x ≡ new → (bs : BlockList) → (entries_fault listings (head_of p) p.block.groups at (block x.items x.groups x.vars bs) ≡ entries_fault listings (head_of p) p.block.groups (at + 1) bs) × (old ++ entries_bytes order (head_of p) p.block.groups (block x.items x.groups x.vars bs) ≡ new ++ entries_bytes order (head_of p) p.block.groups bs)
entry_first listings order old new p at x clear is bs =
    let items = block_bytes order p.block.block_length 0 p.block.items x.items in
    let groups = groups_bytes order p.block.groups x.groups in
    let vars = data_bytes order p.block.vars x.vars in
    let behind = entries_bytes order (head_of p) p.block.groups bs in (
      ap (λ t. or_else (under p.name at t) (entries_fault listings (head_of p) p.block.groups (at + 1) bs)) clear,
      ap (λ z. old ++ (items ++ z)) (sym (append_assoc groups vars behind)) ∙ ap (λ z. old ++ z) (sym (append_assoc items (groups ++ vars) behind))
          ∙ sym (append_assoc old (items ++ (groups ++ vars)) behind) ∙ ap (λ z. z ++ behind) is,
    )

pub entries_step : (listings : List Listing) (order : Order) (before old new : List ℕ) (p : GroupPlan) (count at : ℕ) (left after : List (List ℕ)) (whole : Read (Option EncodeFault × List ℕ)) → at < count → written old (entry_fault listings p.block) (entry_bytes order p.block) (read_elements (before_in before (head_of p) at) p.block.items (read_groups (before_in before (head_of p) at) p.block.groups) p.block.vars left) ≡ Ok ((None, new), after) → entries_left listings order before p at old (count - at) left ≡ whole → entries_left listings order before p (at + 1) new (count - (at + 1)) after ≡ whole
entries_step listings order before old new p count at left after whole h e inv =
    let read = entry_at before (head_of p) (λ path. read_groups path p.block.groups) in
    one_more old old new (entry_fault listings p.block) (entry_bytes order p.block) (entries_fault listings (head_of p) p.block.groups (at + 1)) (entries_fault listings (head_of p) p.block.groups at) (entries_bytes order (head_of p) p.block.groups) (entries_bytes order (head_of p) p.block.groups) (λ x xs. block x.items x.groups x.vars xs) (entry_first listings order old new p at) (read at left) after (repeated (count - (at + 1)) (at + 1) read) e
    ∙ ap (λ n. entries_left listings order before p at old n left) (sym (count_less count at h))
    ∙ inv

pub entries_end : (listings : List Listing) (order : Order) (before out : List ℕ) (p : GroupPlan) (count at : ℕ) (left : List (List ℕ)) (whole : Read (Option EncodeFault × List ℕ)) → count ≤ at → entries_left listings order before p at out (count - at) left ≡ whole → whole ≡ Ok ((None, out), left)
entries_end listings order before out p count at left whole h inv =
    let none : count - at ≡ 0 = omega arith in
    sym inv ∙ ap (λ n. entries_left listings order before p at out n left) none ∙ ap (λ z. Ok ((None, z), left)) (append-nil out)

-- ---- a group by its line

-- as many entries are read as are to be read
abbrev CountsTo : (ℕ → List (List ℕ) → Read Entry) → ℕ → Type 0
CountsTo read n = (at : ℕ) (left : List (List ℕ)) (bs : BlockList) (rest : List (List ℕ)) → repeated n at read left ≡ Ok (bs, rest) → count_of_blocks bs ≡ n

others_count : (n : ℕ) (bs : BlockList) (rest : List (List ℕ)) (v : Entry) (r : Read BlockList) → ((cs : BlockList) (behind : List (List ℕ)) → r ≡ Ok (cs, behind) → count_of_blocks cs ≡ n) → next r (λ es end. Ok (block v.items v.groups v.vars es, end)) ≡ Ok (bs, rest) → count_of_blocks bs ≡ suc n
others_count n bs rest v (Ok x) counted e =
    let others : count_of_blocks x.0 ≡ n = counted x.0 x.1 refl in
    let same : block v.items v.groups v.vars x.0 ≡ bs = ap (made no_blocks) e in
    ap count_of_blocks (sym same) ∙ omega (arith, others)
others_count n bs rest v (Err f) counted e = absurd (cc)

first_counts : (read : ℕ → List (List ℕ) → Read Entry) (n at : ℕ) (bs : BlockList) (rest : List (List ℕ)) (r : Read Entry) → CountsTo read n → next r (λ v after. next (repeated n (at + 1) read after) (λ es end. Ok (block v.items v.groups v.vars es, end))) ≡ Ok (bs, rest) → count_of_blocks bs ≡ suc n
first_counts read n at bs rest (Ok x) counted e = others_count n bs rest x.0 (repeated n (at + 1) read x.1) (counted (at + 1) x.1) e
first_counts read n at bs rest (Err f) counted e = absurd (cc)

count_read : (read : ℕ → List (List ℕ) → Read Entry) (n : ℕ) → CountsTo read n
count_read read zero = λ at left bs rest e. ap count_of_blocks (sym (ap (made no_blocks) e))
count_read read (suc n) = λ at left bs rest e. first_counts read n at bs rest (read at left) (count_read read n) e

-- its dimension is written, and its entries
pub group_written : (listings : List Listing) (order : Order) (before old between new : List ℕ) (g : PlanHead) (inner : PlanTree) (n : ℕ) (left after end : List (List ℕ)) → read_element before g.name count_of left ≡ Ok (count.Entries n, after) → holds_dimension g n ≡ true → between ≡ old ++ dimension_bytes order g n → written between (entries_fault listings g inner 0) (entries_bytes order g inner) (repeated n 0 (entry_at before g (λ path. read_groups path inner)) after) ≡ Ok ((None, new), end) → written old (group_fault listings g inner) (group_bytes order g inner) (read_group before g (λ path. read_groups path inner) left) ≡ Ok ((None, new), end)
group_written listings order before old between new g inner n left after end told held begun e =
    let read = entry_at before g (λ path. read_groups path inner) in
    written_ok between new (entries_fault listings g inner 0) (entries_bytes order g inner) (repeated n 0 read after) end _ e (λ bs is clear whole.
    let many : count_of_blocks bs ≡ n = count_read read n 0 after bs end is in
    let inside = entries_bytes order g inner bs in
    let fault : group_fault listings g inner (Entries bs) ≡ None =
    ap (λ k. entered_fault g k (entries_fault listings g inner 0 bs)) many ∙ ap (λ t. entered_fault g n t) clear ∙ ap (λ t. if not t then shape_of g.name else None) held in
    let bytes : old ++ group_bytes order g inner (Entries bs) ≡ new =
    ap (λ k. old ++ (dimension_bytes order g k ++ inside)) many ∙ sym (append_assoc old (dimension_bytes order g n) inside) ∙ ap (λ z. z ++ inside) (sym begun) ∙ whole in
    ap (λ r. written old (group_fault listings g inner) (group_bytes order g inner) (next r (λ told rest. read_counted before g (λ path. read_groups path inner) told rest))) told
    ∙ ap (λ r. written old (group_fault listings g inner) (group_bytes order g inner) (next r (λ bs rest. Ok (Entries bs, rest)))) is
    ∙ ap (λ t. Ok ((t, old ++ group_bytes order g inner (Entries bs)), end)) fault
    ∙ ap (λ z. Ok ((None, z), end)) bytes)

-- ---- a block

each_counts_on : {P A : Type 0} (one : P → List (List ℕ) → Read A) (ps : List P) (x : A) (xs : List A) (rest : List (List ℕ)) (r : Read (List A)) → ((ys : List A) (end : List (List ℕ)) → r ≡ Ok (ys, end) → length ys ≡ length ps) → next r (λ ys end. Ok (x ∷ ys, end)) ≡ Ok (xs, rest) → length xs ≡ suc (length ps)
each_counts_on one ps x xs rest (Ok y) counted e =
    let others : length y.0 ≡ length ps = counted y.0 y.1 refl in
    let same : x ∷ y.0 ≡ xs = ap (made []) e in
    ap length (sym same) ∙ ap suc others
each_counts_on one ps x xs rest (Err n) counted e = absurd (cc)

each_counts_first : {P A : Type 0} (one : P → List (List ℕ) → Read A) (ps : List P) (xs : List A) (rest : List (List ℕ)) (r : Read A) → ((left : List (List ℕ)) (ys : List A) (end : List (List ℕ)) → read_each one ps left ≡ Ok (ys, end) → length ys ≡ length ps) → next r (λ x after. next (read_each one ps after) (λ ys end. Ok (x ∷ ys, end))) ≡ Ok (xs, rest) → length xs ≡ suc (length ps)
each_counts_first one ps xs rest (Ok y) counted e = each_counts_on one ps y.0 xs rest (read_each one ps y.1) (counted y.1) e
each_counts_first one ps xs rest (Err n) counted e = absurd (cc)

-- as many are read as there are plans
each_counts : {P A : Type 0} (one : P → List (List ℕ) → Read A) (ps : List P) (left : List (List ℕ)) (xs : List A) (rest : List (List ℕ)) → read_each one ps left ≡ Ok (xs, rest) → length xs ≡ length ps
each_counts one [] left xs rest e = ap length (sym (ap (made []) e))
each_counts one (p ∷ ps) left xs rest e =
    each_counts_first one ps xs rest (one p left) (λ left ys end. each_counts one ps left ys end) e

more_groups : (x : Group) (gs : GroupList) → count_of_groups (group_before x gs) ≡ 1 + count_of_groups gs
more_groups Absent gs = refl
more_groups (Entries bs) gs = refl

groups_count_on : (ps : PlanTree) (x : Group) (gs : GroupList) (rest : List (List ℕ)) (r : Read GroupList) → ((hs : GroupList) (end : List (List ℕ)) → r ≡ Ok (hs, end) → count_of_groups hs ≡ count_of_plans ps) → next r (λ hs end. Ok (group_before x hs, end)) ≡ Ok (gs, rest) → count_of_groups gs ≡ 1 + count_of_plans ps
groups_count_on ps x gs rest (Ok y) counted e =
    let others : count_of_groups y.0 ≡ count_of_plans ps = counted y.0 y.1 refl in
    let same : group_before x y.0 ≡ gs = ap (made no_groups) e in
    ap count_of_groups (sym same) ∙ more_groups x y.0 ∙ ap (λ n. 1 + n) others
groups_count_on ps x gs rest (Err n) counted e = absurd (cc)

groups_count_first : (ps : PlanTree) (before : List ℕ) (gs : GroupList) (rest : List (List ℕ)) (r : Read Group) → ((left : List (List ℕ)) (hs : GroupList) (end : List (List ℕ)) → read_groups before ps left ≡ Ok (hs, end) → count_of_groups hs ≡ count_of_plans ps) → next r (λ x behind. next (read_groups before ps behind) (λ hs end. Ok (group_before x hs, end))) ≡ Ok (gs, rest) → count_of_groups gs ≡ 1 + count_of_plans ps
groups_count_first ps before gs rest (Ok y) counted e = groups_count_on ps y.0 gs rest (read_groups before ps y.1) (counted y.1) e
groups_count_first ps before gs rest (Err n) counted e = absurd (cc)

groups_count : (ps : PlanTree) (before : List ℕ) (left : List (List ℕ)) (gs : GroupList) (rest : List (List ℕ)) → read_groups before ps left ≡ Ok (gs, rest) → count_of_groups gs ≡ count_of_plans ps
groups_count no_plans before left gs rest e = ap count_of_groups (sym (ap (made no_groups) e))
groups_count (plan g inner more) before left gs rest e =
    groups_count_first more before gs rest (read_group before g (λ path. read_groups path inner) left) (λ left hs end. groups_count more before left hs end) e

has_all : (p : BlockPlan) (items : List Item) (groups : GroupList) (vars : List Datum) → length items ≡ length p.items → count_of_groups groups ≡ count_of_plans p.groups → length vars ≡ length p.vars → has_counts p.items p.groups p.vars items groups vars ≡ true
has_all p items groups vars i g v =
    ap (λ t. t && (count_of_groups groups == count_of_plans p.groups && length vars == length p.vars)) (eq-eqb (length items) (length p.items) i)
    ∙ ap (λ t. t && length vars == length p.vars) (eq-eqb (count_of_groups groups) (count_of_plans p.groups) g)
    ∙ eq-eqb (length vars) (length p.vars) v

-- the items, the groups and the data are written: the block is
pub block_written : (listings : List Listing) (order : Order) (before old first second new : List ℕ) (p : BlockPlan) (left after behind rest : List (List ℕ)) → written old (items_fault listings p.items) (block_bytes order p.block_length 0 p.items) (read_each (read_item before) p.items left) ≡ Ok ((None, first), after) → written first (groups_fault listings p.groups) (groups_bytes order p.groups) (read_groups before p.groups after) ≡ Ok ((None, second), behind) → written second (data_fault p.vars) (data_bytes order p.vars) (read_each (read_datum before) p.vars behind) ≡ Ok ((None, new), rest) → written old (entry_fault listings p) (entry_bytes order p) (read_elements before p.items (read_groups before p.groups) p.vars left) ≡ Ok ((None, new), rest)
block_written listings order before old first second new p left after behind rest a b c =
    let fault = entry_fault listings p in
    let bytes = entry_bytes order p in
    written_ok old first (items_fault listings p.items) (block_bytes order p.block_length 0 p.items) (read_each (read_item before) p.items left) after _ a (λ items is1 clear1 whole1.
    written_ok first second (groups_fault listings p.groups) (groups_bytes order p.groups) (read_groups before p.groups after) behind _ b (λ groups is2 clear2 whole2.
    written_ok second new (data_fault p.vars) (data_bytes order p.vars) (read_each (read_datum before) p.vars behind) rest _ c (λ vars is3 clear3 whole3.
    let e : Entry = record { items = items; groups = groups; vars = vars } in
    let counts : has_counts p.items p.groups p.vars items groups vars ≡ true =
    has_all p items groups vars (each_counts (read_item before) p.items left items after is1) (groups_count p.groups before after groups behind is2) (each_counts (read_datum before) p.vars behind vars rest is3) in
    let none : fault e ≡ None =
    ap (λ t. first_fault t (items_fault listings p.items items) (groups_fault listings p.groups groups) (data_fault p.vars vars)) counts
    ∙ ap (λ t. or_else t (or_else (groups_fault listings p.groups groups) (data_fault p.vars vars))) clear1
    ∙ ap (λ t. or_else t (data_fault p.vars vars)) clear2
    ∙ clear3 in
    let one = block_bytes order p.block_length 0 p.items items in
    let two = groups_bytes order p.groups groups in
    let three = data_bytes order p.vars vars in
    let all : old ++ bytes e ≡ new =
    sym (append_assoc old one (two ++ three)) ∙ ap (λ z. z ++ (two ++ three)) whole1 ∙ sym (append_assoc first two three) ∙ ap (λ z. z ++ three) whole2 ∙ whole3 in
    ap (λ r. written old fault bytes (next r (λ items after. next (read_groups before p.groups after) (λ groups behind. next (read_each (read_datum before) p.vars behind) (λ vars rest. Ok (record { items = items; groups = groups; vars = vars }, rest)))))) is1
    ∙ ap (λ r. written old fault bytes (next r (λ groups behind. next (read_each (read_datum before) p.vars behind) (λ vars rest. Ok (record { items = items; groups = groups; vars = vars }, rest))))) is2
    ∙ ap (λ r. written old fault bytes (next r (λ vars rest. Ok (record { items = items; groups = groups; vars = vars }, rest)))) is3
    ∙ ap (λ t. Ok ((t, old ++ bytes e), rest)) none
    ∙ ap (λ z. Ok ((None, z), rest)) all)))
