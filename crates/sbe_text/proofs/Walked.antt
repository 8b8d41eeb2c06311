-- The lines of what is read so far, and those of what is left.
use Rattle.std.proofs.Common.{◌≡◌, ℕ, zero, suc, ◌+◌, ◌-◌, ◌<◌, ◌≤◌, ◌==◌, Bool, true, false, if◌then◌else◌, Option, Some, None, Result, Ok, Err, List, [], ◌∷◌, ◌++◌, length, drop, get_or, refl, ap, sym, subst, ◌∙◌, arith, add-one, drop-cons, append_assoc, append-nil, take, codes, decimal}
use Rattle.std.proofs.Math.ListN.{drop_of_length-le}
use Rattle.std.proofs.Math.Seq.{take-append_seam}
use Rattle.std.proofs.lemmas.List.{take-append-drop}
use Rattle.sbe_prim.specs.declared.Order.{Order}
use Rattle.sbe_value.specs.declared.item.Item.{Item}
use Rattle.sbe_value.specs.declared.datum.Datum.{Datum}
use Rattle.sbe_value.specs.declared.datum.Datum.TheVariants as datum
use Rattle.sbe_value.specs.declared.datum.Datum.TheVariants.{Present}
use Rattle.sbe_value.specs.declared.tree.Group.{Group}
use Rattle.sbe_value.specs.declared.message.Message.{Message}
use Rattle.sbe_value.specs.declared.tree.Group.TheVariants.{Absent, Entries}
use Rattle.sbe_value.specs.Trees.{GroupList, BlockList, no_groups, absent, entries, no_blocks, block, count_of_blocks}
use Rattle.sbe_layout.specs.declared.items.DataPlan.{DataPlan}
use Rattle.sbe_layout.specs.declared.blocks.BlockPlan.{BlockPlan}
use Rattle.sbe_layout.specs.declared.blocks.GroupPlan.{GroupPlan}
use Rattle.sbe_layout.specs.declared.plan.MessagePlan.{MessagePlan}
use Rattle.sbe_layout.specs.declared.listings.Listing.{Listing}
use Rattle.sbe_layout.specs.declared.plan.Plan.{Plan}
use Rattle.sbe_layout.specs.Trees.{PlanHead, PlanTree, plan}
use Rattle.sbe_layout.specs.Views.{head_of, plans_of}
use Rattle.sbe_layout.specs.Plans.{message_of}
use Rattle.sbe_grammar.specs.declared.fault.DecodeFault.{DecodeFault}
use Rattle.sbe_grammar.specs.declared.fault.DecodeFault.TheVariants.{OtherSchema}
use Rattle.sbe_grammar.specs.Reading.{Read, Entry, Header, Dimension, next, alone, read_datum, read_if_in, read_data, read_dimension, read_entry, read_present, read_group, read_groups, group_before, repeated, message_in}
use Rattle.sbe_grammar.specs.Values.{is_in}
use Rattle.sbe_decode.specs.declared.error.DecodeError.{DecodeError}
use Rattle.sbe_decode.specs.declared.error.DecodeError.TheVariants.{Fault, Memory}
use Rattle.sbe_decode.specs.Answers.{Fails}
use Rattle.sbe_decode.specs.Walks.{along, laid, layout_by, layout_found, message_by, read_parts, read_header, read_message}
use Rattle.sbe_decode.proofs.Messages.{message_is}
use Rattle.sbe_text.specs.Written.{element_line, raw_text, datum_text, before_in, item_lines, lines_of_data, group_lines, entry_lines, message_lines, message_line, end_line}
use Rattle.sbe_text.specs.Wire.{printed, lines_of_group, lines_of_block, lines_told}

abbrev lines_made : Read (List ℕ) → List ℕ
lines_made (Ok x) = x.0
lines_made (Err f) = []

abbrev left_behind : Read (List ℕ) → List ℕ
left_behind (Ok x) = x.1
left_behind (Err f) = []

-- ---- one part more

front_printed : {A B : Type 0} (old : List ℕ) (one : B → List ℕ) (all whole : A → List ℕ) (cons : B → A → A) (v : B) → ((xs : A) → whole (cons v xs) ≡ one v ++ all xs) → (r : Read A) → printed (old ++ one v) all r ≡ printed old whole (next r (λ xs end. Ok (cons v xs, end)))
front_printed old one all whole cons v split (Ok x) =
    ap (λ lines. Ok (lines, x.1)) (append_assoc old (one v) (all x.0) ∙ ap (λ lines. old ++ lines) (sym (split x.0)))
front_printed old one all whole cons v split (Err f) = refl

-- the lines of a part are written: those of the parts that are left stand behind them
pub one_more : {A B : Type 0} (old new : List ℕ) (one : B → List ℕ) (all whole : A → List ℕ) (cons : B → A → A) → ((x : B) (xs : A) → whole (cons x xs) ≡ one x ++ all xs) → (r : Read B) (after : List ℕ) (rest : List ℕ → Read A) → printed old one r ≡ Ok (new, after) → printed new all (rest after) ≡ printed old whole (next r (λ x behind. next (rest behind) (λ xs end. Ok (cons x xs, end))))
one_more old new one all whole cons split (Ok x) after rest e =
    let lines : old ++ one x.0 ≡ new = ap lines_made e in
    let ends : x.1 ≡ after = ap left_behind e in
    ap (λ w. printed w all (rest after)) (sym lines) ∙ ap (λ z. printed (old ++ one x.0) all (rest z)) (sym ends) ∙ front_printed old one all whole cons x.0 (split x.0) (rest x.1)
one_more old new one all whole cons split (Err f) after rest e = absurd (cc)

-- the fault of a part is the fault of the whole
pub part_fails : {A B : Type 0} (old : List ℕ) (one : B → List ℕ) (all : A → List ℕ) (r : Read B) (more : B → List ℕ → Read A) (e : DecodeError) (whole : Read (List ℕ)) → printed old all (next r more) ≡ whole → Fails e (printed old one r) → Fails e whole
part_fails old one all (Ok x) more (Fault d) whole inv h = absurd (cc)
part_fails old one all (Err f) more (Fault d) whole inv h = sym inv ∙ h
part_fails old one all r more Memory whole inv h = tt

-- the element at a place, and those behind it
at_place : {A : Type 0} (xs : List A) (i : ℕ) (x : A) → i < length xs → x ≡ get_or xs i x → drop i xs ≡ x ∷ drop (i + 1) xs
at_place xs i x h e = rw (add-one, drop-cons xs i x) (ap (λ z. z ∷ drop (suc i) xs) (sym e))

-- past the last place nothing is left
none_left : {A : Type 0} (xs : List A) (i : ℕ) → length xs ≤ i → drop i xs ≡ []
none_left xs i h = drop_of_length-le xs h

-- a line behind others
pub line_behind : (old before name value : List ℕ) → old ++ before ++ name ++ codes " = " ++ value ++ 10 ∷ [] ≡ old ++ element_line before name value
line_behind old before name value =
    ap (λ z. z ++ codes " = " ++ value ++ 10 ∷ []) (append_assoc old before name)
    ∙ ap (λ z. z ++ value ++ 10 ∷ []) (append_assoc old (before ++ name) (codes " = "))
    ∙ ap (λ z. z ++ 10 ∷ []) (append_assoc old (before ++ name ++ codes " = ") value)
    ∙ append_assoc old (before ++ name ++ codes " = " ++ value) (10 ∷ [])

-- ---- data

-- a datum, where the message's version has it
abbrev pub one_datum : Order → ℕ → ℕ → DataPlan → List ℕ → Read Datum
one_datum order version total d left = read_if_in version d (read_datum order total d left) left

pub datum_printed : (order : Order) (version total : ℕ) (before old new : List ℕ) (d : DataPlan) (left bytes rest : List ℕ) → is_in version d.since ≡ true → read_datum order total d left ≡ Ok (Present bytes, rest) → new ≡ old ++ before ++ d.name ++ codes " = " ++ raw_text bytes ++ 10 ∷ [] → printed old (λ v. element_line before d.name (datum_text v)) (one_datum order version total d left) ≡ Ok (new, rest)
datum_printed order version total before old new d left bytes rest here e lines =
    ap (λ t. printed old (λ v. element_line before d.name (datum_text v)) (if t then read_datum order total d left else Ok (datum.Absent, left))) here
    ∙ ap (printed old (λ v. element_line before d.name (datum_text v))) e
    ∙ ap (λ z. Ok (z, rest)) (sym (lines ∙ line_behind old before d.name (raw_text bytes)))

-- the lines of the data that are left, behind others
abbrev pub data_left : Order → ℕ → ℕ → List ℕ → List ℕ → List DataPlan → List ℕ → Read (List ℕ)
data_left order version total before lines ds left =
    printed lines (λ vars. lines_of_data before vars ds) (read_data order version total ds left)

pub data_step : (order : Order) (version total : ℕ) (before old new : List ℕ) (ds : List DataPlan) (i : ℕ) (d : DataPlan) (left after : List ℕ) (whole : Read (List ℕ)) → i < length ds → d ≡ get_or ds i d → printed old (λ v. element_line before d.name (datum_text v)) (one_datum order version total d left) ≡ Ok (new, after) → data_left order version total before old (drop i ds) left ≡ whole → data_left order version total before new (drop (i + 1) ds) after ≡ whole
data_step order version total before old new ds i d left after whole h is e inv =
    one_more old new (λ v. element_line before d.name (datum_text v)) (λ vs. lines_of_data before vs (drop (i + 1) ds)) (λ vs. lines_of_data before vs (d ∷ drop (i + 1) ds)) (λ x xs. x ∷ xs) (λ x xs. refl) (one_datum order version total d left) after (read_data order version total (drop (i + 1) ds)) e
    ∙ ap (λ z. data_left order version total before old z left) (sym (at_place ds i d h is))
    ∙ inv

pub data_fail : (order : Order) (version total : ℕ) (before old : List ℕ) (ds : List DataPlan) (i : ℕ) (d : DataPlan) (left : List ℕ) (e : DecodeError) (whole : Read (List ℕ)) → i < length ds → d ≡ get_or ds i d → Fails e (printed old (λ v. element_line before d.name (datum_text v)) (one_datum order version total d left)) → data_left order version total before old (drop i ds) left ≡ whole → Fails e whole
data_fail order version total before old ds i d left e whole h is f inv =
    part_fails old (λ v. element_line before d.name (datum_text v)) (λ vs. lines_of_data before vs (d ∷ drop (i + 1) ds)) (one_datum order version total d left) _ e whole
    (ap (λ z. data_left order version total before old z left) (sym (at_place ds i d h is)) ∙ inv) f

pub data_end : (order : Order) (version total : ℕ) (before lines : List ℕ) (ds : List DataPlan) (i : ℕ) (left : List ℕ) (whole : Read (List ℕ)) → length ds ≤ i → data_left order version total before lines (drop i ds) left ≡ whole → whole ≡ Ok (lines, left)
data_end order version total before lines ds i left whole h inv =
    sym inv ∙ ap (λ z. data_left order version total before lines z left) (none_left ds i h) ∙ ap (λ z. Ok (z, left)) (append-nil lines)

-- ---- groups

-- a group by its plan
abbrev pub one_group : Order → ℕ → ℕ → GroupPlan → List ℕ → Read Group
one_group order version total p left =
    read_group order version total (head_of p) (read_groups order version total p.block.groups) left

abbrev pub groups_left : List Listing → Order → ℕ → ℕ → List ℕ → List ℕ → List GroupPlan → List ℕ → Read (List ℕ)
groups_left listings order version total before lines ps left =
    printed lines (λ gs. group_lines listings before gs (plans_of ps)) (read_groups order version total (plans_of ps) left)

group_first : (listings : List Listing) (before : List ℕ) (head : PlanHead) (inner rest : PlanTree) (g : Group) (gs : GroupList) → group_lines listings before (group_before g gs) (plan head inner rest) ≡ lines_of_group listings before head inner g ++ group_lines listings before gs rest
group_first listings before head inner rest Absent gs = refl
group_first listings before head inner rest (Entries bs) gs = refl

pub groups_step : (listings : List Listing) (order : Order) (version total : ℕ) (before old new : List ℕ) (ps : List GroupPlan) (i : ℕ) (p : GroupPlan) (left after : List ℕ) (whole : Read (List ℕ)) → i < length ps → p ≡ get_or ps i p → printed old (lines_of_group listings before (head_of p) p.block.groups) (one_group order version total p left) ≡ Ok (new, after) → groups_left listings order version total before old (drop i ps) left ≡ whole → groups_left listings order version total before new (drop (i + 1) ps) after ≡ whole
groups_step listings order version total before old new ps i p left after whole h is e inv =
    one_more old new (lines_of_group listings before (head_of p) p.block.groups) (λ gs. group_lines listings before gs (plans_of (drop (i + 1) ps))) (λ gs. group_lines listings before gs (plans_of (p ∷ drop (i + 1) ps))) group_before (group_first listings before (head_of p) p.block.groups (plans_of (drop (i + 1) ps))) (one_group order version total p left) after (read_groups order version total (plans_of (drop (i + 1) ps))) e
    ∙ ap (λ z. groups_left listings order version total before old z left) (sym (at_place ps i p h is))
    ∙ inv

pub groups_fail : (listings : List Listing) (order : Order) (version total : ℕ) (before old : List ℕ) (ps : List GroupPlan) (i : ℕ) (p : GroupPlan) (left : List ℕ) (e : DecodeError) (whole : Read (List ℕ)) → i < length ps → p ≡ get_or ps i p → Fails e (printed old (lines_of_group listings before (head_of p) p.block.groups) (one_group order version total p left)) → groups_left listings order version total before old (drop i ps) left ≡ whole → Fails e whole
groups_fail listings order version total before old ps i p left e whole h is f inv =
    part_fails old (lines_of_group listings before (head_of p) p.block.groups) (λ gs. group_lines listings before gs (plans_of (p ∷ drop (i + 1) ps))) (one_group order version total p left) _ e whole
    (ap (λ z. groups_left listings order version total before old z left) (sym (at_place ps i p h is)) ∙ inv) f

pub groups_end : (listings : List Listing) (order : Order) (version total : ℕ) (before lines : List ℕ) (ps : List GroupPlan) (i : ℕ) (left : List ℕ) (whole : Read (List ℕ)) → length ps ≤ i → groups_left listings order version total before lines (drop i ps) left ≡ whole → whole ≡ Ok (lines, left)
groups_end listings order version total before lines ps i left whole h inv =
    sym inv ∙ ap (λ z. groups_left listings order version total before lines z left) (none_left ps i h) ∙ ap (λ z. Ok (z, left)) (append-nil lines)

-- ---- entries

abbrev blocks_made : Read BlockList → BlockList
blocks_made (Ok x) = x.0
blocks_made (Err f) = no_blocks

-- as many entries are read as are to be read
abbrev CountsTo : (List ℕ → Read Entry) → ℕ → Type 0
CountsTo read n = (left : List ℕ) (bs : BlockList) (rest : List ℕ) → repeated n read left ≡ Ok (bs, rest) → count_of_blocks bs ≡ n

others_count : (n : ℕ) (bs : BlockList) (rest : List ℕ) (v : Entry) (r : Read BlockList) → ((cs : BlockList) (behind : List ℕ) → r ≡ Ok (cs, behind) → count_of_blocks cs ≡ n) → next r (λ es end. Ok (block v.items v.groups v.vars es, end)) ≡ Ok (bs, rest) → count_of_blocks bs ≡ suc n
others_count n bs rest v (Ok x) counted e =
    let others : count_of_blocks x.0 ≡ n = counted x.0 x.1 refl in
    let same : block v.items v.groups v.vars x.0 ≡ bs = ap blocks_made e in
    ap count_of_blocks (sym same) ∙ omega (arith, others)
others_count n bs rest v (Err f) counted e = absurd (cc)

first_counts : (read : List ℕ → Read Entry) (n : ℕ) (bs : BlockList) (rest : List ℕ) (r : Read Entry) → CountsTo read n → next r (λ v after. next (repeated n read after) (λ es end. Ok (block v.items v.groups v.vars es, end))) ≡ Ok (bs, rest) → count_of_blocks bs ≡ suc n
first_counts read n bs rest (Ok x) counted e = others_count n bs rest x.0 (repeated n read x.1) (counted x.1) e
first_counts read n bs rest (Err f) counted e = absurd (cc)

count_read : (read : List ℕ → Read Entry) (n : ℕ) → CountsTo read n
count_read read zero = λ left bs rest e. ap count_of_blocks (sym (ap blocks_made e))
count_read read (suc n) = λ left bs rest e. first_counts read n bs rest (read left) (count_read read n) e

group_of_entries : (listings : List Listing) (before old : List ℕ) (g : PlanHead) (inner : PlanTree) (n : ℕ) (r : Read BlockList) → ((bs : BlockList) (rest : List ℕ) → r ≡ Ok (bs, rest) → count_of_blocks bs ≡ n) → printed (old ++ element_line before g.name (decimal n)) (λ bs. entry_lines listings before 0 bs g inner) r ≡ printed old (lines_of_group listings before g inner) (next r (λ bs rest. Ok (Entries bs, rest)))
group_of_entries listings before old g inner n (Ok x) count =
    ap (λ lines. Ok (lines, x.1)) (
    append_assoc old (element_line before g.name (decimal n)) (entry_lines listings before 0 x.0 g inner)
    ∙ ap (λ k. old ++ (element_line before g.name (decimal k) ++ entry_lines listings before 0 x.0 g inner)) (sym (count x.0 x.1 refl)))
group_of_entries listings before old g inner n (Err f) count = refl

-- the line of a group that is there, and the lines of its entries
pub group_printed : (listings : List Listing) (before old : List ℕ) (g : PlanHead) (inner : PlanTree) (n : ℕ) (read : List ℕ → Read Entry) (after : List ℕ) → printed (old ++ element_line before g.name (decimal n)) (λ bs. entry_lines listings before 0 bs g inner) (repeated n read after) ≡ printed old (lines_of_group listings before g inner) (next (repeated n read after) (λ bs rest. Ok (Entries bs, rest)))
group_printed listings before old g inner n read after =
    group_of_entries listings before old g inner n (repeated n read after) (count_read read n after)

-- the same of a group by its plan, whose dimension is read
pub group_is : (listings : List Listing) (order : Order) (version total : ℕ) (before old : List ℕ) (p : GroupPlan) (d : Dimension) (left after : List ℕ) → is_in version p.since ≡ true → read_dimension order total (head_of p) left ≡ Ok (d, after) → printed (old ++ element_line before p.name (decimal d.count)) (λ bs. entry_lines listings before 0 bs (head_of p) p.block.groups) (repeated d.count (read_parts order version total d.size p.block) after) ≡ printed old (lines_of_group listings before (head_of p) p.block.groups) (one_group order version total p left)
group_is listings order version total before old p d left after here e =
    let inner : List ℕ → Read GroupList = read_groups order version total p.block.groups in
    group_printed listings before old (head_of p) p.block.groups d.count (read_parts order version total d.size p.block) after
    ∙ ap (λ r. printed old (lines_of_group listings before (head_of p) p.block.groups) (next (next r (λ x rest. repeated x.count (read_entry order version total (head_of p) x.size inner) rest)) (λ bs rest. Ok (Entries bs, rest)))) (sym e)
    ∙ ap (λ t. printed old (lines_of_group listings before (head_of p) p.block.groups) (if t then next (read_present order version total (head_of p) inner left) (λ bs rest. Ok (Entries bs, rest)) else Ok (Absent, left))) (sym here)

-- what stands before the names in an entry, behind what all entries of its group begin with
pub names_in : (names opened before : List ℕ) (g : PlanHead) (at : ℕ) → opened ≡ before ++ g.name ++ 91 ∷ [] → names ≡ opened ++ decimal at ++ 93 ∷ 46 ∷ [] → names ≡ before_in before g at
names_in names opened before g at is e =
    e ∙ ap (λ z. z ++ decimal at ++ 93 ∷ 46 ∷ []) is ∙ ap (λ z. z ++ 93 ∷ 46 ∷ []) (append_assoc (before ++ g.name) (91 ∷ []) (decimal at))

-- it begins so behind the entry, too
pub opened_again : (names opened : List ℕ) (at n : ℕ) → names ≡ opened ++ decimal at ++ 93 ∷ 46 ∷ [] → n ≡ length opened → take n names ≡ opened
opened_again names opened at n e is =
    rw is (ap (take (length opened)) (e ∙ append_assoc opened (decimal at) (93 ∷ 46 ∷ [])) ∙ take-append_seam opened (decimal at ++ 93 ∷ 46 ∷ []))

-- and behind the group stands what stood before its name
pub closed : (names before name : List ℕ) (n opened : ℕ) → take opened names ≡ before ++ name ++ 91 ∷ [] → n ≡ length before → take n names ≡ before
closed names before name n opened e is =
    let whole : names ≡ before ++ (name ++ 91 ∷ [] ++ drop opened names) =
    sym (take-append-drop opened names) ∙ ap (λ z. z ++ drop opened names) (e ∙ append_assoc before name (91 ∷ []))
    ∙ append_assoc before (name ++ 91 ∷ []) (drop opened names) in
    rw is (ap (take (length before)) whole ∙ take-append_seam before (name ++ 91 ∷ [] ++ drop opened names))

-- the lines of the entries that are left, behind others
abbrev pub entries_left : List Listing → List ℕ → GroupPlan → (List ℕ → Read Entry) → ℕ → List ℕ → ℕ → List ℕ → Read (List ℕ)
entries_left listings before p read at lines n left =
    printed lines (λ bs. entry_lines listings before at bs (head_of p) p.block.groups) (repeated n read left)

count_less : (count i : ℕ) → i < count → count - i ≡ suc (count - (i + 1))
count_less count i h = omega arith

entry_first : (listings : List Listing) (before : List ℕ) (p : GroupPlan) (at : ℕ) (v : Entry) (bs : BlockList) → entry_lines listings before at (block v.items v.groups v.vars bs) (head_of p) p.block.groups ≡ lines_of_block listings (before_in before (head_of p) at) p.block v ++ entry_lines listings before (at + 1) bs (head_of p) p.block.groups
entry_first listings before p at v bs = refl

pub entries_step : (listings : List Listing) (before : List ℕ) (p : GroupPlan) (read : List ℕ → Read Entry) (old new : List ℕ) (count at : ℕ) (left after : List ℕ) (whole : Read (List ℕ)) → at < count → printed old (lines_of_block listings (before_in before (head_of p) at) p.block) (read left) ≡ Ok (new, after) → entries_left listings before p read at old (count - at) left ≡ whole → entries_left listings before p read (at + 1) new (count - (at + 1)) after ≡ whole
entries_step listings before p read old new count at left after whole h e inv =
    one_more old new (lines_of_block listings (before_in before (head_of p) at) p.block) (λ bs. entry_lines listings before (at + 1) bs (head_of p) p.block.groups) (λ bs. entry_lines listings before at bs (head_of p) p.block.groups) (λ x xs. block x.items x.groups x.vars xs) (entry_first listings before p at) (read left) after (repeated (count - (at + 1)) read) e
    ∙ ap (λ n. entries_left listings before p read at old n left) (sym (count_less count at h))
    ∙ inv

pub entries_fail : (listings : List Listing) (before : List ℕ) (p : GroupPlan) (read : List ℕ → Read Entry) (old : List ℕ) (count at : ℕ) (left : List ℕ) (e : DecodeError) (whole : Read (List ℕ)) → at < count → Fails e (printed old (lines_of_block listings (before_in before (head_of p) at) p.block) (read left)) → entries_left listings before p read at old (count - at) left ≡ whole → Fails e whole
entries_fail listings before p read old count at left e whole h f inv =
    part_fails old (lines_of_block listings (before_in before (head_of p) at) p.block) (λ bs. entry_lines listings before at bs (head_of p) p.block.groups) (read left) _ e whole
    (ap (λ n. entries_left listings before p read at old n left) (sym (count_less count at h)) ∙ inv) f

pub entries_end : (listings : List Listing) (before : List ℕ) (p : GroupPlan) (read : List ℕ → Read Entry) (lines : List ℕ) (count at : ℕ) (left : List ℕ) (whole : Read (List ℕ)) → count ≤ at → entries_left listings before p read at lines (count - at) left ≡ whole → whole ≡ Ok (lines, left)
entries_end listings before p read lines count at left whole h inv =
    let none : count - at ≡ 0 = omega arith in
    sym inv ∙ ap (λ n. entries_left listings before p read at lines n left) none ∙ ap (λ z. Ok (z, left)) (append-nil lines)

-- ---- a block

block_by_data : (listings : List Listing) (before : List ℕ) (p : BlockPlan) (old lines : List ℕ) (items : List Item) (made : GroupList) (r : Read (List Datum)) → lines ≡ old ++ item_lines listings before items p.items ++ group_lines listings before made p.groups → printed lines (λ vars. lines_of_data before vars p.vars) r ≡ printed old (lines_of_block listings before p) (next r (λ vars end. Ok (record { items = items; groups = made; vars = vars }, end)))
block_by_data listings before p old lines items made (Ok x) is =
    let written = item_lines listings before items p.items in
    let middle = group_lines listings before made p.groups in
    let last = lines_of_data before x.0 p.vars in
    ap (λ z. Ok (z, x.1)) (
    ap (λ z. z ++ last) (is ∙ append_assoc old written middle)
    ∙ append_assoc old (written ++ middle) last)
block_by_data listings before p old lines items made (Err f) is = refl

-- the lines of the data of a block, behind those of its items and its groups, are those of the block
pub block_printed : (listings : List Listing) (before : List ℕ) (p : BlockPlan) (old new after : List ℕ) (items : List Item) (r : Read GroupList) (rest : List ℕ → Read (List Datum)) → printed (old ++ item_lines listings before items p.items) (λ gs. group_lines listings before gs p.groups) r ≡ Ok (new, after) → printed new (λ vars. lines_of_data before vars p.vars) (rest after) ≡ printed old (lines_of_block listings before p) (next r (λ groups behind. next (rest behind) (λ vars end. Ok (record { items = items; groups = groups; vars = vars }, end))))
block_printed listings before p old new after items (Ok x) rest e =
    let lines : (old ++ item_lines listings before items p.items) ++ group_lines listings before x.0 p.groups ≡ new = ap lines_made e in
    let ends : x.1 ≡ after = ap left_behind e in
    ap (λ z. printed new (λ vars. lines_of_data before vars p.vars) (rest z)) (sym ends)
    ∙ block_by_data listings before p old new items x.0 (rest x.1) (sym lines)
block_printed listings before p old new after items (Err f) rest e = absurd (cc)

-- ---- a message

ended : (listings : List Listing) (schema : Plan) (layout : MessagePlan) (template : ℕ) (e : Entry) → message_of template schema.messages ≡ Some layout → message_lines listings (message_by template e) (message_of template schema.messages) ≡ (message_line layout.name ++ lines_of_block listings [] layout.root e) ++ end_line
ended listings schema layout template e is =
    let items = item_lines listings [] e.items layout.root.items in
    let groups = group_lines listings [] e.groups layout.root.groups in
    let vars = lines_of_data [] e.vars layout.root.vars in
    ap (message_lines listings (message_by template e)) is
    ∙ ap (λ z. z ++ end_line) (ap (λ z. z ++ vars) (append_assoc (message_line layout.name) items groups) ∙ append_assoc (message_line layout.name) (items ++ groups) vars)

root_ended : (listings : List Listing) (schema : Plan) (layout : MessagePlan) (template : ℕ) (lines rest : List ℕ) (r : Read Entry) → message_of template schema.messages ≡ Some layout → printed (message_line layout.name) (lines_of_block listings [] layout.root) r ≡ Ok (lines, rest) → lines_told listings schema (alone (along (message_by template) r)) ≡ Ok (lines ++ end_line)
root_ended listings schema layout template lines rest (Ok x) is e =
    let same : message_line layout.name ++ lines_of_block listings [] layout.root x.0 ≡ lines = ap lines_made e in
    ap Ok (ended listings schema layout template x.0 is ∙ ap (λ z. z ++ end_line) same)
root_ended listings schema layout template lines rest (Err f) is e = absurd (cc)

root_fails : (listings : List Listing) (schema : Plan) (layout : MessagePlan) (template : ℕ) (f : DecodeFault) (r : Read Entry) → printed (message_line layout.name) (lines_of_block listings [] layout.root) r ≡ Err f → lines_told listings schema (alone (along (message_by template) r)) ≡ Err f
root_fails listings schema layout template f (Ok x) e = absurd (cc)
root_fails listings schema layout template f (Err d) e = let same : d ≡ f = cc in ap Err same

found_by : (schema : Plan) (h : Header) (layout : MessagePlan) (same : Bool) (found : Option MessagePlan) → (if same then layout_found h found else Err (OtherSchema h.id)) ≡ Ok layout → found ≡ Some layout
found_by schema h layout true None e = absurd (cc)
found_by schema h layout true (Some l) e = let is : l ≡ layout = cc in ap Some is
found_by schema h layout false found e = absurd (cc)

pub layout_is : (schema : Plan) (h : Header) (layout : MessagePlan) → layout_by schema h ≡ Ok layout → message_of h.template schema.messages ≡ Some layout
layout_is schema h layout e = found_by schema h layout (h.id == schema.id) (message_of h.template schema.messages) e

abbrev body : Plan → List ℕ → Header → List ℕ → Result MessagePlan DecodeFault → Read Message
body schema bytes h left found = laid found (λ layout. along (message_by h.template) (read_parts schema.order h.version (length bytes) h.size layout.root left))

-- the lines of a message whose root block is printed
pub message_printed : (listings : List Listing) (schema : Plan) (bytes : List ℕ) (h : Header) (left : List ℕ) (layout : MessagePlan) (lines rest : List ℕ) → read_header schema.order bytes ≡ Ok (h, left) → layout_by schema h ≡ Ok layout → printed (message_line layout.name) (lines_of_block listings [] layout.root) (read_parts schema.order h.version (length bytes) h.size layout.root left) ≡ Ok (lines, rest) → lines_told listings schema (message_in schema bytes) ≡ Ok (lines ++ end_line)
message_printed listings schema bytes h left layout lines rest head laid_out printed_root =
    ap (lines_told listings schema) (sym (message_is schema bytes))
    ∙ ap (λ r. lines_told listings schema (alone (next r (λ h left. body schema bytes h left (layout_by schema h))))) head
    ∙ ap (λ found. lines_told listings schema (alone (body schema bytes h left found))) laid_out
    ∙ root_ended listings schema layout h.template lines rest (read_parts schema.order h.version (length bytes) h.size layout.root left) (layout_is schema h layout laid_out) printed_root

pub message_fails : (listings : List Listing) (schema : Plan) (bytes : List ℕ) (h : Header) (left : List ℕ) (layout : MessagePlan) (e : DecodeError) → read_header schema.order bytes ≡ Ok (h, left) → layout_by schema h ≡ Ok layout → Fails e (printed (message_line layout.name) (lines_of_block listings [] layout.root) (read_parts schema.order h.version (length bytes) h.size layout.root left)) → Fails e (lines_told listings schema (message_in schema bytes))
message_fails listings schema bytes h left layout (Fault f) head laid_out failed =
    ap (lines_told listings schema) (sym (message_is schema bytes))
    ∙ ap (λ r. lines_told listings schema (alone (next r (λ h left. body schema bytes h left (layout_by schema h))))) head
    ∙ ap (λ found. lines_told listings schema (alone (body schema bytes h left found))) laid_out
    ∙ root_fails listings schema layout h.template f (read_parts schema.order h.version (length bytes) h.size layout.root left) failed
message_fails listings schema bytes h left layout Memory head laid_out failed = tt

pub layout_fails : (listings : List Listing) (schema : Plan) (bytes : List ℕ) (h : Header) (left : List ℕ) (f : DecodeFault) → read_header schema.order bytes ≡ Ok (h, left) → layout_by schema h ≡ Err f → lines_told listings schema (message_in schema bytes) ≡ Err f
layout_fails listings schema bytes h left f head failed =
    ap (lines_told listings schema) (sym (message_is schema bytes))
    ∙ ap (λ r. lines_told listings schema (alone (next r (λ h left. body schema bytes h left (layout_by schema h))))) head
    ∙ ap (λ found. lines_told listings schema (alone (body schema bytes h left found))) failed

pub header_fails : (listings : List Listing) (schema : Plan) (bytes : List ℕ) (f : DecodeFault) → read_header schema.order bytes ≡ Err f → lines_told listings schema (message_in schema bytes) ≡ Err f
header_fails listings schema bytes f failed =
    ap (lines_told listings schema) (sym (message_is schema bytes))
    ∙ ap (λ r. lines_told listings schema (alone (next r (λ h left. body schema bytes h left (layout_by schema h))))) failed
