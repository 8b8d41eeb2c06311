-- What is read of lines by a plan fits the plan.
use Rattle.std.proofs.Common.{◌≡◌, ℕ, zero, suc, ◌+◌, ◌==◌, Bool, true, false, ◌&&◌, Option, Some, None, Ok, Err, List, [], ◌∷◌, length, refl, sym, ap, ◌∙◌, subst, eq-eqb}
use Rattle.std.specs.Prelude.{ℤ, nat_le, if◌then◌else◌, Result, codes}
use Rattle.std.specs.Option.{option_map}
use Rattle.std.specs.Str.{bytes_eq}
use Rattle.std.proofs.lemmas.Bool.Decides.{Decides-eqb}
use Rattle.sbe_value.specs.declared.item.Item.{Item}
use Rattle.sbe_value.specs.declared.item.Item.TheVariants.{Num, Null, Absent, Text, Raw}
use Rattle.sbe_value.specs.declared.datum.Datum.{Datum}
use Rattle.sbe_value.specs.declared.message.Message.{Message}
use Rattle.sbe_value.specs.declared.tree.Group.{Group}
use Rattle.sbe_value.specs.declared.tree.Group.TheVariants as group
use Rattle.sbe_value.specs.Trees.{GroupList, BlockList, no_groups, no_blocks, block}
use Rattle.sbe_layout.specs.declared.items.ItemPlan.{ItemPlan}
use Rattle.sbe_layout.specs.declared.items.DataPlan.{DataPlan}
use Rattle.sbe_layout.specs.declared.plan.MessagePlan.{MessagePlan}
use Rattle.sbe_layout.specs.declared.plan.Plan.{Plan}
use Rattle.sbe_layout.specs.Plans.{message_of}
use Rattle.sbe_layout.specs.Trees.{PlanHead, PlanTree, no_plans, plan}
use Rattle.sbe_grammar.specs.Fits.{Form, number, text, raw, form_of, has_form, fit_items, fit_data, fit_groups, fit_entries, fits_layout, Fits}
use Rattle.sbe_grammar.specs.Reading.{Entry, group_before}
use Rattle.sbe_text.specs.declared.token.Count.{Count}
use Rattle.sbe_text.specs.declared.token.Count.TheVariants as count
use Rattle.sbe_text.specs.Written.{before_in}
use Rattle.text_words.specs.Lines.{lines_in}
use Rattle.sbe_text.specs.Read.{Read, next, taken, read_line, read_each}
use Rattle.sbe_text.specs.Tokens.{also, behind, at_most, exactly, characters_of, raw_of, number_of, present_of, value_of, count_of, value_on, is_line}
use Rattle.sbe_text.specs.Reading.{read_element, read_item, read_datum, read_elements, repeated, entry_at, read_counted, read_group, read_groups, layout_on, named, message_with, read_body, read_message, alone, numbered, message_of_text}

-- ---- taking apart what was read

next_ok : {A B : Type 0} (r : Read A) (more : A → List (List ℕ) → Read B) (y : B × List (List ℕ)) (Q : Type 0) → next r more ≡ Ok y → ((x : A) (after : List (List ℕ)) → r ≡ Ok (x, after) → more x after ≡ Ok y → Q) → Q
next_ok (Ok x) more y Q e k = k x.0 x.1 refl e
next_ok (Err n) more y Q e k = absurd (cc)

abbrev value_or : {A : Type 0} → A → Read A → A
value_or other (Ok read) = read.0
value_or other (Err left) = other

same_value : {A : Type 0} (x y : A) (rest after : List (List ℕ)) (r s : Read A) → r ≡ Ok (x, rest) → s ≡ Ok (y, after) → r ≡ s → x ≡ y
same_value x y rest after r s p q e = sym (ap (value_or x) p) ∙ ap (value_or x) e ∙ ap (value_or x) q

-- the same value is read where the same is read
told : {A : Type 0} (x y : A) (rest after : List (List ℕ)) (r : Read A) → r ≡ Ok (x, rest) → r ≡ Ok (y, after) → x ≡ y
told x y rest after r p q = same_value x y rest after r r p q refl

taken_ok : {A : Type 0} (left : ℕ) (made : Option A) (rest : List (List ℕ)) (x : A) (after : List (List ℕ)) → taken left made rest ≡ Ok (x, after) → made ≡ Some x
taken_ok left None rest x after e = absurd (cc)
taken_ok left (Some made) rest x after e = ap Some (told made x rest after (Ok (made, rest)) refl e)

also_some : {A B : Type 0} (o : Option A) (more : A → Option B) (y : B) (Q : Type 0) → also o more ≡ Some y → ((x : A) → o ≡ Some x → more x ≡ Some y → Q) → Q
also_some None more y Q e k = absurd (cc)
also_some (Some x) more y Q e k = k x refl e

map_some : {A B : Type 0} (f : A → B) (o : Option A) (y : B) (Q : Type 0) → option_map f o ≡ Some y → ((x : A) → o ≡ Some x → y ≡ f x → Q) → Q
map_some f None y Q e k = absurd (cc)
map_some f (Some x) y Q e k = let same : y ≡ f x = cc in k x refl same

both : (a b : Bool) → a ≡ true → b ≡ true → (a && b) ≡ true
both true b p q = q
both false b p q = p

-- ---- values

at_most_fits : (size : ℕ) (bytes kept : List ℕ) → at_most size bytes ≡ Some kept → nat_le (length kept) size ≡ true
at_most_fits size bytes kept =
    let P : Bool → Type 0 = λ t. nat_le (length bytes) size ≡ t → (if t then Some bytes else None) ≡ Some kept → nat_le (length kept) size ≡ true in
    elim (nat_le (length bytes) size) as P [
      | true ↦ λ h e. let same : bytes ≡ kept = cc in rw (← same) h
      | false ↦ λ h e. absurd (cc)
    ] refl

exactly_fits : (size : ℕ) (bytes kept : List ℕ) → exactly size bytes ≡ Some kept → (length kept == size) ≡ true
exactly_fits size bytes kept =
    let P : Bool → Type 0 = λ t. (length bytes == size) ≡ t → (if t then Some bytes else None) ≡ Some kept → (length kept == size) ≡ true in
    elim (length bytes == size) as P [
      | true ↦ λ h e. let same : bytes ≡ kept = cc in rw (← same) h
      | false ↦ λ h e. absurd (cc)
    ] refl

absent_fits : (f : Form) → has_form f Absent ≡ true
absent_fits (number optional) = refl
absent_fits (text size) = refl
absent_fits (raw size) = refl

number_fits : (optional null : Bool) (o : Option ℤ) (i : Item) → (if optional && null then Some Null else option_map Num o) ≡ Some i → has_form (number optional) i ≡ true
number_fits true true o i e = let same : Null ≡ i = cc in rw (← same) refl
number_fits true false o i e = map_some Num o i _ e (λ z h same. rw same refl)
number_fits false null o i e = map_some Num o i _ e (λ z h same. rw same refl)

present_fits : (f : Form) (line : List ℕ) (i : Item) → present_of f line ≡ Some i → has_form f i ≡ true
present_fits (number optional) line i e = number_fits optional (bytes_eq line (codes "null")) (number_of line) i e
present_fits (text size) line i e =
    map_some Text (also (characters_of line) (at_most size)) i _ e (λ kept h same. also_some (characters_of line) (at_most size) kept _ h (λ bytes _ k. rw same (at_most_fits size bytes kept k)))
present_fits (raw size) line i e =
    map_some Raw (also (raw_of line) (exactly size)) i _ e (λ kept h same. also_some (raw_of line) (exactly size) kept _ h (λ bytes _ k. rw same (exactly_fits size bytes kept k)))

value_fits : (f : Form) (line : List ℕ) (i : Item) → value_of f line ≡ Some i → has_form f i ≡ true
value_fits f line i =
    elim (bytes_eq line (codes "absent")) as (λ t. (if t then Some Absent else present_of f line) ≡ Some i → has_form f i ≡ true) [
      | true ↦ λ e. let same : Absent ≡ i = cc in rw (← same) (absent_fits f)
      | false ↦ λ e. present_fits f line i e
    ]

item_fits : (before : List ℕ) (p : ItemPlan) (ls rest : List (List ℕ)) (i : Item) → read_item before p ls ≡ Ok (i, rest) → has_form (form_of p) i ≡ true
item_fits before p ls rest i e =
    next_ok (read_line (value_on before p.name) ls) _ (i, rest) _ e (λ value after _ k. value_fits (form_of p) value i (taken_ok (length ls) (value_of (form_of p) value) after i rest k))

-- ---- blocks

items_fit : (before : List ℕ) (ps : List ItemPlan) (ls rest : List (List ℕ)) (is : List Item) → read_each (read_item before) ps ls ≡ Ok (is, rest) → fit_items is ps ≡ true
items_fit before [] ls rest is e =
    let same : [] ≡ is = told [] is ls rest (Ok ([], ls)) refl e in rw (← same) refl
items_fit before (p ∷ ps) ls rest is e =
    next_ok (read_item before p ls) _ (is, rest) _ e (λ i after h k.
    next_ok (read_each (read_item before) ps after) _ (is, rest) _ k (λ more end m n.
    let same : i ∷ more ≡ is = told (i ∷ more) is end rest (Ok (i ∷ more, end)) refl n in
    rw (← same) (both (has_form (form_of p) i) (fit_items more ps) (item_fits before p ls after i h) (items_fit before ps after end more m))))

data_fit : (before : List ℕ) (ds : List DataPlan) (ls rest : List (List ℕ)) (vs : List Datum) → read_each (read_datum before) ds ls ≡ Ok (vs, rest) → length vs ≡ length ds
data_fit before [] ls rest vs e =
    let same : [] ≡ vs = told [] vs ls rest (Ok ([], ls)) refl e in rw (← same) refl
data_fit before (d ∷ ds) ls rest vs e =
    next_ok (read_datum before d ls) _ (vs, rest) _ e (λ v after h k.
    next_ok (read_each (read_datum before) ds after) _ (vs, rest) _ k (λ more end m n.
    let same : v ∷ more ≡ vs = told (v ∷ more) vs end rest (Ok (v ∷ more, end)) refl n in rw (← same) (ap suc (data_fit before ds after end more m))))

count_fits : (vs : List Datum) (ds : List DataPlan) → length vs ≡ length ds → fit_data vs ds ≡ true
count_fits vs ds e = eq-eqb (length vs) (length ds) e

-- an entry fits its group, where its groups fit
entry_fits : (before : List ℕ) (g : PlanHead) (inner : PlanTree) → ((path : List ℕ) (ls rest : List (List ℕ)) (gs : GroupList) → read_groups path inner ls ≡ Ok (gs, rest) → fit_groups gs inner ≡ true) → (at : ℕ) (ls rest : List (List ℕ)) (e : Entry) → entry_at before g (λ path. read_groups path inner) at ls ≡ Ok (e, rest) → (more : BlockList) → fit_entries more g inner ≡ true → fit_entries (block e.items e.groups e.vars more) g inner ≡ true
entry_fits before g inner fit at ls rest e h more k =
    next_ok (read_each (read_item (before_in before g at)) g.items ls) _ (e, rest) _ h (λ items after h1 k1.
    next_ok (read_groups (before_in before g at) inner after) _ (e, rest) _ k1 (λ groups behind h2 k2.
    next_ok (read_each (read_datum (before_in before g at)) g.vars behind) _ (e, rest) _ k2 (λ vars end h3 k3.
    let same : record { items = items; groups = groups; vars = vars } ≡ e = told (record { items = items; groups = groups; vars = vars }) e end rest (Ok (record { items = items; groups = groups; vars = vars }, end)) refl k3 in
    let P : Entry → Type 0 = λ x. fit_entries (block x.items x.groups x.vars more) g inner ≡ true in
    subst P same (both _ _ (items_fit (before_in before g at) g.items ls after items h1) (both _ _ (fit (before_in before g at) after behind groups h2) (both _ _ (count_fits vars g.vars (data_fit (before_in before g at) g.vars behind end vars h3)) k))))))

entries_fit : (before : List ℕ) (g : PlanHead) (inner : PlanTree) → ((path : List ℕ) (ls rest : List (List ℕ)) (gs : GroupList) → read_groups path inner ls ≡ Ok (gs, rest) → fit_groups gs inner ≡ true) → (n at : ℕ) (ls rest : List (List ℕ)) (bs : BlockList) → repeated n at (entry_at before g (λ path. read_groups path inner)) ls ≡ Ok (bs, rest) → fit_entries bs g inner ≡ true
entries_fit before g inner fit zero at ls rest bs h =
    let same : no_blocks ≡ bs = told no_blocks bs ls rest (Ok (no_blocks, ls)) refl h in rw (← same) refl
entries_fit before g inner fit (suc n) at ls rest bs h =
    next_ok (entry_at before g (λ path. read_groups path inner) at ls) _ (bs, rest) _ h (λ e after h1 k1.
    next_ok (repeated n (at + 1) (entry_at before g (λ path. read_groups path inner)) after) _ (bs, rest) _ k1 (λ more end h2 k2.
    let same : block e.items e.groups e.vars more ≡ bs = told (block e.items e.groups e.vars more) bs end rest (Ok (block e.items e.groups e.vars more, end)) refl k2 in
    rw (← same) (entry_fits before g inner fit at ls after e h1 more (entries_fit before g inner fit n (at + 1) after end more h2))))

-- a group in front of others that fit
abbrev GroupFits : Group → PlanHead → PlanTree → Type 0
GroupFits group.Absent g inner = Unit {0}
GroupFits (group.Entries bs) g inner = fit_entries bs g inner ≡ true

front_fits : (x : Group) (g : PlanHead) (inner rest : PlanTree) (gs : GroupList) → GroupFits x g inner → fit_groups gs rest ≡ true → fit_groups (group_before x gs) (plan g inner rest) ≡ true
front_fits group.Absent g inner rest gs p q = q
front_fits (group.Entries bs) g inner rest gs p q = both (fit_entries bs g inner) (fit_groups gs rest) p q

counted_fits : (before : List ℕ) (g : PlanHead) (inner : PlanTree) → ((path : List ℕ) (ls rest : List (List ℕ)) (gs : GroupList) → read_groups path inner ls ≡ Ok (gs, rest) → fit_groups gs inner ≡ true) → (t : Count) (ls rest : List (List ℕ)) (x : Group) → read_counted before g (λ path. read_groups path inner) t ls ≡ Ok (x, rest) → GroupFits x g inner
counted_fits before g inner fit count.Absent ls rest x h =
    let P : Group → Type 0 = λ y. GroupFits y g inner in
    subst P (told group.Absent x ls rest (Ok (group.Absent, ls)) refl h) tt
counted_fits before g inner fit (count.Entries n) ls rest x h =
    next_ok (repeated n 0 (entry_at before g (λ path. read_groups path inner)) ls) _ (x, rest) _ h (λ bs end h1 k1.
    let P : Group → Type 0 = λ y. GroupFits y g inner in
    subst P (told (group.Entries bs) x end rest (Ok (group.Entries bs, end)) refl k1) (entries_fit before g inner fit n 0 ls end bs h1))

groups_fit : (ps : PlanTree) (before : List ℕ) (ls rest : List (List ℕ)) (gs : GroupList) → read_groups before ps ls ≡ Ok (gs, rest) → fit_groups gs ps ≡ true
groups_fit no_plans before ls rest gs h =
    let same : no_groups ≡ gs = told no_groups gs ls rest (Ok (no_groups, ls)) refl h in rw (← same) refl
groups_fit (plan g inner more) before ls rest gs h =
    next_ok (read_group before g (λ path. read_groups path inner) ls) _ (gs, rest) _ h (λ x behind h1 k1.
    next_ok (read_groups before more behind) _ (gs, rest) _ k1 (λ hs end h2 k2.
    let same : group_before x hs ≡ gs = told (group_before x hs) gs end rest (Ok (group_before x hs, end)) refl k2 in
    let first : GroupFits x g inner =
    next_ok (read_element before g.name count_of ls) _ (x, behind) _ h1 (λ t after _ k. counted_fits before g inner (groups_fit inner) t after behind x k) in
    rw (← same) (front_fits x g inner more hs first (groups_fit more before behind end hs h2))))

-- ---- messages

pub layout_found : (t : ℕ) (ms : List MessagePlan) (l : MessagePlan) → message_of t ms ≡ Some l → l.template ≡ t
layout_found t [] l e = absurd (cc)
layout_found t (m ∷ ms) l e =
    let P : Bool → Type 0 = λ b. (m.template == t) ≡ b → (if b then Some m else message_of t ms) ≡ Some l → l.template ≡ t in
    elim (m.template == t) as P [
      | true ↦ λ h e. let same : m ≡ l = cc in ap (λ (n : MessagePlan). n.template) (sym same) ∙ (Decides-eqb m.template t).0 h
      | false ↦ λ h e. layout_found t ms l e
    ] refl e

layout_has_template : (ms : List MessagePlan) (line : List ℕ) (l : MessagePlan) → layout_on ms line ≡ Some l → Some l ≡ message_of l.template ms
layout_has_template ms line l e =
    also_some (also (behind (codes "message ") line) (named ms)) (λ m. message_of m.template ms) l _ e (λ m _ k.
    let P : ℕ → Type 0 = λ n. Some l ≡ message_of n ms in subst P (sym (layout_found m.template ms l k)) (sym k))

-- a layout that a line names is that of its template
pub layout_read : (ms : List MessagePlan) (ls : List (List ℕ)) (l : MessagePlan) (rest : List (List ℕ)) → read_line (layout_on ms) ls ≡ Ok (l, rest) → message_of l.template ms ≡ Some l
layout_read ms [] l rest e = absurd (cc)
layout_read ms (line ∷ ls) l rest e =
    sym (layout_has_template ms line l (taken_ok (length (line ∷ ls)) (layout_on ms line) ls l rest e))

body_fits : (schema : Plan) (l : MessagePlan) (ls rest : List (List ℕ)) (m : Message) → Some l ≡ message_of l.template schema.messages → read_body l ls ≡ Ok (m, rest) → Fits schema m
body_fits schema l ls rest m found h =
    next_ok (read_elements [] l.root.items (read_groups [] l.root.groups) l.root.vars ls) _ (m, rest) _ h (λ e after h1 k1.
    next_ok (read_line (is_line (codes "end")) after) _ (m, rest) _ k1 (λ _ end _ k2.
    let same : message_with l.template e ≡ m = told (message_with l.template e) m end rest (Ok (message_with l.template e, end)) refl k2 in
    let P : Message → Type 0 = λ n. Fits schema n in
    subst P same (record { layout = l; found = found; fits = elements_fit l ls after e h1 })))
  where
    elements_fit : (l : MessagePlan) (ls rest : List (List ℕ)) (e : Entry) → read_elements [] l.root.items (read_groups [] l.root.groups) l.root.vars ls ≡ Ok (e, rest) → fits_layout (message_with l.template e) l ≡ true
    elements_fit l ls rest e h =
        next_ok (read_each (read_item []) l.root.items ls) _ (e, rest) _ h (λ items after h1 k1.
        next_ok (read_groups [] l.root.groups after) _ (e, rest) _ k1 (λ groups behind h2 k2.
        next_ok (read_each (read_datum []) l.root.vars behind) _ (e, rest) _ k2 (λ vars end h3 k3.
        let same : record { items = items; groups = groups; vars = vars } ≡ e = told (record { items = items; groups = groups; vars = vars }) e end rest (Ok (record { items = items; groups = groups; vars = vars }, end)) refl k3 in
        let P : Entry → Type 0 = λ x. fits_layout (message_with l.template x) l ≡ true in
        subst P same (both _ _ (items_fit [] l.root.items ls after items h1) (both _ _ (groups_fit l.root.groups [] after behind groups h2) (count_fits vars l.root.vars (data_fit [] l.root.vars behind end vars h3)))))))

message_fits : (schema : Plan) (ls rest : List (List ℕ)) (m : Message) → read_message schema.messages ls ≡ Ok (m, rest) → Fits schema m
message_fits schema [] rest m h = absurd (cc)
message_fits schema (line ∷ ls) rest m h =
    next_ok (taken (length (line ∷ ls)) (layout_on schema.messages line) ls) _ (m, rest) _ h (λ l after h1 k1.
    body_fits schema l after rest m (layout_has_template schema.messages line l (taken_ok (length (line ∷ ls)) (layout_on schema.messages line) ls l after h1)) k1)

abbrev read_as : {A : Type 0} → A → List (List ℕ) → Read A
read_as y rest = Ok (y, rest)

whole_ok : {A : Type 0} (x y : A) (rest : List (List ℕ)) (Q : Type 0) → alone (read_as y rest) ≡ Ok x → ((end : List (List ℕ)) → read_as y rest ≡ read_as x end → Q) → Q
whole_ok x y [] Q e k = let same : y ≡ x = cc in k [] (ap (λ z. read_as z []) same)
whole_ok x y (line ∷ rest) Q e k = absurd (cc)

alone_ok : {A : Type 0} (r : Read A) (x : A) (Q : Type 0) → alone r ≡ Ok x → ((rest : List (List ℕ)) → r ≡ read_as x rest → Q) → Q
alone_ok (Ok read) x Q e k = whole_ok x read.0 read.1 Q e k
alone_ok (Err n) x Q e k = absurd (cc)

numbered_ok : {A : Type 0} (total : ℕ) (r : Result A ℕ) (x : A) → numbered total r ≡ Ok x → r ≡ Ok x
numbered_ok total (Ok y) x e = e
numbered_ok total (Err n) x e = absurd (cc)

-- a message that a text spells fits the plan
pub read_fits : (schema : Plan) (bytes : List ℕ) (m : Message) → message_of_text schema bytes ≡ Ok m → Fits schema m
read_fits schema bytes m e =
    alone_ok (read_message schema.messages (lines_in bytes)) m _ (numbered_ok (length (lines_in bytes)) (alone (read_message schema.messages (lines_in bytes))) m e) (λ rest h. message_fits schema (lines_in bytes) rest m h)
