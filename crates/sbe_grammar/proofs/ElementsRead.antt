-- What is read of bytes is what they spell, and the other way round.
use Rattle.std.proofs.Common.{◌≡◌, ℕ, ℤ, ◌+◌, ◌≤◌, zero, suc, Bool, true, false, List, [], ◌∷◌, ◌++◌, length, take, drop, refl, sym, ◌∙◌, ap, subst, append_assoc, arith}
use Rattle.std.specs.Prelude.{⊤, IsTrue, max, nat_lt, Result, Ok, Err}
use Rattle.std.proofs.lemmas.List.{take-append-drop, length-append, length-take, length-drop}
use Rattle.std.proofs.lemmas.Bool.Decides.{nat_tests}
use Rattle.std.proofs.Math.Seq.{drop-append_seam, take-append_seam}
use Rattle.sbe_prim.specs.declared.Order.{Order}
use Rattle.sbe_prim.specs.Primitives.{size_of}
use Rattle.sbe_value.specs.declared.item.Item.{Item}
use Rattle.sbe_value.specs.declared.datum.Datum.{Datum}
use Rattle.sbe_value.specs.declared.datum.Datum.TheVariants as datum
use Rattle.sbe_value.specs.declared.tree.Group.{Group}
use Rattle.sbe_value.specs.declared.tree.Group.TheVariants as group
use Rattle.sbe_value.specs.Trees.{GroupList, BlockList, no_groups, absent, entries, no_blocks, block, count_of_blocks}
use Rattle.sbe_layout.specs.declared.items.ItemPlan.{ItemPlan}
use Rattle.sbe_layout.specs.declared.items.Mark.{Mark}
use Rattle.sbe_layout.specs.declared.items.DataPlan.{DataPlan}
use Rattle.sbe_layout.specs.Trees.{PlanHead, PlanTree, no_plans, plan}
use Rattle.sbe_grammar.specs.declared.fault.DecodeFault.{DecodeFault}
use Rattle.sbe_grammar.specs.Parts.{Then, IsNumber, unsigned}
use Rattle.sbe_grammar.specs.Values.{is_in, items_in}
use Rattle.sbe_grammar.specs.Spelling.{AllWithin, IsBlock, SpellsData, SpellsGroups, SpellsEntries}
use Rattle.sbe_grammar.specs.Reading.{Read, next, read_bytes, needed_by, read_whole, read_block, read_datum, read_if_in, read_data, Dimension, read_dimension, Entry, read_entry, repeated, read_present, read_group, group_before, read_groups}

-- ---- results

abbrev IsGiven : {A : Type 0} → Result A DecodeFault → Type 0
IsGiven (Ok x) = ⊤
IsGiven (Err fault) = ⊥

pub fault_gives_nothing : {A C : Type 0} {fault : DecodeFault} {x : A} → Err fault ≡ Ok x → C
fault_gives_nothing {A} e = absurd (let P : Result A DecodeFault → Type 0 = IsGiven in subst P (sym e) tt)

abbrev given : {A : Type 0} → A → Result A DecodeFault → A
given default (Ok x) = x
given default (Err fault) = default

pub same_given : {A : Type 0} {x y : A} → let left : Result A DecodeFault = Ok x in left ≡ Ok y → x ≡ y
same_given {A} {x} e = let f : Result A DecodeFault → A = given x in ap f e

-- what a chain gave, it gave through each of its links
pub record Links {A B : Type 0} (r : Read A) (more : A → List ℕ → Read B) (b : B) (rest : List ℕ) : Type 0 where
  pub value : A
  pub mid : List ℕ
  pub first : r ≡ Ok (value, mid)
  pub second : more value mid ≡ Ok (b, rest)

pub links : {A B : Type 0} (r : Read A) (more : A → List ℕ → Read B) (b : B) (rest : List ℕ) → next r more ≡ Ok (b, rest) → Links r more b rest
links (Ok read) more b rest e = record { value = read.0; mid = read.1; first = refl; second = e }
links (Err fault) more b rest e = fault_gives_nothing e

pub chained : {A B : Type 0} {r : Read A} {a : A} {mid : List ℕ} (more : A → List ℕ → Read B) → r ≡ Ok (a, mid) → next r more ≡ more a mid
chained {A} {B} more e = let f : Read A → Read B = λ r. next r more in ap f e

-- ---- bytes

-- bytes that were read, and those behind them
pub record Cut (n : ℕ) (left bytes rest : List ℕ) : Type 0 where
  pub joined : left ≡ bytes ++ rest
  pub whole : length bytes ≡ n

-- two bytes' parts are the same
abbrev Twin : List ℕ × List ℕ → List ℕ × List ℕ → Type 0
Twin x y = x ≡ y

cut_by : (b : Bool) (total n : ℕ) (left bytes rest : List ℕ) → nat_lt (length left) n ≡ b → read_bytes total n left ≡ Ok (bytes, rest) → Cut n left bytes rest
cut_by true total n left bytes rest short e = fault_gives_nothing (simp short at e)
cut_by false total n left bytes rest there e =
    let pair : Twin (take n left, drop n left) (bytes, rest) = same_given (simp there at e) in
    let enough : n ≤ length left = grind (arith, nat_tests) in
    record {
      joined = sym (take-append-drop n left) ∙ ap (λ (p : List ℕ × List ℕ). p.0 ++ p.1) pair;
      whole = sym (ap (λ (p : List ℕ × List ℕ). length p.0) pair) ∙ simp length-take (omega arith);
    }

pub cut : (total n : ℕ) (left bytes rest : List ℕ) → read_bytes total n left ≡ Ok (bytes, rest) → Cut n left bytes rest
cut total n left bytes rest e = cut_by (nat_lt (length left) n) total n left bytes rest refl e

pub uncut : (total n : ℕ) (bytes rest : List ℕ) → length bytes ≡ n → read_bytes total n (bytes ++ rest) ≡ Ok (bytes, rest)
uncut total n bytes rest whole =
    let there : nat_lt (length (bytes ++ rest)) n ≡ false = let long = length-append bytes rest in grind (arith, nat_tests) in
    let front : take n (bytes ++ rest) ≡ bytes = ap (λ (k : ℕ). take k (bytes ++ rest)) (sym whole) ∙ take-append_seam bytes rest in
    let behind : drop n (bytes ++ rest) ≡ rest = ap (λ (k : ℕ). drop k (bytes ++ rest)) (sym whole) ∙ drop-append_seam bytes rest in
    simp (there, front, behind)

-- ---- data

-- what a reader read is spelled by the front of the bytes left
pub record IsRead {A : Type 0} (P : A → List ℕ → Type 0) (a : A) (left rest : List ℕ) : Type 0 where
  pub front : List ℕ
  pub joined : left ≡ front ++ rest
  pub spelled : P a front

-- the value and the bytes behind it of a reader that read
pub record Same {A : Type 0} (a b : A) (x y : List ℕ) : Type 0 where
  pub value : a ≡ b
  pub behind : x ≡ y

pub same_read : {A : Type 0} {a b : A} {x y : List ℕ} → let left : Read A = Ok (a, x) in left ≡ Ok (b, y) → Same a b x y
same_read {A} {a} {b} {x} {y} e =
    let value : Read A → A = λ r. (given (a, x) r).0 in
    let behind : Read A → List ℕ = λ r. (given (a, x) r).1 in
    record { value = ap value e; behind = ap behind e }

datum_by : (b : Bool) (order : Order) (version total : ℕ) (d : DataPlan) (ds : List DataPlan) (v : Datum) (vs : List Datum) (left mid rest : List ℕ) → is_in version d.since ≡ b → read_if_in version d (read_datum order total d left) left ≡ Ok (v, mid) → IsRead (λ us. SpellsData order version us ds) vs mid rest → IsRead (λ us. SpellsData order version us (d ∷ ds)) (v ∷ vs) left rest
datum_by true order version total d ds v vs left mid rest there e more =
    let read : read_datum order total d left ≡ Ok (v, mid) = simp there at e in
    let one = links (read_bytes total (size_of d.length) left) (λ bytes after. next (read_bytes total (unsigned order d.length bytes) after) (λ text behind. Ok (datum.Present text, behind))) v mid read in
    let two = links (read_bytes total (unsigned order d.length one.value) one.mid) (λ text behind. Ok (datum.Present text, behind)) v mid one.second in
    let number = cut total (size_of d.length) left one.value one.mid one.first in
    let text = cut total (unsigned order d.length one.value) one.mid two.value two.mid two.first in
    let is = same_read two.second in
    let made : IsRead (λ us. SpellsData order version us (d ∷ ds)) (datum.Present two.value ∷ vs) left rest = record {
      front = one.value ++ (two.value ++ more.front);
      joined =
          number.joined
          ∙ ap (λ (xs : List ℕ). one.value ++ xs) (text.joined ∙ ap (λ (xs : List ℕ). two.value ++ xs) (is.behind ∙ more.joined) ∙ sym (append_assoc two.value more.front rest))
          ∙ sym (append_assoc one.value (two.value ++ more.front) rest);
      spelled = (
        there,
        record {
          front = one.value;
          behind = two.value ++ more.front;
          joined = refl;
          is_front = record { whole = number.whole; number = sym text.whole };
          is_behind = record { front = two.value; behind = more.front; joined = refl; is_front = refl; is_behind = more.spelled };
        },
      );
    } in
    let P : Datum → Type 0 = λ u. IsRead (λ us. SpellsData order version us (d ∷ ds)) (u ∷ vs) left rest in
    subst P is.value made
datum_by false order version total d ds v vs left mid rest gone e more =
    let read : Ok (datum.Absent, left) ≡ Ok (v, mid) = simp gone at e in
    let is = same_read read in
    let made : IsRead (λ us. SpellsData order version us (d ∷ ds)) (datum.Absent ∷ vs) left rest = record {
      front = more.front;
      joined = is.behind ∙ more.joined;
      spelled = (rw gone refl, more.spelled);
    } in
    let P : Datum → Type 0 = λ u. IsRead (λ us. SpellsData order version us (d ∷ ds)) (u ∷ vs) left rest in
    subst P is.value made

pub data_spelled : (order : Order) (version total : ℕ) (ds : List DataPlan) (vs : List Datum) (left rest : List ℕ) → read_data order version total ds left ≡ Ok (vs, rest) → IsRead (λ us. SpellsData order version us ds) vs left rest
data_spelled order version total [] vs left rest e =
    let is = same_read e in
    let P : List Datum → Type 0 = λ us. IsRead (λ ws. SpellsData order version ws []) us left rest in
    subst P is.value (record { front = []; joined = is.behind; spelled = refl })
data_spelled order version total (d ∷ ds) vs left rest e =
    let one = links (read_if_in version d (read_datum order total d left) left) (λ v behind. next (read_data order version total ds behind) (λ us end. Ok (v ∷ us, end))) vs rest e in
    let two = links (read_data order version total ds one.mid) (λ us end. Ok (one.value ∷ us, end)) vs rest one.second in
    let is = same_read two.second in
    let more = data_spelled order version total ds two.value one.mid two.mid two.first in
    let P : List Datum → Type 0 = λ us. IsRead (λ ws. SpellsData order version ws (d ∷ ds)) us left rest in
    let Q : List ℕ → Type 0 = λ end. IsRead (λ ws. SpellsData order version ws (d ∷ ds)) (one.value ∷ two.value) left end in
    subst P is.value (subst Q is.behind (datum_by (is_in version d.since) order version total d ds one.value two.value left one.mid two.mid refl one.first more))

pub data_read : (order : Order) (version total : ℕ) (vs : List Datum) (ds : List DataPlan) (front rest : List ℕ) → SpellsData order version vs ds front → read_data order version total ds (front ++ rest) ≡ Ok (vs, rest)
data_read order version total [] [] front rest s = ap (λ (xs : List ℕ). let r : Read (List Datum) = Ok ([], xs ++ rest) in r) s
data_read order version total [] (d ∷ ds) front rest s = absurd s
data_read order version total (v ∷ vs) [] front rest s = absurd s
data_read order version total (datum.Absent ∷ vs) (d ∷ ds) front rest s =
    let gone : is_in version d.since ≡ false = grind (arith, nat_tests) in
    let tail = data_read order version total vs ds front rest s.1 in
    simp (gone, tail)
data_read order version total (datum.Present text ∷ vs) (d ∷ ds) front rest s =
    let there : is_in version d.since ≡ true = grind (arith, nat_tests) in
    let number = s.1.front in
    let body = s.1.is_behind in
    let after = body.behind in
    let bytes : front ++ rest ≡ number ++ (text ++ (after ++ rest)) =
    ap (λ (xs : List ℕ). xs ++ rest) s.1.joined
    ∙ append_assoc number s.1.behind rest
    ∙ ap (λ (xs : List ℕ). number ++ xs) (ap (λ (xs : List ℕ). xs ++ rest) (body.joined ∙ ap (λ (xs : List ℕ). xs ++ after) body.is_front) ∙ append_assoc text after rest) in
    let one : read_bytes total (size_of d.length) (front ++ rest) ≡ Ok (number, text ++ (after ++ rest)) =
    ap (λ (xs : List ℕ). read_bytes total (size_of d.length) xs) bytes ∙ uncut total (size_of d.length) number (text ++ (after ++ rest)) s.1.is_front.whole in
    let two : read_bytes total (unsigned order d.length number) (text ++ (after ++ rest)) ≡ Ok (text, after ++ rest) =
    uncut total (unsigned order d.length number) text (after ++ rest) (sym s.1.is_front.number) in
    let tail = data_read order version total vs ds after rest body.is_behind in
    let first : read_datum order total d (front ++ rest) ≡ Ok (datum.Present text, after ++ rest) =
    chained (λ bytes after. next (read_bytes total (unsigned order d.length bytes) after) (λ text behind. Ok (datum.Present text, behind))) one
    ∙ chained (λ text behind. Ok (datum.Present text, behind)) two in
    let held : read_if_in version d (read_datum order total d (front ++ rest)) (front ++ rest) ≡ Ok (datum.Present text, after ++ rest) = rw there first in
    chained (λ v behind. next (read_data order version total ds behind) (λ us end. Ok (v ∷ us, end))) held
    ∙ chained (λ us end. Ok (datum.Present text ∷ us, end)) tail

-- ---- blocks

marks_by : (b : Bool) (version size end : ℕ) (since : ℤ) (ms : List Mark) → is_in version since ≡ b → needed_by version (record { since = since; end = end } ∷ ms) ≤ size → (IsTrue (is_in version since) → end ≤ size) × (needed_by version ms ≤ size)
marks_by true version size end since ms there within =
    let both : max end (needed_by version ms) ≤ size = simp there at within in
    (λ _. omega (arith, both), omega (arith, both))
marks_by false version size end since ms gone within =
    let rest : needed_by version ms ≤ size = simp gone at within in
    (λ here. absurd (grind (arith, nat_tests, here, gone)), rest)

pub within_by_need : (version size : ℕ) (ms : List Mark) → needed_by version ms ≤ size → AllWithin version size ms
within_by_need version size [] within = tt
within_by_need version size (m ∷ ms) within =
    let both = marks_by (is_in version m.since) version size m.end m.since ms refl within in
    (both.0, within_by_need version size ms both.1)

need_by_marks : (b : Bool) (version size : ℕ) (m : Mark) (ms : List Mark) → is_in version m.since ≡ b → (IsTrue (is_in version m.since) → m.end ≤ size) → needed_by version ms ≤ size → needed_by version (m ∷ ms) ≤ size
need_by_marks true version size m ms there first rest = rw there (let end = first there in omega (arith, end, rest))
need_by_marks false version size m ms gone first rest = rw gone rest

pub need_by_within : (version size : ℕ) (ms : List Mark) → AllWithin version size ms → needed_by version ms ≤ size
need_by_within version size [] within = omega arith
need_by_within version size (m ∷ ms) within =
    need_by_marks (is_in version m.since) version size m ms refl within.0 (need_by_within version size ms within.1)

record IsWhole (version size : ℕ) (marks : List Mark) (left bytes rest : List ℕ) : Type 0 where
  pub parts : Cut size left bytes rest
  pub enough : needed_by version marks ≤ size

whole_by : (b : Bool) (version total size : ℕ) (marks : List Mark) (left bytes rest : List ℕ) → nat_lt size (needed_by version marks) ≡ b → read_whole version total size marks left ≡ Ok (bytes, rest) → IsWhole version size marks left bytes rest
whole_by true version total size marks left bytes rest short e = fault_gives_nothing (simp short at e)
whole_by false version total size marks left bytes rest long e = record { parts = cut total size left bytes rest (simp long at e); enough = grind (arith, nat_tests) }

pub block_spelled : (order : Order) (version total size : ℕ) (marks : List Mark) (plans : List ItemPlan) (items : List Item) (left rest : List ℕ) → read_block order version total size marks plans left ≡ Ok (items, rest) → IsRead (IsBlock order version size marks plans) items left rest
block_spelled order version total size marks plans items left rest e =
    let one = links (read_whole version total size marks left) (λ bytes behind. Ok (items_in order version bytes plans, behind)) items rest e in
    let whole = whole_by (nat_lt size (needed_by version marks)) version total size marks left one.value one.mid refl one.first in
    let is = same_read one.second in
    record {
      front = one.value;
      joined = whole.parts.joined ∙ ap (λ (xs : List ℕ). one.value ++ xs) is.behind;
      spelled = record { whole = whole.parts.whole; fields_within = within_by_need version size marks whole.enough; values = sym is.value };
    }

pub block_read : (order : Order) (version total size : ℕ) (marks : List Mark) (plans : List ItemPlan) (items : List Item) (front rest : List ℕ) → IsBlock order version size marks plans items front → read_block order version total size marks plans (front ++ rest) ≡ Ok (items, rest)
block_read order version total size marks plans items front rest s =
    let need = need_by_within version size marks s.fields_within in
    let long : nat_lt size (needed_by version marks) ≡ false = grind (arith, nat_tests) in
    let bytes : read_whole version total size marks (front ++ rest) ≡ Ok (front, rest) = rw long (uncut total size front rest s.whole) in
    chained (λ bytes behind. Ok (items_in order version bytes plans, behind)) bytes
    ∙ ap (λ (is : List Item). let r : Read (List Item) = Ok (is, rest) in r) (sym s.values)

-- ---- dimensions

-- the bytes of a dimension, one number behind the other
pub record IsDimension (order : Order) (head : PlanHead) (d : Dimension) (bytes : List ℕ) : Type 0 where
  pub length_bytes : List ℕ
  pub count_bytes : List ℕ
  pub joined : bytes ≡ length_bytes ++ count_bytes
  pub size : IsNumber order head.block_prim d.size length_bytes
  pub count : IsNumber order head.count_prim d.count count_bytes

abbrev dimension_in : Order → PlanHead → List ℕ → Dimension
dimension_in order head bytes = record { size = unsigned order head.block_prim (take (size_of head.block_prim) bytes); count = unsigned order head.count_prim (drop (size_of head.block_prim) bytes) }

pub dimension_spelled : (order : Order) (total : ℕ) (head : PlanHead) (d : Dimension) (left rest : List ℕ) → read_dimension order total head left ≡ Ok (d, rest) → IsRead (IsDimension order head) d left rest
dimension_spelled order total head d left rest e =
    let n = size_of head.block_prim in
    let one = links (read_bytes total (n + size_of head.count_prim) left) (λ bytes behind. Ok (dimension_in order head bytes, behind)) d rest e in
    let bytes = cut total (n + size_of head.count_prim) left one.value one.mid one.first in
    let is = same_read one.second in
    let whole = bytes.whole in
    record {
      front = one.value;
      joined = bytes.joined ∙ ap (λ (xs : List ℕ). one.value ++ xs) is.behind;
      spelled = record {
        length_bytes = take n one.value;
        count_bytes = drop n one.value;
        joined = sym (take-append-drop n one.value);
        size = record { whole = simp length-take (omega (arith, whole)); number = ap (λ (x : Dimension). x.size) is.value };
        count = record { whole = simp length-drop (omega (arith, whole)); number = ap (λ (x : Dimension). x.count) is.value };
      };
    }

pub dimension_read : (order : Order) (total : ℕ) (head : PlanHead) (d : Dimension) (lengths counts rest : List ℕ) → IsNumber order head.block_prim d.size lengths → IsNumber order head.count_prim d.count counts → read_dimension order total head (lengths ++ (counts ++ rest)) ≡ Ok (d, rest)
dimension_read order total head d lengths counts rest size count =
    let n = size_of head.block_prim in
    let whole : length (lengths ++ counts) ≡ n + size_of head.count_prim = length-append lengths counts ∙ omega (arith, size.whole, count.whole) in
    let bytes : read_bytes total (n + size_of head.count_prim) (lengths ++ (counts ++ rest)) ≡ Ok (lengths ++ counts, rest) =
    ap (λ (xs : List ℕ). read_bytes total (n + size_of head.count_prim) xs) (sym (append_assoc lengths counts rest))
    ∙ uncut total (n + size_of head.count_prim) (lengths ++ counts) rest whole in
    let front : take n (lengths ++ counts) ≡ lengths = ap (λ (k : ℕ). take k (lengths ++ counts)) (sym size.whole) ∙ take-append_seam lengths counts in
    let behind : drop n (lengths ++ counts) ≡ counts = ap (λ (k : ℕ). drop k (lengths ++ counts)) (sym size.whole) ∙ drop-append_seam lengths counts in
    let first : (dimension_in order head (lengths ++ counts)).size ≡ d.size = ap (λ (xs : List ℕ). unsigned order head.block_prim xs) front ∙ size.number in
    let second : (dimension_in order head (lengths ++ counts)).count ≡ d.count = ap (λ (xs : List ℕ). unsigned order head.count_prim xs) behind ∙ count.number in
    chained (λ bytes left. Ok (dimension_in order head bytes, left)) bytes
    ∙ ap (λ (k : ℕ). let r : Read Dimension = Ok (record { size = k; count = (dimension_in order head (lengths ++ counts)).count }, rest) in r) first
    ∙ ap (λ (k : ℕ). let r : Read Dimension = Ok (record { size = d.size; count = k }, rest) in r) second

-- ---- entries and groups

-- what reads groups reads what these spell
abbrev ReadsGroups : Order → ℕ → PlanTree → (List ℕ → Read GroupList) → Type 0
ReadsGroups order version inner read = (gs : GroupList) (left rest : List ℕ) → read left ≡ Ok (gs, rest) → IsRead (λ hs. SpellsGroups order version hs inner) gs left rest

entry_spelled : (order : Order) (version total : ℕ) (head : PlanHead) (inner : PlanTree) (size : ℕ) (read : List ℕ → Read GroupList) → ReadsGroups order version inner read → (e : Entry) (bs : BlockList) (left mid rest : List ℕ) → read_entry order version total head size read left ≡ Ok (e, mid) → IsRead (λ cs. SpellsEntries order version cs head inner size) bs mid rest → IsRead (λ cs. SpellsEntries order version cs head inner size) (block e.items e.groups e.vars bs) left rest
entry_spelled order version total head inner size read reads e bs left mid rest was more =
    let one = links (read_block order version total size head.marks head.items left) (λ items after. next (read after) (λ groups behind. next (read_data order version total head.vars behind) (λ vars end. Ok (record { items = items; groups = groups; vars = vars }, end)))) e mid was in
    let two = links (read one.mid) (λ groups behind. next (read_data order version total head.vars behind) (λ vars end. Ok (record { items = one.value; groups = groups; vars = vars }, end))) e mid one.second in
    let three = links (read_data order version total head.vars two.mid) (λ vars end. Ok (record { items = one.value; groups = two.value; vars = vars }, end)) e mid two.second in
    let is = same_read three.second in
    let items = block_spelled order version total size head.marks head.items one.value left one.mid one.first in
    let groups = reads two.value one.mid two.mid two.first in
    let vars = data_spelled order version total head.vars three.value two.mid three.mid three.first in
    let made : IsRead (λ cs. SpellsEntries order version cs head inner size) (block one.value two.value three.value bs) left rest = record {
      front = items.front ++ (groups.front ++ (vars.front ++ more.front));
      joined =
          items.joined
          ∙ ap (λ (xs : List ℕ). items.front ++ xs) (groups.joined ∙ ap (λ (xs : List ℕ). groups.front ++ xs) (vars.joined ∙ ap (λ (xs : List ℕ). vars.front ++ xs) (is.behind ∙ more.joined) ∙ sym (append_assoc vars.front more.front rest)) ∙ sym (append_assoc groups.front (vars.front ++ more.front) rest))
          ∙ sym (append_assoc items.front (groups.front ++ (vars.front ++ more.front)) rest);
      spelled = record {
        front = items.front;
        behind = groups.front ++ (vars.front ++ more.front);
        joined = refl;
        is_front = items.spelled;
        is_behind = record {
          front = groups.front;
          behind = vars.front ++ more.front;
          joined = refl;
          is_front = groups.spelled;
          is_behind = record { front = vars.front; behind = more.front; joined = refl; is_front = vars.spelled; is_behind = more.spelled };
        };
      };
    } in
    let P : Entry → Type 0 = λ x. IsRead (λ cs. SpellsEntries order version cs head inner size) (block x.items x.groups x.vars bs) left rest in
    subst P is.value made

-- entries that were read are as many as were asked for
record AreEntries (order : Order) (version : ℕ) (head : PlanHead) (inner : PlanTree) (size count : ℕ) (bs : BlockList) (left rest : List ℕ) : Type 0 where
  counted : count_of_blocks bs ≡ count
  are : IsRead (λ cs. SpellsEntries order version cs head inner size) bs left rest

entries_spelled : (count : ℕ) (order : Order) (version total : ℕ) (head : PlanHead) (inner : PlanTree) (size : ℕ) (read : List ℕ → Read GroupList) → ReadsGroups order version inner read → (bs : BlockList) (left rest : List ℕ) → repeated count (read_entry order version total head size read) left ≡ Ok (bs, rest) → AreEntries order version head inner size count bs left rest
entries_spelled zero order version total head inner size read reads bs left rest e =
    let is : Same no_blocks bs left rest = same_read e in
    let P : BlockList → Type 0 = λ cs. AreEntries order version head inner size 0 cs left rest in
    subst P is.value (record { counted = refl; are = record { front = []; joined = is.behind; spelled = refl } })
entries_spelled (suc n) order version total head inner size read reads bs left rest e =
    let one = links (read_entry order version total head size read left) (λ x behind. next (repeated n (read_entry order version total head size read) behind) (λ xs end. Ok (block x.items x.groups x.vars xs, end))) bs rest e in
    let two = links (repeated n (read_entry order version total head size read) one.mid) (λ xs end. Ok (block one.value.items one.value.groups one.value.vars xs, end)) bs rest one.second in
    let is = same_read two.second in
    let more = entries_spelled n order version total head inner size read reads two.value one.mid two.mid two.first in
    let all = entry_spelled order version total head inner size read reads one.value two.value left one.mid two.mid one.first more.are in
    let counted = more.counted in
    let made : AreEntries order version head inner size (suc n) (block one.value.items one.value.groups one.value.vars two.value) left two.mid = record { counted = omega (arith, counted); are = all } in
    let P : BlockList → Type 0 = λ cs. AreEntries order version head inner size (suc n) cs left rest in
    let Q : List ℕ → Type 0 = λ end. AreEntries order version head inner size (suc n) (block one.value.items one.value.groups one.value.vars two.value) left end in
    subst P is.value (subst Q is.behind made)

-- a group with entries, in front of others
present_spelled : (order : Order) (version total : ℕ) (head : PlanHead) (inner rest : PlanTree) → IsTrue (is_in version head.since) → ReadsGroups order version inner (read_groups order version total inner) → (bs : BlockList) (gs : GroupList) (left mid end : List ℕ) → read_present order version total head (read_groups order version total inner) left ≡ Ok (bs, mid) → IsRead (λ hs. SpellsGroups order version hs rest) gs mid end → IsRead (λ hs. SpellsGroups order version hs (plan head inner rest)) (entries bs gs) left end
present_spelled order version total head inner rest there reads_inner bs gs left mid end e others =
    let read = read_groups order version total inner in
    let one = links (read_dimension order total head left) (λ d after. repeated d.count (read_entry order version total head d.size read) after) bs mid e in
    let d = one.value in
    let dimension = dimension_spelled order total head d left one.mid one.first in
    let numbers = dimension.spelled in
    let those = entries_spelled d.count order version total head inner d.size read reads_inner bs one.mid mid one.second in
    let bodies = those.are in
    let joined : dimension.front ++ (bodies.front ++ others.front) ≡ numbers.length_bytes ++ (numbers.count_bytes ++ (bodies.front ++ others.front)) =
    ap (λ (xs : List ℕ). xs ++ (bodies.front ++ others.front)) numbers.joined ∙ append_assoc numbers.length_bytes numbers.count_bytes (bodies.front ++ others.front) in
    record {
      front = dimension.front ++ (bodies.front ++ others.front);
      joined =
          dimension.joined
          ∙ ap (λ (xs : List ℕ). dimension.front ++ xs) (bodies.joined ∙ ap (λ (xs : List ℕ). bodies.front ++ xs) others.joined ∙ sym (append_assoc bodies.front others.front end))
          ∙ sym (append_assoc dimension.front (bodies.front ++ others.front) end);
      spelled = (
        there,
        (
          d.size,
          record {
            front = numbers.length_bytes;
            behind = numbers.count_bytes ++ (bodies.front ++ others.front);
            joined = joined;
            is_front = numbers.size;
            is_behind = record {
              front = numbers.count_bytes;
              behind = bodies.front ++ others.front;
              joined = refl;
              is_front = record { whole = numbers.count.whole; number = numbers.count.number ∙ sym those.counted };
              is_behind = record { front = bodies.front; behind = others.front; joined = refl; is_front = bodies.spelled; is_behind = others.spelled };
            };
          },
        ),
      );
    }

group_by : (b : Bool) (order : Order) (version total : ℕ) (head : PlanHead) (inner rest : PlanTree) → is_in version head.since ≡ b → ReadsGroups order version inner (read_groups order version total inner) → (g : Group) (gs : GroupList) (left mid end : List ℕ) → read_group order version total head (read_groups order version total inner) left ≡ Ok (g, mid) → IsRead (λ hs. SpellsGroups order version hs rest) gs mid end → IsRead (λ hs. SpellsGroups order version hs (plan head inner rest)) (group_before g gs) left end
group_by true order version total head inner rest there reads g gs left mid end e others =
    let read : next (read_present order version total head (read_groups order version total inner) left) (λ bs behind. Ok (group.Entries bs, behind)) ≡ Ok (g, mid) = simp there at e in
    let one = links (read_present order version total head (read_groups order version total inner) left) (λ bs behind. Ok (group.Entries bs, behind)) g mid read in
    let is = same_read one.second in
    let P : Group → Type 0 = λ h. IsRead (λ hs. SpellsGroups order version hs (plan head inner rest)) (group_before h gs) left end in
    let behind : IsRead (λ hs. SpellsGroups order version hs rest) gs one.mid end = record { front = others.front; joined = is.behind ∙ others.joined; spelled = others.spelled } in
    subst P is.value (present_spelled order version total head inner rest there reads one.value gs left one.mid end one.first behind)
group_by false order version total head inner rest gone reads g gs left mid end e others =
    let read : Ok (group.Absent, left) ≡ Ok (g, mid) = simp gone at e in
    let is = same_read read in
    let P : Group → Type 0 = λ h. IsRead (λ hs. SpellsGroups order version hs (plan head inner rest)) (group_before h gs) left end in
    let made : IsRead (λ hs. SpellsGroups order version hs (plan head inner rest)) (absent gs) left end = record { front = others.front; joined = is.behind ∙ others.joined; spelled = (rw gone refl, others.spelled) } in
    subst P is.value made

pub groups_spelled : (order : Order) (version total : ℕ) (plans : PlanTree) → ReadsGroups order version plans (read_groups order version total plans)
groups_spelled order version total no_plans gs left rest e =
    let is = same_read e in
    let P : GroupList → Type 0 = λ hs. IsRead (λ ks. SpellsGroups order version ks no_plans) hs left rest in
    subst P is.value (record { front = []; joined = is.behind; spelled = refl })
groups_spelled order version total (plan head inner others) gs left rest e =
    let read = read_group order version total head (read_groups order version total inner) left in
    let one = links read (λ g behind. next (read_groups order version total others behind) (λ hs end. Ok (group_before g hs, end))) gs rest e in
    let two = links (read_groups order version total others one.mid) (λ hs end. Ok (group_before one.value hs, end)) gs rest one.second in
    let is = same_read two.second in
    let more = groups_spelled order version total others two.value one.mid two.mid two.first in
    let P : GroupList → Type 0 = λ hs. IsRead (λ ks. SpellsGroups order version ks (plan head inner others)) hs left rest in
    let Q : List ℕ → Type 0 = λ end. IsRead (λ ks. SpellsGroups order version ks (plan head inner others)) (group_before one.value two.value) left end in
    subst P is.value (subst Q is.behind (group_by (is_in version head.since) order version total head inner others refl (groups_spelled order version total inner) one.value two.value left one.mid two.mid one.first more))

-- a group whose entries and followers are read
present_read : (order : Order) (version total : ℕ) (head : PlanHead) (inner others : PlanTree) (bs : BlockList) (gs : GroupList) (front rest : List ℕ) → IsTrue (is_in version head.since) → (size : ℕ) → (s : Then (IsNumber order head.block_prim size) (Then (IsNumber order head.count_prim (count_of_blocks bs)) (Then (SpellsEntries order version bs head inner size) (SpellsGroups order version gs others))) front) → repeated (count_of_blocks bs) (read_entry order version total head size (read_groups order version total inner)) (s.is_behind.is_behind.front ++ (s.is_behind.is_behind.behind ++ rest)) ≡ Ok (bs, s.is_behind.is_behind.behind ++ rest) → read_groups order version total others (s.is_behind.is_behind.behind ++ rest) ≡ Ok (gs, rest) → read_groups order version total (plan head inner others) (front ++ rest) ≡ Ok (entries bs gs, rest)
present_read order version total head inner others bs gs front rest there size s those followers =
    let counts = s.is_behind in
    let bodies = counts.is_behind in
    let read = read_groups order version total inner in
    let d : Dimension = record { size = size; count = count_of_blocks bs } in
    let bytes : front ++ rest ≡ s.front ++ (counts.front ++ (bodies.front ++ (bodies.behind ++ rest))) =
    ap (λ (xs : List ℕ). xs ++ rest) s.joined
    ∙ append_assoc s.front s.behind rest
    ∙ ap (λ (xs : List ℕ). s.front ++ xs) (ap (λ (xs : List ℕ). xs ++ rest) counts.joined ∙ append_assoc counts.front counts.behind rest
    ∙ ap (λ (xs : List ℕ). counts.front ++ xs) (ap (λ (xs : List ℕ). xs ++ rest) bodies.joined ∙ append_assoc bodies.front bodies.behind rest)) in
    let dimension : read_dimension order total head (front ++ rest) ≡ Ok (d, bodies.front ++ (bodies.behind ++ rest)) =
    ap (λ (xs : List ℕ). read_dimension order total head xs) bytes
    ∙ dimension_read order total head d s.front counts.front (bodies.front ++ (bodies.behind ++ rest)) s.is_front counts.is_front in
    let present : read_present order version total head read (front ++ rest) ≡ Ok (bs, bodies.behind ++ rest) =
    chained (λ d after. repeated d.count (read_entry order version total head d.size read) after) dimension ∙ those in
    let one : read_group order version total head read (front ++ rest) ≡ Ok (group.Entries bs, bodies.behind ++ rest) =
    rw there (chained (λ cs behind. Ok (group.Entries cs, behind)) present) in
    chained (λ g behind. next (read_groups order version total others behind) (λ hs end. Ok (group_before g hs, end))) one
    ∙ chained (λ hs end. Ok (entries bs hs, end)) followers

-- an entry whose groups and followers are read
more_read : (order : Order) (version total : ℕ) (head : PlanHead) (inner : PlanTree) (size : ℕ) (items : List Item) (gs : GroupList) (vars : List Datum) (bs : BlockList) (front rest : List ℕ) → (s : SpellsEntries order version (block items gs vars bs) head inner size front) → read_groups order version total inner (s.is_behind.front ++ (s.is_behind.behind ++ rest)) ≡ Ok (gs, s.is_behind.behind ++ rest) → repeated (count_of_blocks bs) (read_entry order version total head size (read_groups order version total inner)) (s.is_behind.is_behind.behind ++ rest) ≡ Ok (bs, rest) → repeated (count_of_blocks (block items gs vars bs)) (read_entry order version total head size (read_groups order version total inner)) (front ++ rest) ≡ Ok (block items gs vars bs, rest)
more_read order version total head inner size items gs vars bs front rest s inner_read followers =
    let groups = s.is_behind in
    let datums = groups.is_behind in
    let read = read_groups order version total inner in
    let bytes : front ++ rest ≡ s.front ++ (groups.front ++ (groups.behind ++ rest)) =
    ap (λ (xs : List ℕ). xs ++ rest) s.joined
    ∙ append_assoc s.front s.behind rest
    ∙ ap (λ (xs : List ℕ). s.front ++ xs) (ap (λ (xs : List ℕ). xs ++ rest) groups.joined ∙ append_assoc groups.front groups.behind rest) in
    let one : read_block order version total size head.marks head.items (front ++ rest) ≡ Ok (items, groups.front ++ (groups.behind ++ rest)) =
    ap (λ (xs : List ℕ). read_block order version total size head.marks head.items xs) bytes
    ∙ block_read order version total size head.marks head.items items s.front (groups.front ++ (groups.behind ++ rest)) s.is_front in
    let three : read_data order version total head.vars (groups.behind ++ rest) ≡ Ok (vars, datums.behind ++ rest) =
    ap (λ (xs : List ℕ). read_data order version total head.vars xs) (ap (λ (xs : List ℕ). xs ++ rest) datums.joined ∙ append_assoc datums.front datums.behind rest)
    ∙ data_read order version total vars head.vars datums.front (datums.behind ++ rest) datums.is_front in
    let e : Entry = record { items = items; groups = gs; vars = vars } in
    let entry : read_entry order version total head size read (front ++ rest) ≡ Ok (e, datums.behind ++ rest) =
    chained (λ items after. next (read after) (λ groups behind. next (read_data order version total head.vars behind) (λ vars end. Ok (record { items = items; groups = groups; vars = vars }, end)))) one
    ∙ chained (λ groups behind. next (read_data order version total head.vars behind) (λ vars end. Ok (record { items = items; groups = groups; vars = vars }, end))) inner_read
    ∙ chained (λ vars end. Ok (record { items = items; groups = gs; vars = vars }, end)) three in
    let count : count_of_blocks (block items gs vars bs) ≡ suc (count_of_blocks bs) = omega arith in
    rw count (chained (λ x behind. next (repeated (count_of_blocks bs) (read_entry order version total head size read) behind) (λ xs end. Ok (block x.items x.groups x.vars xs, end))) entry
    ∙ chained (λ xs end. Ok (block items gs vars xs, end)) followers)

mutual
  pub groups_read : (gs : GroupList) (order : Order) (version total : ℕ) (plans : PlanTree) (front rest : List ℕ) → SpellsGroups order version gs plans front → read_groups order version total plans (front ++ rest) ≡ Ok (gs, rest)
  groups_read no_groups order version total no_plans front rest s = ap (λ (xs : List ℕ). let r : Read GroupList = Ok (no_groups, xs ++ rest) in r) s
  groups_read no_groups order version total (plan head inner others) front rest s = absurd s
  groups_read (absent gs) order version total no_plans front rest s = absurd s
  groups_read (absent gs) order version total (plan head inner others) front rest s =
      let gone : is_in version head.since ≡ false = let out = s.0 in grind (arith, nat_tests) in
      let one : read_group order version total head (read_groups order version total inner) (front ++ rest) ≡ Ok (group.Absent, front ++ rest) = rw gone refl in
      chained (λ g behind. next (read_groups order version total others behind) (λ hs end. Ok (group_before g hs, end))) one
      ∙ chained (λ hs end. Ok (absent hs, end)) (groups_read gs order version total others front rest s.1)
  groups_read (entries bs gs) order version total no_plans front rest s = absurd s
  groups_read (entries bs gs) order version total (plan head inner others) front rest s =
      present_read order version total head inner others bs gs front rest s.0 s.1.0 s.1.1 (entries_read bs order version total head inner s.1.0 s.1.1.is_behind.is_behind.front (s.1.1.is_behind.is_behind.behind ++ rest) s.1.1.is_behind.is_behind.is_front) (groups_read gs order version total others s.1.1.is_behind.is_behind.behind rest s.1.1.is_behind.is_behind.is_behind)

  pub entries_read : (bs : BlockList) (order : Order) (version total : ℕ) (head : PlanHead) (inner : PlanTree) (size : ℕ) (front rest : List ℕ) → SpellsEntries order version bs head inner size front → repeated (count_of_blocks bs) (read_entry order version total head size (read_groups order version total inner)) (front ++ rest) ≡ Ok (bs, rest)
  entries_read no_blocks order version total head inner size front rest s = ap (λ (xs : List ℕ). let r : Read BlockList = Ok (no_blocks, xs ++ rest) in r) s
  entries_read (block items gs vars bs) order version total head inner size front rest s =
      let groups = s.is_behind in
      let datums = groups.is_behind in
      more_read order version total head inner size items gs vars bs front rest s (groups_read gs order version total inner groups.front (groups.behind ++ rest) groups.is_front) (entries_read bs order version total head inner size datums.behind rest datums.is_behind)
