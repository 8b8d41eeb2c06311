-- The items, the data, the groups and the entries that are read so far, and those that are left.
use Rattle.std.proofs.Common.{◌≡◌, ℕ, suc, ◌+◌, ◌-◌, ◌<◌, ◌≤◌, Ok, List, [], ◌∷◌, ◌++◌, length, drop, get_or, refl, ap, sym, ◌∙◌, arith, add-one, drop-cons, append_assoc, append-nil}
use Rattle.std.proofs.Math.ListN.{drop_of_length-le}
use Rattle.sbe_value.specs.declared.tree.Group.{Group}
use Rattle.sbe_value.specs.declared.tree.Group.TheVariants.{Absent, Entries}
use Rattle.sbe_value.specs.declared.tree.Block.{Block}
use Rattle.sbe_value.specs.Trees.{GroupList, BlockList, no_groups, absent, entries, no_blocks, block}
use Rattle.sbe_value.specs.Views.{groups_of, blocks_of}
use Rattle.sbe_layout.specs.declared.blocks.GroupPlan.{GroupPlan}
use Rattle.sbe_layout.specs.Views.{head_of, plans_of}
use Rattle.sbe_grammar.specs.Reading.{Entry, group_before}
use Rattle.sbe_text.specs.declared.error.Refusal.{Refusal}
use Rattle.sbe_text.specs.Read.{Read, read_each}
use Rattle.sbe_text.specs.Reading.{read_group, read_groups, repeated}
use Rattle.sbe_text.specs.Answers.{Fails, entry_of}
use Rattle.sbe_text.proofs.Steps.{along, along_same, along_step, along_fails}

-- the element at a place, and those behind it
at : {A : Type 0} (xs : List A) (i : ℕ) (x : A) → i < length xs → x ≡ get_or xs i x → drop i xs ≡ x ∷ drop (i + 1) xs
at xs i x h e = rw (add-one, drop-cons xs i x) (ap (λ z. z ∷ drop (suc i) xs) (sym e))

-- past the last place nothing is left
none_left : {A : Type 0} (xs : List A) (i : ℕ) → length xs ≤ i → drop i xs ≡ []
none_left xs i h = drop_of_length-le xs h

-- ---- items and data

-- what is read stands before what is left
abbrev pub before : {A : Type 0} → List A → Read (List A) → Read (List A)
before made read = along (λ xs. made ++ xs) read

pub each_start : {A : Type 0} (r : Read (List A)) → before [] r ≡ r
each_start r = along_same (λ xs. xs) (λ xs. refl) r

pub each_step : {P A : Type 0} (one : P → List (List ℕ) → Read A) (made : List A) (x : A) (ps : List P) (i : ℕ) (p : P) (left after : List (List ℕ)) (whole : Read (List A)) → i < length ps → p ≡ get_or ps i p → one p left ≡ Ok (x, after) → before made (read_each one (drop i ps) left) ≡ whole → before (made ++ x ∷ []) (read_each one (drop (i + 1) ps) after) ≡ whole
each_step one made x ps i p left after whole h is e inv =
    along_step (λ xs. made ++ xs) (λ xs. (made ++ x ∷ []) ++ xs) (λ y ys. y ∷ ys) (read_each one (drop (i + 1) ps)) (one p left) x after e (λ xs. sym (append_assoc made (x ∷ []) xs))
    ∙ ap (λ z. before made (read_each one z left)) (sym (at ps i p h is))
    ∙ inv

pub each_fails : {P A : Type 0} (one : P → List (List ℕ) → Read A) (made : List A) (ps : List P) (i : ℕ) (p : P) (left : List (List ℕ)) (e : Refusal) (whole : Read (List A)) → i < length ps → p ≡ get_or ps i p → Fails e (one p left) → before made (read_each one (drop i ps) left) ≡ whole → Fails e whole
each_fails one made ps i p left e whole h is f inv =
    along_fails (λ xs. made ++ xs) (one p left) _ e whole (ap (λ z. before made (read_each one z left)) (sym (at ps i p h is)) ∙ inv) f

pub each_end : {P A : Type 0} (one : P → List (List ℕ) → Read A) (made : List A) (ps : List P) (i : ℕ) (left : List (List ℕ)) (whole : Read (List A)) → length ps ≤ i → before made (read_each one (drop i ps) left) ≡ whole → whole ≡ Ok (made, left)
each_end one made ps i left whole h inv =
    sym inv ∙ ap (λ z. before made (read_each one z left)) (none_left ps i h) ∙ ap (λ z. Ok (z, left)) (append-nil made)

-- ---- groups

-- a group by its plan
abbrev pub one_group : List ℕ → GroupPlan → List (List ℕ) → Read Group
one_group path p left = read_group path (head_of p) (λ inner. read_groups inner p.block.groups) left

abbrev append_groups : GroupList → GroupList → GroupList
append_groups no_groups hs = hs
append_groups (absent gs) hs = absent (append_groups gs hs)
append_groups (entries bs gs) hs = entries bs (append_groups gs hs)

append_groups-none : (gs : GroupList) → append_groups gs no_groups ≡ gs
append_groups-none no_groups = refl
append_groups-none (absent gs) = ap absent (append_groups-none gs)
append_groups-none (entries bs gs) = ap (entries bs) (append_groups-none gs)

groups_push : (gs : List Group) (g : Group) (hs : GroupList) → append_groups (groups_of gs) (group_before g hs) ≡ append_groups (groups_of (gs ++ g ∷ [])) hs
groups_push [] Absent hs = refl
groups_push [] (Entries bs) hs = refl
groups_push (Absent ∷ gs) g hs = ap absent (groups_push gs g hs)
groups_push (Entries bs ∷ gs) g hs = ap (entries bs) (groups_push gs g hs)

-- the groups that are read stand before those that are left
abbrev pub groups_before : List Group → Read GroupList → Read GroupList
groups_before made read = along (append_groups (groups_of made)) read

pub groups_start : (r : Read GroupList) → groups_before [] r ≡ r
groups_start r = along_same (λ gs. gs) (λ gs. refl) r

pub groups_step : (path : List ℕ) (made : List Group) (g : Group) (ps : List GroupPlan) (i : ℕ) (p : GroupPlan) (left after : List (List ℕ)) (whole : Read GroupList) → i < length ps → p ≡ get_or ps i p → one_group path p left ≡ Ok (g, after) → groups_before made (read_groups path (plans_of (drop i ps)) left) ≡ whole → groups_before (made ++ g ∷ []) (read_groups path (plans_of (drop (i + 1) ps)) after) ≡ whole
groups_step path made g ps i p left after whole h is e inv =
    along_step (append_groups (groups_of made)) (append_groups (groups_of (made ++ g ∷ []))) group_before (read_groups path (plans_of (drop (i + 1) ps))) (one_group path p left) g after e (groups_push made g)
    ∙ ap (λ z. groups_before made (read_groups path (plans_of z) left)) (sym (at ps i p h is))
    ∙ inv

pub groups_fail : (path : List ℕ) (made : List Group) (ps : List GroupPlan) (i : ℕ) (p : GroupPlan) (left : List (List ℕ)) (e : Refusal) (whole : Read GroupList) → i < length ps → p ≡ get_or ps i p → Fails e (one_group path p left) → groups_before made (read_groups path (plans_of (drop i ps)) left) ≡ whole → Fails e whole
groups_fail path made ps i p left e whole h is f inv =
    along_fails (append_groups (groups_of made)) (one_group path p left) _ e whole (ap (λ z. groups_before made (read_groups path (plans_of z) left)) (sym (at ps i p h is)) ∙ inv) f

pub groups_end : (path : List ℕ) (made : List Group) (ps : List GroupPlan) (i : ℕ) (left : List (List ℕ)) (whole : Read GroupList) → length ps ≤ i → groups_before made (read_groups path (plans_of (drop i ps)) left) ≡ whole → whole ≡ Ok (groups_of made, left)
groups_end path made ps i left whole h inv =
    sym inv ∙ ap (λ z. groups_before made (read_groups path (plans_of z) left)) (none_left ps i h) ∙ ap (λ z. Ok (z, left)) (append_groups-none (groups_of made))

-- ---- entries

abbrev append_blocks : BlockList → BlockList → BlockList
append_blocks no_blocks cs = cs
append_blocks (block items gs vars bs) cs = block items gs vars (append_blocks bs cs)

append_blocks-none : (bs : BlockList) → append_blocks bs no_blocks ≡ bs
append_blocks-none no_blocks = refl
append_blocks-none (block items gs vars bs) = ap (block items gs vars) (append_blocks-none bs)

blocks_push : (bs : List Block) (b : Block) (cs : BlockList) → append_blocks (blocks_of bs) (block b.items b.groups b.vars cs) ≡ append_blocks (blocks_of (bs ++ b ∷ [])) cs
blocks_push [] b cs = refl
blocks_push (c ∷ bs) b cs = ap (block c.items c.groups c.vars) (blocks_push bs b cs)

-- the entries that are read stand before those that are left
abbrev pub entries_before : List Block → Read BlockList → Read BlockList
entries_before made read = along (append_blocks (blocks_of made)) read

pub entries_start : (r : Read BlockList) → entries_before [] r ≡ r
entries_start r = along_same (λ bs. bs) (λ bs. refl) r

one_more : (count i : ℕ) → i < count → count - i ≡ suc (count - (i + 1))
one_more count i h = omega arith

pub entries_step : (read : ℕ → List (List ℕ) → Read Entry) (made : List Block) (b : Block) (count i : ℕ) (left after : List (List ℕ)) (whole : Read BlockList) → i < count → read i left ≡ Ok (entry_of b, after) → entries_before made (repeated (count - i) i read left) ≡ whole → entries_before (made ++ b ∷ []) (repeated (count - (i + 1)) (i + 1) read after) ≡ whole
entries_step read made b count i left after whole h e inv =
    along_step (append_blocks (blocks_of made)) (append_blocks (blocks_of (made ++ b ∷ []))) (λ x xs. block x.items x.groups x.vars xs) (repeated (count - (i + 1)) (i + 1) read) (read i left) (entry_of b) after e (blocks_push made b)
    ∙ ap (λ n. entries_before made (repeated n i read left)) (sym (one_more count i h))
    ∙ inv

pub entries_fail : (read : ℕ → List (List ℕ) → Read Entry) (made : List Block) (count i : ℕ) (left : List (List ℕ)) (e : Refusal) (whole : Read BlockList) → i < count → Fails e (read i left) → entries_before made (repeated (count - i) i read left) ≡ whole → Fails e whole
entries_fail read made count i left e whole h f inv =
    along_fails (append_blocks (blocks_of made)) (read i left) _ e whole (ap (λ n. entries_before made (repeated n i read left)) (sym (one_more count i h)) ∙ inv) f

pub entries_end : (read : ℕ → List (List ℕ) → Read Entry) (made : List Block) (count i : ℕ) (left : List (List ℕ)) (whole : Read BlockList) → count ≤ i → entries_before made (repeated (count - i) i read left) ≡ whole → whole ≡ Ok (blocks_of made, left)
entries_end read made count i left whole h inv =
    let none : count - i ≡ 0 = omega arith in
    sym inv ∙ ap (λ n. entries_before made (repeated n i read left)) none ∙ ap (λ z. Ok (z, left)) (append_blocks-none (blocks_of made))
