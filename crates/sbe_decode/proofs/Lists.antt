-- The groups, the entries and the data that are read so far, and those that are left.
use Rattle.std.proofs.Common.{◌≡◌, ℕ, zero, suc, ◌+◌, ◌-◌, ◌<◌, ◌≤◌, Ok, Err, List, [], ◌∷◌, ◌++◌, length, drop, get_or, refl, ap, sym, ◌∙◌, arith, add-one, drop-cons, append_assoc}
use Rattle.std.proofs.Math.ListN.{drop_of_length-le}
use Rattle.sbe_prim.specs.declared.Order.{Order}
use Rattle.sbe_value.specs.declared.datum.Datum.{Datum}
use Rattle.sbe_value.specs.declared.tree.Group.{Group}
use Rattle.sbe_value.specs.declared.tree.Group.TheVariants.{Absent, Entries}
use Rattle.sbe_value.specs.declared.tree.Block.{Block}
use Rattle.sbe_value.specs.Trees.{GroupList, BlockList, no_groups, absent, entries, no_blocks, block}
use Rattle.sbe_value.specs.Views.{groups_of, blocks_of}
use Rattle.sbe_layout.specs.declared.items.DataPlan.{DataPlan}
use Rattle.sbe_layout.specs.declared.blocks.GroupPlan.{GroupPlan}
use Rattle.sbe_layout.specs.Trees.{weight_of}
use Rattle.sbe_layout.specs.Views.{head_of, plans_of}
use Rattle.sbe_grammar.specs.declared.fault.DecodeFault.{DecodeFault}
use Rattle.sbe_grammar.specs.Reading.{Read, Entry, read_datum, read_if_in, read_data, read_group, read_groups, group_before, repeated}
use Rattle.sbe_decode.specs.declared.error.DecodeError.{DecodeError}
use Rattle.sbe_decode.specs.Answers.{Fails}
use Rattle.sbe_decode.specs.Walks.{along, behind, entry_of}
use Rattle.sbe_decode.proofs.Steps.{along_step, along_fails, behind_step, behind_fails}

-- the element at a place, and those behind it
at : {A : Type 0} (xs : List A) (i : ℕ) (x : A) → i < length xs → x ≡ get_or xs i x → drop i xs ≡ x ∷ drop (i + 1) xs
at xs i x h e = rw (add-one, drop-cons xs i x) (ap (λ z. z ∷ drop (suc i) xs) (sym e))

-- past the last place nothing is left
none_left : {A : Type 0} (xs : List A) (i : ℕ) → length xs ≤ i → drop i xs ≡ []
none_left xs i h = drop_of_length-le xs h

-- ---- data

-- a datum, where the message's version has it
abbrev pub one_datum : Order → ℕ → ℕ → DataPlan → List ℕ → Read Datum
one_datum order version total d left = read_if_in version d (read_datum order total d left) left

-- the data that are read stand before those that are left
abbrev pub data_before : List Datum → Read (List Datum) → Read (List Datum)
data_before made read = along (λ vs. made ++ vs) read

pub data_step : (order : Order) (version total : ℕ) (made : List Datum) (v : Datum) (ds : List DataPlan) (i : ℕ) (d : DataPlan) (left after : List ℕ) (whole : Read (List Datum)) → i < length ds → d ≡ get_or ds i d → one_datum order version total d left ≡ Ok (v, after) → data_before made (read_data order version total (drop i ds) left) ≡ whole → data_before (made ++ v ∷ []) (read_data order version total (drop (i + 1) ds) after) ≡ whole
data_step order version total made v ds i d left after whole h is e inv =
    along_step (λ vs. made ++ vs) (λ vs. (made ++ v ∷ []) ++ vs) (λ x xs. x ∷ xs) (read_data order version total (drop (i + 1) ds)) (one_datum order version total d left) v after e (λ xs. sym (append_assoc made (v ∷ []) xs))
    ∙ ap (λ z. data_before made (read_data order version total z left)) (sym (at ds i d h is))
    ∙ inv

-- ---- groups

-- a group by its plan
abbrev pub one_group : Order → ℕ → ℕ → GroupPlan → List ℕ → Read Group
one_group order version total p left =
    read_group order version total (head_of p) (read_groups order version total p.block.groups) left

abbrev append_groups : GroupList → GroupList → GroupList
append_groups no_groups hs = hs
append_groups (absent gs) hs = absent (append_groups gs hs)
append_groups (entries bs gs) hs = entries bs (append_groups gs hs)

append_groups-none : (gs : GroupList) → append_groups gs no_groups ≡ gs
append_groups-none no_groups = refl
append_groups-none (absent gs) = ap absent (append_groups-none gs)
append_groups-none (entries bs gs) = ap (entries bs) (append_groups-none gs)

groups_push : (gs : List Group) (g : Group) (hs : GroupList) → append_groups (groups_of gs) (group_before g hs) ≡ append_groups (groups_of (gs ++ g ∷ [])) hs
groups_push [] Absent hs = refl
groups_push [] (Entries bs) hs = refl
groups_push (Absent ∷ gs) g hs = ap absent (groups_push gs g hs)
groups_push (Entries bs ∷ gs) g hs = ap (entries bs) (groups_push gs g hs)

-- the groups that are read stand before those that are left
abbrev pub groups_before : List Group → Read GroupList → Read GroupList
groups_before made read = along (append_groups (groups_of made)) read

pub groups_step : (order : Order) (version total : ℕ) (made : List Group) (g : Group) (ps : List GroupPlan) (i : ℕ) (p : GroupPlan) (left after : List ℕ) (whole : Read GroupList) → i < length ps → p ≡ get_or ps i p → one_group order version total p left ≡ Ok (g, after) → groups_before made (read_groups order version total (plans_of (drop i ps)) left) ≡ whole → groups_before (made ++ g ∷ []) (read_groups order version total (plans_of (drop (i + 1) ps)) after) ≡ whole
groups_step order version total made g ps i p left after whole h is e inv =
    along_step (append_groups (groups_of made)) (append_groups (groups_of (made ++ g ∷ []))) group_before (read_groups order version total (plans_of (drop (i + 1) ps))) (one_group order version total p left) g after e (groups_push made g)
    ∙ ap (λ z. groups_before made (read_groups order version total (plans_of z) left)) (sym (at ps i p h is))
    ∙ inv

pub groups_fail : (order : Order) (version total : ℕ) (made : List Group) (ps : List GroupPlan) (i : ℕ) (p : GroupPlan) (left : List ℕ) (e : DecodeError) (whole : Read GroupList) → i < length ps → p ≡ get_or ps i p → Fails e (one_group order version total p left) → groups_before made (read_groups order version total (plans_of (drop i ps)) left) ≡ whole → Fails e whole
groups_fail order version total made ps i p left e whole h is f inv =
    along_fails (append_groups (groups_of made)) (one_group order version total p left) _ e whole (ap (λ z. groups_before made (read_groups order version total (plans_of z) left)) (sym (at ps i p h is)) ∙ inv) f

pub groups_end : (order : Order) (version total : ℕ) (made : List Group) (ps : List GroupPlan) (i : ℕ) (left : List ℕ) (whole : Read GroupList) → length ps ≤ i → groups_before made (read_groups order version total (plans_of (drop i ps)) left) ≡ whole → whole ≡ Ok (groups_of made, left)
groups_end order version total made ps i left whole h inv =
    sym inv ∙ ap (λ z. groups_before made (read_groups order version total (plans_of z) left)) (none_left ps i h) ∙ ap (λ z. Ok (z, left)) (append_groups-none (groups_of made))

pub groups_walked : (order : Order) (version total : ℕ) (ps : List GroupPlan) (i : ℕ) (p : GroupPlan) (left after : List ℕ) → i < length ps → p ≡ get_or ps i p → behind (one_group order version total p left) ≡ Ok after → behind (read_groups order version total (plans_of (drop (i + 1) ps)) after) ≡ behind (read_groups order version total (plans_of (drop i ps)) left)
groups_walked order version total ps i p left after h is e =
    sym (behind_step group_before (read_groups order version total (plans_of (drop (i + 1) ps))) (one_group order version total p left) after e)
    ∙ ap (λ z. behind (read_groups order version total (plans_of z) left)) (sym (at ps i p h is))

pub groups_walk_fails : (order : Order) (version total : ℕ) (ps : List GroupPlan) (i : ℕ) (p : GroupPlan) (left : List ℕ) (f : DecodeFault) → i < length ps → p ≡ get_or ps i p → behind (one_group order version total p left) ≡ Err f → behind (read_groups order version total (plans_of (drop i ps)) left) ≡ Err f
groups_walk_fails order version total ps i p left f h is e =
    ap (λ z. behind (read_groups order version total (plans_of z) left)) (at ps i p h is) ∙ behind_fails (one_group order version total p left) _ f e

-- a group's entries weigh less than the list that the group stands in
weight_within : (ps : List GroupPlan) (i : ℕ) (p : GroupPlan) (rest : List GroupPlan) → drop i ps ≡ p ∷ rest → weight_of p.block.groups < weight_of (plans_of ps)
weight_within [] zero p rest e = absurd (cc)
weight_within [] (suc i) p rest e = absurd (cc)
weight_within (q ∷ ps) zero p rest e = let same : q ≡ p = cc in rw (← same) (omega arith)
weight_within (q ∷ ps) (suc i) p rest e = omega (arith, weight_within ps i p rest e)

pub weight_at : (ps : List GroupPlan) (i : ℕ) (p : GroupPlan) → i < length ps → p ≡ get_or ps i p → weight_of p.block.groups < weight_of (plans_of ps)
weight_at ps i p h is = weight_within ps i p (drop (i + 1) ps) (at ps i p h is)

-- ---- entries

abbrev append_blocks : BlockList → BlockList → BlockList
append_blocks no_blocks cs = cs
append_blocks (block items gs vars bs) cs = block items gs vars (append_blocks bs cs)

append_blocks-none : (bs : BlockList) → append_blocks bs no_blocks ≡ bs
append_blocks-none no_blocks = refl
append_blocks-none (block items gs vars bs) = ap (block items gs vars) (append_blocks-none bs)

blocks_push : (bs : List Block) (b : Block) (cs : BlockList) → append_blocks (blocks_of bs) (block b.items b.groups b.vars cs) ≡ append_blocks (blocks_of (bs ++ b ∷ [])) cs
blocks_push [] b cs = refl
blocks_push (c ∷ bs) b cs = ap (block c.items c.groups c.vars) (blocks_push bs b cs)

-- the entries that are read stand before those that are left
abbrev pub entries_before : List Block → Read BlockList → Read BlockList
entries_before made read = along (append_blocks (blocks_of made)) read

one_more : (count i : ℕ) → i < count → count - i ≡ suc (count - (i + 1))
one_more count i h = omega arith

pub entries_step : (read : List ℕ → Read Entry) (made : List Block) (b : Block) (count i : ℕ) (left after : List ℕ) (whole : Read BlockList) → i < count → read left ≡ Ok (entry_of b, after) → entries_before made (repeated (count - i) read left) ≡ whole → entries_before (made ++ b ∷ []) (repeated (count - (i + 1)) read after) ≡ whole
entries_step read made b count i left after whole h e inv =
    along_step (append_blocks (blocks_of made)) (append_blocks (blocks_of (made ++ b ∷ []))) (λ x xs. block x.items x.groups x.vars xs) (repeated (count - (i + 1)) read) (read left) (entry_of b) after e (blocks_push made b)
    ∙ ap (λ n. entries_before made (repeated n read left)) (sym (one_more count i h))
    ∙ inv

pub entries_fail : (read : List ℕ → Read Entry) (made : List Block) (count i : ℕ) (left : List ℕ) (e : DecodeError) (whole : Read BlockList) → i < count → Fails e (read left) → entries_before made (repeated (count - i) read left) ≡ whole → Fails e whole
entries_fail read made count i left e whole h f inv =
    along_fails (append_blocks (blocks_of made)) (read left) _ e whole (ap (λ n. entries_before made (repeated n read left)) (sym (one_more count i h)) ∙ inv) f

pub entries_end : (read : List ℕ → Read Entry) (made : List Block) (count i : ℕ) (left : List ℕ) (whole : Read BlockList) → count ≤ i → entries_before made (repeated (count - i) read left) ≡ whole → whole ≡ Ok (blocks_of made, left)
entries_end read made count i left whole h inv =
    let none : count - i ≡ 0 = omega arith in
    sym inv ∙ ap (λ n. entries_before made (repeated n read left)) none ∙ ap (λ z. Ok (z, left)) (append_blocks-none (blocks_of made))

pub entries_walked : (read : List ℕ → Read Entry) (count i : ℕ) (left after : List ℕ) → i < count → behind (read left) ≡ Ok after → behind (repeated (count - (i + 1)) read after) ≡ behind (repeated (count - i) read left)
entries_walked read count i left after h e =
    sym (behind_step (λ x xs. block x.items x.groups x.vars xs) (repeated (count - (i + 1)) read) (read left) after e)
    ∙ ap (λ n. behind (repeated n read left)) (sym (one_more count i h))

pub entries_walk_fails : (read : List ℕ → Read Entry) (count i : ℕ) (left : List ℕ) (f : DecodeFault) → i < count → behind (read left) ≡ Err f → behind (repeated (count - i) read left) ≡ Err f
entries_walk_fails read count i left f h e =
    ap (λ n. behind (repeated n read left)) (one_more count i h) ∙ behind_fails (read left) _ f e
