-- Lists of groups and of blocks, element by element.
use Rattle.std.proofs.Common.{◌≡◌, ◌≢◌, ℕ, suc, ◌+◌, ◌<◌, Bool, true, false, ◌&&◌, List, [], ◌∷◌, length, drop, get_or, refl, sym, ap, ◌∙◌, arith, add-one, drop-cons}
use Rattle.sbe_value.specs.declared.tree.Group.{Group}
use Rattle.sbe_value.specs.declared.tree.Group.TheVariants.{Absent, Entries}
use Rattle.sbe_value.specs.declared.tree.Block.{Block}
use Rattle.sbe_value.specs.Trees.{no_groups, no_blocks, count_of_groups, count_of_blocks}
use Rattle.sbe_value.specs.Views.{groups_of, blocks_of}
use Rattle.sbe_value.specs.Equal.{group_eq, groups_eq, block_eq, blocks_eq}

pub count_of_groups-groups_of : (gs : List Group) → count_of_groups (groups_of gs) ≡ length gs
count_of_groups-groups_of [] = refl
count_of_groups-groups_of (Absent ∷ gs) = omega (arith, count_of_groups-groups_of gs)
count_of_groups-groups_of (Entries bs ∷ gs) = omega (arith, count_of_groups-groups_of gs)

pub count_of_blocks-blocks_of : (bs : List Block) → count_of_blocks (blocks_of bs) ≡ length bs
count_of_blocks-blocks_of [] = refl
count_of_blocks-blocks_of (b ∷ bs) = omega (arith, count_of_blocks-blocks_of bs)

pub no_groups-empty : (gs : List Group) → groups_of gs ≡ no_groups → length gs ≡ 0
no_groups-empty gs e = sym (count_of_groups-groups_of gs) ∙ ap count_of_groups e

pub no_blocks-empty : (bs : List Block) → blocks_of bs ≡ no_blocks → length bs ≡ 0
no_blocks-empty bs e = sym (count_of_blocks-blocks_of bs) ∙ ap count_of_blocks e

pub groups_empty : (gs : List Group) → length gs ≡ 0 → groups_of gs ≡ no_groups
groups_empty [] e = refl
groups_empty (g ∷ gs) e = absurd (omega arith)

pub blocks_empty : (bs : List Block) → length bs ≡ 0 → blocks_of bs ≡ no_blocks
blocks_empty [] e = refl
blocks_empty (b ∷ bs) e = absurd (omega arith)

-- one element and the rest
groups_eq-cons : (x y : Group) (gs hs : List Group) → groups_eq (groups_of (x ∷ gs)) (groups_of (y ∷ hs)) ≡ (group_eq x y && groups_eq (groups_of gs) (groups_of hs))
groups_eq-cons Absent Absent gs hs = refl
groups_eq-cons Absent (Entries cs) gs hs = refl
groups_eq-cons (Entries bs) Absent gs hs = refl
groups_eq-cons (Entries bs) (Entries cs) gs hs = refl

blocks_eq-cons : (x y : Block) (bs cs : List Block) → blocks_eq (blocks_of (x ∷ bs)) (blocks_of (y ∷ cs)) ≡ (block_eq x y && blocks_eq (blocks_of bs) (blocks_of cs))
blocks_eq-cons x y bs cs = refl

-- the elements at one place, and what follows them
pub groups_eq-at : (a b : List Group) (i : ℕ) (x y : Group) → i < length a → i < length b → x ≡ get_or a i x → y ≡ get_or b i y → groups_eq (groups_of (drop i a)) (groups_of (drop i b)) ≡ (group_eq x y && groups_eq (groups_of (drop (i + 1) a)) (groups_of (drop (i + 1) b)))
groups_eq-at a b i x y p q e f =
    let da : drop i a ≡ x ∷ drop (i + 1) a = rw (add-one, drop-cons a i x) (ap (λ z. z ∷ drop (suc i) a) (sym e)) in
    let db : drop i b ≡ y ∷ drop (i + 1) b = rw (add-one, drop-cons b i y) (ap (λ z. z ∷ drop (suc i) b) (sym f)) in
    (λ k. groups_eq (groups_of (da k)) (groups_of (db k))) ∙ groups_eq-cons x y (drop (i + 1) a) (drop (i + 1) b)

pub blocks_eq-at : (a b : List Block) (i : ℕ) (x y : Block) → i < length a → i < length b → x ≡ get_or a i x → y ≡ get_or b i y → blocks_eq (blocks_of (drop i a)) (blocks_of (drop i b)) ≡ (block_eq x y && blocks_eq (blocks_of (drop (i + 1) a)) (blocks_of (drop (i + 1) b)))
blocks_eq-at a b i x y p q e f =
    let da : drop i a ≡ x ∷ drop (i + 1) a = rw (add-one, drop-cons a i x) (ap (λ z. z ∷ drop (suc i) a) (sym e)) in
    let db : drop i b ≡ y ∷ drop (i + 1) b = rw (add-one, drop-cons b i y) (ap (λ z. z ∷ drop (suc i) b) (sym f)) in
    (λ k. blocks_eq (blocks_of (da k)) (blocks_of (db k))) ∙ blocks_eq-cons x y (drop (i + 1) a) (drop (i + 1) b)

-- lists of two lengths are not equal
and_false : (a b : Bool) → b ≡ false → (a && b) ≡ false
and_false true b e = e
and_false false b e = refl

pub groups_eq-lengths : (a b : List Group) → length a ≢ length b → groups_eq (groups_of a) (groups_of b) ≡ false
groups_eq-lengths [] [] n = absurd (n refl)
groups_eq-lengths [] (Absent ∷ hs) n = refl
groups_eq-lengths [] (Entries cs ∷ hs) n = refl
groups_eq-lengths (Absent ∷ gs) [] n = refl
groups_eq-lengths (Entries bs ∷ gs) [] n = refl
groups_eq-lengths (x ∷ gs) (y ∷ hs) n = groups_eq-cons x y gs hs ∙ and_false (group_eq x y) _ (groups_eq-lengths gs hs (λ e. n (omega arith)))

pub blocks_eq-lengths : (a b : List Block) → length a ≢ length b → blocks_eq (blocks_of a) (blocks_of b) ≡ false
blocks_eq-lengths [] [] n = absurd (n refl)
blocks_eq-lengths [] (c ∷ cs) n = refl
blocks_eq-lengths (b ∷ bs) [] n = refl
blocks_eq-lengths (x ∷ bs) (y ∷ cs) n = blocks_eq-cons x y bs cs ∙ and_false (block_eq x y) _ (blocks_eq-lengths bs cs (λ e. n (omega arith)))
