-- The groups of a block and the entries of a group, as lists that hold one another (SBE 1.0, "Repeating groups").
use Rattle.std.specs.Prelude.{◌≡◌, ℕ, ◌+◌, List, refl}
use Rattle.std.specs.Coded.{Coded, coded_list}
use base.Stored.{Gv, gnil, gnum, gcons}
use Rattle.std.proofs.Common.{ap, sym, subst}
use Rattle.sbe_value.specs.declared.item.Item.{Item}
use Rattle.sbe_value.specs.declared.datum.Datum.{Datum}
use Rattle.sbe_value.specs.contracts.item.Item as item
use Rattle.sbe_value.specs.contracts.datum.Datum as datum

mutual
  -- a block's groups, in order: each is absent or has entries
  pub data GroupList : Type 0 where
    no_groups : GroupList
    absent : GroupList → GroupList
    entries : BlockList → GroupList → GroupList

  -- a group's entries, in order: each has items, groups and data
  pub data BlockList : Type 0 where
    no_blocks : BlockList
    block : List Item → GroupList → List Datum → BlockList → BlockList

-- how many groups and entries there are at every depth
abbrev mutual
  pub weight_of_groups : GroupList → ℕ
  weight_of_groups no_groups = 0
  weight_of_groups (absent gs) = 1 + weight_of_groups gs
  weight_of_groups (entries bs gs) = 1 + weight_of_blocks bs + weight_of_groups gs

  pub weight_of_blocks : BlockList → ℕ
  weight_of_blocks no_blocks = 0
  weight_of_blocks (block items gs vars bs) = 1 + weight_of_groups gs + weight_of_blocks bs

-- how many there are in the list itself
abbrev pub count_of_groups : GroupList → ℕ
count_of_groups no_groups = 0
count_of_groups (absent gs) = 1 + count_of_groups gs
count_of_groups (entries bs gs) = 1 + count_of_groups gs

abbrev pub count_of_blocks : BlockList → ℕ
count_of_blocks no_blocks = 0
count_of_blocks (block items gs vars bs) = 1 + count_of_blocks bs

-- ---- how the logic stores them: a tree of numbers that gives them back

abbrev items_code : Coded (List Item)
items_code = coded_list item.the_row.coded

abbrev vars_code : Coded (List Datum)
vars_code = coded_list datum.the_row.coded

abbrev mutual
  pub code_of_groups : GroupList → Gv
  code_of_groups no_groups = gnil
  code_of_groups (absent gs) = gcons gnil (code_of_groups gs)
  code_of_groups (entries bs gs) = gcons (gcons (code_of_blocks bs) gnil) (code_of_groups gs)

  pub code_of_blocks : BlockList → Gv
  code_of_blocks no_blocks = gnil
  code_of_blocks (block items gs vars bs) =
      gcons (gcons (items_code.code items) (gcons (code_of_groups gs) (vars_code.code vars))) (code_of_blocks bs)

abbrev first : Gv → Gv
first gnil = gnil
first (gnum n) = gnil
first (gcons a b) = a

abbrev second : Gv → Gv
second gnil = gnil
second (gnum n) = gnil
second (gcons a b) = b

abbrev IsPair : Gv → Type 0
IsPair gnil = ⊥
IsPair (gnum n) = ⊥
IsPair (gcons a b) = Unit {0}

mutual
  pub groups_from_code : (x y : GroupList) → code_of_groups x ≡ code_of_groups y → x ≡ y
  groups_from_code no_groups no_groups p = refl
  groups_from_code no_groups (absent gs) p = absurd (subst IsPair (sym p) tt)
  groups_from_code no_groups (entries bs gs) p = absurd (subst IsPair (sym p) tt)
  groups_from_code (absent gs) no_groups p = absurd (subst IsPair p tt)
  groups_from_code (absent gs) (absent hs) p = ap absent (groups_from_code gs hs (ap second p))
  groups_from_code (absent gs) (entries cs hs) p = absurd (subst (λ g. IsPair (first g)) (sym p) tt)
  groups_from_code (entries bs gs) no_groups p = absurd (subst IsPair p tt)
  groups_from_code (entries bs gs) (absent hs) p = absurd (subst (λ g. IsPair (first g)) p tt)
  groups_from_code (entries bs gs) (entries cs hs) p =
      λ i. entries (blocks_from_code bs cs (ap (λ g. first (first g)) p) i) (groups_from_code gs hs (ap second p) i)

  pub blocks_from_code : (x y : BlockList) → code_of_blocks x ≡ code_of_blocks y → x ≡ y
  blocks_from_code no_blocks no_blocks p = refl
  blocks_from_code no_blocks (block js hs ws cs) p = absurd (subst IsPair (sym p) tt)
  blocks_from_code (block items gs vars bs) no_blocks p = absurd (subst IsPair p tt)
  blocks_from_code (block items gs vars bs) (block js hs ws cs) p =
      λ i. block (items_code.inj items js (ap (λ g. first (first g)) p) i) (groups_from_code gs hs (ap (λ g. first (second (first g))) p) i)
      (vars_code.inj vars ws (ap (λ g. second (second (first g))) p) i) (blocks_from_code bs cs (ap second p) i)

abbrev pub coded_groups : Coded GroupList
coded_groups = record { code = code_of_groups; inj = groups_from_code }

abbrev pub coded_blocks : Coded BlockList
coded_blocks = record { code = code_of_blocks; inj = blocks_from_code }
