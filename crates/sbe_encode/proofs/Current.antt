-- What a legal plan says of the version of its elements and of the order of its items, as a canonical block is read again.
use Rattle.std.specs.Prelude.{◌≤◌, ◌+◌, ℕ, IsTrue, List, [], ◌∷◌, ⊤}
use Rattle.std.specs.List.{AllByRecursion}
use Rattle.sbe_layout.specs.declared.items.ItemPlan.{ItemPlan}
use Rattle.sbe_layout.specs.declared.items.Mark.{Mark}
use Rattle.sbe_layout.specs.declared.items.DataPlan.{DataPlan}
use Rattle.sbe_layout.specs.declared.listings.Listing.{Listing}
use Rattle.sbe_layout.specs.declared.plan.MessagePlan.{MessagePlan}
use Rattle.sbe_layout.specs.Trees.{PlanHead, PlanTree, no_plans, plan}
use Rattle.sbe_layout.specs.Legal.{IsLegalItem, IsLegalDatum, IsLegalGroup, AreLegalGroups, IsLegalMessage, StandInOrder}
use Rattle.sbe_grammar.specs.Values.{is_in}

-- an item came with the version or before it, and begins at an end or behind it
pub record IsNext (version end : ℕ) (p : ItemPlan) : Type 0 where
  pub present : IsTrue (is_in version p.since)
  pub behind : end ≤ p.offset

-- items stand one behind another
abbrev pub AreInOrder : ℕ → ℕ → List ItemPlan → Type 0
AreInOrder version end [] = ⊤
AreInOrder version end (p ∷ ps) = IsNext version end p × AreInOrder version (p.offset + p.size) ps

-- data came with the version or before it
abbrev pub ArePresent : ℕ → List DataPlan → Type 0
ArePresent version ds = AllByRecursion (λ d. IsTrue (is_in version d.since)) ds

pub record IsCurrentGroup (version : ℕ) (head : PlanHead) : Type 0 where
  pub present : IsTrue (is_in version head.since)
  pub items : AreInOrder version 0 head.items
  pub vars : ArePresent version head.vars

abbrev pub AreCurrentGroups : ℕ → PlanTree → Type 0
AreCurrentGroups version no_plans = ⊤
AreCurrentGroups version (plan head inner rest) =
    IsCurrentGroup version head × (AreCurrentGroups version inner × AreCurrentGroups version rest)

pub record IsCurrentMessage (version : ℕ) (layout : MessagePlan) : Type 0 where
  pub items : AreInOrder version 0 layout.root.items
  pub groups : AreCurrentGroups version layout.root.groups
  pub vars : ArePresent version layout.root.vars

in_order : (version : ℕ) (ls : List Listing) (size : ℕ) (marks : List Mark) (end : ℕ) (ps : List ItemPlan) → AllByRecursion (IsLegalItem version ls size marks) ps → StandInOrder end ps → AreInOrder version end ps
in_order version ls size marks end [] legal stands = tt
in_order version ls size marks end (p ∷ ps) legal stands =
    (record { present = legal.0.came; behind = stands.0 }, in_order version ls size marks (p.offset + p.size) ps legal.1 stands.1)

present : (version : ℕ) (ds : List DataPlan) → AllByRecursion (IsLegalDatum version) ds → ArePresent version ds
present version [] legal = tt
present version (d ∷ ds) legal = (legal.0.came, present version ds legal.1)

group_current : (version : ℕ) (ls : List Listing) (g : PlanHead) → IsLegalGroup version ls g → IsCurrentGroup version g
group_current version ls g legal = record {
  present = legal.came;
  items = in_order version ls g.block_length g.marks 0 g.items legal.block.each_item legal.block.in_order;
  vars = present version g.vars legal.block.each_datum;
}

groups_current : (version : ℕ) (ls : List Listing) (t : PlanTree) → AreLegalGroups version ls t → AreCurrentGroups version t
groups_current version ls no_plans legal = tt
groups_current version ls (plan head inner rest) legal =
    (group_current version ls head legal.0, (groups_current version ls inner legal.1.0, groups_current version ls rest legal.1.1))

pub message_current : (version : ℕ) (ls : List Listing) (layout : MessagePlan) → IsLegalMessage version ls layout → IsCurrentMessage version layout
message_current version ls layout legal = record {
  items = in_order version ls layout.root.block_length layout.root.marks 0 layout.root.items legal.block.each_item legal.block.in_order;
  groups = groups_current version ls layout.root.groups legal.groups;
  vars = present version layout.root.vars legal.block.each_datum;
}
