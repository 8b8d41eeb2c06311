-- What the path of an element names in a message; the places in its brackets are not looked at (this project's profile).
use Rattle.std.specs.Prelude.{ℕ, ◌||◌, Bool, true, false, if◌then◌else◌, Option, Some, None, List, [], ◌∷◌}
use Rattle.std.specs.Str.{bytes_eq}
use Rattle.sbe_layout.specs.declared.blocks.BlockPlan.{BlockPlan}
use Rattle.sbe_layout.specs.declared.items.DataPlan.{DataPlan}
use Rattle.sbe_layout.specs.declared.items.ItemKind.{ItemKind}
use Rattle.sbe_layout.specs.declared.items.ItemPlan.{ItemPlan}
use Rattle.sbe_layout.specs.declared.plan.MessagePlan.{MessagePlan}
use Rattle.sbe_layout.specs.Trees.{PlanTree, no_plans, plan}
use Rattle.sbe_text.specs.Tokens.{also, behind}
use Rattle.text_names.specs.Bare.{cut_at}
use Rattle.text_names.specs.declared.path.Meaning.{Meaning}
use Rattle.text_names.specs.declared.path.Meaning.TheVariants.{Item, Datum, Other}

abbrev pub kind_named : List ItemPlan → List ℕ → Option ItemKind
kind_named [] name = None
kind_named (p ∷ ps) name = if bytes_eq p.name name then Some p.kind else kind_named ps name

abbrev pub has_datum : List DataPlan → List ℕ → Bool
has_datum [] name = false
has_datum (d ∷ ds) name = bytes_eq d.name name || has_datum ds name

abbrev pub item_or_datum : Option ItemKind → Bool → Meaning
item_or_datum (Some kind) is_datum = Item kind
item_or_datum None true = Datum
item_or_datum None false = Other

-- an item or a datum of a block
abbrev pub element_named : List ItemPlan → List DataPlan → List ℕ → Meaning
element_named items vars name = item_or_datum (kind_named items name) (has_datum vars name)

-- what stands behind the place of an entry, its bracket (93) and a dot (46)
abbrev pub behind_place : List ℕ → Option (List ℕ)
behind_place text = also (cut_at 93 text) (λ p. behind (46 ∷ []) p.1)

-- ---- the elements of a block, given what a group's name and what stands behind its bracket (91) name

abbrev pub cut_meaning : List ItemPlan → List DataPlan → (List ℕ → List ℕ → Meaning) → List ℕ → Option (List ℕ × List ℕ) → Meaning
cut_meaning items vars groups path None = element_named items vars path
cut_meaning items vars groups path (Some p) = groups p.0 p.1

abbrev pub path_meaning : List ItemPlan → List DataPlan → (List ℕ → List ℕ → Meaning) → List ℕ → Meaning
path_meaning items vars groups path = cut_meaning items vars groups path (cut_at 91 path)

-- of an entry, where something stands behind its place
abbrev pub entry_meaning : List ItemPlan → List DataPlan → (List ℕ → List ℕ → Meaning) → Option (List ℕ) → Meaning
entry_meaning items vars groups None = Other
entry_meaning items vars groups (Some path) = path_meaning items vars groups path

abbrev pub groups_meaning : PlanTree → List ℕ → List ℕ → Meaning
groups_meaning no_plans name after = Other
groups_meaning (plan g inner rest) name after =
    if bytes_eq g.name name then entry_meaning g.items g.vars (λ n a. groups_meaning inner n a) (behind_place after)
    else groups_meaning rest name after

abbrev pub block_meaning : BlockPlan → List ℕ → Meaning
block_meaning block path = path_meaning block.items block.vars (λ n a. groups_meaning block.groups n a) path

-- of a message, where one was named
abbrev pub meaning_of : Option MessagePlan → List ℕ → Meaning
meaning_of None path = Other
meaning_of (Some m) path = block_meaning m.root path
