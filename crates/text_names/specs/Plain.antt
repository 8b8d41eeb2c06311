-- The names of a plan as the text of a schema admits them: letters, digits and `_`, the first no digit, of a composite's member behind a
-- dot; no two elements of a block have one name, and no two values or choices of a type (this project's profile).
use Rattle.std.specs.Prelude.{◌≢◌, ⊤, IsTrue, ℕ, ◌<◌, ◌==◌, ◌&&◌, ◌||◌, nat_le, Bool, true, false, List, [], ◌∷◌}
use Rattle.std.specs.List.{AllByRecursion}
use Rattle.schema_types.specs.declared.types.BitDef.{BitDef}
use Rattle.schema_types.specs.declared.types.ValueDef.{ValueDef}
use Rattle.sbe_layout.specs.declared.items.DataPlan.{DataPlan}
use Rattle.sbe_layout.specs.declared.items.ItemPlan.{ItemPlan}
use Rattle.sbe_layout.specs.declared.listings.Listing.{Listing}
use Rattle.sbe_layout.specs.declared.listings.Listing.TheVariants.{Nothing, Values, Bits}
use Rattle.sbe_layout.specs.declared.plan.MessagePlan.{MessagePlan}
use Rattle.sbe_layout.specs.declared.plan.Plan.{Plan}
use Rattle.sbe_layout.specs.Trees.{PlanHead, PlanTree, no_plans, plan}
use Rattle.text_names.specs.Values.{begins_name}

-- ---- one name

-- a letter, `_`, a digit, a dot (46)
abbrev pub is_name_byte : ℕ → Bool
is_name_byte b = begins_name b || ((nat_le 48 b && nat_le b 57) || b == 46)

abbrev pub are_name_bytes : List ℕ → Bool
are_name_bytes [] = true
are_name_bytes (b ∷ bs) = is_name_byte b && are_name_bytes bs

abbrev pub is_name : List ℕ → Bool
is_name [] = false
is_name (b ∷ bs) = begins_name b && are_name_bytes bs

-- ---- the elements of a block

abbrev pub NamesNoItem : List ℕ → List ItemPlan → Type 0
NamesNoItem name items = AllByRecursion (λ p. p.name ≢ name) items

abbrev pub NamesNoDatum : List ℕ → List DataPlan → Type 0
NamesNoDatum name vars = AllByRecursion (λ d. d.name ≢ name) vars

abbrev pub NamesNoGroup : List ℕ → PlanTree → Type 0
NamesNoGroup name no_plans = ⊤
NamesNoGroup name (plan g inner rest) = (g.name ≢ name) × NamesNoGroup name rest

abbrev pub ItemsApart : List ItemPlan → Type 0
ItemsApart [] = ⊤
ItemsApart (p ∷ ps) = AllByRecursion (λ q. p.name ≢ q.name) ps × ItemsApart ps

pub record HasPlainBlock (items : List ItemPlan) (vars : List DataPlan) : Type 0 where
  pub items_named : AllByRecursion (λ p. IsTrue (is_name p.name)) items
  pub vars_named : AllByRecursion (λ d. IsTrue (is_name d.name)) vars
  pub items_apart : ItemsApart items
  pub vars_apart : AllByRecursion (λ d. NamesNoItem d.name items) vars

-- a group among the elements of a block, the groups behind it in the block being the last argument
pub record IsPlainGroup (items : List ItemPlan) (vars : List DataPlan) (g : PlanHead) (rest : PlanTree) : Type 0 where
  pub named : IsTrue (is_name g.name)
  pub no_item : NamesNoItem g.name items
  pub no_datum : NamesNoDatum g.name vars
  pub apart : NamesNoGroup g.name rest

abbrev pub HavePlainGroups : List ItemPlan → List DataPlan → PlanTree → Type 0
HavePlainGroups items vars no_plans = ⊤
HavePlainGroups items vars (plan g inner rest) =
    IsPlainGroup items vars g rest × (HasPlainBlock g.items g.vars × (HavePlainGroups g.items g.vars inner × HavePlainGroups items vars rest))

pub record HasPlainMessage (m : MessagePlan) : Type 0 where
  pub named : IsTrue (is_name m.name)
  pub block : HasPlainBlock m.root.items m.root.vars
  pub groups : HavePlainGroups m.root.items m.root.vars m.root.groups

-- ---- the values and choices of a type

abbrev pub ValuesApart : List ValueDef → Type 0
ValuesApart [] = ⊤
ValuesApart (v ∷ vs) = AllByRecursion (λ w. v.name ≢ w.name) vs × ValuesApart vs

abbrev pub BitsApart : List BitDef → Type 0
BitsApart [] = ⊤
BitsApart (b ∷ bs) = AllByRecursion (λ c. (b.name ≢ c.name) × (b.bit ≢ c.bit)) bs × BitsApart bs

abbrev pub IsPlainListing : Listing → Type 0
IsPlainListing Nothing = ⊤
IsPlainListing (Values values) = AllByRecursion (λ v. IsTrue (is_name v.name)) values × ValuesApart values
IsPlainListing (Bits bits) = AllByRecursion (λ b. IsTrue (is_name b.name) × (b.bit < 64)) bits × BitsApart bits

pub record HasPlainNames (schema : Plan) : Type 0 where
  pub messages : AllByRecursion HasPlainMessage schema.messages
  pub listings : AllByRecursion IsPlainListing schema.listings
