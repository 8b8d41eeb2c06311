-- One more group, type or message of a walk.
use Rattle.std.proofs.Common.{◌≡◌, ℕ, suc, ◌+◌, ◌<◌, ◌∙◌, sym, ap, ℤ, pos, Option, List, ◌∷◌, length, drop, get_or, add-one, drop-cons}
use Rattle.std.specs.Int.{int_max}
use Rattle.std.specs.FinSet as set
use Rattle.sbe_schema.specs.declared.fault.PathStep.{PathStep}
use Rattle.sbe_schema.specs.declared.fault.SchemaFault.{SchemaFault}
use Rattle.sbe_schema.specs.declared.parent.Parent.{Parent}
use Rattle.schema_types.specs.declared.schema.Schema.{Schema}
use Rattle.schema_types.specs.declared.groups.GroupDef.{GroupDef}
use Rattle.schema_types.specs.declared.messages.MessageDef.{MessageDef}
use Rattle.schema_types.specs.declared.types.TypeDef.{TypeDef}
use Rattle.sbe_schema.specs.Names.{Names, Numbers}
use Rattle.schema_types.specs.Views.{groups_of}
use Rattle.sbe_schema.specs.Walk.{walk_groups, walk_group, walk_type, walk_types, walk_message, walk_messages, ids_of_block}
use Rattle.sbe_schema.specs.Search.{folded}
use Rattle.sbe_schema.proofs.Fold.{folded_append}

pub front_at : {A : Type 0} (xs : List A) (i : ℕ) (x : A) → i < length xs → x ≡ get_or xs i x → drop i xs ≡ x ∷ drop (i + 1) xs
front_at xs i x h e = rw (add-one, drop-cons xs i x) (ap (λ z. z ∷ drop (suc i) xs) (sym e))

pub groups_step : (s : Schema) (types : List TypeDef) (base base' : List PathStep) (parent : Parent) (names names' : Names) (ids ids' : Numbers) (least_since least_since' : ℤ) (at : ℕ) (g : GroupDef) (rest : List GroupDef) (old new target : Option SchemaFault) → base' ≡ base → names' ≡ set.insert names g.name → ids' ≡ ids_of_block (set.insert ids (pos g.id)) g.fields g.groups g.vars → least_since' ≡ int_max least_since g.since → new ≡ folded s old (walk_group types base parent names ids least_since at g) → folded s old (walk_groups types base parent names ids least_since at (groups_of (g ∷ rest))) ≡ target → folded s new (walk_groups types base' parent names' ids' least_since' (at + 1) (groups_of rest)) ≡ target
groups_step s types base base' parent names names' ids ids' least_since least_since' at g rest old new target b n d f w e =
    (λ i. folded s (w i) (walk_groups types (b i) parent (n i) (d i) (f i) (at + 1) (groups_of rest)))
    ∙ sym (folded_append s old (walk_group types base parent names ids least_since at g) _)
    ∙ e

pub types_step : (s : Schema) (types : List TypeDef) (names names' : Names) (at : ℕ) (t : TypeDef) (rest : List TypeDef) (old new target : Option SchemaFault) → names' ≡ set.insert names t.name → new ≡ folded s old (walk_type types names at t) → folded s old (walk_types types names at (t ∷ rest)) ≡ target → folded s new (walk_types types names' (at + 1) rest) ≡ target
types_step s types names names' at t rest old new target n w e =
    (λ i. folded s (w i) (walk_types types (n i) (at + 1) rest)) ∙ sym (folded_append s old (walk_type types names at t) _) ∙ e

pub messages_step : (s : Schema) (types : List TypeDef) (names names' : Names) (ids ids' : Numbers) (at : ℕ) (m : MessageDef) (rest : List MessageDef) (old new target : Option SchemaFault) → names' ≡ set.insert names m.name → ids' ≡ set.insert ids (pos m.id) → new ≡ folded s old (walk_message types names ids at m) → folded s old (walk_messages types names ids at (m ∷ rest)) ≡ target → folded s new (walk_messages types names' ids' (at + 1) rest) ≡ target
messages_step s types names names' ids ids' at m rest old new target n d w e =
    (λ i. folded s (w i) (walk_messages types (n i) (d i) (at + 1) rest)) ∙ sym (folded_append s old (walk_message types names ids at m) _) ∙ e
