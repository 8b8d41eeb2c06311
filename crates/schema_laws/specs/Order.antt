-- The order of the walk: types before messages, a table before what lies in it, and all that lies in it before what stands behind it.
use Rattle.std.specs.Prelude.{◌≡◌, ◌⊎◌, ℕ, ◌<◌, List, ◌∷◌, ◌++◌}
use Rattle.sbe_schema.specs.declared.fault.PathStep.{PathStep}
use Rattle.sbe_schema.specs.declared.fault.TableArray.{TableArray}
use Rattle.sbe_schema.specs.declared.fault.TableArray.TheVariants.{Types, Values, Bits, Members, Messages, Fields, Groups, Data}
use Rattle.schema_types.specs.declared.schema.Schema.{Schema}
use Rattle.sbe_schema.specs.Places.{Place}
use Rattle.sbe_schema.specs.Walk.{walk}

-- the lists of a schema in their order: types before messages, fields before groups before data
abbrev pub order_of : TableArray → ℕ
order_of Types = 0
order_of Messages = 1
order_of Values = 2
order_of Bits = 3
order_of Members = 4
order_of Fields = 5
order_of Groups = 6
order_of Data = 7

-- an earlier list, or an earlier number in the same list
abbrev pub IsAhead : PathStep → PathStep → Type 0
IsAhead x y = (order_of x.array < order_of y.array) ⊎ ((x.array ≡ y.array) × (x.at < y.at))

-- the second path goes on from the first: the table there lies in the other
pub record LiesIn (p q : List PathStep) : Type 0 where
  pub next : PathStep
  pub rest : List PathStep
  pub goes_on : q ≡ p ++ next ∷ rest

-- the two go the same way, and then the first by an earlier list or number
pub record Forks (p q : List PathStep) : Type 0 where
  pub base : List PathStep
  pub one : PathStep
  pub other : PathStep
  pub rest : List PathStep
  pub others : List PathStep
  pub first : p ≡ base ++ one ∷ rest
  pub second : q ≡ base ++ other ∷ others
  pub ahead : IsAhead one other

abbrev pub ComesBefore : List PathStep → List PathStep → Type 0
ComesBefore p q = LiesIn p q ⊎ Forks p q

-- Each place of the walk comes before all those behind it
abbrev pub WalkGoesInOrder : Type 0
WalkGoesInOrder = (schema : Schema) (before : List Place) (q : Place) (between : List Place) (p : Place) (after : List Place)
    → walk schema ≡ before ++ q ∷ (between ++ p ∷ after) → ComesBefore q.path_steps p.path_steps
