-- The layout of messages as lines of text (this project's profile).
use Rattle.std.specs.Prelude.{ℕ, List, [], ◌∷◌, ◌++◌, codes, decimal}
use Rattle.sbe_layout.specs.declared.items.ItemPlan.{ItemPlan}
use Rattle.sbe_layout.specs.declared.items.DataPlan.{DataPlan}
use Rattle.sbe_layout.specs.declared.plan.MessagePlan.{MessagePlan}
use Rattle.sbe_layout.specs.Trees.{PlanHead, PlanTree, no_plans, plan}

-- a number behind a space (32)
abbrev pub spaced : ℕ → List ℕ
spaced n = 32 ∷ decimal n

-- ---- the line of an element; `before` stands before its name, and a line feed (10) ends it

-- a field, or a member of a composite: its offset and its size in bytes
abbrev pub item_line : List ℕ → ItemPlan → List ℕ
item_line before i = before ++ i.name ++ spaced i.offset ++ spaced i.size ++ 10 ∷ []

-- a group: the length of its entries' block in bytes
abbrev pub group_line : List ℕ → PlanHead → List ℕ
group_line before g = before ++ g.name ++ codes " group" ++ spaced g.block_length ++ 10 ∷ []

abbrev pub data_line : List ℕ → DataPlan → List ℕ
data_line before d = before ++ d.name ++ codes " data" ++ 10 ∷ []

-- what stands before the names in a group: the group's path and a dot (46)
abbrev pub before_in : List ℕ → PlanHead → List ℕ
before_in before g = before ++ g.name ++ 46 ∷ []

-- ---- the elements of a block: its items, its groups, its data

abbrev pub lines_of_items : List ℕ → List ItemPlan → List ℕ
lines_of_items before [] = []
lines_of_items before (i ∷ is) = item_line before i ++ lines_of_items before is

abbrev pub lines_of_data : List ℕ → List DataPlan → List ℕ
lines_of_data before [] = []
lines_of_data before (d ∷ ds) = data_line before d ++ lines_of_data before ds

-- each group's line, then the elements of its entries
abbrev pub lines_of_groups : List ℕ → PlanTree → List ℕ
lines_of_groups before no_plans = []
lines_of_groups before (plan g inner rest) =
    group_line before g ++ lines_of_items (before_in before g) g.items ++ lines_of_groups (before_in before g) inner
    ++ lines_of_data (before_in before g) g.vars ++ lines_of_groups before rest

-- ---- messages

-- the message's name, the id of its template, and the length of its root block in bytes
abbrev pub message_line : MessagePlan → List ℕ
message_line m = codes "message " ++ m.name ++ spaced m.template ++ spaced m.root.block_length ++ 10 ∷ []

-- nothing stands before the names in the root block
abbrev pub lines_of_message : MessagePlan → List ℕ
lines_of_message m =
    message_line m ++ lines_of_items [] m.root.items ++ lines_of_groups [] m.root.groups ++ lines_of_data [] m.root.vars

-- one message after another
abbrev pub lines_of_messages : List MessagePlan → List ℕ
lines_of_messages [] = []
lines_of_messages (m ∷ ms) = lines_of_message m ++ lines_of_messages ms
